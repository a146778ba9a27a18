-- Contents stay right after a change.
use Rattle.std.proofs.Common.{◌≡◌, ◌≢◌, ℕ, Bool, true, false, List, ◌∷◌, length, Some, arith, refl, sym, ap, ◌∙◌, subst, inl, inr, ◌⊎◌}
use Rattle.std.proofs.lemmas.Bool.{cond-true, cond-false}
use Rattle.std.specs.FinMap.{get}
use Rattle.tree_model.specs.Rows.{Content}
use Rattle.clear_tree.specs.Walk.{Path, same_path, Sealing, Node, File, Dir}
use Rattle.clear_tree.specs.Rows.{content_in}
use Rattle.clear_tree.specs.Kept.{what_of, content_of}
use Rattle.clear_tree.proofs.Paths.{path_cases, same_path-apart, same_path-itself}
use Rattle.tree_deed_laws.specs.Trees.{Tree, with_node, swapped}
use Rattle.tree_deed_laws.specs.Deeds.{place_of}
use Rattle.tree_deed_laws.proofs.Maps.{get_with}
use Rattle.live_tree.specs.Held.{HeldNode, HeldTree, IsNamed, IsFree, IsChildless, IsDirectory, IsTree}
use Rattle.live_tree.specs.Changes.{new_node, appended, changed, edited, renamed_node, sized_node, dated, dated_node, AgreeBut}
use Rattle.live_tree.proofs.Held.{still_named}
use Rattle.live_tree_laws.specs.Holds.{IsAt, Holds, AreHeldContents}
use Rattle.live_tree_laws.specs.Writing.{with_file}
use Rattle.live_tree_laws.specs.Contents.{MakingKeepsContents, RemovingKeepsContents, RenamingKeepsContents, WritingKeepsContents, DatingKeepsContents}
use Rattle.live_tree_laws.proofs.Paths as paths
use Rattle.live_tree_laws.proofs.HeldTrees as trees
use Rattle.live_tree_laws.proofs.Keeping.{one_node, leads_on, changed_forth, changed_back, holds_changed}
use Rattle.live_tree_laws.proofs.Making.{is_directory}
use Rattle.live_tree_laws.proofs.Removing as removing
use Rattle.live_tree_laws.proofs.Renaming as renaming
use Rattle.live_tree_laws.proofs.Writing as writing
use Rattle.live_tree_laws.proofs.Numbers.{at_held}

-- paths lead to the same numbers before one changed
unchanged : (live : HeldTree) → IsTree live → (k now : ℕ) (q : Path) (x : ℕ) → IsAt (changed live k now) q x → IsAt live q x
unchanged live is k now = leads_on (changed live k now) live (changed_back live is k now)

-- ---- one made

module _ (s : Sealing) (tree : Tree) (live : HeldTree) (p : Path) (parent : ℕ) (i n : List ℕ) (x : Node) (long : Bool) (now : ℕ) (contents contents' : ℕ → Content)
    (holds : Holds s tree live) (at_p : IsAt live p parent) (dir_at : get tree.nodes p ≡ Some (Dir i)) (free : IsFree live parent n)
    (are : AreHeldContents s tree live contents) (agree : AgreeBut live.next contents contents') (its : content_of (what_of s x) (contents' live.next) ≡ content_in s x) where
  abbrev new : HeldNode
  new = new_node parent n (what_of s x) (place_of s i n long).entry long now

  ok : IsTree live
  ok = holds.is_tree

  up : IsDirectory live parent
  up = is_directory s tree live p parent i holds at_p dir_at

  apart : parent ≢ live.next
  apart e = let low = trees.parent_below live ok new up free refl in omega (arith, low, e)

  back : (q : Path) (y : ℕ) → IsAt (appended live new) q y → (IsAt live q y × (n ∷ p ≢ q)) ⊎ ((n ∷ p ≡ q) × (y ≡ live.next))
  back = paths.more_back live ok (appended live new) p parent live.next n at_p free (still_named live new ok.numbers) (trees.more_back live ok new up free refl)
      (trees.next_none live ok new up free refl) apart (trees.more_named live ok new up free refl)

  old_number : (q : Path) (y : ℕ) → IsAt live q y → y ≢ live.next
  old_number q y at e =
      let held = at_held live ok q y at in
      let low = ok.numbers y held.0 held.1 in
      omega (arith, low, e)

  here : get (with_node tree (n ∷ p) x long).nodes (n ∷ p) ≡ Some x
  here = get_with tree.nodes (n ∷ p) x (n ∷ p) ∙ cond-true (same_path (n ∷ p) (n ∷ p)) _ _ (same_path-itself (n ∷ p))

  other : (q : Path) → n ∷ p ≢ q → get (with_node tree (n ∷ p) x long).nodes q ≡ get tree.nodes q
  other q ne = get_with tree.nodes (n ∷ p) x q ∙ cond-false (same_path (n ∷ p) q) _ _ (same_path-apart (n ∷ p) q ne)

  pub made_contents : AreHeldContents s (with_node tree (n ∷ p) x long) (changed (appended live new) parent now) contents'
  made_contents q y z at stands = go (back q y (unchanged (appended live new) (trees.tree_more live ok new up free refl) parent now q y at))
    where
      go : (IsAt live q y × (n ∷ p ≢ q)) ⊎ ((n ∷ p ≡ q) × (y ≡ live.next)) → content_of (what_of s z) (contents' y) ≡ content_in s z
      go (inl was) = ap (content_of (what_of s z)) (agree y (old_number q y was.0)) ∙ are q y z was.0 (sym (other q was.1) ∙ stands)
      go (inr e) =
          let same : x ≡ z = one_node (with_node tree (n ∷ p) x long) (n ∷ p) x z here (ap (get (with_node tree (n ∷ p) x long).nodes) e.0 ∙ stands) in
          subst (λ (w : Node). content_of (what_of s w) (contents' y) ≡ content_in s w) same (ap (λ (k : ℕ). content_of (what_of s x) (contents' k)) e.1 ∙ its)

pub making_keeps_contents : MakingKeepsContents
making_keeps_contents s tree live p parent i n x long now contents contents' holds at_p dir_at free are agree its =
    made_contents s tree live p parent i n x long now contents contents' holds at_p dir_at free are agree its

-- ---- one removed

pub removing_keeps_contents : RemovingKeepsContents
removing_keeps_contents s tree live p parent number n now contents holds at_p named childless are q x z at stands =
    let old : IsAt (changed live parent now) q x = (removing.from s tree (changed live parent now) p parent number n (holds_changed s tree live parent now holds)
    (leads_on live (changed live parent now) (changed_forth live holds.is_tree parent now) p parent at_p) (changed_forth live holds.is_tree parent now parent n number named) none q x at).0 in
    are q x z (unchanged live holds.is_tree parent now q x old)
    (removing.was_there s tree (changed live parent now) p parent number n (holds_changed s tree live parent now holds)
    (leads_on live (changed live parent now) (changed_forth live holds.is_tree parent now) p parent at_p) (changed_forth live holds.is_tree parent now parent n number named) none q z stands).0
  where
    none : IsChildless (changed live parent now) number
    none y held child =
        let was = changed_back live holds.is_tree parent now number held.kept.name y (record { node = held; child = child; named = refl }) in
        childless y was.node was.child

-- ---- one renamed

pub renaming_keeps_contents : RenamingKeepsContents
renaming_keeps_contents s tree live p parent number i n k long now contents holds at_p dir_at named free are q x z at stands =
    are (swapped (n ∷ p) (k ∷ p) q) x z
    (renaming.back s tree live p parent number i n k long apart holds at_p dir_at named free q x
    (unchanged (edited live number (renamed_node k (place_of s i k long).entry long)) (trees.tree_after live holds.is_tree number parent n k (place_of s i k long).entry long named free) parent now q x at))
    (sym (renaming.moved s tree live p parent number i n k long apart holds at_p dir_at named free q) ∙ stands)
  where
    apart : n ≢ k
    apart e = free number (subst (λ (w : List ℕ). IsNamed live parent w number) e named)

-- ---- one written, and one dated

module _ (s : Sealing) (tree : Tree) (live : HeldTree) (p : Path) (number : ℕ) (old bytes : List ℕ) (now : ℕ) (contents contents' : ℕ → Content) (holds : Holds s tree live) (at_p : IsAt live p number)
    (there : get tree.nodes p ≡ Some (File old)) (are : AreHeldContents s tree live contents) (agree : AgreeBut number contents contents') (its : contents' number ≡ s.content bytes) where
  pub written_contents : AreHeldContents s (with_file tree p bytes) (changed (edited live number (sized_node (length bytes))) number now) contents'
  written_contents q x z at stands =
      go (path_cases p q)
      (writing.from s tree live p number old bytes holds at_p there q x
      (unchanged (edited live number (sized_node (length bytes))) (writing.is_tree s tree live p number old bytes holds at_p there) number now q x at))
    where
      go : ((same_path p q ≡ true) × (p ≡ q)) ⊎ ((same_path p q ≡ false) × (p ≢ q)) → IsAt live q x → content_of (what_of s z) (contents' x) ≡ content_in s z
      go (inl e) was =
          let same : x ≡ number = paths.one_number live holds.is_tree p x number (subst (λ (w : Path). IsAt live w x) (sym e.1) was) at_p in
          let node : File bytes ≡ z = one_node (with_file tree p bytes) p (File bytes) z (writing.here s tree live p number old bytes holds at_p there) (ap (get (with_file tree p bytes).nodes) e.1 ∙ stands) in
          subst (λ (w : Node). content_of (what_of s w) (contents' x) ≡ content_in s w) node (ap contents' same ∙ its)
      go (inr e) was =
          let other : x ≢ number = (λ h. e.1 (paths.one_path live holds.is_tree p q number at_p (subst (λ (y : ℕ). IsAt live q y) h was))) in
          ap (content_of (what_of s z)) (agree x other) ∙ are q x z was (sym (writing.other s tree live p number old bytes holds at_p there q e.1) ∙ stands)

pub writing_keeps_contents : WritingKeepsContents
writing_keeps_contents s tree live p number old bytes now contents contents' holds at_p there are agree its =
    written_contents s tree live p number old bytes now contents contents' holds at_p there are agree its

pub dating_keeps_contents : DatingKeepsContents
dating_keeps_contents s tree live number modified contents holds are q x z at stands =
    are q x z
    (leads_on (dated live number modified) live
    (trees.edited_back live holds.is_tree number (dated_node modified) (λ n there. record { parent = refl; folder = refl }) (λ n there. refl) (λ n there. holds.is_tree.versions number n there)) q x at)
    stands
