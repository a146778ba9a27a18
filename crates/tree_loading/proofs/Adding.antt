-- The nodes of one directory are put after the others, one by one.
use Rattle.std.proofs.Common.{◌≡◌, ℕ, suc, ◌+◌, ◌-◌, ◌<◌, ◌≤◌, Bool, true, List, [], ◌∷◌, ◌++◌, append_assoc, append-nil, length, length-append, Option, Some, None, IsSome, Contains, refl, sym, ap, ◌∙◌, subst, inl, inr, ◌⊎◌, arith, slice_get, leb, leb-true}
use Rattle.std.specs.declared.cmp.Ordering.{Ordering}
use Rattle.std.specs.declared.cmp.Ordering.TheVariants.{Less}
use Rattle.std.specs.List.{AllByRecursion}
use Rattle.std.specs.List.Sorted.{IsStrictlySortedBy}
use Rattle.std.specs.Option.{option_and_then}
use Rattle.std.specs.Ordering.{nat_cmp, ordering_then}
use Rattle.std.specs.Cmp.{nat_cmp_is}
use Rattle.std.specs.Cmp.Lexicographic.{slice_cmp}
use Rattle.std.proofs.lemmas.Bool.{and_parts}
use Rattle.std.proofs.lemmas.Cmp.{tied_itself, nat_cmp_total}
use Rattle.std.proofs.lemmas.List.{map-append}
use Rattle.std.proofs.lemmas.List.Elements.{Contains-push, Contains-append_left}
use Rattle.std.proofs.lemmas.Map.Keys.{sorted_head, sorted_tail}
use Rattle.std.proofs.lemmas.Option.{slice_get_within}
use Rattle.outside.specs.Disk.{Disk}
use Rattle.outside.specs.Calls.{Told}
use Rattle.outside.proofs.Told.{told_both}
use Rattle.vault_keys.specs.Keys.{KeyPair}
use Rattle.clear_tree.specs.Walk.{Dir}
use Rattle.clear_tree.specs.Places.{folders_of}
use Rattle.clear_tree.specs.Kept.{KeptNode, KeptTree, folder_in, node_of}
use Rattle.clear_tree.specs.Built.{place_cmp, place_of}
use Rattle.clear_tree.specs.Scan.{Found, IsFound, names_of}
use Rattle.clear_tree.specs.Loading.{AreAdded, KeepsIdentifiers, with_found, with_claims}
use Rattle.clear_tree.proofs.Places.{get_left, get_last, get_cases}
use Rattle.clear_tree.proofs.Turns.{added_none, added_more}
use Rattle.tree_loading.specs.declared.found.FoundNode.{FoundNode}
use Rattle.tree_loading.specs.Format.{sealing_of}
use Rattle.tree_loading.specs.Scanned.{found_of, all_found}
use Rattle.tree_loading.specs.declared.nodes.Loading.{Loading}
use Rattle.tree_loading.specs.Under.{is_claimed, HasOwnFolder, HaveOwnFolders, IsBehindLast, EndsBefore, IsDirectoryAt}
use Rattle.tree_loading.specs.Added.{AddsNode, AddsAll, Pushes}

-- an identifier has at most 1,000 bytes
pub keeps_identifiers : (keys : KeyPair) → KeepsIdentifiers (sealing_of keys)
keeps_identifiers keys text valid =
    let most : leb (length text) 1000 ≡ true = (and_parts _ _ (and_parts _ _ valid).0).1 in
    let few : length text ≤ 1000 = leb-true (length text) 1000 most in
    omega (arith, few)

module _ (keys : KeyPair) (old new : KeptTree) (parent : ℕ) (name : List ℕ) (push : Pushes keys old new parent name) where
  pub longer : length new.nodes ≡ suc (length old.nodes)
  longer = let a : length (old.nodes ++ push.node ∷ []) ≡ length old.nodes + 1 = length-append old.nodes (push.node ∷ []) in ap (λ (n : List KeptNode). length n) push.behind ∙ a ∙ (let e : length old.nodes + 1 ≡ suc (length old.nodes) = omega arith in e)

  last_is : (last : KeptNode) → node_of new (length new.nodes - 1) ≡ Some last → last ≡ push.node
  last_is last h =
      let n : length new.nodes - 1 ≡ length old.nodes = (let l : length new.nodes ≡ suc (length old.nodes) = longer in omega (arith, l)) in
      let at : node_of new (length old.nodes) ≡ Some push.node = ap (λ (n : List KeptNode). slice_get n (length old.nodes)) push.behind ∙ get_last old.nodes push.node in
      let both : ◌≡◌ {A = Option KeptNode} (Some last) (Some push.node) = sym h ∙ ap (node_of new) n ∙ at in
      cc

  -- a name after this one follows the last node now
  pub pushed_behind : (next : List ℕ) → slice_cmp nat_cmp name next ≡ Less → IsBehindLast new parent next
  pushed_behind next less last h below =
      let is : last ≡ push.node = last_is last h in
      ap (λ (n : KeptNode). place_cmp (place_of n) (parent, next)) is
      ∙ (λ i. ordering_then (nat_cmp (push.inside i) parent) (slice_cmp nat_cmp (push.named i) next))
      ∙ ap (λ (o : Ordering). ordering_then o (slice_cmp nat_cmp name next)) (tied_itself nat_cmp_total parent)
      ∙ less

  pub pushed_before : EndsBefore new (parent + 1)
  pushed_before last h below =
      let is : last.parent ≡ parent = ap (λ (n : KeptNode). n.parent) (last_is last h) ∙ push.inside in
      omega (arith, is)

  pub pushed_folders : HaveOwnFolders keys old → HaveOwnFolders keys new
  pushed_folders have k node h = go (get_cases old.nodes push.node k node (ap (λ (n : List KeptNode). slice_get n k) (sym push.behind) ∙ h))
    where
      go : (slice_get old.nodes k ≡ Some node) ⊎ ((k ≡ length old.nodes) × (node ≡ push.node)) → HasOwnFolder keys node.what
      go (inl e) = have k node e
      go (inr e) = subst (λ (n : KeptNode). HasOwnFolder keys n.what) (sym e.1) push.folder

  pub pushed_inside : (number : ℕ) → IsDirectoryAt old number → IsDirectoryAt new number
  pushed_inside number h = go (node_of old number) refl
    where
      go : (o : Option KeptNode) → node_of old number ≡ o → IsDirectoryAt new number
      go None e = let none : IsSome (option_and_then (λ (n : KeptNode). folder_in n.what) None) = subst (λ (o : Option KeptNode). IsSome (option_and_then (λ (n : KeptNode). folder_in n.what) o)) e h in absurd (cc)
      go (Some node) e =
          let here : node_of new number ≡ Some node = ap (λ (n : List KeptNode). slice_get n number) push.behind ∙ get_left old.nodes (push.node ∷ []) number node e in
          subst (λ (o : Option KeptNode). IsSome (option_and_then (λ (n : KeptNode). folder_in n.what) o)) (e ∙ sym here) h

-- ---- the names that are left

abbrev pub Rest : Type 0
Rest = List (List ℕ × FoundNode)

-- each name that is left follows the last node
abbrev pub AreBehind : KeptTree → ℕ → Rest → Type 0
AreBehind tree parent rest = AllByRecursion (λ (x : List ℕ × FoundNode). IsBehindLast tree parent x.0) rest

abbrev pub AreSorted : Rest → Type 0
AreSorted rest = IsStrictlySortedBy (slice_cmp nat_cmp) (names_of (all_found rest))

later_behind : (keys : KeyPair) (old new : KeptTree) (parent : ℕ) (name : List ℕ) → Pushes keys old new parent name → (rest : Rest) → AllByRecursion (λ y. slice_cmp nat_cmp name y ≡ Less) (names_of (all_found rest)) → AreBehind new parent rest
later_behind keys old new parent name push [] h = tt
later_behind keys old new parent name push (x ∷ rest) h = (pushed_behind keys old new parent name push x.0 h.0, later_behind keys old new parent name push rest h.1)

pub rest_behind : (keys : KeyPair) (old new : KeptTree) (parent : ℕ) (x : List ℕ × FoundNode) (rest all : Rest) → Pushes keys old new parent x.0 → all ≡ x ∷ rest → AreSorted all → AreBehind new parent rest
rest_behind keys old new parent x rest all push is sorted =
    later_behind keys old new parent x.0 push rest (sorted_head (slice_cmp nat_cmp) x.0 (names_of (all_found rest)) (subst AreSorted is sorted))

pub rest_sorted : (x : List ℕ × FoundNode) (rest all : Rest) → all ≡ x ∷ rest → AreSorted all → AreSorted rest
rest_sorted x rest all is sorted = sorted_tail (slice_cmp nat_cmp) x.0 (names_of (all_found rest)) (subst AreSorted is sorted)

-- at first each name follows the nodes of the directories before
first_less : (a b : ℕ) (m n : List ℕ) → a < b → ordering_then (nat_cmp a b) (slice_cmp nat_cmp m n) ≡ Less
first_less a b m n l = ap (λ (o : Ordering). ordering_then o (slice_cmp nat_cmp m n)) (sym (nat_cmp_is a b Less l))

pub all_behind : (tree : KeptTree) (parent : ℕ) (rest : Rest) → EndsBefore tree parent → AreBehind tree parent rest
all_behind tree parent [] h = tt
all_behind tree parent (x ∷ rest) h = ((λ last at below. first_less last.parent parent last.name x.0 (h last at below)), all_behind tree parent rest h)

-- ---- on a disk

pub adds_none : (keys : KeyPair) (d : Disk) (parent : ℕ) (old : Loading) → AddsAll keys d parent [] old old
adds_none keys d parent old rows above identifier loaded at each = added_none (sealing_of keys) d identifier rows parent above old.tree (is_claimed old.claims) loaded

pub adds_more : (keys : KeyPair) (d : Disk) (parent : ℕ) (some : Rest) (x : List ℕ × FoundNode) (old mid new : Loading) → AddsAll keys d parent (all_found some) old mid → AddsNode keys d parent (found_of x) mid new →
    AddsAll keys d parent (all_found (some ++ x ∷ [])) old new
adds_more keys d parent some x old mid new all one rows above identifier loaded at each =
    let s = sealing_of keys in
    let is : all_found (some ++ x ∷ []) ≡ all_found some ++ found_of x ∷ [] = map-append found_of some (x ∷ []) in
    let before : AreAdded (sealing_of keys) d rows parent above identifier (all_found some) mid.tree (is_claimed mid.claims) =
    all rows above identifier loaded at (λ f c. each f (subst (λ (z : List Found). Contains z f) (sym is) (Contains-append_left (all_found some) (found_of x ∷ []) f c))) in
    let found : IsFound (sealing_of keys) d identifier (found_of x) = each (found_of x) (subst (λ (z : List Found). Contains z (found_of x)) (sym is) (Contains-push (all_found some) (found_of x))) in
    let within : parent < length rows = slice_get_within rows parent (above, Dir identifier) at in
    let after : AreAdded (sealing_of keys) d rows parent above identifier (all_found some ++ found_of x ∷ [])
    (with_found (sealing_of keys) (folders_of (sealing_of keys) d).present (is_claimed mid.claims) parent mid.tree (found_of x)) (with_claims (sealing_of keys) (is_claimed mid.claims) (found_of x).shown) =
    added_more (sealing_of keys) d identifier (keeps_identifiers keys) rows parent parent above (all_found some) mid.tree (is_claimed mid.claims) (found_of x) (omega (arith, within)) at found before in
    subst (λ (z : List Found). AreAdded (sealing_of keys) d rows parent above identifier z new.tree (is_claimed new.claims)) (sym is)
    (subst (λ (t : KeptTree). AreAdded (sealing_of keys) d rows parent above identifier (all_found some ++ found_of x ∷ []) t (is_claimed new.claims)) (sym one.tree)
    (subst (λ (c : List ℕ → Bool). AreAdded (sealing_of keys) d rows parent above identifier (all_found some ++ found_of x ∷ [])
    (with_found (sealing_of keys) (folders_of (sealing_of keys) d).present (is_claimed mid.claims) parent mid.tree (found_of x)) c) (sym (λ i f. one.claims f i)) after))

-- told of a log that stayed
pub told_more : (contents now : Option Disk) (keys : KeyPair) (parent : ℕ) (some : Rest) (x : List ℕ × FoundNode) (old mid new : Loading) → now ≡ contents →
    Told contents (λ d. AddsAll keys d parent (all_found some) old mid) → Told now (λ d. AddsNode keys d parent (found_of x) mid new) → Told contents (λ d. AddsAll keys d parent (all_found (some ++ x ∷ [])) old new)
told_more contents now keys parent some x old mid new same all one =
    told_both contents _ _ _ all (subst (λ (o : Option Disk). Told o (λ d. AddsNode keys d parent (found_of x) mid new)) same one) (λ d a b. adds_more keys d parent some x old mid new a b)

-- what was yielded, and what is left
pub one_more : {X : Type 0} (yielded : List X) (x : X) (rest next all : List X) → rest ≡ x ∷ next → yielded ++ rest ≡ all → (yielded ++ x ∷ []) ++ next ≡ all
one_more yielded x rest next all taken split = append_assoc yielded (x ∷ []) next ∙ ap (λ (z : _). yielded ++ z) (sym taken) ∙ split

pub ends_later : (tree : KeptTree) (number : ℕ) → EndsBefore tree number → EndsBefore tree (number + 1)
ends_later tree number h last at below = let l : last.parent < number = h last at below in omega (arith, l)

pub nil_of : {X : Type 0} (xs : List X) → length xs ≡ 0 → xs ≡ []
nil_of [] h = refl
nil_of (x ∷ xs) h = absurd (omega (arith, h))

pub all_yielded : {X : Type 0} (yielded rest all : List X) → rest ≡ [] → yielded ++ rest ≡ all → yielded ≡ all
all_yielded yielded rest all none split = sym (append-nil yielded) ∙ ap (λ (z : _). yielded ++ z) (sym none) ∙ split
