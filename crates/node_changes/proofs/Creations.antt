-- The deeds of a file or a directory that the step makes lead to the tree with it, on the disk and in memory.
use Rattle.std.proofs.Common.{◌≡◌, ◌≢◌, ◌==◌, ℕ, Bool, true, false, ◌&&◌, not, cond, List, [], ◌∷◌, Option, Some, None, is_some, Result, Ok, Err, bytes_eq, refl, sym, ap, ◌∙◌, subst, true≢false, eqb-true, eq-eqb, ne_eqb}
use Rattle.std.proofs.lemmas.Bool.{cond-true, cond-false}
use Rattle.std.proofs.lemmas.Slice.Eq.{bytes_eq-Decides}
use Rattle.std.specs.FinMap.{get}
use Rattle.std.specs.Option.{option_and_then}
use Rattle.outside.specs.Disk.{Disk}
use Rattle.deeds.specs.Deeds.{PlainDeed, DoesAll}
use Rattle.vault_keys.specs.Keys.{KeyPair}
use Rattle.tree_model.specs.Rows.{Content, chunks, Row, Rows, root, qid_of, row_of, child_of}
use Rattle.tree_model.specs.Asked.{create, qid}
use Rattle.tree_model.specs.Step.{Stepped, stepped, says, refuses, step, new_row, with_new, create_named, create_refusal, is_full, name_refusal}
use Rattle.tree_model.specs.Names.{NameFault, clear_name}
use Rattle.tree_model.specs.declared.refusal.Refusal.TheVariants as refusals
use Rattle.tree_model.proofs.Steps.{step_worked}
use Rattle.deeds.proofs.Fields.{both_true}
use Rattle.clear_tree.specs.Queue.{In}
use Rattle.tree_deed_laws.proofs.Rows.{map_in, no_child}
use Rattle.clear_tree.specs.Walk.{Path, Sealing, Node, File, Link, Dir, Bad, is_name, claimed}
use Rattle.clear_tree.specs.Rows.{content_in}
use Rattle.clear_tree.specs.Kept.{KeptDir, what_of, content_of}
use Rattle.tree_loading.specs.Format.{sealing_of}
use Rattle.tree_deed_laws.specs.Trees.{Tree, IsTreeOf, with_node}
use Rattle.tree_deed_laws.specs.Taken.{AreClaimed, IsClaimed, taken}
use Rattle.tree_deed_laws.specs.Changes as laws
use Rattle.tree_deed_laws.specs.Deeds.{place_of}
use Rattle.live_tree.specs.Held.{HeldNode, HeldTree, node_of, live_row, live_rows, IsFree, IsNamed, IsTree}
use Rattle.live_tree.specs.Changes.{added, new_node, wrapped, AgreeBut, RowsAreAdded}
use Rattle.live_tree.proofs.Held.{in_found}
use Rattle.live_tree_laws.specs.Holds.{IsAt, Holds}
use Rattle.live_tree_laws.proofs.Paths.{one_held}
use Rattle.live_tree_laws.proofs.Keeping.{free_names_are_free}
use Rattle.live_tree_laws.proofs.Numbers.{nodes_have_rows, reached}
use Rattle.live_tree_laws.proofs.Making.{making_holds}
use Rattle.live_tree_laws.proofs.Contents.{making_keeps_contents}
use Rattle.name_places.specs.Claims.{claimed_in, AreClaimsOf, claims_in}
use Rattle.name_places.specs.Laws.{ClaimsAreWhole, KeptClaims}
use Rattle.live_tree_laws.specs.Strays.{KeepsStrays}
use Rattle.node_changes.proofs.Refusing.{find_in, find_true}
use Rattle.node_changes.proofs.Stepping.{LeadsTo, leads_to, makes_step}
use Rattle.node_changes.specs.Changed.{StandsOn, MakesStep, ShowsRows}
use Rattle.node_changes.specs.Within.{AreWithin}

-- each folder that a node of the disk names is claimed in memory
module _ (keys : KeyPair) (kept : KeptClaims keys) (whole : ClaimsAreWhole) (d : Disk) (tree : Tree) (live : HeldTree) (holds : Holds (sealing_of keys) tree live) where
  pub are_claimed : AreClaimed (sealing_of keys) tree.nodes (claims_in (sealing_of keys) live)
  are_claimed n p f names = go (get tree.nodes (n ∷ p)) refl names
    where
      go : (o : Option Node) → get tree.nodes (n ∷ p) ≡ o → claimed (sealing_of keys) o ≡ Some f → IsClaimed f (claims_in (sealing_of keys) live)
      go None e h = absurd cc
      go (Some x) e h =
          let has = holds.numbers_of (n ∷ p) x e in
          let it = holds.nodes_of (n ∷ p) has.number has.at in
          let w : ◌≡◌ {A = Option Node} (Some it.node) (Some x) = sym it.at ∙ e in
          let same : it.node ≡ x = cc in
          whole (sealing_of keys) live f has.number holds.is_tree (record {
            below = has.at.2.child.below;
            claimed =
                ap (option_and_then (λ (node : HeldNode). claimed_in (sealing_of keys) node.kept.what)) it.there ∙ ap (claimed_in (sealing_of keys)) (it.is.what ∙ ap (what_of (sealing_of keys)) same)
                ∙ kept x ∙ h;
          })

-- ---- contents with those of a new node, which has none

abbrev pub with_new_content : (ℕ → Content) → ℕ → ℕ → Content
with_new_content contents next number = cond (number == next) (chunks true []) (contents number)

new_content : (contents : ℕ → Content) (next : ℕ) → with_new_content contents next next ≡ chunks true []
new_content contents next = ap (λ (b : Bool). cond b (chunks true []) (contents next)) (eq-eqb next next refl)

other_content : (contents : ℕ → Content) (next : ℕ) → AgreeBut next contents (with_new_content contents next)
other_content contents next other apart = ap (λ (b : Bool). cond b (chunks true []) (contents other)) (ne_eqb other next apart)

-- a name that a node can get in the directory of a number, of identifier i
pub record CanBeNamed (s : Sealing) (d : Disk) (live : HeldTree) (parent : ℕ) (i n : List ℕ) (long : Bool) (drawn : Option (List ℕ)) : Type 0 where
  pub free : IsFree live parent n
  pub named : is_name n (s.open_name i (s.seal i n)) ≡ true
  pub part : long ≡ false → s.is_part (s.seal i n) ≡ true
  pub untaken : taken s d (claims_in s live) i n drawn ≡ None

pub is_new : (keys : KeyPair) → KeptClaims keys → ClaimsAreWhole → (d : Disk) (tree : Tree) (live : HeldTree) → Holds (sealing_of keys) tree live → (p : Path) (parent : ℕ) → IsAt live p parent
    → (i n : List ℕ) (long : Bool) (drawn : Option (List ℕ)) → CanBeNamed (sealing_of keys) d live parent i n long drawn → get tree.nodes p ≡ Some (Dir i) → laws.IsNew (sealing_of keys) d tree p i n long drawn
is_new keys kept whole d tree live holds p parent at i n long drawn can dir_at = record {
  parent = dir_at;
  free = (free_names_are_free (sealing_of keys) tree live p parent n holds at).0 can.free;
  place = record {
    named = can.named;
    part = can.part;
    claims = claims_in (sealing_of keys) live;
    claimed = are_claimed keys kept whole d tree live holds;
    untaken = can.untaken;
  };
}

-- the directory of the number, in which a node can come by it
pub record CanCome (s : Sealing) (d : Disk) (live : HeldTree) (parent : ℕ) (i n : List ℕ) (long : Bool) (drawn : Option (List ℕ)) : Type 0 where
  pub held : HeldNode
  pub there : node_of live parent ≡ Some held
  pub folder : List ℕ
  pub dir : held.kept.what ≡ KeptDir i folder
  pub name : CanBeNamed s d live parent i n long drawn

pub dir_node : (s : Sealing) (x : Node) (i f : List ℕ) → what_of s x ≡ KeptDir i f → x ≡ Dir i
dir_node s (File b) i f e = absurd cc
dir_node s (Link b) i f e = absurd cc
dir_node s (Dir j) i f e = cc
dir_node s (Bad t) i f e = absurd cc

-- a node comes to a directory, by deeds that make it on the disk
pub record Coming (keys : KeyPair) (d : Disk) (live live' : HeldTree) (parent now : ℕ) (i n : List ℕ) (long : Bool) (drawn : Option (List ℕ)) (x : Node) (deeds : List PlainDeed) : Type 0 where
  pub kept : KeptClaims keys
  pub whole : ClaimsAreWhole
  pub can : CanCome (sealing_of keys) d live parent i n long drawn
  pub empty : content_of (what_of (sealing_of keys) x) (chunks true []) ≡ content_in (sealing_of keys) x
  pub within : AreWithin deeds
  pub creates : (tree : Tree) (p : Path) → IsTreeOf (sealing_of keys) d tree → laws.IsNew (sealing_of keys) d tree p i n long drawn → laws.Leads (sealing_of keys) d deeds (with_node tree (n ∷ p) x long)
  pub spares : (tree : Tree) (p : Path) (after : Disk) → IsTreeOf (sealing_of keys) d tree → laws.IsNew (sealing_of keys) d tree p i n long drawn → DoesAll deeds d after → KeepsStrays (sealing_of keys) d after
  pub made : live' ≡ added live (new_node parent n (what_of (sealing_of keys) x) (place_of (sealing_of keys) i n long).entry long now) now

module _ {keys : KeyPair} {d : Disk} {live live' : HeldTree} {parent now : ℕ} {i n : List ℕ} {long : Bool} {drawn : Option (List ℕ)} {x : Node} {deeds : List PlainDeed}
    (coming : Coming keys d live live' parent now i n long drawn x deeds) (claims claims' : List (List ℕ × ℕ)) where
  open coming use {kept, whole, can, empty, within, creates, spares, made}

  abbrev k : Sealing
  k = sealing_of keys

  abbrev node' : HeldNode
  node' = new_node parent n (what_of k x) (place_of k i n long).entry long now

  module _ (contents : ℕ → Content) (stands : StandsOn (sealing_of keys) d live claims contents) where
    abbrev tree : Tree
    tree = stands.tree

    at : (p : Path) × IsAt live p parent
    at = reached live stands.holds.is_tree parent can.held can.there

    dir_at : get tree.nodes at.0 ≡ Some (Dir i)
    dir_at =
        let it = stands.holds.nodes_of at.0 parent at.1 in
        let same : it.held ≡ can.held = one_held live parent it.held can.held it.there can.there in
        it.at ∙ ap Some (dir_node k it.node i can.folder (sym it.is.what ∙ ap (λ (z : HeldNode). z.kept.what) same ∙ can.dir))

    new : laws.IsNew k d tree at.0 i n long drawn
    new = is_new keys kept whole d tree live stands.holds at.0 parent at.1 i n long drawn can.name dir_at

    leads : laws.Leads k d deeds (with_node tree (n ∷ at.0) x long)
    leads = creates tree at.0 stands.is new

    stands_after : AreClaimsOf k (added live node' now) claims' → StandsOn k leads.after live' claims' (with_new_content contents live.next)
    stands_after claimed = subst (λ (l : HeldTree). StandsOn k leads.after l claims' (with_new_content contents live.next)) (sym made) (record {
      tree = with_node tree (n ∷ at.0) x long;
      is = leads.clear;
      holds = making_holds k d tree live at.0 parent i n x long now stands.is stands.holds at.1 dir_at can.name.free;
      claimed = claimed;
      are = making_keeps_contents k tree live at.0 parent i n x long now contents (with_new_content contents live.next) stands.holds at.1 dir_at can.name.free stands.are
          (other_content contents live.next) (ap (content_of (what_of k x)) (new_content contents live.next) ∙ empty);
    })

  -- ---- with the step
  module _ (name : List ℕ) (is_directory : Bool) (mode : ℕ) (rows : RowsAreAdded live live' parent n is_directory now)
      (claimed : (contents : ℕ → Content) → StandsOn (sealing_of keys) d live claims contents → AreClaimsOf (sealing_of keys) (added live node' now) claims')
      (step_is : (contents : ℕ → Content) → step (live_rows contents live) (create parent name is_directory mode) now
      ≡ stepped (with_new (live_rows contents live) (new_row (live_rows contents live) (live_row contents (parent, can.held)) n is_directory now) now)
      (says (qid (qid_of (new_row (live_rows contents live) (live_row contents (parent, can.held)) n is_directory now))))) where
    shows : (contents : ℕ → Content) (stands : StandsOn (sealing_of keys) d live claims contents) → ShowsRows k (step (live_rows contents live) (create parent name is_directory mode) now).rows (leads contents stands).after live' claims'
    shows contents stands = record {
      contents = with_new_content contents live.next;
      stands = stands_after contents stands (claimed contents stands);
      shows = rows contents (with_new_content contents live.next) (live_row contents (parent, can.held)) (nodes_have_rows live contents parent can.held can.there)
          (other_content contents live.next) (new_content contents live.next) ∙ ap wrapped (sym (ap (λ (w : Stepped). w.rows) (step_is contents)));
    }

    led : (contents : ℕ → Content) → StandsOn (sealing_of keys) d live claims contents → LeadsTo k (step (live_rows contents live) (create parent name is_directory mode) now).rows deeds d live' claims'
    led contents stands =
        let lead = leads contents stands in
        leads_to lead (spares stands.tree (at contents stands).0 lead.after stands.is (new contents stands) lead.does) (shows contents stands)

    pub makes : (contents : ℕ → Content) → StandsOn (sealing_of keys) d live claims contents → MakesStep (sealing_of keys) (create parent name is_directory mode) now deeds d live live' claims claims'
    makes = makes_step within led

-- ---- the step of a create

module _ (live : HeldTree) (is : IsTree live) (contents : ℕ → Content) (parent : ℕ) (n : List ℕ) where
  abbrev its : Rows
  its = live_rows contents live

  abbrev is_it : Row → Bool
  is_it row = (row.parent == parent) && bytes_eq row.name n && not (row.number == root)

  named_row : (row : Row) → In row its.nodes → is_it row ≡ true → (number : ℕ) × IsNamed live parent n number
  named_row row h true_it =
      let m = map_in (live_row contents) live.nodes row h in
      let both = both_true ((row.parent == parent) && bytes_eq row.name n) (not (row.number == root)) true_it in
      let parts = both_true (row.parent == parent) (bytes_eq row.name n) both.0 in
      let below : row.number ≢ root = (λ z. true≢false (sym both.1 ∙ ap not (eq-eqb row.number root z))) in (
        m.0.0,
        record {
          node = m.0.1;
          child = record {
            there = in_found live.nodes m.0.0 m.0.1 is.ordered m.1;
            below = λ z. below (ap (λ (r : Row). r.number) m.2 ∙ z);
            inside = sym (ap (λ (r : Row). r.parent) m.2) ∙ eqb-true row.parent parent parts.0;
          };
          named = sym (ap (λ (r : Row). r.name) m.2) ∙ (bytes_eq-Decides row.name n).0 parts.1;
        },
      )

  -- a name that is free in memory has no row
  pub free_child : IsFree live parent n → child_of its parent n ≡ None
  free_child free = go (child_of its parent n) refl
    where
      go : (o : Option Row) → child_of its parent n ≡ o → child_of its parent n ≡ None
      go None e = e
      go (Some row) e =
          let found = named_row row (find_in is_it its.nodes row e) (find_true is_it its.nodes row e) in
          absurd (free found.0 found.1)

  -- and one that isn't has one
  pub named_child : (number : ℕ) → IsNamed live parent n number → is_some (child_of its parent n) ≡ true
  named_child number named = go (child_of its parent n) refl
    where
      go : (o : Option Row) → child_of its parent n ≡ o → is_some (child_of its parent n) ≡ true
      go (Some row) e = ap is_some e
      go None e =
          let found = nodes_have_rows live contents number named.node named.child.there in
          absurd (no_child its parent n (live_row contents (number, named.node)) e (find_in (λ (row : Row). row.number == number) its.nodes (live_row contents (number, named.node)) found) named.child.below named.child.inside named.named)

module _ (rows : Rows) (row : Row) (number : ℕ) (name n : List ℕ) (is_directory : Bool) (mode now : ℕ) (there : row_of rows number ≡ Some row) (early : create_refusal row.kind name ≡ None) where
  named_step : (r : Result (List ℕ) NameFault) → clear_name name ≡ r → step rows (create number name is_directory mode) now ≡ create_named rows row r is_directory now
  named_step r clear = step_worked rows (create number name is_directory mode) now row there early ∙ ap (λ (z : Result (List ℕ) NameFault). create_named rows row z is_directory now) clear

  pub bad_name_step : (fault : NameFault) → clear_name name ≡ Err fault → (step rows (create number name is_directory mode) now).answer ≡ refuses (name_refusal fault)
  bad_name_step fault clear = ap (λ (w : Stepped). w.answer) (named_step (Err fault) clear)

  pub there_already_step : clear_name name ≡ Ok n → is_some (child_of rows row.number n) ≡ true → (step rows (create number name is_directory mode) now).answer ≡ refuses refusals.FileExists
  there_already_step clear exists =
      ap (λ (w : Stepped). w.answer) (named_step (Ok n) clear ∙ cond-true (is_some (child_of rows row.number n)) _ _ exists)

  pub full_step : clear_name name ≡ Ok n → child_of rows row.number n ≡ None → is_full rows ≡ true → (step rows (create number name is_directory mode) now).answer ≡ refuses refusals.VaultFull
  full_step clear free full =
      ap (λ (w : Stepped). w.answer) (named_step (Ok n) clear ∙ cond-false (is_some (child_of rows row.number n)) _ _ (ap is_some free) ∙ cond-true (is_full rows) _ _ full)

  pub made_step : clear_name name ≡ Ok n → child_of rows row.number n ≡ None → is_full rows ≡ false → step rows (create number name is_directory mode) now
      ≡ stepped (with_new rows (new_row rows row n is_directory now) now) (says (qid (qid_of (new_row rows row n is_directory now))))
  made_step clear free room =
      named_step (Ok n) clear ∙ cond-false (is_some (child_of rows row.number n)) _ _ (ap is_some free) ∙ cond-false (is_full rows) _ _ room
