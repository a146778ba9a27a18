-- The claims of a tree, node by node, and the first of them that is of a folder.
use Rattle.std.proofs.Common.{◌≡◌, ◌≢◌, ℕ, suc, ◌<◌, ◌≤◌, Bool, true, false, cond, List, [], ◌∷◌, ◌++◌, Option, Some, None, IsSome, Contains, bytes_eq, ◌==◌, refl, sym, ap, ◌∙◌, subst, true≢false, arith}
use Rattle.std.proofs.lemmas.Bool.{ne_eqb}
use Rattle.std.proofs.lemmas.Slice.Eq.{bytes_eq-Decides}
use Rattle.std.proofs.lemmas.Map.Keys.{sorted_head, sorted_tail}
use Rattle.std.specs.Cmp.{ranked}
use Rattle.std.specs.Ordering.{nat_cmp}
use Rattle.std.specs.declared.cmp.Ordering.TheVariants.{Less}
use Rattle.std.specs.Option.{option_and_then}
use Rattle.std.specs.List.{AllByRecursion}
use Rattle.std.specs.List.Sorted.{IsStrictlySortedBy}
use Rattle.std.specs.Map.{lookup, keys_of}
use Rattle.std.specs.BTreeMap.{is_at}
use Rattle.vault_path.specs.Parts.{is_part}
use Rattle.tree_model.specs.Rows.{root}
use Rattle.clear_tree.specs.Walk.{Sealing}
use Rattle.clear_tree.specs.Places.{host_inner, text_dir}
use Rattle.tree_deed_laws.specs.Taken.{Claim, first_claim}
use Rattle.live_tree.specs.Held.{HeldNode, HeldTree, node_of, parent_folder, IsTree}
use Rattle.live_tree.proofs.Held.{number_from, at_true, at_false}
use Rattle.name_places.specs.Claims.{claimed_in, NamesFolder, number_in, AreClaimsOf, claim_by, claim_of, claims_from, claims_in, HaveHostEntries}
use Rattle.name_places.specs.Laws.{ClaimsAreWhole}
use Rattle.name_places.specs.Asked.{path_where, claim_in, claim_path}
use Rattle.name_places.proofs.Changed.{claimed_by}
use Rattle.name_places.proofs.Lowest.{none_names}

abbrev Entries : Type 0
Entries = List (ℕ × HeldNode)

-- ---- nodes by number

key_above : (k q : ℕ) (v : HeldNode) (es : Entries) → AllByRecursion (λ y. nat_cmp k y ≡ Less) (keys_of es) → lookup (is_at (nat_cmp q)) es ≡ Some v → k < q
key_above k q v [] all found = absurd cc
key_above k q v (e ∷ es) all found = step (is_at (nat_cmp q) e.0) refl found (λ h. key_above k q v es all.1 h)
  where
    step : (b : Bool) → is_at (nat_cmp q) e.0 ≡ b → cond b (Some e.1) (lookup (is_at (nat_cmp q)) es) ≡ Some v → (lookup (is_at (nat_cmp q)) es ≡ Some v → k < q) → k < q
    step true b h rest = let same = number_from q e.0 b in let less = ranked k e.0 Less (sym all.0) in omega (arith, same, less)
    step false b h rest = rest h

-- what holds of each node by its number holds of each entry
each_entry : (P : ℕ → HeldNode → Type 0) (es : Entries) → IsStrictlySortedBy nat_cmp (keys_of es) → ((q : ℕ) (n : HeldNode) → lookup (is_at (nat_cmp q)) es ≡ Some n → P q n)
    → AllByRecursion (λ (e : ℕ × HeldNode). P e.0 e.1) es
each_entry P [] sorted h = tt
each_entry P (e ∷ es) sorted h = (
  h e.0 e.1 (ap (λ (b : Bool). cond b (Some e.1) (lookup (is_at (nat_cmp e.0)) es)) (at_true e.0 e.0 refl)),
  each_entry P es (sorted_tail nat_cmp e.0 (keys_of es) sorted)
      (λ q n found.
      let above = key_above e.0 q n es (sorted_head nat_cmp e.0 (keys_of es) sorted) found in
      h q n (ap (λ (b : Bool). cond b (Some e.1) (lookup (is_at (nat_cmp q)) es)) (at_false q e.0 (λ same. omega (arith, same, above))) ∙ found)),
)

module _ (s : Sealing) (tree : HeldTree) (f : List ℕ) where
  -- ---- the claims of the nodes that are elsewhere

  by_claim : (o above : Option (List ℕ)) (entry : List ℕ) (rest : List Claim) → (o ≡ Some f → ⊥) → first_claim f (claim_by o above entry ++ rest) ≡ first_claim f rest
  by_claim None above entry rest other = refl
  by_claim (Some g) None entry rest other = refl
  by_claim (Some g) (Some above) entry rest other = step (bytes_eq g f) refl
    where
      step : (b : Bool) → bytes_eq g f ≡ b → cond b (Some (host_inner above entry text_dir)) (first_claim f rest) ≡ first_claim f rest
      step true e = absurd (other (ap Some ((bytes_eq-Decides g f).0 e)))
      step false e = refl

  by_root : (b : Bool) (claims rest : List Claim) → (b ≡ false → first_claim f (claims ++ rest) ≡ first_claim f rest) → first_claim f (cond b [] claims ++ rest) ≡ first_claim f rest
  by_root true claims rest h = refl
  by_root false claims rest h = h refl

  passed : (e : ℕ × HeldNode) (rest : List Claim) → ((e.0 ≢ root) → claimed_in s e.1.kept.what ≡ Some f → ⊥) → first_claim f (claim_of s tree e ++ rest) ≡ first_claim f rest
  passed e rest other =
      by_root (e.0 == root) (claim_by (claimed_in s e.1.kept.what) (parent_folder tree e.1.kept) e.1.kept.entry) rest
      (λ low. by_claim (claimed_in s e.1.kept.what) (parent_folder tree e.1.kept) e.1.kept.entry rest (other (λ at. false_root e.0 low at)))
    where
      false_root : (q : ℕ) → (q == root) ≡ false → q ≡ root → ⊥
      false_root q low at = true≢false (sym (ap (λ (x : ℕ). x == root) at) ∙ low)

  no_claim : (es : Entries) → AllByRecursion (λ (e : ℕ × HeldNode). e.0 ≢ root → claimed_in s e.1.kept.what ≡ Some f → ⊥) es → first_claim f (claims_from s tree es) ≡ None
  no_claim [] all = refl
  no_claim (e ∷ es) all = passed e (claims_from s tree es) all.0 ∙ no_claim es all.1

  -- ---- the claim of the first node

  module _ (m : ℕ) (node : HeldNode) (above : List ℕ) (below : m ≢ root) (claimed : claimed_in s node.kept.what ≡ Some f) (inside : parent_folder tree node.kept ≡ Some above) where
    abbrev mine : Claim
    mine = record { folder = f; place = host_inner above node.kept.entry text_dir }

    claim_is : (e : ℕ × HeldNode) → m ≡ e.0 → e.1 ≡ node → claim_of s tree e ≡ mine ∷ []
    claim_is e at is =
        ap (λ (n : HeldNode). cond (e.0 == root) [] (claim_by (claimed_in s n.kept.what) (parent_folder tree n.kept) n.kept.entry)) is
        ∙ ap (λ (b : Bool). cond b [] (claim_by (claimed_in s node.kept.what) (parent_folder tree node.kept) node.kept.entry)) (ne_eqb e.0 root (λ no. below (at ∙ no)))
        ∙ ap (λ (o : Option (List ℕ)). claim_by o (parent_folder tree node.kept) node.kept.entry) claimed
        ∙ ap (λ (o : Option (List ℕ)). claim_by (Some f) o node.kept.entry) inside

    first_is : (es : Entries) → IsStrictlySortedBy nat_cmp (keys_of es) → lookup (is_at (nat_cmp m)) es ≡ Some node
        → AllByRecursion (λ (e : ℕ × HeldNode). e.0 ≢ root → claimed_in s e.1.kept.what ≡ Some f → m ≤ e.0) es
        → first_claim f (claims_from s tree es) ≡ Some (host_inner above node.kept.entry text_dir)
    first_is [] sorted found all = absurd cc
    first_is (e ∷ es) sorted found all = step (is_at (nat_cmp m) e.0) refl found (λ h. first_is es (sorted_tail nat_cmp e.0 (keys_of es) sorted) h all.1)
      where
        step : (b : Bool) → is_at (nat_cmp m) e.0 ≡ b → cond b (Some e.1) (lookup (is_at (nat_cmp m)) es) ≡ Some node
            → (lookup (is_at (nat_cmp m)) es ≡ Some node → first_claim f (claims_from s tree es) ≡ Some (host_inner above node.kept.entry text_dir))
            → first_claim f (claim_of s tree e ++ claims_from s tree es) ≡ Some (host_inner above node.kept.entry text_dir)
        step true b h rest =
            ap (λ (cs : List Claim). first_claim f (cs ++ claims_from s tree es)) (claim_is e (number_from m e.0 b) cc)
            ∙ ap (λ (x : Bool). cond x (Some (host_inner above node.kept.entry text_dir)) (first_claim f (claims_from s tree es))) ((bytes_eq-Decides f f).1 refl)
        step false b h rest =
            let past = key_above e.0 m node es (sorted_head nat_cmp e.0 (keys_of es) sorted) h in
            passed e (claims_from s tree es) (λ low named. let no = all.0 low named in absurd (omega (arith, past, no)))
            ∙ rest h

    -- it is among the claims
    contains_front : (cs ds : List Claim) (c : Claim) → Contains ds c → Contains (cs ++ ds) c
    contains_front [] ds c is = is
    contains_front (x ∷ cs) ds c is = let rest = contains_front cs ds c is in (suc rest.0, omega (arith, rest.1), rest.2)

    pub is_listed : (es : Entries) → lookup (is_at (nat_cmp m)) es ≡ Some node → Contains (claims_from s tree es) mine
    is_listed [] found = absurd cc
    is_listed (e ∷ es) found = step (is_at (nat_cmp m) e.0) refl found (λ h. is_listed es h)
      where
        step : (b : Bool) → is_at (nat_cmp m) e.0 ≡ b → cond b (Some e.1) (lookup (is_at (nat_cmp m)) es) ≡ Some node → (lookup (is_at (nat_cmp m)) es ≡ Some node → Contains (claims_from s tree es) mine)
            → Contains (claim_of s tree e ++ claims_from s tree es) mine
        step true b h rest =
            subst (λ (cs : List Claim). Contains (cs ++ claims_from s tree es) mine) (sym (claim_is e (number_from m e.0 b) cc)) (0, omega arith, refl)
        step false b h rest = contains_front (claim_of s tree e) (claims_from s tree es) mine (rest h)

-- ---- a node that names a folder, and the directory that it is in

pub record HasClaim (s : Sealing) (tree : HeldTree) (f : List ℕ) (m : ℕ) : Type 0 where
  pub node : HeldNode
  pub there : node_of tree m ≡ Some node
  pub claimed : claimed_in s node.kept.what ≡ Some f
  pub above : List ℕ
  pub inside : parent_folder tree node.kept ≡ Some above

some_of : (o : Option (List ℕ)) → IsSome o → (x : List ℕ) × (o ≡ Some x)
some_of None is = absurd (true≢false (sym is))
some_of (Some x) is = (x, refl)

pub has_claim : (s : Sealing) (tree : HeldTree) (f : List ℕ) (m : ℕ) → IsTree tree → NamesFolder s tree f m → HasClaim s tree f m
has_claim s tree f m is names = go (node_of tree m) refl names.claimed
  where
    go : (o : Option HeldNode) → node_of tree m ≡ o → claimed_by s o ≡ Some f → HasClaim s tree f m
    go None e h = absurd cc
    go (Some node) e h =
        let up = some_of (parent_folder tree node.kept) (is.parents m node e names.below).folder in
        record { node = node; there = e; claimed = h; above = up.0; inside = up.1 }

pub claims_are_whole : ClaimsAreWhole
claims_are_whole s tree f m is names =
    let has = has_claim s tree f m is names in
    record {
      claim = record { folder = f; place = host_inner has.above has.node.kept.entry text_dir };
      there = is_listed s tree f m has.node has.above names.below has.claimed has.inside tree.nodes has.there;
      names = refl;
    }

-- ---- what the index finds

names_from : (s : Sealing) (tree : HeldTree) (f : List ℕ) (q : ℕ) (n : HeldNode) → node_of tree q ≡ Some n → q ≢ root → claimed_in s n.kept.what ≡ Some f → NamesFolder s tree f q
names_from s tree f q n there low named = record { below = low; claimed = ap (claimed_by s) there ∙ named }

module _ (s : Sealing) (tree : HeldTree) (claims : List (List ℕ × ℕ)) (f : List ℕ) (is : IsTree tree) (entries : HaveHostEntries tree) (are : AreClaimsOf s tree claims) where
  by_number : (o : Option ℕ) → number_in claims f ≡ o → option_and_then (λ (number : ℕ). option_and_then (claim_in tree) (node_of tree number)) o ≡ first_claim f (claims_in s tree)
  by_number None none =
      sym (no_claim s tree f tree.nodes
      (each_entry (λ q n. q ≢ root → claimed_in s n.kept.what ≡ Some f → ⊥) tree.nodes is.ordered
      (λ q n there low named.
      none_names s tree f (suc q) (λ m under first. let found = (are f m).1 first in absurd (cc (found, none))) q (omega arith) (names_from s tree f q n there low named))))
  by_number (Some m) found =
      let first = (are f m).0 found in
      let has = has_claim s tree f m is first.names in
      ap (λ (o : Option HeldNode). option_and_then (claim_in tree) o) has.there
      ∙ ap (λ (o : Option (List ℕ)). option_and_then (λ above. path_where (is_part has.node.kept.entry) (host_inner above has.node.kept.entry text_dir)) o) has.inside
      ∙ ap (λ (b : Bool). path_where b (host_inner has.above has.node.kept.entry text_dir)) (entries m has.node has.there first.names.below)
      ∙ sym (first_is s tree f m has.node has.above first.names.below has.claimed has.inside tree.nodes is.ordered has.there
      (each_entry (λ q n. q ≢ root → claimed_in s n.kept.what ≡ Some f → m ≤ q) tree.nodes is.ordered
      (λ q n there low named. first.first q (names_from s tree f q n there low named))))

  pub claim_path_is : claim_path tree claims f ≡ first_claim f (claims_in s tree)
  claim_path_is = by_number (number_in claims f) refl
