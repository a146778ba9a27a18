-- What holds of a tree holds of it after a change.
use Rattle.std.proofs.Common.{◌≡◌, ◌≢◌, ℕ, suc, ◌<◌, ◌^◌, Bool, true, false, cond, ◌&&◌, List, [], ◌∷◌, ◌++◌, Option, Some, None, IsSome, bytes_eq, ◌==◌, refl, sym, ap, ap₂, ◌∙◌, subst, true≢false, arith, ◌⊎◌, inl, inr}
use Rattle.std.proofs.lemmas.Bool.{eqb-true, eq-eqb, ne_eqb, and_parts}
use Rattle.std.proofs.lemmas.Cmp.{tied_itself, nat_cmp_total}
use Rattle.std.proofs.lemmas.Slice.Eq.{bytes_eq-Decides}
use Rattle.std.specs.Ordering.{nat_cmp}
use Rattle.std.specs.declared.cmp.Ordering.TheVariants.{Less, Equal}
use Rattle.std.specs.Option.{option_and_then}
use Rattle.std.specs.List.{AllByRecursion}
use Rattle.std.specs.List.Sorted.{IsStrictlySortedBy}
use Rattle.std.specs.Map.{lookup, keys_of}
use Rattle.std.specs.BTreeMap.{is_at}
use Rattle.tree_model.specs.Rows.{root}
use Rattle.clear_tree.specs.Kept.{folder_in}
use Rattle.clear_tree.specs.Queue.{In}
use Rattle.live_tree.specs.Held.{HeldNode, HeldTree, node_of, IsNamed, IsFree, IsDirectory, HasParent}
use Rattle.live_tree.specs.Index.{Names, number_at, has_names, is_place, IsSet, IsSame, IsGrown, IsNameless, IsHeld}
use Rattle.live_tree.specs.Changes.{appended}
use Rattle.live_tree.proofs.Places.{at_number}
use Rattle.live_tree.proofs.Entries.{AreBelow, below_from}

abbrev Entry : Type 0
Entry = ℕ × HeldNode

-- ---- places

pub place_true : (parent : ℕ) (name : List ℕ) → is_place parent name parent name ≡ true
place_true parent name = ap₂ (λ (a b : Bool). a && b) (eq-eqb parent parent refl) ((bytes_eq-Decides name name).1 refl)

pub record IsThis (parent : ℕ) (name : List ℕ) (parent' : ℕ) (name' : List ℕ) : Type 0 where
  pub parents : parent ≡ parent'
  pub names : name ≡ name'

pub place_is : (parent : ℕ) (name : List ℕ) (parent' : ℕ) (name' : List ℕ) → is_place parent name parent' name' ≡ true → IsThis parent name parent' name'
place_is parent name parent' name' e =
    let both = and_parts (parent == parent') (bytes_eq name name') e in
    record { parents = eqb-true parent parent' both.0; names = (bytes_eq-Decides name name').0 both.1 }

-- ---- the index alone

pub grows_same : (old new : Names) → IsSame old new → IsGrown old new
grows_same old new same = record { numbers = same.numbers; directories = λ parent there. same.directories parent ∙ there }

pub grows_twice : (a b c : Names) → IsGrown a b → IsGrown b c → IsGrown a c
grows_twice a b c first second = record {
  numbers = λ parent name. second.numbers parent name ∙ first.numbers parent name;
  directories = λ parent there. second.directories parent (first.directories parent there);
}

pub held_grows : (old new : Names) (tree : HeldTree) → IsHeld old tree → IsGrown old new → IsHeld new tree
held_grows old new tree held grows = record {
  ordered = held.ordered;
  first = held.first;
  parents = held.parents;
  numbers = held.numbers;
  versions = held.versions;
  directories = λ number node there folder. grows.directories number (held.directories number node there folder);
  named = λ parent name number at. held.named parent name number (sym (grows.numbers parent name) ∙ at);
  found = λ parent name number is. grows.numbers parent name ∙ held.found parent name number is;
}

set_back_at : (b : Bool) (old mid new : Option ℕ) (number : ℕ) → mid ≡ cond b (Some number) old → new ≡ cond b None mid → (b ≡ true → old ≡ None) → new ≡ old
set_back_at true old mid new number m n free = n ∙ sym (free refl)
set_back_at false old mid new number m n free = n ∙ m

none_at : (names : Names) (tree : HeldTree) (parent : ℕ) (name : List ℕ) → IsHeld names tree → IsFree tree parent name → (o : Option ℕ) → number_at names parent name ≡ o → number_at names parent name ≡ None
none_at names tree parent name held free None e = e
none_at names tree parent name held free (Some number) e = absurd (free number (held.named parent name number e))

-- a name that was set and taken away again
pub grows_back : (names mid set new : Names) (tree : HeldTree) (parent : ℕ) (name : List ℕ) (number : ℕ) → IsHeld names tree → IsFree tree parent name → IsGrown names mid
    → IsSet mid set parent name (Some number) → IsSet set new parent name None → IsGrown names new
grows_back names mid set new tree parent name number held free grows put back = record {
  numbers = λ parent' name'.
      set_back_at (is_place parent name parent' name') (number_at names parent' name') (number_at set parent' name') (number_at new parent' name') number
      (put.numbers parent' name' ∙ ap (cond (is_place parent name parent' name') (Some number)) (grows.numbers parent' name')) (back.numbers parent' name')
      (λ e. let this = place_is parent name parent' name' e in
      ap₂ (λ (p : ℕ) (n : List ℕ). number_at names p n) (sym this.parents) (sym this.names) ∙ none_at names tree parent name held free (number_at names parent name) refl);
  directories = λ parent' there. back.directories parent' ∙ put.directories parent' ∙ grows.directories parent' there;
}

pub folder_there : (o o' : Option HeldNode) → ((p : HeldNode) → o ≡ Some p → IsSome (folder_in p.kept.what) → IsSome (option_and_then (λ (parent : HeldNode). folder_in parent.kept.what) o'))
    → IsSome (option_and_then (λ (parent : HeldNode). folder_in parent.kept.what) o) → IsSome (option_and_then (λ (parent : HeldNode). folder_in parent.kept.what) o')
folder_there None o' step is = absurd (true≢false (sym is))
folder_there (Some p) o' step is = step p refl is

pub folder_some : (o : Option HeldNode) (p : HeldNode) → o ≡ Some p → IsSome (folder_in p.kept.what) → IsSome (option_and_then (λ (parent : HeldNode). folder_in parent.kept.what) o)
folder_some o p e is = rw e is

-- a name of the directory whose number is next
nameless_at : (names : Names) (tree : HeldTree) → IsHeld names tree → (name : List ℕ) (o : Option ℕ) → number_at names tree.next name ≡ o → number_at names tree.next name ≡ None
nameless_at names tree held name None e = e
nameless_at names tree held name (Some number) e =
    let is = held.named tree.next name number e in
    let up = held.parents number is.node is.child.there is.child.below in
    let low = held.numbers number is.node is.child.there in
    let inside = is.child.inside in
    let before = up.before in
    absurd (omega (arith, inside, before, low))

pub nameless_next : (names : Names) (tree : HeldTree) → IsHeld names tree → IsNameless names tree.next
nameless_next names tree held name = nameless_at names tree held name (number_at names tree.next name) refl

pub are_below : (names : Names) (tree : HeldTree) → IsHeld names tree → AreBelow tree.next tree.nodes
are_below names tree held = below_from tree.next tree.nodes held.numbers

pub directory_below : (names : Names) (tree : HeldTree) (parent : ℕ) → IsHeld names tree → IsDirectory tree parent → parent < tree.next
directory_below names tree parent held dir = held.numbers parent dir.node dir.there

pub number_from : (a b : ℕ) → is_at (nat_cmp a) b ≡ true → a ≡ b
number_from a b e = eqb-true a b (sym (at_number a b) ∙ e)

pub at_true : (a b : ℕ) → a ≡ b → is_at (nat_cmp a) b ≡ true
at_true a b e = at_number a b ∙ eq-eqb a b e

pub at_false : (a b : ℕ) → a ≢ b → is_at (nat_cmp a) b ≡ false
at_false a b e = at_number a b ∙ ne_eqb a b e

-- ---- entries by number

in_keys : (P : ℕ → Type 0) (es : List Entry) (k : ℕ) (v : HeldNode) → AllByRecursion P (keys_of es) → In (k, v) es → P k
in_keys P [] k v all h = absurd h
in_keys P (e ∷ es) k v all (inl same) = subst P (sym (ap (λ (y : Entry). y.0) same)) all.0
in_keys P (e ∷ es) k v all (inr h) = in_keys P es k v all.1 h

-- in a list in order an entry is found by its number
pub in_found : (es : List Entry) (k : ℕ) (v : HeldNode) → IsStrictlySortedBy nat_cmp (keys_of es) → In (k, v) es → lookup (is_at (nat_cmp k)) es ≡ Some v
unfolding IsStrictlySortedBy
in_found [] k v sorted h = absurd h
in_found (e ∷ es) k v sorted (inl same) =
    ap (λ b. cond b (Some e.1) (lookup (is_at (nat_cmp k)) es)) (at_true k e.0 (ap (λ (y : Entry). y.0) same)) ∙ ap Some (sym (ap (λ (y : Entry). y.1) same))
in_found (e ∷ es) k v sorted (inr h) =
    let less : nat_cmp e.0 k ≡ Less = in_keys (λ (y : ℕ). nat_cmp e.0 y ≡ Less) es k v sorted.0 h in
    let apart : k ≢ e.0 = (λ same. let both : Less ≡ Equal = sym less ∙ ap (nat_cmp e.0) same ∙ tied_itself nat_cmp_total e.0 in cc) in
    ap (λ b. cond b (Some e.1) (lookup (is_at (nat_cmp k)) es)) (at_false k e.0 apart) ∙ in_found es k v sorted.1 h

pub found_in : (es : List Entry) (k : ℕ) (v : HeldNode) → lookup (is_at (nat_cmp k)) es ≡ Some v → In (k, v) es
found_in [] k v h = absurd cc
found_in (e ∷ es) k v h = by (is_at (nat_cmp k) e.0) refl h (found_in es k v)
  where
    by : (b : Bool) → is_at (nat_cmp k) e.0 ≡ b → cond b (Some e.1) (lookup (is_at (nat_cmp k)) es) ≡ Some v → (lookup (is_at (nat_cmp k)) es ≡ Some v → In (k, v) es) → In (k, v) (e ∷ es)
    by true is h rest =
        let value : e.1 ≡ v = cc in
        inl (ap₂ (λ (a : ℕ) (n : HeldNode). (a, n)) (number_from k e.0 is) (sym value))
    by false is h rest = inr (rest h)

-- ---- a node after the others

pub lookup_last : (q next : ℕ) (v : HeldNode) (es : List (ℕ × HeldNode)) → AreBelow next es
    → lookup (is_at (nat_cmp q)) (es ++ (next, v) ∷ []) ≡ cond (is_at (nat_cmp q) next) (Some v) (lookup (is_at (nat_cmp q)) es)
lookup_last q next v [] below = refl
lookup_last q next v (e ∷ es) below = step (is_at (nat_cmp q) e.0) (is_at (nat_cmp q) next) refl refl (lookup_last q next v es below.1)
  where
    step : (b d : Bool) → is_at (nat_cmp q) e.0 ≡ b → is_at (nat_cmp q) next ≡ d → lookup (is_at (nat_cmp q)) (es ++ (next, v) ∷ []) ≡ cond (is_at (nat_cmp q) next) (Some v) (lookup (is_at (nat_cmp q)) es)
        → cond b (Some e.1) (lookup (is_at (nat_cmp q)) (es ++ (next, v) ∷ [])) ≡ cond d (Some v) (cond b (Some e.1) (lookup (is_at (nat_cmp q)) es))
    step true true b d rest =
        let here : q ≡ e.0 = number_from q e.0 b in let there : q ≡ next = number_from q next d in
        let less = below.0 in absurd (omega (arith, here, there, less))
    step true false b d rest = refl
    step false true b d rest = rest ∙ rw d refl
    step false false b d rest = rest ∙ rw d refl

pub record IsNew (q : ℕ) (n : HeldNode) (next : ℕ) (node : HeldNode) : Type 0 where
  pub number : q ≡ next
  pub node_is : n ≡ node

module _ (tree : HeldTree) (node : HeldNode) (numbers : (q : ℕ) (n : HeldNode) → node_of tree q ≡ Some n → q < tree.next) where
  at_last : (q : ℕ) → node_of (appended tree node) q ≡ cond (is_at (nat_cmp q) tree.next) (Some node) (node_of tree q)
  at_last q = lookup_last q tree.next node tree.nodes (below_from tree.next tree.nodes numbers)

  pub still : (q : ℕ) (n : HeldNode) → node_of tree q ≡ Some n → node_of (appended tree node) q ≡ Some n
  still q n there =
      let low = numbers q n there in
      at_last q ∙ ap (λ b. cond b (Some node) (node_of tree q)) (at_false q tree.next (λ same. omega (arith, low, same))) ∙ there

  pub last_there : node_of (appended tree node) tree.next ≡ Some node
  last_there = at_last tree.next ∙ ap (λ b. cond b (Some node) (node_of tree tree.next)) (at_true tree.next tree.next refl)

  pub back : (q : ℕ) (n : HeldNode) → node_of (appended tree node) q ≡ Some n → IsNew q n tree.next node ⊎ (node_of tree q ≡ Some n)
  back q n there = step (is_at (nat_cmp q) tree.next) refl (sym (at_last q) ∙ there)
    where
      step : (b : Bool) → is_at (nat_cmp q) tree.next ≡ b → cond (is_at (nat_cmp q) tree.next) (Some node) (node_of tree q) ≡ Some n → IsNew q n tree.next node ⊎ (node_of tree q ≡ Some n)
      step true b found = let got = rw b at found in inl (record { number = number_from q tree.next b; node_is = cc })
      step false b found = let got = rw b at found in inr got

  pub still_named : (parent : ℕ) (name : List ℕ) (number : ℕ) → IsNamed tree parent name number → IsNamed (appended tree node) parent name number
  still_named parent name number is = record {
    node = is.node;
    child = record { there = still number is.node is.child.there; below = is.child.below; inside = is.child.inside };
    named = is.named;
  }

  pub last_named : (first : HeldNode) → node_of tree root ≡ Some first → IsNamed (appended tree node) node.kept.parent node.kept.name tree.next
  last_named first there = record {
    node = node;
    child = record { there = last_there; below = (λ same. let low = numbers root first there in omega (arith, low, same)); inside = refl };
    named = refl;
  }

  folder_still : (parent : ℕ) → IsSome (option_and_then (λ (p : HeldNode). folder_in p.kept.what) (node_of tree parent))
      → IsSome (option_and_then (λ (p : HeldNode). folder_in p.kept.what) (node_of (appended tree node) parent))
  folder_still parent is =
      folder_there (node_of tree parent) (node_of (appended tree node) parent) (λ p e folder. folder_some (node_of (appended tree node) parent) p (still parent p e) folder) is

  pub parents_still : IsDirectory tree node.kept.parent → ((q : ℕ) (n : HeldNode) → node_of tree q ≡ Some n → q ≢ root → HasParent tree q n)
      → (q : ℕ) (n : HeldNode) → node_of (appended tree node) q ≡ Some n → q ≢ root → HasParent (appended tree node) q n
  parents_still up parents q n there below = go (back q n there)
    where
      go : IsNew q n tree.next node ⊎ (node_of tree q ≡ Some n) → HasParent (appended tree node) q n
      go (inl this) =
          let low = numbers node.kept.parent up.node up.there in
          let e = this.number in
          rw this.node_is (record {
            before = omega (arith, low, e);
            folder = folder_some (node_of (appended tree node) node.kept.parent) up.node (still node.kept.parent up.node up.there) up.folder;
          })
      go (inr was) =
          let old = parents q n was below in
          record { before = old.before; folder = folder_still n.kept.parent old.folder }

  pub numbers_still : (q : ℕ) (n : HeldNode) → node_of (appended tree node) q ≡ Some n → q < suc tree.next
  numbers_still q n there = go (back q n there)
    where
      go : IsNew q n tree.next node ⊎ (node_of tree q ≡ Some n) → q < suc tree.next
      go (inl this) = let e = this.number in omega (arith, e)
      go (inr was) = let low = numbers q n was in omega (arith, low)

  pub versions_still : node.version ≡ 0 → ((q : ℕ) (n : HeldNode) → node_of tree q ≡ Some n → n.version < 2 ^ 32)
      → (q : ℕ) (n : HeldNode) → node_of (appended tree node) q ≡ Some n → n.version < 2 ^ 32
  versions_still fresh versions q n there = go (back q n there)
    where
      go : IsNew q n tree.next node ⊎ (node_of tree q ≡ Some n) → n.version < 2 ^ 32
      go (inl this) = let zero_is : n.version ≡ 0 = ap (λ (x : HeldNode). x.version) this.node_is ∙ fresh in omega (arith, zero_is)
      go (inr was) = versions q n was

module _ (names : Names) (tree : HeldTree) (node : HeldNode) (held : IsHeld names tree) where
  module _ (mid new : Names) (grows : IsGrown names mid) (opened : IsSome (folder_in node.kept.what) → has_names mid tree.next ≡ true)
      (set : IsSet mid new node.kept.parent node.kept.name (Some tree.next)) (up : IsDirectory tree node.kept.parent) (free : IsFree tree node.kept.parent node.kept.name)
      (fresh : node.version ≡ 0) (ordered : IsStrictlySortedBy nat_cmp (keys_of (appended tree node).nodes)) where
    directories_at : (q : ℕ) (n : HeldNode) → IsSome (folder_in n.kept.what) → IsNew q n tree.next node ⊎ (node_of tree q ≡ Some n) → has_names new q ≡ true
    directories_at q n folder (inl this) =
        set.directories q ∙ ap (has_names mid) this.number ∙ opened (subst (λ (x : HeldNode). IsSome (folder_in x.kept.what)) this.node_is folder)
    directories_at q n folder (inr there) = set.directories q ∙ grows.directories q (held.directories q n there folder)

    named_at : (parent : ℕ) (name : List ℕ) (number : ℕ) (b : Bool) → is_place node.kept.parent node.kept.name parent name ≡ b
        → cond b (Some tree.next) (number_at mid parent name) ≡ Some number → IsNamed (appended tree node) parent name number
    named_at parent name number true place at =
        let this = place_is node.kept.parent node.kept.name parent name place in
        let e : tree.next ≡ number = cc in
        rw (← e, ← this.parents, ← this.names) (last_named tree node held.numbers held.first.0 held.first.1.there)
    named_at parent name number false place at = still_named tree node held.numbers parent name number (held.named parent name number (sym (grows.numbers parent name) ∙ at))

    found_at : (parent : ℕ) (name : List ℕ) (number : ℕ) (is : IsNamed (appended tree node) parent name number) → IsNew number is.node tree.next node ⊎ (node_of tree number ≡ Some is.node)
        → (b : Bool) → is_place node.kept.parent node.kept.name parent name ≡ b → cond b (Some tree.next) (number_at mid parent name) ≡ Some number
    found_at parent name number is (inl this) true place = ap Some (sym this.number)
    found_at parent name number is (inl this) false place =
        let parents : node.kept.parent ≡ parent = ap (λ (x : HeldNode). x.kept.parent) (sym this.node_is) ∙ is.child.inside in
        let named : node.kept.name ≡ name = ap (λ (x : HeldNode). x.kept.name) (sym this.node_is) ∙ is.named in
        absurd (true≢false (sym (place_true node.kept.parent node.kept.name) ∙ ap₂ (λ (p : ℕ) (n : List ℕ). is_place node.kept.parent node.kept.name p n) parents named ∙ place))
    found_at parent name number is (inr there) true place =
        let this = place_is node.kept.parent node.kept.name parent name place in
        absurd (free number (record {
          node = is.node;
          child = record { there = there; below = is.child.below; inside = is.child.inside ∙ sym this.parents };
          named = is.named ∙ sym this.names;
        }))
    found_at parent name number is (inr there) false place =
        grows.numbers parent name
        ∙ held.found parent name number (record { node = is.node; child = record { there = there; below = is.child.below; inside = is.child.inside }; named = is.named })

    pub held_appended : IsHeld new (appended tree node)
    held_appended = record {
      ordered = ordered;
      first = (held.first.0, record { there = still tree node held.numbers root held.first.0 held.first.1.there; own = held.first.1.own; folder = held.first.1.folder });
      parents = parents_still tree node held.numbers up held.parents;
      numbers = numbers_still tree node held.numbers;
      versions = versions_still tree node held.numbers fresh held.versions;
      directories = λ q n there folder. directories_at q n folder (back tree node held.numbers q n there);
      named = λ parent name number at. named_at parent name number (is_place node.kept.parent node.kept.name parent name) refl (sym (set.numbers parent name) ∙ at);
      found = λ parent name number is.
          set.numbers parent name ∙ found_at parent name number is (back tree node held.numbers number is.node is.child.there) (is_place node.kept.parent node.kept.name parent name) refl;
    }
