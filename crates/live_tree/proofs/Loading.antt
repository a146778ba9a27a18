-- A tree as it was loaded, node by node.
use Rattle.std.proofs.Common.{◌≡◌, ◌≢◌, ℕ, zero, suc, ◌+◌, ◌<◌, ◌≤◌, ◌^◌, Bool, true, false, cond, List, [], ◌∷◌, ◌++◌, length, take, drop, slice_get, Option, Some, None, IsSome, refl, sym, ap, ap₂, ◌∙◌, subst, true≢false, arith}
use Rattle.std.proofs.lemmas.Option.{slice_get_within}
use Rattle.live_tree.proofs.Rows.{rows_loaded}
use Rattle.std.specs.Ordering.{nat_cmp}
use Rattle.std.specs.Option.{option_map, option_and_then}
use Rattle.std.specs.Cmp.Lexicographic.{slice_cmp}
use Rattle.std.specs.List.Sorted.{IsStrictlySortedBy}
use Rattle.std.specs.Map.{lookup}
use Rattle.std.specs.BTreeMap.{BTreeMap, is_at, get, insert_entry}
use Rattle.tree_model.specs.Rows.{Content, root}
use Rattle.clear_tree.specs.Kept.{KeptNode, KeptTree, tree_rows, folder_in, node_of as kept_node_of, IsTree, IsNamed as IsKeptNamed}
use Rattle.live_tree.specs.Held.{HeldNode, HeldTree, live_rows, node_of, unchanged_node, numbered, loaded, IsFree, IsDirectory}
use Rattle.live_tree.specs.Index.{Names, number_at, has_names, IsGrown, IsHeld}
use Rattle.live_tree.specs.Changes.{appended}
use Rattle.live_tree.proofs.Held.{at_true, at_false, number_from}

Nodes : Type 0
Nodes = List KeptNode

-- ---- the first nodes

record IsBefore (ns : List KeptNode) (n k : ℕ) (x : KeptNode) : Type 0 where
  below : k < n
  there : slice_get ns k ≡ Some x

taken_at : (ns : List KeptNode) (n k : ℕ) (x : KeptNode) → slice_get (take n ns) k ≡ Some x → IsBefore ns n k x
taken_at ns zero k x h = absurd cc
taken_at [] (suc n) k x h = absurd cc
taken_at (y ∷ ns) (suc n) zero x h = record { below = omega arith; there = h }
taken_at (y ∷ ns) (suc n) (suc k) x h = let rest = taken_at ns n k x h in let low = rest.below in record { below = omega (arith, low); there = rest.there }

at_taken : (ns : List KeptNode) (n k : ℕ) (x : KeptNode) → k < n → slice_get ns k ≡ Some x → slice_get (take n ns) k ≡ Some x
at_taken ns zero k x low h = absurd (omega (arith, low))
at_taken [] (suc n) k x low h = absurd cc
at_taken (y ∷ ns) (suc n) zero x low h = h
at_taken (y ∷ ns) (suc n) (suc k) x low h = at_taken ns n k x (omega (arith, low)) h

take_more : (ns : List KeptNode) (n : ℕ) (x : KeptNode) → slice_get ns n ≡ Some x → take (suc n) ns ≡ take n ns ++ x ∷ []
take_more [] n x h = absurd cc
take_more (y ∷ ns) zero x h = let same : y ≡ x = cc in ap (λ (z : KeptNode). z ∷ []) same
take_more (y ∷ ns) (suc n) x h = ap (λ (zs : List KeptNode). y ∷ zs) (take_more ns n x h)

length_taken : (ns : List KeptNode) (n : ℕ) (x : KeptNode) → slice_get ns n ≡ Some x → length (take n ns) ≡ n
length_taken [] n x h = absurd cc
length_taken (y ∷ ns) zero x h = refl
length_taken (y ∷ ns) (suc n) x h = ap suc (length_taken ns n x h)

pub take_whole : (ns : List KeptNode) → take (length ns) ns ≡ ns
take_whole [] = refl
take_whole (y ∷ ns) = ap (λ (zs : List KeptNode). y ∷ zs) (take_whole ns)

-- ---- numbered nodes

numbered_append : (unlocked from n : ℕ) (xs : List KeptNode) (x : KeptNode) → n ≡ from + length xs
    → numbered unlocked from (xs ++ x ∷ []) ≡ numbered unlocked from xs ++ (n, unchanged_node unlocked x) ∷ []
numbered_append unlocked from n [] x e = let same : from ≡ n = omega (arith, e) in ap (λ (k : ℕ). (k, unchanged_node unlocked x) ∷ []) same
numbered_append unlocked from n (y ∷ xs) x e =
    ap (λ (zs : List (ℕ × HeldNode)). (from, unchanged_node unlocked y) ∷ zs) (numbered_append unlocked (suc from) n xs x (omega (arith, e)))

pub numbered_at : (unlocked from k q : ℕ) (ns : List KeptNode) → q ≡ from + k → lookup (is_at (nat_cmp q)) (numbered unlocked from ns) ≡ option_map (unchanged_node unlocked) (slice_get ns k)
numbered_at unlocked from k q [] e = refl
numbered_at unlocked from zero q (y ∷ ns) e = rw (at_true q from (omega (arith, e))) refl
numbered_at unlocked from (suc k) q (y ∷ ns) e =
    rw (at_false q from (λ same. omega (arith, e, same))) (numbered_at unlocked (suc from) k q ns (omega (arith, e)))

node_at : (unlocked : ℕ) (ns : List KeptNode) (next : ℕ) (twice : Bool) (q : ℕ) → node_of (loaded unlocked ns next twice) q ≡ option_map (unchanged_node unlocked) (slice_get ns q)
node_at unlocked ns next twice q = numbered_at unlocked 0 q q ns (omega arith)

record CameFrom (ns : List KeptNode) (unlocked q : ℕ) (n : HeldNode) : Type 0 where
  kept : KeptNode
  there : slice_get ns q ≡ Some kept
  is : n ≡ unchanged_node unlocked kept

came : (ns : List KeptNode) (unlocked q : ℕ) (n : HeldNode) (o : Option KeptNode) → slice_get ns q ≡ o → option_map (unchanged_node unlocked) o ≡ Some n → CameFrom ns unlocked q n
came ns unlocked q n None e h = absurd cc
came ns unlocked q n (Some x) e h = record { kept = x; there = e; is = cc }

-- ---- the next node

module _ (unlocked : ℕ) (tree : KeptTree) (is : IsTree tree) (number : ℕ) (x : KeptNode) (there : kept_node_of tree number ≡ Some x) where
  before : HeldTree
  before = loaded unlocked (take number tree.nodes) number tree.twice

  directory_step : (o : Option KeptNode) → slice_get tree.nodes x.parent ≡ o → IsSome (option_and_then (λ (p : KeptNode). folder_in p.what) o) → x.parent < number
      → IsDirectory (loaded unlocked (take number tree.nodes) number tree.twice) x.parent
  directory_step None e folder low = absurd (true≢false (sym folder))
  directory_step (Some p) e folder low = record {
    node = unchanged_node unlocked p;
    there = node_at unlocked (take number tree.nodes) number tree.twice x.parent ∙ ap (option_map (unchanged_node unlocked)) (at_taken tree.nodes number x.parent p low e);
    folder = folder;
  }

  pub directory_for : number ≢ root → IsDirectory (loaded unlocked (take number tree.nodes) number tree.twice) x.parent
  directory_for below = directory_step (slice_get tree.nodes x.parent) refl (is.folders number x there) (is.parents number x there below)

  pub free_for : number ≢ root → IsFree (loaded unlocked (take number tree.nodes) number tree.twice) x.parent x.name
  free_for below k named =
      let from = came (take number tree.nodes) unlocked k named.node (slice_get (take number tree.nodes) k) refl
      (sym (node_at unlocked (take number tree.nodes) number tree.twice k) ∙ named.child.there) in
      let at = taken_at tree.nodes number k from.kept from.there in
      let low = at.below in
      let mine : IsKeptNamed tree x.parent x.name number = record { node = x; child = record { there = there; below = below; inside = refl }; named = refl } in
      let other : IsKeptNamed tree x.parent x.name k = record {
        node = from.kept;
        child = record { there = at.there; below = named.child.below; inside = ap (λ (n : HeldNode). n.kept.parent) (sym from.is) ∙ named.child.inside };
        named = ap (λ (n : HeldNode). n.kept.name) (sym from.is) ∙ named.named;
      } in
      let same = is.names x.parent x.name k number other mine in
      absurd (omega (arith, low, same))

  pub loaded_more : appended (loaded unlocked (take number tree.nodes) number tree.twice) (unchanged_node unlocked x) ≡ loaded unlocked (take (suc number) tree.nodes) (suc number) tree.twice
  loaded_more =
      let len : length (take number tree.nodes) ≡ number = length_taken tree.nodes number x there in
      ap (λ (es : List (ℕ × HeldNode)). record { nodes = es; next = suc number; twice = tree.twice })
      (sym (ap (numbered unlocked 0) (take_more tree.nodes number x there) ∙ numbered_append unlocked 0 number (take number tree.nodes) x (omega (arith, len))))

-- ---- the root

pub empty_names : (names : Names) → names.entries ≡ [] → (parent : ℕ) (name : List ℕ) → number_at names parent name ≡ None
empty_names names e parent name =
    ap (λ (es : List (ℕ × BTreeMap (List ℕ) ℕ)). option_and_then (λ (i : BTreeMap (List ℕ) ℕ). get (slice_cmp nat_cmp) i name) (lookup (is_at (nat_cmp parent)) es)) e

alone : ℕ → KeptNode → Bool → HeldTree
alone unlocked x twice = record { nodes = (0, unchanged_node unlocked x) ∷ []; next = 1; twice = twice }

record IsAlone (unlocked : ℕ) (x : KeptNode) (q : ℕ) (n : HeldNode) : Type 0 where
  number : q ≡ 0
  node_is : n ≡ unchanged_node unlocked x

alone_at : (unlocked : ℕ) (x : KeptNode) (q : ℕ) (n : HeldNode) (b : Bool) → is_at (nat_cmp q) 0 ≡ b → cond b (Some (unchanged_node unlocked x)) None ≡ Some n → IsAlone unlocked x q n
alone_at unlocked x q n true e h = record { number = number_from q 0 e; node_is = cc }
alone_at unlocked x q n false e h = absurd cc

sorted_one : (k : ℕ) → IsStrictlySortedBy nat_cmp (k ∷ [])
unfolding IsStrictlySortedBy
sorted_one k = (tt, tt)

pub only_entry : (es nodes : List (ℕ × HeldNode)) (v w : HeldNode) → es ≡ [] → nodes ≡ insert_entry nat_cmp es 0 v → v ≡ w → nodes ≡ (0, w) ∷ []
only_entry es nodes v w empty put same = put ∙ ap (λ (xs : List (ℕ × HeldNode)). insert_entry nat_cmp xs 0 v) empty ∙ ap (λ (x : HeldNode). (0, x) ∷ []) same

abbrev pub with_one : List (ℕ × HeldNode) → Bool → HeldTree
with_one nodes twice = record { nodes = nodes; next = 1; twice = twice }

pub root_is : (unlocked : ℕ) (x : KeptNode) (twice : Bool) (nodes : List (ℕ × HeldNode)) → nodes ≡ (0, unchanged_node unlocked x) ∷ []
    → with_one nodes twice ≡ loaded unlocked (x ∷ []) 1 twice
root_is unlocked x twice nodes e = ap (λ (ns : List (ℕ × HeldNode)). with_one ns twice) e

load_is : (unlocked : ℕ) (tree : KeptTree) (number : ℕ) (x : KeptNode) (self new : HeldTree) (node : HeldNode) → IsTree tree → kept_node_of tree number ≡ Some x
    → self ≡ loaded unlocked (take number tree.nodes) number tree.twice → node ≡ unchanged_node unlocked x → new ≡ appended self node
    → new ≡ loaded unlocked (take (suc number) tree.nodes) (suc number) tree.twice
load_is unlocked tree number x self new node is there was made app =
    app ∙ ap₂ (λ (t : HeldTree) (n : HeldNode). appended t n) was made ∙ loaded_more unlocked tree is number x there

pub root_held : (empty names : Names) (unlocked : ℕ) (x : KeptNode) (twice : Bool) → x.parent ≡ root → IsSome (folder_in x.what) → empty.entries ≡ [] → IsGrown empty names → has_names names 0 ≡ true
    → (nodes : List (ℕ × HeldNode)) → nodes ≡ (0, unchanged_node unlocked x) ∷ [] → IsHeld names (record { nodes = nodes; next = 1; twice = twice })
root_held empty names unlocked x twice own folder none grown opened nodes e =
    rw e (record {
      ordered = sorted_one 0;
      first = (unchanged_node unlocked x, record { there = refl; own = own; folder = folder });
      parents = λ q n at below. absurd (below (alone_at unlocked x q n (is_at (nat_cmp q) 0) refl at).number);
      numbers = λ q n at. let zero_is = (alone_at unlocked x q n (is_at (nat_cmp q) 0) refl at).number in omega (arith, zero_is);
      versions = λ q n at. subst (λ (m : HeldNode). m.version < 2 ^ 32) (sym (alone_at unlocked x q n (is_at (nat_cmp q) 0) refl at).node_is) (omega arith);
      directories = λ q n at folder. ap (has_names names) (alone_at unlocked x q n (is_at (nat_cmp q) 0) refl at).number ∙ opened;
      named = λ p n k at. let no = sym (grown.numbers p n ∙ empty_names empty none p n) ∙ at in absurd cc;
      found = λ p n k named. absurd (named.child.below (alone_at unlocked x k named.node (is_at (nat_cmp k) 0) refl named.child.there).number);
    })

-- ---- all nodes, one after another

-- the nodes below the next number are loaded, and these are left
pub record IsUnderWay (unlocked : ℕ) (tree : KeptTree) (live : HeldTree) (rest : List KeptNode) : Type 0 where
  pub held : live ≡ loaded unlocked (take live.next tree.nodes) live.next tree.twice
  pub left : rest ≡ drop live.next tree.nodes
  pub begun : live.next ≢ root
  pub within : live.next ≤ length tree.nodes

dropped_at : (ns : List KeptNode) (n : ℕ) (x : KeptNode) (rest : List KeptNode) → x ∷ rest ≡ drop n ns → slice_get ns n ≡ Some x
dropped_at [] zero x rest e = absurd cc
dropped_at [] (suc n) x rest e = absurd cc
dropped_at (y ∷ ns) zero x rest e = cc
dropped_at (y ∷ ns) (suc n) x rest e = dropped_at ns n x rest e

dropped_next : (ns : List KeptNode) (n : ℕ) (x : KeptNode) (rest : List KeptNode) → x ∷ rest ≡ drop n ns → rest ≡ drop (suc n) ns
dropped_next [] zero x rest e = absurd cc
dropped_next [] (suc n) x rest e = absurd cc
dropped_next (y ∷ ns) zero x rest e = cc
dropped_next (y ∷ ns) (suc n) x rest e = dropped_next ns n x rest e

dropped_none : (ns : List KeptNode) (n : ℕ) → length (drop n ns) ≡ 0 → length ns ≤ n
dropped_none [] n e = omega arith
dropped_none (y ∷ ns) zero e = absurd cc
dropped_none (y ∷ ns) (suc n) e = let low = dropped_none ns n e in omega (arith, low)

pub begins : (unlocked : ℕ) (tree : KeptTree) (live : HeldTree) (x : KeptNode) (others rest : List KeptNode) (twice : Bool) → x ∷ others ≡ tree.nodes → live ≡ loaded unlocked (x ∷ []) 1 twice → twice ≡ tree.twice
    → rest ≡ others → IsUnderWay unlocked tree live rest
begins unlocked tree live x others rest twice nodes is same all =
    let one : live.next ≡ 1 = ap (λ (t : HeldTree). t.next) is in
    let first : take 1 tree.nodes ≡ x ∷ [] = ap (take 1) (sym nodes) in
    record {
      held = is ∙ ap (λ (b : Bool). loaded unlocked (x ∷ []) 1 b) same ∙ ap (λ (ns : List KeptNode). loaded unlocked ns 1 tree.twice) (sym first)
          ∙ ap (λ (k : ℕ). loaded unlocked (take k tree.nodes) k tree.twice) (sym one);
      left = all ∙ ap (drop 1) nodes ∙ ap (λ (k : ℕ). drop k tree.nodes) (sym one);
      begun = λ none. omega (arith, none, one);
      within = (let some : length (x ∷ others) ≡ length tree.nodes = ap length nodes in omega (arith, some, one));
    }

module _ (unlocked : ℕ) (tree : KeptTree) (is : IsTree tree) (live : HeldTree) (x : KeptNode) (old rest : List KeptNode) (way : IsUnderWay unlocked tree live old) (step : old ≡ x ∷ rest) (node : HeldNode)
    (made : node ≡ unchanged_node unlocked x) where
  next_there : kept_node_of tree live.next ≡ Some x
  next_there = dropped_at tree.nodes live.next x rest (sym step ∙ way.left)

  pub next_parent : IsDirectory live node.kept.parent
  next_parent =
      let at = directory_for unlocked tree is live.next x next_there way.begun in
      subst (λ (n : HeldNode). IsDirectory live n.kept.parent) (sym made) (subst (λ (t : HeldTree). IsDirectory t x.parent) (sym way.held) at)

  pub next_free : IsFree live node.kept.parent node.kept.name
  next_free =
      let at = free_for unlocked tree is live.next x next_there way.begun in
      subst (λ (n : HeldNode). IsFree live n.kept.parent n.kept.name) (sym made) (subst (λ (t : HeldTree). IsFree t x.parent x.name) (sym way.held) at)

  pub next_number : live.next < length tree.nodes
  next_number = slice_get_within tree.nodes live.next x next_there

  pub goes_on : (new : HeldTree) → new ≡ appended live node → IsUnderWay unlocked tree new rest
  goes_on new app =
      let one : new.next ≡ suc live.next = ap (λ (t : HeldTree). t.next) app in
      record {
        held = load_is unlocked tree live.next x live new node is next_there way.held made app ∙ ap (λ (k : ℕ). loaded unlocked (take k tree.nodes) k tree.twice) (sym one);
        left = dropped_next tree.nodes live.next x rest (sym step ∙ way.left) ∙ ap (λ (k : ℕ). drop k tree.nodes) (sym one);
        begun = λ none. omega (arith, none, one);
        within = omega (arith, one, next_number);
      }

pub loaded_whole : (unlocked : ℕ) (tree : KeptTree) (live : HeldTree) (rest : List KeptNode) → IsUnderWay unlocked tree live rest → length rest ≡ 0 → live ≡ loaded unlocked tree.nodes (length tree.nodes) tree.twice
loaded_whole unlocked tree live rest way none =
    let low = dropped_none tree.nodes live.next (sym (ap length way.left) ∙ none) in
    let all : live.next ≡ length tree.nodes = omega (arith, low, way.within) in
    way.held ∙ ap (λ (k : ℕ). loaded unlocked (take k tree.nodes) k tree.twice) all
    ∙ ap (λ (ns : List KeptNode). loaded unlocked ns (length tree.nodes) tree.twice) (take_whole tree.nodes)

pub rows_whole : (live : HeldTree) (unlocked : ℕ) (tree : KeptTree) → live ≡ loaded unlocked tree.nodes (length tree.nodes) tree.twice → (contents : ℕ → Content) → live_rows contents live ≡ tree_rows contents unlocked tree
rows_whole live unlocked tree e contents = ap (live_rows contents) e ∙ rows_loaded contents unlocked tree.nodes (length tree.nodes) tree.twice
