-- The folders alone determine the nodes: whatever function says who is first, the nodes are the same.
use Rattle.std.proofs.Common.{◌≡◌, ◌&&◌, ℕ, zero, suc, ◌≤◌, length, arith, Bool, true, false, cond, List, [], ◌∷◌, Option, Some, None, refl, sym, ap, ap₂, ◌∙◌, true≢false}
use Rattle.std.specs.declared.cmp.Ordering.{Ordering}
use Rattle.std.specs.declared.cmp.Ordering.TheVariants.{Less, Equal, Greater}
use Rattle.std.specs.Cmp.Lexicographic.{slice_cmp}
use Rattle.std.specs.Ordering.{is_gt, nat_cmp, ordering_then, ordering_reverse}
use Rattle.std.specs.FinMap.{slice_cmp-IsAntisymmetric, nat_cmp-IsAntisymmetric}
use Rattle.std.proofs.lemmas.Cmp.{nat_list_cmp_total}
use Rattle.std.proofs.lemmas.Bool.{cond-true}
use Rattle.clear_tree.specs.Walk.{Path, same_path, walk_cmp, Sealing, Kind, Folders, Node, File, Link, Dir, Bad, look, node, below, node_at, claimed, IsOwner, is_good, Plain, Named, Linked, Bare}
use Rattle.clear_tree.proofs.Change.{below_agree}
use Rattle.clear_tree.proofs.Owner.{node_agree, child_claim}

then_gt : (a b : Ordering) → is_gt (ordering_then a b) ≡ false → is_gt a ≡ false
then_gt Less b h = refl
then_gt Equal b h = refl
then_gt Greater b h = h

pub walk_length : (p q : Path) → is_gt (walk_cmp p q) ≡ false → length p ≤ length q
walk_length [] q h = omega arith
walk_length (m ∷ p) [] h = absurd (true≢false h)
walk_length (m ∷ p) (n ∷ q) h = let k : length p ≤ length q = walk_length p q (then_gt (walk_cmp p q) (slice_cmp nat_cmp m n) h) in omega (arith, k)

reverse_then : (a b : Ordering) → ordering_then (ordering_reverse a) (ordering_reverse b) ≡ ordering_reverse (ordering_then a b)
reverse_then Less b = refl
reverse_then Equal b = refl
reverse_then Greater b = refl

pub walk_antisymm : (p q : Path) → walk_cmp p q ≡ ordering_reverse (walk_cmp q p)
walk_antisymm [] [] = refl
walk_antisymm [] (n ∷ q) = refl
walk_antisymm (m ∷ p) [] = refl
walk_antisymm (m ∷ p) (n ∷ q) = ap₂ ordering_then (walk_antisymm p q) (nat_list_cmp_total.antisymm m n) ∙ reverse_then (walk_cmp q p) (slice_cmp nat_cmp n m)

then_parts : (a b : Ordering) → ordering_then a b ≡ Equal → (a ≡ Equal) × (b ≡ Equal)
then_parts Less b h = absurd (cc)
then_parts Equal b h = (refl, h)
then_parts Greater b h = absurd (cc)

pub walk_equal : (p q : Path) → walk_cmp p q ≡ Equal → p ≡ q
walk_equal [] [] h = refl
walk_equal [] (n ∷ q) h = absurd (cc)
walk_equal (m ∷ p) [] h = absurd (cc)
walk_equal (m ∷ p) (n ∷ q) h =
    let k : (walk_cmp p q ≡ Equal) × (slice_cmp nat_cmp m n ≡ Equal) = then_parts (walk_cmp p q) (slice_cmp nat_cmp m n) h in
    ap₂ (λ (x : List ℕ) (y : Path). x ∷ y) (slice_cmp-IsAntisymmetric nat_cmp-IsAntisymmetric m n k.1) (walk_equal p q k.0)

neither : (a b : Ordering) → a ≡ ordering_reverse b → is_gt a ≡ false → is_gt b ≡ false → a ≡ Equal
neither Less Less e h k = absurd (cc)
neither Less Equal e h k = absurd (cc)
neither Less Greater e h k = absurd (true≢false k)
neither Equal b e h k = refl
neither Greater b e h k = absurd (true≢false h)

pub walk_same : (p q : Path) → is_gt (walk_cmp p q) ≡ false → is_gt (walk_cmp q p) ≡ false → p ≡ q
walk_same p q h k = walk_equal p q (neither (walk_cmp p q) (walk_cmp q p) (walk_antisymm p q) h k)

-- what a node names does not depend on who has the folder
pub node_claim : (s : Sealing) (v : Folders) (o o' : List ℕ → Path) (p : Path) (e : Option Kind) → claimed s (node s v o p e) ≡ claimed s (node s v o' p e)
node_claim s v o o' p None = refl
node_claim s v o o' p (Some (Plain b)) = refl
node_claim s v o o' p (Some (Linked b)) = refl
node_claim s v o o' p (Some Bare) = refl
node_claim s v o o' p (Some (Named t)) = go (s.valid_id t) refl (is_good s v o p t) (is_good s v o' p t) refl refl
  where
    go : (b : Bool) → s.valid_id t ≡ b → (g g' : Bool) → is_good s v o p t ≡ g → is_good s v o' p t ≡ g' → claimed s (Some (cond g (Dir t) (Bad t))) ≡ claimed s (Some (cond g' (Dir t) (Bad t)))
    go b e true true h h' = refl
    go b e false false h h' = refl
    go true e true false h h' = sym (cond-true (s.valid_id t) _ _ e)
    go true e false true h h' = cond-true (s.valid_id t) _ _ e
    go false e true g' h h' = absurd (true≢false (sym h ∙ ap (λ (z : Bool). (z && (v.present (s.folder_of t) && same_path (o (s.folder_of t)) p))) e))
    go false e false true h h' = absurd (true≢false (sym h' ∙ ap (λ (z : Bool). (z && (v.present (s.folder_of t) && same_path (o' (s.folder_of t)) p))) e))

below_claim : (s : Sealing) (v : Folders) (o o' : List ℕ → Path) (p : Path) (m : List ℕ) (x : Option Node) → claimed s (below s v o p m x) ≡ claimed s (below s v o' p m x)
below_claim s v o o' p m None = refl
below_claim s v o o' p m (Some (Dir i)) = node_claim s v o o' p (look s v i m)
below_claim s v o o' p m (Some (File c)) = refl
below_claim s v o o' p m (Some (Link c)) = refl
below_claim s v o o' p m (Some (Bad t)) = refl

module _ (s : Sealing) (v : Folders) (o o' : List ℕ → Path) (own : IsOwner s v o) (own' : IsOwner s v o') where
  abbrev AgreeTo : ℕ → Type 0
  AgreeTo k = (q : Path) → length q ≤ k → node_at s v o' q ≡ node_at s v o q

  claims_to : (k : ℕ) → AgreeTo k → (q : Path) → length q ≤ suc k → claimed s (node_at s v o' q) ≡ claimed s (node_at s v o q)
  unfolding node_at
  claims_to k h [] l = refl
  claims_to k h (m ∷ q) l = below_claim s v o' o (m ∷ q) m (node_at s v o' q) ∙ ap (λ (x : Option Node). claimed s (below s v o (m ∷ q) m x)) (h q (omega (arith, l)))

  owners_to : (k : ℕ) → AgreeTo k → (q : Path) (f : List ℕ) → length q ≤ suc k → claimed s (node_at s v o q) ≡ Some f → o' f ≡ o f
  owners_to k h q f l c =
      let first : is_gt (walk_cmp (o f) q) ≡ false = own.first q f c in
      let c' : claimed s (node_at s v o' q) ≡ Some f = claims_to k h q l ∙ c in
      let first' : is_gt (walk_cmp (o' f) q) ≡ false = own'.first q f c' in
      let l1 : length (o f) ≤ suc k = (let a : length (o f) ≤ length q = walk_length (o f) q first in omega (arith, a, l)) in
      let l2 : length (o' f) ≤ suc k = (let a : length (o' f) ≤ length q = walk_length (o' f) q first' in omega (arith, a, l)) in
      let d : claimed s (node_at s v o' (o f)) ≡ Some f = claims_to k h (o f) l1 ∙ own.holds q f c in
      let d' : claimed s (node_at s v o (o' f)) ≡ Some f = sym (claims_to k h (o' f) l2) ∙ own'.holds q f c' in
      walk_same (o' f) (o f) (own'.first (o f) f d) (own.first (o' f) f d')

  step : (k : ℕ) → AgreeTo k → AgreeTo (suc k)
  unfolding node_at
  step k h [] l = refl
  step k h (m ∷ q) l =
      ap (below s v o' (m ∷ q) m) (h q (omega (arith, l)))
      ∙ below_agree s v v o o' (m ∷ q) (m ∷ q) m (node_at s v o q) (λ j hj.
      node_agree s v v o o' (m ∷ q) (m ∷ q) (look s v j m) (λ t is valid.
      (refl, ap (λ (z : Path). same_path z (m ∷ q)) (owners_to k h (m ∷ q) (s.folder_of t) l (child_claim s v o m j t q hj is valid)))))

  agree_to : (k : ℕ) → AgreeTo k
  unfolding node_at
  agree_to zero [] l = refl
  agree_to zero (m ∷ q) l = absurd (omega (arith, l))
  agree_to (suc k) q l = step k (agree_to k) q l

  pub one_tree : (q : Path) → node_at s v o' q ≡ node_at s v o q
  one_tree q = agree_to (length q) q (omega arith)
