-- What is at a path after a change, and paths that are equal or not.
use Rattle.std.proofs.Common.{◌≡◌, ◌≢◌, Bool, true, false, cond, Option, Some, None, refl, sym, ap, ◌∙◌, true≢false}
use Rattle.std.specs.Bool.{Decides}
use Rattle.std.proofs.lemmas.Bool.{false_from_ne_true}
use Rattle.std.specs.Ordering.{eq_by_cmp, nat_cmp}
use Rattle.std.specs.Cmp.{IsTotalOrder}
use Rattle.std.specs.Cmp.Lexicographic.{slice_cmp, lists_total, lists_ties, texts_ties, nat_list_cmp_total}
use Rattle.std.specs.FinMap as map
use Rattle.std.proofs.lemmas.Slice.Eq.{slice_eq-Decides, bytes_eq-Decides}
use Rattle.outside.specs.Disk.{Disk, Path, path_cmp, Node, node_at}
use Rattle.outside.specs.Changes.{set_at}

-- paths are totally ordered
pub paths_total : IsTotalOrder path_cmp
paths_total = lists_total nat_list_cmp_total

-- and two that compare equal are one
pub paths_apart : map.IsAntisymmetric path_cmp
paths_apart = map.slice_cmp-IsAntisymmetric (map.slice_cmp-IsAntisymmetric map.nat_cmp-IsAntisymmetric)

-- the order decides whether two paths are equal
pub path_decides : (q p : Path) → Decides (eq_by_cmp path_cmp q p) (q ≡ p)
path_decides q p = slice_eq-Decides bytes_eq-Decides q p (eq_by_cmp path_cmp q p) (sym (lists_ties (slice_cmp nat_cmp) texts_ties q p))

decided : {C P : Type 0} (b : Bool) → Decides b P → (P → C) → ((P → ⊥) → C) → C
decided true d same other = same (d.0 refl)
decided false d same other = other (λ p. true≢false (sym (d.1 p)))

-- two paths are equal or not
pub by_path : {C : Type 0} (q p : Path) → (q ≡ p → C) → (q ≢ p → C) → C
by_path q p same other = decided (eq_by_cmp path_cmp q p) (path_decides q p) same other

at_set : (disk : Disk) (p : Path) (v : Option Node) (q : Path) (b : Bool) → eq_by_cmp path_cmp q p ≡ b → node_at (set_at disk p v) q ≡ cond b v (node_at disk q)
at_set disk p None q b e = map.get-remove paths_total disk p q ∙ ap (λ t. cond t None (node_at disk q)) e
at_set disk p (Some node) q b e = map.get-insert paths_total disk p node q ∙ ap (λ t. cond t (Some node) (node_at disk q)) e

-- what was set is at its path
pub set_here : (disk : Disk) (p : Path) (v : Option Node) (q : Path) → q ≡ p → node_at (set_at disk p v) q ≡ v
set_here disk p v q e = at_set disk p v q true ((path_decides q p).1 e)

-- and elsewhere nothing changed
pub set_there : (disk : Disk) (p : Path) (v : Option Node) (q : Path) → q ≢ p → node_at (set_at disk p v) q ≡ node_at disk q
set_there disk p v q ne = at_set disk p v q false (false_from_ne_true _ (λ e. ne ((path_decides q p).0 e)))

-- disks with the same at each path are one
pub same_disk : (a b : Disk) → ((q : Path) → node_at a q ≡ node_at b q) → a ≡ b
same_disk a b same = map.same_map paths_total paths_apart a b same
