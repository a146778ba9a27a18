use Rattle.std.proofs.Common.{◌≡◌, Bool, true, false, refl, sym, ◌∙◌}
use Rattle.std.specs.Prelude.{IsTrue, not}
use Rattle.std.specs.Bool.{Decides}
use Rattle.std.proofs.lemmas.Bool.{false≢true}
use Rattle.std.proofs.lemmas.Slice.Eq.{slice_eq-Decides, bytes_eq-Decides}
use Rattle.host_folder.proofs.naming.differ.Goals as goal

not_decides : (r p : Bool) (P : Type 0) → r ≡ not p → Decides p P → (IsTrue r → P → ⊥) × ((P → ⊥) → IsTrue r)
not_decides r true P is same = (λ t p. false≢true (sym is ∙ t), λ n. absurd (n (same.0 refl)))
not_decides r false P is same = (λ t p. false≢true (same.1 p), λ n. is)

pub returns : goal.returns
returns c = not_decides c.ne.result _ (c.args.one.now ≡ c.args.other.now) c.ne.ensures (slice_eq-Decides bytes_eq-Decides c.args.one.now c.args.other.now _ refl)
