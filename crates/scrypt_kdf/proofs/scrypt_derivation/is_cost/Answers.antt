use Rattle.std.proofs.Common.{arith, sym, ◌∙◌}
use Rattle.std.proofs.lemmas.Bool.{false≢true}
use Rattle.scrypt_kdf.proofs.Costs.{IsCost-above, IsCost-is_power, IsCost-from}
use Rattle.scrypt_kdf.proofs.scrypt_derivation.is_cost.Goals as goal
use Rattle.scrypt_kdf.proofs.scrypt_derivation.is_cost.Goals.{then-cost-lt2-via-then-cost-lt2, then-cost-lt2-via-else-cost-lt2+then-r-eq0, then-cost-lt2-via-else-cost-lt2+else-r-eq0+then-p-eq0}

pub returns-then-cost-lt2 : goal.returns-then-cost-lt2
returns-then-cost-lt2 c = (
  λ e. absurd (false≢true e),
  λ h. absurd (elim c.then-cost-lt2.branch [
    | then-cost-lt2-via-then-cost-lt2 w ↦ omega (arith, IsCost-above c.args.cost c.args.r c.args.p h)
    | then-cost-lt2-via-else-cost-lt2+then-r-eq0 w ↦ omega (arith, h.block)
    | then-cost-lt2-via-else-cost-lt2+else-r-eq0+then-p-eq0 w ↦ omega (arith, h.parts)
  ]),
)

pub returns : goal.returns
returns c = (
  λ e. IsCost-from c.args.cost c.args.r c.args.p (sym c.is_power_of_two.ensures ∙ e) (omega arith) (omega arith) (omega arith),
  λ h. c.is_power_of_two.ensures ∙ IsCost-is_power c.args.cost c.args.r c.args.p h,
)
