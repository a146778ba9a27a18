use Rattle.std.proofs.Common.{inl, inr}
use Rattle.vault_top.proofs.program.report_in_use.Goals as goal

pub returns : goal.returns
returns g c = elim c.report.ensures.written [
  | inl taken ↦ (taken.0, inl taken.1)
  | inr cut ↦ (cut.1, inr (cut.0, cut.2))
]
