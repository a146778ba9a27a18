use Rattle.std.proofs.Common.{refl, sym, ◌∙◌, inl, inr}
use Rattle.vaultd.proofs.starting.serve_if_bound.Goals as goal

pub returns-then-not-is_bound : goal.returns-then-not-is_bound
returns-then-not-is_bound g c = inr (record {
  unbound = sym c.is_bound.ensures ∙ c.if-not-is_bound.true;
  before = _;
  after = _;
  reported = c.report_no_socket.ensures;
  removed = refl;
})

pub returns-in-Ok : goal.returns-in-Ok
returns-in-Ok g c = inl (
  sym c.is_bound.ensures ∙ c.if-not-is_bound.false,
  elim c.in-Ok.ensures [
    | inl run ↦ inl (record { run = run; removed = c.close-removed.ensures })
    | inr said ↦ inr (record { before = _; after = _; reported = said; removed = c.close-removed.ensures })
  ],
)
