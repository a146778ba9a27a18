use Rattle.std.proofs.Common.{◌≡◌, ℕ, List, refl, subst, ◌∙◌}
use Rattle.outside.specs.Calls.{Rose}
use Rattle.vault_top.specs.Span.{Course, SinkView}
use Rattle.vault_top.specs.Writing.{IsWritten}
use Rattle.vaultd.specs.Starting.{SaysSync, sync_status, sync_text}
use Rattle.vaultd.specs.declared.syncing.SyncEnd.{SyncEnd}
use Rattle.vaultd.proofs.syncing.sync_at.Goals as goal

-- what was written says it
says : (sink : Course SinkView) (end : SyncEnd) (text : List ℕ) (whole status : ℕ) → text ≡ sync_text end → whole ≡ sync_status end
    → IsWritten (Rose sink.before.faults sink.after.faults) sink.before.taken sink.after.taken text whole 4 status → SaysSync sink end status
says sink end text whole status text_is whole_is written =
    let IsSo : List ℕ → ℕ → Type 0 = λ (t : List ℕ) (w : ℕ). IsWritten (Rose sink.before.faults sink.after.faults) sink.before.taken sink.after.taken t w 4 status in
    subst (λ (w : ℕ). IsSo (sync_text end) w) whole_is (subst (λ (t : List ℕ). IsSo t whole) text_is written)

pub returns : goal.returns
returns g c = record {
  end = c.in_ok-end.end;
  asked = c.in_ok-end.ensures;
  before = _;
  after = _;
  reported = says _ _ _ _ _ (c.as_bytes.ensures.value ∙ c.line.ensures) c.status.ensures c.report.ensures.written;
  removed = refl;
}
