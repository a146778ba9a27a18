use Rattle.std.proofs.Common.{◌∙◌, refl, inl, inr}
use Rattle.vault_top.proofs.Written.{written_as}
use Rattle.vault_top.proofs.program.report_demonstration.Goals as goal

pub returns-in-Ok : goal.returns-in-Ok
returns-in-Ok g c =
    record {
      folder = refl;
      demonstrated = λ d are.
          let held = c.in-Ok.ensures d are in
          inl (record {
            text = held.0;
            closed = c.in-Ok.field-0.store;
            store_is = refl;
            held = held.2;
            reported = written_as _ _ _ _ _ 0 4 c.report.result (c.deref.ensures.value ∙ held.1) c.report.ensures.written;
          });
    }

pub returns-in-Err : goal.returns-in-Err
returns-in-Err g c = record { folder = refl; demonstrated = λ d are. inr (refl, c.refuse.ensures) }
