use Rattle.outside.specs.Views.{folder_in}
use Rattle.unlocking.specs.Found.{unlocked_data}
use Rattle.vault_top.specs.Span.{IsOnlyRead}
use Rattle.std.proofs.Common.{inr}
use Rattle.vault_top.proofs.Opened.{now_first, opened_over, read_on, refused_over}
use Rattle.vault_top.proofs.opening.open_to_read.Goals as goal

pub returns-in-Ok-open-clause-opened : goal.returns-in-Ok-open-clause-opened
returns-in-Ok-open-clause-opened g c =
    let view = folder_in g.D.Reads in
    let e = c.in-Ok.ensures in
    let read : IsOnlyRead (view c.args.folder) (view c.unlock.new.folder) = record { log = e.log; changes = e.changes; faults = e.folder.later } in
    record {
      unlocked_vault = unlocked_data c.in-Ok.unlocked;
      unlocked = record { gave = e.unlocked; line = e.line };
      now = c.now.result;
      second = now_first _ _ _ c.now.ensures;
      opened = opened_over read c.in-Ok-open.ensures.opened;
    }

pub returns-in-Err-open-clause-unread : goal.returns-in-Err-open-clause-unread
returns-in-Err-open-clause-unread g c =
    let view = folder_in g.D.Reads in
    let e = c.in-Ok.ensures in
    let read : IsOnlyRead (view c.args.folder) (view c.unlock.new.folder) = record { log = e.log; changes = e.changes; faults = e.folder.later } in
    let refused = c.in-Err-open.ensures.refused in
    record {
      why = inr (record {
        vault = unlocked_data c.in-Ok.unlocked;
        unlocked = record { gave = e.unlocked; line = e.line };
        error = c.in-Err-open.field-0.cause;
        is = c.reading_cause.ensures;
        refused = refused_over read refused;
      });
      read = read_on read refused.read;
    }
