use Rattle.std.proofs.Common.{Option, subst, inr, arith}
use Rattle.outside.specs.Calls.{Changes, next_of}
use Rattle.outside.specs.Images.{Log}
use Rattle.outside.specs.Views.{folder_in}
use Rattle.chunk_journal.specs.Opening.{StaysOpening}
use Rattle.unlocking.specs.Found.{unlocked_data}
use Rattle.vault_top.specs.Span.{course, source_in, IsOnlyRead}
use Rattle.vault_top.proofs.Opened.{closed_by, now_first, recovers}
use Rattle.vault_top.proofs.opening.open_vault.Goals as goal

pub returns-in-Ok-open-clause-opened : goal.returns-in-Ok-open-clause-opened
returns-in-Ok-open-clause-opened g c =
    let e = c.in-Ok.ensures in
    record {
      vault = unlocked_data c.in-Ok.unlocked;
      unlocked = record { gave = e.unlocked; line = e.line };
      looked = c.unlock.new.folder;
      read = record { log = e.log; changes = e.changes; faults = e.folder.later };
      unseen = e.unseen;
      now = c.now.result;
      second = now_first _ _ _ c.now.ensures;
      opened = c.in-Ok-open.ensures.opened.opened;
      threshold = c.in-Ok-open.ensures.opened.threshold_is;
      later = c.in-Ok-open.ensures.opened.later;
    }

pub returns-in-Err-open-clause-unopened : goal.returns-in-Err-open-clause-unopened
returns-in-Err-open-clause-unopened g c =
    let view = folder_in g.D.Reads in
    let looked = c.unlock.new.folder in
    let kept = c.in-Err-open.field-0.folder in
    let e = c.in-Ok.ensures in
    let o = c.in-Err-open.ensures.refused in
    let vault = unlocked_data c.in-Ok.unlocked in
    let read : IsOnlyRead (view c.args.folder) (view looked) = record { log = e.log; changes = e.changes; faults = e.folder.later } in
    let stays : Changes (view c.args.folder).log (view kept).log StaysOpening = subst (λ (l : Option Log). Changes l (view kept).log StaysOpening) read.log o.refused in
    record {
      why = inr (record {
        vault = vault;
        unlocked = record { gave = e.unlocked; line = e.line };
        error = c.in-Err-open.field-0.cause;
        is = c.cause_of.ensures;
        closed = closed_by view (course (source_in g.S.Source) c.args.secret.now c.unlock.new.secret) (next_of (g.K.Clock.to_give c.args.clock.now))
            c.args.folder looked kept vault c.in-Err-open.field-0.cause read (record {
              damaged = o.damaged;
              left = o.left;
              too_many = λ n is. (o.too_many n is).1;
              no_root = λ is. (o.no_root is).1;
              many_opened = λ n is. (o.too_many n is).0;
              bare_opened = λ is. (o.no_root is).0;
              rose = o.cause.rose;
            });
        stays = stays;
        recovers = recovers vault.keys (view c.args.folder).log (view kept).log stays;
      });
      later = omega (arith, e.folder.later, o.cause.later);
    }
