use Rattle.std.proofs.Common.{◌≡◌, ℕ, List, Option, Result, Ok, Err, IfErr, IsErr}
use Rattle.std.specs.Prelude.{IsErrOf}
use Rattle.std.specs.Result.{is_ok}
use Rattle.outside.specs.Calls.{HasCause, Told}
use Rattle.outside.specs.Disk.{Disk}
use Rattle.outside.specs.Images.{Log, now}
use Rattle.deeds.specs.declared.phase.DeedErr.{DeedErr}
use Rattle.deeds.specs.declared.phase.DeedErr.TheVariants as errors
use Rattle.deeds.specs.Deeds.{PlainDeed, DoesAll, IfUnfit, IsRefusal, IsRefusedAt, in_order}
use Rattle.deeds.specs.Plain.{plains}
use Rattle.chunk_journal.proofs.Gate.{deeds_cause}
use Rattle.chunk_journal.proofs.running.do_deeds.Goals as goal

-- an error of the deeds has the cause of its kind, and of what fits each error is a failure
mapped_cause : {E : Type 0} (ds : List PlainDeed) (deeds : Result (Unit {0}) DeedErr) (mapped : Result (Unit {0}) E) (log : Option Log) (a b : ℕ)
    → is_ok mapped ≡ is_ok deeds → Told log (λ l. (after : Disk) × DoesAll (in_order ds) (now l) after)
    → HasCause a b (IsErrOf deeds errors.Failed) → IfErr deeds (λ error. IfUnfit error (λ index. IsRefusal log a b (IsRefusedAt ds index))) → HasCause a b (IsErr mapped)
mapped_cause ds (Ok x) (Ok y) log a b same can cause unfit = record { later = cause.later; rose = λ failed. cc }
mapped_cause ds (Ok x) (Err y) log a b same can cause unfit = cc
mapped_cause ds (Err error) mapped log a b same can cause unfit = deeds_cause ds error log a b (IsErr mapped) can cause unfit

pub returns-clause-cause : goal.returns-clause-cause
returns-clause-cause g c =
    mapped_cause (plains c.args.deeds.now) c.do_batch.result c.map_err.result (g.D.Reads.log c.args.folder.now) (g.D.Reads.faults c.args.folder.now) (g.D.Reads.faults c.do_batch.new.folder)
    c.map_err.ensures.variant c.requires.can c.do_batch.ensures.cause c.do_batch.ensures.unfit
