use Rattle.std.proofs.Common.{Option, Some, None, Bor, sym, subst, ap}
use Rattle.std.proofs.lemmas.Result.{IfOk-weaker}
use Rattle.std.specs.Option.{option_copied}
use Rattle.outside.specs.Calls.{Told}
use Rattle.outside.specs.Images.{disk_in}
use Rattle.name_places.specs.declared.directory.NewDirectory.{NewDirectory}
use Rattle.name_places.specs.Asked.{IsTaken}
use Rattle.name_places.proofs.Asking.{none_found, place_told, taken_first, taken_rest}
use Rattle.name_places.proofs.taking.taken.Goals as goal

pub returns-in-Some-clause-taken : goal.returns-in-Some-clause-taken
returns-in-Some-clause-taken g c =
    taken_first (disk_in (g.R.Reads.log c.args.folder.now)) c.args.parent.now c.args.place.now c.args.live.now c.args.claims.now (option_copied c.args.drawn) c.in-Some.path
    (place_told (disk_in (g.R.Reads.log c.args.folder.now)) c.args.parent.now c.as_bytes.result.now c.args.place.now.text c.in_ok-path.field-0 (Some c.in-Some.path) (cc c.in-Some.is) c.as_bytes.ensures
    c.in_ok-path.ensures.taken)

pub returns-in-Some-drawn-clause-taken : goal.returns-in-Some-drawn-clause-taken
returns-in-Some-drawn-clause-taken g c =
    IfOk-weaker c.taken_folder.result _ _
    (λ found told.
    subst (λ (o : Option (Bor NewDirectory)). Told (disk_in (g.R.Reads.log c.args.folder.now)) (IsTaken c.args.parent.now c.args.place.now (option_copied o) c.args.live.now c.args.claims.now found))
    (sym c.in-Some-drawn.is)
    (taken_rest (disk_in (g.R.Reads.log c.args.folder.now)) c.args.parent.now c.args.place.now c.args.live.now c.args.claims.now c.in-Some-drawn.directory.now
    (disk_in (g.R.Reads.log c.taken_place.new.folder)) found (ap disk_in c.taken_place.ensures.log)
    (place_told (disk_in (g.R.Reads.log c.args.folder.now)) c.args.parent.now c.as_bytes.result.now c.args.place.now.text c.in_ok-path.field-0 None
    (none_found c.in_ok-path.field-0 c.in_default.not-Some) c.as_bytes.ensures c.in_ok-path.ensures.taken)
    told))
    c.taken_folder.ensures.taken
