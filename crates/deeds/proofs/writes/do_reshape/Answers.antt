use Rattle.std.proofs.Common.{◌≡◌, ◌+◌, ℕ, ◌∷◌, [], List, drop, subst, arith}
use Rattle.std.proofs.lemmas.Result.{err_from_is_err_and}
use Rattle.outside.specs.Calls.{Changes, IsUnfit}
use Rattle.outside.specs.Changes.{Write, SetLen, CanDo}
use Rattle.outside.specs.Images.{now, HasDone, HasBroken}
use Rattle.deeds.proofs.Doing.{split_at}
use Rattle.deeds.proofs.Phases.{cause_then}
use Rattle.deeds.proofs.Growing.{broke_grown, did_grown, grown_at}
use Rattle.deeds.proofs.Reshaping.{not_reshaped, wrote, tore_amid, tore_stays, write_left, write_unfit, cut_amid, cut_does, cut_left, cut_stays, cut_unfit, uncut_amid, uncut_stays}
use Rattle.deeds.proofs.writes.do_reshape.Given.{Over}
use Rattle.deeds.proofs.writes.do_reshape.Goals as goal
use Rattle.deeds.proofs.writes.do_reshape.Goals.{After-range-item, After-write, In_err-write, In_ok-write, In_err-set_len, In_ok-set_len}

-- the range that is written
here : (g : Over) (c : After-range-item g) → drop c.loop-range.range-index c.args.ranges.now ≡ c.range-item.result ∷ drop (c.loop-range.range-index + 1) c.args.ranges.now
here g c = split_at c.args.ranges.now c.loop-range.range-index c.range-item.result (omega arith) c.range-item.is

-- its bytes are those that the call writes
tore : (g : Over) (c : In_err-write g) → Changes (g.F.Reads.log c.loop-range.folder) (g.F.Reads.log c.write.new.self) (HasBroken (Write c.args.path.now c.range-item.result.at c.range-item.result.bytes.items))
tore g c = subst (λ (t : List ℕ). Changes (g.F.Reads.log c.loop-range.folder) (g.F.Reads.log c.write.new.self) (HasBroken (Write c.args.path.now c.range-item.result.at t))) c.deref.ensures.value c.in_err-write.ensures.broken

-- what an error of the write says of the range itself
abbrev Unfit : (g : Over) (c : In_err-write g) → List ℕ → Type 0
Unfit g c bytes = IsUnfit (g.F.Reads.log c.loop-range.folder) (g.F.Reads.faults c.loop-range.folder) (g.F.Reads.faults c.write.new.self) (λ log. CanDo (Write c.args.path.now c.range-item.result.at bytes) (now log))

unfit : (g : Over) (c : In_err-write g) → Unfit g c c.deref.result.now → Unfit g c c.range-item.result.bytes.items
unfit g c is = subst (Unfit g c) c.deref.ensures.value is

pub loop-range-init : goal.loop-range-init
loop-range-init g c = not_reshaped c.args.path.now c.args.len c.args.ranges.now (g.F.Reads.log c.args.folder.now) (g.F.Reads.faults c.args.folder.now)

pub loop-range-preserved : goal.loop-range-preserved
loop-range-preserved g c =
    let b = g.F.Reads.log c.loop-range.folder in
    let d = g.F.Reads.log c.write.new.self in
    wrote c.loop-range.invariant c.requires d (g.F.Reads.faults c.write.new.self) (here g (goal.at.loop-range-preserved g c).After-range-item) (omega arith) c.range-item.is
    (subst (λ (t : List ℕ). Changes b d (HasDone (Write c.args.path.now c.range-item.result.at t))) c.deref.ensures.value c.in_ok-write.ensures.done) c.in_ok-write.ensures.cause.later

pub returns-in_err-write-clause-amid : goal.returns-in_err-write-clause-amid
returns-in_err-write-clause-amid g c =
    let at = goal.at.returns-in_err-write-clause-amid g c in
    tore_amid c.loop-range.invariant c.requires (g.F.Reads.log c.write.new.self) (g.F.Reads.faults c.write.new.self) (here g at.After-range-item) (tore g at.In_err-write)

pub returns-in_err-write-clause-refused : goal.returns-in_err-write-clause-refused
returns-in_err-write-clause-refused g c =
    let at = goal.at.returns-in_err-write-clause-refused g c in
    tore_stays c.loop-range.invariant c.requires (g.F.Reads.log c.write.new.self) (g.F.Reads.faults c.write.new.self) (here g at.After-range-item) (tore g at.In_err-write)

pub returns-in_err-write-clause-grown : goal.returns-in_err-write-clause-grown
returns-in_err-write-clause-grown g c =
    let b = g.F.Reads.log c.loop-range.folder in
    let d = g.F.Reads.log c.write.new.self in
    let broke = broke_grown (Write c.args.path.now c.range-item.result.at c.range-item.result.bytes.items) b d (tore g (goal.at.returns-in_err-write-clause-grown g c).In_err-write) in
    grown_at (c.args.path.now ∷ []) (g.F.Reads.log c.args.folder.now) b d c.loop-range.invariant.grown broke

pub returns-in_err-write-clause-unfit : goal.returns-in_err-write-clause-unfit
returns-in_err-write-clause-unfit g c =
    let at = goal.at.returns-in_err-write-clause-unfit g c in
    let q = err_from_is_err_and c.from_residual.result c.from_residual.ensures.1 in
    rw (q.1, q.2) (λ e. write_unfit c.loop-range.invariant c.requires (g.F.Reads.log c.write.new.self) (g.F.Reads.faults c.write.new.self) (here g at.After-range-item) (unfit g at.In_err-write (c.in_err-write.ensures.unfit e)))

pub returns-in_err-write-clause-left : goal.returns-in_err-write-clause-left
returns-in_err-write-clause-left g c =
    let at = goal.at.returns-in_err-write-clause-left g c in
    let q = err_from_is_err_and c.from_residual.result c.from_residual.ensures.1 in
    rw (q.1, q.2) (λ e. write_left c.loop-range.invariant c.requires (g.F.Reads.log c.write.new.self) (g.F.Reads.faults c.write.new.self) (here g at.After-range-item) (tore g at.In_err-write)
    (unfit g at.In_err-write (c.in_err-write.ensures.unfit e)))

pub returns-in_err-write-clause-cause : goal.returns-in_err-write-clause-cause
returns-in_err-write-clause-cause g c =
    let q = err_from_is_err_and c.from_residual.result c.from_residual.ensures.1 in
    rw (q.1, q.2) (cause_then (g.F.Reads.faults c.args.folder.now) (g.F.Reads.faults c.loop-range.folder) (g.F.Reads.faults c.write.new.self) _ c.loop-range.invariant.later c.in_err-write.ensures.cause)

-- ---- the cut

pub returns-in_err-set_len-clause-amid : goal.returns-in_err-set_len-clause-amid
returns-in_err-set_len-clause-amid g c = uncut_amid c.loop-range.invariant c.requires (g.F.Reads.log c.set_len.new.self) (g.F.Reads.faults c.set_len.new.self) c.in_err-set_len.ensures.broken

pub returns-in_err-set_len-clause-refused : goal.returns-in_err-set_len-clause-refused
returns-in_err-set_len-clause-refused g c = uncut_stays c.loop-range.invariant c.requires (g.F.Reads.log c.set_len.new.self) (g.F.Reads.faults c.set_len.new.self) (omega arith) c.in_err-set_len.ensures.broken

pub returns-in_err-set_len-clause-grown : goal.returns-in_err-set_len-clause-grown
returns-in_err-set_len-clause-grown g c =
    let b = g.F.Reads.log c.loop-range.folder in
    let d = g.F.Reads.log c.set_len.new.self in
    grown_at (c.args.path.now ∷ []) (g.F.Reads.log c.args.folder.now) b d c.loop-range.invariant.grown (broke_grown (SetLen c.args.path.now c.args.len) b d c.in_err-set_len.ensures.broken)

pub returns-in_err-set_len-clause-unfit : goal.returns-in_err-set_len-clause-unfit
returns-in_err-set_len-clause-unfit g c =
    let q = err_from_is_err_and c.from_residual-in_err-set_len.result c.from_residual-in_err-set_len.ensures.1 in
    rw (q.1, q.2) (λ e. cut_unfit c.loop-range.invariant c.requires (g.F.Reads.log c.set_len.new.self) (g.F.Reads.faults c.set_len.new.self) (omega arith) (c.in_err-set_len.ensures.unfit e))

pub returns-in_err-set_len-clause-left : goal.returns-in_err-set_len-clause-left
returns-in_err-set_len-clause-left g c =
    let q = err_from_is_err_and c.from_residual-in_err-set_len.result c.from_residual-in_err-set_len.ensures.1 in
    rw (q.1, q.2) (λ e. cut_left c.loop-range.invariant c.requires (g.F.Reads.log c.set_len.new.self) (g.F.Reads.faults c.set_len.new.self) (omega arith) c.in_err-set_len.ensures.broken (c.in_err-set_len.ensures.unfit e))

pub returns-in_err-set_len-clause-cause : goal.returns-in_err-set_len-clause-cause
returns-in_err-set_len-clause-cause g c =
    let q = err_from_is_err_and c.from_residual-in_err-set_len.result c.from_residual-in_err-set_len.ensures.1 in
    rw (q.1, q.2) (cause_then (g.F.Reads.faults c.args.folder.now) (g.F.Reads.faults c.loop-range.folder) (g.F.Reads.faults c.set_len.new.self) _ c.loop-range.invariant.later c.in_err-set_len.ensures.cause)

pub returns-clause-done : goal.returns-clause-done
returns-clause-done g c = cut_does c.loop-range.invariant c.requires (g.F.Reads.log c.set_len.new.self) (g.F.Reads.faults c.set_len.new.self) (omega arith) c.in_ok-set_len.ensures.done

pub returns-clause-amid : goal.returns-clause-amid
returns-clause-amid g c = cut_amid c.loop-range.invariant c.requires (g.F.Reads.log c.set_len.new.self) (g.F.Reads.faults c.set_len.new.self) c.in_ok-set_len.ensures.done

pub returns-clause-refused : goal.returns-clause-refused
returns-clause-refused g c = cut_stays c.loop-range.invariant c.requires (g.F.Reads.log c.set_len.new.self) (g.F.Reads.faults c.set_len.new.self) (omega arith) c.in_ok-set_len.ensures.done

pub returns-clause-grown : goal.returns-clause-grown
returns-clause-grown g c =
    let b = g.F.Reads.log c.loop-range.folder in
    let d = g.F.Reads.log c.set_len.new.self in
    grown_at (c.args.path.now ∷ []) (g.F.Reads.log c.args.folder.now) b d c.loop-range.invariant.grown (did_grown (SetLen c.args.path.now c.args.len) b d c.in_ok-set_len.ensures.done)

pub returns-clause-cause : goal.returns-clause-cause
returns-clause-cause g c = record { later = omega (arith, c.loop-range.invariant.later, c.in_ok-set_len.ensures.cause.later); rose = λ failed. absurd cc }
