use Rattle.std.proofs.Common.{arith, ◌-◌, ◌<◌, ◌≤◌, length, drop}
use Rattle.std.proofs.lemmas.List.{length-take, length-drop}
use Rattle.session_server.proofs.Stops.{completes, cut_rest, fault_rest}
use Rattle.session_server.proofs.frame.read_rest.Goals as goal

pub returns-in-Whole-clause-bytes : goal.returns-in-Whole-clause-bytes
returns-in-Whole-clause-bytes g c =
    completes _ _ c.args.size c.args.frame.now c.read_full.new.out c.requires.low c.requires.high c.read_full.auto.out c.in-Whole.ensures.bytes

pub returns-in-Ended-clause-stops : goal.returns-in-Ended-clause-stops
returns-in-Ended-clause-stops g c =
    let few : c.in-Ended.had < c.args.size - 4 =
    omega (arith, c.in-Ended.ensures.short.0, length-take (c.args.size - 4) (drop 4 c.args.frame.now), length-drop 4 c.args.frame.now)
    in
    let fits : c.in-Ended.had ≤ length c.read_full.new.out = omega (arith, c.in-Ended.ensures.short.0, c.read_full.auto.out) in
    λ stage good. cut_rest stage _ _ c.args.size c.args.frame.now c.read_full.new.out c.in-Ended.had good c.requires.size (omega arith) few fits
    c.in-Ended.ensures.bytes c.in-Ended.ensures.short.1

pub returns-in-Fault-clause-stops : goal.returns-in-Fault-clause-stops
returns-in-Fault-clause-stops g c =
    let few : c.in-Fault.field-0 < c.args.size - 4 =
    omega (arith, c.in-Fault.ensures.short, length-take (c.args.size - 4) (drop 4 c.args.frame.now), length-drop 4 c.args.frame.now)
    in
    let fits : c.in-Fault.field-0 ≤ length c.read_full.new.out = omega (arith, c.in-Fault.ensures.short, c.read_full.auto.out) in
    λ stage good. fault_rest stage _ _ c.args.size c.args.frame.now c.read_full.new.out c.in-Fault.field-0 good c.requires.size (omega arith) few fits
    c.in-Fault.ensures.bytes
