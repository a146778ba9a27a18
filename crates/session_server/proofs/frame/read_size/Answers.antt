use Rattle.std.proofs.Common.{ℕ, arith, ◌<◌, ◌≤◌, length}
use Rattle.std.proofs.lemmas.List.{length-take}
use Rattle.session_server.proofs.Stops.{cut_size, fault_size}
use Rattle.session_server.proofs.frame.read_size.Goals as goal

pub returns-in-Ended-clause-stops : goal.returns-in-Ended-clause-stops
returns-in-Ended-clause-stops g c =
    let few : c.in-Ended.had < 4 = omega (arith, c.in-Ended.ensures.short.0, length-take {A = ℕ}) in
    let fits : c.in-Ended.had ≤ length c.read_full.new.out = omega (arith, c.in-Ended.ensures.short.0, c.read_full.auto.out) in
    let some : 0 < c.in-Ended.had = omega (arith, c.in-Ended.had-test) in
    λ stage. cut_size stage _ _ c.in-Ended.had c.read_full.new.out some few fits c.in-Ended.ensures.bytes c.in-Ended.ensures.short.1

pub returns-in-Fault-clause-stops : goal.returns-in-Fault-clause-stops
returns-in-Fault-clause-stops g c =
    let few : c.in-Fault.field-0 < 4 = omega (arith, c.in-Fault.ensures.short, length-take {A = ℕ}) in
    let fits : c.in-Fault.field-0 ≤ length c.read_full.new.out = omega (arith, c.in-Fault.ensures.short, c.read_full.auto.out) in
    λ stage. fault_size stage _ _ c.in-Fault.field-0 c.read_full.new.out few fits c.in-Fault.ensures.bytes
