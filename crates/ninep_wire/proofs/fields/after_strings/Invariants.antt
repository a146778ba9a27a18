use Rattle.std.proofs.Common.{◌≡◌, ◌-◌}
use Rattle.ninep_wire.specs.Reading.{rest_of, strings_at}
use Rattle.ninep_wire.proofs.fields.after_strings.Given as goal

abbrev pub invariant-loop : goal.invariant-loop
invariant-loop l = rest_of (strings_at (l.count - l.counter) l.rest) ≡ rest_of (strings_at l.count l.bytes)
