use Rattle.std.proofs.Common.{◌≡◌, ◌-◌, drop}
use Rattle.mem_host.specs.Entries.{names_of}
use Rattle.mem_host.proofs.names.MemNames.from_entries.Given as goal

abbrev pub invariant-loop-back : goal.invariant-loop-back
invariant-loop-back l = l.names ≡ names_of (drop (l.count - l.back) l.entries)
