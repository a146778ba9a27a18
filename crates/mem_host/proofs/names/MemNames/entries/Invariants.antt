use Rattle.std.proofs.Common.{◌≡◌, ◌++◌}
use Rattle.mem_host.specs.Entries.{names_of}
use Rattle.mem_host.proofs.names.MemNames.entries.Given as goal

abbrev pub invariant-loop-path : goal.invariant-loop-path
invariant-loop-path l = names_of (l.entries.items ++ l.path-iterator) ≡ l.self
