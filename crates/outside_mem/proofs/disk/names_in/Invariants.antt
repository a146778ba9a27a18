use Rattle.std.proofs.Common.{◌≡◌, ◌++◌}
use Rattle.std.specs.BTreeMap.{keys}
use Rattle.outside_mem.proofs.Names.{names_below}
use Rattle.outside_mem.proofs.disk.names_in.Given as goal

abbrev pub invariant-loop-path : goal.invariant-loop-path
invariant-loop-path l = l.names.items ++ names_below l.folder l.path-iterator ≡ names_below l.folder (keys l.held)
