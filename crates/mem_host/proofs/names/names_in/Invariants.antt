use Rattle.std.proofs.Common.{◌≡◌, ◌++◌}
use Rattle.std.specs.BTreeMap.{keys}
use Rattle.mem_host.proofs.Listing.{names_below}
use Rattle.mem_host.proofs.names.names_in.Given as goal

abbrev pub invariant-loop-path : goal.invariant-loop-path
invariant-loop-path l = l.names.items ++ names_below l.folder l.path-iterator ≡ names_below l.folder (keys l.held)
