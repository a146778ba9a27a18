use Rattle.std.proofs.Common.{◌≡◌}
use Rattle.std.specs.Prelude.{vec_len}
use Rattle.pending_files.specs.Kept.{AreLists}
use Rattle.pending_files.proofs.room.new_lists.Given as goal

abbrev pub invariant-loop : goal.invariant-loop
invariant-loop l = record { are : AreLists l.lists; count : vec_len l.lists ≡ l.counter }
