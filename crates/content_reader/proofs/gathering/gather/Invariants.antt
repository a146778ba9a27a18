use Rattle.std.proofs.Common.{◌≡◌, ◌≤◌, ◌-◌, ℕ, List, length, take, Some}
use Rattle.vault_keys.specs.Keys.{KeyPair}
use Rattle.tree_model.specs.Rows.{slice_of}
use Rattle.file_chunks.specs.File.{content_of}
use Rattle.content_reader.specs.Reading.{IsSpan}
use Rattle.content_reader.proofs.gathering.gather.Given as goal

-- the front of the slice, as far as it is gathered
abbrev pub invariant-loop-done : goal.invariant-loop-done
invariant-loop-done l = record {
  within : l.done ≤ l.count;
  room : length l.clear ≡ 32768;
  so_far : (keys : KeyPair) (bytes : List ℕ) → IsSpan keys l.header l.at l.count l.sealed bytes → slice_of (content_of keys bytes) l.at l.done ≡ Some (take l.done l.out);
}

abbrev pub decreases-loop-done : goal.decreases-loop-done
decreases-loop-done l = l.count - l.done
