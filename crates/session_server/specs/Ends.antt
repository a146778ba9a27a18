-- How sessions ended, and how many of them so.
use Rattle.std.specs.Prelude.{◌≡◌, ℕ, ◌+◌, ◌<◌, ◌^◌, List, length, Bool, true, false, filter}
use Rattle.session_server.specs.declared.ending.SessionEnd.{SessionEnd}
use Rattle.session_server.specs.declared.ending.SessionEnd.TheVariants as ends
use Rattle.session_server.specs.declared.counts.SessionCounts.{SessionCounts}

abbrev pub is_done : SessionEnd → Bool
is_done ends.Done = true
is_done end = false

abbrev pub is_cut : SessionEnd → Bool
is_cut (ends.Cut had wanted) = true
is_cut end = false

abbrev pub is_bad : SessionEnd → Bool
is_bad (ends.BadFrame size) = true
is_bad end = false

abbrev pub is_read_fault : SessionEnd → Bool
is_read_fault ends.ReadFault = true
is_read_fault end = false

abbrev pub is_write_fault : SessionEnd → Bool
is_write_fault ends.WriteFault = true
is_write_fault end = false

abbrev pub is_memory : SessionEnd → Bool
is_memory ends.Memory = true
is_memory end = false

abbrev pub is_limit : SessionEnd → Bool
is_limit ends.Limit = true
is_limit end = false

abbrev pub count_of : (SessionEnd → Bool) → List SessionEnd → ℕ
count_of test served = length (filter test served)

-- how many sessions there were, and how many of them ended in each way
pub record AreCounts (counts : SessionCounts) (ends : List SessionEnd) : Type 0 where
  pub sessions : counts.sessions ≡ length ends
  pub done : counts.done ≡ count_of is_done ends
  pub cut : counts.cut ≡ count_of is_cut ends
  pub bad : counts.bad ≡ count_of is_bad ends
  pub read : counts.read ≡ count_of is_read_fault ends
  pub write : counts.write ≡ count_of is_write_fault ends
  pub memory : counts.memory ≡ count_of is_memory ends
  pub limit : counts.limit ≡ count_of is_limit ends

-- both count the ends of some sessions, of which there are fewer than 2^32 together
pub record CanAdd (counts others : SessionCounts) : Type 0 where
  pub ends : List SessionEnd
  pub other_ends : List SessionEnd
  pub counted : AreCounts counts ends
  pub others_counted : AreCounts others other_ends
  pub few : length ends + length other_ends < 2 ^ 32
