-- What an opening owes to whoever commits after it.
use Rattle.std.specs.Prelude.{ℕ, suc, ◌≤◌}
use Rattle.outside.specs.Disk.{Disk}
use Rattle.outside.specs.Images.{Log, now, moment, log_at, IsImage}
use Rattle.chunk_journal.specs.Journal.{RecoversTo, RecoversLike, Recovered, RecoveredLike}
use Rattle.chunk_journal.specs.Opening.{IsOpenable}

-- at each moment since the opening's first sync, each image recovers to what the disk that was found does
abbrev pub StaysFound : Log → Log → Type 0
StaysFound old new = (found : Disk) → RecoversTo (now old) found
    → (m : ℕ) → suc (moment old) ≤ m → m ≤ moment new → (image : Disk) → IsImage (log_at new m) image → RecoversLike found image

-- the same if its batch may not fit
abbrev pub StaysAsFound : Log → Log → Type 0
StaysAsFound old new = (found : Disk) → Recovered (now old) found
    → (m : ℕ) → suc (moment old) ≤ m → m ≤ moment new → (image : Disk) → IsImage (log_at new m) image → RecoveredLike found image

-- at each of these moments, the journal of each image isn't damaged, and can be opened again
abbrev pub StaysOpenable : Log → Log → Type 0
StaysOpenable old new = (m : ℕ) → suc (moment old) ≤ m → m ≤ moment new → (image : Disk) → IsImage (log_at new m) image → IsOpenable image
