-- Images at the last moment, and of a journal at rest.
use Rattle.std.proofs.Common.{◌≡◌, ℕ, ◌-◌, List, length, drop, refl, ap, subst, inl, arith}
use Rattle.outside.specs.Disk.{Disk}
use Rattle.outside.specs.Images.{Call, Log, now, moment, log_at, IsImage}
use Rattle.chunk_journal.specs.Journal.{IsQuiet, IsReopenable, RecoversTo}
use Rattle.chunk_journal.proofs.Gate.{shut_reopens}

drop_none : (calls : List Call) (n : ℕ) → n ≡ 0 → drop n calls ≡ calls
drop_none calls n e = ap (λ (k : ℕ). drop k calls) e

at_end : (log : Log) (m : ℕ) → m ≡ moment log → log_at log m ≡ log
at_end log m same = λ i. record { start = log.start; calls = drop_none log.calls (length log.calls - m) (omega (arith, same)) i }

pub at_now : (log : Log) (m : ℕ) (image : Disk) → m ≡ moment log → IsImage (log_at log m) image → IsImage log image
at_now log m image same is = subst (λ (l : Log). IsImage l image) (at_end log m same) is

-- what reads give at rest is what it recovers to
pub rest_recovers : (log : Log) → IsQuiet log → RecoversTo (now log) (now log)
rest_recovers log rest = inl (rest.closed, refl)

-- and can be opened again
pub rest_reopens : (log : Log) → IsQuiet log → IsReopenable (now log)
rest_reopens log rest = shut_reopens (now log) rest.closed rest.no_folder
