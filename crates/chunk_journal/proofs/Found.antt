-- What an image recovers to is one disk, and an opening keeps it.
use Rattle.std.proofs.Common.{◌≡◌, ◌⊎◌, ℕ, suc, ◌≤◌, List, refl, sym, ap, subst, ◌∙◌, inl, inr, arith}
use Rattle.outside.specs.Disk.{Disk}
use Rattle.outside.specs.Images.{Log, Synced, adds, now, moment, log_at, IsImage, LeavesOnly}
use Rattle.outside.proofs.Moments.{started}
use Rattle.deeds.specs.Deeds.{PlainDeed, DoesAll, in_order}
use Rattle.deeds.specs.Applying.{Applies}
use Rattle.deeds.proofs.Applying.{applies_one}
use Rattle.deeds.proofs.Doing.{same_run}
use Rattle.chunk_journal.specs.Journal.{HoldsBatch, IsFound, IsUnheld, IsReopenable, RecoversTo, RecoversLike, Recovered, IsAlike, StaysRecovered, TidySince}
use Rattle.chunk_journal.specs.Opening.{IsOpening, StaysOpening, HasOpened}
use Rattle.chunk_journal.specs.Commits.{StaysFound, StaysAsFound}
use Rattle.chunk_journal.proofs.Gate.{closed_not_held, one_held}

-- ---- both ways to recover: to what the whole batch leaves, and to what it leaves as far as it fits

-- a disk that holds no batch is left as it is
abbrev HoldsNone : Disk → Disk → Type 0
HoldsNone image disk = IsUnheld image × (disk ≡ image)

abbrev HoldsSome : (List PlainDeed → Disk → Disk → Type 0) → Disk → Disk → Type 0
HoldsSome Leaves image disk = (deeds : List PlainDeed) × HoldsBatch image deeds × Leaves (in_order deeds) image disk

-- an image recovers to what is alike to this, and can be opened again
abbrev Like : (Disk → Disk → Type 0) → Disk → Disk → Type 0
Like To after image = (disk : Disk) × To image disk × IsAlike after disk × IsReopenable image

-- An image recovers to itself where it holds no batch, and else to the one disk that its deeds leave; and doing them again keeps that.
record IsRecovery (To : Disk → Disk → Type 0) (Leaves : List PlainDeed → Disk → Disk → Type 0) : Type 0 where
  cases : (image disk : Disk) → To image disk → HoldsNone image disk ⊎ HoldsSome Leaves image disk
  one : (deeds : List PlainDeed) (old a b : Disk) → Leaves deeds old a → Leaves deeds old b → a ≡ b
  stays : (deeds : List PlainDeed) (old new : Log) → StaysRecovered deeds old new → (after : Disk) → Leaves (in_order deeds) (now old) after → LeavesOnly old new (Like To after)

module _ (To : Disk → Disk → Type 0) (Leaves : List PlainDeed → Disk → Disk → Type 0) (recovery : IsRecovery To Leaves) where
  once_by : (image one other : Disk) → HoldsNone image one ⊎ HoldsSome Leaves image one → HoldsNone image other ⊎ HoldsSome Leaves image other → one ≡ other
  once_by image one other (inl none) (inl empty) = none.1 ∙ sym empty.1
  once_by image one other (inl none) (inr held) = absurd (none.0 held.0 held.1)
  once_by image one other (inr held) (inl none) = absurd (none.0 held.0 held.1)
  once_by image one other (inr (deeds, held, run)) (inr (others, again, more)) =
      recovery.one (in_order others) image one other (subst (λ (ds : List PlainDeed). Leaves (in_order ds) image one) (one_held image deeds others held again) run) more

  once : (image one other : Disk) → To image one → To image other → one ≡ other
  once image one other a b = once_by image one other (recovery.cases image one a) (recovery.cases image other b)

  -- an opening that found no batch is over with its sync, and one that found a batch stays recovered
  keeps_by : (old new : Log) (found : Disk) → IsOpening old new → IsReopenable (now old) → To (now old) found → HoldsNone (now old) found ⊎ HoldsSome Leaves (now old) found → LeavesOnly (adds old Synced) new (Like To found)
  keeps_by old new found opening fit recovers (inl none) =
      let over : new ≡ adds old Synced = opening.untouched (λ deeds is. none.0 deeds is.open_gate) in
      let here : LeavesOnly (adds old Synced) (adds old Synced) (Like To found) = started (adds old Synced) (Like To found) (λ c image.
      subst (Like To found) (sym (opening.steady.durable c image)) (found, recovers, (λ q ne nm. refl), fit)) in
      subst (λ (l : Log). LeavesOnly (adds old Synced) l (Like To found)) (sym over) here
  keeps_by old new found opening fit recovers (inr (deeds, held, run)) =
      let is : IsFound deeds (adds old Synced) = record { steady = opening.steady; open_gate = held; no_folder = fit.no_folder } in
      recovery.stays deeds (adds old Synced) new (opening.stays deeds (fit.repeatable deeds held) is) found run

  keeps : (old new : Log) (found : Disk) → IsOpening old new → IsReopenable (now old) → To (now old) found → LeavesOnly (adds old Synced) new (Like To found)
  keeps old new found opening fit recovers = keeps_by old new found opening fit recovers (recovery.cases (now old) found recovers)

  stays_like : (old new : Log) → StaysOpening old new → IsReopenable (now old) → (found : Disk) → To (now old) found
      → (m : ℕ) → suc (moment old) ≤ m → m ≤ moment new → (image : Disk) → IsImage (log_at new m) image → Like To found image
  stays_like old new (inl same) fit found recovers m from to image is = absurd (omega (arith, from, to, ap moment same))
  stays_like old new (inr opening) fit found recovers m from to image is = (keeps old new found opening fit recovers).each m from to image is

-- ---- whole

whole_cases : (image disk : Disk) → RecoversTo image disk → HoldsNone image disk ⊎ HoldsSome DoesAll image disk
whole_cases image disk (inl shut) = inl ((λ deeds held. closed_not_held image deeds shut.0 held), shut.1)
whole_cases image disk (inr held) = inr held

whole : IsRecovery RecoversTo DoesAll
whole = record { cases = whole_cases; one = same_run; stays = λ deeds old new recovered. recovered.whole }

pub recovers_once : (image one other : Disk) → RecoversTo image one → RecoversTo image other → one ≡ other
recovers_once = once RecoversTo DoesAll whole

pub opening_keeps : (old new : Log) (found : Disk) → IsOpening old new → IsReopenable (now old) → RecoversTo (now old) found → LeavesOnly (adds old Synced) new (RecoversLike found)
opening_keeps = keeps RecoversTo DoesAll whole

pub stays_found : (old new : Log) → StaysOpening old new → IsReopenable (now old) → StaysFound old new
stays_found = stays_like RecoversTo DoesAll whole

-- ---- as far as the batch fits

applied : IsRecovery Recovered Applies
applied = record { cases = λ image disk recovered. recovered; one = applies_one; stays = λ deeds old new recovered. recovered.applied }

pub recovered_once : (image one other : Disk) → Recovered image one → Recovered image other → one ≡ other
recovered_once = once Recovered Applies applied

pub stays_as_found : (old new : Log) → StaysOpening old new → IsReopenable (now old) → StaysAsFound old new
stays_as_found = stays_like Recovered Applies applied

-- ---- what isn't on the disk

pub stays_tidy : (old new : Log) → StaysOpening old new → IsReopenable (now old) → TidySince (suc (moment old)) new
stays_tidy old new (inl same) fit m from to = absurd (omega (arith, from, to, ap moment same))
stays_tidy old new (inr opening) fit m from to = (opening.tidy fit.repeatable).each m from to

-- ---- an opening that ended well

pub opened_alike : (old new : Log) (found : Disk) → HasOpened old new → RecoversTo (now old) found → IsAlike found (now new)
opened_alike old new found opened recovers = subst (λ (d : Disk). IsAlike d (now new)) (recovers_once (now old) opened.disk found opened.recovers recovers) opened.alike
