-- What a change answers of a story.
use Rattle.std.specs.Prelude.{◌≡◌, Result, Ok, Err}
use Rattle.outside.specs.declared.folder.FolderErr.{FolderErr}
use Rattle.outside.specs.declared.folder.FolderErr.TheVariants.{Failed, Unfit, Memory}
use Rattle.outside.specs.Changes.{Change, CanDo}
use Rattle.outside.specs.Images.{Did, Synced, HasDone, HasBroken, adds, now}
use Rattle.host_calls.specs.Story.{Story}
use Rattle.host_calls.specs.Calls.{HasNoted, HasNotedBreak}

-- the log has the change, or the change doesn't fit, or it may have broken off
abbrev pub IsAnswer : {T : Type 0} → Change → Result T FolderErr → Story → Story → Type 0
IsAnswer change (Ok x) old new = HasDone change old.diary new.diary
IsAnswer change (Err Unfit) old new = (new.diary ≡ old.diary) × ¬ CanDo change (now old.diary)
IsAnswer change (Err Failed) old new = HasBroken change old.diary new.diary
IsAnswer change (Err Memory) old new = ⊥

-- the diary got what a call answered
abbrev pub IsNoted : {T : Type 0} → Change → Result T FolderErr → Story → Story → Type 0
IsNoted change (Ok x) old new = HasNoted (Did change) old new
IsNoted change (Err Unfit) old new = new ≡ old
IsNoted change (Err Failed) old new = HasNotedBreak change old new
IsNoted change (Err Memory) old new = new ≡ old

-- the log is what it was
abbrev pub IsSameLog : Story → Story → Type 0
IsSameLog old new = new.diary ≡ old.diary

-- the log has a sync more
abbrev pub HasSynced : Story → Story → Type 0
HasSynced old new = new.diary ≡ adds old.diary Synced
