-- Which images of a folder are listed, of all that a stop may leave.
use Rattle.std.specs.Prelude.{◌≡◌, ◌⊎◌, ⊤, List, [], ◌∷◌, ◌++◌, map}
use Rattle.outside.specs.Disk.{Disk}
use Rattle.outside.specs.Changes.{Change, CanDo, done}
use Rattle.outside.specs.Images.{Call, Did, Broke, Synced, Log, disk_after, now}
use Rattle.outside_mem.specs.Held.{Holding}
use Rattle.outside_mem.specs.Kept.{filled}

-- the changes since the last sync, the newest first; one that broke off counts whole
abbrev pub changes_since : List Call → List Change
changes_since [] = []
changes_since (Did change ∷ older) = change ∷ changes_since older
changes_since (Broke change left ∷ older) = change ∷ changes_since older
changes_since (Synced ∷ older) = []

-- the disk at the last sync, or at the start if there was none
abbrev pub synced_disk : Disk → List Call → Disk
synced_disk start [] = start
synced_disk start (Did change ∷ older) = synced_disk start older
synced_disk start (Broke change left ∷ older) = synced_disk start older
synced_disk start (Synced ∷ older) = disk_after start older

-- ---- the changes of each picture

-- of a change amid newer and older ones: all but it, it alone, and all with it filled
abbrev pub three_of : List Change → Change → List Change → List (List Change)
three_of newer change older = (newer ++ older) ∷ (change ∷ []) ∷ (newer ++ filled change ∷ older) ∷ []

-- those of each of the changes after the newer ones
abbrev pub three_of_each : List Change → List Change → List (List Change)
three_of_each newer [] = []
three_of_each newer (change ∷ older) = three_of newer change older ++ three_of_each (newer ++ change ∷ []) older

-- none of them, all, all filled, and three of each from the newest on
abbrev pub pictured : List Change → List (List Change)
pictured since = [] ∷ since ∷ map filled since ∷ three_of_each [] since

-- ---- the disk of a picture

-- a change was made if it can be, and if it can't be nothing was
abbrev pub IsTried : Change → Disk → Disk → Type 0
IsTried change old new = (CanDo change old × (new ≡ done change old)) ⊎ (¬ CanDo change old × (new ≡ old))

-- so was each of them, the oldest first
abbrev pub AreTried : List Change → Disk → Disk → Type 0
AreTried [] old new = new ≡ old
AreTried (change ∷ older) old new = (before : Disk) × AreTried older old before × IsTried change before new

-- each folder holds the disk of its picture, one folder for each
abbrev pub ArePictures : Disk → List (List Change) → List Holding → Type 0
ArePictures synced [] [] = ⊤
ArePictures synced (changes ∷ more) (image ∷ images) = AreTried changes synced (now image.log) × ArePictures synced more images
ArePictures synced [] (image ∷ images) = ⊥
ArePictures synced (changes ∷ more) [] = ⊥
