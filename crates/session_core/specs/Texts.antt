-- The texts of Rerror messages.
use Rattle.std.specs.Prelude.{ℕ, List, codes}
use Rattle.tree_model.specs.declared.refusal.Refusal.{Refusal}
use Rattle.tree_model.specs.declared.refusal.Refusal.TheVariants as refusals

-- ---- what a session itself refuses

abbrev pub unknown_message : List ℕ
unknown_message = codes "unknown message"

abbrev pub bad_message : List ℕ
bad_message = codes "bad message"

abbrev pub no_version : List ℕ
no_version = codes "no version"

abbrev pub message_size_too_small : List ℕ
message_size_too_small = codes "message size too small"

abbrev pub authentication_not_required : List ℕ
authentication_not_required = codes "authentication not required"

abbrev pub unknown_fid : List ℕ
unknown_fid = codes "unknown fid"

abbrev pub fid_in_use : List ℕ
fid_in_use = codes "fid in use"

abbrev pub too_many_fids : List ℕ
too_many_fids = codes "too many fids"

abbrev pub fid_is_open : List ℕ
fid_is_open = codes "fid is open"

abbrev pub fid_is_not_open : List ℕ
fid_is_not_open = codes "fid is not open"

abbrev pub bad_offset : List ℕ
bad_offset = codes "bad offset"

-- these two the tree refuses with too
abbrev pub not_permitted : List ℕ
not_permitted = codes "not permitted"

abbrev pub is_a_directory : List ℕ
is_a_directory = codes "is a directory"

-- ---- what the tree refuses

abbrev pub refusal_text : Refusal → List ℕ
refusal_text refusals.Removed = codes "removed"
refusal_text refusals.NotADirectory = codes "not a directory"
refusal_text refusals.IsADirectory = codes "is a directory"
refusal_text refusals.BadName = codes "bad name"
refusal_text refusals.NameTooLong = codes "name too long"
refusal_text refusals.FileDoesNotExist = codes "file does not exist"
refusal_text refusals.FileExists = codes "file exists"
refusal_text refusals.NotPermitted = codes "not permitted"
refusal_text refusals.DirectoryNotEmpty = codes "directory not empty"
refusal_text refusals.CountTooSmall = codes "count too small"
refusal_text refusals.FileTooLarge = codes "file too large"
refusal_text refusals.GapTooLarge = codes "gap too large"
refusal_text refusals.OneChangeAtATime = codes "one change at a time"
refusal_text refusals.VaultFull = codes "vault full"
refusal_text refusals.Damaged = codes "damaged"
refusal_text refusals.Foreign = codes "foreign"
refusal_text (refusals.PlaceTaken path) = codes "place taken"
refusal_text (refusals.Stopped entry) = codes "stopped"
refusal_text (refusals.Exhausted ticket) = codes "exhausted"
refusal_text refusals.DeviceFault = codes "device fault"
refusal_text refusals.RandomFault = codes "random fault"
refusal_text refusals.OutOfMemory = codes "out of memory"
