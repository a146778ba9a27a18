-- What a change of a file's bytes needs, by what was seen of the file.
use Rattle.std.proofs.Common.{◌≡◌, ℕ, Bool, List, Some, IsSome, Contains, refl, sym, subst, inr}
use Rattle.outside.specs.Disk.{Path}
use Rattle.outside.specs.Changes.{Change, Put, Write, SetLen, CanDo}
use Rattle.host_calls.specs.declared.found.Inode.{Inode}
use Rattle.host_calls.specs.Volume.{File, entry_at}
use Rattle.host_calls.specs.Story.{Story, names_now, volume_now, disk_now, bytes_now}
use Rattle.host_calls.specs.Calls.{IsLongFile}
use Rattle.host_calls.proofs.Volumes.{file_in}
use Rattle.host_calls.proofs.Parts.{IsBytesAt}
use Rattle.host_folder.specs.Held.{IsHeld}
use Rattle.host_folder.proofs.Keeping.{held_tree}
use Rattle.host_folder.proofs.Answering.{IsWriting}

-- by where the file is
writing : (change : Change) (p : Path) (inode : Inode) (s : Story) (touched moved : List Path) (failed : Bool) → IsHeld s touched moved failed → entry_at (names_now s) p ≡ Some (File inode) → ¬ Contains moved p
    → Contains touched p → IsBytesAt change p → CanDo change (disk_now s) → IsWriting change p inode touched moved failed s
writing change p inode s touched moved failed held there unmoved here bytes_at can = record { held = held; there = there; unmoved = unmoved; here = here; bytes_at = bytes_at; can = can }

pub to_write : (p : Path) (inode : Inode) (at : ℕ) (bytes : List ℕ) (s : Story) (touched moved : List Path) (failed : Bool) → IsHeld s touched moved failed → IsLongFile p inode at s → ¬ Contains moved p → Contains touched p
    → IsWriting (Write p at bytes) p inode touched moved failed s
to_write p inode at bytes s touched moved failed held long unmoved here =
    writing (Write p at bytes) p inode s touched moved failed held long.there unmoved here refl (bytes_now s inode, file_in (volume_now s) p inode long.there, long.long)

pub to_cut : (p : Path) (inode : Inode) (n : ℕ) (s : Story) (touched moved : List Path) (failed : Bool) → IsHeld s touched moved failed → IsLongFile p inode n s → ¬ Contains moved p → Contains touched p
    → IsWriting (SetLen p n) p inode touched moved failed s
to_cut p inode n s touched moved failed held long unmoved here =
    writing (SetLen p n) p inode s touched moved failed held long.there unmoved here refl (bytes_now s inode, file_in (volume_now s) p inode long.there, long.long)

pub to_replace : (p : Path) (inode : Inode) (bytes : List ℕ) (s : Story) (touched moved : List Path) (failed : Bool) → IsHeld s touched moved failed → entry_at (names_now s) p ≡ Some (File inode) → ¬ Contains moved p → Contains touched p
    → IsWriting (Put p bytes) p inode touched moved failed s
to_replace p inode bytes s touched moved failed held there unmoved here =
    let is = file_in (volume_now s) p inode there in
    writing (Put p bytes) p inode s touched moved failed held there unmoved here refl
    (record { inside = (held_tree s touched moved failed held).parents p (subst IsSome (sym is) refl); free = inr (bytes_now s inode, is) })
