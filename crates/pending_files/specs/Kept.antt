-- The deeds that wait as the code keeps them, with the room for those to come.
use Rattle.std.specs.Prelude.{◌≡◌, ℕ, zero, suc, ◌+◌, ◌≤◌, ◌<◌, List, [], ◌∷◌, IsTrue, IsFalse, vec_len, vec_capacity}
use Rattle.outside.specs.Disk.{Path}
use Rattle.deeds.specs.Reshape.{Ranges}
use Rattle.std.specs.List.{AllByRecursion}
use Rattle.std.specs.declared.vec.Vec.{Vec}
use Rattle.std.specs.declared.alloc.Global.{Global}
use Rattle.deeds.specs.declared.writes.Range.{Range}
use Rattle.deeds.specs.declared.deed.Deed.{Deed}
use Rattle.deeds.specs.declared.deed.Deed.TheVariants.{MakeDir, Put, Rename, Remove, RemoveDir, Reshape}
use Rattle.deeds.specs.Deeds.{PlainDeed}
use Rattle.deeds.specs.Plain.{plains}
use Rattle.pending_files.specs.Pending.{is_at, ArePending, chunk_count, sealed_length}
use Rattle.pending_files.specs.declared.room.TheConstants.{MOST}
use Rattle.pending_files.specs.declared.pending.Pending.TheInside.{Inside}

-- a buffer that takes a whole sealed chunk
abbrev pub IsBuffer : Vec ℕ Global → Type 0
IsBuffer buffer = sealed_length ≤ vec_capacity buffer

abbrev pub InBuffer : Range → Type 0
InBuffer range = IsBuffer range.bytes

-- a list that takes as many ranges as can wait
pub record IsList (list : Vec Range Global) : Type 0 where
  pub room : MOST ≤ vec_capacity list
  pub buffers : AllByRecursion InBuffer list.items

pub record IsEmptyList (list : Vec Range Global) : Type 0 where
  pub room : MOST ≤ vec_capacity list
  pub empty : list.items ≡ []

abbrev pub InList : Deed → Type 0
InList (Reshape path len ranges) = IsList ranges
InList (MakeDir path) = ⊥
InList (Put path bytes) = ⊥
InList (Rename from to) = ⊥
InList (Remove path) = ⊥
InList (RemoveDir path) = ⊥

-- spare buffers, with room for all that are in use
pub record AreBuffers (buffers : Vec (Vec ℕ Global) Global) : Type 0 where
  pub room : MOST ≤ vec_capacity buffers
  pub each : AllByRecursion IsBuffer buffers.items

pub record AreLists (lists : Vec (Vec Range Global) Global) : Type 0 where
  pub room : MOST ≤ vec_capacity lists
  pub each : AllByRecursion IsEmptyList lists.items

pub record AreLent (deeds : Vec Deed Global) : Type 0 where
  pub room : MOST ≤ vec_capacity deeds
  pub each : AllByRecursion InList deeds.items

abbrev pub plain_deeds : Inside → List PlainDeed
plain_deeds p = plains p.deeds.items

-- what waits and what is spare are as many lists and as many buffers as can wait
pub record IsKept (p : Inside) : Type 0 where
  pub pending : ArePending (plains p.deeds.items)
  pub deeds : AreLent p.deeds
  pub lists : AreLists p.lists
  pub buffers : AreBuffers p.buffers
  pub all_lists : vec_len p.deeds + vec_len p.lists ≡ MOST
  pub all_buffers : chunk_count (plains p.deeds.items) + vec_len p.buffers ≡ MOST

-- the first deed of the file is at this index
abbrev pub IsIndexOf : Path → List PlainDeed → ℕ → Type 0
IsIndexOf path [] index = ⊥
IsIndexOf path (deed ∷ deeds) zero = IsTrue (is_at path deed)
IsIndexOf path (deed ∷ deeds) (suc index) = IsFalse (is_at path deed) × IsIndexOf path deeds index

-- this many ranges begin before the place, and the next one, if any, doesn't
abbrev pub IsGap : ℕ → Ranges → ℕ → Type 0
IsGap at [] count = count ≡ 0
IsGap at (range ∷ ranges) zero = at ≤ range.0
IsGap at (range ∷ ranges) (suc count) = (range.0 < at) × IsGap at ranges count
