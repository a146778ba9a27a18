-- The fids in use as the code keeps them.
use Rattle.std.specs.Prelude.{◌≡◌, ◌+◌, ◌≤◌, vec_len, vec_capacity}
use Rattle.std.specs.Ordering.{nat_cmp}
use Rattle.std.specs.FinMap as map
use Rattle.session_core.specs.declared.fids.FidTable.TheInside.{Inside}
use Rattle.session_core.specs.State.{Fid, fid_limit}
use Rattle.session_core.specs.Entries.{IsStrictlySorted}

abbrev pub table_view : Inside → map.FinMap nat_cmp Fid
table_view t = map.from_entries t.used.items

-- the fids rise, each slot is a fid's or spare, and there is room for all of them on both sides
pub record IsTable (t : Inside) : Type 0 where
  pub sorted : IsStrictlySorted t.used.items
  pub all : vec_len t.used + vec_len t.spare ≡ fid_limit
  pub used_room : fid_limit ≤ vec_capacity t.used
  pub spare_room : fid_limit ≤ vec_capacity t.spare
