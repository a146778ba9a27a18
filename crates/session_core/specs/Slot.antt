-- What a session's code keeps of a fid, as clauses see it.
use Rattle.std.specs.Prelude.{ℕ, ◌≤◌, Some, None, if◌then◌else◌}
use Rattle.std.specs.Option.{option_map, option_copied}
use Rattle.std.specs.String.{string_bytes, string_capacity}
use Rattle.session_core.specs.declared.slot.Slot.TheInside.{Inside}
use Rattle.session_core.specs.declared.slot.OpenFid.{OpenFid}
use Rattle.session_core.specs.declared.slot.Place.{Place}
use Rattle.session_core.specs.State.{Opened, Fid}

-- the bytes of a name that a slot has room for
abbrev pub name_room : ℕ
name_room = 1024

abbrev pub slot_view : Inside → Fid
slot_view s = record {
  node = s.node;
  is_dir = s.is_dir;
  opened = option_map
      (λ o. record { mode = o.mode; offset = o.offset; count = o.count; last = if o.has_last then Some (string_bytes s.last) else None })
      s.opening;
}

abbrev pub HasRoom : Inside → Type 0
HasRoom s = name_room ≤ string_capacity s.last

-- an open fid, but not where the name lies in memory
abbrev pub plain_opened : OpenFid → Opened
plain_opened o = record { mode = o.mode; offset = o.offset; count = o.count; last = option_copied o.last }

abbrev pub plain_open_fid : OpenFid → Fid
plain_open_fid o = record { node = o.node; is_dir = o.is_dir; opened = Some (plain_opened o) }

-- a fid that was put at a node
abbrev pub placed : Place → Fid
placed p = record {
  node = p.node;
  is_dir = p.is_dir;
  opened = option_map (λ mode. record { mode = mode; offset = 0; count = 0; last = None }) p.mode;
}
