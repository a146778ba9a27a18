-- Reading from left to right, with the first fault that is met.
use Rattle.std.specs.Prelude.{◌≡◌, ℕ, zero, suc, ◌-◌, ◌≤◌, ◌^◌, List, [], ◌∷◌, length, take, drop, ◌&&◌, Option, Some, None, Result, Ok, Err, nat_lt, ◌==◌, if◌then◌else◌}
use Rattle.std.specs.Str.{is_utf8}
use Rattle.byteorder.specs.Endian.{little_number}
use Rattle.tree_model.specs.declared.stat.Qid.{Qid}
use Rattle.tree_model.specs.Asked.{PlainChange}
use Rattle.ninep_wire.specs.declared.fault.WireErr.{WireErr}
use Rattle.ninep_wire.specs.declared.fault.WireErr.TheVariants.{Short, Long, Kind, Text, Names}
use Rattle.ninep_wire.specs.TMessage.{PlainTMessage, version, auth, attach, flush, walk, open_fid, create, read, write, clunk, remove, stat, wstat, PlainMessage}

infixl 10 ◌>>=◌
abbrev pub ◌>>=◌ : {A B : Type 0} → Result A WireErr → (A → Result B WireErr) → Result B WireErr
(Ok x) >>= f = f x
(Err e) >>= f = Err e

-- what a function returned, seen by view, is what reading gives
abbrev pub Gives : {X Y : Type 0} → (X → Y) → Result X WireErr → Result Y WireErr → Type 0
Gives view (Ok x) given = given ≡ Ok (view x)
Gives view (Err e) given = given ≡ Err e

-- a frame: at least a header's bytes, and its size[4] is their number
pub record IsFrame (frame : List ℕ) : Type 0 where
  pub long : 7 ≤ length frame
  pub size : little_number 4 frame ≡ length frame

-- the bytes after what was read
abbrev pub rest_of : {A : Type 0} → Result (A × List ℕ) WireErr → Result (List ℕ) WireErr
rest_of given = given >>= λ x. Ok x.1

-- ---- fields: a value and the bytes after it

-- so many bytes
unfoldable pub bytes_at : ℕ → List ℕ → Result (List ℕ × List ℕ) WireErr
bytes_at n bytes = if nat_lt (length bytes) n then Err Short else Ok (take n bytes, drop n bytes)

unfoldable pub number_at : ℕ → List ℕ → Result (ℕ × List ℕ) WireErr
number_at n bytes = do
  field ← bytes_at n bytes
  Ok (little_number n field.0, field.1)

unfoldable pub string_at : List ℕ → Result (List ℕ × List ℕ) WireErr
string_at bytes = do
  n ← number_at 2 bytes
  text ← bytes_at n.0 n.1
  if is_utf8 text.0 then Ok text else Err Text

-- a count of four bytes, and so many bytes
unfoldable pub data_at : List ℕ → Result (List ℕ × List ℕ) WireErr
data_at bytes = do
  count ← number_at 4 bytes
  bytes_at count.0 count.1

unfoldable pub qid_at : List ℕ → Result (Qid × List ℕ) WireErr
qid_at bytes = do
  kind ← number_at 1 bytes
  revision ← number_at 4 kind.1
  path ← number_at 8 revision.1
  Ok (record { kind = kind.0; version = revision.0; path = path.0 }, path.1)

-- so many strings
unfoldable pub strings_at : ℕ → List ℕ → Result (List (List ℕ) × List ℕ) WireErr
strings_at zero bytes = Ok ([], bytes)
strings_at (suc n) bytes = do
  first ← string_at bytes
  others ← strings_at n first.1
  Ok (first.0 ∷ others.0, others.1)

-- a count of names, at most 16, and the names
unfoldable pub names_at : List ℕ → Result (List (List ℕ) × List ℕ) WireErr
names_at bytes = do
  n ← number_at 2 bytes
  if nat_lt 16 n.0 then Err (Names n.0) else strings_at n.0 n.1

-- ---- the stat of a Twstat: a field of ones, or an empty string, isn't touched

abbrev pub touched_number : ℕ → ℕ → Option ℕ
touched_number n x = if x == 256 ^ n - 1 then None else Some x

abbrev pub touched_qid : Qid → Option Qid
touched_qid q = if (q.kind == 256 ^ 1 - 1) && (q.version == 256 ^ 4 - 1) && (q.path == 256 ^ 8 - 1) then None else Some q

abbrev pub touched_string : List ℕ → Option (List ℕ)
touched_string text = if length text == 0 then None else Some text

unfoldable pub optional_number_at : ℕ → List ℕ → Result (Option ℕ × List ℕ) WireErr
optional_number_at n bytes = do
  x ← number_at n bytes
  Ok (touched_number n x.0, x.1)

unfoldable pub optional_qid_at : List ℕ → Result (Option Qid × List ℕ) WireErr
optional_qid_at bytes = do
  q ← qid_at bytes
  Ok (touched_qid q.0, q.1)

unfoldable pub optional_string_at : List ℕ → Result (Option (List ℕ) × List ℕ) WireErr
optional_string_at bytes = do
  text ← string_at bytes
  Ok (touched_string text.0, text.1)

unfoldable pub change_at : List ℕ → Result (PlainChange × List ℕ) WireErr
change_at bytes = do
  kind ← optional_number_at 2 bytes
  device ← optional_number_at 4 kind.1
  qid ← optional_qid_at device.1
  mode ← optional_number_at 4 qid.1
  accessed ← optional_number_at 4 mode.1
  modified ← optional_number_at 4 accessed.1
  long ← optional_number_at 8 modified.1
  name ← optional_string_at long.1
  owner ← optional_string_at name.1
  group ← optional_string_at owner.1
  modifier ← optional_string_at group.1
  Ok (
    record {
      kind = kind.0;
      device = device.0;
      qid = qid.0;
      mode = mode.0;
      accessed = accessed.0;
      modified = modified.0;
      length = long.0;
      name = name.0;
      owner = owner.0;
      group = group.0;
      modifier = modifier.0;
    },
    modifier.1,
  )

-- a value, if no bytes are left
abbrev pub ended : {A : Type 0} → A × List ℕ → Result A WireErr
ended x = if length x.1 == 0 then Ok x.0 else Err Long

-- all of a stat's bytes: size[2], and fields of so many bytes
unfoldable pub stat_in : List ℕ → Result PlainChange WireErr
stat_in bytes = do
  size ← number_at 2 bytes
  fields ← bytes_at size.0 size.1
  change ← change_at fields.0
  whole ← ended change
  ended (whole, fields.1)

-- n[2], and a stat of n bytes
unfoldable pub stat_at : List ℕ → Result (PlainChange × List ℕ) WireErr
stat_at bytes = do
  n ← number_at 2 bytes
  inner ← bytes_at n.0 n.1
  change ← stat_in inner.0
  Ok (change, inner.1)

-- ---- messages

unfoldable pub version_at : List ℕ → Result (PlainTMessage × List ℕ) WireErr
version_at bytes = do
  msize ← number_at 4 bytes
  text ← string_at msize.1
  Ok (version msize.0 text.0, text.1)

unfoldable pub auth_at : List ℕ → Result (PlainTMessage × List ℕ) WireErr
auth_at bytes = do
  afid ← number_at 4 bytes
  uname ← string_at afid.1
  aname ← string_at uname.1
  Ok (auth afid.0 uname.0 aname.0, aname.1)

unfoldable pub attach_at : List ℕ → Result (PlainTMessage × List ℕ) WireErr
attach_at bytes = do
  fid ← number_at 4 bytes
  afid ← number_at 4 fid.1
  uname ← string_at afid.1
  aname ← string_at uname.1
  Ok (attach fid.0 afid.0 uname.0 aname.0, aname.1)

unfoldable pub flush_at : List ℕ → Result (PlainTMessage × List ℕ) WireErr
flush_at bytes = do
  oldtag ← number_at 2 bytes
  Ok (flush oldtag.0, oldtag.1)

unfoldable pub walk_at : List ℕ → Result (PlainTMessage × List ℕ) WireErr
walk_at bytes = do
  fid ← number_at 4 bytes
  newfid ← number_at 4 fid.1
  names ← names_at newfid.1
  Ok (walk fid.0 newfid.0 names.0, names.1)

unfoldable pub open_at : List ℕ → Result (PlainTMessage × List ℕ) WireErr
open_at bytes = do
  fid ← number_at 4 bytes
  mode ← number_at 1 fid.1
  Ok (open_fid fid.0 mode.0, mode.1)

unfoldable pub create_at : List ℕ → Result (PlainTMessage × List ℕ) WireErr
create_at bytes = do
  fid ← number_at 4 bytes
  name ← string_at fid.1
  perm ← number_at 4 name.1
  mode ← number_at 1 perm.1
  Ok (create fid.0 name.0 perm.0 mode.0, mode.1)

unfoldable pub read_at : List ℕ → Result (PlainTMessage × List ℕ) WireErr
read_at bytes = do
  fid ← number_at 4 bytes
  offset ← number_at 8 fid.1
  count ← number_at 4 offset.1
  Ok (read fid.0 offset.0 count.0, count.1)

unfoldable pub write_at : List ℕ → Result (PlainTMessage × List ℕ) WireErr
write_at bytes = do
  fid ← number_at 4 bytes
  offset ← number_at 8 fid.1
  written ← data_at offset.1
  Ok (write fid.0 offset.0 written.0, written.1)

unfoldable pub clunk_at : List ℕ → Result (PlainTMessage × List ℕ) WireErr
clunk_at bytes = do
  fid ← number_at 4 bytes
  Ok (clunk fid.0, fid.1)

unfoldable pub remove_at : List ℕ → Result (PlainTMessage × List ℕ) WireErr
remove_at bytes = do
  fid ← number_at 4 bytes
  Ok (remove fid.0, fid.1)

unfoldable pub fstat_at : List ℕ → Result (PlainTMessage × List ℕ) WireErr
fstat_at bytes = do
  fid ← number_at 4 bytes
  Ok (stat fid.0, fid.1)

unfoldable pub wstat_at : List ℕ → Result (PlainTMessage × List ℕ) WireErr
wstat_at bytes = do
  fid ← number_at 4 bytes
  change ← stat_at fid.1
  Ok (wstat fid.0 change.0, change.1)

-- the fields of a message of this type
unfoldable pub t_message_at : ℕ → List ℕ → Result (PlainTMessage × List ℕ) WireErr
t_message_at kind bytes =
    if kind == 100 then version_at bytes
    else if kind == 102 then auth_at bytes
    else if kind == 104 then attach_at bytes
    else if kind == 108 then flush_at bytes
    else if kind == 110 then walk_at bytes
    else if kind == 112 then open_at bytes
    else if kind == 114 then create_at bytes
    else if kind == 116 then read_at bytes
    else if kind == 118 then write_at bytes
    else if kind == 120 then clunk_at bytes
    else if kind == 122 then remove_at bytes
    else if kind == 124 then fstat_at bytes
    else if kind == 126 then wstat_at bytes
    else Err (Kind kind)

-- the message in all bytes of a frame: size[4] type[1] tag[2] and the fields
unfoldable pub message_in : List ℕ → Result PlainMessage WireErr
message_in frame = do
  size ← number_at 4 frame
  kind ← number_at 1 size.1
  tag ← number_at 2 kind.1
  call ← t_message_at kind.0 tag.1
  whole ← ended call
  Ok (record { tag = tag.0; body = whole })
