-- What each fid is before a message, found by looking back over the messages before it and what was answered to them (section 5 of the
-- Plan 9 manual).
use Rattle.std.specs.Prelude.{◌≡◌, ℕ, List, [], ◌∷◌, ◌++◌, length, filter, Bool, not, ◌&&◌, Option, Some, None, Result, Ok, Err, ◌==◌, if◌then◌else◌}
use Rattle.std.specs.List.{AllByRecursion, last_or, list_any, flat_map, filter_map}
use Rattle.std.specs.Option.{option_map, option_map_or, option_and_then}
use Rattle.std.specs.Str.{bytes_eq}
use Rattle.std.specs.FinMap as map
use Rattle.tree_model.specs.declared.stat.Qid.{Qid}
use Rattle.tree_model.specs.Asked.{Asked}
use Rattle.ninep_wire.specs.declared.fault.WireErr.{WireErr}
use Rattle.ninep_wire.specs.TMessage as t
use Rattle.ninep_wire.specs.TMessage.{PlainTMessage, PlainMessage}
use Rattle.ninep_wire.specs.RMessage as r
use Rattle.ninep_wire.specs.RMessage.{PlainRMessage}
use Rattle.ninep_wire.specs.Reading.{message_in}
use Rattle.session_core.specs.State.{Opened, Fid, State, fresh}
use Rattle.session_core.specs.Action.{protocol}
use Rattle.session_core.specs.Outcome.{last_name}
use Rattle.session_core.specs.Session.{Exchanged}

-- what was in a frame, and what was answered to it
pub record Exchange : Type 0 where
  pub given : Result PlainMessage WireErr
  pub answer : PlainRMessage

-- ---- the agreed size

-- what was answered to a Tversion
abbrev pub answer_by : PlainTMessage → PlainRMessage → Option PlainRMessage
answer_by (t.version msize version) answer = Some answer
answer_by message answer = None

abbrev pub answer_in : Result PlainMessage WireErr → PlainRMessage → Option PlainRMessage
answer_in (Ok message) answer = answer_by message.body answer
answer_in (Err fault) answer = None

abbrev pub version_answer : Exchange → Option PlainRMessage
version_answer e = answer_in e.given e.answer

-- the size that an Rversion agrees to, if it names the protocol
abbrev pub agreed_by : PlainRMessage → Option ℕ
agreed_by (r.version msize version) = if bytes_eq version protocol then Some msize else None
agreed_by answer = None

-- the size that the answer to the last Tversion agreed to
abbrev pub agreed_size : List Exchange → Option ℕ
agreed_size past = option_and_then agreed_by (last_or None (filter_map version_answer past))

-- ---- what sets and frees a fid

-- what a message and its answer do to a fid
pub data Effect : Type 0 where
  -- they neither set nor free it
  leaves : Effect
  frees : Effect
  -- they set it to the node of a qid: open with this mode, or not open
  puts : Qid → Option ℕ → Effect
  -- they set it to the node of this fid, not open
  follows : ℕ → Effect

-- a Tversion frees all fids, and a Tremove its fid also when it is refused; else what an Rerror answers leaves all fids. A walk sets
-- newfid if it gave a qid for each of its names, to the last of them; one without names lets it follow the walk's fid
abbrev pub effect_by : ℕ → PlainTMessage → PlainRMessage → Effect
effect_by f (t.version msize version) answer = frees
effect_by f (t.attach g afid uname aname) (r.attach q) = if g == f then puts q None else leaves
effect_by f (t.walk g newfid []) (r.walk qids) = if newfid == f then follows g else leaves
effect_by f (t.walk g newfid (name ∷ names)) (r.walk qids) =
    if (length qids == length (name ∷ names)) && (newfid == f) then option_map_or (λ q. puts q None) (last_or None qids) leaves else leaves
effect_by f (t.open_fid g mode) (r.open_fid q iounit) = if g == f then puts q (Some mode) else leaves
effect_by f (t.create g name perm mode) (r.create q iounit) = if g == f then puts q (Some mode) else leaves
effect_by f (t.clunk g) r.clunk = if g == f then frees else leaves
effect_by f (t.remove g) answer = if g == f then frees else leaves
effect_by f message answer = leaves

abbrev pub effect_in : ℕ → Result PlainMessage WireErr → PlainRMessage → Effect
effect_in f (Ok message) answer = effect_by f message.body answer
effect_in f (Err fault) answer = leaves

abbrev pub effect : ℕ → Exchange → Effect
effect f e = effect_in f e.given e.answer

-- ---- what was read of a fid

-- what an Rread gave: the offset that was asked for, and the bytes
pub record Given : Type 0 where
  pub offset : ℕ
  pub bytes : List ℕ

abbrev pub given_by : ℕ → PlainTMessage → PlainRMessage → List Given
given_by f (t.read g offset count) (r.read bytes) = if g == f then record { offset = offset; bytes = bytes } ∷ [] else []
given_by f message answer = []

abbrev pub given_in : ℕ → Result PlainMessage WireErr → PlainRMessage → List Given
given_in f (Ok message) answer = given_by f message.body answer
given_in f (Err fault) answer = []

-- what was read of a fid, in order
abbrev pub reads_of : ℕ → List Exchange → List Given
reads_of f exchanges = flat_map (λ e. given_in f e.given e.answer) exchanges

-- from the last read on that began the directory again, at offset 0
unfoldable pub since_begun : List Given → List Given
since_begun [] = []
since_begun (g ∷ reads) = if list_any (λ g. g.offset == 0) reads then since_begun reads else g ∷ reads

abbrev pub gave_some : Given → Bool
gave_some g = not (length g.bytes == 0)

-- the name in the last stat that was given since the directory was begun: it is in the last of these reads that gave any bytes
abbrev pub last_given : List Given → Option (List ℕ)
last_given reads = option_and_then (λ g. last_name (length g.bytes) None g.bytes) (last_or None (filter gave_some (since_begun reads)))

-- how a directory is open that was read so: the offset and the count of the last read, and the last name that was given
abbrev pub read_up : ℕ → List Given → Opened
read_up mode reads = record {
  mode = mode;
  offset = option_map_or (λ g. g.offset) (last_or None reads) 0;
  count = option_map_or (λ g. length g.bytes) (last_or None reads) 0;
  last = last_given reads;
}

-- ---- looking back

-- a fid that was set to the node of a qid, and read since. Of a fid that is no directory's the reads leave nothing
abbrev pub fid_put : Qid → Option ℕ → List Given → Fid
fid_put q mode reads = record {
  node = q.path;
  is_dir = (q.kind == 0x80);
  opened = option_map (λ m. read_up m (if q.kind == 0x80 then reads else [])) mode;
}

-- a fid that isn't open, at the node of another
abbrev pub not_open : Fid → Fid
not_open fid = record { node = fid.node; is_dir = fid.is_dir; opened = None }

-- none of these sets or frees a fid
abbrev pub IsLeftBy : ℕ → List Exchange → Type 0
IsLeftBy f exchanges = AllByRecursion (λ e. effect f e ≡ leaves) exchanges

-- the last exchange that set or freed a fid, with those before it and those after it
pub record LookedBack (f : ℕ) (past : List Exchange) : Type 0 where
  pub before : List Exchange
  pub last : Exchange
  pub after : List Exchange
  pub past_is : past ≡ before ++ last ∷ after
  pub left : IsLeftBy f after

-- What a fid is after these exchanges, if it is in use: what the last of them that set or freed it has left, and, of an open
-- directory, how far it was read since.
pub data FidIs : List Exchange → ℕ → Option Fid → Type 0 where
  never_set : (past : List Exchange) (f : ℕ) → IsLeftBy f past → FidIs past f None
  was_freed : (past : List Exchange) (f : ℕ) (back : LookedBack f past) → effect f back.last ≡ frees → FidIs past f None
  was_put : (past : List Exchange) (f : ℕ) (back : LookedBack f past) (q : Qid) (mode : Option ℕ) → effect f back.last ≡ puts q mode
      → FidIs past f (Some (fid_put q mode (reads_of f back.after)))
  has_followed : (past : List Exchange) (f : ℕ) (back : LookedBack f past) (g : ℕ) (fid : Fid) → effect f back.last ≡ follows g
      → FidIs back.before g (Some fid) → FidIs past f (Some (not_open fid))

-- ---- the law

-- a frame is answered: this was in it and was answered to it
pub record Leads (s : State) (e : Exchange) (next : State) : Type 0 where
  pub frame : List ℕ
  pub second : ℕ
  pub asked : Option Asked
  pub out : List ℕ
  pub exchanged : Exchanged s frame second asked out next
  pub given_is : e.given ≡ message_in frame
  pub answer_is : e.answer ≡ exchanged.answer

-- frames are answered in order, from one session to another
abbrev pub AreHeld : State → List Exchange → State → Type 0
AreHeld s [] last = last ≡ s
AreHeld s (e ∷ exchanges) last = (next : State) × Leads s e next × AreHeld next exchanges last

-- a session is what is found by looking back: its agreed size, and each of its fids, of which there are none without a size
pub record IsFoundBack (past : List Exchange) (s : State) : Type 0 where
  pub size : s.size ≡ agreed_size past
  pub found : (f : ℕ) → FidIs past f (map.get s.fids f)
  pub alone : (f : ℕ) (fid : Option Fid) → FidIs past f fid → fid ≡ map.get s.fids f
  pub none : s.size ≡ None → (f : ℕ) → map.get s.fids f ≡ None

abbrev pub LooksBack : Type 0
LooksBack = (past : List Exchange) (s : State) → AreHeld fresh past s → IsFoundBack past s
