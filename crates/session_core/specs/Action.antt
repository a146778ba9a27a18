-- What a session does on a message (section 5 of the Plan 9 manual): it answers at once, or asks the tree.
use Rattle.std.specs.Prelude.{ℕ, ◌+◌, ◌-◌, min, List, [], ◌∷◌, codes, Bool, ◌&&◌, ◌||◌, not, Some, None, is_some, is_none, bit_and, nat_le, nat_lt, ◌==◌, if◌then◌else◌}
use Rattle.std.specs.List.{before_first}
use Rattle.std.specs.Option.{option_map_or}
use Rattle.std.specs.Str.{bytes_eq}
use Rattle.std.specs.FinMap as map
use Rattle.tree_model.specs.Rows.{root}
use Rattle.tree_model.specs.Asked.{PlainChange, PlainRequest, look, walk, open_node, create, read, list, write, remove, stat_of, change, sync}
use Rattle.ninep_wire.specs.TMessage as t
use Rattle.ninep_wire.specs.TMessage.{PlainTMessage}
use Rattle.ninep_wire.specs.RMessage as r
use Rattle.ninep_wire.specs.RMessage.{PlainRMessage}
use Rattle.session_core.specs.State.{Opened, Fid, State, no_fid, fid_limit, least_message, most_message, header_room, fresh, limit, set, free}
use Rattle.session_core.specs.Texts as texts

-- an answer, and the session after it; or a request
pub data Action : Type 0 where
  says : PlainRMessage → State → Action
  asks : PlainRequest → Action

abbrev pub refuses : List ℕ → State → Action
refuses text s = says (r.error text) s

-- ---- tests of fids

abbrev pub with_fid : State → ℕ → (Fid → Action) → Action
with_fid s f action = option_map_or action (map.get s.fids f) (refuses texts.unknown_fid s)

abbrev pub with_closed : State → ℕ → (Fid → Action) → Action
with_closed s f action = with_fid s f (λ fid. if is_some fid.opened then refuses texts.fid_is_open s else action fid)

abbrev pub with_open : State → ℕ → (Fid → Opened → Action) → Action
with_open s f action = with_fid s f (λ fid. option_map_or (action fid) fid.opened (refuses texts.fid_is_not_open s))

-- a fid that is not in use
abbrev pub with_unused : State → ℕ → Action → Action
with_unused s f action =
    if map.contains_key s.fids f then refuses texts.fid_in_use s
    else if nat_le fid_limit (map.len s.fids) then refuses texts.too_many_fids s
    else action

-- the fid that a walk from f sets: f itself, or one that is not in use
abbrev pub with_newfid : State → ℕ → ℕ → Action → Action
with_newfid s f newfid action =
    if newfid == no_fid then refuses texts.unknown_fid s
    else if newfid == f then action
    else with_unused s newfid action

-- ---- tests of modes and permissions (open(5), stat(5))

-- no bit but those of OREAD, OWRITE, ORDWR, OEXEC and OTRUNC
abbrev pub is_mode : ℕ → Bool
is_mode mode = bit_and mode 0x13 == mode

-- no bit but DMDIR and those of rwxrwxrwx
abbrev pub is_perm : ℕ → Bool
is_perm perm = bit_and perm 0x800001FF == perm

-- DMDIR
abbrev pub makes_dir : ℕ → Bool
makes_dir perm = nat_le 0x80000000 perm

-- open with OREAD, ORDWR or OEXEC
abbrev pub reads : ℕ → Bool
reads mode = not (bit_and mode 3 == 1)

-- open with OWRITE or ORDWR
abbrev pub writes : ℕ → Bool
writes mode = (bit_and mode 3 == 1) || (bit_and mode 3 == 2)

-- ---- what each message leads to

abbrev pub protocol : List ℕ
protocol = codes "9P2000"

abbrev pub unknown_version : List ℕ
unknown_version = codes "unknown"

-- the protocol's name is before the first period (version(5))
abbrev pub is_protocol : List ℕ → Bool
is_protocol version = bytes_eq (before_first (λ b. b == 46) version) protocol

-- all fids are freed, and a size is agreed only if the version is
abbrev pub version_action : ℕ → List ℕ → Action
version_action msize version =
    if nat_lt msize least_message then refuses texts.message_size_too_small fresh
    else if is_protocol version then
    says (r.version (min msize most_message) protocol) (record { size = Some (min msize most_message); fids = map.empty })
    else says (r.version (min msize most_message) unknown_version) fresh

-- the root is attached
abbrev pub attach_action : State → ℕ → ℕ → Action
attach_action s f afid =
    if not (afid == no_fid) then refuses texts.authentication_not_required s
    else if f == no_fid then refuses texts.unknown_fid s
    else with_unused s f (asks (look root))

-- a walk without names gives newfid the fid's node
abbrev pub walk_action : State → Fid → ℕ → List (List ℕ) → Action
walk_action s fid newfid [] = says (r.walk []) (set s newfid fid)
walk_action s fid newfid (name ∷ names) = asks (walk fid.node (name ∷ names))

-- a directory is read from its start, or on from where the last Rread ended
abbrev pub read_action : State → Fid → Opened → ℕ → ℕ → Action
read_action s fid opened offset most =
    if not fid.is_dir then asks (read fid.node offset most)
    else if offset == 0 then asks (list fid.node None most)
    else if offset == opened.offset + opened.count then asks (list fid.node opened.last most)
    else refuses texts.bad_offset s

abbrev pub touches_nothing : PlainChange → Bool
touches_nothing c =
    is_none c.kind && is_none c.device && is_none c.qid && is_none c.mode && is_none c.accessed && is_none c.modified && is_none c.length
    && is_none c.name && is_none c.owner && is_none c.group && is_none c.modifier

-- of a session that has agreed to a size
abbrev pub agreed_action : State → PlainTMessage → Action
agreed_action s (t.version msize version) = version_action msize version
agreed_action s (t.auth afid uname aname) = refuses texts.authentication_not_required s
agreed_action s (t.attach f afid uname aname) = attach_action s f afid
agreed_action s (t.flush oldtag) = says r.flush s
agreed_action s (t.walk f newfid names) =
    with_closed s f (λ fid. with_newfid s f newfid (walk_action s fid newfid names))
agreed_action s (t.open_fid f mode) =
    with_closed s f (λ fid. if not (is_mode mode) then refuses texts.not_permitted s else asks (open_node fid.node mode))
agreed_action s (t.create f name perm mode) =
    with_closed s f (λ fid. if not (is_perm perm) then refuses texts.not_permitted s
    else if not (is_mode mode) then refuses texts.not_permitted s
    else if makes_dir perm && not (mode == 0) then refuses texts.is_a_directory s
    else asks (create fid.node name (makes_dir perm) mode))
agreed_action s (t.read f offset count) =
    with_open s f (λ fid opened. if not (reads opened.mode) then refuses texts.not_permitted s
    else read_action s fid opened offset (min count (limit s - header_room)))
agreed_action s (t.write f offset bytes) =
    with_open s f (λ fid opened. if not (writes opened.mode) then refuses texts.not_permitted s else asks (write fid.node offset bytes))
agreed_action s (t.clunk f) = with_fid s f (λ fid. says r.clunk (free s f))
agreed_action s (t.remove f) = with_fid s f (λ fid. asks (remove fid.node))
agreed_action s (t.stat f) = with_fid s f (λ fid. asks (stat_of fid.node))
agreed_action s (t.wstat f c) = with_fid s f (λ fid. asks (if touches_nothing c then sync fid.node else change fid.node c))

-- without a size that is agreed there is nothing but Tversion
abbrev pub action_without : State → PlainTMessage → Action
action_without s (t.version msize version) = version_action msize version
action_without s message = refuses texts.no_version s

abbrev pub action_of : State → PlainTMessage → Action
action_of s message = if is_some s.size then agreed_action s message else action_without s message
