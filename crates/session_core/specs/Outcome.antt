-- What is answered to a message whose request was answered, and the session after it (section 5 of the Plan 9 manual).
use Rattle.std.specs.Prelude.{ℕ, zero, suc, ◌+◌, ◌-◌, List, length, take, drop, Option, Some, None, ◌==◌, if◌then◌else◌}
use Rattle.std.specs.List.{last_or}
use Rattle.std.specs.Option.{option_map, option_map_or}
use Rattle.std.specs.FinMap as map
use Rattle.byteorder.specs.Endian.{little_number}
use Rattle.tree_model.specs.declared.stat.Qid.{Qid}
use Rattle.tree_model.specs.Asked.{PlainReply, qid, walked, count, stat, done, refused}
use Rattle.ninep_wire.specs.TMessage as t
use Rattle.ninep_wire.specs.TMessage.{PlainTMessage}
use Rattle.ninep_wire.specs.RMessage as r
use Rattle.ninep_wire.specs.RMessage.{PlainRMessage}
use Rattle.session_core.specs.State.{Opened, Fid, State, header_room, limit, closed, open_with, set, free}
use Rattle.session_core.specs.Texts.{refusal_text}

pub record Outcome : Type 0 where
  pub answer : PlainRMessage
  pub next : State

abbrev pub outcome : PlainRMessage → State → Option Outcome
outcome answer next = Some (record { answer = answer; next = next })

-- The name in the last of the whole stats that bytes are, or else one that was given before. In a stat (stat(5)) size[2] is first, and the
-- name's length[2] after 41 bytes.
unfoldable pub last_name : ℕ → Option (List ℕ) → List ℕ → Option (List ℕ)
last_name zero given bytes = given
last_name (suc fuel) given bytes =
    if length bytes == 0 then given
    else last_name fuel (Some (take (little_number 2 (drop 41 bytes)) (drop 43 bytes))) (drop (2 + little_number 2 bytes) bytes)

-- an open directory after its bytes from an offset on were given; offset 0 begins it again
abbrev pub opened_on : ℕ → List ℕ → Opened → Opened
opened_on offset bytes opened = record {
  mode = opened.mode;
  offset = offset;
  count = length bytes;
  last = last_name (length bytes) (if offset == 0 then None else opened.last) bytes;
}

abbrev pub read_on : ℕ → List ℕ → Fid → Fid
read_on offset bytes fid =
    if fid.is_dir then record { node = fid.node; is_dir = fid.is_dir; opened = option_map (opened_on offset bytes) fid.opened }
    else fid

-- newfid is the last node walked to, if and only if all names were walked
abbrev pub walk_outcome : State → ℕ → List (List ℕ) → List Qid → State
walk_outcome s newfid names qids =
    if length qids == length names then option_map_or (λ q. set s newfid (closed q)) (last_or None qids) s else s

-- By message and reply. After a refusal the session is as it was, but that a Tremove has freed its fid; None if the reply has another
-- form than its request asks for, which no object gives.
abbrev pub outcome_of : State → PlainTMessage → PlainReply → List ℕ → Option Outcome
outcome_of s (t.remove f) (refused refusal) bytes = outcome (r.error (refusal_text refusal)) (free s f)
outcome_of s message (refused refusal) bytes = outcome (r.error (refusal_text refusal)) s
outcome_of s (t.attach f afid uname aname) (qid q) bytes = outcome (r.attach q) (set s f (closed q))
outcome_of s (t.walk f newfid names) (walked qids) bytes = outcome (r.walk qids) (walk_outcome s newfid names qids)
outcome_of s (t.open_fid f mode) (qid q) bytes = outcome (r.open_fid q (limit s - header_room)) (set s f (open_with mode q))
outcome_of s (t.create f name perm mode) (qid q) bytes = outcome (r.create q (limit s - header_room)) (set s f (open_with mode q))
outcome_of s (t.read f offset most) (count n) bytes =
    outcome (r.read bytes) (option_map_or (λ fid. set s f (read_on offset bytes fid)) (map.get s.fids f) s)
outcome_of s (t.write f offset given) (count n) bytes = outcome (r.write n) s
outcome_of s (t.remove f) done bytes = outcome r.remove (free s f)
outcome_of s (t.stat f) (stat n) bytes = outcome (r.stat bytes) s
outcome_of s (t.wstat f c) done bytes = outcome r.wstat s
outcome_of s message reply bytes = None
