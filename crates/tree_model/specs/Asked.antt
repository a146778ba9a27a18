-- What was asked of a tree and what it answered, as plain data, which leaves out where names and bytes lie
-- in memory.
use Rattle.std.specs.Prelude.{◌≡◌, ℕ, ◌≤◌, ◌<◌, List, [], ◌++◌, length, take, drop, filter, Bool, true, false, not, Option, ⊤}
use Rattle.std.specs.List.{flat_map, AllByRecursion}
use Rattle.std.specs.Option.{option_copied}
use Rattle.tree_model.specs.declared.request.Request.{Request}
use Rattle.tree_model.specs.declared.request.Request.TheVariants as requests
use Rattle.tree_model.specs.declared.reply.Reply.{Reply}
use Rattle.tree_model.specs.declared.reply.Reply.TheVariants as replies
use Rattle.tree_model.specs.declared.refusal.Refusal.{Refusal}
use Rattle.tree_model.specs.declared.refusal.Refusal.TheVariants as refusals
use Rattle.tree_model.specs.declared.stat.Qid.{Qid}
use Rattle.tree_model.specs.declared.stat.StatChange.{StatChange}
use Rattle.tree_model.specs.Wire.{PlainStat, spelled_stat, IsTreeStat, stat_limit}
use Rattle.tree_model.specs.Names.{names_in, walk_limit, IsWalk}

-- the fields that a change touches
pub record PlainChange : Type 0 where
  pub kind : Option ℕ
  pub device : Option ℕ
  pub qid : Option Qid
  pub mode : Option ℕ
  pub accessed : Option ℕ
  pub modified : Option ℕ
  pub length : Option ℕ
  pub name : Option (List ℕ)
  pub owner : Option (List ℕ)
  pub group : Option (List ℕ)
  pub modifier : Option (List ℕ)

pub data PlainRequest : Type 0 where
  look : ℕ → PlainRequest
  walk : ℕ → List (List ℕ) → PlainRequest
  open_node : ℕ → ℕ → PlainRequest
  create : ℕ → List ℕ → Bool → ℕ → PlainRequest
  read : ℕ → ℕ → ℕ → PlainRequest
  list : ℕ → Option (List ℕ) → ℕ → PlainRequest
  write : ℕ → ℕ → List ℕ → PlainRequest
  remove : ℕ → PlainRequest
  stat_of : ℕ → PlainRequest
  change : ℕ → PlainChange → PlainRequest
  sync : ℕ → PlainRequest

pub data PlainReply : Type 0 where
  qid : Qid → PlainReply
  walked : List Qid → PlainReply
  count : ℕ → PlainReply
  stat : ℕ → PlainReply
  done : PlainReply
  refused : Refusal → PlainReply

abbrev pub plain_change : StatChange → PlainChange
plain_change c = record {
  kind = c.kind;
  device = c.device;
  qid = c.qid;
  mode = c.mode;
  accessed = c.accessed;
  modified = c.modified;
  length = c.length;
  name = option_copied c.name;
  owner = option_copied c.owner;
  group = option_copied c.group;
  modifier = option_copied c.modifier;
}

abbrev pub plain_request : Request → PlainRequest
plain_request (requests.Look n) = look n
plain_request (requests.Walk n names) = walk n (names_in names.count names.bytes.now)
plain_request (requests.OpenNode n mode) = open_node n mode
plain_request (requests.Create n name is_dir mode) = create n name.now is_dir mode
plain_request (requests.Read n at most) = read n at most
plain_request (requests.List n after most) = list n (option_copied after) most
plain_request (requests.Write n at bytes) = write n at bytes.now
plain_request (requests.Remove n) = remove n
plain_request (requests.StatOf n) = stat_of n
plain_request (requests.Change n c) = change n (plain_change c)
plain_request (requests.Sync n) = sync n

abbrev pub plain_reply : Reply → PlainReply
plain_reply (replies.Qid q) = qid q
plain_reply (replies.Walked n qids) = walked (take n qids)
plain_reply (replies.Count n) = count n
plain_reply (replies.Stat n) = stat n
plain_reply replies.Done = done
plain_reply (replies.Refused refusal) = refused refusal

-- the bytes that a reply puts into the buffer, from its front on
abbrev pub bytes_put : PlainRequest → PlainReply → List ℕ → List ℕ
bytes_put (read n at most) (count k) buffer = take k buffer
bytes_put (list n after most) (count k) buffer = take k buffer
bytes_put (stat_of n) (stat k) buffer = take k buffer
bytes_put request reply buffer = []

-- the bytes of a buffer after those that a reply put into it are as they were
abbrev pub KeepsRest : PlainRequest → PlainReply → List ℕ → List ℕ → Type 0
KeepsRest request reply old new =
    drop (length (bytes_put request reply new)) new ≡ drop (length (bytes_put request reply new)) old

-- a request, the second at which it was made, its reply and the bytes that it put into the buffer
pub record Asked : Type 0 where
  pub request : PlainRequest
  pub second : ℕ
  pub reply : PlainReply
  pub bytes : List ℕ

abbrev pub asked_of : PlainRequest → ℕ → PlainReply → List ℕ → Asked
asked_of request second reply buffer = record { request = request; second = second; reply = reply; bytes = bytes_put request reply buffer }

-- an object that stood for any list of requests since a start stands for that list with these
abbrev pub Extends : {B : Type 0} → (B → B → List Asked → Type 0) → B → B → List Asked → Type 0
Extends {B} stands old new asked = (start : B) (before : List Asked) → stands old start before → stands new start (before ++ asked)

-- ---- what a request asks of its caller

-- the most bytes of a read, of a list and of a write
abbrev pub count_limit : ℕ
count_limit = 65536

abbrev pub write_limit : ℕ
write_limit = 65537

-- the form of a walk's names, bounds of counts, and a buffer that is large enough
abbrev pub CanAsk : Request → ℕ → Type 0
CanAsk (requests.Look n) room = ⊤
CanAsk (requests.Walk n names) room = IsWalk names.count names.bytes.now
CanAsk (requests.OpenNode n mode) room = ⊤
CanAsk (requests.Create n name is_dir mode) room = ⊤
CanAsk (requests.Read n at most) room = (most ≤ count_limit) × (most ≤ room)
CanAsk (requests.List n after most) room = (most ≤ count_limit) × (most ≤ room)
CanAsk (requests.Write n at bytes) room = length bytes.now ≤ write_limit
CanAsk (requests.Remove n) room = ⊤
CanAsk (requests.StatOf n) room = stat_limit ≤ room
CanAsk (requests.Change n c) room = ⊤
CanAsk (requests.Sync n) room = ⊤

-- ---- the form of a reply

-- the qids of a walk: no more than its names, and at least one if it has names
pub record AreWalked (names : List (List ℕ)) (qids : List Qid) : Type 0 where
  pub few : length qids ≤ length names
  pub some : 0 < length names → 0 < length qids

-- whole stats, of at most so many bytes
pub record AreStats (most : ℕ) (bytes : List ℕ) : Type 0 where
  pub fit : length bytes ≤ most
  pub stats : List PlainStat
  pub spelled : bytes ≡ flat_map spelled_stat stats
  pub each : AllByRecursion IsTreeStat stats

-- one stat
pub record IsOneStat (bytes : List ℕ) : Type 0 where
  pub stat : PlainStat
  pub spelled : bytes ≡ spelled_stat stat
  pub good : IsTreeStat stat

-- a reply has the form that its request asks for, with these bytes
abbrev pub IsReplyTo : PlainRequest → PlainReply → List ℕ → Type 0
IsReplyTo request (refused refusal) bytes = ⊤
IsReplyTo (look n) (qid q) bytes = ⊤
IsReplyTo (walk n names) (walked qids) bytes = AreWalked names qids
IsReplyTo (open_node n mode) (qid q) bytes = ⊤
IsReplyTo (create n name is_dir mode) (qid q) bytes = ⊤
IsReplyTo (read n at most) (count k) bytes = (k ≤ most) × (length bytes ≡ k)
IsReplyTo (list n after most) (count k) bytes = AreStats most bytes × (length bytes ≡ k)
IsReplyTo (write n at given) (count k) bytes = k ≡ length given
IsReplyTo (remove n) done bytes = ⊤
IsReplyTo (stat_of n) (stat k) bytes = IsOneStat bytes × (length bytes ≡ k)
IsReplyTo (change n c) done bytes = ⊤
IsReplyTo (sync n) done bytes = ⊤
-- each other pair of a request and a reply is none
IsReplyTo request reply bytes = ⊥

-- a walk's qids are those that there are
abbrev pub HasCount : Reply → Type 0
HasCount (replies.Walked n qids) = n ≤ walk_limit
HasCount reply = ⊤

-- ---- requests that entered a history

-- a request for which the caller had no turn left is in no history
abbrev pub is_exhausted : PlainReply → Bool
is_exhausted (refused (refusals.Exhausted ticket)) = true
is_exhausted reply = false

-- what was asked, without the requests that are in no history
abbrev pub entered : List Asked → List Asked
entered asked = filter (λ a. not (is_exhausted a.reply)) asked
