-- T-messages, which clients send, as plain data, and what bytes spell them (section 5 of the Plan 9 manual).
use Rattle.std.specs.Prelude.{◌≢◌, ℕ, ◌+◌, ◌-◌, ◌<◌, ◌≤◌, ◌^◌, List, [], ◌++◌, length, Option, Some, None, IfSome}
use Rattle.std.specs.List.{flat_map, AllByRecursion}
use Rattle.tree_model.specs.declared.stat.Qid.{Qid}
use Rattle.tree_model.specs.Asked.{PlainChange}
use Rattle.tree_model.specs.Names.{walk_limit}
use Rattle.tree_model.specs.Wire.{number, string, IsString, qid, IsQid}
use Rattle.ninep_wire.specs.Header.{message}

pub data PlainTMessage : Type 0 where
  -- msize[4] version s
  version : ℕ → List ℕ → PlainTMessage
  -- afid[4] uname s, aname s
  auth : ℕ → List ℕ → List ℕ → PlainTMessage
  -- fid[4] afid[4] uname s, aname s
  attach : ℕ → ℕ → List ℕ → List ℕ → PlainTMessage
  -- oldtag[2]
  flush : ℕ → PlainTMessage
  -- fid[4] newfid[4] nwname[2], that many s
  walk : ℕ → ℕ → List (List ℕ) → PlainTMessage
  -- fid[4] mode[1]
  open_fid : ℕ → ℕ → PlainTMessage
  -- fid[4] name s, perm[4] mode[1]
  create : ℕ → List ℕ → ℕ → ℕ → PlainTMessage
  -- fid[4] offset[8] count[4]
  read : ℕ → ℕ → ℕ → PlainTMessage
  -- fid[4] offset[8] count[4], count bytes
  write : ℕ → ℕ → List ℕ → PlainTMessage
  -- fid[4]
  clunk : ℕ → PlainTMessage
  remove : ℕ → PlainTMessage
  stat : ℕ → PlainTMessage
  -- fid[4] n[2] stat
  wstat : ℕ → PlainChange → PlainTMessage

abbrev pub t_kind : PlainTMessage → ℕ
t_kind (version msize text) = 100
t_kind (auth afid uname aname) = 102
t_kind (attach fid afid uname aname) = 104
t_kind (flush oldtag) = 108
t_kind (walk fid newfid names) = 110
t_kind (open_fid fid mode) = 112
t_kind (create fid name perm mode) = 114
t_kind (read fid offset count) = 116
t_kind (write fid offset bytes) = 118
t_kind (clunk fid) = 120
t_kind (remove fid) = 122
t_kind (stat fid) = 124
t_kind (wstat fid change) = 126

-- ---- the stat of a Twstat: a field that isn't touched is all ones, or the empty string (stat(5))

abbrev pub optional_number : ℕ → Option ℕ → List ℕ
optional_number n None = number n (256 ^ n - 1)
optional_number n (Some x) = number n x

-- the qid is one field: untouched if all its 13 bytes are ones
abbrev pub optional_qid : Option Qid → List ℕ
optional_qid None = number 13 (256 ^ 13 - 1)
optional_qid (Some q) = qid q

abbrev pub optional_string : Option (List ℕ) → List ℕ
optional_string None = string []
optional_string (Some text) = string text

-- type[2] dev[4] qid[13] mode[4] atime[4] mtime[4] length[8] name s, uid s, gid s, muid s
abbrev pub change_fields : PlainChange → List ℕ
change_fields c =
    optional_number 2 c.kind ++ optional_number 4 c.device ++ optional_qid c.qid ++ optional_number 4 c.mode
    ++ optional_number 4 c.accessed ++ optional_number 4 c.modified ++ optional_number 8 c.length
    ++ optional_string c.name ++ optional_string c.owner ++ optional_string c.group ++ optional_string c.modifier

-- size[2] of what follows it, and the fields
abbrev pub change_stat : PlainChange → List ℕ
change_stat c = number 2 (length (change_fields c)) ++ change_fields c

abbrev pub IsTouchedNumber : ℕ → Option ℕ → Type 0
IsTouchedNumber n x = IfSome x (λ x. x < 256 ^ n - 1)

abbrev pub IsTouchedString : Option (List ℕ) → Type 0
IsTouchedString text = IfSome text (λ text. IsString text × (0 < length text))

pub record IsChange (c : PlainChange) : Type 0 where
  pub kind : IsTouchedNumber 2 c.kind
  pub device : IsTouchedNumber 4 c.device
  pub qid : IfSome c.qid (λ q. IsQid q × (qid q ≢ optional_qid None))
  pub mode : IsTouchedNumber 4 c.mode
  pub accessed : IsTouchedNumber 4 c.accessed
  pub modified : IsTouchedNumber 4 c.modified
  pub long : IsTouchedNumber 8 c.length
  pub name : IsTouchedString c.name
  pub owner : IsTouchedString c.owner
  pub group : IsTouchedString c.group
  pub modifier : IsTouchedString c.modifier
  pub size : length (change_stat c) < 2 ^ 16

-- ---- each message's fields

abbrev pub t_fields : PlainTMessage → List ℕ
t_fields (version msize text) = number 4 msize ++ string text
t_fields (auth afid uname aname) = number 4 afid ++ string uname ++ string aname
t_fields (attach fid afid uname aname) = number 4 fid ++ number 4 afid ++ string uname ++ string aname
t_fields (flush oldtag) = number 2 oldtag
t_fields (walk fid newfid names) = number 4 fid ++ number 4 newfid ++ number 2 (length names) ++ flat_map string names
t_fields (open_fid fid mode) = number 4 fid ++ number 1 mode
t_fields (create fid name perm mode) = number 4 fid ++ string name ++ number 4 perm ++ number 1 mode
t_fields (read fid offset count) = number 4 fid ++ number 8 offset ++ number 4 count
t_fields (write fid offset bytes) = number 4 fid ++ number 8 offset ++ number 4 (length bytes) ++ bytes
t_fields (clunk fid) = number 4 fid
t_fields (remove fid) = number 4 fid
t_fields (stat fid) = number 4 fid
t_fields (wstat fid change) = number 4 fid ++ number 2 (length (change_stat change)) ++ change_stat change

-- what has a spelling: numbers and strings that fit their fields, and at most 16 names
abbrev pub IsTMessage : PlainTMessage → Type 0
IsTMessage (version msize text) = (msize < 2 ^ 32) × IsString text
IsTMessage (auth afid uname aname) = (afid < 2 ^ 32) × IsString uname × IsString aname
IsTMessage (attach fid afid uname aname) = (fid < 2 ^ 32) × (afid < 2 ^ 32) × IsString uname × IsString aname
IsTMessage (flush oldtag) = oldtag < 2 ^ 16
IsTMessage (walk fid newfid names) = (fid < 2 ^ 32) × (newfid < 2 ^ 32) × (length names ≤ walk_limit) × AllByRecursion IsString names
IsTMessage (open_fid fid mode) = (fid < 2 ^ 32) × (mode < 2 ^ 8)
IsTMessage (create fid name perm mode) = (fid < 2 ^ 32) × IsString name × (perm < 2 ^ 32) × (mode < 2 ^ 8)
IsTMessage (read fid offset count) = (fid < 2 ^ 32) × (offset < 2 ^ 64) × (count < 2 ^ 32)
IsTMessage (write fid offset bytes) = (fid < 2 ^ 32) × (offset < 2 ^ 64) × (length bytes < 2 ^ 32)
IsTMessage (clunk fid) = fid < 2 ^ 32
IsTMessage (remove fid) = fid < 2 ^ 32
IsTMessage (stat fid) = fid < 2 ^ 32
IsTMessage (wstat fid change) = (fid < 2 ^ 32) × IsChange change

-- a message with its tag
pub record PlainMessage : Type 0 where
  pub tag : ℕ
  pub body : PlainTMessage

pub record IsMessage (m : PlainMessage) : Type 0 where
  pub tag : m.tag < 2 ^ 16
  pub body : IsTMessage m.body
  pub size : length (t_fields m.body) + 7 < 2 ^ 32

-- the one spelling of a message
abbrev pub spelled_t : PlainMessage → List ℕ
spelled_t m = message (t_kind m.body) m.tag (t_fields m.body)
