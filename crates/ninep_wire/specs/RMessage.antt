-- R-messages, which a server sends, as plain data, and what bytes spell them (section 5 of the Plan 9 manual).
use Rattle.std.specs.Prelude.{ℕ, ◌+◌, ◌<◌, ◌≤◌, ◌^◌, List, [], ◌++◌, length, ⊤}
use Rattle.std.specs.List.{flat_map, AllByRecursion}
use Rattle.tree_model.specs.declared.stat.Qid.{Qid}
use Rattle.tree_model.specs.Wire.{number, string, IsString, qid, IsQid}
use Rattle.tree_model.specs.Names.{walk_limit}
use Rattle.ninep_wire.specs.Header.{message}

pub data PlainRMessage : Type 0 where
  -- msize[4] version s
  version : ℕ → List ℕ → PlainRMessage
  -- qid[13]
  attach : Qid → PlainRMessage
  -- ename s
  error : List ℕ → PlainRMessage
  flush : PlainRMessage
  -- nwqid[2], that many qid[13]
  walk : List Qid → PlainRMessage
  -- qid[13] iounit[4]
  open_fid : Qid → ℕ → PlainRMessage
  create : Qid → ℕ → PlainRMessage
  -- count[4], count bytes
  read : List ℕ → PlainRMessage
  -- count[4]
  write : ℕ → PlainRMessage
  clunk : PlainRMessage
  remove : PlainRMessage
  -- n[2], a stat's n bytes
  stat : List ℕ → PlainRMessage
  wstat : PlainRMessage

abbrev pub r_kind : PlainRMessage → ℕ
r_kind (version msize text) = 101
r_kind (attach q) = 105
r_kind (error text) = 107
r_kind flush = 109
r_kind (walk qids) = 111
r_kind (open_fid q iounit) = 113
r_kind (create q iounit) = 115
r_kind (read bytes) = 117
r_kind (write count) = 119
r_kind clunk = 121
r_kind remove = 123
r_kind (stat bytes) = 125
r_kind wstat = 127

abbrev pub r_fields : PlainRMessage → List ℕ
r_fields (version msize text) = number 4 msize ++ string text
r_fields (attach q) = qid q
r_fields (error text) = string text
r_fields flush = []
r_fields (walk qids) = number 2 (length qids) ++ flat_map qid qids
r_fields (open_fid q iounit) = qid q ++ number 4 iounit
r_fields (create q iounit) = qid q ++ number 4 iounit
r_fields (read bytes) = number 4 (length bytes) ++ bytes
r_fields (write count) = number 4 count
r_fields clunk = []
r_fields remove = []
r_fields (stat bytes) = number 2 (length bytes) ++ bytes
r_fields wstat = []

-- the one spelling of an R-message with its tag
abbrev pub spelled_r : ℕ → PlainRMessage → List ℕ
spelled_r tag m = message (r_kind m) tag (r_fields m)

-- what has a spelling: numbers and strings that fit their fields, at most 16 qids
abbrev pub HasRFields : PlainRMessage → Type 0
HasRFields (version msize text) = (msize < 2 ^ 32) × IsString text
HasRFields (attach q) = IsQid q
HasRFields (error text) = IsString text
HasRFields flush = ⊤
HasRFields (walk qids) = (length qids ≤ walk_limit) × AllByRecursion IsQid qids
HasRFields (open_fid q iounit) = IsQid q × (iounit < 2 ^ 32)
HasRFields (create q iounit) = IsQid q × (iounit < 2 ^ 32)
HasRFields (read bytes) = length bytes < 2 ^ 32
HasRFields (write count) = count < 2 ^ 32
HasRFields clunk = ⊤
HasRFields remove = ⊤
HasRFields (stat bytes) = length bytes < 2 ^ 16
HasRFields wstat = ⊤

pub record IsRMessage (tag : ℕ) (message : PlainRMessage) : Type 0 where
  pub tag_fits : tag < 2 ^ 16
  pub fields : HasRFields message
  pub size : length (r_fields message) + 7 < 2 ^ 32
