-- How numbers, strings, qids and stats are spelled in messages (section 5 of the Plan 9 manual: intro(5), stat(5)).
use Rattle.std.specs.Prelude.{ℕ, ◌<◌, ◌≤◌, ◌^◌, List, ◌++◌, length}
use Rattle.std.specs.Str.{IsUtf8}
use Rattle.byteorder.specs.Endian.{little_bytes}
use Rattle.tree_model.specs.declared.stat.Qid.{Qid}
use Rattle.tree_model.specs.declared.stat.Stat.{Stat}

-- a number of n bytes, the least significant first
abbrev pub number : ℕ → ℕ → List ℕ
number n x = little_bytes n x

-- a string s: length[2], and its bytes, which are UTF-8
abbrev pub string : List ℕ → List ℕ
string text = number 2 (length text) ++ text

pub record IsString (text : List ℕ) : Type 0 where
  pub fits : length text < 2 ^ 16
  pub utf8 : IsUtf8 text

-- a qid: type[1] vers[4] path[8]
abbrev pub qid : Qid → List ℕ
qid q = number 1 q.kind ++ number 4 q.version ++ number 8 q.path

pub record IsQid (q : Qid) : Type 0 where
  pub kind : q.kind < 2 ^ 8
  pub version : q.version < 2 ^ 32
  pub path : q.path < 2 ^ 64

-- ---- stats

-- what a stat says, but not where its names lie in memory
pub record PlainStat : Type 0 where
  pub kind : ℕ
  pub device : ℕ
  pub qid : Qid
  pub mode : ℕ
  pub accessed : ℕ
  pub modified : ℕ
  pub length : ℕ
  pub name : List ℕ
  pub owner : List ℕ
  pub group : List ℕ
  pub modifier : List ℕ

abbrev pub plain_stat : Stat → PlainStat
plain_stat s = record {
  kind = s.kind;
  device = s.device;
  qid = s.qid;
  mode = s.mode;
  accessed = s.accessed;
  modified = s.modified;
  length = s.length;
  name = s.name.now;
  owner = s.owner.now;
  group = s.group.now;
  modifier = s.modifier.now;
}

-- type[2] dev[4] qid[13] mode[4] atime[4] mtime[4] length[8] name s, uid s, gid s, muid s
abbrev pub stat_fields : PlainStat → List ℕ
stat_fields s =
    number 2 s.kind ++ number 4 s.device ++ qid s.qid ++ number 4 s.mode ++ number 4 s.accessed ++ number 4 s.modified
    ++ number 8 s.length ++ string s.name ++ string s.owner ++ string s.group ++ string s.modifier

-- size[2] of what follows it, and the fields
abbrev pub spelled_stat : PlainStat → List ℕ
spelled_stat s = number 2 (length (stat_fields s)) ++ stat_fields s

-- the largest stat of a tree: names of 1,024 bytes
abbrev pub stat_limit : ℕ
stat_limit = 1088

-- a stat that a tree gives: its name is a string of at most 1,024 bytes, and it has at most 1,088 bytes
pub record IsTreeStat (s : PlainStat) : Type 0 where
  pub name : IsUtf8 s.name
  pub short : length s.name ≤ 1024
  pub size : length (spelled_stat s) ≤ stat_limit
