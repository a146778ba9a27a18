-- What a tree in memory answers, whatever the contents of its files are.
use Rattle.std.specs.Prelude.{◌≡◌, ℕ, ◌==◌, List, Bool, true, false, Option, Some, None, unwrap_or, if◌then◌else◌, ⊤}
use Rattle.tree_model.specs.declared.refusal.Refusal.{Refusal}
use Rattle.tree_model.specs.declared.refusal.Refusal.TheVariants as refusals
use Rattle.tree_model.specs.declared.stat.Qid.{Qid}
use Rattle.tree_model.specs.Wire.{PlainStat}
use Rattle.tree_model.specs.Rows.{Content, content_length, is_dir, mode_of, owner}
use Rattle.tree_model.specs.Asked.{PlainRequest, PlainReply, refused, bytes_put}
use Rattle.tree_model.specs.Step.{Answer, step, writes}
use Rattle.clear_tree.specs.Kept.{What, KeptFile, KeptLink, KeptDir, KeptBad, kind_of}
use Rattle.live_tree.specs.Held.{HeldNode, HeldTree, live_rows, size_of}
use Rattle.file_chunks.specs.File.{clear_length}

-- the answer is the step's in the rows of the tree, whatever its files hold, and whenever this was asked
abbrev pub IsStepOf : HeldTree → PlainRequest → Answer → Type 0
IsStepOf tree request answer = (contents : ℕ → Content) (second : ℕ) → answer ≡ (step (live_rows contents tree) request second).answer

-- the qid of a node
abbrev pub qid_in : ℕ → HeldNode → Qid
qid_in number node = record { kind = if is_dir (kind_of node.kept.what) then 0x80 else 0; version = node.version; path = number }

-- what refuses that a node is opened without a truncation
abbrev pub open_fault : What → ℕ → Option Refusal
open_fault (KeptFile size) mode = None
open_fault (KeptLink size) mode = if writes mode then Some refusals.NotPermitted else None
open_fault (KeptDir identifier folder) mode = if mode == 0 then None else Some refusals.IsADirectory
open_fault (KeptBad text) mode = Some refusals.Damaged

-- ---- refusals

-- a refusal that is the tree's own: neither a fault, nor lack of memory, nor a taken place, nor of a store that stopped, nor for lack of
-- turns
abbrev pub is_own : Refusal → Bool
is_own refusals.DeviceFault = false
is_own refusals.OutOfMemory = false
is_own refusals.RandomFault = false
is_own (refusals.PlaceTaken path) = false
is_own (refusals.Stopped f) = false
is_own (refusals.Exhausted ticket) = false
is_own refusal = true

-- a reply that is no refusal, or one of the tree's own
abbrev pub IsOwn : PlainReply → Type 0
IsOwn (refused refusal) = is_own refusal ≡ true
IsOwn reply = ⊤

-- ---- stats

-- the length of the content of a host file of this size, and 0 if no content has it
abbrev pub length_by : ℕ → ℕ
length_by size = unwrap_or (clear_length size) 0

-- the contents of a tree's files and links are as long as the sizes of their host files say
abbrev pub AreSizes : HeldTree → (ℕ → Content) → Type 0
AreSizes tree contents = (number size : ℕ) → size_of tree number ≡ Some size → content_length (contents number) ≡ length_by size

-- the answer is the step's in the rows of the tree, whatever its files hold at their lengths, and whenever this was asked
abbrev pub IsSizedStepOf : HeldTree → PlainRequest → Answer → Type 0
IsSizedStepOf tree request answer =
    (contents : ℕ → Content) → AreSizes tree contents → (second : ℕ) → answer ≡ (step (live_rows contents tree) request second).answer

-- a reply with the bytes that it put into the buffer
abbrev pub answer_in : PlainRequest → PlainReply → List ℕ → Answer
answer_in request reply buffer = record { reply = reply; bytes = bytes_put request reply buffer }

-- the length that is shown of a node
abbrev pub shown_length : What → ℕ
shown_length (KeptFile size) = length_by size
shown_length (KeptLink size) = length_by size
shown_length (KeptDir identifier folder) = 0
shown_length (KeptBad text) = 0

-- the stat of a node
abbrev pub stat_in : ℕ → HeldNode → PlainStat
stat_in number node = record {
  kind = 0;
  device = 0;
  qid = qid_in number node;
  mode = mode_of (kind_of node.kept.what);
  accessed = node.modified;
  modified = node.modified;
  length = shown_length node.kept.what;
  name = node.kept.name;
  owner = owner;
  group = owner;
  modifier = owner;
}
