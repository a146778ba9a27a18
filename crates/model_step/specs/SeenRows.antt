-- Rows, names and answers in code as those of the plain file tree.
use Rattle.std.specs.Prelude.{ℕ, List, map, Option, Result, Ok, Err}
use Rattle.tree_model.specs.Names as names
use Rattle.tree_model.specs.Rows as rows
use Rattle.tree_model.specs.Asked as asked
use Rattle.tree_model.specs.Step as step
use Rattle.model_step.specs.SeenContents.{content_seen}
use Rattle.model_step.specs.declared.rows.Kind.{Kind}
use Rattle.model_step.specs.declared.rows.Kind.TheVariants as kinds
use Rattle.model_step.specs.declared.rows.Row.{Row}
use Rattle.model_step.specs.declared.rows.Rows.{Rows}
use Rattle.model_step.specs.declared.names.NameFault.{NameFault}
use Rattle.model_step.specs.declared.names.NameFault.TheVariants as faults
use Rattle.model_step.specs.declared.answer.Reply.{Reply}
use Rattle.model_step.specs.declared.answer.Reply.TheVariants as replies
use Rattle.model_step.specs.declared.answer.Answer.{Answer}
use Rattle.model_step.specs.declared.answer.Stepped.{Stepped}
use Rattle.model_step.specs.declared.walking.Walk.{Walk}
use Rattle.tree_model.specs.declared.refusal.Refusal.{Refusal}
use Rattle.tree_model.specs.declared.stat.Qid.{Qid}
use Rattle.std.specs.declared.vec.Vec.{Vec}
use Rattle.std.specs.declared.alloc.Global.{Global}

abbrev pub kind_seen : Kind → rows.Kind
kind_seen kinds.Dir = rows.dir
kind_seen kinds.File = rows.file
kind_seen kinds.Link = rows.link
kind_seen kinds.Bad = rows.bad

abbrev pub row_seen : Row → rows.Row
row_seen row = record {
  number = row.number;
  parent = row.parent;
  name = row.name.items;
  kind = kind_seen row.kind;
  content = content_seen row.content;
  foreign = row.foreign;
  shadowed = row.shadowed;
  version = row.version;
  modified = row.modified;
}

abbrev pub nodes_seen : List Row → List rows.Row
nodes_seen nodes = map row_seen nodes

abbrev pub rows_seen : Rows → rows.Rows
rows_seen all = record { nodes = nodes_seen all.nodes.items; next = all.next; named_twice = all.named_twice }

abbrev pub fault_seen : NameFault → names.NameFault
fault_seen faults.NotUtf8 = names.not_utf8
fault_seen faults.Empty = names.empty
fault_seen faults.Dots = names.dots
fault_seen faults.Forbidden = names.forbidden
fault_seen (faults.TooLong n) = names.too_long n

abbrev pub name_seen : Result (Vec ℕ Global) NameFault → Result (List ℕ) names.NameFault
name_seen (Ok name) = Ok name.items
name_seen (Err fault) = Err (fault_seen fault)

abbrev pub reply_seen : Reply → asked.PlainReply
reply_seen (replies.Qid q) = asked.qid q
reply_seen (replies.Walked qids) = asked.walked qids.items
reply_seen (replies.Count n) = asked.count n
reply_seen (replies.Stat n) = asked.stat n
reply_seen replies.Done = asked.done
reply_seen (replies.Refused refusal) = asked.refused refusal

abbrev pub answer_seen : Answer → step.Answer
answer_seen answer = record { reply = reply_seen answer.reply; bytes = answer.bytes.items }

abbrev pub stepped_seen : Stepped → step.Stepped
stepped_seen done = record { rows = rows_seen done.rows; answer = answer_seen done.answer }

-- texts
abbrev pub bytes_seen : List (Vec ℕ Global) → List (List ℕ)
bytes_seen texts = map (λ text. text.items) texts

abbrev pub walked_seen : Result Row Refusal → Result rows.Row Refusal
walked_seen (Ok row) = Ok (row_seen row)
walked_seen (Err refusal) = Err refusal

abbrev pub walk_seen : Walk → List Qid × Option Refusal
walk_seen walk = (walk.qids.items, walk.refusal)
