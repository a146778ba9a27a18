use Rattle.std.proofs.Common.{Option, sym, subst}
use Rattle.outside.specs.Calls.{Told}
use Rattle.outside.specs.Images.{Log, now}
use Rattle.outside.specs.Views.{folder_in}
use Rattle.deeds.proofs.Doing.{told_disk}
use Rattle.chunk_journal.specs.Journal.{IsClosed}
use Rattle.vault_store.specs.ReadOnly.{IsShownOn}
use Rattle.vault_store.proofs.Viewing.{Begins, begins, begins_history, shown_contents}
use Rattle.vault_store.proofs.read_only.ReadOnlyStore.open.Given.{Over}
use Rattle.vault_store.proofs.read_only.ReadOnlyStore.open.Goals as goal

begun : (g : Over) (c : goal.In-Ok g) → Begins c.args.keys.now c.args.now c.in-Ok.field-0.tree (g.D.Reads.log c.args.folder)
begun g c = begins c.args.keys.now c.args.now c.args.threshold (g.D.Reads.log c.args.folder) c.in-Ok.field-0.tree c.in-Ok.ensures.loaded c.in-Ok.ensures.closed c.in-Ok.ensures.host

-- the folder tells what it told
shown : (g : Over) (c : goal.In-Ok g) → Told (g.D.Reads.log c.load_to_read.new.folder) (λ log. IsShownOn (now log) c.in-Ok.field-0.tree (begun g c).rows)
shown g c = subst (λ (l : Option Log). Told l (λ log. IsShownOn (now log) c.in-Ok.field-0.tree (begun g c).rows)) (sym c.in-Ok.ensures.read.log) (begun g c).shown

pub invariant_of-result : goal.invariant_of-result
invariant_of-result g c = shown_contents (g.D.Reads.log c.load_to_read.new.folder) c.in-Ok.field-0.tree (begun g c).rows (shown g c)

pub returns-in-Ok-clause-opened : goal.returns-in-Ok-clause-opened
returns-in-Ok-clause-opened g c = record {
  keys_are = c.in-Ok.ensures.loaded.keys_are;
  closed = told_disk (g.D.Reads.log c.args.folder) IsClosed c.in-Ok.ensures.closed;
  rows = (begun g c).rows;
  clear = (begun g c).clear;
  stands = λ origin faults at. begins_history c.in-Ok.field-0.tree (folder_in g.D.Reads c.load_to_read.new.folder) (begun g c).rows origin (shown g c) faults at;
  read = c.in-Ok.ensures.read;
}
