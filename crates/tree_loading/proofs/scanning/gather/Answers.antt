use Rattle.std.proofs.Common.{◌≡◌, ◌∙◌, arith}
use Rattle.std.proofs.lemmas.Grind.{common_steps}
use Rattle.std.specs.Vec.Iter.{into_iter_items}
use Rattle.outside.specs.Images.{disk_in}
use Rattle.tree_loading.specs.Format.{sealing_of}
use Rattle.tree_loading.proofs.Gathering.{one_more, told_node, told_taken, told_names, told_foreign, told_copy, told_left}
use Rattle.tree_loading.proofs.scanning.gather.Goals as goal

-- each arm of the match carries on what was gathered
pub loop-entry-preserved-in_ok-insert-in-Node : goal.loop-entry-preserved-in_ok-insert-in-Node
loop-entry-preserved-in_ok-insert-in-Node g c =
    let log = g.R.Reads.log in
    let so_far = c.loop-entry.invariant in
    record {
      log = c.in_ok-name.ensures.log ∙ so_far.log;
      changes = c.in_ok-name.ensures.changes ∙ so_far.changes;
      later = omega (arith, c.in_ok-name.ensures.cause.later, so_far.later);
      split = one_more c.loop-entry.yielded c.in-Some.entry (into_iter_items c.loop-entry.entry-iterator) (into_iter_items c.next.new.self) c.args.entries.items c.in-Some.ensures.steps.0 so_far.split;
      taken = so_far.taken;
      gathered =
          told_node (log c.args.from.now) (log c.loop-entry.from) so_far.log (sealing_of c.args.keys.now) c.are_ciphers.ensures c.args.identifier.now c.args.entries.items c.loop-entry.yielded
          (into_iter_items c.loop-entry.entry-iterator) (into_iter_items c.next.new.self) c.in-Some.entry c.loop-entry.nodes.entries c.loop-entry.foreign c.in_ok-name.field-0
          c.in-Some.ensures.steps.0 so_far.split so_far.gathered c.in_ok-name.ensures.entry c.insert.new.self.entries c.in-Node.name c.in-Node.node c.in-Node.is c.in_ok-insert-in-Node.ensures.updates.0;
    }

pub loop-entry-preserved-in_ok-insert-in-Node-2 : goal.loop-entry-preserved-in_ok-insert-in-Node-2
loop-entry-preserved-in_ok-insert-in-Node-2 g c =
    let log = g.R.Reads.log in
    let so_far = c.loop-entry.invariant in
    record {
      log = c.in_ok-name.ensures.log ∙ so_far.log;
      changes = c.in_ok-name.ensures.changes ∙ so_far.changes;
      later = omega (arith, c.in_ok-name.ensures.cause.later, so_far.later);
      split = one_more c.loop-entry.yielded c.in-Some.entry (into_iter_items c.loop-entry.entry-iterator) (into_iter_items c.next.new.self) c.args.entries.items c.in-Some.ensures.steps.0 so_far.split;
      taken = so_far.taken;
      gathered =
          told_node (log c.args.from.now) (log c.loop-entry.from) so_far.log (sealing_of c.args.keys.now) c.are_ciphers.ensures c.args.identifier.now c.args.entries.items c.loop-entry.yielded
          (into_iter_items c.loop-entry.entry-iterator) (into_iter_items c.next.new.self) c.in-Some.entry c.loop-entry.nodes.entries c.loop-entry.foreign c.in_ok-name.field-0
          c.in-Some.ensures.steps.0 so_far.split so_far.gathered c.in_ok-name.ensures.entry c.insert.new.self.entries c.in-Node.name c.in-Node.node c.in-Node.is c.in_ok-insert-in-Node.ensures.updates.0;
    }

pub loop-entry-preserved-in_ok-insert-in-Node-3 : goal.loop-entry-preserved-in_ok-insert-in-Node-3
loop-entry-preserved-in_ok-insert-in-Node-3 g c =
    let log = g.R.Reads.log in
    let so_far = c.loop-entry.invariant in
    record {
      log = c.in_ok-name.ensures.log ∙ so_far.log;
      changes = c.in_ok-name.ensures.changes ∙ so_far.changes;
      later = omega (arith, c.in_ok-name.ensures.cause.later, so_far.later);
      split = one_more c.loop-entry.yielded c.in-Some.entry (into_iter_items c.loop-entry.entry-iterator) (into_iter_items c.next.new.self) c.args.entries.items c.in-Some.ensures.steps.0 so_far.split;
      taken = so_far.taken;
      gathered =
          told_node (log c.args.from.now) (log c.loop-entry.from) so_far.log (sealing_of c.args.keys.now) c.are_ciphers.ensures c.args.identifier.now c.args.entries.items c.loop-entry.yielded
          (into_iter_items c.loop-entry.entry-iterator) (into_iter_items c.next.new.self) c.in-Some.entry c.loop-entry.nodes.entries c.loop-entry.foreign c.in_ok-name.field-0
          c.in-Some.ensures.steps.0 so_far.split so_far.gathered c.in_ok-name.ensures.entry c.insert.new.self.entries c.in-Node.name c.in-Node.node c.in-Node.is c.in_ok-insert-in-Node.ensures.updates.0;
    }

pub loop-entry-preserved-in-Taken : goal.loop-entry-preserved-in-Taken
loop-entry-preserved-in-Taken g c =
    let log = g.R.Reads.log in
    let so_far = c.loop-entry.invariant in
    record {
      log = c.in_ok-name.ensures.log ∙ so_far.log;
      changes = c.in_ok-name.ensures.changes ∙ so_far.changes;
      later = omega (arith, c.in_ok-name.ensures.cause.later, so_far.later);
      split = one_more c.loop-entry.yielded c.in-Some.entry (into_iter_items c.loop-entry.entry-iterator) (into_iter_items c.next.new.self) c.args.entries.items c.in-Some.ensures.steps.0 so_far.split;
      taken =
          told_names (log c.args.from.now) (log c.loop-entry.from) so_far.log (sealing_of c.args.keys.now) c.are_ciphers.ensures c.args.identifier.now c.args.entries.items c.loop-entry.yielded
          (into_iter_items c.loop-entry.entry-iterator) (into_iter_items c.next.new.self) c.in-Some.entry c.loop-entry.nodes.entries c.loop-entry.foreign c.in_ok-name.field-0
          c.in-Some.ensures.steps.0 so_far.split so_far.gathered c.in_ok-name.ensures.entry
          c.loop-entry.taken.items c.push.new.self.items c.in-Taken.name c.in-Taken.is c.in_ok-push-in-Taken.ensures.items so_far.taken;
      gathered =
          told_taken (log c.args.from.now) (log c.loop-entry.from) so_far.log (sealing_of c.args.keys.now) c.are_ciphers.ensures c.args.identifier.now c.args.entries.items c.loop-entry.yielded
          (into_iter_items c.loop-entry.entry-iterator) (into_iter_items c.next.new.self) c.in-Some.entry c.loop-entry.nodes.entries c.loop-entry.foreign c.in_ok-name.field-0
          c.in-Some.ensures.steps.0 so_far.split so_far.gathered c.in_ok-name.ensures.entry
          c.in-Taken.name c.in-Taken.is;
    }

pub loop-entry-preserved-in-Foreign : goal.loop-entry-preserved-in-Foreign
loop-entry-preserved-in-Foreign g c =
    let log = g.R.Reads.log in
    let so_far = c.loop-entry.invariant in
    record {
      log = c.in_ok-name.ensures.log ∙ so_far.log;
      changes = c.in_ok-name.ensures.changes ∙ so_far.changes;
      later = omega (arith, c.in_ok-name.ensures.cause.later, so_far.later);
      split = one_more c.loop-entry.yielded c.in-Some.entry (into_iter_items c.loop-entry.entry-iterator) (into_iter_items c.next.new.self) c.args.entries.items c.in-Some.ensures.steps.0 so_far.split;
      taken = so_far.taken;
      gathered =
          told_foreign (log c.args.from.now) (log c.loop-entry.from) so_far.log (sealing_of c.args.keys.now) c.are_ciphers.ensures c.args.identifier.now c.args.entries.items c.loop-entry.yielded
          (into_iter_items c.loop-entry.entry-iterator) (into_iter_items c.next.new.self) c.in-Some.entry c.loop-entry.nodes.entries c.loop-entry.foreign c.in_ok-name.field-0
          c.in-Some.ensures.steps.0 so_far.split so_far.gathered c.in_ok-name.ensures.entry c.in-Foreign.is;
    }

pub loop-entry-preserved : goal.loop-entry-preserved
loop-entry-preserved g c =
    let log = g.R.Reads.log in
    let so_far = c.loop-entry.invariant in
    record {
      log = c.in_ok-name.ensures.log ∙ so_far.log;
      changes = c.in_ok-name.ensures.changes ∙ so_far.changes;
      later = omega (arith, c.in_ok-name.ensures.cause.later, so_far.later);
      split = one_more c.loop-entry.yielded c.in-Some.entry (into_iter_items c.loop-entry.entry-iterator) (into_iter_items c.next.new.self) c.args.entries.items c.in-Some.ensures.steps.0 so_far.split;
      taken = so_far.taken;
      gathered =
          told_copy (log c.args.from.now) (log c.loop-entry.from) so_far.log (sealing_of c.args.keys.now) c.are_ciphers.ensures c.args.identifier.now c.args.entries.items c.loop-entry.yielded
          (into_iter_items c.loop-entry.entry-iterator) (into_iter_items c.next.new.self) c.in-Some.entry c.loop-entry.nodes.entries c.loop-entry.foreign c.in_ok-name.field-0
          c.in-Some.ensures.steps.0 so_far.split so_far.gathered c.in_ok-name.ensures.entry c.in-Copy.is;
    }

pub returns-clause-gathered : goal.returns-clause-gathered
returns-clause-gathered g c =
    let so_far = c.loop-entry.invariant in
    let whole : c.loop-entry.yielded ≡ c.args.entries.items = grind (arith, common_steps, c.in-None.ensures, so_far.split) in
    told_left (disk_in (g.R.Reads.log c.args.from.now)) (sealing_of c.args.keys.now) c.args.identifier.now c.args.entries.items c.loop-entry.yielded c.loop-entry.taken.items
    c.loop-entry.nodes.entries c.leave_out.new.nodes.entries c.loop-entry.foreign whole c.leave_out.ensures.fewer c.leave_out.ensures.others so_far.gathered so_far.taken
