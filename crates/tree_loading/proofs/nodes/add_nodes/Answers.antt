use Rattle.std.proofs.Common.{◌≡◌, ◌+◌, ◌++◌, [], ◌∷◌, length, length-append, refl, sym, ap, subst, ◌∙◌, arith}
use Rattle.std.specs.Vec.Iter.{into_iter_items}
use Rattle.outside.specs.Calls.{Told}
use Rattle.outside.specs.Images.{disk_in}
use Rattle.outside.proofs.Told.{told_always}
use Rattle.tree_loading.specs.Scanned.{all_found}
use Rattle.tree_loading.specs.Added.{AddsAll}
use Rattle.tree_loading.proofs.Adding.{AreBehind, AreSorted, all_behind, adds_none, rest_behind, rest_sorted, pushed_before, pushed_folders, pushed_inside, longer, told_more, one_more, ends_later, nil_of, all_yielded, Rest}
use Rattle.tree_loading.proofs.nodes.add_nodes.Goals as goal

pub loop-name-init : goal.loop-name-init
loop-name-init g c =
    record {
      log = refl;
      changes = refl;
      later = omega arith;
      split = c.into_iter-name-iterator.ensures.into_iter_gives.0;
      count = omega arith;
      folders = c.requires.ready.folders;
      inside = c.requires.inside;
      before = ends_later c.args.loading.now.tree c.args.parent c.requires.ready.before;
      behind = subst (AreBehind c.args.loading.now.tree c.args.parent) (sym c.into_iter-name-iterator.ensures.into_iter_gives.0) (all_behind c.args.loading.now.tree c.args.parent c.args.nodes.items c.requires.ready.before);
      sorted = subst AreSorted (sym c.into_iter-name-iterator.ensures.into_iter_gives.0) c.requires.sorted;
      added = told_always (disk_in (g.R.Reads.log c.args.from.now)) _ (λ d. adds_none c.args.keys.now d c.args.parent c.args.loading.now);
    }

pub loop-name-preserved : goal.loop-name-preserved
loop-name-preserved g c =
    let log = g.R.Reads.log in
    let so_far = c.loop-name.invariant in
    let rest = into_iter_items c.loop-name.name-iterator in
    let next = into_iter_items c.next.new.self in
    let push = c.in_ok-add_node.ensures.pushed in
    record {
      log = c.in_ok-add_node.ensures.log ∙ so_far.log;
      changes = c.in_ok-add_node.ensures.changes ∙ so_far.changes;
      later = omega (arith, c.in_ok-add_node.ensures.cause.later, so_far.later);
      split = one_more c.loop-name.yielded (c.in-Some.name, c.in-Some.found) rest next c.args.nodes.items c.in-Some.ensures.steps.0 so_far.split;
      count =
          (let a : length (c.loop-name.yielded ++ (c.in-Some.name, c.in-Some.found) ∷ []) ≡ length c.loop-name.yielded + 1 = length-append c.loop-name.yielded ((c.in-Some.name, c.in-Some.found) ∷ []) in
          omega (arith, a, so_far.count, longer c.args.keys.now c.loop-name.loading.tree c.add_node.new.loading.tree c.args.parent c.in-Some.name push));
      folders = pushed_folders c.args.keys.now c.loop-name.loading.tree c.add_node.new.loading.tree c.args.parent c.in-Some.name push so_far.folders;
      inside = pushed_inside c.args.keys.now c.loop-name.loading.tree c.add_node.new.loading.tree c.args.parent c.in-Some.name push c.args.parent so_far.inside;
      before = pushed_before c.args.keys.now c.loop-name.loading.tree c.add_node.new.loading.tree c.args.parent c.in-Some.name push;
      behind = rest_behind c.args.keys.now c.loop-name.loading.tree c.add_node.new.loading.tree c.args.parent (c.in-Some.name, c.in-Some.found) next rest push c.in-Some.ensures.steps.0 so_far.sorted;
      sorted = rest_sorted (c.in-Some.name, c.in-Some.found) next rest c.in-Some.ensures.steps.0 so_far.sorted;
      added =
          told_more (disk_in (log c.args.from.now)) (disk_in (log c.loop-name.from)) c.args.keys.now c.args.parent c.loop-name.yielded (c.in-Some.name, c.in-Some.found)
          c.args.loading.now c.loop-name.loading c.add_node.new.loading (ap disk_in so_far.log) so_far.added c.in_ok-add_node.ensures.added;
    }

pub returns-clause-added : goal.returns-clause-added
returns-clause-added g c =
    let none : into_iter_items c.loop-name.name-iterator ≡ [] = nil_of (into_iter_items c.loop-name.name-iterator) (let zero = c.in-None.ensures.steps.0 in omega (arith, zero, c.loop-name.name-iterator.rest.ok)) in
    let all : c.loop-name.yielded ≡ c.args.nodes.items = all_yielded c.loop-name.yielded (into_iter_items c.loop-name.name-iterator) c.args.nodes.items none c.loop-name.invariant.split in
    subst (λ (z : Rest). Told (disk_in (g.R.Reads.log c.args.from.now)) (λ d. AddsAll c.args.keys.now d c.args.parent (all_found z) c.args.loading.now c.loop-name.loading)) all c.loop-name.invariant.added
