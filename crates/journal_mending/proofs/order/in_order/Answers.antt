use Rattle.std.proofs.Common.{◌≡◌, ◌++◌, ◌∷◌, [], List, sym, ap, subst, ◌∙◌, arith}
use Rattle.std.specs.Vec.Iter.{into_iter_items}
use Rattle.deeds.specs.declared.deed.Deed.{Deed}
use Rattle.deeds.specs.Deeds.{in_order}
use Rattle.deeds.specs.Plain.{plains}
use Rattle.journal_mending.proofs.Orders.{AreSorted, sorted_make, sorted_move, sorted_remove, sorted_all, one_taken, nil_of, all_taken}
use Rattle.journal_mending.proofs.order.in_order.Goals as goal

pub loop-deed-init : goal.loop-deed-init
loop-deed-init c = record { split = c.into_iter-deed-iterator.ensures.into_iter_gives.0; sorted = record { makes = ap plains c.new-makes.ensures.items; moves = ap plains c.new-moves.ensures.items; removes = ap plains c.new-removes.ensures.items } }

pub loop-deed-preserved-in-Continue-1 : goal.loop-deed-preserved-in-Continue-1
loop-deed-preserved-in-Continue-1 c =
    let so_far = c.loop-deed in
    record {
      split = one_taken so_far.yielded c.in-Some.deed (into_iter_items so_far.deed-iterator) (into_iter_items c.next.new.self) c.args.deeds.items c.in-Some.ensures.steps.0 so_far.invariant.split;
      sorted = subst (λ (l : List Deed). AreSorted (so_far.yielded ++ c.in-Some.deed ∷ []) l so_far.moves.items so_far.removes.items) (sym c.in_ok-push.ensures.items)
          (sorted_make so_far.yielded so_far.makes.items so_far.moves.items so_far.removes.items c.in-Some.deed so_far.invariant.sorted (sym c.if-is_of.ensures));
    }

pub loop-deed-preserved-in-Continue-branch-2 : goal.loop-deed-preserved-in-Continue-branch-2
loop-deed-preserved-in-Continue-branch-2 c =
    let so_far = c.loop-deed in
    record {
      split = one_taken so_far.yielded c.in-Some.deed (into_iter_items so_far.deed-iterator) (into_iter_items c.next.new.self) c.args.deeds.items c.in-Some.ensures.steps.0 so_far.invariant.split;
      sorted = subst (λ (l : List Deed). AreSorted (so_far.yielded ++ c.in-Some.deed ∷ []) so_far.makes.items l so_far.removes.items) (sym c.in_ok-push-2.ensures.items)
          (sorted_move so_far.yielded so_far.makes.items so_far.moves.items so_far.removes.items c.in-Some.deed so_far.invariant.sorted (sym c.if-is_of-2.ensures));
    }

pub loop-deed-preserved : goal.loop-deed-preserved
loop-deed-preserved c =
    let so_far = c.loop-deed in
    record {
      split = one_taken so_far.yielded c.in-Some.deed (into_iter_items so_far.deed-iterator) (into_iter_items c.next.new.self) c.args.deeds.items c.in-Some.ensures.steps.0 so_far.invariant.split;
      sorted = subst (λ (l : List Deed). AreSorted (so_far.yielded ++ c.in-Some.deed ∷ []) so_far.makes.items so_far.moves.items l) (sym c.in_ok-push-3.ensures.items)
          (sorted_remove so_far.yielded so_far.makes.items so_far.moves.items so_far.removes.items c.in-Some.deed so_far.invariant.sorted (sym c.if-is_of.ensures) (sym c.if-is_of-2.ensures));
    }

pub returns : goal.returns
returns c =
    let so_far = c.loop-deed in
    let none : into_iter_items so_far.deed-iterator ≡ [] = nil_of (into_iter_items so_far.deed-iterator) (let zero = c.in-None.ensures.steps.0 in omega (arith, zero, so_far.deed-iterator.rest.ok)) in
    let all : so_far.yielded ≡ c.args.deeds.items = all_taken so_far.yielded (into_iter_items so_far.deed-iterator) c.args.deeds.items none so_far.invariant.split in
    sorted_all so_far.yielded so_far.makes.items so_far.moves.items so_far.removes.items c.add_all.new.to.items c.add_all-2.new.to.items so_far.invariant.sorted c.in_ok-add_all.ensures c.in_ok-add_all-2.ensures
    ∙ ap (λ (l : List Deed). in_order (plains l)) all
