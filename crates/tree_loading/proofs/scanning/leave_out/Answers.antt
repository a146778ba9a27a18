use Rattle.std.proofs.Common.{List, ℕ, [], ◌∷◌, ◌++◌, Contains, subst, ◌∙◌}
use Rattle.std.specs.Vec.Iter.{into_iter_items}
use Rattle.std.proofs.lemmas.List.Elements.{Contains-push, Contains-append_left}
use Rattle.tree_loading.proofs.Gathering.{one_more, out_fewer, out_others}
use Rattle.tree_loading.proofs.scanning.leave_out.Goals as goal

pub loop-name-preserved : goal.loop-name-preserved
loop-name-preserved c =
    let so_far = c.loop-name.invariant in
    record {
      split = one_more c.loop-name.yielded c.in-Some.name (into_iter_items c.loop-name.name-iterator) (into_iter_items c.next.new.self) c.args.names.items c.in-Some.ensures.steps.0 so_far.split;
      fewer = λ q node is. so_far.fewer q node (out_fewer c.loop-name.nodes.entries c.remove.new.self.entries c.in-Some.name c.remove.ensures.updates.0 q node is);
      others = λ q outside.
          out_others c.loop-name.nodes.entries c.remove.new.self.entries c.in-Some.name c.remove.ensures.updates.0 q
          (λ same. outside (subst (λ (n : List ℕ). Contains (c.loop-name.yielded ++ c.in-Some.name ∷ []) n) same (Contains-push c.loop-name.yielded c.in-Some.name)))
          ∙ so_far.others q (λ inside. outside (Contains-append_left c.loop-name.yielded (c.in-Some.name ∷ []) q inside));
    }
