use Rattle.std.proofs.Common.{◌≡◌, [], map, ap, sym, ◌∙◌, List, arith}
use Rattle.std.proofs.lemmas.List.{nil_from_length}
use Rattle.model_step.specs.declared.rows.Row.{Row}
use Rattle.model_step.specs.Listed.{named}
use Rattle.model_step.proofs.Putting.{put_all, put_children, put_last}
use Rattle.model_step.proofs.listing.named_children.Goals as goal

pub loop-child-preserved : goal.loop-child-preserved
loop-child-preserved c =
    put_last (map named c.loop-child.entries.items) (map named c.put.new.entries.items) (put_all [] (map named c.in_ok-children.children.items)) c.pop.new.self.items c.loop-child.children.items c.in-Some.child
    c.in-Some.ensures.items c.in_ok-put.ensures c.loop-child.invariant

pub returns : goal.returns
returns c =
    let none : c.loop-child.children.items ≡ [] = nil_from_length c.loop-child.children.items (omega (arith, c.in_default.ensures.cases.0)) in
    sym (ap (λ (rows : List Row). put_all (map named c.loop-child.entries.items) (map named rows)) none) ∙ c.loop-child.invariant
    ∙ put_children c.in_ok-children.children.items _ c.in_ok-children.ensures
