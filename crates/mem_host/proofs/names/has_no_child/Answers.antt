use Rattle.std.proofs.Common.{[], refl, sym, ◌∙◌, true≢false}
use Rattle.std.specs.Map.Iter.{deref}
use Rattle.std.proofs.lemmas.Map.Iter.{rest_more, rest_all}
use Rattle.mem_host.proofs.Listing.{step_some, step_none, all_named, none_below, some_below}
use Rattle.mem_host.proofs.names.has_no_child.Goals as goal

pub returns-in-Some-name_in : goal.returns-in-Some-name_in
returns-in-Some-name_in c =
    let more = step_some [] c.args.folder.now c.in-Some.path.now c.in-Some-name_in.field-0.now _ _ (rest_more deref _ _ c.next.result c.in-Some.path c.in-Some.is c.next.ensures.steps) c.in-Some-name_in.ensures in
    (λ h. absurd (true≢false (sym h)), λ none. absurd (some_below c.args.held.now.entries c.args.folder.now c.in-Some-name_in.field-0.now _ (sym (more ∙ c.loop-path.invariant)) none))

pub loop-path-preserved : goal.loop-path-preserved
loop-path-preserved c =
    step_none [] c.args.folder.now c.in-Some.path.now _ _ (rest_more deref _ _ c.next.result c.in-Some.path c.in-Some.is c.next.ensures.steps) c.in_default.ensures ∙ c.loop-path.invariant

pub returns : goal.returns
returns c =
    let named = all_named [] c.args.folder.now _ _ (rest_all deref _ _ c.next.result c.in-None.is c.next.ensures.steps) c.loop-path.invariant in
    (λ h. none_below c.args.held.now.entries c.args.folder.now (sym named), λ none. refl)
