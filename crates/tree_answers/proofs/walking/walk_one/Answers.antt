use Rattle.std.proofs.Common.{Ok, sym, ap, ◌∙◌}
use Rattle.tree_answers.proofs.Rows.{none_of}
use Rattle.tree_answers.proofs.Walks.{next_from_file, next_up, next_named, next_bad, bad_own, up_there, named_there}
use Rattle.tree_answers.proofs.walking.walk_one.Goals as goal

pub returns-in_default-clause-stands : goal.returns-in_default-clause-stands
returns-in_default-clause-stands c = next_from_file c.args.tree.now c.args.from c.args.name.now (sym c.parent_of.ensures ∙ none_of c.parent_of.result c.in_default.not-Some)

pub returns-then-eq-clause-stands : goal.returns-then-eq-clause-stands
returns-then-eq-clause-stands c = next_up c.args.tree.now c.args.from c.in-Some.parent c.args.name.now (sym c.parent_of.ensures ∙ c.in-Some.is) c.requires (sym c.if-eq.ensures)

pub returns-then-eq-clause-there : goal.returns-then-eq-clause-there
returns-then-eq-clause-there c = up_there c.args.tree.now c.args.from c.in-Some.parent c.requires (sym c.parent_of.ensures ∙ c.in-Some.is)

pub returns-in-Ok-clause-stands : goal.returns-in-Ok-clause-stands
returns-in-Ok-clause-stands c =
    next_named c.args.tree.now c.args.from c.in-Some.parent c.args.name.now (sym c.parent_of.ensures ∙ c.in-Some.is) (sym c.if-eq.ensures) c.into_text-name.result c.look.result c.ok_or.result c.requires
    (c.in-Ok.ensures.name ∙ ap Ok (sym c.into_text-name.ensures)) c.look.ensures.found c.look.ensures.none c.ok_or.ensures.value

pub returns-in-Ok-clause-there : goal.returns-in-Ok-clause-there
returns-in-Ok-clause-there c = named_there c.args.tree.now c.args.from c.into_text-name.result c.look.result c.ok_or.result c.look.ensures.found c.ok_or.ensures.value

pub returns-in-Some-name_refusal-clause-stands : goal.returns-in-Some-name_refusal-clause-stands
returns-in-Some-name_refusal-clause-stands c =
    next_bad c.args.tree.now c.args.from c.in-Some.parent c.args.name.now (sym c.parent_of.ensures ∙ c.in-Some.is) (sym c.if-eq.ensures) c.in-Err.fault c.in-Some-name_refusal.refusal
    c.in-Err.ensures.fault (sym c.name_refusal.ensures ∙ c.in-Some-name_refusal.is)

pub returns-in-Some-name_refusal-clause-own : goal.returns-in-Some-name_refusal-clause-own
returns-in-Some-name_refusal-clause-own c = bad_own c.in-Err.fault c.in-Some-name_refusal.refusal (sym c.name_refusal.ensures ∙ c.in-Some-name_refusal.is)
