use Rattle.std.proofs.Common.{Bool, true, false, cond, Some, None, refl, sym, ap, ◌∙◌, inl, inr}
use Rattle.std.specs.Option.{option_copied}
use Rattle.tree_model.specs.declared.refusal.Refusal.TheVariants as refusals
use Rattle.tree_model.specs.Rows.{dir, file, link, bad}
use Rattle.tree_model.specs.Step.{has_children}
use Rattle.clear_tree.specs.Kept.{kind_of}
use Rattle.clear_tree.specs.Built.{kept_what}
use Rattle.live_tree.specs.Held.{live_rows}
use Rattle.node_changes.proofs.Refusing.{absent, refused_as, refused_root}
use Rattle.node_changes.proofs.removing.removal_refusal.Goals as goal

pub returns-in_default-clause-refusal : goal.returns-in_default-clause-refusal
returns-in_default-clause-refusal c = λ contents. absent c.args.live.now contents c.args.number (sym c.node.ensures ∙ ap option_copied c.in_default.is)

pub returns-then-number-eq0-clause-refusal : goal.returns-then-number-eq0-clause-refusal
returns-then-number-eq0-clause-refusal c = λ contents. refused_root c.args.live.now contents c.args.number c.in-Some.node.now (sym c.in-Some.ensures) c.if-number-eq0.true

pub returns-in-Bad-clause-refusal : goal.returns-in-Bad-clause-refusal
returns-in-Bad-clause-refusal c = λ contents.
    refused_as c.args.live.now contents c.args.number c.in-Some.node.now (sym c.in-Some.ensures) c.if-number-eq0.false bad (ap kind_of (sym c.what.ensures ∙ ap kept_what c.in-Bad.is))
    (has_children (live_rows contents c.args.live.now) c.args.number) refl

pub returns-in-Dir-clause-refusal : goal.returns-in-Dir-clause-refusal
returns-in-Dir-clause-refusal c = λ contents.
    refused_as c.args.live.now contents c.args.number c.in-Some.node.now (sym c.in-Some.ensures) c.if-number-eq0.false dir (ap kind_of (sym c.what.ensures ∙ ap kept_what c.in-Dir.is))
    true (c.has_nodes.ensures contents ∙ c.if-has_nodes.true)

pub returns-in-Dir-2-clause-refusal : goal.returns-in-Dir-2-clause-refusal
returns-in-Dir-2-clause-refusal c = λ contents.
    refused_as c.args.live.now contents c.args.number c.in-Some.node.now (sym c.in-Some.ensures) c.if-number-eq0.false dir (ap kind_of (sym c.what.ensures ∙ ap kept_what c.in-Dir-2.is))
    false (c.has_nodes.ensures contents ∙ c.if-has_nodes.false)
    ∙ ap (λ (b : Bool). cond b (Some refusals.Foreign) None) (sym c.is_held.ensures) ∙ sym c.foreign_if.ensures

pub returns-in-File-clause-refusal : goal.returns-in-File-clause-refusal
returns-in-File-clause-refusal c = λ contents. elim c.in-File.is [
  | inl is ↦
      refused_as c.args.live.now contents c.args.number c.in-Some.node.now (sym c.in-Some.ensures) c.if-number-eq0.false file (ap kind_of (sym c.what.ensures ∙ ap kept_what is.1))
      (has_children (live_rows contents c.args.live.now) c.args.number) refl
      ∙ ap (λ (b : Bool). cond b (Some refusals.Foreign) None) (sym c.is_shadowed.ensures) ∙ sym c.foreign_if-in-File.ensures
  | inr is ↦
      refused_as c.args.live.now contents c.args.number c.in-Some.node.now (sym c.in-Some.ensures) c.if-number-eq0.false link (ap kind_of (sym c.what.ensures ∙ ap kept_what is.1))
      (has_children (live_rows contents c.args.live.now) c.args.number) refl
      ∙ ap (λ (b : Bool). cond b (Some refusals.Foreign) None) (sym c.is_shadowed.ensures) ∙ sym c.foreign_if-in-File.ensures
]
