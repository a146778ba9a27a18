use Rattle.std.proofs.Common.{◌≡◌, Bool, ◌++◌, ◌∷◌, [], true, ap, ◌∙◌}
use Rattle.std.specs.Prelude.{is_ok, not, if◌then◌else◌}
use Rattle.deeds.specs.Plain.{plains}
use Rattle.deeds.proofs.Phases.{plains_pushed}
use Rattle.pending_files.proofs.room.add.Goals as goal

pub returns-clause-deeds : goal.returns-clause-deeds
returns-clause-deeds c =
    let s = c.args.deeds.now.items in
    let ok : is_ok c.push.result ≡ true = c.is_err.ensures.negation ∙ ap not c.if-is_err.false in
    ap plains (c.push.ensures.items ∙ ap (λ (b : Bool). if b then s ++ c.args.deed ∷ [] else s) ok) ∙ plains_pushed s c.args.deed
