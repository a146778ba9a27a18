use Rattle.std.proofs.Common.{◌++◌, ◌∷◌, [], List, ℕ, sym, ap, ◌∙◌, append_assoc}
use Rattle.vault_layout.specs.Names.{journal_file as journal_text}
use Rattle.deeds.specs.Repeatable.{journal_spelled}
use Rattle.journal_mending.specs.Kept.{digits}
use Rattle.journal_mending.proofs.discarding.kept_name.Goals as goal

pub returns : goal.returns
returns c =
    let n = digits c.args.number in
    c.in_ok-add_digits.ensures
    ∙ ap (λ (l : List ℕ). l ++ n) (c.in_ok-push.ensures.items ∙ ap (λ (l : List ℕ). l ++ 46 ∷ []) c.in_ok-name.ensures.items)
    ∙ append_assoc journal_text (46 ∷ []) n
    ∙ ap (λ (l : List ℕ). l ++ (46 ∷ n)) (sym journal_spelled)
