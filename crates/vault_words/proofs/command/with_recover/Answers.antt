use Rattle.std.proofs.Common.{ap, ap₂, ◌∙◌}
use Rattle.std.proofs.lemmas.Result.{IfOk-weaker}
use Rattle.clap.specs.Words.{App, with_subcommand}
use Rattle.vault_words.proofs.command.with_recover.Goals as goal

pub returns : goal.returns
returns c =
    IfOk-weaker c.subcommand.result _ _
    (λ command adds. adds.shape c.in_ok-recover.ensures.local ∙ ap₂ with_subcommand c.in_ok-command.ensures (ap (λ (a : App). a.top) c.in_ok-recover.ensures.app))
    c.subcommand.ensures
