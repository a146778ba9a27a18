use Rattle.std.proofs.Common.{ap, sym}
use Rattle.vault_words.specs.Texts.{help_of}
use Rattle.vault_words.proofs.texts.help_text.Goals as goal

pub returns-in-Program : goal.returns-in-Program
returns-in-Program c = ap help_of (sym c.in-Program.is)

pub returns-in-Serve : goal.returns-in-Serve
returns-in-Serve c = ap help_of (sym c.in-Serve.is)
