use Rattle.vault_words.proofs.Digits.{digits_value-unread}
use Rattle.vault_words.proofs.number.value_of.Goals as goal

pub returns-in-Err : goal.returns-in-Err
returns-in-Err c = digits_value-unread c.args.text.now c.requires c.in-Err.ensures.value.0
