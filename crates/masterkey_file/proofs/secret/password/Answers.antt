use Rattle.std.proofs.Common.{sym, ◌∙◌}
use Rattle.std.specs.String.{string_bytes}
use Rattle.masterkey_file.proofs.Lines.{password_of-other_length, password_of-not_utf8, password_of-text}
use Rattle.masterkey_file.proofs.secret.password.Goals as goal

pub returns-then-not-is_of_good_length-clause-bad : goal.returns-then-not-is_of_good_length-clause-bad
returns-then-not-is_of_good_length-clause-bad c = λ _.
    password_of-other_length c.args.secret.now c.first_line-line.result.now c.first_line-line.ensures (sym c.is_of_good_length.ensures ∙ c.if-not-is_of_good_length.true)

pub returns-in_default-clause-bad : goal.returns-in_default-clause-bad
returns-in_default-clause-bad c = λ _. password_of-not_utf8 c.args.secret.now c.first_line-line.result.now c.first_line-line.ensures c.in_default.ensures.cases.0

pub returns-clause-password : goal.returns-clause-password
returns-clause-password c =
    password_of-text c.args.secret.now c.first_line-line.result.now c.in-Ok.text.now (string_bytes c.in_ok-nfc.field-0) c.first_line-line.ensures
    (sym c.is_of_good_length.ensures ∙ c.if-not-is_of_good_length.false) c.in-Ok.ensures.cases.1 c.in-Ok.ensures.cases.0 c.in_ok-nfc.ensures
