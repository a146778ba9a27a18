use Rattle.std.proofs.Common.{ap, sym, ◌∙◌, arith}
use Rattle.vault_words.specs.Numbers.{is_decimal}
use Rattle.vault_words.proofs.Digits.{number_in-above, number_in-below, number_in-other, number_in-within}
use Rattle.vault_words.proofs.number.number.Goals as goal

pub returns-then-not-is_decimal : goal.returns-then-not-is_decimal
returns-then-not-is_decimal c =
    number_in-other c.args.least c.args.most c.args.text.now
    (ap is_decimal (sym c.as_bytes.ensures.value) ∙ sym c.is_decimal.ensures ∙ c.if-not-is_decimal.true)

pub returns-in_err-number : goal.returns-in_err-number
returns-in_err-number c =
    rw c.from_residual.ensures (number_in-above c.args.least c.args.most c.args.text.now (omega (arith, c.in_err-number.ensures)))

pub returns-then-number-least : goal.returns-then-number-least
returns-then-number-least c =
    number_in-below c.args.least c.args.most c.args.text.now (omega (arith, c.in_ok-number.ensures))

pub returns-then-most-number : goal.returns-then-most-number
returns-then-most-number c =
    number_in-above c.args.least c.args.most c.args.text.now (omega (arith, c.in_ok-number.ensures))

pub returns : goal.returns
returns c =
    number_in-within c.args.least c.args.most c.in_ok-number.number c.args.text.now
    (ap is_decimal (sym c.as_bytes.ensures.value) ∙ sym c.is_decimal.ensures ∙ c.if-not-is_decimal.false) c.in_ok-number.ensures
    c.if-number-least.false c.if-most-number.false
