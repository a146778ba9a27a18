use Rattle.std.proofs.Common.{[], ◌∷◌, ap, ◌∙◌, arith}
use Rattle.aes_block.specs.Aes.{sub_bytes}
use Rattle.aes_block.specs.Bytes.{xor_bytes}
use Rattle.aes_block.proofs.KeyLemmas.{schedule_step-first, schedule_step-fourth, schedule_step-short, schedule_step-other}
use Rattle.model_contents.proofs.CipherSchedules.{rotated-is}
use Rattle.model_contents.proofs.cipher.schedule_step.Goals as goal
use Rattle.model_contents.proofs.cipher.schedule_step.Goals.{else-key_words-gt6-via-then-key_words-gt6+else-i-key_words-eq4, else-key_words-gt6-via-else-key_words-gt6}

pub returns-then-i-key_words-eq0 : goal.returns-then-i-key_words-eq0
returns-then-i-key_words-eq0 c =
    let a = c.args in
    let rotated = c.sub_word.ensures ∙ ap sub_bytes (rotated-is a.word (omega arith)) in
    c.xored.ensures ∙ ap (λ w. xor_bytes w (c.power_of_x.result ∷ 0 ∷ 0 ∷ 0 ∷ [])) rotated
    ∙ schedule_step-first a.key_words a.i _ a.word c.if-i-key_words-eq0.true c.power_of_x.ensures

pub returns-then-i-key_words-eq4 : goal.returns-then-i-key_words-eq4
returns-then-i-key_words-eq4 c =
    c.sub_word-then-i-key_words-eq4.ensures ∙ schedule_step-fourth c.args.key_words c.args.i c.args.word (omega arith) (omega arith)

pub returns-else-key_words-gt6 : goal.returns-else-key_words-gt6
returns-else-key_words-gt6 c =
    elim c.else-key_words-gt6.branch [
      | else-key_words-gt6-via-then-key_words-gt6+else-i-key_words-eq4 w ↦
          schedule_step-other c.args.key_words c.args.i c.args.word c.if-i-key_words-eq0.false w.if-i-key_words-eq4.false
      | else-key_words-gt6-via-else-key_words-gt6 w ↦
          schedule_step-short c.args.key_words c.args.i c.args.word c.if-i-key_words-eq0.false (omega arith)
    ]
