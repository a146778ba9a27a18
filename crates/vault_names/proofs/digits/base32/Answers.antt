use Rattle.std.proofs.Common.{◌≡◌, ℕ, ◌-◌, ◌/◌, ◌%◌, ◌^◌, length-set, ap, ◌∙◌, arith}
use Rattle.std.proofs.lemmas.List.Edits.{fill_by_more}
use Rattle.std.proofs.lemmas.List.FromFn.{fill_by_all}
use Rattle.aes_block.specs.Bytes.{number_of}
use Rattle.vault_names.specs.Folder.{base32, base32_digit}
use Rattle.vault_names.proofs.digits.base32.Goals as goal

pub loop-i-preserved : goal.loop-i-preserved
loop-i-preserved c =
    let f : ℕ → ℕ = λ k. base32_digit (number_of c.args.hash.now / 32 ^ (31 - k) % 32) in
    let here : c.digit.result ≡ f c.loop-i.i = c.digit.ensures ∙ ap base32_digit c.five_bits.ensures in
    let long = c.loop-i.invariant.long in
    record {
      long = rw length-set long;
      found = rw here (fill_by_more f c.loop-i.digits c.loop-i.i 0 (omega arith) c.loop-i.invariant.found);
    }

pub returns : goal.returns
unfolding base32
returns c =
    let f : ℕ → ℕ = λ k. base32_digit (number_of c.args.hash.now / 32 ^ (31 - k) % 32) in
    fill_by_all f c.loop-i.digits 32 0 c.loop-i.invariant.long (λ k low. c.loop-i.invariant.found k (omega arith))
