use Rattle.std.proofs.Common.{◌≡◌, ℕ, List, Err, refl, ap, ◌∙◌}
use Rattle.std.proofs.lemmas.Result.{err_from_is_err_and}
use Rattle.scrypt_kdf.specs.Scrypt.{IsCost, IsTooLarge, scrypt}
use Rattle.scrypt_kdf.specs.declared.scrypt_derivation.ScryptErr.{ScryptErr}
use Rattle.scrypt_kdf.specs.declared.scrypt_derivation.ScryptErr.TheVariants as errors
use Rattle.masterkey_file.specs.KeyFile.{is_good_cost}
use Rattle.masterkey_file.specs.Faults.{scrypt_error}
use Rattle.masterkey_file.specs.Steps.{IsCostFault}
use Rattle.masterkey_file.proofs.Costs.{is_good_cost-bad, is_good_cost-large, is_good_cost-unrefused}
use Rattle.masterkey_file.proofs.reading.wrapping_key.Goals as goal

refused : (error : ScryptErr) (n r : ℕ) → (error ≡ errors.BadCost → IsCost n r 1 → ⊥) → (error ≡ errors.TooLarge → IsCost n r 1 × IsTooLarge n r 1)
    → IsCostFault (scrypt_error error) (is_good_cost n r)
refused errors.BadCost n r bad large = is_good_cost-bad n r (bad refl)
refused errors.TooLarge n r bad large = is_good_cost-large n r (large refl)
refused errors.Memory n r bad large = tt

pub returns-in_err-scrypt : goal.returns-in_err-scrypt
returns-in_err-scrypt c =
    let p = err_from_is_err_and c.from_residual.result c.from_residual.ensures.1 in
    rw (p.1, p.2) (refused c.in_err-scrypt.field-0.0 c.args.fields.now.cost c.args.fields.now.block_size
    (λ is. c.in_err-scrypt.ensures.bad_cost.0 (ap Err is)) (λ is. c.in_err-scrypt.ensures.too_large.0 (ap Err is)))

pub returns : goal.returns
returns c =
    let fields = c.args.fields.now in (
      is_good_cost-unrefused fields.cost fields.block_size (λ not. let refused = c.in_ok-scrypt.ensures.bad_cost.1 not in cc) (λ large. let refused = c.in_ok-scrypt.ensures.too_large.1 large in cc),
      c.in_ok-scrypt.ensures.derived ∙ ap (λ (salt : List ℕ). scrypt c.args.password.now salt c.args.fields.now.cost c.args.fields.now.block_size 1 32) c.deref.ensures.value,
    )
