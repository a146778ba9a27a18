-- The password of a line that was read.
use Rattle.std.proofs.Common.{◌≡◌, ℕ, ◌<◌, List, length, Option, Some, None, Err, IsErrOf, refl, ap, ◌∙◌, inl, inr, arith}
use Rattle.std.proofs.lemmas.Grind.{common_steps}
use Rattle.std.proofs.lemmas.Bool.Decides.{nat_tests}
use Rattle.outside.specs.Calls.{Told, Changes}
use Rattle.masterkey_file.specs.Password.{line_of, password_of}
use Rattle.masterkey_file.proofs.Lines.{password_of-behind, password_of-other_length}
use Rattle.unlocking.specs.Reading.{HasLine}
use Rattle.masterkey_file.specs.declared.secret.PasswordErr.{PasswordErr}
use Rattle.masterkey_file.specs.declared.secret.PasswordErr.TheVariants as password_errs
use Rattle.unlocking.specs.Refusals.{of_password}
use Rattle.unlocking.specs.declared.secret.SecretErr.TheVariants as secret_errs

-- what was taken as a line has the password of all
of_line : (bytes left line : List ℕ) → HasLine line bytes left → password_of bytes ≡ password_of line
of_line bytes left line (is, inl after) = ap password_of after ∙ password_of-behind (line_of bytes) left ∙ ap password_of is
of_line bytes left line (is, inr after) = ap password_of after.0 ∙ ap password_of is

pub told_password : (a b : Option (List ℕ)) (line : List ℕ) (password : Option (List ℕ)) → Changes a b (HasLine line) → password_of line ≡ password
    → Told a (λ bytes. password_of bytes ≡ password)
told_password None None line password h e = tt
told_password None (Some left) line password h e = absurd h
told_password (Some bytes) None line password h e = absurd h
told_password (Some bytes) (Some left) line password h e = of_line bytes left line h ∙ e

-- a line that is too long has none
pub told_long : (a : Option (List ℕ)) → Told a (λ bytes. 1024 < length (line_of bytes)) → Told a (λ bytes. password_of bytes ≡ None)
told_long None h = tt
told_long (Some bytes) h = password_of-other_length bytes (line_of bytes) refl (grind (arith, common_steps, nat_tests))

-- an error that is bad is a bad secret
pub bad_password : {T U : Type 0} (e : PasswordErr) → IsErrOf {T = T} (Err (of_password e)) secret_errs.Bad → IsErrOf {T = U} (Err e) password_errs.BadSecret
bad_password password_errs.BadSecret h = refl
bad_password password_errs.Memory h = absurd (let same : secret_errs.Memory ≡ secret_errs.Bad = cc h in cc)
