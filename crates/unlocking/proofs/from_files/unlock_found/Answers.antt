use Rattle.std.proofs.Common.{Some, ap, sym, ◌∙◌}
use Rattle.std.proofs.lemmas.Result.{err_from_is_err_and}
use Rattle.unlocking.specs.Found.{found_data}
use Rattle.unlocking.proofs.Opening.{IsCause-password, IsCause-unlocked, keys_found-password, unlocked-opened}
use Rattle.unlocking.proofs.from_files.unlock_found.Goals as goal

pub returns-in_err-password-clause-cause : goal.returns-in_err-password-clause-cause
returns-in_err-password-clause-cause c =
    let p = err_from_is_err_and c.from_residual.result c.from_residual.ensures.1 in
    rw (p.1, p.2) (IsCause-password c.in_err-password.field-0.0 c.args.secret.now (found_data c.args.masterkey) (found_data c.args.vault) (λ is. c.in_err-password.ensures.bad (cc)))

pub returns-in_err-keys-clause-cause : goal.returns-in_err-keys-clause-cause
returns-in_err-keys-clause-cause c =
    let p = err_from_is_err_and c.from_residual-in_err-keys.result c.from_residual-in_err-keys.ensures.1 in
    let password = c.in_ok-password.ensures.password ∙ ap Some (sym c.as_bytes.ensures.value) in
    rw (p.1, p.2) (IsCause-unlocked _ c.args.secret.now _ (found_data c.args.masterkey) (found_data c.args.vault) password c.in_err-keys.ensures.cause)

pub returns-clause-unlocked : goal.returns-clause-unlocked
returns-clause-unlocked c =
    let password = c.in_ok-password.ensures.password ∙ ap Some (sym c.as_bytes.ensures.value) in
    let keys = keys_found-password c.args.secret.now _ (found_data c.args.masterkey) password ∙ c.in_ok-keys.ensures.keys in
    rw (unlocked-opened c.args.secret.now (found_data c.args.masterkey) (found_data c.args.vault) _ keys) c.open_vault_file.ensures.unlocked

pub returns-clause-cause : goal.returns-clause-cause
returns-clause-cause c =
    let password = c.in_ok-password.ensures.password ∙ ap Some (sym c.as_bytes.ensures.value) in
    let keys = keys_found-password c.args.secret.now _ (found_data c.args.masterkey) password ∙ c.in_ok-keys.ensures.keys in
    rw (unlocked-opened c.args.secret.now (found_data c.args.masterkey) (found_data c.args.vault) _ keys) c.open_vault_file.ensures.cause
