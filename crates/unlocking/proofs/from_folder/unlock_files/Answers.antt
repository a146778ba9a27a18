use Rattle.std.proofs.Common.{◌≡◌, Ok}
use Rattle.std.proofs.lemmas.Result.{err_from_is_err_and}
use Rattle.outside.specs.Images.{disk_in}
use Rattle.unlocking.specs.Found.{unlocked_data}
use Rattle.unlocking.specs.Errors.{IsCause}
use Rattle.unlocking.proofs.FilesFound.{find_refused, masterkey_refused, config_seen}
use Rattle.unlocking.proofs.from_folder.unlock_files.Goals as goal

pub returns-in_err-masterkey-clause-refused : goal.returns-in_err-masterkey-clause-refused
returns-in_err-masterkey-clause-refused g c =
    let p = err_from_is_err_and c.from_residual.result c.from_residual.ensures.1 in
    rw (p.1, p.2) (find_refused c.in_err-masterkey.field-0.0 c.args.password.now (disk_in (g.D.Reads.log c.args.folder.now)))

pub returns-in_err-keys-clause-refused : goal.returns-in_err-keys-clause-refused
returns-in_err-keys-clause-refused g c =
    let p = err_from_is_err_and c.from_residual-in_err-keys.result c.from_residual-in_err-keys.ensures.1 in
    rw (p.1, p.2) (masterkey_refused c.in_err-keys.field-0.0 c.args.password.now (disk_in (g.D.Reads.log c.args.folder.now)) c.in_ok-masterkey.masterkey
    (rw c.masterkey_path.ensures at c.in_ok-masterkey.ensures.found) c.in_err-keys.ensures.cause)

pub returns-in_err-config-clause-refused : goal.returns-in_err-config-clause-refused
returns-in_err-config-clause-refused g c =
    let p = err_from_is_err_and c.from_residual-in_err-config.result c.from_residual-in_err-config.ensures.1 in
    rw (p.1, p.2) (find_refused c.in_err-config.field-0.0 c.args.password.now (disk_in (g.D.Reads.log c.args.folder.now)))

pub returns-clause-unlocked : goal.returns-clause-unlocked
returns-clause-unlocked g c =
    config_seen (g.D.Reads.log c.args.folder.now) (g.D.Reads.log c.find.new.folder) c.args.password.now c.in_ok-keys.keys c.in_ok-masterkey.masterkey c.in_ok-config.config
    (λ found. found ≡ Ok (unlocked_data c.in_ok-vault_unlocked.field-0)) c.find.ensures.log (rw c.masterkey_path.ensures at c.in_ok-masterkey.ensures.found) (rw c.config_path.ensures at c.in_ok-config.ensures.found)
    c.in_ok-keys.ensures.keys c.in_ok-vault_unlocked.ensures.unlocked

pub returns-in_err-vault_unlocked-clause-refused : goal.returns-in_err-vault_unlocked-clause-refused
returns-in_err-vault_unlocked-clause-refused g c =
    let p = err_from_is_err_and c.from_residual-in_err-vault_unlocked.result c.from_residual-in_err-vault_unlocked.ensures.1 in
    rw (p.1, p.2)
    (config_seen (g.D.Reads.log c.args.folder.now) (g.D.Reads.log c.find.new.folder) c.args.password.now c.in_ok-keys.keys c.in_ok-masterkey.masterkey c.in_ok-config.config
    (IsCause c.in_err-vault_unlocked.field-0.0) c.find.ensures.log (rw c.masterkey_path.ensures at c.in_ok-masterkey.ensures.found) (rw c.config_path.ensures at c.in_ok-config.ensures.found)
    c.in_ok-keys.ensures.keys c.in_err-vault_unlocked.ensures.cause)
