use Rattle.std.proofs.Common.{◌≡◌, ℕ, List, Some, Ok, sym, subst}
use Rattle.outside.specs.Calls.{Told}
use Rattle.masterkey_file.specs.Password.{password_of}
use Rattle.std.proofs.lemmas.Result.{err_from_is_err_and, IfOk-weaker, IfErr-weaker}
use Rattle.outside.specs.Images.{disk_in}
use Rattle.unlocking.specs.Found.{unlocked_data}
use Rattle.unlocking.proofs.ByKind.{raw_refused, password_refused, raw_unlocked, files_unlocked, files_refused}
use Rattle.unlocking.proofs.from_folder.unlock.Goals as goal

pub returns-in_err-keys-in-RawKeys-clause-refused : goal.returns-in_err-keys-in-RawKeys-clause-refused
returns-in_err-keys-in-RawKeys-clause-refused g c =
    let p = err_from_is_err_and c.from_residual.result c.from_residual.ensures.1 in
    rw (p.1, p.2, c.in-RawKeys.is) (raw_refused c.in_err-keys-in-RawKeys.field-0.0 (g.S.Source.left c.args.secret.now) (disk_in (g.D.Reads.log c.args.folder.now)) (λ bad. c.in_err-keys-in-RawKeys.ensures.bad cc))

pub returns-in_err-password-in-Password-clause-refused : goal.returns-in_err-password-in-Password-clause-refused
returns-in_err-password-in-Password-clause-refused g c =
    let p = err_from_is_err_and c.from_residual-in_err-password-in-Password.result c.from_residual-in_err-password-in-Password.ensures.1 in
    rw (p.1, p.2, c.in-Password.is) (password_refused c.in_err-password-in-Password.field-0.0 (g.S.Source.left c.args.secret.now) (disk_in (g.D.Reads.log c.args.folder.now))
    (λ bad. c.in_err-password-in-Password.ensures.bad cc))

pub returns-in_ok-keys-in-RawKeys-clause-unlocked : goal.returns-in_ok-keys-in-RawKeys-clause-unlocked
returns-in_ok-keys-in-RawKeys-clause-unlocked g c =
    rw c.in-RawKeys.is (raw_unlocked c.in_ok-keys-in-RawKeys.keys (g.S.Source.left c.args.secret.now) (disk_in (g.D.Reads.log c.args.folder.now)) c.in_ok-keys-in-RawKeys.ensures.keys)

pub returns-in_ok-password-in-Password-clause-unlocked : goal.returns-in_ok-password-in-Password-clause-unlocked
returns-in_ok-password-in-Password-clause-unlocked g c =
    rw c.in-Password.is (IfOk-weaker c.unlock_files.result _ _
    (λ u seen. files_unlocked c.as_bytes.result.now (g.S.Source.left c.args.secret.now) (disk_in (g.D.Reads.log c.args.folder.now)) (λ found. found ≡ Ok (unlocked_data u))
    (subst (λ (w : List ℕ). Told (g.S.Source.left c.args.secret.now) (λ bytes. password_of bytes ≡ Some w)) (sym c.as_bytes.ensures.value) c.in_ok-password-in-Password.ensures.password) seen) c.unlock_files.ensures.unlocked)

pub returns-in_ok-password-in-Password-clause-refused : goal.returns-in_ok-password-in-Password-clause-refused
returns-in_ok-password-in-Password-clause-refused g c =
    rw c.in-Password.is (IfErr-weaker c.unlock_files.result _ _
    (λ r seen. files_refused r c.as_bytes.result.now (g.S.Source.left c.args.secret.now) (disk_in (g.D.Reads.log c.args.folder.now))
    (subst (λ (w : List ℕ). Told (g.S.Source.left c.args.secret.now) (λ bytes. password_of bytes ≡ Some w)) (sym c.as_bytes.ensures.value) c.in_ok-password-in-Password.ensures.password) seen) c.unlock_files.ensures.refused)
