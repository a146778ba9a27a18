use Rattle.std.proofs.Common.{rules, sym, subst, ◌∙◌, arith}
use Rattle.std.proofs.lemmas.Result.{err_from_is_err_and}
use Rattle.outside.specs.Calls.{Told}
use Rattle.outside.specs.Images.{disk_in}
use Rattle.outside.specs.Views.{folder_in}
use Rattle.chunk_journal.specs.Journal.{IsClosed}
use Rattle.vault_store.specs.declared.read_only.ReadOnlyErr.{ReadOnlyErr}
use Rattle.vault_store.specs.ReadOnly.{HasRefusedToRead}
use Rattle.vault_store.proofs.Refusing.{load_refused}
use Rattle.vault_store.proofs.read_only.load_to_read.Goals as goal

pub returns-in_err-tree-clause-refused : goal.returns-in_err-tree-clause-refused
returns-in_err-tree-clause-refused g c =
    let before = folder_in g.D.Reads c.args.folder.now in
    let amid = folder_in g.D.Reads c.is_tree.new.from in
    let after = folder_in g.D.Reads c.load_tree.new.from in
    let found = c.in_ok-needs_recovery.ensures in
    let asked = c.in_ok-is_tree.ensures in
    let failed = c.in_err-tree.ensures in
    let closed : Told (disk_in before.log) IsClosed = search rules in
    let p = err_from_is_err_and c.from_residual-in_err-tree.result c.from_residual-in_err-tree.ensures.1 in
    rw p.1 (
    subst (λ (cause : ReadOnlyErr). HasRefusedToRead before after c.args.keys.now cause) (sym p.2)
    (load_refused before amid after c.args.keys.now c.in_err-tree.field-0.0
    (record { log = asked.log ∙ found.log; changes = asked.changes ∙ found.changes; faults = omega (arith, found.cause.later, asked.cause.later) })
    (record { log = failed.log; changes = failed.changes; faults = failed.cause.later })
    closed failed.damaged failed.too_many failed.no_root failed.cause))
