use Rattle.std.proofs.Common.{◌≡◌, Err, Result, sym, ap, subst}
use Rattle.std.specs.Result.{IsErrAnd}
use Rattle.tree_loading.specs.declared.load_fault.LoadErr.{LoadErr}
use Rattle.node_changes.specs.declared.tree.VaultTree.{VaultTree}
use Rattle.vault_store.specs.declared.opening.OpenErr.{OpenErr}
use Rattle.vault_store.specs.declared.opening.OpenErr.TheVariants as open_errs
use Rattle.vault_store.specs.Causes.{of_loading}
use Rattle.vault_store.proofs.Loads.{too_many}
use Rattle.vault_store.proofs.answering.load_tree.Goals as goal

pub returns-in_err-tree-clause-too_many : goal.returns-in_err-tree-clause-too_many
returns-in_err-tree-clause-too_many g c = λ n is.
    let cause : open_errs.TooMany n ≡ of_loading c.in_err-tree.field-0.0 =
    subst (λ (r : Result VaultTree OpenErr). IsErrAnd r (λ e. e ≡ of_loading c.in_err-tree.field-0.0)) is c.from_residual.ensures.1 in
    c.in_err-tree.ensures.too_many n (ap (λ (e : LoadErr). Err e) (too_many c.in_err-tree.field-0.0 n (sym cause)))
