use Rattle.std.proofs.Common.{ap, ◌∙◌}
use Rattle.std.proofs.lemmas.Result.{err_from_is_err_and}
use Rattle.outside.specs.Images.{disk_in}
use Rattle.tree_loading.proofs.Ending.{told_kept, told_too_many, other_err}
use Rattle.tree_loading.proofs.loading.load.Goals as goal

pub returns-in_err-walk-clause-too_many : goal.returns-in_err-walk-clause-too_many
returns-in_err-walk-clause-too_many g c =
    let p = err_from_is_err_and c.from_residual-in_err-walk.result c.from_residual-in_err-walk.ensures.1 in
    rw (p.1, p.2) (λ n is.
    told_too_many (disk_in (g.R.Reads.log c.args.from.now)) (disk_in (g.R.Reads.log c.list.new.self)) c.args.keys.now c.folder_of-root.result c.in_ok-is_there.field-0 c.in_ok-loading.loading
    c.folder_of-root.ensures c.if-not-branch.false (ap disk_in (c.list.ensures.log ∙ c.in_ok-is_there.ensures.log)) c.in_ok-is_there.ensures.there c.in_ok-loading.ensures.begun n (c.in_err-walk.ensures.too_many n (other_err _ _ is)))

pub returns-clause-loaded : goal.returns-clause-loaded
returns-clause-loaded g c =
    told_kept (disk_in (g.R.Reads.log c.args.from.now)) (disk_in (g.R.Reads.log c.list.new.self)) c.args.keys.now c.folder_of-root.result c.in_ok-is_there.field-0 c.in_ok-loading.loading
    c.folder_of-root.ensures c.if-not-branch.false (ap disk_in (c.list.ensures.log ∙ c.in_ok-is_there.ensures.log)) c.in_ok-is_there.ensures.there c.in_ok-loading.ensures.begun c.walk.new.loading c.in_ok-walk.ensures.walked
