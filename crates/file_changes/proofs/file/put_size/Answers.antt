use Rattle.std.proofs.Common.{ℕ, Option, subst, sym}
use Rattle.file_changes.specs.Held.{RowsAreRewritten}
use Rattle.file_changes.proofs.Rows.{rows_are_rewritten}
use Rattle.file_changes.proofs.file.put_size.Goals as goal

pub returns-in-Some-clause-rows : goal.returns-in-Some-clause-rows
returns-in-Some-clause-rows c =
    subst (λ (modified : Option ℕ). RowsAreRewritten c.args.tree.now.live c.set_modified.new.self.live c.args.number modified c.args.now) (sym c.in-Some.is)
    (rows_are_rewritten c.args.tree.now.live c.touch.new.self.live c.set_modified.new.self.live c.args.number c.in-Some.modified c.args.now c.touch.ensures.rows c.set_modified.ensures.rows)
