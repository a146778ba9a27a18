use Rattle.std.proofs.Common.{◌≡◌, ◌≢◌, refl, subst, arith}
use Rattle.live_tree.specs.Held.{HeldNode, IsFree}
use Rattle.live_tree_laws.proofs.Paths.{one_held}
use Rattle.node_changes.proofs.Rows.{rows_named, rows_named_dated}
use Rattle.node_changes.proofs.tree.VaultTree.put_name.Goals as goal
use Rattle.node_changes.proofs.tree.VaultTree.put_name.Goals.{in-Some, in_default}

pub rename-requires-clause-free : goal.rename-requires-clause-free
rename-requires-clause-free c = λ node there.
    subst (λ (h : HeldNode). IsFree c.args.self.now.live h.kept.parent c.args.new.name) (one_held c.args.self.now.live c.args.number c.requires.new.held node c.requires.new.node.there there) c.requires.new.free

pub returns-clause-rows : goal.returns-clause-rows
returns-clause-rows c =
    let apart : c.args.number ≢ c.requires.new.held.kept.parent = (λ e. let same : c.args.number ≡ c.requires.new.held.kept.parent = e in omega (arith, same, (c.requires.tree.parents c.args.number c.requires.new.held c.requires.new.node.there c.requires.new.node.below).before)) in
    elim c.match-modified.branch [
      | in-Some w ↦ rw (w.self-is, w.in-Some.is)
          (rows_named_dated c.args.self.now.live c.rename.new.self w.set_modified.new.self c.args.number c.requires.new.held c.args.new.name c.args.new.place.entry c.args.new.place.long c.args.now c.requires.new.node.there apart
          w.in-Some.modified c.in_ok-rename.ensures.rows (c.in_ok-rename.ensures.held c.requires.new.held c.requires.new.node.there) w.set_modified.ensures.rows)
      | in_default w ↦ rw (w.self-is, w.in_default.is)
          (rows_named c.args.self.now.live c.rename.new.self c.rename.new.self c.args.number c.requires.new.held c.args.new.name c.args.new.place.entry c.args.new.place.long c.args.now c.requires.new.node.there apart
          c.in_ok-rename.ensures.rows refl)
    ]
