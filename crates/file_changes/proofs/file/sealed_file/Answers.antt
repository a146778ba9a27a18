use Rattle.std.proofs.Common.{sym, ap, ◌∙◌, subst}
use Rattle.live_tree.specs.Held.{HeldTree, path_of, size_of, IsTree}
use Rattle.file_changes.proofs.Places.{never_pathless, never_sizeless}
use Rattle.file_changes.proofs.file.sealed_file.Goals as goal
use Rattle.file_changes.proofs.file.sealed_file.Goals.{in_default-via-in-Some+in_default, in_default-via-in_default}

pub unreachable-requires : goal.unreachable-requires
unreachable-requires c =
    let file = c.requires.2 in
    let read = sym c.live-live.ensures in
    elim c.in_default.branch [
      | in_default-via-in-Some+in_default w ↦
          never_sizeless c.args.tree.now.live c.args.number c.requires.0 c.requires.1 file (ap (λ (l : HeldTree). size_of l c.args.number) read ∙ sym c.size.ensures ∙ w.in_default.is-1)
      | in_default-via-in_default w ↦
          never_pathless c.args.tree.now.live (subst IsTree c.live-live.ensures c.len-count.ensures.tree) c.args.number c.requires.0 c.requires.1 file
          (ap (λ (l : HeldTree). path_of l c.args.number) read ∙ sym c.path.ensures ∙ w.in_default.is-0)
    ]
