use Rattle.std.proofs.Common.{List, ℕ, sym, ap, ◌∙◌}
use Rattle.std.specs.Option.{option_copied}
use Rattle.clear_tree.specs.Built.{kept_what}
use Rattle.clear_tree.specs.Kept.{KeptDir}
use Rattle.live_tree.specs.Held.{node_of}
use Rattle.node_changes.proofs.Nodes.{never_absent, never_folderless, directory_is}
use Rattle.node_changes.proofs.places.directory_above.Goals as goal

pub unreachable-requires : goal.unreachable-requires
unreachable-requires c =
    never_absent c.args.live.now c.len-count.ensures.tree c.requires.0 c.parent.result c.args.node.now c.requires.1 c.parent.ensures (sym c.node.ensures ∙ ap option_copied c.in_default.is)

pub unreachable-requires-in_default-folder : goal.unreachable-requires-in_default-folder
unreachable-requires-in_default-folder c =
    never_folderless c.args.live.now c.len-count.ensures.tree c.requires.0 c.parent.result c.args.node.now c.in-Some.above.now c.requires.1 c.parent.ensures (sym c.in-Some.ensures)
    (sym c.folder.ensures.value ∙ ap option_copied c.in_default-folder.is)

pub returns-clause-above : goal.returns-clause-above
returns-clause-above c = record {
  above = c.in-Some.above.now;
  up = ap (node_of c.args.live.now) (sym c.parent.ensures) ∙ sym c.in-Some.ensures;
  is = directory_is c.in-Some.above.now.kept.what c.as_bytes.result.now c.in-Dir.folder c.in-Some-folder.folder.now
      (sym c.what.ensures ∙ ap kept_what c.in-Dir.is ∙ ap (λ (i : List ℕ). KeptDir i c.in-Dir.folder) (sym c.as_bytes.ensures)) (sym c.in-Some-folder.ensures.value);
}
