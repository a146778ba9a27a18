use Rattle.std.proofs.Common.{sym, ap, ◌∙◌}
use Rattle.clear_tree.specs.Built.{kept_what}
use Rattle.tree_loading.proofs.Turning.{own_path}
use Rattle.tree_loading.proofs.turns.scan_at.Goals as goal

pub host_folder-path-requires : goal.host_folder-path-requires
host_folder-path-requires g c =
    (own_path c.args.keys.now c.in-Some.node.now.what c.in-Dir.identifier c.in-Dir.folder (sym c.what.ensures ∙ ap kept_what c.in-Dir.is)
    (c.requires c.args.number c.in-Some.node.now (sym c.in-Some.ensures.value))).path
