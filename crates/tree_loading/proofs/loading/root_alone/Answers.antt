use Rattle.tree_loading.proofs.Ending.{root_begun}
use Rattle.tree_loading.proofs.loading.root_alone.Goals as goal

pub returns-clause-begun : goal.returns-clause-begun
returns-clause-begun c =
    root_begun c.args.keys.now c.characters_of-folder.result c.in_ok-tree.tree c.new-claims.result c.insert.new.self c.characters_of-folder.ensures c.in_ok-tree.ensures c.new-claims.ensures.empty c.in_ok-insert.ensures.updates
