use Rattle.tree_loading.proofs.folders.characters_of.Goals as goal

pub returns : goal.returns
returns c = record { own = c.directory_folder.ensures.folder; path = c.directory_folder.ensures.path }
