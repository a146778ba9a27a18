use Rattle.host_folder.proofs.PathLists.{has_decides}
use Rattle.host_folder.proofs.touched.Touched.has.Goals as goal

pub returns : goal.returns
returns c = has_decides c.deref.result.now c.args.self.now.paths.items c.args.path.now c.contains.result c.deref.ensures.value c.contains.ensures.cases
