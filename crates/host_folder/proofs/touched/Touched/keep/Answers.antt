use Rattle.host_folder.proofs.PathLists.{has_decides}
use Rattle.host_folder.proofs.touched.Touched.keep.Goals as goal

pub returns-then-contains-clause-kept : goal.returns-then-contains-clause-kept
returns-then-contains-clause-kept c =
    (has_decides c.deref.result.now c.args.self.now.paths.items c.args.path.now c.contains.result c.deref.ensures.value c.contains.ensures.cases).0 c.if-contains.true
