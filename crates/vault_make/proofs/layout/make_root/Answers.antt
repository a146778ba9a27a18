use Rattle.vault_make.proofs.Laying.{can_second, can_third, root_made}
use Rattle.vault_make.proofs.Stops.{both, dir_beside, top_beside, middle_beside, root_beside}
use Rattle.vault_make.proofs.layout.make_root.Goals as goal

pub make_dir-requires-2 : goal.make_dir-requires-2
make_dir-requires-2 g c =
    can_second (g.D.Reads.log c.args.folder.now) (g.D.Reads.log c.make_dir.new.folder) c.args.root.now c.parent-middle.result c.parent-top.result c.requires.root
    c.parent-middle.ensures c.parent-top.ensures c.requires.empty c.in_ok-make_dir.ensures.made

pub make_dir-requires-3 : goal.make_dir-requires-3
make_dir-requires-3 g c =
    can_third (g.D.Reads.log c.args.folder.now) (g.D.Reads.log c.make_dir.new.folder) (g.D.Reads.log c.make_dir-2.new.folder) c.args.root.now c.parent-middle.result c.parent-top.result
    c.requires.root c.parent-middle.ensures c.parent-top.ensures c.requires.empty c.in_ok-make_dir.ensures.made c.in_ok-make_dir-2.ensures.made

pub returns-clause-made : goal.returns-clause-made
returns-clause-made g c =
    root_made (g.D.Reads.log c.args.folder.now) (g.D.Reads.log c.make_dir.new.folder) (g.D.Reads.log c.make_dir-2.new.folder) (g.D.Reads.log c.make_dir-3.new.folder) c.args.root.now
    c.parent-middle.result c.parent-top.result c.requires.root c.parent-middle.ensures c.parent-top.ensures c.requires.empty c.in_ok-make_dir.ensures.made c.in_ok-make_dir-2.ensures.made
    c.in_ok-make_dir-3.ensures.made

pub returns-in_err-make_dir-clause-stops : goal.returns-in_err-make_dir-clause-stops
returns-in_err-make_dir-clause-stops g c =
    dir_beside (g.D.Reads.log c.args.folder.now) (g.D.Reads.log c.make_dir.new.folder) c.parent-top.result (top_beside c.args.root.now c.parent-middle.result c.parent-top.result c.requires.root c.parent-middle.ensures c.parent-top.ensures) c.make_dir.ensures.called

pub returns-in_err-make_dir-2-clause-stops : goal.returns-in_err-make_dir-2-clause-stops
returns-in_err-make_dir-2-clause-stops g c =
    both (g.D.Reads.log c.args.folder.now) (g.D.Reads.log c.make_dir.new.folder) (g.D.Reads.log c.make_dir-2.new.folder)
    (dir_beside (g.D.Reads.log c.args.folder.now) (g.D.Reads.log c.make_dir.new.folder) c.parent-top.result (top_beside c.args.root.now c.parent-middle.result c.parent-top.result c.requires.root c.parent-middle.ensures c.parent-top.ensures) c.make_dir.ensures.called)
    (dir_beside (g.D.Reads.log c.make_dir.new.folder) (g.D.Reads.log c.make_dir-2.new.folder) c.parent-middle.result (middle_beside c.args.root.now c.parent-middle.result c.requires.root c.parent-middle.ensures) c.make_dir-2.ensures.called)

pub returns-in_err-make_dir-3-clause-stops : goal.returns-in_err-make_dir-3-clause-stops
returns-in_err-make_dir-3-clause-stops g c =
    both (g.D.Reads.log c.args.folder.now) (g.D.Reads.log c.make_dir-2.new.folder) (g.D.Reads.log c.make_dir-3.new.folder)
    (both (g.D.Reads.log c.args.folder.now) (g.D.Reads.log c.make_dir.new.folder) (g.D.Reads.log c.make_dir-2.new.folder)
    (dir_beside (g.D.Reads.log c.args.folder.now) (g.D.Reads.log c.make_dir.new.folder) c.parent-top.result (top_beside c.args.root.now c.parent-middle.result c.parent-top.result c.requires.root c.parent-middle.ensures c.parent-top.ensures) c.make_dir.ensures.called)
    (dir_beside (g.D.Reads.log c.make_dir.new.folder) (g.D.Reads.log c.make_dir-2.new.folder) c.parent-middle.result (middle_beside c.args.root.now c.parent-middle.result c.requires.root c.parent-middle.ensures) c.make_dir-2.ensures.called))
    (dir_beside (g.D.Reads.log c.make_dir-2.new.folder) (g.D.Reads.log c.make_dir-3.new.folder) c.args.root.now (root_beside c.args.root.now c.requires.root) c.make_dir-3.ensures.called)

pub returns-clause-stops : goal.returns-clause-stops
returns-clause-stops g c =
    both (g.D.Reads.log c.args.folder.now) (g.D.Reads.log c.make_dir-2.new.folder) (g.D.Reads.log c.make_dir-3.new.folder)
    (both (g.D.Reads.log c.args.folder.now) (g.D.Reads.log c.make_dir.new.folder) (g.D.Reads.log c.make_dir-2.new.folder)
    (dir_beside (g.D.Reads.log c.args.folder.now) (g.D.Reads.log c.make_dir.new.folder) c.parent-top.result (top_beside c.args.root.now c.parent-middle.result c.parent-top.result c.requires.root c.parent-middle.ensures c.parent-top.ensures) c.make_dir.ensures.called)
    (dir_beside (g.D.Reads.log c.make_dir.new.folder) (g.D.Reads.log c.make_dir-2.new.folder) c.parent-middle.result (middle_beside c.args.root.now c.parent-middle.result c.requires.root c.parent-middle.ensures) c.make_dir-2.ensures.called))
    (dir_beside (g.D.Reads.log c.make_dir-2.new.folder) (g.D.Reads.log c.make_dir-3.new.folder) c.args.root.now (root_beside c.args.root.now c.requires.root) c.make_dir-3.ensures.called)
