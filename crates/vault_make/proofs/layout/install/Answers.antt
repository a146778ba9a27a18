use Rattle.std.proofs.Common.{refl}
use Rattle.vault_make.proofs.Laying.{installed}
use Rattle.vault_make.proofs.Stops.{not_begun, moved_leaves, installed_leaves}
use Rattle.vault_make.proofs.layout.install.Goals as goal

pub returns-clause-installed : goal.returns-clause-installed
returns-clause-installed g c =
    installed (g.D.Reads.log c.args.folder.now) (g.D.Reads.log c.sync.new.folder) (g.D.Reads.log c.move_file.new.folder) (g.D.Reads.log c.sync-2.new.folder) c.args.root.now
    c.new_config_path.result c.config_path.result c.args.files.now.masterkey.items c.args.files.now.config.items c.new_config_path.ensures c.config_path.ensures c.requires
    c.in_ok-sync.ensures.synced c.in_ok-move_file.ensures.moved c.in_ok-sync-2.ensures.synced

pub returns-in_err-sync-clause-stops : goal.returns-in_err-sync-clause-stops
returns-in_err-sync-clause-stops g c = not_begun (g.D.Reads.log c.args.folder.now) (g.D.Reads.log c.sync.new.folder) c.args.root.now c.args.files.now.masterkey.items c.args.files.now.config.items c.in_err-sync.ensures.failed

pub returns-in_err-move_file-clause-stops : goal.returns-in_err-move_file-clause-stops
returns-in_err-move_file-clause-stops g c =
    moved_leaves (g.D.Reads.log c.args.folder.now) (g.D.Reads.log c.sync.new.folder) (g.D.Reads.log c.move_file.new.folder) (g.D.Reads.log c.move_file.new.folder) c.args.root.now c.new_config_path.result c.config_path.result
    c.args.files.now.masterkey.items c.args.files.now.config.items c.new_config_path.ensures c.config_path.ensures c.requires c.in_ok-sync.ensures.synced c.move_file.ensures.called refl

pub returns-in_err-sync-2-clause-stops : goal.returns-in_err-sync-2-clause-stops
returns-in_err-sync-2-clause-stops g c =
    moved_leaves (g.D.Reads.log c.args.folder.now) (g.D.Reads.log c.sync.new.folder) (g.D.Reads.log c.move_file.new.folder) (g.D.Reads.log c.sync-2.new.folder) c.args.root.now c.new_config_path.result c.config_path.result
    c.args.files.now.masterkey.items c.args.files.now.config.items c.new_config_path.ensures c.config_path.ensures c.requires c.in_ok-sync.ensures.synced c.move_file.ensures.called c.in_err-sync-2.ensures.failed

pub returns-clause-stops : goal.returns-clause-stops
returns-clause-stops g c =
    installed_leaves (g.D.Reads.log c.args.folder.now) (g.D.Reads.log c.sync.new.folder) (g.D.Reads.log c.move_file.new.folder) (g.D.Reads.log c.sync-2.new.folder) c.args.root.now c.new_config_path.result c.config_path.result
    c.args.files.now.masterkey.items c.args.files.now.config.items c.new_config_path.ensures c.config_path.ensures c.requires c.in_ok-sync.ensures.synced c.move_file.ensures.called c.in_ok-move_file.ensures.moved c.in_ok-sync-2.ensures.synced
