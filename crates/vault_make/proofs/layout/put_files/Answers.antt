use Rattle.vault_make.proofs.Laying.{can_put_second, files_put}
use Rattle.vault_make.proofs.Stops.{both, put_beside, masterkey_apart, new_apart}
use Rattle.vault_make.proofs.layout.put_files.Goals as goal

pub put-requires-2 : goal.put-requires-2
put-requires-2 g c =
    can_put_second (g.D.Reads.log c.args.folder.now) (g.D.Reads.log c.put.new.folder) c.args.root.now c.masterkey_path.result c.new_config_path.result c.deref.result.now c.deref-2.result.now
    c.masterkey_path.ensures c.new_config_path.ensures c.requires c.in_ok-put.ensures.put

pub returns-clause-put : goal.returns-clause-put
returns-clause-put g c =
    files_put (g.D.Reads.log c.args.folder.now) (g.D.Reads.log c.put.new.folder) (g.D.Reads.log c.put-2.new.folder) c.args.root.now c.masterkey_path.result c.new_config_path.result
    _ _ c.args.files.now.masterkey.items c.args.files.now.config.items c.masterkey_path.ensures c.new_config_path.ensures c.deref.ensures.value c.deref-2.ensures.value
    c.requires c.in_ok-put.ensures.put c.in_ok-put-2.ensures.put

pub returns-in_err-put-clause-stops : goal.returns-in_err-put-clause-stops
returns-in_err-put-clause-stops g c =
    put_beside (g.D.Reads.log c.args.folder.now) (g.D.Reads.log c.put.new.folder) c.masterkey_path.result c.deref.result.now (masterkey_apart c.masterkey_path.result c.masterkey_path.ensures) c.put.ensures.called

pub returns-in_err-put-2-clause-stops : goal.returns-in_err-put-2-clause-stops
returns-in_err-put-2-clause-stops g c =
    both (g.D.Reads.log c.args.folder.now) (g.D.Reads.log c.put.new.folder) (g.D.Reads.log c.put-2.new.folder)
    (put_beside (g.D.Reads.log c.args.folder.now) (g.D.Reads.log c.put.new.folder) c.masterkey_path.result c.deref.result.now (masterkey_apart c.masterkey_path.result c.masterkey_path.ensures) c.put.ensures.called)
    (put_beside (g.D.Reads.log c.put.new.folder) (g.D.Reads.log c.put-2.new.folder) c.new_config_path.result c.deref-2.result.now (new_apart c.new_config_path.result c.new_config_path.ensures) c.put-2.ensures.called)

pub returns-clause-stops : goal.returns-clause-stops
returns-clause-stops g c =
    both (g.D.Reads.log c.args.folder.now) (g.D.Reads.log c.put.new.folder) (g.D.Reads.log c.put-2.new.folder)
    (put_beside (g.D.Reads.log c.args.folder.now) (g.D.Reads.log c.put.new.folder) c.masterkey_path.result c.deref.result.now (masterkey_apart c.masterkey_path.result c.masterkey_path.ensures) c.put.ensures.called)
    (put_beside (g.D.Reads.log c.put.new.folder) (g.D.Reads.log c.put-2.new.folder) c.new_config_path.result c.deref-2.result.now (new_apart c.new_config_path.result c.new_config_path.ensures) c.put-2.ensures.called)
