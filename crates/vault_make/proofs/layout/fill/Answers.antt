use Rattle.outside.specs.Images.{now, IsSteady}
use Rattle.vault_make.specs.Stages.{HasRoot, HasKeyFiles, IsLaidOut}
use Rattle.vault_make.proofs.Laying.{last_of}
use Rattle.vault_make.proofs.Stops.{both, then_laid, none_yet}
use Rattle.vault_make.proofs.layout.fill.Goals as goal

pub returns-clause-laid : goal.returns-clause-laid
returns-clause-laid g c =
    let place = c.args.root.now in
    let masterkey = c.args.files.now.masterkey.items in
    let config = c.args.files.now.config.items in
    last_of (g.D.Reads.log c.args.folder.now) (g.D.Reads.log c.put_files.new.folder) (g.D.Reads.log c.install.new.folder) (λ old new. HasKeyFiles place masterkey config (now new))
    (λ new. IsLaidOut place masterkey config (now new) × IsSteady new)
    (last_of (g.D.Reads.log c.args.folder.now) (g.D.Reads.log c.make_root.new.folder) (g.D.Reads.log c.put_files.new.folder) (λ old new. HasRoot place (now new))
    (λ new. HasKeyFiles place masterkey config (now new)) c.in_ok-make_root.ensures.made c.in_ok-put_files.ensures.put)
    c.in_ok-install.ensures.installed

pub returns-in_err-make_root-clause-stops : goal.returns-in_err-make_root-clause-stops
returns-in_err-make_root-clause-stops g c =
    none_yet (g.D.Reads.log c.args.folder.now) (g.D.Reads.log c.make_root.new.folder) c.args.root.now c.args.files.now.masterkey.items c.args.files.now.config.items c.make_root.ensures.stops

pub returns-in_err-put_files-clause-stops : goal.returns-in_err-put_files-clause-stops
returns-in_err-put_files-clause-stops g c =
    none_yet (g.D.Reads.log c.args.folder.now) (g.D.Reads.log c.put_files.new.folder) c.args.root.now c.args.files.now.masterkey.items c.args.files.now.config.items
    (both (g.D.Reads.log c.args.folder.now) (g.D.Reads.log c.make_root.new.folder) (g.D.Reads.log c.put_files.new.folder) c.make_root.ensures.stops c.put_files.ensures.stops)

pub returns-in_err-install-clause-stops : goal.returns-in_err-install-clause-stops
returns-in_err-install-clause-stops g c =
    then_laid (g.D.Reads.log c.args.folder.now) (g.D.Reads.log c.put_files.new.folder) (g.D.Reads.log c.install.new.folder) c.args.root.now c.args.files.now.masterkey.items
    c.args.files.now.config.items
    (both (g.D.Reads.log c.args.folder.now) (g.D.Reads.log c.make_root.new.folder) (g.D.Reads.log c.put_files.new.folder) c.make_root.ensures.stops c.put_files.ensures.stops)
    c.install.ensures.stops

pub returns-clause-stops : goal.returns-clause-stops
returns-clause-stops g c =
    then_laid (g.D.Reads.log c.args.folder.now) (g.D.Reads.log c.put_files.new.folder) (g.D.Reads.log c.install.new.folder) c.args.root.now c.args.files.now.masterkey.items
    c.args.files.now.config.items
    (both (g.D.Reads.log c.args.folder.now) (g.D.Reads.log c.make_root.new.folder) (g.D.Reads.log c.put_files.new.folder) c.make_root.ensures.stops c.put_files.ensures.stops)
    c.install.ensures.stops
