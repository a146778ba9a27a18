use Rattle.std.proofs.Common.{inr}
use Rattle.outside.specs.Images.{now, IsSteady}
use Rattle.vault_make.specs.Stages.{IsLaidOut, HasSynced}
use Rattle.vault_make.proofs.Going.{on_err}
use Rattle.vault_make.proofs.Laying.{last_of}
use Rattle.vault_make.proofs.Stops.{leaves_whole}
use Rattle.vault_make.proofs.layout.lay_out.Goals as goal

pub returns-clause-laid : goal.returns-clause-laid
returns-clause-laid g c =
    last_of (g.D.Reads.log c.args.folder.now) (g.D.Reads.log c.sync.new.folder) (g.D.Reads.log c.fill.new.folder) HasSynced
    (λ new. IsLaidOut c.args.root.now c.args.files.now.masterkey.items c.args.files.now.config.items (now new) × IsSteady new) c.in_ok-sync.ensures.synced c.in_ok-fill.ensures.laid

pub returns-clause-stops : goal.returns-clause-stops
returns-clause-stops g c =
    leaves_whole (g.D.Reads.log c.args.folder.now) (g.D.Reads.log c.sync.new.folder) (g.D.Reads.log c.fill.new.folder) c.args.root.now c.args.files.now.masterkey.items
    c.args.files.now.config.items c.requires.empty c.in_ok-sync.ensures.synced c.fill.ensures.stops

pub returns-in_err-fill-clause-failed : goal.returns-in_err-fill-clause-failed
returns-in_err-fill-clause-failed g c =
    on_err _ _ (inr (leaves_whole (g.D.Reads.log c.args.folder.now) (g.D.Reads.log c.sync.new.folder) (g.D.Reads.log c.fill.new.folder) c.args.root.now c.args.files.now.masterkey.items
    c.args.files.now.config.items c.requires.empty c.in_ok-sync.ensures.synced c.fill.ensures.stops))
