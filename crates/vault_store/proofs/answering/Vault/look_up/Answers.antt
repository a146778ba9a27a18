use Rattle.std.proofs.Common.{None, sym, subst}
use Rattle.outside.specs.Views.{EntropyView, folder_in}
use Rattle.tree_loading.specs.Format.{sealing_of}
use Rattle.tree_model.specs.Asked.{plain_reply, plain_request}
use Rattle.vault_store.specs.Open.{IsResting, VaultView, view_of}
use Rattle.vault_store.proofs.HostReads.{rest_contents}
use Rattle.vault_store.proofs.Rests.{rest_waits, rests_still}
use Rattle.vault_store.proofs.Waiting.{reading_loose, still_outcome}
use Rattle.vault_store.proofs.answering.Vault.look_up.Goals as goal

pub look_up-requires-clause-contents : goal.look_up-requires-clause-contents
look_up-requires-clause-contents g c =
    let rest = subst (λ (v : VaultView g.row.D.Denot). IsResting g.D.Reads v) (sym c.self.view_is) c.requires.rest in
    let tree = c.self.inside.tree in
    rest_contents (g.D.Reads.log c.self.inside.back.folder) c.self.inside.back.waiting tree.keys tree.live tree.claims rest

pub returns-clause-outcome : goal.returns-clause-outcome
returns-clause-outcome g c =
    let rest = subst (λ (v : VaultView g.row.D.Denot). IsResting g.D.Reads v) (sym c.self.view_is) c.requires.rest in
    rw (← c.self.view_is) (λ second source entries.
    let tree = c.self.inside.tree in
    let back = c.self.inside.back in
    let back' = c.look_up.new.folder in
    let folder = folder_in g.D.Reads back.folder in
    still_outcome (view_of tree back.waiting entries None) (view_of tree back'.waiting entries None) folder (folder_in g.D.Reads back'.folder) source source (plain_request c.args.request.now) second
    (rest_waits (sealing_of tree.keys) tree.live tree.claims back.waiting folder.log rest) c.look_up.result c.args.buffer.now c.look_up.new.buffer
    (reading_loose (plain_request c.args.request.now) (plain_reply c.look_up.result) c.requires.reads c.requires.unsynced) (c.look_up.ensures.still entries second source))

pub returns-clause-rest : goal.returns-clause-rest
returns-clause-rest g c =
    let rest = subst (λ (v : VaultView g.row.D.Denot). IsResting g.D.Reads v) (sym c.self.view_is) c.requires.rest in
    let tree = c.self.inside.tree in
    let back = c.self.inside.back in
    let back' = c.look_up.new.folder in
    let source : EntropyView = record { drawn = None; faults = 0 } in
    rests_still (sealing_of tree.keys) tree.live tree.claims back.waiting back'.waiting (g.D.Reads.log back.folder) (g.D.Reads.log back'.folder) (c.look_up.ensures.still 0 0 source).turn.is.log rest

pub returns-clause-faults : goal.returns-clause-faults
returns-clause-faults g c =
    let source : EntropyView = record { drawn = None; faults = 0 } in
    rw (← c.self.view_is) (c.look_up.ensures.still 0 0 source).turn.is.is_turn.folder
