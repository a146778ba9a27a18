use Rattle.std.proofs.Common.{rules, [], Option, None, sym, ap, subst, ◌∙◌, true≢false}
use Rattle.outside.specs.Calls.{Told}
use Rattle.outside.specs.Images.{Log, disk_in}
use Rattle.outside.specs.Views.{EntropyView, folder_in}
use Rattle.tree_loading.specs.Format.{sealing_of}
use Rattle.tree_model.specs.declared.request.Request.{Request}
use Rattle.tree_model.specs.Asked.{PlainRequest, asked_of, plain_reply, plain_request, sync}
use Rattle.tree_model.specs.Step.{IsReading}
use Rattle.vault_store.specs.Open.{view_of}
use Rattle.vault_store.specs.Quiet.{IsStill}
use Rattle.vault_store.specs.Reading.{HasContents}
use Rattle.vault_store.specs.ReadOnly.{AddsReading, IsOnlyRead, ReadOnlyVault}
use Rattle.vault_store.proofs.Flushes.{sync_reply}
use Rattle.vault_store.proofs.Viewing.{refusal_adds, still_adds}
use Rattle.vault_store.proofs.read_only.ReadOnlyStore.serve.Given.{Over}
use Rattle.vault_store.proofs.read_only.ReadOnlyStore.serve.Goals as goal

-- ---- requests that would change something

pub returns-in-Create-clause-entry : goal.returns-in-Create-clause-entry
returns-in-Create-clause-entry g c =
    refusal_adds c.args.self.now.tree (folder_in g.D.Reads c.args.self.now.folder) (plain_request c.args.request.now) c.args.now c.args.buffer.now (λ reads. search rules)

pub returns-in-OpenNode-clause-entry : goal.returns-in-OpenNode-clause-entry
returns-in-OpenNode-clause-entry g c =
    refusal_adds c.args.self.now.tree (folder_in g.D.Reads c.args.self.now.folder) (plain_request c.args.request.now) c.args.now c.args.buffer.now (λ reads.
    true≢false (sym c.if-is_truncating.true ∙ c.is_truncating.ensures ∙ subst (λ (r : Request). IsReading (plain_request r)) c.in-OpenNode.is reads))

-- ---- syncs

pub returns-in-Sync-clause-entry : goal.returns-in-Sync-clause-entry
returns-in-Sync-clause-entry g c =
    let tree = c.self.inside.tree in
    let folder = folder_in g.D.Reads c.self.inside.folder in
    let asked = λ (r : PlainRequest). asked_of r c.args.now (plain_reply c.sync.result) c.args.buffer.now in
    subst (λ (v : ReadOnlyVault g.row.D.Denot). AddsReading v.tree (folder_in g.D.Reads v.folder) (folder_in g.D.Reads v.folder) (asked (plain_request c.args.request.now))) c.self.view_is
    (subst (λ (r : PlainRequest). AddsReading tree folder folder (asked r)) (sym (ap plain_request c.in-Sync.is))
    (still_adds tree folder folder (sync c.in-Sync.node) c.args.now c.sync.result c.args.buffer.now c.args.buffer.now tt (λ source.
    sync_reply tree.keys c.live.result.now tree.live tree.claims 0 folder source c.in-Sync.node c.args.now c.sync.result c.args.buffer.now c.live.ensures
    c.sync.ensures.answer c.sync.ensures.form c.sync.ensures.own c.sync.ensures.count)))

-- ---- other requests

still : (g : Over) (c : goal.After-slice_known-in_default-1 g) (source : EntropyView)
    → IsStill (view_of c.self.inside.tree [] 0 None) (view_of c.self.inside.tree [] 0 None) (folder_in g.D.Reads c.self.inside.folder) (folder_in g.D.Reads c.look_up.new.folder)
    source source (plain_request c.args.request.now) c.args.now c.look_up.result c.args.buffer.now c.look_up.new.buffer
still g c source = c.look_up.ensures.still 0 c.args.now source

nothing : EntropyView
nothing = record { drawn = None; faults = 0 }

pub invariant_of-self : goal.invariant_of-self
invariant_of-self g c =
    let tree = c.self.inside.tree in
    subst (λ (l : Option Log). Told (disk_in l) (HasContents (sealing_of tree.keys) tree.live)) (sym (still g c nothing).turn.is.log) c.self.invariant

pub returns-in_default-clause-entry : goal.returns-in_default-clause-entry
returns-in_default-clause-entry g c =
    let reads : IsReading (plain_request c.args.request.now) = search rules in
    let after = folder_in g.D.Reads c.look_up.new.folder in
    let asked = asked_of (plain_request c.args.request.now) c.args.now (plain_reply c.look_up.result) c.look_up.new.buffer in
    subst (λ (v : ReadOnlyVault g.row.D.Denot). AddsReading v.tree (folder_in g.D.Reads v.folder) after asked) c.self.view_is
    (still_adds c.self.inside.tree (folder_in g.D.Reads c.self.inside.folder) after (plain_request c.args.request.now) c.args.now c.look_up.result c.args.buffer.now c.look_up.new.buffer reads (still g c))

pub returns-in_default-clause-formed : goal.returns-in_default-clause-formed
returns-in_default-clause-formed g c = (still g c nothing).formed

pub returns-in_default-clause-read : goal.returns-in_default-clause-read
returns-in_default-clause-read g c =
    let after = folder_in g.D.Reads c.look_up.new.folder in
    let turn = (still g c nothing).turn.is in
    subst (λ (v : ReadOnlyVault g.row.D.Denot). IsOnlyRead (folder_in g.D.Reads v.folder) after) c.self.view_is (record { log = turn.log; changes = c.look_up.ensures.changes; faults = turn.is_turn.folder })
