use Rattle.std.proofs.Common.{[], Err, Some, None, is_some, refl, ap, subst, arith, ◌∙◌}
use Rattle.outside.specs.Views.{entropy_in, folder_in}
use Rattle.tree_loading.specs.Format.{sealing_of}
use Rattle.tree_model.specs.Asked.{create}
use Rattle.live_tree.specs.Held.{HeldTree, live_rows}
use Rattle.request_checks.specs.Plans.{IsCreationRefusal}
use Rattle.node_changes.proofs.Committing.{early_step}
use Rattle.vault_store.specs.Open.{VaultView, view_of}
use Rattle.vault_store.proofs.ContentTurns.{own_reply}
use Rattle.vault_store.proofs.Flushes.{flush_err, rests_unflushed}
use Rattle.vault_store.proofs.Rests.{rest_waits, rests}
use Rattle.vault_store.proofs.Turns.{come_undrawn}
use Rattle.vault_store.proofs.Waiting.{after_flush, over, refused_outcome}
use Rattle.vault_store.proofs.answering.Vault.create.Goals as goal

pub returns-in-Some-clause-outcome : goal.returns-in-Some-clause-outcome
returns-in-Some-clause-outcome g c = λ mode buffer entries.
    let tree = c.args.self.now.tree in
    let back = c.args.self.now in
    let folder = folder_in g.D.Reads back.folder in
    let source = entropy_in g.E.Entropy c.args.entropy.now in
    let request = create c.args.parent c.args.name.now c.args.is_dir mode in
    let store = view_of tree back.waiting entries None in
    refused_outcome store store folder folder source source request c.args.now (rest_waits (sealing_of tree.keys) tree.live tree.claims back.waiting folder.log c.requires.rest) c.in-Some.refusal buffer
    (own_reply tree.keys tree.keys tree.live tree.live tree.claims tree.claims entries (over back.waiting folder) (over back.waiting folder) source source request c.args.now
    (come_undrawn tree.keys tree.keys (over back.waiting folder) (over back.waiting folder) source request refl (omega arith)) c.in-Some.refusal buffer (record { live = refl; claims = refl; log = refl }) c.in-Some.ensures.own
    (λ d contents stands. early_step (live_rows contents tree.live) request c.args.now c.in-Some.refusal
    (subst (λ (l : HeldTree). IsCreationRefusal l c.args.parent c.args.name.now (Some c.in-Some.refusal)) (c.live.ensures ∙ ap (λ (v : VaultView g.row.D.Denot). v.tree.live) c.self.view_is) c.in-Some.ensures.refusal contents c.args.is_dir mode)))

pub returns-in-Ok-clause-outcome : goal.returns-in-Ok-clause-outcome
returns-in-Ok-clause-outcome g c = λ mode buffer entries.
    let tree = c.args.self.now.tree in
    let back = c.args.self.now in
    let before = folder_in g.D.Reads back.folder in
    let amid = folder_in g.D.Reads c.flush.new.self.folder in
    let after = folder_in g.D.Reads c.create_idle.new.self.folder in
    let source = entropy_in g.E.Entropy c.args.entropy.now in
    let source' = entropy_in g.E.Entropy c.create_idle.new.entropy in
    after_flush (view_of tree back.waiting entries None) c.flush.new.self.tree c.create_idle.new.self.tree c.create_idle.new.self.waiting entries before amid after source source' (create c.args.parent c.args.name.now c.args.is_dir mode) c.args.now
    c.create_idle.result buffer buffer c.create_idle.ensures.idle (c.in-Ok.ensures.flushed entries) (c.create_idle.ensures.outcome mode buffer entries)

pub returns-in-Ok-clause-rest : goal.returns-in-Ok-clause-rest
returns-in-Ok-clause-rest g c =
    let amid = folder_in g.D.Reads c.flush.new.self.folder in
    let after = folder_in g.D.Reads c.create_idle.new.self.folder in
    let was = c.flush.new.self.tree in
    let new = c.create_idle.new.self in
    let source = entropy_in g.E.Entropy c.args.entropy.now in
    let source' = entropy_in g.E.Entropy c.create_idle.new.entropy in
    rests was.keys new.tree.keys was.live new.tree.live was.claims new.tree.claims 0 amid after source source' (create c.args.parent c.args.name.now c.args.is_dir 0) c.args.now c.create_idle.result [] [] new.waiting
    c.create_idle.ensures.keeps.keys c.create_idle.ensures.idle c.in-Ok.ensures.rest.rest (c.create_idle.ensures.outcome 0 [] 0)

pub returns-in-Err-clause-outcome : goal.returns-in-Err-clause-outcome
returns-in-Err-clause-outcome g c = λ mode buffer entries.
    let tree = c.args.self.now.tree in
    let back = c.args.self.now in
    let before = folder_in g.D.Reads back.folder in
    let after = folder_in g.D.Reads c.flush.new.self.folder in
    let source = entropy_in g.E.Entropy c.args.entropy.now in
    flush_err tree c.flush.new.self.tree back.waiting c.flush.new.self.waiting entries before after source (create c.args.parent c.args.name.now c.args.is_dir mode) c.args.now c.in-Err.cause c.unflushed_outcome.result buffer c.unflushed_outcome.ensures.broken c.unflushed_outcome.ensures.dropped
    (λ is. c.in-Err.ensures.dropped (ap Err is)) c.in-Err.ensures.tree
    c.in-Err.ensures.cause.later (c.in-Err.ensures.cause.rose refl) tt
    (λ d contents stands. ap is_some (subst (λ (l : HeldTree). IsCreationRefusal l c.args.parent c.args.name.now None) (c.live.ensures ∙ ap (λ (v : VaultView g.row.D.Denot). v.tree.live) c.self.view_is) c.in_default.ensures.refusal contents c.args.is_dir mode))
    c.in-Err.ensures.failed

pub returns-in-Err-clause-rest : goal.returns-in-Err-clause-rest
returns-in-Err-clause-rest g c =
    let new = c.flush.new.self in
    rests_unflushed (sealing_of new.tree.keys) new.tree.live new.tree.claims c.args.self.now.waiting new.waiting (g.D.Reads.log c.args.self.now.folder) (g.D.Reads.log new.folder) c.in-Err.cause c.unflushed_outcome.result c.unflushed_outcome.ensures.broken
    (λ is. c.in-Err.ensures.dropped (ap Err is)) c.in-Err.ensures.failed
