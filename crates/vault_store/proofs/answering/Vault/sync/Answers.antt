use Rattle.std.proofs.Common.{[], Err, None, Ok, refl, sym, ap, subst, ◌∙◌}
use Rattle.outside.specs.Views.{folder_in}
use Rattle.tree_loading.specs.Format.{sealing_of}
use Rattle.tree_model.specs.declared.reply.Reply.{Reply}
use Rattle.tree_model.specs.Asked.{plain_reply, sync}
use Rattle.tree_model.specs.Step.{says}
use Rattle.crash_laws.specs.Stable.{is_kept}
use Rattle.live_tree.specs.Held.{HeldTree}
use Rattle.node_changes.specs.declared.tree.VaultTree.{VaultTree}
use Rattle.tree_answers.specs.Answers.{IsStepOf}
use Rattle.vault_store.specs.Open.{VaultView, view_of}
use Rattle.vault_store.proofs.Flushes.{flush_err, rests_unflushed, sync_late, sync_reply}
use Rattle.vault_store.proofs.Rests.{rest_waits, rests_idle}
use Rattle.vault_store.proofs.Waiting.{after_flush, idle_reply, over, still_outcome}
use Rattle.vault_store.proofs.answering.Vault.sync.Goals as goal

pub returns-in-Refused-clause-outcome : goal.returns-in-Refused-clause-outcome
returns-in-Refused-clause-outcome g c = λ second source buffer entries.
    let tree = c.args.self.now.tree in
    let back = c.args.self.now in
    let folder = folder_in g.D.Reads back.folder in
    let store = view_of tree back.waiting entries None in
    still_outcome store store folder folder source source (sync c.args.number) second (rest_waits (sealing_of tree.keys) tree.live tree.claims back.waiting folder.log c.requires.rest) c.sync-reply.result buffer buffer
    (ap (λ (r : Reply). is_kept (sync c.args.number) (plain_reply r)) c.in-Refused.is)
    (sync_reply tree.keys c.live.result.now tree.live tree.claims entries (over back.waiting folder) source c.args.number second c.sync-reply.result buffer (c.live.ensures ∙ ap (λ (v : VaultView g.row.D.Denot). v.tree.live) c.self.view_is)
    c.sync-reply.ensures.answer c.sync-reply.ensures.form c.sync-reply.ensures.own c.sync-reply.ensures.count)

pub returns-in-Ok-clause-outcome : goal.returns-in-Ok-clause-outcome
returns-in-Ok-clause-outcome g c = λ second source buffer entries.
    let tree = c.args.self.now.tree in
    let back = c.args.self.now in
    let new = c.flush.new.self in
    let before = folder_in g.D.Reads back.folder in
    let after = folder_in g.D.Reads new.folder in
    let store = view_of new.tree [] entries None in
    let same = c.live.ensures ∙ ap (λ (v : VaultView g.row.D.Denot). v.tree.live) c.self.view_is ∙ ap (λ (t : VaultTree). t.live) (sym c.in-Ok.ensures.tree) in
    after_flush (view_of tree back.waiting entries None) new.tree new.tree new.waiting entries before after after source source (sync c.args.number) second (Ok c.sync-reply.result) buffer buffer
    c.in-Ok.ensures.idle (c.in-Ok.ensures.flushed entries)
    (idle_reply store store after after source source (sync c.args.number) second c.sync-reply.result buffer buffer refl refl
    (sync_reply new.tree.keys c.live.result.now new.tree.live new.tree.claims entries after source c.args.number second c.sync-reply.result buffer same
    c.sync-reply.ensures.answer c.sync-reply.ensures.form c.sync-reply.ensures.own c.sync-reply.ensures.count))

pub returns-in-Ok-clause-rest : goal.returns-in-Ok-clause-rest
returns-in-Ok-clause-rest g c =
    let new = c.flush.new.self in
    rests_idle (sealing_of new.tree.keys) new.tree.live new.tree.claims new.waiting (g.D.Reads.log new.folder) c.in-Ok.ensures.idle c.in-Ok.ensures.rest.rest

pub returns-in-Err-clause-outcome : goal.returns-in-Err-clause-outcome
returns-in-Err-clause-outcome g c = λ second source buffer entries.
    let tree = c.args.self.now.tree in
    let back = c.args.self.now in
    let before = folder_in g.D.Reads back.folder in
    let after = folder_in g.D.Reads c.flush.new.self.folder in
    flush_err tree c.flush.new.self.tree back.waiting c.flush.new.self.waiting entries before after source (sync c.args.number) second c.in-Err.cause c.unflushed_outcome.result buffer c.unflushed_outcome.ensures.broken c.unflushed_outcome.ensures.dropped
    (λ is. c.in-Err.ensures.dropped (ap Err is)) c.in-Err.ensures.tree
    c.in-Err.ensures.cause.later (c.in-Err.ensures.cause.rose refl) tt
    (λ d contents stands. sync_late tree.live c.args.number contents c.sync-reply.result
    (subst (λ (l : HeldTree). IsStepOf l (sync c.args.number) (says (plain_reply c.sync-reply.result))) (c.live.ensures ∙ ap (λ (v : VaultView g.row.D.Denot). v.tree.live) c.self.view_is) c.sync-reply.ensures.answer) c.in_default.not-Refused)
    c.in-Err.ensures.failed

pub returns-in-Err-clause-rest : goal.returns-in-Err-clause-rest
returns-in-Err-clause-rest g c =
    let new = c.flush.new.self in
    rests_unflushed (sealing_of new.tree.keys) new.tree.live new.tree.claims c.args.self.now.waiting new.waiting (g.D.Reads.log c.args.self.now.folder) (g.D.Reads.log new.folder) c.in-Err.cause c.unflushed_outcome.result c.unflushed_outcome.ensures.broken
    (λ is. c.in-Err.ensures.dropped (ap Err is)) c.in-Err.ensures.failed
