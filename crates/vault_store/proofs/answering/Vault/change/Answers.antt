use Rattle.std.proofs.Common.{◌≡◌, Err, [], true, None, IsSome, refl, ap, subst, sym, ◌∙◌}
use Rattle.outside.specs.Views.{entropy_in, folder_in}
use Rattle.vault_keys.specs.Keys.{KeyPair}
use Rattle.tree_loading.specs.Format.{sealing_of}
use Rattle.tree_model.specs.declared.refusal.Refusal.TheVariants as refusals
use Rattle.tree_model.specs.declared.refusal.Refusal.{Refusal}
use Rattle.tree_model.specs.Asked.{change, plain_change}
use Rattle.live_tree.specs.Held.{HeldTree, node_of}
use Rattle.tree_answers.specs.Answers.{is_own}
use Rattle.request_checks.specs.Plans.{CanResize, IsPlanned, IsRefused}
use Rattle.node_changes.specs.declared.tree.VaultTree.{VaultTree}
use Rattle.vault_store.specs.Open.{VaultView, view_of}
use Rattle.vault_store.specs.Sizes.{SizesAreHeld}
use Rattle.vault_store.proofs.Changes.{memory_refused, plan_at, plan_late, plan_refused, refusal_at}
use Rattle.vault_store.proofs.Flushes.{flush_err, rests_unflushed}
use Rattle.vault_store.proofs.Rests.{rest_waits, rests}
use Rattle.vault_store.proofs.Waiting.{after_flush, over, refused_outcome}
use Rattle.vault_store.proofs.answering.Vault.change.Goals as goal

pub returns-in-Ok-Err-clause-outcome : goal.returns-in-Ok-Err-clause-outcome
returns-in-Ok-Err-clause-outcome g c = λ buffer entries.
    let tree = c.args.self.now.tree in
    let back = c.args.self.now in
    let source = entropy_in g.E.Entropy c.args.entropy.now in
    let folder = folder_in g.D.Reads back.folder in
    let asked = plain_change c.args.change.now in
    let store = view_of tree back.waiting entries None in
    let sizes = subst (λ (k : KeyPair). SizesAreHeld (sealing_of k)) (c.keys.ensures ∙ ap (λ (v : VaultView g.row.D.Denot). v.tree.keys) c.self.view_is) c.have_sizes.ensures in
    let refused = subst (λ (l : HeldTree). IsRefused l c.args.number asked c.in-Ok-Err.refusal) (c.live.ensures ∙ ap (λ (v : VaultView g.row.D.Denot). v.tree.live) c.self.view_is)
    (refusal_at (IsRefused c.live.result.now c.args.number asked) c.in-Ok-Err.field-0 c.in-Ok-Err.refusal c.in-Ok-Err.field-0-is c.in-Ok-Err.ensures.refused) in
    refused_outcome store store folder folder source source (change c.args.number asked) c.args.now (rest_waits (sealing_of tree.keys) tree.live tree.claims back.waiting folder.log c.requires.rest) c.in-Ok-Err.refusal buffer
    (plan_refused tree.keys tree.live tree.claims entries (over back.waiting folder) source c.args.number asked c.args.now buffer sizes c.in-Ok-Err.refusal
    (refusal_at (λ (refusal : Refusal). is_own refusal ≡ true) c.in-Ok-Err.field-0 c.in-Ok-Err.refusal c.in-Ok-Err.field-0-is c.in-Ok-Err.ensures.own) refused)

pub returns-in-Err-clause-outcome : goal.returns-in-Err-clause-outcome
returns-in-Err-clause-outcome g c = λ buffer entries.
    let tree = c.args.self.now.tree in
    let back = c.args.self.now in
    let source = entropy_in g.E.Entropy c.args.entropy.now in
    let folder = folder_in g.D.Reads back.folder in
    let asked = plain_change c.args.change.now in
    let store = view_of tree back.waiting entries None in
    refused_outcome store store folder folder source source (change c.args.number asked) c.args.now (rest_waits (sealing_of tree.keys) tree.live tree.claims back.waiting folder.log c.requires.rest) refusals.OutOfMemory buffer
    (memory_refused tree.keys tree.live tree.claims entries (over back.waiting folder) source c.args.number asked c.args.now buffer
    (subst (λ (l : HeldTree). IsSome (node_of l c.args.number)) (c.live.ensures ∙ ap (λ (v : VaultView g.row.D.Denot). v.tree.live) c.self.view_is) c.in-Err.ensures.there))

pub change_idle-requires-clause-planned : goal.change_idle-requires-clause-planned
change_idle-requires-clause-planned g c =
    let asked = plain_change c.args.change.now in (
      asked,
      subst (λ (l : HeldTree). IsPlanned l c.args.number asked c.in-Ok-Ok.plan) (c.live.ensures ∙ ap (λ (v : VaultView g.row.D.Denot). v.tree.live) c.self.view_is ∙ ap (λ (t : VaultTree). t.live) (sym c.in-Ok.ensures.tree))
          (plan_at (IsPlanned c.live.result.now c.args.number asked) c.in-Ok-Ok.field-0 c.in-Ok-Ok.plan c.in-Ok-Ok.plan c.in-Ok-Ok.field-0-is refl c.in-Ok-Ok.ensures.planned),
    )

pub change_idle-requires-clause-resizable : goal.change_idle-requires-clause-resizable
change_idle-requires-clause-resizable g c =
    subst (λ (l : HeldTree). CanResize l c.args.number c.in-Ok-Ok.plan) (c.live.ensures ∙ ap (λ (v : VaultView g.row.D.Denot). v.tree.live) c.self.view_is ∙ ap (λ (t : VaultTree). t.live) (sym c.in-Ok.ensures.tree))
    (plan_at (CanResize c.live.result.now c.args.number) c.in-Ok-Ok.field-0 c.in-Ok-Ok.plan c.in-Ok-Ok.plan c.in-Ok-Ok.field-0-is refl c.in-Ok-Ok.ensures.resizable)

pub returns-in-Ok-clause-outcome : goal.returns-in-Ok-clause-outcome
returns-in-Ok-clause-outcome g c = λ buffer entries.
    let tree = c.args.self.now.tree in
    let back = c.args.self.now in
    let before = folder_in g.D.Reads back.folder in
    let amid = folder_in g.D.Reads c.flush.new.self.folder in
    let after = folder_in g.D.Reads c.change_idle.new.self.folder in
    let source = entropy_in g.E.Entropy c.args.entropy.now in
    let source' = entropy_in g.E.Entropy c.change_idle.new.entropy in
    let asked = plain_change c.args.change.now in
    let planned = subst (λ (l : HeldTree). IsPlanned l c.args.number asked c.in-Ok-Ok.plan) (c.live.ensures ∙ ap (λ (v : VaultView g.row.D.Denot). v.tree.live) c.self.view_is ∙ ap (λ (t : VaultTree). t.live) (sym c.in-Ok.ensures.tree))
    (plan_at (IsPlanned c.live.result.now c.args.number asked) c.in-Ok-Ok.field-0 c.in-Ok-Ok.plan c.in-Ok-Ok.plan c.in-Ok-Ok.field-0-is refl c.in-Ok-Ok.ensures.planned) in
    after_flush (view_of tree back.waiting entries None) c.flush.new.self.tree c.change_idle.new.self.tree c.change_idle.new.self.waiting entries before amid after source source' (change c.args.number asked) c.args.now
    c.change_idle.result buffer buffer c.change_idle.ensures.idle (c.in-Ok.ensures.flushed entries) (c.change_idle.ensures.outcome buffer asked refl planned entries)

pub returns-in-Ok-clause-rest : goal.returns-in-Ok-clause-rest
returns-in-Ok-clause-rest g c =
    let amid = folder_in g.D.Reads c.flush.new.self.folder in
    let after = folder_in g.D.Reads c.change_idle.new.self.folder in
    let was = c.flush.new.self.tree in
    let new = c.change_idle.new.self in
    let source = entropy_in g.E.Entropy c.args.entropy.now in
    let source' = entropy_in g.E.Entropy c.change_idle.new.entropy in
    let asked = plain_change c.args.change.now in
    let planned = subst (λ (l : HeldTree). IsPlanned l c.args.number asked c.in-Ok-Ok.plan) (c.live.ensures ∙ ap (λ (v : VaultView g.row.D.Denot). v.tree.live) c.self.view_is ∙ ap (λ (t : VaultTree). t.live) (sym c.in-Ok.ensures.tree))
    (plan_at (IsPlanned c.live.result.now c.args.number asked) c.in-Ok-Ok.field-0 c.in-Ok-Ok.plan c.in-Ok-Ok.plan c.in-Ok-Ok.field-0-is refl c.in-Ok-Ok.ensures.planned) in
    rests was.keys new.tree.keys was.live new.tree.live was.claims new.tree.claims 0 amid after source source' (change c.args.number asked) c.args.now c.change_idle.result [] [] new.waiting
    c.change_idle.ensures.keeps.keys c.change_idle.ensures.idle c.in-Ok.ensures.rest.rest (c.change_idle.ensures.outcome [] asked refl planned 0)

pub returns-in-Err-flush-clause-outcome : goal.returns-in-Err-flush-clause-outcome
returns-in-Err-flush-clause-outcome g c = λ buffer entries.
    let tree = c.args.self.now.tree in
    let back = c.args.self.now in
    let before = folder_in g.D.Reads back.folder in
    let after = folder_in g.D.Reads c.flush.new.self.folder in
    let source = entropy_in g.E.Entropy c.args.entropy.now in
    let asked = plain_change c.args.change.now in
    let sizes = subst (λ (k : KeyPair). SizesAreHeld (sealing_of k)) (c.keys.ensures ∙ ap (λ (v : VaultView g.row.D.Denot). v.tree.keys) c.self.view_is) c.have_sizes.ensures in
    let planned = subst (λ (l : HeldTree). IsPlanned l c.args.number asked c.in-Ok-Ok.plan) (c.live.ensures ∙ ap (λ (v : VaultView g.row.D.Denot). v.tree.live) c.self.view_is)
    (plan_at (IsPlanned c.live.result.now c.args.number asked) c.in-Ok-Ok.field-0 c.in-Ok-Ok.plan c.in-Ok-Ok.plan c.in-Ok-Ok.field-0-is refl c.in-Ok-Ok.ensures.planned) in
    flush_err tree c.flush.new.self.tree back.waiting c.flush.new.self.waiting entries before after source (change c.args.number asked) c.args.now c.in-Err-flush.cause c.unflushed_outcome.result buffer c.unflushed_outcome.ensures.broken c.unflushed_outcome.ensures.dropped
    (λ is. c.in-Err-flush.ensures.dropped (ap Err is)) c.in-Err-flush.ensures.tree
    c.in-Err-flush.ensures.cause.later (c.in-Err-flush.ensures.cause.rose refl) tt (plan_late tree.keys tree.live tree.claims c.args.number asked sizes c.in-Ok-Ok.plan planned)
    c.in-Err-flush.ensures.failed

pub returns-in-Err-flush-clause-rest : goal.returns-in-Err-flush-clause-rest
returns-in-Err-flush-clause-rest g c =
    let new = c.flush.new.self in
    rests_unflushed (sealing_of new.tree.keys) new.tree.live new.tree.claims c.args.self.now.waiting new.waiting (g.D.Reads.log c.args.self.now.folder) (g.D.Reads.log new.folder) c.in-Err-flush.cause c.unflushed_outcome.result c.unflushed_outcome.ensures.broken
    (λ is. c.in-Err-flush.ensures.dropped (ap Err is)) c.in-Err-flush.ensures.failed
