use Rattle.std.proofs.Common.{Some, None, refl, subst, sym, ◌∙◌, arith}
use Rattle.outside.specs.Views.{entropy_in, folder_in}
use Rattle.tree_loading.specs.Format.{sealing_of}
use Rattle.tree_model.specs.declared.reply.Reply.TheVariants as replies
use Rattle.tree_model.specs.Asked.{open_node, qid}
use Rattle.tree_model.specs.Step.{says}
use Rattle.live_tree.specs.Held.{HeldTree, live_rows}
use Rattle.request_checks.specs.Files.{IsResizable}
use Rattle.node_changes.proofs.Committing.{early_step}
use Rattle.vault_store.specs.Open.{IsResting, VaultView, view_of}
use Rattle.vault_store.proofs.ContentTurns.{come_drawing, open_early, own_reply, truncation_here}
use Rattle.vault_store.proofs.Flushes.{put_err, written}
use Rattle.vault_store.proofs.Rests.{rest_waits}
use Rattle.vault_store.proofs.Turns.{come_undrawn}
use Rattle.vault_store.proofs.Waiting.{over, refused_outcome}
use Rattle.vault_store.proofs.answering.Vault.truncate.Goals as goal
use Rattle.vault_store.proofs.answering.Vault.truncate.Goals.{in-Ok, in-Err}

pub returns-in-Some-clause-outcome : goal.returns-in-Some-clause-outcome
returns-in-Some-clause-outcome g c =
    let rest = subst (λ (v : VaultView g.row.D.Denot). IsResting g.D.Reads v) (sym c.self.view_is) c.requires.rest in
    rw (← c.self.view_is) (λ buffer entries.
    let tree = c.self.inside.tree in
    let back = c.self.inside.back in
    let folder = folder_in g.D.Reads back.folder in
    let source = entropy_in g.E.Entropy c.args.entropy.now in
    let request = open_node c.args.number c.args.mode in
    let store = view_of tree back.waiting entries None in
    refused_outcome store store folder folder source source request c.args.now (rest_waits (sealing_of tree.keys) tree.live tree.claims back.waiting folder.log rest) c.in-Some.refusal buffer
    (own_reply tree.keys tree.keys tree.live tree.live tree.claims tree.claims entries (over back.waiting folder) (over back.waiting folder) source source request c.args.now
    (come_undrawn tree.keys tree.keys (over back.waiting folder) (over back.waiting folder) source request refl (omega arith)) c.in-Some.refusal buffer (record { live = refl; claims = refl; log = refl }) c.in-Some.ensures.own
    (λ d contents stands. early_step (live_rows contents tree.live) request c.args.now c.in-Some.refusal
    (open_early tree.keys c.keys.result.now tree.live c.live.result.now tree.claims c.args.number c.args.mode (Some c.in-Some.refusal) c.keys.ensures c.live.ensures c.have_sizes.ensures c.in-Some.ensures.refusal d contents stands))))

pub changed_qid-qid-requires : goal.changed_qid-qid-requires
changed_qid-qid-requires g c = (0, subst (λ (l : HeldTree). IsResizable l c.args.number 0) (c.live.ensures ∙ sym c.live-2.ensures) c.in_default.ensures.allowed)

pub truncate-requires-clause-file : goal.truncate-requires-clause-file
truncate-requires-clause-file g c = subst (λ (l : HeldTree). IsResizable l c.args.number 0) c.live.ensures c.in_default.ensures.allowed

pub returns-clause-outcome : goal.returns-clause-outcome
returns-clause-outcome g c =
    let rest = subst (λ (v : VaultView g.row.D.Denot). IsResting g.D.Reads v) (sym c.self.view_is) c.requires.rest in
    rw (← c.self.view_is) (λ buffer entries. elim c.match-truncate.branch [
      | in-Ok w ↦
          rw w.result-is (
          let tree = c.self.inside.tree in
          let back = c.self.inside.back in
          let new = c.truncate.new.tree in
          let before = folder_in g.D.Reads back.folder in
          let after = folder_in g.D.Reads c.truncate.new.back.folder in
          let source = entropy_in g.E.Entropy c.args.entropy.now in
          let source' = entropy_in g.E.Entropy c.truncate.new.entropy in
          let request = open_node c.args.number c.args.mode in
          let result = c.changed_qid-qid.result in
          let resizing = truncation_here tree.keys c.keys.result.now tree.live c.live.result.now c.live-2.result.now tree.claims c.args.number c.args.mode c.args.now result c.keys.ensures c.live.ensures c.live-2.ensures
          c.have_sizes.ensures c.requires.cuts c.in_default.ensures.allowed c.in_default.ensures.refusal c.changed_qid-qid.ensures in
          written tree.keys new.keys tree.live new.live tree.claims new.claims back.waiting c.truncate.new.back.waiting entries before after source source' request c.args.now
          (replies.Qid result) buffer (record { form = tt; count = tt; enters = refl; rest = refl }) refl refl refl refl (λ made. tt) (λ rows. refl)
          (come_drawing tree.keys new.keys before after source source' request w.in-Ok.ensures.keys w.in-Ok.ensures.later w.in-Ok.ensures.entropy w.in-Ok.ensures.drawn (λ no. no))
          (w.in-Ok.ensures.put request (says (qid result)) resizing))
      | in-Err w ↦
          rw w.result-is (
          let tree = c.self.inside.tree in
          let back = c.self.inside.back in
          let new = c.truncate.new.tree in
          let before = folder_in g.D.Reads back.folder in
          let after = folder_in g.D.Reads c.truncate.new.back.folder in
          let source = entropy_in g.E.Entropy c.args.entropy.now in
          let source' = entropy_in g.E.Entropy c.truncate.new.entropy in
          let request = open_node c.args.number c.args.mode in
          let result = c.changed_qid-qid.result in
          let answer = says (qid result) in
          let resizing = truncation_here tree.keys c.keys.result.now tree.live c.live.result.now c.live-2.result.now tree.claims c.args.number c.args.mode c.args.now result c.keys.ensures c.live.ensures c.live-2.ensures
          c.have_sizes.ensures c.requires.cuts c.in_default.ensures.allowed c.in_default.ensures.refusal c.changed_qid-qid.ensures in
          put_err tree.keys new.keys tree.live new.live tree.claims new.claims back.waiting c.truncate.new.back.waiting entries before after source source' request c.args.now
          (come_drawing tree.keys new.keys before after source source' request w.in-Err.ensures.keys w.in-Err.ensures.later w.in-Err.ensures.entropy w.in-Err.ensures.drawn (λ no. no))
          (rest_waits (sealing_of tree.keys) tree.live tree.claims back.waiting before.log rest)
          w.in-Err.error w.refused.result buffer w.refused.ensures.refused w.refused.ensures.broken w.in-Err.ensures.unchanged w.in-Err.ensures.waiting (w.in-Err.ensures.cause request) w.in-Err.ensures.own
          (w.in-Err.ensures.refused request answer resizing) c.requires.cuts w.in-Err.ensures.same_live (w.in-Err.ensures.broken request answer resizing))
    ])
