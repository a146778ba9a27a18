use Rattle.std.proofs.Common.{◌≡◌, length, Some, None, refl, sym, subst, ◌∙◌, eqb-true, arith}
use Rattle.outside.specs.Views.{entropy_in, folder_in}
use Rattle.tree_loading.specs.Format.{sealing_of}
use Rattle.tree_model.specs.declared.reply.Reply.TheVariants as replies
use Rattle.tree_model.specs.Asked.{write}
use Rattle.live_tree.specs.Held.{live_rows}
use Rattle.node_changes.proofs.Committing.{early_step}
use Rattle.vault_store.specs.Open.{IsResting, VaultView, view_of}
use Rattle.vault_store.proofs.ContentTurns.{come_drawing, empty_write, own_reply, still_reply, write_early}
use Rattle.vault_store.proofs.Flushes.{put_err, written}
use Rattle.vault_store.proofs.Rests.{rest_waits}
use Rattle.vault_store.proofs.Turns.{come_undrawn}
use Rattle.vault_store.proofs.Waiting.{over, refused_outcome, still_outcome}
use Rattle.vault_store.proofs.answering.Vault.write.Goals as goal
use Rattle.vault_store.proofs.answering.Vault.write.Goals.{in-Ok, in-Err}

pub returns-in-Some-clause-outcome : goal.returns-in-Some-clause-outcome
returns-in-Some-clause-outcome g c =
    let rest = subst (λ (v : VaultView g.row.D.Denot). IsResting g.D.Reads v) (sym c.self.view_is) c.requires.rest in
    rw (← c.self.view_is) (λ buffer entries.
    let tree = c.self.inside.tree in
    let back = c.self.inside.back in
    let folder = folder_in g.D.Reads back.folder in
    let source = entropy_in g.E.Entropy c.args.entropy.now in
    let request = write c.args.number c.args.at c.args.bytes.now in
    let store = view_of tree back.waiting entries None in
    refused_outcome store store folder folder source source request c.args.now (rest_waits (sealing_of tree.keys) tree.live tree.claims back.waiting folder.log rest) c.in-Some.refusal buffer
    (own_reply tree.keys tree.keys tree.live tree.live tree.claims tree.claims entries (over back.waiting folder) (over back.waiting folder) source source request c.args.now
    (come_undrawn tree.keys tree.keys (over back.waiting folder) (over back.waiting folder) source request refl (omega arith)) c.in-Some.refusal buffer (record { live = refl; claims = refl; log = refl }) c.in-Some.ensures.own
    (λ d contents stands. early_step (live_rows contents tree.live) request c.args.now c.in-Some.refusal
    (write_early tree.keys c.keys.result.now tree.live c.live.result.now tree.claims c.args.number c.args.at _ (Some c.in-Some.refusal) c.keys.ensures c.live.ensures c.have_sizes.ensures c.in-Some.ensures.refusal c.args.bytes.now refl d contents stands))))

pub returns-then-is_empty-clause-outcome : goal.returns-then-is_empty-clause-outcome
returns-then-is_empty-clause-outcome g c =
    let rest = subst (λ (v : VaultView g.row.D.Denot). IsResting g.D.Reads v) (sym c.self.view_is) c.requires.rest in
    rw (← c.self.view_is) (λ buffer entries.
    let tree = c.self.inside.tree in
    let back = c.self.inside.back in
    let folder = folder_in g.D.Reads back.folder in
    let source = entropy_in g.E.Entropy c.args.entropy.now in
    let request = write c.args.number c.args.at c.args.bytes.now in
    let store = view_of tree back.waiting entries None in
    let empty : length c.args.bytes.now ≡ 0 = eqb-true (length c.args.bytes.now) 0 (sym c.is_empty.ensures ∙ c.if-is_empty.true) in
    still_outcome store store folder folder source source request c.args.now (rest_waits (sealing_of tree.keys) tree.live tree.claims back.waiting folder.log rest) (replies.Count 0) buffer buffer refl
    (still_reply tree.keys tree.keys tree.live tree.live tree.claims tree.claims entries (over back.waiting folder) (over back.waiting folder) source source request c.args.now
    (come_undrawn tree.keys tree.keys (over back.waiting folder) (over back.waiting folder) source request refl (omega arith)) (replies.Count 0) buffer (record { form = sym empty; count = tt; enters = refl; rest = refl }) refl (λ d contents stands. refl) refl tt
    (record { live = refl; claims = refl; log = refl })
    (λ d contents stands. empty_write (live_rows contents tree.live) c.args.number c.args.at c.args.now c.args.bytes.now empty
    (write_early tree.keys c.keys.result.now tree.live c.live.result.now tree.claims c.args.number c.args.at _ None c.keys.ensures c.live.ensures c.have_sizes.ensures c.in_default.ensures.refusal c.args.bytes.now refl d contents stands))))

pub returns-clause-outcome : goal.returns-clause-outcome
returns-clause-outcome g c =
    let rest = subst (λ (v : VaultView g.row.D.Denot). IsResting g.D.Reads v) (sym c.self.view_is) c.requires.rest in
    rw (← c.self.view_is) (λ buffer entries. elim c.match-write.branch [
      | in-Ok w ↦
          rw w.result-is (
          let tree = c.self.inside.tree in
          let back = c.self.inside.back in
          let new = c.write.new.tree in
          let before = folder_in g.D.Reads back.folder in
          let after = folder_in g.D.Reads c.write.new.back.folder in
          let source = entropy_in g.E.Entropy c.args.entropy.now in
          let source' = entropy_in g.E.Entropy c.write.new.entropy in
          let request = write c.args.number c.args.at c.args.bytes.now in
          written tree.keys new.keys tree.live new.live tree.claims new.claims back.waiting c.write.new.back.waiting entries before after source source' request c.args.now
          (replies.Count _) buffer (record { form = refl; count = tt; enters = refl; rest = refl }) refl refl refl refl (λ made. tt) (λ rows. refl)
          (come_drawing tree.keys new.keys before after source source' request w.in-Ok.ensures.keys w.in-Ok.ensures.later w.in-Ok.ensures.entropy w.in-Ok.ensures.drawn (λ no. no))
          w.in-Ok.ensures.put)
      | in-Err w ↦
          rw w.result-is (
          let tree = c.self.inside.tree in
          let back = c.self.inside.back in
          let new = c.write.new.tree in
          let before = folder_in g.D.Reads back.folder in
          let after = folder_in g.D.Reads c.write.new.back.folder in
          let source = entropy_in g.E.Entropy c.args.entropy.now in
          let source' = entropy_in g.E.Entropy c.write.new.entropy in
          let request = write c.args.number c.args.at c.args.bytes.now in
          put_err tree.keys new.keys tree.live new.live tree.claims new.claims back.waiting c.write.new.back.waiting entries before after source source' request c.args.now
          (come_drawing tree.keys new.keys before after source source' request w.in-Err.ensures.keys w.in-Err.ensures.later w.in-Err.ensures.entropy w.in-Err.ensures.drawn (λ no. no))
          (rest_waits (sealing_of tree.keys) tree.live tree.claims back.waiting before.log rest)
          w.in-Err.error w.refused.result buffer w.refused.ensures.refused w.refused.ensures.broken w.in-Err.ensures.unchanged w.in-Err.ensures.waiting w.in-Err.ensures.cause w.in-Err.ensures.own w.in-Err.ensures.refused tt w.in-Err.ensures.same_live w.in-Err.ensures.broken)
    ])
