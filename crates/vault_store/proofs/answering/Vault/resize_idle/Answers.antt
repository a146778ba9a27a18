use Rattle.std.proofs.Common.{ℕ, Option, refl, subst, [], None, Ok}
use Rattle.outside.specs.Views.{entropy_in, folder_in}
use Rattle.tree_loading.specs.Format.{sealing_of}
use Rattle.tree_model.specs.declared.reply.Reply.TheVariants as replies
use Rattle.tree_model.specs.Asked.{change, done}
use Rattle.tree_model.specs.Step.{says}
use Rattle.file_changes.specs.Steps.{IsResizing}
use Rattle.vault_store.specs.Open.{view_of}
use Rattle.vault_store.specs.Outcome.{IsWork}
use Rattle.vault_store.proofs.ContentTurns.{change_resizes, come_drawing, content_err, content_reply, resize_unplaced, sizes_here}
use Rattle.vault_store.proofs.answering.Vault.resize_idle.Goals as goal
use Rattle.vault_store.proofs.answering.Vault.resize_idle.Goals.{in-Ok, in-Err}

pub returns-clause-outcome : goal.returns-clause-outcome
returns-clause-outcome g c =
    rw (← c.self.view_is) (λ buffer asked same planned entries. elim c.match-resize.branch [
      | in-Ok w ↦
          rw w.result-is (
          let before = folder_in g.D.Reads c.journal.result.now in
          let after = folder_in g.D.Reads c.resize.new.journal in
          let source = entropy_in g.E.Entropy c.args.entropy.now in
          let source' = entropy_in g.E.Entropy c.resize.new.entropy in
          let tree = c.self.inside.tree in
          let new = c.resize.new.tree in
          let request = change c.args.number asked in
          let sizes = sizes_here tree.keys c.keys.result.now c.keys.ensures c.have_sizes.ensures in
          let resizing = subst (λ (modified : Option ℕ). IsResizing (sealing_of tree.keys) tree.live tree.claims c.args.number c.args.len modified c.args.now request (says done)) same
          (change_resizes (sealing_of tree.keys) tree.live tree.claims c.args.number c.args.len c.args.now asked sizes planned) in
          subst (λ (d : g.row.D.Denot). IsWork (view_of c.self.inside.tree [] entries None) (view_of new [] entries None) (folder_in g.D.Reads d) after source source' request c.args.now (Ok (replies.Done)) buffer buffer) c.journal.ensures.journal
          (content_reply tree.keys new.keys tree.live new.live tree.claims new.claims entries before after source source' request c.args.now
          (come_drawing tree.keys new.keys before after source source' request w.in-Ok.ensures.keys w.in-Ok.ensures.later w.in-Ok.ensures.entropy w.in-Ok.ensures.drawn (λ no. no))
          replies.Done buffer (record { form = tt; count = tt; enters = refl; rest = refl }) refl (resize_unplaced (sealing_of tree.keys) tree.live tree.claims c.args.number c.args.len asked sizes planned) refl tt refl
          (w.in-Ok.ensures.changed request (says done) resizing)))
      | in-Err w ↦
          rw w.result-is (
          let before = folder_in g.D.Reads c.journal.result.now in
          let after = folder_in g.D.Reads c.resize.new.journal in
          let source = entropy_in g.E.Entropy c.args.entropy.now in
          let source' = entropy_in g.E.Entropy c.resize.new.entropy in
          let tree = c.self.inside.tree in
          let new = c.resize.new.tree in
          let request = change c.args.number asked in
          let sizes = sizes_here tree.keys c.keys.result.now c.keys.ensures c.have_sizes.ensures in
          let resizing = subst (λ (modified : Option ℕ). IsResizing (sealing_of tree.keys) tree.live tree.claims c.args.number c.args.len modified c.args.now request (says done)) same
          (change_resizes (sealing_of tree.keys) tree.live tree.claims c.args.number c.args.len c.args.now asked sizes planned) in
          subst (λ (d : g.row.D.Denot). IsWork (view_of c.self.inside.tree [] entries None) (view_of new [] entries None) (folder_in g.D.Reads d) after source source' request c.args.now w.refused.result buffer buffer) c.journal.ensures.journal
          (content_err tree.keys new.keys tree.live new.live tree.claims new.claims entries before after source source' request c.args.now
          (come_drawing tree.keys new.keys before after source source' request w.in-Err.ensures.keys w.in-Err.ensures.later w.in-Err.ensures.entropy w.in-Err.ensures.drawn (λ no. no))
          w.in-Err.error w.refused.result buffer w.refused.ensures.refused w.refused.ensures.broken w.in-Err.ensures.unchanged (w.in-Err.ensures.cause request) w.in-Err.ensures.own
          (w.in-Err.ensures.refused request (says done) resizing) tt (w.in-Err.ensures.broken request (says done) resizing)))
    ])
