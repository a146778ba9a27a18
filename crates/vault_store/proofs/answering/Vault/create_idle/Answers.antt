use Rattle.std.proofs.Common.{refl, [], None, Ok, subst}
use Rattle.outside.specs.Views.{entropy_in, folder_in}
use Rattle.tree_model.specs.declared.reply.Reply.TheVariants as replies
use Rattle.tree_model.specs.Asked.{create, done, qid}
use Rattle.tree_model.specs.Step.{says}
use Rattle.vault_store.specs.Open.{view_of}
use Rattle.vault_store.specs.Outcome.{IsWork}
use Rattle.vault_store.proofs.Turns.{changed_reply, change_err, draws, always_placed, broken_created, changes_created, untaken_created}
use Rattle.vault_store.proofs.answering.Vault.create_idle.Goals as goal
use Rattle.vault_store.proofs.answering.Vault.create_idle.Goals.{in-Ok, in-Err}

pub returns-clause-outcome : goal.returns-clause-outcome
returns-clause-outcome g c =
    rw (← c.self.view_is) (λ mode buffer entries. elim c.match-create.branch [
      | in-Ok w ↦
          rw w.result-is (
          let before = folder_in g.D.Reads c.journal.result.now in
          let after = folder_in g.D.Reads c.create.new.journal in
          let source = entropy_in g.E.Entropy c.args.entropy.now in
          let source' = entropy_in g.E.Entropy c.create.new.entropy in
          let request = create c.args.parent c.args.name.now c.args.is_dir mode in
          let came = w.in-Ok.ensures.came mode in
          subst (λ (d : g.row.D.Denot). IsWork (view_of c.self.inside.tree [] entries None) (view_of c.create.new.self [] entries None) (folder_in g.D.Reads d) after source source' request c.args.now (Ok (replies.Qid w.in-Ok.qid)) buffer buffer) c.journal.ensures.journal
          (changed_reply c.self.inside.tree.keys c.create.new.self.keys c.self.inside.tree.live c.create.new.self.live c.self.inside.tree.claims c.create.new.self.claims entries before after source source' request c.args.now
          came.drawn (replies.Qid w.in-Ok.qid) buffer
          (record { keys_are = w.in-Ok.ensures.keys; folder = w.in-Ok.ensures.later; entropy = w.in-Ok.ensures.entropy; may_draw = came.draw.directory; drawn_is = draws c.args.is_dir came.drawn source.drawn source'.drawn came.draw; unspent = came.draw.unspent })
          refl refl tt (record { form = tt; count = tt; enters = refl; rest = refl }) refl
          (untaken_created c.self.inside.tree.keys request c.args.now (says (qid w.in-Ok.qid)) came.drawn c.self.inside.tree.live c.create.new.self.live c.self.inside.tree.claims c.create.new.self.claims source.drawn source'.drawn before.log after.log came.changed)
          (changes_created c.self.inside.tree.keys request c.args.now (says (qid w.in-Ok.qid)) came.drawn c.self.inside.tree.live c.create.new.self.live c.self.inside.tree.claims c.create.new.self.claims source.drawn source'.drawn before.log after.log came.changed)))
      | in-Err w ↦
          rw w.result-is (
          let before = folder_in g.D.Reads c.journal.result.now in
          let after = folder_in g.D.Reads c.create.new.journal in
          let source = entropy_in g.E.Entropy c.args.entropy.now in
          let source' = entropy_in g.E.Entropy c.create.new.entropy in
          let request = create c.args.parent c.args.name.now c.args.is_dir mode in
          let came = w.in-Err.ensures.came mode in
          subst (λ (d : g.row.D.Denot). IsWork (view_of c.self.inside.tree [] entries None) (view_of c.create.new.self [] entries None) (folder_in g.D.Reads d) after source source' request c.args.now w.refused.result buffer buffer) c.journal.ensures.journal
          (change_err c.self.inside.tree.keys c.create.new.self.keys c.self.inside.tree.live c.create.new.self.live c.self.inside.tree.claims c.create.new.self.claims entries before after source source' request c.args.now
          came.drawn w.in-Err.error w.refused.result buffer w.refused.ensures.refused w.refused.ensures.broken
          (record { keys_are = w.in-Err.ensures.keys; folder = w.in-Err.ensures.later; entropy = w.in-Err.ensures.entropy; may_draw = came.draw.directory; drawn_is = draws c.args.is_dir came.drawn source.drawn source'.drawn came.draw; unspent = came.draw.unspent })
          w.in-Err.ensures.unchanged (w.in-Err.ensures.cause mode)
          (always_placed c.self.inside.tree.keys c.create.new.self.keys c.self.inside.tree.live c.create.new.self.live c.self.inside.tree.claims c.create.new.self.claims entries before after source source' request c.args.now
          came.drawn (λ rows. refl)) came.refused tt
          (broken_created c.self.inside.tree.keys request c.args.now (says done) came.drawn c.self.inside.tree.live c.create.new.self.live c.self.inside.tree.claims c.create.new.self.claims source.drawn source'.drawn before.log after.log
          w.in-Err.error came.broken)))
    ])
