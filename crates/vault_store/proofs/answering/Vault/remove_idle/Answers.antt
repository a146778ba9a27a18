use Rattle.std.proofs.Common.{◌≡◌, Option, None, refl, [], Ok, subst}
use Rattle.outside.specs.Disk.{Path as HostPath}
use Rattle.outside.specs.Calls.{Rose}
use Rattle.outside.specs.Views.{folder_in}
use Rattle.outside.specs.Images.{disk_in}
use Rattle.outside.proofs.Told.{told_always}
use Rattle.tree_model.specs.declared.reply.Reply.TheVariants as replies
use Rattle.tree_model.specs.Asked.{remove}
use Rattle.vault_store.specs.Open.{view_of}
use Rattle.vault_store.specs.Outcome.{IsWork}
use Rattle.vault_store.proofs.Turns.{come_undrawn, changed_reply, change_err, never_placed, undrawn_cause}
use Rattle.vault_store.proofs.answering.Vault.remove_idle.Goals as goal
use Rattle.vault_store.proofs.answering.Vault.remove_idle.Goals.{in-Ok, in-Err}

pub returns-clause-outcome : goal.returns-clause-outcome
returns-clause-outcome g c =
    rw (← c.self.view_is) (λ source buffer entries. elim c.match-remove.branch [
      | in-Ok w ↦
          rw w.result-is (
          let before = folder_in g.D.Reads c.journal.result.now in
          let after = folder_in g.D.Reads c.remove.new.journal in
          subst (λ (d : g.row.D.Denot). IsWork (view_of c.self.inside.tree [] entries None) (view_of c.remove.new.self [] entries None) (folder_in g.D.Reads d) after source source (remove c.args.number) c.args.now (Ok (replies.Done)) buffer buffer) c.journal.ensures.journal
          (changed_reply c.self.inside.tree.keys c.remove.new.self.keys c.self.inside.tree.live c.remove.new.self.live c.self.inside.tree.claims c.remove.new.self.claims entries before after source source (remove c.args.number) c.args.now
          None replies.Done buffer
          (come_undrawn c.self.inside.tree.keys c.remove.new.self.keys before after source (remove c.args.number) w.in-Ok.ensures.keys w.in-Ok.ensures.later)
          refl refl tt (record { form = tt; count = tt; enters = refl; rest = refl }) refl (told_always (disk_in before.log) (λ d. ◌≡◌ {A = Option HostPath} None None) (λ d. refl)) w.in-Ok.ensures.changed))
      | in-Err w ↦
          rw w.result-is (
          let before = folder_in g.D.Reads c.journal.result.now in
          let after = folder_in g.D.Reads c.remove.new.journal in
          subst (λ (d : g.row.D.Denot). IsWork (view_of c.self.inside.tree [] entries None) (view_of c.remove.new.self [] entries None) (folder_in g.D.Reads d) after source source (remove c.args.number) c.args.now w.refused.result buffer buffer) c.journal.ensures.journal
          (change_err c.self.inside.tree.keys c.remove.new.self.keys c.self.inside.tree.live c.remove.new.self.live c.self.inside.tree.claims c.remove.new.self.claims entries before after source source (remove c.args.number) c.args.now
          None w.in-Err.error w.refused.result buffer w.refused.ensures.refused w.refused.ensures.broken
          (come_undrawn c.self.inside.tree.keys c.remove.new.self.keys before after source (remove c.args.number) w.in-Err.ensures.keys w.in-Err.ensures.later)
          w.in-Err.ensures.unchanged (undrawn_cause (remove c.args.number) (Rose before.faults after.faults) (Rose source.faults source.faults) w.in-Err.error w.in-Err.ensures.cause)
          (never_placed c.self.inside.tree.keys c.remove.new.self.keys c.self.inside.tree.live c.remove.new.self.live c.self.inside.tree.claims c.remove.new.self.claims entries before after source source (remove c.args.number) c.args.now
          None (λ d. refl)) w.in-Err.ensures.refused tt w.in-Err.ensures.broken))
    ])
