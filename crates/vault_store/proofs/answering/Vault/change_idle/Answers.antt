use Rattle.std.proofs.Common.{◌≡◌, ℕ, [], true, Option, None, Ok, refl, sym, subst}
use Rattle.outside.specs.Calls.{Rose}
use Rattle.outside.specs.Disk.{Path as HostPath}
use Rattle.outside.specs.Images.{disk_in}
use Rattle.outside.specs.Views.{entropy_in, folder_in}
use Rattle.outside.proofs.Told.{told_always}
use Rattle.vault_keys.specs.Keys.{KeyPair}
use Rattle.tree_loading.specs.Format.{sealing_of}
use Rattle.tree_model.specs.declared.reply.Reply.TheVariants as replies
use Rattle.tree_model.specs.declared.refusal.Refusal.TheVariants as refusals
use Rattle.tree_model.specs.Rows.{Content}
use Rattle.tree_model.specs.Asked.{change}
use Rattle.tree_model.specs.History.{places}
use Rattle.live_tree.specs.Held.{live_rows}
use Rattle.request_checks.specs.Plans.{CanResize, IsPlanned}
use Rattle.request_checks.specs.declared.planning.Plan.{Plan}
use Rattle.node_changes.specs.Changed.{StandsOn}
use Rattle.node_changes.specs.Renaming.{IsRenaming}
use Rattle.vault_store.specs.Dated.{IsDated}
use Rattle.vault_store.specs.Open.{view_of}
use Rattle.vault_store.specs.Outcome.{IsWork}
use Rattle.vault_store.specs.Sizes.{SizesAreHeld}
use Rattle.vault_store.proofs.Changes.{asks_place, is_renaming, name_asked}
use Rattle.vault_store.proofs.Dates.{date_reply}
use Rattle.vault_store.proofs.Turns.{change_err, changed_reply, changes_renamed, come_undrawn, undrawn_cause, untaken_renamed}
use Rattle.vault_store.proofs.answering.Vault.change_idle.Goals as goal
use Rattle.vault_store.proofs.answering.Vault.change_idle.Goals.{in-Ok, in-Err}

pub returns-after-rename-clause-outcome : goal.returns-after-rename-clause-outcome
returns-after-rename-clause-outcome g c =
    rw (← c.self.view_is) (λ buffer asked same plan entries.
    let source = entropy_in g.E.Entropy c.args.entropy.now in
    let folder = folder_in g.D.Reads c.journal.result.now in
    let after = folder_in g.D.Reads c.rename.new.journal in
    let tree = c.self.inside.tree in
    let new = c.rename.new.self in
    let sizes = subst (λ (k : KeyPair). SizesAreHeld (sealing_of k)) c.keys.ensures c.have_sizes.ensures in
    let planned = subst (λ (p : Plan). IsPlanned tree.live c.args.number asked p) c.in-Rename.is plan in
    let renaming = subst (λ (m : Option ℕ). IsRenaming (sealing_of tree.keys) tree.live tree.claims c.args.number c.in-Rename.name m asked) same
    (is_renaming tree.keys tree.live tree.claims c.args.number asked sizes c.in-Rename.name planned) in
    elim c.match-rename.branch [
      | in-Ok w ↦
          rw w.result-is (
          let changed = w.in-Ok.ensures.changed asked renaming in
          subst (λ (d : g.row.D.Denot). IsWork (view_of tree [] entries None) (view_of new [] entries None) (folder_in g.D.Reads d) after source source (change c.args.number asked) c.args.now (Ok replies.Done) buffer buffer) c.journal.ensures.journal
          (changed_reply tree.keys new.keys tree.live new.live tree.claims new.claims entries folder after source source (change c.args.number asked) c.args.now
          None replies.Done buffer (come_undrawn tree.keys new.keys folder after source (change c.args.number asked) w.in-Ok.ensures.keys w.in-Ok.ensures.later)
          refl refl tt (record { form = tt; count = tt; enters = refl; rest = refl }) refl
          (untaken_renamed (sealing_of tree.keys) c.args.number asked c.args.now tree.live new.live tree.claims new.claims folder.log after.log changed)
          (changes_renamed (sealing_of tree.keys) c.args.number asked c.args.now tree.live new.live tree.claims new.claims folder.log after.log changed)))
      | in-Err w ↦
          rw w.result-is (
          subst (λ (d : g.row.D.Denot). IsWork (view_of tree [] entries None) (view_of new [] entries None) (folder_in g.D.Reads d) after source source (change c.args.number asked) c.args.now w.refused.result buffer buffer) c.journal.ensures.journal
          (change_err tree.keys new.keys tree.live new.live tree.claims new.claims entries folder after source source (change c.args.number asked) c.args.now
          None w.in-Err.error w.refused.result buffer w.refused.ensures.refused w.refused.ensures.broken
          (come_undrawn tree.keys new.keys folder after source (change c.args.number asked) w.in-Err.ensures.keys w.in-Err.ensures.later)
          w.in-Err.ensures.unchanged
          (undrawn_cause (change c.args.number asked) (Rose folder.faults after.faults) (Rose source.faults source.faults) w.in-Err.error
          (w.in-Err.ensures.cause asked (name_asked tree.live c.args.number asked c.in-Rename.name planned)))
          (λ refusal may. told_always (disk_in folder.log)
          (λ d. (contents : ℕ → Content) → StandsOn (sealing_of tree.keys) d tree.live tree.claims contents → (path : HostPath) → refusal ≡ refusals.PlaceTaken path → places (live_rows contents tree.live) (change c.args.number asked) ≡ true)
          (λ d contents stands path is. asks_place tree.keys tree.live tree.claims c.args.number asked sizes c.in-Rename.name planned d contents stands))
          (w.in-Err.ensures.refused asked renaming) tt (w.in-Err.ensures.broken asked renaming)))
    ])

pub returns-in-Date-clause-outcome : goal.returns-in-Date-clause-outcome
returns-in-Date-clause-outcome g c =
    rw (← c.self.view_is) (λ buffer asked same plan entries.
    let source = entropy_in g.E.Entropy c.args.entropy.now in
    let folder = folder_in g.D.Reads c.self.inside.back.folder in
    let tree = c.self.inside.tree in
    let new = c.set_mtime.new.tree in
    let sizes = subst (λ (k : KeyPair). SizesAreHeld (sealing_of k)) c.keys.ensures c.have_sizes.ensures in
    let planned = subst (λ (p : Plan). IsPlanned tree.live c.args.number asked p) c.in-Date.is plan in
    let dates = subst (λ (m : Option ℕ). IsDated tree.live new.live c.args.number m) (sym same) c.set_mtime.ensures.dated in
    date_reply tree.keys new.keys tree.live new.live tree.claims new.claims entries folder source c.args.number asked c.args.now
    sizes planned dates c.set_mtime.ensures.claims c.set_mtime.ensures.keys buffer)

pub resize_idle-requires-clause-file : goal.resize_idle-requires-clause-file
resize_idle-requires-clause-file g c =
    subst (λ (p : Plan). CanResize c.args.self.now.tree.live c.args.number p) c.in-Resize.is c.requires.resizable

pub returns-in-Resize-clause-outcome : goal.returns-in-Resize-clause-outcome
returns-in-Resize-clause-outcome g c = λ buffer asked same plan.
    c.resize_idle.ensures.outcome buffer asked same (subst (λ (p : Plan). IsPlanned c.args.self.now.tree.live c.args.number asked p) c.in-Resize.is plan)
