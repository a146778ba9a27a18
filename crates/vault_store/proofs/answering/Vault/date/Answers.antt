use Rattle.std.proofs.Common.{Option, None, ℕ, List, sym, subst}
use Rattle.outside.specs.Calls.{Told}
use Rattle.outside.specs.Views.{folder_in}
use Rattle.vault_keys.specs.Keys.{KeyPair}
use Rattle.tree_loading.specs.Format.{sealing_of}
use Rattle.tree_model.specs.Asked.{change, done}
use Rattle.tree_model.specs.declared.reply.Reply.TheVariants as replies
use Rattle.file_changes.specs.Waiting.{IsAtRestOver}
use Rattle.vault_store.specs.Dated.{IsDated}
use Rattle.vault_store.specs.Open.{IsResting, VaultView, view_of}
use Rattle.vault_store.specs.Sizes.{SizesAreHeld}
use Rattle.vault_store.proofs.Dates.{date_loose, date_still, dated_rests}
use Rattle.vault_store.proofs.Rests.{rest_waits}
use Rattle.vault_store.proofs.Waiting.{over, still_outcome}
use Rattle.vault_store.proofs.answering.Vault.date.Goals as goal

pub returns-clause-outcome : goal.returns-clause-outcome
returns-clause-outcome g c =
    let rest = subst (λ (v : VaultView g.row.D.Denot). IsResting g.D.Reads v) (sym c.self.view_is) c.requires.rest in
    rw (← c.self.view_is) (λ second source buffer asked same unnamed uncut plan entries.
    let tree = c.self.inside.tree in
    let back = c.self.inside.back in
    let new = c.set_mtime.new.tree in
    let folder = folder_in g.D.Reads back.folder in
    let sizes = subst (λ (k : KeyPair). SizesAreHeld (sealing_of k)) c.keys.ensures c.have_sizes.ensures in
    let dates = subst (λ (m : Option ℕ). IsDated tree.live new.live c.args.number m) (sym same) c.set_mtime.ensures.dated in
    still_outcome (view_of tree back.waiting entries None) (view_of new back.waiting entries None) folder folder source source (change c.args.number asked) second
    (rest_waits (sealing_of tree.keys) tree.live tree.claims back.waiting folder.log rest) replies.Done buffer buffer (date_loose c.args.number asked done unnamed uncut)
    (date_still tree.keys new.keys tree.live new.live tree.claims new.claims entries (over back.waiting folder) source c.args.number asked second
    sizes plan dates c.set_mtime.ensures.claims c.set_mtime.ensures.keys buffer))

pub returns-clause-rest : goal.returns-clause-rest
returns-clause-rest g c =
    let rest = subst (λ (v : VaultView g.row.D.Denot). IsResting g.D.Reads v) (sym c.self.view_is) c.requires.rest in
    let tree = c.self.inside.tree in
    let back = c.self.inside.back in
    let new = c.set_mtime.new.tree in
    let log = g.D.Reads.log back.folder in
    subst (λ (k : KeyPair). Told log (IsAtRestOver (sealing_of k) new.live new.claims back.waiting)) (sym c.set_mtime.ensures.keys)
    (subst (λ (cs : List (List ℕ × ℕ)). Told log (IsAtRestOver (sealing_of tree.keys) new.live cs back.waiting)) (sym c.set_mtime.ensures.claims)
    (dated_rests (sealing_of tree.keys) tree.live new.live tree.claims back.waiting c.args.number c.args.modified log c.set_mtime.ensures.dated rest))
