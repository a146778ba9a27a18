-- Deeds that lead on from each disk that a tree in memory stands for make the step.
use Rattle.std.proofs.Common.{◌≡◌, ℕ, List, sym, subst}
use Rattle.outside.specs.Disk.{Disk}
use Rattle.deeds.specs.Deeds.{PlainDeed, DoesAll, in_order}
use Rattle.deeds.specs.Repeatable.{IsRepeatable}
use Rattle.deeds.proofs.Doing.{same_run}
use Rattle.tree_model.specs.Rows.{Content, Rows}
use Rattle.tree_model.specs.Asked.{PlainRequest}
use Rattle.tree_model.specs.Step.{step}
use Rattle.clear_tree.specs.Walk.{Sealing}
use Rattle.tree_deed_laws.specs.Trees.{Tree}
use Rattle.tree_deed_laws.specs.Changes.{Leads}
use Rattle.live_tree.specs.Held.{HeldTree, live_rows}
use Rattle.live_tree_laws.specs.Strays.{KeepsStrays}
use Rattle.node_changes.specs.Changed.{StandsOn, MakesStep, ShowsRows}
use Rattle.node_changes.specs.Within.{AreWithin}

-- deeds that lead from a disk to one that shows these rows
pub record LeadsTo (s : Sealing) (rows : Rows) (deeds : List PlainDeed) (d : Disk) (live' : HeldTree) (claims' : List (List ℕ × ℕ)) : Type 0 where
  pub after : Disk
  pub does : DoesAll (in_order deeds) d after
  pub repeatable : IsRepeatable deeds
  pub strays : KeepsStrays s d after
  pub shows : ShowsRows s rows after live' claims'

module _ {s : Sealing} {deeds : List PlainDeed} {d : Disk} {tree : Tree} (leads : Leads s d deeds tree) where
  pub does_in_order : DoesAll (in_order deeds) d leads.after
  does_in_order = subst (λ (ds : List PlainDeed). DoesAll ds d leads.after) (sym leads.ordered) leads.does

  pub leads_to : {rows : Rows} {live' : HeldTree} {claims' : List (List ℕ × ℕ)} → KeepsStrays s d leads.after → ShowsRows s rows leads.after live' claims' → LeadsTo s rows deeds d live' claims'
  leads_to spared shows = record { after = leads.after; does = does_in_order; repeatable = leads.repeatable; strays = spared; shows = shows }

-- the disk after the deeds is one, whatever the contents are
pub makes_step : {s : Sealing} {request : PlainRequest} {second : ℕ} {deeds : List PlainDeed} {d : Disk} {live live' : HeldTree} {claims claims' : List (List ℕ × ℕ)} → AreWithin deeds
    → ((contents : ℕ → Content) → StandsOn s d live claims contents → LeadsTo s (step (live_rows contents live) request second).rows deeds d live' claims')
    → (contents : ℕ → Content) → StandsOn s d live claims contents → MakesStep s request second deeds d live live' claims claims'
makes_step {s = s} {request = request} {second = second} {deeds = deeds} {d = d} {live = live} {live' = live'} {claims' = claims'} within leads contents stands = record {
  after = (leads contents stands).after;
  does = (leads contents stands).does;
  repeatable = (leads contents stands).repeatable;
  within = within;
  strays = (leads contents stands).strays;
  stepped = λ others more.
      let same : (leads others more).after ≡ (leads contents stands).after =
      same_run (in_order deeds) d (leads others more).after (leads contents stands).after (leads others more).does (leads contents stands).does in
      subst (λ (y : Disk). ShowsRows s (step (live_rows others live) request second).rows y live' claims') same (leads others more).shows;
}
