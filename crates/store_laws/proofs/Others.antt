-- What isn't the vault's own stays as it was found.
use Rattle.std.proofs.Common.{◌≡◌, List, [], ◌∷◌, Option, Some, None, refl, sym, subst, ◌∙◌}
use Rattle.std.specs.List.{AllByRecursion}
use Rattle.outside.specs.Disk.{Disk, IsTree, Path as HostPath}
use Rattle.outside.specs.Images.{Log, now}
use Rattle.deeds.specs.Deeds.{PlainDeed, DoesAll, NotIn, Unnamed, in_order, names}
use Rattle.deeds.proofs.Again.{stays}
use Rattle.deeds.proofs.Phases.{unnamed_ordered}
use Rattle.chunk_journal.specs.Journal.{IsAlike}
use Rattle.chunk_journal.specs.Opening.{HasOpened}
use Rattle.chunk_journal.proofs.Found.{recovered_once}
use Rattle.chunk_journal.proofs.Gate.{recovers_applied}
use Rattle.vault_keys.specs.Keys.{KeyPair}
use Rattle.tree_loading.specs.Format.{sealing_of}
use Rattle.live_tree_laws.specs.Strays.{KeepsStrays}
use Rattle.live_tree_laws.proofs.Laws.{kept_beside_journal}
use Rattle.live_tree_laws.proofs.StrayTrees.{keeps_itself, keeps_then}
use Rattle.node_changes.specs.Within.{IsWithin, AreWithin}
use Rattle.store_laws.specs.Store.{KeepsFound, KeepsOthers}
use Rattle.store_laws.specs.Ends.{FoundIsKept}

unnamed : (path : HostPath) (deeds : List PlainDeed) → (IsWithin path → ⊥) → AreWithin deeds → Unnamed path deeds
unnamed path [] apart within = tt
unnamed path (deed ∷ deeds) apart within = (not_in (names deed) within.0, unnamed path deeds apart within.1)
  where
    not_in : (ps : List HostPath) → AllByRecursion IsWithin ps → NotIn path ps
    not_in [] all = tt
    not_in (p ∷ ps) all = ((λ e. apart (subst IsWithin (sym e) all.0)), not_in ps all.1)

-- deeds on the vault's data that spare what belongs to no node leave it so
pub keeps_done : (found : Option Log) (keys : KeyPair) (deeds : List PlainDeed) (old new : Disk) → AreWithin deeds → KeepsStrays (sealing_of keys) old new → DoesAll (in_order deeds) old new
    → KeepsFound found keys old → KeepsFound found keys new
keeps_done None keys deeds old new within spared does keeps = tt
keeps_done (Some log) keys deeds old new within spared does keeps = λ first recovers.
    let kept = keeps first recovers in
    record {
      elsewhere = λ path apart not_journal not_new.
          stays (in_order deeds) old new path does (unnamed_ordered path deeds (unnamed path deeds apart within)) ∙ kept.elsewhere path apart not_journal not_new;
      strays = keeps_then (sealing_of keys) first old new kept.strays spared;
    }

-- the journal's two files don't matter to it
pub keeps_alike : (found : Option Log) (keys : KeyPair) (a b : Disk) → IsTree a → IsTree b → IsAlike a b → KeepsFound found keys a → KeepsFound found keys b
keeps_alike None keys a b host host' same keeps = tt
keeps_alike (Some log) keys a b host host' same keeps = λ first recovers.
    let kept = keeps first recovers in
    record {
      elsewhere = λ path apart not_journal not_new. same path not_journal not_new ∙ kept.elsewhere path apart not_journal not_new;
      strays = keeps_then (sealing_of keys) first a b kept.strays (kept_beside_journal (sealing_of keys) a b host host' same);
    }

-- and so it is once the journal is opened
pub keeps_opened : (keys : KeyPair) (old new : Log) (opened : HasOpened old new) → IsTree opened.disk → KeepsFound (Some old) keys (now new)
keeps_opened keys old new opened host first recovered =
    let same : opened.disk ≡ first = recovered_once (now old) opened.disk first (recovers_applied (now old) opened.disk opened.recovers) recovered in
    subst (λ (d : Disk). KeepsOthers keys d (now new)) same (record {
      elsewhere = λ path apart not_journal not_new. opened.alike path not_journal not_new;
      strays = kept_beside_journal (sealing_of keys) opened.disk (now new) host opened.at_rest.steady.tree opened.alike;
    })

-- what was found is so itself
pub found_is_kept : FoundIsKept
found_is_kept keys log found recovered first again =
    subst (λ (d : Disk). KeepsOthers keys d found) (recovered_once (now log) found first recovered again) (record {
      elsewhere = λ path apart not_journal not_new. refl;
      strays = keeps_itself (sealing_of keys) found;
    })
