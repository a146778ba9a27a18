-- A tree as it was loaded is at rest.
use Rattle.std.proofs.Common.{◌≡◌, ℕ, List, Option, sym, subst}
use Rattle.outside.specs.Calls.{Changes, Told}
use Rattle.outside.specs.Disk.{Disk, IsTree}
use Rattle.outside.specs.Images.{Log, now}
use Rattle.outside.proofs.Told.{told_both, told_new}
use Rattle.vault_keys.specs.Keys.{KeyPair}
use Rattle.chunk_journal.specs.Journal.{IsQuiet}
use Rattle.chunk_journal.specs.Opening.{HasOpened}
use Rattle.clear_tree.specs.Walk.{Sealing}
use Rattle.clear_tree.specs.Kept.{KeptTree, IsKept, TellsRows}
use Rattle.clear_tree.proofs.Keeping.{keeping_tells_rows}
use Rattle.tree_loading.specs.Format.{sealing_of}
use Rattle.live_tree.specs.Held.{HeldTree}
use Rattle.live_tree_laws.specs.Holds.{Holds, AreHeldContents}
use Rattle.live_tree_laws.specs.Loading.{IsLoaded, loaded_tree}
use Rattle.live_tree_laws.proofs.Loading.{loading_holds}
use Rattle.name_places.specs.Claims.{AreClaimsOf}
use Rattle.node_changes.specs.declared.tree.VaultTree.{VaultTree}
use Rattle.node_changes.specs.Changed.{IsAtRest, StandsOn}
use Rattle.tree_loading.specs.declared.load_fault.LoadErr.{LoadErr}
use Rattle.tree_loading.specs.declared.load_fault.LoadErr.TheVariants as loading
use Rattle.vault_store.specs.declared.opening.OpenErr.TheVariants as open_errs
use Rattle.vault_store.specs.Causes.{of_loading}
use Rattle.vault_store.specs.Open.{IsLoadedTree}

-- it is that of its disk
pub loaded_stands : (s : Sealing) (unlocked : ℕ) (kept : KeptTree) (live : HeldTree) (claims : List (List ℕ × ℕ)) (d : Disk) → live ≡ loaded_tree unlocked kept → AreClaimsOf s live claims → IsTree d → IsKept s d kept → (tells : TellsRows s d kept)
    → StandsOn s d live claims tells.contents
loaded_stands s unlocked kept live claims d live_is claimed host is tells =
    let loaded : IsLoaded s d kept unlocked = loading_holds s d kept unlocked is host in
    record {
      tree = loaded.tree;
      is = loaded.is;
      holds = subst (λ (t : HeldTree). Holds s loaded.tree t) (sym live_is) loaded.holds;
      claimed = claimed;
      are = subst (λ (t : HeldTree). AreHeldContents s loaded.tree t tells.contents) (sym live_is) ((loaded.contents tells.contents).0 tells.are);
    }

loaded_on : (s : Sealing) (unlocked : ℕ) (kept : KeptTree) (live : HeldTree) (claims : List (List ℕ × ℕ)) (log : Log) → live ≡ loaded_tree unlocked kept → AreClaimsOf s live claims → IsQuiet log → IsKept s (now log) kept → IsAtRest s live claims log
loaded_on s unlocked kept live claims log live_is claimed quiet is =
    let tells : TellsRows s (now log) kept = keeping_tells_rows s (now log) kept is in
    record { quiet = quiet; contents = tells.contents; stands = loaded_stands s unlocked kept live claims (now log) live_is claimed quiet.steady.tree is tells }

pub loaded_rests : (before log log' : Option Log) (keys : KeyPair) (unlocked threshold : ℕ) (tree : VaultTree) → Changes before log HasOpened → log' ≡ log → IsLoadedTree keys unlocked threshold log tree
    → Told log' (IsAtRest (sealing_of tree.keys) tree.live tree.claims)
loaded_rests before log log' keys unlocked threshold tree opened same is =
    subst (λ (o : Option Log). Told o (IsAtRest (sealing_of tree.keys) tree.live tree.claims)) (sym same)
    (subst (λ (k : KeyPair). Told log (IsAtRest (sealing_of k) tree.live tree.claims)) (sym is.keys_are)
    (told_both log IsQuiet (λ l. IsKept (sealing_of keys) (now l) is.kept) (IsAtRest (sealing_of keys) tree.live tree.claims)
    (told_new before log HasOpened IsQuiet (λ a b opened. opened.at_rest) opened) is.loaded
    (λ l quiet kept. loaded_on (sealing_of keys) unlocked is.kept tree.live tree.claims l is.live is.claims quiet kept)))

-- an opening has too many nodes only if a load has
pub too_many : (cause : LoadErr) (n : ℕ) → of_loading cause ≡ open_errs.TooMany n → cause ≡ loading.TooMany n
too_many loading.Device n is = absurd cc
too_many (loading.TooMany m) n is = cc
too_many loading.NoRoot n is = absurd cc
too_many loading.Memory n is = absurd cc
