-- A store that is closed.
use Rattle.std.proofs.Common.{◌≡◌, ℕ, List, [], false, true, Option, Some, None, IsNone, OnOk, Result, Ok, Err, sym, subst}
use Rattle.outside.specs.Views.{FolderView}
use Rattle.deeds.specs.Deeds.{PlainDeed}
use Rattle.node_changes.specs.declared.tree.VaultTree.{VaultTree}
use Rattle.store_laws.specs.Turns.{IsFlushed}
use Rattle.vault_store.specs.Open.{idle_of, view_of}

pub ok_always : {A E : Type 0} (r : Result A E) (P : Type 0) → P → OnOk r P
ok_always (Ok x) P p = p
ok_always (Err e) P p = tt

pub never_ok : {A E : Type 0} (r : Result A E) (e : E) (P : Type 0) → r ≡ Err e → OnOk r P
never_ok (Ok x) e P is = absurd cc
never_ok (Err f) e P is = tt

pub never_runs : (stopped : Option ℕ) (entry : ℕ) → stopped ≡ Some entry → IsNone stopped → ⊥
never_runs None entry is runs = absurd cc
never_runs (Some n) entry is runs = let no : true ≡ false = runs in absurd cc

-- what was committed leaves the same but that nothing waits
pub flushed_view : (tree tree' : VaultTree) (waiting : List PlainDeed) (entries : ℕ) (stopped : Option ℕ) (before after after' : FolderView) → tree' ≡ tree → stopped ≡ None → after' ≡ after
    → IsFlushed (view_of tree waiting entries None) (view_of tree' [] entries None) before after
    → IsFlushed (view_of tree waiting entries stopped) (idle_of (view_of tree waiting entries stopped)) before after'
flushed_view tree tree' waiting entries stopped before after after' same runs moved is =
    subst (λ (o : Option ℕ). IsFlushed (view_of tree waiting entries o) (idle_of (view_of tree waiting entries o)) before after') (sym runs)
    (subst (λ (f : FolderView). IsFlushed (view_of tree waiting entries None) (idle_of (view_of tree waiting entries None)) before f) (sym moved)
    (subst (λ (t : VaultTree). IsFlushed (view_of tree waiting entries None) (view_of t [] entries None) before after) same is))
