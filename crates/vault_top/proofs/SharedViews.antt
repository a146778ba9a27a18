-- A vault that is only read as a tree that many callers ask.
use Rattle.std.proofs.Common.{◌≡◌, ℕ, ◌≤◌, List, [], ◌∷◌, ◌++◌, append-nil, Option, Some, None, refl, sym, subst, ◌∙◌, arith}
use Rattle.outside.specs.Images.{Log}
use Rattle.outside.specs.Views.{FolderView, EntropyView}
use Rattle.outside.proofs.Told.{unchanged}
use Rattle.vault_keys.specs.Keys.{KeyPair}
use Rattle.tree_model.specs.Rows.{Rows}
use Rattle.tree_model.specs.Asked.{Asked}
use Rattle.tree_model.specs.History.{Made, Entry, Origin, entry_of, tally_of}
use Rattle.node_changes.specs.Placed.{IfDrawn, IsIdentifierOf}
use Rattle.node_changes.specs.declared.tree.VaultTree.{VaultTree}
use Rattle.shared_tree.specs.Trees.{AddsEntry, IsMadeOf}
use Rattle.store_laws.specs.Turns.{Draws, draws_for}
use Rattle.vault_store.specs.ReadOnly.{AddsReading, IsMadeReading, IsOnlyRead, IsReadOnlyOf, ReadOnlyVault}
use Rattle.vault_top.specs.ReadOnly.{IsSharedView}
use Rattle.vault_top.proofs.Opened.{read_on}

-- nothing was drawn for it
undrawn : (made : Made) → made.drawn ≡ None → (given : Option (List ℕ)) → draws_for given given made
undrawn made none given = unchanged given given (Draws made) refl (λ bytes. record {
  more = [];
  on = sym (append-nil bytes);
  identifier = subst (λ (o : Option (List ℕ)). IfDrawn o (λ identifier. IsIdentifierOf identifier bytes bytes)) (sym none) tt;
  unspent = λ is may. refl;
})

made_so : (asked : Asked) (before after : FolderView) (source : EntropyView) (made : Made) → IsMadeReading asked before after source made → IsMadeOf draws_for asked source source made
made_so asked before after source made is = record {
  same = is.same;
  source = record {
    low = (let e = is.entropy.0 in omega arith);
    high = (let e = is.entropy.1 in omega arith);
    drawn = undrawn made is.undrawn source.drawn;
  };
}

-- an entry more of what was only read is one of the vault behind the lock
pub adds_entry : {D : Type 0} (view : D → FolderView) (since : FolderView → KeyPair → Rows → Type 0) (old new : ReadOnlyVault D) (asked : Asked) (source : EntropyView) → new.tree ≡ old.tree
    → IsOnlyRead (view old.folder) (view new.folder) → AddsReading old.tree (view old.folder) (view new.folder) asked
    → AddsEntry (λ vault rows origin history. IsSharedView view since vault rows origin history) draws_for old new asked source source
adds_entry view since old new asked source same read adds rows origin history caller right drew =
    let added = adds source rows origin history caller right.stands drew in (
      added.0,
      made_so asked (view old.folder) (view new.folder) source added.0 added.1,
      record {
        start = right.start;
        begins = subst (λ (tree : VaultTree). since right.start tree.keys rows) (sym same) right.begins;
        stands = subst (λ (tree : VaultTree). IsReadOnlyOf tree (view new.folder) rows origin (history ++ entry_of caller added.0 ∷ [])) (sym same) added.2;
        read = read_on right.read read;
      },
    )
