-- What a change of one entry of a directory, that of a name in it, leaves of the others.
use Rattle.std.proofs.Common.{◌≡◌, ◌≢◌, ℕ, true, false, List, ◌∷◌, Some, sym, inl, inr, ◌⊎◌}
use Rattle.std.specs.FinMap.{get}
use Rattle.outside.specs.Disk.{Disk}
use Rattle.clear_tree.specs.Walk.{Path, same_path, Sealing, Kind, Bare, Node, Dir, is_name, look, node_at, IsOwner, ChangedAt}
use Rattle.clear_tree.specs.Places.{entry_at, folders_of, host_entry, host_inner, entry_of, text_dirid}
use Rattle.clear_tree.specs.Marks.{IsShadowed, IsForeign}
use Rattle.clear_tree.proofs.Paths.{path_cases}
use Rattle.tree_deed_laws.specs.Trees.{AreTexts}
use Rattle.tree_deed_laws.proofs.Seeing.{looked, node_kind}
use Rattle.tree_deed_laws.proofs.Exact as exact
use Rattle.tree_deed_laws.proofs.Exact.{SameForeign, IsPlace, TwoEntries, name_there}

-- a child is that of the name, or another
pub child_cases : (n : List ℕ) (p : Path) (l : List ℕ) (q : Path) → ((l ≡ n) × (q ≡ p)) ⊎ (n ∷ p ≢ l ∷ q)
child_cases n p l q = go (path_cases (n ∷ p) (l ∷ q))
  where
    go : ((same_path (n ∷ p) (l ∷ q) ≡ true) × (n ∷ p ≡ l ∷ q)) ⊎ ((same_path (n ∷ p) (l ∷ q) ≡ false) × (n ∷ p ≢ l ∷ q)) → ((l ≡ n) × (q ≡ p)) ⊎ (n ∷ p ≢ l ∷ q)
    go (inl h) = let e : n ∷ p ≡ l ∷ q = h.1 in let a : l ≡ n = cc in let c : q ≡ p = cc in inl (a, c)
    go (inr h) = inr h.1

-- an entry of a directory, that of the name n in it, changed
pub record OneEntry (s : Sealing) (d d' : Disk) (o : List ℕ → Path) (n i : List ℕ) (p : Path) (e : List ℕ) : Type 0 where
  pub texts : AreTexts s
  pub own : IsOwner s (folders_of s d) o
  pub at : node_at s (folders_of s d) o p ≡ Some (Dir i)
  pub named : is_name n (s.open_name i (s.seal i n)) ≡ true
  pub place : IsPlace s d d' (s.folder_of i) (s.seal i n) e
  pub entry : (g u : List ℕ) → u ≢ text_dirid → (g ≡ s.folder_of i → u ≡ e → ⊥) → get d' (host_entry g u) ≡ get d (host_entry g u)
  pub inner : (g u l : List ℕ) → (g ≡ s.folder_of i → u ≡ e → ⊥) → get d' (host_inner g u l) ≡ get d (host_inner g u l)

module _ {s : Sealing} {d d' : Disk} {o : List ℕ → Path} {n i : List ℕ} {p : Path} {e : List ℕ} (one : OneEntry s d d' o n i p e) where
  open one use {texts, own, at, named, place, entry, inner}

  -- it is both of two
  abbrev both : TwoEntries s d d' o n n i p e e
  both = record {
    texts = texts;
    own = own;
    at_p = at;
    named_n = named;
    named_k = named;
    place_n = place;
    place_k = place;
    entry = λ g u nd h1 h2. entry g u nd h1;
    inner = λ g u l h1 h2. inner g u l h1;
  }

  pub changed : ChangedAt (folders_of s d) (folders_of s d') (s.folder_of i) (s.seal i n)
  changed = record { others = λ g u ne. exact.others both g u ne ne }

  module _ (q : Path) (j : List ℕ) (at_q : node_at s (folders_of s d) o q ≡ Some (Dir j)) where
    pub same_foreign : get d' (host_entry (s.folder_of j) text_dirid) ≡ get d (host_entry (s.folder_of j) text_dirid)
        → ((w : Disk) → (w ≡ d) ⊎ (w ≡ d') → (x : Kind) → look s (folders_of s w) i n ≡ Some x → x ≢ Bare → entry_of s w (s.folder_of i) (s.seal i n) ≡ e)
        → ((w : Disk) → (w ≡ d) ⊎ (w ≡ d') → IsForeign s w i e → ⊥) → SameForeign s d d' j
    same_foreign copies at_n clean =
        exact.same_foreign both q j at_q copies at_n at_n (λ w which. (clean w which, clean w which))

    -- another child of the directory
    module _ (l : List ℕ) (y : Node) (at_l : node_at s (folders_of s d) o (l ∷ q) ≡ Some y) (other : n ∷ p ≢ l ∷ q) where
      far : l ∷ q ≢ n ∷ p
      far z = other (sym z)

      its : is_name l (s.open_name j (s.seal j l)) ≡ true
      its = name_there s (folders_of s d) o q l j y at_q at_l

      pub entry_at_kept : entry_at s d' (s.folder_of j) (s.seal j l) ≡ entry_at s d (s.folder_of j) (s.seal j l)
      entry_at_kept = exact.entry_at_kept both q j at_q l its far far

      pub same_shadow : (IsShadowed s d j l → IsShadowed s d' j l) × (IsShadowed s d' j l → IsShadowed s d j l)
      same_shadow =
          let nk = node_kind s (folders_of s d) o q j l y at_q at_l in
          let sn = (looked s (folders_of s d) j l nk.0 nk.1).1 in (
            exact.shadow_to both q j at_q l its far far nk.0 sn,
            exact.shadow_from both q j at_q l its far far nk.0 sn,
          )
