-- Marks stay exact: of what a change doesn't touch.
use Rattle.std.proofs.Common.{◌≡◌, ◌≢◌, ◌↔◌, ℕ, Bool, true, false, cond, List, ◌∷◌, Option, Some, None, IsTrue, refl, sym, ap, ap₂, ◌∙◌, subst, inl, inr, ◌⊎◌, true≢false}
use Rattle.std.specs.FinMap.{get}
use Rattle.outside.specs.Disk.{Disk, Node as Thing, file as Bytes}
use Rattle.clear_tree.specs.Walk.{Path, same_path, Sealing, Folders, Kind, Bare, Node, File, Link, Dir, Bad, is_name, look, node, below, node_at, claimed, IsOwner, NamedOnce}
use Rattle.clear_tree.specs.Places.{folders_of, host_entry, host_inner, entry_at, entry_of, entry_where, seen_at, short_at, long_at, folder_at, either_kind, long_kind, bytes_of, known, text_dir, text_dirid, text_symlink, text_name}
use Rattle.clear_tree.specs.Marks.{IsShadowed, IsShadowedIn, HasForeign, NamedTwice, IsNodeEntry, IsForeign, Foreign, known_at}
use Rattle.clear_tree.proofs.Owner.{child_at, one_dir, entry_apart}
use Rattle.clear_tree.proofs.Paths.{path_cases}
use Rattle.tree_deed_laws.specs.Trees.{AreTexts}
use Rattle.tree_deed_laws.proofs.Seeing.{text_of, entry_same, entry_none, text_cases, seen_same, long_same, not_shown, HoldsOnly, entry_cases, long_shown, looked, look_seen}

-- ---- marks of one thing for another

pub through : (A B C : Type 0) → A ↔ B → B ↔ C → A ↔ C
through A B C f g = ((λ x. g.0 (f.0 x)), (λ y. f.1 (g.1 y)))

pub neither : (A B C : Type 0) → A ↔ B → (B → ⊥) → (C → ⊥) → A ↔ C
neither A B C f no_b no_c = ((λ x. absurd (no_b (f.0 x))), (λ y. absurd (no_c y)))

-- what has a mark that is false isn't so
pub unset : (b : Bool) (P : Type 0) → IsTrue b ↔ P → b ≡ false → P → ⊥
unset b P h e p = let t : b ≡ true = h.1 p in true≢false (sym t ∙ e)

-- foreign entries of a node's folder, and its own mark, if they are the same of each directory's
pub has_foreign : (s : Sealing) (d d' : Disk) (x x' : Option Node) → x' ≡ x
    → ((j : List ℕ) → x ≡ Some (Dir j) → (Foreign s d j → Foreign s d' j) × (Foreign s d' j → Foreign s d j)) → HasForeign s d x ↔ HasForeign s d' x'
has_foreign s d d' x x' e same = subst (λ (z : Option Node). HasForeign s d x ↔ HasForeign s d' z) (sym e) (go x same)
  where
    go : (w : Option Node) → ((j : List ℕ) → w ≡ Some (Dir j) → (Foreign s d j → Foreign s d' j) × (Foreign s d' j → Foreign s d j))
        → HasForeign s d w ↔ HasForeign s d' w
    go None at = ((λ h. h), (λ h. h))
    go (Some (Dir j)) at = at j refl
    go (Some (File b)) at = ((λ h. h), (λ h. h))
    go (Some (Link b)) at = ((λ h. h), (λ h. h))
    go (Some (Bad t)) at = ((λ h. h), (λ h. h))

pub is_shadowed_in : (s : Sealing) (d d' : Disk) (a a' c c' : Option Node) (l : List ℕ) → c' ≡ c → ((y : Node) → c ≡ Some y → a' ≡ a)
    → ((j : List ℕ) (y : Node) → a ≡ Some (Dir j) → c ≡ Some y → (IsShadowed s d j l → IsShadowed s d' j l) × (IsShadowed s d' j l → IsShadowed s d j l))
    → IsShadowedIn s d a l c ↔ IsShadowedIn s d' a' l c'
is_shadowed_in s d d' a a' c c' l e parents same = subst (λ (z : Option Node). IsShadowedIn s d a l c ↔ IsShadowedIn s d' a' l z) (sym e) (go c parents same)
  where
    pick : (y : Node) (w : Option Node) → ((j : List ℕ) → w ≡ Some (Dir j) → (IsShadowed s d j l → IsShadowed s d' j l) × (IsShadowed s d' j l → IsShadowed s d j l))
        → IsShadowedIn s d w l (Some y) ↔ IsShadowedIn s d' w l (Some y)
    pick y None at = ((λ h. h), (λ h. h))
    pick y (Some (Dir j)) at = at j refl
    pick y (Some (File b)) at = ((λ h. h), (λ h. h))
    pick y (Some (Link b)) at = ((λ h. h), (λ h. h))
    pick y (Some (Bad t)) at = ((λ h. h), (λ h. h))

    go : (w : Option Node) → ((y : Node) → w ≡ Some y → a' ≡ a)
        → ((j : List ℕ) (y : Node) → a ≡ Some (Dir j) → w ≡ Some y → (IsShadowed s d j l → IsShadowed s d' j l) × (IsShadowed s d' j l → IsShadowed s d j l))
        → IsShadowedIn s d a l w ↔ IsShadowedIn s d' a' l w
    go None ps at = ((λ h. h), (λ h. h))
    go (Some y) ps at = subst (λ (z : Option Node). IsShadowedIn s d a l (Some y) ↔ IsShadowedIn s d' z l (Some y)) (sym (ps y refl)) (pick y a (λ j h. at j y h refl))

-- ---- foreign entries of one directory

abbrev pub SameForeign : Sealing → Disk → Disk → List ℕ → Type 0
SameForeign s d d' i = (u : List ℕ) → (IsForeign s d i u → IsForeign s d' i u) × (IsForeign s d' i u → IsForeign s d i u)

pub foreign_to : (s : Sealing) (d d' : Disk) (i : List ℕ) → SameForeign s d d' i → Foreign s d i → Foreign s d' i
foreign_to s d d' i same f = (f.0, (same f.0).0 f.1)

pub foreign_from : (s : Sealing) (d d' : Disk) (i : List ℕ) → SameForeign s d d' i → Foreign s d' i → Foreign s d i
foreign_from s d d' i same f = (f.0, (same f.0).1 f.1)

-- the entry of a text before and after: its short place, or its long one, which holds no other text's name
abbrev pub IsPlace : Sealing → Disk → Disk → List ℕ → List ℕ → List ℕ → Type 0
IsPlace s d d' F t e = (e ≡ t) ⊎ ((e ≡ s.long_of t) × HoldsOnly t (get d (host_inner F e text_name)) × HoldsOnly t (get d' (host_inner F e text_name)))

-- ---- what a change of two entries of one folder, those of the names n and k of the directory at p, leaves of the marks of the others
pub record TwoEntries (s : Sealing) (d d' : Disk) (o : List ℕ → Path) (n k i : List ℕ) (p : Path) (e e' : List ℕ) : Type 0 where
  pub texts : AreTexts s
  pub own : IsOwner s (folders_of s d) o
  pub at_p : node_at s (folders_of s d) o p ≡ Some (Dir i)
  pub named_n : is_name n (s.open_name i (s.seal i n)) ≡ true
  pub named_k : is_name k (s.open_name i (s.seal i k)) ≡ true
  pub place_n : IsPlace s d d' (s.folder_of i) (s.seal i n) e
  pub place_k : IsPlace s d d' (s.folder_of i) (s.seal i k) e'
  pub entry : (g u : List ℕ) → u ≢ text_dirid → (g ≡ s.folder_of i → u ≡ e → ⊥) → (g ≡ s.folder_of i → u ≡ e' → ⊥) → get d' (host_entry g u) ≡ get d (host_entry g u)
  pub inner : (g u l : List ℕ) → (g ≡ s.folder_of i → u ≡ e → ⊥) → (g ≡ s.folder_of i → u ≡ e' → ⊥) → get d' (host_inner g u l) ≡ get d (host_inner g u l)

module _ {s : Sealing} {d d' : Disk} {o : List ℕ → Path} {n k i : List ℕ} {p : Path} {e e' : List ℕ} (two : TwoEntries s d d' o n k i p e e') where
  open two use {texts, own, at_p, named_n, named_k, place_n, place_k, entry, inner}

  abbrev F : List ℕ
  F = s.folder_of i

  abbrev v : Folders
  v = folders_of s d

  abbrev v' : Folders
  v' = folders_of s d'

  text_n : s.is_text (s.seal i n) ≡ true
  text_n = text_of s texts i n named_n

  text_k : s.is_text (s.seal i k) ≡ true
  text_k = text_of s texts i k named_k

  -- another text is at neither entry
  text_apart : (t a g u : List ℕ) → IsPlace s d d' F t a → s.is_text u ≡ true → (g ≡ F → u ≡ t → ⊥) → g ≡ F → u ≡ a → ⊥
  text_apart t a g u (inl x) text h eg eu = h eg (eu ∙ x)
  text_apart t a g u (inr x) text h eg eu = true≢false (sym text ∙ ap s.is_text (eu ∙ x.0) ∙ texts.long t)

  no_dirid : (u : List ℕ) → s.is_text u ≡ true → u ≢ text_dirid
  no_dirid u text h = true≢false (sym text ∙ ap s.is_text h ∙ texts.copy)

  -- another text's long entry is this one, and shows it nothing; or it is apart
  long_place : (t a u : List ℕ) → s.is_text t ≡ true → IsPlace s d d' F t a → u ≢ t → s.long_of u ≡ a → (HoldsOnly t (get d (host_inner F (s.long_of u) text_name))) × (HoldsOnly t (get d' (host_inner F (s.long_of u) text_name)))
  long_place t a u text (inl x) ne h = absurd (true≢false (sym text ∙ ap s.is_text (sym (h ∙ x)) ∙ texts.long u))
  long_place t a u text (inr x) ne h =
      (subst (λ (z : List ℕ). HoldsOnly t (get d (host_inner F z text_name))) (sym h) x.1, subst (λ (z : List ℕ). HoldsOnly t (get d' (host_inner F z text_name))) (sym h) x.2)

  long_kept : (g u : List ℕ) → s.is_text u ≡ true → (g ≡ F → u ≡ s.seal i n → ⊥) → (g ≡ F → u ≡ s.seal i k → ⊥) → long_at d' g (s.long_of u) u ≡ long_at d g (s.long_of u) u
  long_kept g u text h1 h2 = go (text_cases g F) (text_cases (s.long_of u) e) (text_cases (s.long_of u) e')
    where
      here : (t a : List ℕ) → s.is_text t ≡ true → IsPlace s d d' F t a → g ≡ F → u ≢ t → s.long_of u ≡ a → long_at d' g (s.long_of u) u ≡ long_at d g (s.long_of u) u
      here t a tt pl eg ne h =
          let holds = long_place t a u tt pl ne h in
          subst (λ (z : List ℕ). long_at d' z (s.long_of u) u ≡ long_at d z (s.long_of u) u) (sym eg)
          (not_shown u t _ _ holds.1 ne ∙ sym (not_shown u t _ _ holds.0 ne))

      go : (g ≡ F) ⊎ (g ≢ F) → (s.long_of u ≡ e) ⊎ (s.long_of u ≢ e) → (s.long_of u ≡ e') ⊎ (s.long_of u ≢ e') → long_at d' g (s.long_of u) u ≡ long_at d g (s.long_of u) u
      go (inr far) a b = long_same d d' g (s.long_of u) u (λ l. inner g (s.long_of u) l (λ x y. far x) (λ x y. far x))
      go (inl eg) (inl a) b = here (s.seal i n) e (text_n) place_n eg (h1 eg) a
      go (inl eg) (inr a) (inl b) = here (s.seal i k) e' (text_k) place_k eg (h2 eg) b
      go (inl eg) (inr a) (inr b) = long_same d d' g (s.long_of u) u (λ l. inner g (s.long_of u) l (λ x y. a y) (λ x y. b y))

  pub others : (g u : List ℕ) → (g ≡ F → u ≡ s.seal i n → ⊥) → (g ≡ F → u ≡ s.seal i k → ⊥) → v'.seen g u ≡ v.seen g u
  others g u h1 h2 = seen_same s d d' g u (λ text.
      let a = text_apart (s.seal i n) e g u place_n text h1 in
      let b = text_apart (s.seal i k) e' g u place_k text h2 in
      (entry g u (no_dirid u text) a b, (λ l. inner g u l a b), long_kept g u text h1 h2))

  -- ---- a directory at q, and a name in it that is neither of the two
  module _ (q : Path) (j : List ℕ) (at_q : node_at s v o q ≡ Some (Dir j)) where
    module _ (m : List ℕ) (named : is_name m (s.open_name j (s.seal j m)) ≡ true) (not_n : m ∷ q ≢ n ∷ p) (not_k : m ∷ q ≢ k ∷ p) where
      text_m : s.is_text (s.seal j m) ≡ true
      text_m = text_of s texts j m named

      apart_n : s.folder_of j ≡ F → s.seal j m ≡ s.seal i n → ⊥
      apart_n = entry_apart s v o own q p m n j i named_n at_q at_p not_n named

      apart_k : s.folder_of j ≡ F → s.seal j m ≡ s.seal i k → ⊥
      apart_k = entry_apart s v o own q p m k j i named_k at_q at_p not_k named

      pub seen_kept : v'.seen (s.folder_of j) (s.seal j m) ≡ v.seen (s.folder_of j) (s.seal j m)
      seen_kept = others (s.folder_of j) (s.seal j m) apart_n apart_k

      pub entry_kept : get d' (host_entry (s.folder_of j) (s.seal j m)) ≡ get d (host_entry (s.folder_of j) (s.seal j m))
      entry_kept = entry (s.folder_of j) (s.seal j m) (no_dirid _ (text_m))
          (text_apart (s.seal i n) e (s.folder_of j) (s.seal j m) place_n (text_m) apart_n)
          (text_apart (s.seal i k) e' (s.folder_of j) (s.seal j m) place_k (text_m) apart_k)

      pub entry_at_kept : entry_at s d' (s.folder_of j) (s.seal j m) ≡ entry_at s d (s.folder_of j) (s.seal j m)
      entry_at_kept = entry_same s d d' (s.folder_of j) (s.seal j m) entry_kept

      entry_of_kept : entry_of s d' (s.folder_of j) (s.seal j m) ≡ entry_of s d (s.folder_of j) (s.seal j m)
      entry_of_kept = ap (λ (w : Option Thing). entry_where w (s.seal j m) (s.long_of (s.seal j m))) entry_at_kept

      -- its own entry is neither
      own_apart : (t a : List ℕ) → s.is_text t ≡ true → IsPlace s d d' F t a → (s.folder_of j ≡ F → s.seal j m ≡ t → ⊥) → (kk : Kind) → v.seen (s.folder_of j) (s.seal j m) ≡ Some kk →
          s.folder_of j ≡ F → entry_of s d (s.folder_of j) (s.seal j m) ≡ a → ⊥
      own_apart t a tt pl far kk seen eg h = go (entry_cases s d (s.folder_of j) (s.seal j m))
        where
          U : List ℕ
          U = s.seal j m

          go : ((entry_at s d (s.folder_of j) U ≡ None) × (entry_of s d (s.folder_of j) U ≡ s.long_of U)) ⊎ ((x : Thing) × (entry_at s d (s.folder_of j) U ≡ Some x) × (entry_of s d (s.folder_of j) U ≡ U)) → ⊥
          go (inr x) = text_apart t a (s.folder_of j) U pl (text_m) far eg (sym x.2 ∙ h)
          go (inl x) =
              let holds = long_place t a U tt pl (far eg) (sym x.1 ∙ h) in
              let name = (long_shown s d (s.folder_of j) U kk (text_m) seen x.0).0 in
              far eg (holds.0 U (ap (λ (z : List ℕ). bytes_of (get d (host_inner z (s.long_of U) text_name))) (sym eg) ∙ name))

      inner_kept : (kk : Kind) → v.seen (s.folder_of j) (s.seal j m) ≡ Some kk → (l : List ℕ) →
          get d' (host_inner (s.folder_of j) (entry_of s d (s.folder_of j) (s.seal j m)) l) ≡ get d (host_inner (s.folder_of j) (entry_of s d (s.folder_of j) (s.seal j m)) l)
      inner_kept kk seen l = inner (s.folder_of j) (entry_of s d (s.folder_of j) (s.seal j m)) l
          (own_apart (s.seal i n) e (text_n) place_n apart_n kk seen) (own_apart (s.seal i k) e' (text_k) place_k apart_k kk seen)

      -- what its long place holds of its own text
      twin_kept : (a b : Disk) → ((g u l : List ℕ) → (g ≡ F → u ≡ e → ⊥) → (g ≡ F → u ≡ e' → ⊥) → get b (host_inner g u l) ≡ get a (host_inner g u l)) →
          ((t c : List ℕ) → s.is_text t ≡ true → IsPlace s d d' F t c → s.seal j m ≢ t → s.long_of (s.seal j m) ≡ c → HoldsOnly t (get a (host_inner F (s.long_of (s.seal j m)) text_name))) →
          get a (host_inner (s.folder_of j) (s.long_of (s.seal j m)) text_name) ≡ Some (Bytes (s.seal j m)) →
          get b (host_inner (s.folder_of j) (s.long_of (s.seal j m)) text_name) ≡ Some (Bytes (s.seal j m))
      twin_kept a b same holds its = same (s.folder_of j) (s.long_of (s.seal j m)) text_name (off (s.seal i n) e (text_n) place_n apart_n) (off (s.seal i k) e' (text_k) place_k apart_k) ∙ its
        where
          off : (t c : List ℕ) → s.is_text t ≡ true → IsPlace s d d' F t c → (s.folder_of j ≡ F → s.seal j m ≡ t → ⊥) → s.folder_of j ≡ F → s.long_of (s.seal j m) ≡ c → ⊥
          off t c tt pl far eg h = far eg (holds t c tt pl (far eg) h (s.seal j m) (ap (λ (z : List ℕ). bytes_of (get a (host_inner z (s.long_of (s.seal j m)) text_name))) (sym eg) ∙ ap bytes_of its))

      abbrev E : List ℕ
      E = entry_of s d (s.folder_of j) (s.seal j m)

      abbrev J : List ℕ
      J = s.folder_of j

      module _ (kk : Kind) (seen : v.seen (s.folder_of j) (s.seal j m) ≡ Some kk) where
        known_kept : known_at d' J (entry_of s d' J (s.seal j m)) ≡ known_at d J E
        known_kept = ap (known_at d' J) entry_of_kept ∙ ap₂ (λ (a b : Option Thing). known (bytes_of a) (bytes_of b)) (inner_kept kk seen text_dir) (inner_kept kk seen text_symlink)

        pub shadow_to : IsShadowed s d j m → IsShadowed s d' j m
        shadow_to (inl f) = inl (record {
          entry = f.entry;
          unknown = λ z. f.unknown (z ∙ known_kept);
          no_name = λ h. f.no_name (sym entry_at_kept ∙ h);
          there = λ z. f.there (sym (inner_kept kk seen f.entry) ∙ sym (ap (λ (w : List ℕ). get d' (host_inner J w f.entry)) entry_of_kept) ∙ z);
        })
        shadow_to (inr t) = inr (record {
          short = λ z. t.short (sym entry_at_kept ∙ z);
          long = twin_kept d d' inner (λ t2 c tt pl ne h. (long_place t2 c (s.seal j m) tt pl ne h).0) t.long;
        })

        pub shadow_from : IsShadowed s d' j m → IsShadowed s d j m
        shadow_from (inl f) = inl (record {
          entry = f.entry;
          unknown = λ z. f.unknown (z ∙ sym known_kept);
          no_name = λ h. f.no_name (entry_at_kept ∙ h);
          there = λ z. f.there (ap (λ (w : List ℕ). get d' (host_inner J w f.entry)) entry_of_kept ∙ inner_kept kk seen f.entry ∙ z);
        })
        shadow_from (inr t) = inr (record {
          short = λ z. t.short (entry_at_kept ∙ z);
          long = twin_kept d' d (λ g u l h1 h2. sym (inner g u l h1 h2)) (λ t2 c tt pl ne h. (long_place t2 c (s.seal j m) tt pl ne h).1) t.long;
        })

    -- ---- foreign entries
    module _ (copies : get d' (host_entry (s.folder_of j) text_dirid) ≡ get d (host_entry (s.folder_of j) text_dirid))
        (at_n : (w : Disk) → (w ≡ d) ⊎ (w ≡ d') → (x : Kind) → look s (folders_of s w) i n ≡ Some x → x ≢ Bare → entry_of s w F (s.seal i n) ≡ e)
        (at_k : (w : Disk) → (w ≡ d) ⊎ (w ≡ d') → (x : Kind) → look s (folders_of s w) i k ≡ Some x → x ≢ Bare → entry_of s w F (s.seal i k) ≡ e')
        (clean : (w : Disk) → (w ≡ d) ⊎ (w ≡ d') → (IsForeign s w i e → ⊥) × (IsForeign s w i e' → ⊥)) where
      shift : (a b : Disk) → (a ≡ d) ⊎ (a ≡ d') →
          ((m : List ℕ) → is_name m (s.open_name j (s.seal j m)) ≡ true → m ∷ q ≢ n ∷ p → m ∷ q ≢ k ∷ p →
          ((folders_of s b).seen (s.folder_of j) (s.seal j m) ≡ (folders_of s a).seen (s.folder_of j) (s.seal j m)) × (entry_of s b (s.folder_of j) (s.seal j m) ≡ entry_of s a (s.folder_of j) (s.seal j m))) →
          (u : List ℕ) → (s.folder_of j ≡ F → u ≡ e → ⊥) → (s.folder_of j ≡ F → u ≡ e' → ⊥) → IsNodeEntry s a j u → IsNodeEntry s b j u
      shift a b which same u off off' x = go (path_cases (x.name ∷ q) (n ∷ p)) (path_cases (x.name ∷ q) (k ∷ p))
        where
          named : is_name x.name (s.open_name j (s.seal j x.name)) ≡ true
          named = (looked s (folders_of s a) j x.name x.kind x.shown).0

          it : (l c : List ℕ) → x.name ∷ q ≡ l ∷ p → ((y : Kind) → look s (folders_of s a) i l ≡ Some y → y ≢ Bare → entry_of s a F (s.seal i l) ≡ c) → (s.folder_of j ≡ F → u ≡ c → ⊥) → ⊥
          it l c h at far =
              let eq : q ≡ p = cc in
              let em : x.name ≡ l = cc in
              let w : ◌≡◌ {A = Option Node} (Some (Dir j)) (Some (Dir i)) = sym at_q ∙ ap (λ (z : Path). node_at s v o z) eq ∙ at_p in
              let ej : j ≡ i = cc in
              let sh : look s (folders_of s a) i l ≡ Some x.kind = ap₂ (λ (y z : List ℕ). look s (folders_of s a) y z) (sym ej) (sym em) ∙ x.shown in
              far (ap s.folder_of ej) (x.place ∙ ap₂ (λ (y z : List ℕ). entry_of s a (s.folder_of y) (s.seal y z)) ej em ∙ at x.kind sh x.known)

          go : ((same_path (x.name ∷ q) (n ∷ p) ≡ true) × (x.name ∷ q ≡ n ∷ p)) ⊎ ((same_path (x.name ∷ q) (n ∷ p) ≡ false) × (x.name ∷ q ≢ n ∷ p)) →
              ((same_path (x.name ∷ q) (k ∷ p) ≡ true) × (x.name ∷ q ≡ k ∷ p)) ⊎ ((same_path (x.name ∷ q) (k ∷ p) ≡ false) × (x.name ∷ q ≢ k ∷ p)) → IsNodeEntry s b j u
          go (inl h) w = absurd (it n e h.1 (at_n a which) off)
          go (inr h) (inl w) = absurd (it k e' w.1 (at_k a which) off')
          go (inr h) (inr w) =
              let z = same x.name named h.1 w.1 in
              record {
                name = x.name;
                kind = x.kind;
                shown = look_seen s (folders_of s b) j x.name named ∙ z.0 ∙ sym (look_seen s (folders_of s a) j x.name named) ∙ x.shown;
                known = x.known;
                place = x.place ∙ sym z.1;
              }

      forth : (m : List ℕ) → is_name m (s.open_name j (s.seal j m)) ≡ true → m ∷ q ≢ n ∷ p → m ∷ q ≢ k ∷ p →
          (v'.seen (s.folder_of j) (s.seal j m) ≡ v.seen (s.folder_of j) (s.seal j m)) × (entry_of s d' (s.folder_of j) (s.seal j m) ≡ entry_of s d (s.folder_of j) (s.seal j m))
      forth m nm h w = (seen_kept m nm h w, entry_of_kept m nm h w)

      pub same_foreign : SameForeign s d d' j
      same_foreign u = go (text_cases (s.folder_of j) F) (text_cases u e) (text_cases u e')
        where
          none : (c : List ℕ) → s.folder_of j ≡ F → u ≡ c → (w : Disk) → (IsForeign s w i c → ⊥) → IsForeign s w j u → ⊥
          none c eg eu w not f =
              let ej : j ≡ i = (one_dir s v o own q p j i at_q at_p eg).1 in
              not (subst (λ (z : List ℕ). IsForeign s w i z) eu (subst (λ (z : List ℕ). IsForeign s w z u) ej f))

          both : (c : List ℕ) → s.folder_of j ≡ F → u ≡ c → (IsForeign s d i c → ⊥) → (IsForeign s d' i c → ⊥) → (IsForeign s d j u → IsForeign s d' j u) × (IsForeign s d' j u → IsForeign s d j u)
          both c eg eu x y = ((λ f. absurd (none c eg eu d x f)), (λ f. absurd (none c eg eu d' y f)))

          off : (s.folder_of j ≡ F → u ≡ e → ⊥) → (s.folder_of j ≡ F → u ≡ e' → ⊥) → (IsForeign s d j u → IsForeign s d' j u) × (IsForeign s d' j u → IsForeign s d j u)
          off h1 h2 = (
            (λ f. record {
              there = λ z. f.there (sym same ∙ z);
              no_copy = λ z w. f.no_copy z (w.0, sym copies ∙ w.1);
              no_node = λ x. f.no_node (shift d' d (inr refl) (λ m nm a b. let y = forth m nm a b in (sym y.0, sym y.1)) u h1 h2 x);
            }),
            (λ f. record {
              there = λ z. f.there (same ∙ z);
              no_copy = λ z w. f.no_copy z (w.0, copies ∙ w.1);
              no_node = λ x. f.no_node (shift d d' (inl refl) forth u h1 h2 x);
            }),
          )
            where
              same : get d' (host_entry (s.folder_of j) u) ≡ get d (host_entry (s.folder_of j) u)
              same = which (text_cases u text_dirid)
                where
                  which : (u ≡ text_dirid) ⊎ (u ≢ text_dirid) → get d' (host_entry (s.folder_of j) u) ≡ get d (host_entry (s.folder_of j) u)
                  which (inl z) = ap (λ (y : List ℕ). get d' (host_entry (s.folder_of j) y)) z ∙ copies ∙ sym (ap (λ (y : List ℕ). get d (host_entry (s.folder_of j) y)) z)
                  which (inr z) = entry (s.folder_of j) u z h1 h2

          go : (s.folder_of j ≡ F) ⊎ (s.folder_of j ≢ F) → (u ≡ e) ⊎ (u ≢ e) → (u ≡ e') ⊎ (u ≢ e') → (IsForeign s d j u → IsForeign s d' j u) × (IsForeign s d' j u → IsForeign s d j u)
          go (inr far) a b = off (λ x y. far x) (λ x y. far x)
          go (inl eg) (inl a) b = both e eg a (clean d (inl refl)).0 (clean d' (inr refl)).0
          go (inl eg) (inr a) (inl b) = both e' eg b (clean d (inl refl)).1 (clean d' (inr refl)).1
          go (inl eg) (inr a) (inr b) = off (λ x y. a y) (λ x y. b y)

-- ---- identifiers named twice

pub same_twice : (s : Sealing) (v v' : Folders) (o o' : List ℕ → Path) (w : Path → Path) → ((q : Path) → w (w q) ≡ q) →
    ((q : Path) → claimed s (node_at s v' o' q) ≡ claimed s (node_at s v o (w q))) → NamedTwice s v' o' → NamedTwice s v o
same_twice s v v' o o' w back same t = record {
  one = w t.one;
  other = w t.other;
  folder = t.folder;
  two = λ e. t.two (sym (back t.one) ∙ ap w e ∙ back t.other);
  first = sym (same t.one) ∙ t.first;
  second = sym (same t.other) ∙ t.second;
}

-- no identifier is named twice: the paths decide
pub named_once : (s : Sealing) (v : Folders) (o : List ℕ → Path) → (NamedTwice s v o → ⊥) → NamedOnce s v o
named_once s v o non p q f a b = go (path_cases p q)
  where
    go : ((same_path p q ≡ true) × (p ≡ q)) ⊎ ((same_path p q ≡ false) × (p ≢ q)) → p ≡ q
    go (inl x) = x.1
    go (inr x) = absurd (non (record { one = p; other = q; folder = f; two = x.1; first = a; second = b }))

pub never_twice : (s : Sealing) (v : Folders) (o : List ℕ → Path) → NamedOnce s v o → NamedTwice s v o → ⊥
never_twice s v o once t = t.two (once t.one t.other t.folder t.first t.second)

-- a node's name opens to itself
pub name_there : (s : Sealing) (v : Folders) (o : List ℕ → Path) (q : Path) (l j : List ℕ) (y : Node) → node_at s v o q ≡ Some (Dir j) → node_at s v o (l ∷ q) ≡ Some y →
    is_name l (s.open_name j (s.seal j l)) ≡ true
name_there s v o q l j y hq hl = go (is_name l (s.open_name j (s.seal j l))) refl (sym (child_at s v o l j q hq) ∙ hl)
  where
    go : (b : Bool) → is_name l (s.open_name j (s.seal j l)) ≡ b → node s v o (l ∷ q) (cond b (v.seen (s.folder_of j) (s.seal j l)) None) ≡ Some y → is_name l (s.open_name j (s.seal j l)) ≡ true
    go true e h = e
    go false e h = absurd (cc)

-- nothing is seen in an empty folder
pub never_seen : (s : Sealing) (d : Disk) (h u : List ℕ) → get d (host_entry h u) ≡ None → get d (host_inner h (s.long_of u) text_name) ≡ None → seen_at s d h u ≡ None
never_seen s d h u none long = go (s.is_text u)
  where
    go : (b : Bool) → cond b (either_kind (entry_at s d h u) (short_at d h u) (long_at d h (s.long_of u) u)) None ≡ None
    go true = ap₂ (λ (w x : Option Thing). either_kind w (short_at d h u) (long_kind u (bytes_of x) (folder_at d h (s.long_of u)))) (entry_none s d h u none) long
    go false = refl

-- what has a child is there, a directory
pub parent_there : (s : Sealing) (v : Folders) (o : List ℕ → Path) (q : Path) (l : List ℕ) (y : Node) → node_at s v o (l ∷ q) ≡ Some y → (j : List ℕ) × (node_at s v o q ≡ Some (Dir j))
unfolding node_at
parent_there s v o q l y h = go (node_at s v o q) refl h
  where
    go : (w : Option Node) → node_at s v o q ≡ w → below s v o (l ∷ q) l w ≡ Some y → (j : List ℕ) × (node_at s v o q ≡ Some (Dir j))
    go None e h2 = absurd (cc)
    go (Some (Dir j)) e h2 = (j, e)
    go (Some (File b)) e h2 = absurd (cc)
    go (Some (Link b)) e h2 = absurd (cc)
    go (Some (Bad t)) e h2 = absurd (cc)
