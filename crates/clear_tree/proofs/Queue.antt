-- The walk with a queue gives the nodes, in the walk's order.
use Rattle.std.proofs.Common.{◌≡◌, ◌≢◌, ◌&&◌, not, ℕ, Bool, true, false, cond, List, [], ◌∷◌, ◌++◌, append_assoc, append-nil, Option, Some, None, is_some, unwrap_or, refl, sym, ap, ◌∙◌, subst, inl, inr, ◌⊎◌, ⊎_elim, true≢false}
use Rattle.std.specs.declared.cmp.Ordering.{Ordering}
use Rattle.std.specs.declared.cmp.Ordering.TheVariants.{Less, Equal}
use Rattle.std.specs.Ordering.{nat_cmp, is_gt, ordering_then}
use Rattle.std.specs.Cmp.Lexicographic.{slice_cmp}
use Rattle.std.proofs.lemmas.Slice.Eq.{bytes_eq-Decides}
use Rattle.std.proofs.lemmas.Bool.{cond-true}
use Rattle.clear_tree.specs.Walk.{Path, same_path, walk_cmp, Sealing, Folders, Kind, Plain, Named, Linked, Bare, Node, File, Link, Dir, Bad, look, node, below, node_at, claimed, is_good, IsOwner}
use Rattle.clear_tree.specs.Queue.{Row, claims, first_claim, row_of, kids, In, Ascending, AreEntriesOf, IsWalk, Begun, Turned}
use Rattle.clear_tree.proofs.Lists.{in_left, in_right, in_cases, ascending_append, ascending_split}
use Rattle.clear_tree.proofs.Paths.{same_path-from, same_path-apart, walk_itself, walk_not_after}
use Rattle.clear_tree.proofs.Owner.{child_at}

abbrev pub row_cmp : Row → Row → Ordering
row_cmp a b = walk_cmp a.0 b.0

abbrev pub name_cmp : List ℕ × Kind → List ℕ × Kind → Ordering
name_cmp a b = slice_cmp nat_cmp a.0 b.0

pub claims-true : (c : Option (List ℕ)) (f : List ℕ) → claims c f ≡ true → c ≡ Some f
claims-true None f h = absurd (true≢false (sym h))
claims-true (Some g) f h = ap (λ (z : List ℕ). Some z) ((bytes_eq-Decides g f).0 h)

pub claims-from : (c : Option (List ℕ)) (f : List ℕ) → c ≡ Some f → claims c f ≡ true
claims-from c f h = subst (λ (z : Option (List ℕ)). claims z f ≡ true) (sym h) ((bytes_eq-Decides f f).1 refl)

module _ (s : Sealing) (f : List ℕ) where
  pub first-left : (xs ys : List Row) (q : Path) → first_claim s f xs ≡ Some q → first_claim s f (xs ++ ys) ≡ Some q
  first-left [] ys q h = absurd (cc)
  first-left (r ∷ xs) ys q h = go (claims (claimed s (Some r.1)) f) h (first-left xs ys q)
    where
      go : (b : Bool) → cond b (Some r.0) (first_claim s f xs) ≡ Some q → (first_claim s f xs ≡ Some q → first_claim s f (xs ++ ys) ≡ Some q) → cond b (Some r.0) (first_claim s f (xs ++ ys)) ≡ Some q
      go true e k = e
      go false e k = k e

  pub first-right : (xs ys : List Row) → first_claim s f xs ≡ None → first_claim s f (xs ++ ys) ≡ first_claim s f ys
  first-right [] ys h = refl
  first-right (r ∷ xs) ys h = go (claims (claimed s (Some r.1)) f) h (first-right xs ys)
    where
      go : (b : Bool) → cond b (Some r.0) (first_claim s f xs) ≡ None → (first_claim s f xs ≡ None → first_claim s f (xs ++ ys) ≡ first_claim s f ys) → cond b (Some r.0) (first_claim s f (xs ++ ys)) ≡ first_claim s f ys
      go true e k = absurd (cc)
      go false e k = k e

  pub first-in : (xs : List Row) (q : Path) → first_claim s f xs ≡ Some q → (x : Node) × In (q, x) xs × (claimed s (Some x) ≡ Some f)
  first-in [] q h = absurd (cc)
  first-in (r ∷ xs) q h = go (claims (claimed s (Some r.1)) f) refl h (first-in xs q)
    where
      go : (b : Bool) → claims (claimed s (Some r.1)) f ≡ b → cond b (Some r.0) (first_claim s f xs) ≡ Some q →
          (first_claim s f xs ≡ Some q → (x : Node) × In (q, x) xs × (claimed s (Some x) ≡ Some f)) → (x : Node) × In (q, x) (r ∷ xs) × (claimed s (Some x) ≡ Some f)
      go true e h2 k = let eq : r.0 ≡ q = cc in (r.1, inl (ap (λ (z : Path). (z, r.1)) (sym eq)), claims-true (claimed s (Some r.1)) f e)
      go false e h2 k = let a : (x : Node) × In (q, x) xs × (claimed s (Some x) ≡ Some f) = k h2 in (a.0, inr a.1, a.2)

  -- a row that names the folder: there is a first one, and in an ascending list it isn't after this one
  pub first-least : (xs : List Row) (q : Path) (x : Node) → Ascending row_cmp xs → In (q, x) xs → claimed s (Some x) ≡ Some f →
      (r : Path) × (first_claim s f xs ≡ Some r) × (is_gt (walk_cmp r q) ≡ false)
  first-least [] q x a h c = absurd h
  first-least (r ∷ xs) q x a h c = go (claims (claimed s (Some r.1)) f) refl h (λ k. first-least xs q x a.1 k c)
    where
      go : (b : Bool) → claims (claimed s (Some r.1)) f ≡ b → ((q, x) ≡ r) ⊎ In (q, x) xs →
          (In (q, x) xs → (z : Path) × (first_claim s f xs ≡ Some z) × (is_gt (walk_cmp z q) ≡ false)) →
          (z : Path) × (cond b (Some r.0) (first_claim s f xs) ≡ Some z) × (is_gt (walk_cmp z q) ≡ false)
      go true e (inl is) k = (r.0, refl, subst (λ (z : Path). is_gt (walk_cmp r.0 z) ≡ false) (sym (ap (λ (z : Row). z.0) is)) (walk_not_after r.0))
      go true e (inr is) k = (r.0, refl, ap is_gt (a.0 (q, x) is))
      go false e (inl is) k = absurd (true≢false (sym (claims-from (claimed s (Some r.1)) f (ap (λ (z : Row). claimed s (Some z.1)) (sym is) ∙ c)) ∙ e))
      go false e (inr is) k = k is

module _ (s : Sealing) (v : Folders) where
  -- an owner function that goes by the rows so far
  abbrev pub Follows : (List ℕ → Path) → List Row → Type 0
  Follows o rows = (f : List ℕ) (q : Path) → first_claim s f rows ≡ Some q → o f ≡ q

  abbrev pub Sound : List Row → Type 0
  Sound rows = (o : List ℕ → Path) → Follows o rows → (q : Path) (x : Node) → In (q, x) rows → node_at s v o q ≡ Some x

  pub follows-left : (o : List ℕ → Path) (xs ys : List Row) → Follows o (xs ++ ys) → Follows o xs
  follows-left o xs ys h f q e = h f q (first-left s f xs ys q e)

  -- one more row
  module _ (acc : List Row) (q : Path) (j m : List ℕ) (sound : Sound acc) (dir : In (q, Dir j) acc) (later : (p : Path) (x : Node) → In (p, x) acc → walk_cmp p (m ∷ q) ≡ Less) where
    owner_test : (o : List ℕ → Path) (t : List ℕ) → s.valid_id t ≡ true → (x : Node) → claimed s (Some x) ≡ Some (s.folder_of t) → Follows o (acc ++ (m ∷ q, x) ∷ []) →
        same_path (o (s.folder_of t)) (m ∷ q) ≡ not (is_some (first_claim s (s.folder_of t) acc))
    owner_test o t valid x c fol = go (first_claim s (s.folder_of t) acc) refl
      where
        go : (w : Option Path) → first_claim s (s.folder_of t) acc ≡ w → same_path (o (s.folder_of t)) (m ∷ q) ≡ not (is_some w)
        go None e = same_path-from (o (s.folder_of t)) (m ∷ q) (fol (s.folder_of t) (m ∷ q)
            (first-right s (s.folder_of t) acc _ e ∙ cond-true (claims (claimed s (Some x)) (s.folder_of t)) _ _ (claims-from (claimed s (Some x)) (s.folder_of t) c)))
        go (Some r) e =
            let a : (y : Node) × In (r, y) acc × (claimed s (Some y) ≡ Some (s.folder_of t)) = first-in s (s.folder_of t) acc r e in
            let less : walk_cmp r (m ∷ q) ≡ Less = later r a.0 a.1 in
            let is : o (s.folder_of t) ≡ r = follows-left o acc _ fol (s.folder_of t) r e in
            same_path-apart (o (s.folder_of t)) (m ∷ q) (λ h.
            let same : walk_cmp r (m ∷ q) ≡ Equal = ap (λ (z : Path). walk_cmp z (m ∷ q)) (sym is ∙ h) ∙ walk_itself (m ∷ q) in
            cc)

    marked : (g : Bool) (t : List ℕ) → s.valid_id t ≡ true → claimed s (Some (cond g (Dir t) (Bad t))) ≡ Some (s.folder_of t)
    marked true t valid = refl
    marked false t valid = cond-true (s.valid_id t) _ _ valid

    good_is : (o : List ℕ → Path) (t : List ℕ) → Follows o (acc ++ row_of s v acc (m ∷ q) (Named t)) →
        is_good s v o (m ∷ q) t ≡ (s.valid_id t && (v.present (s.folder_of t) && not (is_some (first_claim s (s.folder_of t) acc))))
    good_is o t fol = go (s.valid_id t) refl
      where
        go : (b : Bool) → s.valid_id t ≡ b → (b && (v.present (s.folder_of t) && same_path (o (s.folder_of t)) (m ∷ q))) ≡ (b && (v.present (s.folder_of t) && not (is_some (first_claim s (s.folder_of t) acc))))
        go true e = ap (λ (b : Bool). v.present (s.folder_of t) && b) (owner_test o t e _ (marked _ t e) fol)
        go false e = refl

    row_is : (o : List ℕ → Path) (k : Kind) → Follows o (acc ++ row_of s v acc (m ∷ q) k) → (p : Path) (x : Node) → In (p, x) (row_of s v acc (m ∷ q) k) →
        (p ≡ m ∷ q) × (node s v o (m ∷ q) (Some k) ≡ Some x)
    row_is o (Plain b) fol p x (inl e) = (ap (λ (z : Row). z.0) e, ap (λ (z : Row). Some z.1) (sym e))
    row_is o (Plain b) fol p x (inr e) = absurd e
    row_is o (Linked b) fol p x (inl e) = (ap (λ (z : Row). z.0) e, ap (λ (z : Row). Some z.1) (sym e))
    row_is o (Linked b) fol p x (inr e) = absurd e
    row_is o (Named t) fol p x (inl e) = (ap (λ (z : Row). z.0) e, ap (λ (g : Bool). Some (cond g (Dir t) (Bad t))) (good_is o t fol) ∙ ap (λ (z : Row). Some z.1) (sym e))
    row_is o (Named t) fol p x (inr e) = absurd e
    row_is o Bare fol p x e = absurd e

    pub sound_more : (k : Kind) → look s v j m ≡ Some k → Sound (acc ++ row_of s v acc (m ∷ q) k)
    sound_more k l o fol p x h = go (in_cases (p, x) acc (row_of s v acc (m ∷ q) k) h)
      where
        go : In (p, x) acc ⊎ In (p, x) (row_of s v acc (m ∷ q) k) → node_at s v o p ≡ Some x
        go (inl i) = sound o (follows-left o acc _ fol) p x i
        go (inr i) =
            let a : (p ≡ m ∷ q) × (node s v o (m ∷ q) (Some k) ≡ Some x) = row_is o k fol p x i in
            let d : node_at s v o q ≡ Some (Dir j) = sound o (follows-left o acc _ fol) q (Dir j) dir in
            ap (node_at s v o) a.0 ∙ child_at s v o m j q d ∙ ap (node s v o (m ∷ q)) l ∙ a.1

  -- every row of an entry's is at the entry's path
  pub row_path : (acc : List Row) (p : Path) (k : Kind) (r : Row) → In r (row_of s v acc p k) → r.0 ≡ p
  row_path acc p (Plain b) r (inl e) = ap (λ (z : Row). z.0) e
  row_path acc p (Plain b) r (inr e) = absurd e
  row_path acc p (Linked b) r (inl e) = ap (λ (z : Row). z.0) e
  row_path acc p (Linked b) r (inr e) = absurd e
  row_path acc p (Named t) r (inl e) = ap (λ (z : Row). z.0) e
  row_path acc p (Named t) r (inr e) = absurd e
  row_path acc p Bare r e = absurd e

  pub row_there : (acc : List Row) (p : Path) (k : Kind) → k ≢ Bare → (x : Node) × In (p, x) (row_of s v acc p k)
  row_there acc p (Plain b) h = (_, inl refl)
  row_there acc p (Linked b) h = (_, inl refl)
  row_there acc p (Named t) h = (_, inl refl)
  row_there acc p Bare h = absurd (h refl)

  pub row_ascending : (acc : List Row) (p : Path) (k : Kind) → Ascending row_cmp (row_of s v acc p k)
  row_ascending acc p (Plain b) = ((λ y h. absurd h), tt)
  row_ascending acc p (Linked b) = ((λ y h. absurd h), tt)
  row_ascending acc p (Named t) = ((λ y h. absurd h), tt)
  row_ascending acc p Bare = tt

  -- what the rows are once a directory's entries are added
  pub record Grown (acc : List Row) (q : Path) (es : List (List ℕ × Kind)) (all : List Row) : Type 0 where
    pub sound : Sound all
    pub ascending : Ascending row_cmp all
    pub kept : (r : Row) → In r acc → In r all
    pub covers : (e : List ℕ × Kind) → In e es → e.1 ≢ Bare → (x : Node) × In (e.0 ∷ q, x) all
    pub from : (r : Row) → In r all → In r acc ⊎ ((m : List ℕ) × (r.0 ≡ m ∷ q))

  pub grown : (acc : List Row) (q : Path) (es : List (List ℕ × Kind)) → Sound acc → Ascending row_cmp acc →
      ((e : List ℕ × Kind) → In e es → (j : List ℕ) × In (q, Dir j) acc × (look s v j e.0 ≡ Some e.1)) →
      ((e : List ℕ × Kind) → In e es → (p : Path) (x : Node) → In (p, x) acc → walk_cmp p (e.0 ∷ q) ≡ Less) →
      Ascending name_cmp es → Grown acc q es (acc ++ kids s v acc q es)
  grown acc q [] sound asc dirs later names = subst (Grown acc q []) (sym (append-nil acc)) (record {
    sound = sound;
    ascending = asc;
    kept = λ r h. h;
    covers = λ e h. absurd h;
    from = λ r h. inl h;
  })
  grown acc q (e ∷ es) sound asc dirs later names =
      let d : (j : List ℕ) × In (q, Dir j) acc × (look s v j e.0 ≡ Some e.1) = dirs e (inl refl) in
      subst (Grown acc q (e ∷ es)) (append_assoc acc (row_of s v acc (e.0 ∷ q) e.1) (kids s v (acc ++ row_of s v acc (e.0 ∷ q) e.1) q es))
      (grown_more acc q e es later names
      (grown (acc ++ row_of s v acc (e.0 ∷ q) e.1) q es
      (sound_more acc q d.0 e.0 sound d.1 (later e (inl refl)) e.1 d.2)
      (ascending_append row_cmp acc (row_of s v acc (e.0 ∷ q) e.1) asc (row_ascending acc (e.0 ∷ q) e.1)
      (λ x y hx hy. subst (λ (z : Path). walk_cmp x.0 z ≡ Less) (sym (row_path acc (e.0 ∷ q) e.1 y hy)) (later e (inl refl) x.0 x.1 hx)))
      (λ e2 h. let d2 : (j : List ℕ) × In (q, Dir j) acc × (look s v j e2.0 ≡ Some e2.1) = dirs e2 (inr h) in (d2.0, in_left (q, Dir d2.0) acc _ d2.1, d2.2))
      (λ e2 h p x i. later_more acc q e es later names e2 h p x (in_cases (p, x) acc (row_of s v acc (e.0 ∷ q) e.1) i))
      names.1))
    where
      later_more : (acc : List Row) (q : Path) (e : List ℕ × Kind) (es : List (List ℕ × Kind)) →
          ((e2 : List ℕ × Kind) → In e2 (e ∷ es) → (p : Path) (x : Node) → In (p, x) acc → walk_cmp p (e2.0 ∷ q) ≡ Less) → Ascending name_cmp (e ∷ es) →
          (e2 : List ℕ × Kind) → In e2 es → (p : Path) (x : Node) → In (p, x) acc ⊎ In (p, x) (row_of s v acc (e.0 ∷ q) e.1) → walk_cmp p (e2.0 ∷ q) ≡ Less
      later_more acc q e es later names e2 h p x (inl i) = later e2 (inr h) p x i
      later_more acc q e es later names e2 h p x (inr i) =
          ap (λ (z : Path). walk_cmp z (e2.0 ∷ q)) (row_path acc (e.0 ∷ q) e.1 (p, x) i) ∙ ap (λ (r : Ordering). ordering_then r (slice_cmp nat_cmp e.0 e2.0)) (walk_itself q) ∙ names.0 e2 h

      grown_more : (acc : List Row) (q : Path) (e : List ℕ × Kind) (es : List (List ℕ × Kind)) →
          ((e2 : List ℕ × Kind) → In e2 (e ∷ es) → (p : Path) (x : Node) → In (p, x) acc → walk_cmp p (e2.0 ∷ q) ≡ Less) → Ascending name_cmp (e ∷ es) →
          {all : List Row} → Grown (acc ++ row_of s v acc (e.0 ∷ q) e.1) q es all → Grown acc q (e ∷ es) all
      grown_more acc q e es later names {all = all} g = record {
        sound = g.sound;
        ascending = g.ascending;
        kept = λ r h. g.kept r (in_left r acc _ h);
        covers = λ e2 h nb. covered e2 h nb;
        from = λ r h. came r (g.from r h);
      }
        where
          covered : (e2 : List ℕ × Kind) → (e2 ≡ e) ⊎ In e2 es → e2.1 ≢ Bare → (x : Node) × In (e2.0 ∷ q, x) all
          covered e2 (inl is) nb =
              let a : (x : Node) × In (e.0 ∷ q, x) (row_of s v acc (e.0 ∷ q) e.1) = row_there acc (e.0 ∷ q) e.1 (λ z. nb (ap (λ (y : List ℕ × Kind). y.1) is ∙ z)) in
              (a.0, subst (λ (z : List ℕ × Kind). In (z.0 ∷ q, a.0) all) (sym is) (g.kept (e.0 ∷ q, a.0) (in_right (e.0 ∷ q, a.0) acc _ a.1)))
          covered e2 (inr h) nb = g.covers e2 h nb

          came2 : (r : Row) → In r acc ⊎ In r (row_of s v acc (e.0 ∷ q) e.1) → In r acc ⊎ ((m : List ℕ) × (r.0 ≡ m ∷ q))
          came2 r (inl h) = inl h
          came2 r (inr h) = inr (e.0, row_path acc (e.0 ∷ q) e.1 r h)

          came : (r : Row) → In r (acc ++ row_of s v acc (e.0 ∷ q) e.1) ⊎ ((m : List ℕ) × (r.0 ≡ m ∷ q)) → In r acc ⊎ ((m : List ℕ) × (r.0 ≡ m ∷ q))
          came r (inl h) = came2 r (in_cases r acc (row_of s v acc (e.0 ∷ q) e.1) h)
          came r (inr h) = inr h

-- what is once some rows are done and some wait
module _ (s : Sealing) (v : Folders) where
  pub record Walked (done todo : List Row) : Type 0 where
    pub sound : Sound s v (done ++ todo)
    pub ascending : Ascending row_cmp (done ++ todo)
    pub closed : (q : Path) (j m : List ℕ) (k : Kind) → In (q, Dir j) done → look s v j m ≡ Some k → k ≢ Bare → (x : Node) × In (m ∷ q, x) (done ++ todo)
    pub parents : (m : List ℕ) (q : Path) (x : Node) → In (m ∷ q, x) (done ++ todo) → (y : Node) × In (q, y) done
    pub root : In ([], Dir []) (done ++ todo)

  pub begun : Walked [] (([], Dir []) ∷ [])
  unfolding node_at
  begun = record {
    sound = λ o fol q x h. ⊎_elim (λ e. ap (node_at s v o) (ap (λ (z : Row). z.0) e) ∙ ap (λ (z : Row). Some z.1) (sym e)) (λ e. absurd e) h;
    ascending = ((λ y h. absurd h), tt);
    closed = λ q j m k h. absurd h;
    parents = λ m q x h. ⊎_elim (λ e. let z : m ∷ q ≡ [] = ap (λ (z : Row). z.0) e in absurd (cc)) (λ e. absurd e) h;
    root = inl refl;
  }

  module _ (done todo : List Row) (r : Row) (es : List (List ℕ × Kind)) (are : AreEntriesOf s v r.1 es) (w : Walked done (r ∷ todo)) where
    abbrev acc : List Row
    acc = done ++ r ∷ todo

    abbrev more : List Row
    more = kids s v acc r.0 es

    r_in : In r acc
    r_in = in_right r done (r ∷ todo) (inl refl)

    none_in : {A : Type 0} (xs : List A) (x : A) → xs ≡ [] → In x xs → ⊥
    none_in xs x is h = subst (In x) is h

    dirs : (x : Node) → r ≡ (r.0, x) → AreEntriesOf s v x es → (e : List ℕ × Kind) → In e es → (j : List ℕ) × In (r.0, Dir j) acc × (look s v j e.0 ≡ Some e.1)
    dirs (Dir j) is entries e h = (j, subst (λ (z : Row). In z acc) is r_in, entries.sound e h)
    dirs (File c) is entries e h = absurd (none_in es e entries h)
    dirs (Link c) is entries e h = absurd (none_in es e entries h)
    dirs (Bad t) is entries e h = absurd (none_in es e entries h)

    later : (m : List ℕ) (p : Path) (x : Node) → In (p, x) acc → walk_cmp p (m ∷ r.0) ≡ Less
    later m [] x h = refl
    later m (a ∷ p) x h =
        let y : (y : Node) × In (p, y) done = w.parents a p x h in
        ap (λ (o : Ordering). ordering_then o (slice_cmp nat_cmp a m)) (ascending_split row_cmp done (r ∷ todo) w.ascending (p, y.0) r y.1 (inl refl))

    names : (x : Node) → AreEntriesOf s v x es → Ascending name_cmp es
    names (Dir j) entries = entries.ascending
    names (File c) entries = subst (Ascending name_cmp) (sym entries) tt
    names (Link c) entries = subst (Ascending name_cmp) (sym entries) tt
    names (Bad t) entries = subst (Ascending name_cmp) (sym entries) tt

    grew : Grown s v acc r.0 es (acc ++ more)
    grew = grown s v acc r.0 es w.sound w.ascending (dirs r.1 refl are) (λ e h p x i. later e.0 p x i) (names r.1 are)

    pub same_rows : (done ++ r ∷ []) ++ (todo ++ more) ≡ acc ++ more
    same_rows = append_assoc done (r ∷ []) (todo ++ more) ∙ sym (append_assoc done (r ∷ todo) more)

    abbrev Next : List Row → Type 0
    Next all = Sound s v all × (Ascending row_cmp all
        × (((q : Path) (j m : List ℕ) (k : Kind) → In (q, Dir j) (done ++ r ∷ []) → look s v j m ≡ Some k → k ≢ Bare → (x : Node) × In (m ∷ q, x) all)
        × (((m : List ℕ) (q : Path) (x : Node) → In (m ∷ q, x) all → (y : Node) × In (q, y) (done ++ r ∷ [])) × In ([], Dir []) all)))

    closed_by : (q : Path) (j m : List ℕ) (k : Kind) → In (q, Dir j) done ⊎ In (q, Dir j) (r ∷ []) → look s v j m ≡ Some k → k ≢ Bare → (x : Node) × In (m ∷ q, x) (acc ++ more)
    closed_by q j m k (inl h) l nb = let a : (x : Node) × In (m ∷ q, x) acc = w.closed q j m k h l nb in (a.0, in_left (m ∷ q, a.0) acc more a.1)
    closed_by q j m k (inr (inr h)) l nb = absurd h
    closed_by q j m k (inr (inl is)) l nb =
        let entries : AreEntriesOf s v (Dir j) es = subst (λ (z : Row). AreEntriesOf s v z.1 es) (sym is) are in
        let a : (x : Node) × In (m ∷ r.0, x) (acc ++ more) = grew.covers (m, k) (entries.complete m k l nb) nb in
        (a.0, subst (λ (z : Row). In (m ∷ z.0, a.0) (acc ++ more)) (sym is) a.1)

    parents_by : (m : List ℕ) (q : Path) (x : Node) → In (m ∷ q, x) acc ⊎ ((a : List ℕ) × (m ∷ q ≡ a ∷ r.0)) → (y : Node) × In (q, y) (done ++ r ∷ [])
    parents_by m q x (inl h) = let a : (y : Node) × In (q, y) done = w.parents m q x h in (a.0, in_left (q, a.0) done (r ∷ []) a.1)
    parents_by m q x (inr (a, e)) = let eq : q ≡ r.0 = cc in (r.1, in_right (q, r.1) done (r ∷ []) (inl (ap (λ (z : Path). (z, r.1)) eq)))

    next_all : Next (acc ++ more)
    next_all = (
      grew.sound,
      (
        grew.ascending,
        (
          (λ q j m k h l nb. closed_by q j m k (in_cases (q, Dir j) done (r ∷ []) h) l nb),
          ((λ m q x h. parents_by m q x (grew.from (m ∷ q, x) h)), in_left ([], Dir []) acc more w.root),
        ),
      ),
    )

    pub stepped : Walked (done ++ r ∷ []) (todo ++ more)
    stepped = let n : Next ((done ++ r ∷ []) ++ (todo ++ more)) = subst Next (sym same_rows) next_all in record {
      sound = n.0;
      ascending = n.1.0;
      closed = n.1.1.0;
      parents = n.1.1.1.0;
      root = n.1.1.1.1;
    }

  pub walked : (done todo : List Row) → IsWalk s v done todo → Walked done todo
  walked d t Begun = begun
  walked d t (Turned done todo r es are walk) = stepped done todo r es are (walked done (r ∷ todo) walk)

  -- the first row that names a folder
  abbrev pub owner_of : List Row → List ℕ → Path
  owner_of rows f = unwrap_or (first_claim s f rows) []

  pub follows_itself : (rows : List Row) → Follows s v (owner_of rows) rows
  follows_itself rows f q h = ap (λ (z : Option Path). unwrap_or z []) h

  pub below_some : (o : List ℕ → Path) (p : Path) (m : List ℕ) (y : Option Node) (x : Node) → below s v o p m y ≡ Some x →
      (j : List ℕ) × (y ≡ Some (Dir j)) × ((k : Kind) × (look s v j m ≡ Some k) × (k ≢ Bare))
  below_some o p m None x h = absurd (cc)
  below_some o p m (Some (File c)) x h = absurd (cc)
  below_some o p m (Some (Link c)) x h = absurd (cc)
  below_some o p m (Some (Bad t)) x h = absurd (cc)
  below_some o p m (Some (Dir j)) x h = (j, refl, go (look s v j m) refl h)
    where
      go : (e : Option Kind) → look s v j m ≡ e → node s v o p e ≡ Some x → (k : Kind) × (look s v j m ≡ Some k) × (k ≢ Bare)
      go None l h2 = absurd (cc)
      go (Some (Plain b)) l h2 = (Plain b, l, λ z. cc)
      go (Some (Linked b)) l h2 = (Linked b, l, λ z. cc)
      go (Some (Named t)) l h2 = (Named t, l, λ z. cc)
      go (Some Bare) l h2 = absurd (cc)

  module _ (rows : List Row) (w : Walked rows []) where
    pub row_sound : (q : Path) (x : Node) → In (q, x) rows → node_at s v (owner_of rows) q ≡ Some x
    row_sound q x h = subst (λ (z : List Row). Sound s v z) (append-nil rows) w.sound (owner_of rows) (follows_itself rows) q x h

    pub row_complete : (q : Path) (x : Node) → node_at s v (owner_of rows) q ≡ Some x → In (q, x) rows
    unfolding node_at
    row_complete [] x h = subst (λ (z : List Row). In ([], x) z) (append-nil rows) (let e : Dir [] ≡ x = cc in subst (λ (z : Node). In ([], z) (rows ++ [])) e w.root)
    row_complete (m ∷ q) x h = go (below_some (owner_of rows) (m ∷ q) m (node_at s v (owner_of rows) q) x h) (row_complete q)
      where
        go : ((j : List ℕ) × (node_at s v (owner_of rows) q ≡ Some (Dir j)) × ((k : Kind) × (look s v j m ≡ Some k) × (k ≢ Bare))) →
            ((y : Node) → node_at s v (owner_of rows) q ≡ Some y → In (q, y) rows) → In (m ∷ q, x) rows
        go a ih =
            let b : (y : Node) × In (m ∷ q, y) (rows ++ []) = w.closed q a.0 m a.2.0 (ih (Dir a.0) a.1) a.2.1 a.2.2 in
            let c : In (m ∷ q, b.0) rows = subst (λ (z : List Row). In (m ∷ q, b.0) z) (append-nil rows) b.1 in
            let d : below s v (owner_of rows) (m ∷ q) m (node_at s v (owner_of rows) q) ≡ Some b.0 = row_sound (m ∷ q) b.0 c in
            let e : b.0 ≡ x = cc in
            subst (λ (z : Node). In (m ∷ q, z) rows) e c

    rows_ascend : Ascending row_cmp rows
    rows_ascend = subst (Ascending row_cmp) (append-nil rows) w.ascending

    claim_row : (q : Path) (f : List ℕ) → claimed s (node_at s v (owner_of rows) q) ≡ Some f → (x : Node) × In (q, x) rows × (claimed s (Some x) ≡ Some f)
    claim_row q f h = go (node_at s v (owner_of rows) q) refl h
      where
        go : (y : Option Node) → node_at s v (owner_of rows) q ≡ y → claimed s y ≡ Some f → (x : Node) × In (q, x) rows × (claimed s (Some x) ≡ Some f)
        go None e h2 = absurd (cc)
        go (Some x) e h2 = (x, row_complete q x e, h2)

    pub walk_owner : IsOwner s v (owner_of rows)
    walk_owner = record {
      holds = λ q f h.
          let a : (x : Node) × In (q, x) rows × (claimed s (Some x) ≡ Some f) = claim_row q f h in
          let b : (r : Path) × (first_claim s f rows ≡ Some r) × (is_gt (walk_cmp r q) ≡ false) = first-least s f rows q a.0 rows_ascend a.1 a.2 in
          let c : (y : Node) × In (b.0, y) rows × (claimed s (Some y) ≡ Some f) = first-in s f rows b.0 b.1 in
          ap (λ (z : Path). claimed s (node_at s v (owner_of rows) z)) (follows_itself rows f b.0 b.1) ∙ ap (claimed s) (row_sound b.0 c.0 c.1) ∙ c.2;
      first = λ q f h.
          let a : (x : Node) × In (q, x) rows × (claimed s (Some x) ≡ Some f) = claim_row q f h in
          let b : (r : Path) × (first_claim s f rows ≡ Some r) × (is_gt (walk_cmp r q) ≡ false) = first-least s f rows q a.0 rows_ascend a.1 a.2 in
          subst (λ (z : Path). is_gt (walk_cmp z q) ≡ false) (sym (follows_itself rows f b.0 b.1)) b.2;
    }
