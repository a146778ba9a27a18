-- A load goes on: one node more.
use Rattle.std.proofs.Common.{◌≡◌, ◌↔◌, ℕ, zero, suc, ◌<◌, ◌≤◌, Bool, true, false, cond, not, ◌&&◌, ◌||◌, List, [], ◌∷◌, ◌++◌, append_assoc, append-nil, length, length-append, length-take, ◌+◌, min, Option, Some, None, is_some, IsTrue, bytes_eq, refl, sym, ap, ◌∙◌, subst, inl, inr, ◌⊎◌, arith, slice_get, true≢false}
use Rattle.std.proofs.lemmas.Bool.{and_parts, and_from}
use Rattle.std.proofs.lemmas.Slice.Eq.{bytes_eq-Decides}
use Rattle.std.proofs.lemmas.List.{take_all}
use Rattle.std.proofs.lemmas.Option.{slice_get_within}
use Rattle.outside.specs.Disk.{Disk}
use Rattle.clear_tree.specs.Walk.{Path, Sealing, Folders, Kind, Plain, Named, Linked, Bare, Node, File, Link, Dir, Bad, claimed}
use Rattle.clear_tree.specs.Places.{folders_of}
use Rattle.clear_tree.specs.Queue.{Row, claims as claims_test, first_claim, row_of, kids, In}
use Rattle.clear_tree.specs.Kept.{KeptFile, KeptLink, KeptDir, KeptBad, KeptNode, KeptTree, what_of, kept_text, text_limit}
use Rattle.clear_tree.specs.Scan.{Shown, ShownFile, ShownLink, ShownText, Found, ShowsAs, IsFound}
use Rattle.clear_tree.specs.Loading.{IsKeptAt, IsKeptRow, NamesTwice, AreLoaded, new_what, names_again, new_node, with_found, with_claims, KeepsIdentifiers}
use Rattle.clear_tree.proofs.Paths.{bytes_same}
use Rattle.clear_tree.proofs.Places.{get_left, get_last, get_cases, at_in}
use Rattle.clear_tree.proofs.Queue.{claims-true, claims-from, first-left, first-right, first-in}

-- ---- claims

some_or : (o : Option Path) (b : Bool) (p : Path) → is_some (cond b (Some p) None) ≡ b
some_or o true p = refl
some_or o false p = refl

-- with a row more a folder is named if it was, or by this row
claims-push : (s : Sealing) (f : List ℕ) (rows : List Row) (r : Row) →
    is_some (first_claim s f (rows ++ r ∷ [])) ≡ (is_some (first_claim s f rows) || claims_test (claimed s (Some r.1)) f)
claims-push s f rows r = go (first_claim s f rows) refl
  where
    go : (o : Option Path) → first_claim s f rows ≡ o → is_some (first_claim s f (rows ++ r ∷ [])) ≡ (is_some o || claims_test (claimed s (Some r.1)) f)
    go (Some q) e = ap is_some (first-left s f rows (r ∷ []) q e)
    go None e = ap is_some (first-right s f rows (r ∷ []) e) ∙ some_or None (claims_test (claimed s (Some r.1)) f) r.0

-- a folder that is named is so by a row
claim_at : (s : Sealing) (f : List ℕ) (rows : List Row) → is_some (first_claim s f rows) ≡ true → (k : ℕ) × (r : Row) × (slice_get rows k ≡ Some r) × (claimed s (Some r.1) ≡ Some f)
claim_at s f rows h = go (first_claim s f rows) refl h
  where
    go : (o : Option Path) → first_claim s f rows ≡ o → is_some o ≡ true → (k : ℕ) × (r : Row) × (slice_get rows k ≡ Some r) × (claimed s (Some r.1) ≡ Some f)
    go None e t = absurd (true≢false (sym t))
    go (Some q) e t =
        let a : (x : Node) × In (q, x) rows × (claimed s (Some x) ≡ Some f) = first-in s f rows q e in
        let k : (k : ℕ) × (slice_get rows k ≡ Some (q, a.0)) = at_in rows (q, a.0) a.1 in
        (k.0, (q, a.0), k.1, a.2)

claim_in : (s : Sealing) (f : List ℕ) (rows : List Row) (k : ℕ) (r : Row) → slice_get rows k ≡ Some r → claimed s (Some r.1) ≡ Some f → is_some (first_claim s f rows) ≡ true
claim_in s f [] k r h c = absurd (cc)
claim_in s f (z ∷ rows) zero r h c =
    let is : z ≡ r = cc in
    ap (λ (b : Bool). is_some (cond b (Some z.0) (first_claim s f rows))) (claims-from (claimed s (Some z.1)) f (ap (λ (y : Row). claimed s (Some y.1)) is ∙ c))
claim_in s f (z ∷ rows) (suc k) r h c = go (claims_test (claimed s (Some z.1)) f) (claim_in s f rows k r h c)
  where
    go : (b : Bool) → is_some (first_claim s f rows) ≡ true → is_some (cond b (Some z.0) (first_claim s f rows)) ≡ true
    go true e = refl
    go false e = e

-- ---- twice

abbrev pub NamedAgain : Sealing → List Row → Row → Type 0
NamedAgain s rows r = (f : List ℕ) × (claimed s (Some r.1) ≡ Some f) × (is_some (first_claim s f rows) ≡ true)

twice_left : (s : Sealing) (rows : List Row) (r : Row) → NamesTwice s rows → NamesTwice s (rows ++ r ∷ [])
twice_left s rows r t = record {
  one = t.one;
  other = t.other;
  a = t.a;
  b = t.b;
  folder = t.folder;
  before = t.before;
  first = get_left rows (r ∷ []) t.one t.a t.first;
  second = get_left rows (r ∷ []) t.other t.b t.second;
  named = t.named;
  again = t.again;
}

twice_new : (s : Sealing) (rows : List Row) (r : Row) → NamedAgain s rows r → NamesTwice s (rows ++ r ∷ [])
twice_new s rows r n =
    let c : (k : ℕ) × (x : Row) × (slice_get rows k ≡ Some x) × (claimed s (Some x.1) ≡ Some n.0) = claim_at s n.0 rows n.2 in
    record {
      one = c.0;
      other = length rows;
      a = c.1;
      b = r;
      folder = n.0;
      before = slice_get_within rows c.0 c.1 c.2;
      first = get_left rows (r ∷ []) c.0 c.1 c.2;
      second = get_last rows r;
      named = c.3;
      again = n.1;
    }

twice_cases : (s : Sealing) (rows : List Row) (r : Row) → NamesTwice s (rows ++ r ∷ []) → NamesTwice s rows ⊎ NamedAgain s rows r
twice_cases s rows r t = go (get_cases rows r t.one t.a t.first) (get_cases rows r t.other t.b t.second)
  where
    go : (slice_get rows t.one ≡ Some t.a) ⊎ ((t.one ≡ length rows) × (t.a ≡ r)) → (slice_get rows t.other ≡ Some t.b) ⊎ ((t.other ≡ length rows) × (t.b ≡ r)) →
        NamesTwice s rows ⊎ NamedAgain s rows r
    go (inl a) (inl b) = inl (record {
      one = t.one;
      other = t.other;
      a = t.a;
      b = t.b;
      folder = t.folder;
      before = t.before;
      first = a;
      second = b;
      named = t.named;
      again = t.again;
    })
    go (inl a) (inr b) = inr (t.folder, ap (λ (y : Row). claimed s (Some y.1)) (sym b.1) ∙ t.again, claim_in s t.folder rows t.one t.a a t.named)
    go (inr a) (inl b) = let late : t.other < length rows = slice_get_within rows t.other t.b b in let e : t.one ≡ length rows = a.0 in let l : t.one < t.other = t.before in absurd (omega (arith, late, e, l))
    go (inr a) (inr b) = let e : t.one ≡ length rows = a.0 in let f : t.other ≡ length rows = b.0 in let l : t.one < t.other = t.before in absurd (omega (arith, e, f, l))

or_true : (a b : Bool) → (a || b) ≡ true → (a ≡ true) ⊎ (b ≡ true)
or_true true b h = inl refl
or_true false b h = inr h

or_left : (a b : Bool) → a ≡ true → (a || b) ≡ true
or_left true b h = refl
or_left false b h = absurd (true≢false (sym h))

or_right : (a b : Bool) → b ≡ true → (a || b) ≡ true
or_right true b h = refl
or_right false b h = h

-- ---- rows

at_more : (s : Sealing) (d : Disk) (rows more : List Row) (p : Path) (node : KeptNode) → IsKeptAt s d rows p node → IsKeptAt s d (rows ++ more) p node
at_more s d rows more [] node h = h
at_more s d rows more (n ∷ q) node h = record {
  identifier = h.identifier;
  inside = get_left rows more node.parent (q, Dir h.identifier) h.inside;
  named = h.named;
  entry = h.entry;
  long = h.long;
  shadowed = h.shadowed;
}

row_more : (s : Sealing) (d : Disk) (rows more : List Row) (turns number : ℕ) (row : Row) (node : KeptNode) → IsKeptRow s d rows turns number row node →
    IsKeptRow s d (rows ++ more) turns number row node
row_more s d rows more turns number row node h = record {
  what = h.what;
  place = at_more s d rows more row.0 node h.place;
  marked = h.marked;
  unmarked = h.unmarked;
}

-- the new row and what is kept of it
pub record IsNew (s : Sealing) (d : Disk) (rows : List Row) (claims : List ℕ → Bool) (row : Row) (node : KeptNode) (again : Bool) (claims' : List ℕ → Bool) : Type 0 where
  pub what : node.what ≡ what_of s row.1
  pub place : IsKeptAt s d rows row.0 node
  pub unmarked : node.foreign ≡ false
  pub names_again : IsTrue again ↔ NamedAgain s rows row
  pub names : (f : List ℕ) → claims' f ≡ (claims f || claims_test (claimed s (Some row.1)) f)

module _ (s : Sealing) (d : Disk) (rows : List Row) (turns : ℕ) (tree : KeptTree) (claims : List ℕ → Bool) (loaded : AreLoaded s d rows turns tree claims)
    (few : turns ≤ length rows) (row : Row) (node : KeptNode) (again : Bool) (claims' : List ℕ → Bool) (new : IsNew s d rows claims row node again claims') where
  abbrev tree' : KeptTree
  tree' = record { nodes = tree.nodes ++ node ∷ []; twice = tree.twice || again }

  each_by : (k : ℕ) (r : Row) (n : KeptNode) → (slice_get rows k ≡ Some r) ⊎ ((k ≡ length rows) × (r ≡ row)) → (slice_get tree.nodes k ≡ Some n) ⊎ ((k ≡ length tree.nodes) × (n ≡ node)) →
      IsKeptRow s d (rows ++ row ∷ []) turns k r n
  each_by k r n (inl a) (inl b) = row_more s d rows (row ∷ []) turns k r n (loaded.each k r n a b)
  each_by k r n (inl a) (inr b) =
      let l : k < length rows = slice_get_within rows k r a in
      let e : k ≡ length tree.nodes = b.0 in
      let c : length tree.nodes ≡ length rows = loaded.count in
      absurd (omega (arith, l, e, c))
  each_by k r n (inr a) (inl b) =
      let l : k < length tree.nodes = slice_get_within tree.nodes k n b in
      let e : k ≡ length rows = a.0 in
      let c : length tree.nodes ≡ length rows = loaded.count in
      absurd (omega (arith, l, e, c))
  each_by k r n (inr a) (inr b) =
      let e : k ≡ length rows = a.0 in
      let all : IsKeptRow s d (rows ++ row ∷ []) turns k row node = record {
        what = new.what;
        place = at_more s d rows (row ∷ []) row.0 node new.place;
        marked = λ late. absurd (omega (arith, e, few, late));
        unmarked = λ h. new.unmarked;
      } in
      subst (λ (z : Row). IsKeptRow s d (rows ++ row ∷ []) turns k z n) (sym a.1)
      (subst (λ (z : KeptNode). IsKeptRow s d (rows ++ row ∷ []) turns k row z) (sym b.1) all)

  twice_to : (tree.twice ≡ true) ⊎ (again ≡ true) → NamesTwice s (rows ++ row ∷ [])
  twice_to (inl h) = twice_left s rows row (loaded.twice.0 h)
  twice_to (inr h) = twice_new s rows row (new.names_again.0 h)

  twice_from : NamesTwice s rows ⊎ NamedAgain s rows row → (tree.twice || again) ≡ true
  twice_from (inl t) = or_left tree.twice again (loaded.twice.1 t)
  twice_from (inr n) = or_right tree.twice again (new.names_again.1 n)

  pub loaded_more : AreLoaded s d (rows ++ row ∷ []) turns tree' claims'
  loaded_more = record {
    count = length-append tree.nodes (node ∷ []) ∙ ap (λ (n : ℕ). n + 1) loaded.count ∙ sym (length-append rows (row ∷ []));
    each = λ k r n h g. each_by k r n (get_cases rows row k r h) (get_cases tree.nodes node k n g);
    twice = ((λ h. twice_to (or_true tree.twice again h)), (λ t. twice_from (twice_cases s rows row t)));
    named = λ f. new.names f ∙ ap (λ (b : Bool). b || claims_test (claimed s (Some row.1)) f) (loaded.named f) ∙ sym (claims-push s f rows row);
  }

-- ---- a node as it was found

module _ (s : Sealing) (keeps : KeepsIdentifiers s) where
  -- what is kept of a text is an identifier just if the text is, and then all of it is kept
  kept_whole : (t : List ℕ) → s.valid_id t ≡ true → kept_text t ≡ t
  kept_whole t h = let l : length t < text_limit = keeps t h in take_all text_limit t (omega (arith, l))

  length-kept_text : (t : List ℕ) → length (kept_text t) < text_limit → kept_text t ≡ t
  length-kept_text t h = let m : length (kept_text t) ≡ min text_limit (length t) = length-take text_limit t in take_all text_limit t (omega (arith, h, m))

  kept_valid : (t : List ℕ) → s.valid_id (kept_text t) ≡ s.valid_id t
  kept_valid t = go (s.valid_id (kept_text t)) (s.valid_id t) refl refl
    where
      go : (a b : Bool) → s.valid_id (kept_text t) ≡ a → s.valid_id t ≡ b → s.valid_id (kept_text t) ≡ s.valid_id t
      go true b e f = ap s.valid_id (length-kept_text t (keeps (kept_text t) e))
      go false true e f = ap s.valid_id (kept_whole t f)
      go false false e f = e ∙ sym f

  -- so a test that asks for an identifier first answers of what is kept as of the text
  kept_and : (t : List ℕ) (P : List ℕ → Bool) → (s.valid_id (kept_text t) && P (kept_text t)) ≡ (s.valid_id t && P t)
  kept_and t P = go (s.valid_id t) refl
    where
      go : (b : Bool) → s.valid_id t ≡ b → (s.valid_id (kept_text t) && P (kept_text t)) ≡ (s.valid_id t && P t)
      go true e = ap (λ (z : List ℕ). s.valid_id z && P z) (kept_whole t e)
      go false e =
          let a : (s.valid_id (kept_text t) && P (kept_text t)) ≡ false = ap (λ (b : Bool). b && P (kept_text t)) (kept_valid t ∙ e) in
          let b : (s.valid_id t && P t) ≡ false = ap (λ (b : Bool). b && P t) e in
          a ∙ sym b

  module _ (d : Disk) (rows : List Row) (turns : ℕ) (tree : KeptTree) (claims : List ℕ → Bool) (loaded : AreLoaded s d rows turns tree claims)
      (few : turns ≤ length rows) (parent : ℕ) (q : Path) (i : List ℕ) (at : slice_get rows parent ≡ Some (q, Dir i)) (found : Found) where
    abbrev present : List ℕ → Bool
    present = (folders_of s d).present

    abbrev node : KeptNode
    node = new_node s present claims parent found

    place_is : IsFound s d i found → IsKeptAt s d rows (found.name ∷ q) node
    place_is is = record { identifier = i; inside = at; named = refl; entry = is.entry; long = is.long; shadowed = is.shadowed }

    -- a folder is named again by a node that names one
    again_is : (x : Node) (t : List ℕ) → ((f : List ℕ) → claims_test (claimed s (Some x)) f ≡ (s.valid_id t && bytes_eq (s.folder_of t) f)) →
        IsTrue (s.valid_id t && claims (s.folder_of t)) ↔ NamedAgain s rows (found.name ∷ q, x)
    again_is x t is = (
      λ h.
          let v : s.valid_id t ≡ true = (and_parts (s.valid_id t) (claims (s.folder_of t)) h).0 in
          let c : claims (s.folder_of t) ≡ true = (and_parts (s.valid_id t) (claims (s.folder_of t)) h).1 in (
            s.folder_of t,
            claims-true (claimed s (Some x)) (s.folder_of t) (is (s.folder_of t) ∙ and_from (s.valid_id t) (bytes_eq (s.folder_of t) (s.folder_of t)) v (bytes_same (s.folder_of t))),
            sym (loaded.named (s.folder_of t)) ∙ c,
          ),
      λ n.
          let both : (s.valid_id t && bytes_eq (s.folder_of t) n.0) ≡ true = sym (is n.0) ∙ claims-from (claimed s (Some x)) n.0 n.1 in
          let v : s.valid_id t ≡ true = (and_parts (s.valid_id t) (bytes_eq (s.folder_of t) n.0) both).0 in
          let same : s.folder_of t ≡ n.0 = (bytes_eq-Decides (s.folder_of t) n.0).0 (and_parts (s.valid_id t) (bytes_eq (s.folder_of t) n.0) both).1 in
          and_from (s.valid_id t) (claims (s.folder_of t)) v (ap claims same ∙ loaded.named n.0 ∙ n.2),
    )

    claims_is : (t : List ℕ) (g : Bool) → (g ≡ true → s.valid_id t ≡ true) → (f : List ℕ) →
        claims_test (claimed s (Some (cond g (Dir t) (Bad t)))) f ≡ (s.valid_id t && bytes_eq (s.folder_of t) f)
    claims_is t true v f = ap (λ (b : Bool). b && bytes_eq (s.folder_of t) f) (sym (v refl))
    claims_is t false v f = go (s.valid_id t)
      where
        go : (b : Bool) → claims_test (cond b (Some (s.folder_of t)) None) f ≡ (b && bytes_eq (s.folder_of t) f)
        go true = refl
        go false = refl

    none_again : (x : Node) → claimed s (Some x) ≡ None → IsTrue false ↔ NamedAgain s rows (found.name ∷ q, x)
    none_again x none = ((λ h. absurd (true≢false (sym h))), (λ n. let bad : ◌≡◌ {A = Option (List ℕ)} None (Some n.0) = sym none ∙ n.1 in absurd (cc)))

    or_false : (b : Bool) → b ≡ (b || false)
    or_false true = refl
    or_false false = refl

    abbrev good : List ℕ → Bool
    good t = s.valid_id t && (present (s.folder_of t) && not (is_some (first_claim s (s.folder_of t) rows)))

    good_valid : (t : List ℕ) → good t ≡ true → s.valid_id t ≡ true
    good_valid t h = (and_parts (s.valid_id t) _ h).0

    what_whole : (t : List ℕ) (g : Bool) → s.valid_id t ≡ true → cond g (KeptDir t (s.folder_of t)) (KeptBad t) ≡ what_of s (cond g (Dir t) (Bad t))
    what_whole t true v = refl
    what_whole t false v = ap KeptBad (sym (kept_whole t v))

    what_is : (t : List ℕ) → new_what s present claims (ShownText (kept_text t)) ≡ what_of s (cond (good t) (Dir t) (Bad t))
    what_is t = go (s.valid_id t) refl
      where
        go : (b : Bool) → s.valid_id t ≡ b → new_what s present claims (ShownText (kept_text t)) ≡ what_of s (cond (good t) (Dir t) (Bad t))
        go true e =
            ap (λ (z : List ℕ). new_what s present claims (ShownText z)) (kept_whole t e)
            ∙ ap (λ (b : Bool). cond (s.valid_id t && (present (s.folder_of t) && not b)) (KeptDir t (s.folder_of t)) (KeptBad t)) (loaded.named (s.folder_of t))
            ∙ what_whole t (good t) e
        go false e =
            let k : s.valid_id (kept_text t) ≡ false = kept_valid t ∙ e in
            let a : new_what s present claims (ShownText (kept_text t)) ≡ KeptBad (kept_text t) =
            ap (λ (b : Bool). cond (b && (present (s.folder_of (kept_text t)) && not (claims (s.folder_of (kept_text t))))) (KeptDir (kept_text t) (s.folder_of (kept_text t))) (KeptBad (kept_text t))) k in
            let b : what_of s (cond (good t) (Dir t) (Bad t)) ≡ KeptBad (kept_text t) =
            ap (λ (b : Bool). what_of s (cond (b && (present (s.folder_of t) && not (is_some (first_claim s (s.folder_of t) rows)))) (Dir t) (Bad t))) e in
            a ∙ sym b

    new_text : (t : List ℕ) → (x : Node) × (row_of s (folders_of s d) rows (found.name ∷ q) (Named t) ≡ (found.name ∷ q, x) ∷ [])
        × (new_what s present claims (ShownText (kept_text t)) ≡ what_of s x)
        × (IsTrue (names_again s claims (ShownText (kept_text t))) ↔ NamedAgain s rows (found.name ∷ q, x))
        × ((f : List ℕ) → with_claims s claims (ShownText (kept_text t)) f ≡ (claims f || claims_test (claimed s (Some x)) f))
    new_text t =
        let x : Node = cond (good t) (Dir t) (Bad t) in
        let named : (f : List ℕ) → claims_test (claimed s (Some x)) f ≡ (s.valid_id t && bytes_eq (s.folder_of t) f) = claims_is t (good t) (good_valid t) in (
          x,
          refl,
          what_is t,
          subst (λ (b : Bool). IsTrue b ↔ NamedAgain s rows (found.name ∷ q, x)) (sym (kept_and t (λ z. claims (s.folder_of z)))) (again_is x t named),
          λ f. ap (λ (b : Bool). claims f || b) (kept_and t (λ z. bytes_eq (s.folder_of z) f) ∙ sym (named f)),
        )

    new_is : (is : IsFound s d i found) (k : Kind) (shown : Shown) → ShowsAs k shown → (x : Node) × (row_of s (folders_of s d) rows (found.name ∷ q) k ≡ (found.name ∷ q, x) ∷ [])
        × (new_what s present claims shown ≡ what_of s x)
        × (IsTrue (names_again s claims shown) ↔ NamedAgain s rows (found.name ∷ q, x))
        × ((f : List ℕ) → with_claims s claims shown f ≡ (claims f || claims_test (claimed s (Some x)) f))
    new_is is (Plain b) (ShownFile size) h = (File b, refl, ap KeptFile (sym h), none_again (File b) refl, λ f. refl)
    new_is is (Plain b) (ShownLink size) h = absurd h
    new_is is (Plain b) (ShownText t) h = absurd h
    new_is is (Linked b) (ShownFile size) h = absurd h
    new_is is (Linked b) (ShownLink size) h = (Link b, refl, ap KeptLink (sym h), none_again (Link b) refl, λ f. refl)
    new_is is (Linked b) (ShownText t) h = absurd h
    new_is is Bare shown h = absurd h
    new_is is (Named t) (ShownFile size) h = absurd h
    new_is is (Named t) (ShownLink size) h = absurd h
    new_is is (Named t) (ShownText u) h = subst (λ (z : List ℕ). (x : Node) × (row_of s (folders_of s d) rows (found.name ∷ q) (Named t) ≡ (found.name ∷ q, x) ∷ [])
        × (new_what s present claims (ShownText z) ≡ what_of s x)
        × (IsTrue (names_again s claims (ShownText z)) ↔ NamedAgain s rows (found.name ∷ q, x))
        × ((f : List ℕ) → with_claims s claims (ShownText z) f ≡ (claims f || claims_test (claimed s (Some x)) f))) (sym h) (new_text t)

    -- a node as it was found is kept after the others
    pub found_more : (is : IsFound s d i found) → AreLoaded s d (rows ++ row_of s (folders_of s d) rows (found.name ∷ q) is.kind) turns
        (with_found s present claims parent tree found) (with_claims s claims found.shown)
    found_more is =
        let n = new_is is is.kind found.shown is.shows in
        subst (λ (z : List Row). AreLoaded s d (rows ++ z) turns (with_found s present claims parent tree found) (with_claims s claims found.shown)) (sym n.1)
        (loaded_more s d rows turns tree claims loaded few (found.name ∷ q, n.0) node (names_again s claims found.shown) (with_claims s claims found.shown)
        (record { what = n.2; place = place_is is; unmarked = refl; names_again = n.3; names = n.4 }))

-- ---- the entries of a directory

-- with an entry more there is its row more
pub kids-push : (s : Sealing) (v : Folders) (rows : List Row) (q : Path) (es : List (List ℕ × Kind)) (e : List ℕ × Kind) →
    kids s v rows q (es ++ e ∷ []) ≡ kids s v rows q es ++ row_of s v (rows ++ kids s v rows q es) (e.0 ∷ q) e.1
kids-push s v rows q [] e = append-nil (row_of s v rows (e.0 ∷ q) e.1) ∙ ap (λ (z : List Row). row_of s v z (e.0 ∷ q) e.1) (sym (append-nil rows))
kids-push s v rows q (f ∷ es) e =
    let row : List Row = row_of s v rows (f.0 ∷ q) f.1 in
    let rest : List Row = kids s v (rows ++ row) q es in
    ap (λ (z : List Row). row ++ z) (kids-push s v (rows ++ row) q es e)
    ∙ sym (append_assoc row rest (row_of s v ((rows ++ row) ++ rest) (e.0 ∷ q) e.1))
    ∙ ap (λ (z : List Row). (row ++ rest) ++ row_of s v z (e.0 ∷ q) e.1) (append_assoc rows row rest)
