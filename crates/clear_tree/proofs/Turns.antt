-- The turns of a load.
use Rattle.std.proofs.Common.{◌≡◌, ◌≢◌, ◌↔◌, ℕ, zero, suc, ◌+◌, ◌<◌, ◌≤◌, Bool, true, false, cond, bytes_eq, List, [], ◌∷◌, ◌++◌, append_assoc, append-nil, length, length-append, take, map, Option, Some, None, IsTrue, IsSome, is_some, Contains, refl, sym, ap, ◌∙◌, subst, inl, inr, ◌⊎◌, arith, slice_get, true≢false}
use Rattle.std.specs.declared.cmp.Ordering.TheVariants.{Less}
use Rattle.std.specs.List.{AllByRecursion}
use Rattle.std.specs.List.Sorted.{IsStrictlySortedBy}
use Rattle.std.specs.Ordering.{nat_cmp}
use Rattle.std.specs.Cmp.Lexicographic.{slice_cmp}
use Rattle.std.specs.Option.{option_map}
use Rattle.std.proofs.lemmas.List.{length-map, length-take-le}
use Rattle.std.proofs.lemmas.Map.Keys.{sorted_head, sorted_tail}
use Rattle.std.proofs.lemmas.Option.{slice_get_within, slice_get-map}
use Rattle.std.proofs.lemmas.Bool.{cases_lt, and_parts}
use Rattle.outside.specs.Disk.{Disk, Node as Thing, folder as Folder, file as Bytes, IsFolder}
use Rattle.clear_tree.specs.Walk.{Path, Sealing, Folders, Kind, Bare, Plain, Linked, Named, Node, File, Link, Dir, Bad, look, node_at, is_good, IsOwner}
use Rattle.clear_tree.specs.Places.{folders_of, host_folder, is_folder}
use Rattle.clear_tree.specs.Marks.{HasForeign}
use Rattle.clear_tree.specs.Queue.{Row, kids, row_of, In, Ascending, AreEntries, AreEntriesOf, IsWalk, Begun, Turned}
use Rattle.clear_tree.specs.Rows.{number_of}
use Rattle.clear_tree.specs.Kept.{KeptNode, KeptTree, KeptDir, what_of}
use Rattle.clear_tree.specs.Scan.{Found, ShowsAs, IsFound, IsScanned, names_of}
use Rattle.clear_tree.specs.Loading.{IsKeptRoot, IsKeptAt, IsKeptRow, NamesTwice, AreLoaded, IsLoading, AreShown, AreAdded, KeepsIdentifiers, HasNodes, with_found, with_claims}
use Rattle.clear_tree.proofs.Places.{get_left, in_at, contains_at, at_contains}
use Rattle.clear_tree.proofs.Loading.{found_more, kids-push}
use Rattle.clear_tree.proofs.Loaded.{number_one}
use Rattle.clear_tree.proofs.Owner.{below_dir}
use Rattle.clear_tree.proofs.Queue.{name_cmp, Walked, walked, owner_of, follows_itself}
use Rattle.clear_tree.proofs.Prefix.{walk_rows}

-- ---- the entries of a directory, as they were found

contains_head : {A : Type 0} (x : A) (xs : List A) → Contains (x ∷ xs) x
contains_head x xs = at_contains (x ∷ xs) 0 x refl

contains_tail : {A : Type 0} (y x : A) (xs : List A) → Contains xs x → Contains (y ∷ xs) x
contains_tail y x xs h = let a : (k : ℕ) × (slice_get xs k ≡ Some x) = contains_at xs x h in at_contains (y ∷ xs) (suc a.0) x a.1

contains_cases : {A : Type 0} (y x : A) (xs : List A) → Contains (y ∷ xs) x → (y ≡ x) ⊎ Contains xs x
contains_cases y x xs h = let a : (k : ℕ) × (slice_get (y ∷ xs) k ≡ Some x) = contains_at (y ∷ xs) x h in go a.0 a.1
  where
    go : (k : ℕ) → slice_get (y ∷ xs) k ≡ Some x → (y ≡ x) ⊎ Contains xs x
    go zero e = inl (cc)
    go (suc k) e = inr (at_contains xs k x e)

module _ (s : Sealing) (d : Disk) (i : List ℕ) where
  abbrev v : Folders
  v = folders_of s d

  pub shown-push : (found : List Found) (es : List (List ℕ × Kind)) (f : Found) (is : IsFound s d i f) → AreShown s d i found es → AreShown s d i (found ++ f ∷ []) (es ++ (f.name, is.kind) ∷ [])
  shown-push [] [] f is h = ((is, refl), tt)
  shown-push [] (e ∷ es) f is h = absurd h
  shown-push (g ∷ found) [] f is h = absurd h
  shown-push (g ∷ found) (e ∷ es) f is h = (h.0, shown-push found es f is h.1)

  shown_sound : (found : List Found) (es : List (List ℕ × Kind)) → AreShown s d i found es → (e : List ℕ × Kind) → In e es → look s v i e.0 ≡ Some e.1
  shown_sound [] [] h e m = absurd m
  shown_sound [] (g ∷ es) h e m = absurd h
  shown_sound (f ∷ found) [] h e m = absurd h
  shown_sound (f ∷ found) (g ∷ es) h e (inl is) =
      subst (λ (z : List ℕ × Kind). look s v i z.0 ≡ Some z.1) (sym (is ∙ h.0.1)) h.0.0.looked
  shown_sound (f ∷ found) (g ∷ es) h e (inr m) = shown_sound found es h.1 e m

  shown_complete : (found : List Found) (es : List (List ℕ × Kind)) → AreShown s d i found es → (n : List ℕ) → Contains (names_of found) n → (k : Kind) → look s v i n ≡ Some k → In (n, k) es
  shown_complete [] es h n c k l = let a : (j : ℕ) × (slice_get [] j ≡ Some n) = contains_at [] n c in absurd (none a.0 a.1)
    where
      none : (j : ℕ) → slice_get {X = List ℕ} [] j ≡ Some n → ⊥
      none j e = cc
  shown_complete (f ∷ found) [] h n c k l = absurd h
  shown_complete (f ∷ found) (g ∷ es) h n c k l = go (contains_cases f.name n (names_of found) c) (shown_complete found es h.1 n)
    where
      go : (f.name ≡ n) ⊎ Contains (names_of found) n → (Contains (names_of found) n → (k : Kind) → look s v i n ≡ Some k → In (n, k) es) → In (n, k) (g ∷ es)
      go (inl e) rest =
          let both : ◌≡◌ {A = Option Kind} (Some k) (Some h.0.0.kind) = sym l ∙ ap (look s v i) (sym e) ∙ h.0.0.looked in
          let same : k ≡ h.0.0.kind = cc in
          inl ((λ j. (sym e j, same j)) ∙ sym h.0.1)
      go (inr m) rest = inr (rest m k l)

  shown_after : (found : List Found) (es : List (List ℕ × Kind)) → AreShown s d i found es → (n : List ℕ) → ((m : List ℕ) → Contains (names_of found) m → slice_cmp nat_cmp n m ≡ Less) →
      (e : List ℕ × Kind) → In e es → slice_cmp nat_cmp n e.0 ≡ Less
  shown_after [] [] h n less e m = absurd m
  shown_after [] (g ∷ es) h n less e m = absurd h
  shown_after (f ∷ found) [] h n less e m = absurd h
  shown_after (f ∷ found) (g ∷ es) h n less e (inl is) =
      subst (λ (z : List ℕ × Kind). slice_cmp nat_cmp n z.0 ≡ Less) (sym (is ∙ h.0.1)) (less f.name (contains_head f.name (names_of found)))
  shown_after (f ∷ found) (g ∷ es) h n less e (inr m) = shown_after found es h.1 n (λ x c. less x (contains_tail f.name x (names_of found) c)) e m

  each_less : (n : List ℕ) (ns : List (List ℕ)) → AllByRecursion (λ y. slice_cmp nat_cmp n y ≡ Less) ns → (m : List ℕ) → Contains ns m → slice_cmp nat_cmp n m ≡ Less
  each_less n ns all m c = let a : (j : ℕ) × (slice_get ns j ≡ Some m) = contains_at ns m c in go ns all a.0 a.1
    where
      go : (ns : List (List ℕ)) → AllByRecursion (λ y. slice_cmp nat_cmp n y ≡ Less) ns → (j : ℕ) → slice_get ns j ≡ Some m → slice_cmp nat_cmp n m ≡ Less
      go [] h j e = absurd (cc)
      go (x ∷ xs) h zero e = let is : x ≡ m = cc in subst (λ (z : List ℕ). slice_cmp nat_cmp n z ≡ Less) is h.0
      go (x ∷ xs) h (suc j) e = go xs h.1 j e

  shown_ascend : (found : List Found) (es : List (List ℕ × Kind)) → AreShown s d i found es → IsStrictlySortedBy (slice_cmp nat_cmp) (names_of found) → Ascending name_cmp es
  shown_ascend [] [] h sorted = tt
  shown_ascend [] (g ∷ es) h sorted = absurd h
  shown_ascend (f ∷ found) [] h sorted = absurd h
  shown_ascend (f ∷ found) (g ∷ es) h sorted = (
    λ e m. subst (λ (z : List ℕ × Kind). slice_cmp nat_cmp z.0 e.0 ≡ Less) (sym h.0.1)
        (shown_after found es h.1 f.name (each_less f.name (names_of found) (sorted_head (slice_cmp nat_cmp) f.name (names_of found) sorted)) e m),
    shown_ascend found es h.1 (sorted_tail (slice_cmp nat_cmp) f.name (names_of found) sorted),
  )

  -- what was scanned is the directory's entries
  pub scanned_entries : (found : List Found) (foreign : Bool) (es : List (List ℕ × Kind)) → IsScanned s d i found foreign → AreShown s d i found es → AreEntries s v i es
  scanned_entries found foreign es is shown = record {
    sound = shown_sound found es shown;
    complete = λ m k l nb. shown_complete found es shown m (is.complete m k l nb) k l;
    ascending = shown_ascend found es shown is.ascending;
  }

  shown_kind : (f : Found) (k : Kind) → ShowsAs k f.shown → k ≢ Bare
  shown_kind f k h e = subst (λ (z : Kind). ShowsAs z f.shown) e h

  row_one : (rows : List Row) (p : Path) (k : Kind) → k ≢ Bare → length (row_of s v rows p k) ≡ 1
  row_one rows p (Plain b) h = refl
  row_one rows p (Linked b) h = refl
  row_one rows p (Named t) h = refl
  row_one rows p Bare h = absurd (h refl)

  -- each has one row
  pub length-kids : (rows : List Row) (q : Path) (found : List Found) (es : List (List ℕ × Kind)) → AreShown s d i found es → length (kids s v rows q es) ≡ length found
  length-kids rows q [] [] h = refl
  length-kids rows q [] (e ∷ es) h = absurd h
  length-kids rows q (f ∷ found) [] h = absurd h
  length-kids rows q (f ∷ found) (e ∷ es) h =
      let row : List Row = row_of s v rows (e.0 ∷ q) e.1 in
      let bare : e.1 ≢ Bare = subst (λ (z : List ℕ × Kind). z.1 ≢ Bare) (sym h.0.1) (shown_kind f h.0.0.kind h.0.0.shows) in
      let one : length row ≡ 1 = row_one rows (e.0 ∷ q) e.1 bare in
      let rest : length (kids s v (rows ++ row) q es) ≡ length found = length-kids (rows ++ row) q found es h.1 in
      let all : length (row ++ kids s v (rows ++ row) q es) ≡ length row + length (kids s v (rows ++ row) q es) = length-append row (kids s v (rows ++ row) q es) in
      omega (arith, one, rest, all)

  -- entries for what was found
  pub found_entries : (found : List Found) → ((f : Found) → Contains found f → IsFound s d i f) → (es : List (List ℕ × Kind)) × AreShown s d i found es
  found_entries [] each = ([], tt)
  found_entries (f ∷ found) each =
      let rest : (es : List (List ℕ × Kind)) × AreShown s d i found es = found_entries found (λ g c. each g (contains_tail f g found c)) in
      let is : IsFound s d i f = each f (contains_head f found) in
      ((f.name, is.kind) ∷ rest.0, ((is, refl), rest.1))

  -- ---- one node more

  pub added_none : (rows : List Row) (turns : ℕ) (q : Path) (tree : KeptTree) (claims : List ℕ → Bool) → AreLoaded s d rows turns tree claims → AreAdded s d rows turns q i [] tree claims
  added_none rows turns q tree claims l = record { entries = []; shown = tt; loaded = subst (λ (z : List Row). AreLoaded s d z turns tree claims) (sym (append-nil rows)) l }

  pub added_more : KeepsIdentifiers s → (rows : List Row) (turns parent : ℕ) (q : Path) (found : List Found) (tree : KeptTree) (claims : List ℕ → Bool) (f : Found) →
      turns ≤ length rows → slice_get rows parent ≡ Some (q, Dir i) → IsFound s d i f → AreAdded s d rows turns q i found tree claims →
      AreAdded s d rows turns q i (found ++ f ∷ []) (with_found s v.present claims parent tree f) (with_claims s claims f.shown)
  added_more keeps rows turns parent q found tree claims f few at is a =
      let all : List Row = rows ++ kids s v rows q a.entries in
      let len : length all ≡ length rows + length (kids s v rows q a.entries) = length-append rows (kids s v rows q a.entries) in
      let here : AreLoaded s d (all ++ row_of s v all (f.name ∷ q) is.kind) turns (with_found s v.present claims parent tree f) (with_claims s claims f.shown) =
      found_more s keeps d all turns tree claims a.loaded (omega (arith, few, len)) parent q i (get_left rows (kids s v rows q a.entries) parent (q, Dir i) at) f is in
      record {
        entries = a.entries ++ (f.name, is.kind) ∷ [];
        shown = shown-push found a.entries f is a.shown;
        loaded = subst (λ (z : List Row). AreLoaded s d z turns (with_found s v.present claims parent tree f) (with_claims s claims f.shown))
            (append_assoc rows (kids s v rows q a.entries) (row_of s v all (f.name ∷ q) is.kind)
            ∙ ap (λ (z : List Row). rows ++ z) (sym (kids-push s v rows q a.entries (f.name, is.kind)))) here;
      }

-- ---- turns

pub nat_cases : (a b : ℕ) → (a ≡ b) ⊎ (a ≢ b)
nat_cases a b = go (cases_lt a b) (cases_lt b a)
  where
    go : (a < b) ⊎ (b ≤ a) → (b < a) ⊎ (a ≤ b) → (a ≡ b) ⊎ (a ≢ b)
    go (inl l) m = inr (λ e. omega (arith, l, e))
    go (inr l) (inl m) = inr (λ e. omega (arith, m, e))
    go (inr l) (inr m) = inl (omega (arith, l, m))

-- the row whose turn it is
pub record IsNext (s : Sealing) (d : Disk) (turns : ℕ) (tree : KeptTree) (claims : List ℕ → Bool) : Type 0 where
  pub done : List Row
  pub row : Row
  pub todo : List Row
  pub walk : IsWalk s (folders_of s d) done (row ∷ todo)
  pub turned : length done ≡ turns
  pub loaded : AreLoaded s d (done ++ row ∷ todo) turns tree claims
  pub here : slice_get (done ++ row ∷ todo) turns ≡ Some row

get_seam : {A : Type 0} (xs ys : List A) (x : A) → slice_get (xs ++ x ∷ ys) (length xs) ≡ Some x
get_seam [] ys x = refl
get_seam (z ∷ xs) ys x = get_seam xs ys x

pub next_row : (s : Sealing) (d : Disk) (turns : ℕ) (tree : KeptTree) (claims : List ℕ → Bool) → IsLoading s d turns tree claims → turns < length tree.nodes → IsNext s d turns tree claims
next_row s d turns tree claims is late = go is.todo is.walk is.loaded
  where
    go : (todo : List Row) → IsWalk s (folders_of s d) is.done todo → AreLoaded s d (is.done ++ todo) turns tree claims → IsNext s d turns tree claims
    go [] walk loaded =
        let c : length tree.nodes ≡ length (is.done ++ []) = loaded.count in
        let l : length (is.done ++ []) ≡ length is.done = ap (λ (z : List Row). length z) (append-nil is.done) in
        let t : length is.done ≡ turns = is.turned in
        absurd (omega (arith, c, l, t, late))
    go (r ∷ todo) walk loaded = record {
      done = is.done;
      row = r;
      todo = todo;
      walk = walk;
      turned = is.turned;
      loaded = loaded;
      here = ap (slice_get (is.done ++ r ∷ todo)) (sym is.turned) ∙ get_seam is.done todo r;
    }

-- a load begins with the root alone
pub begun : (s : Sealing) (d : Disk) (tree : KeptTree) (claims : List ℕ → Bool) (node : KeptNode) → tree.nodes ≡ node ∷ [] → IsKeptRoot node → node.what ≡ KeptDir [] (s.folder_of []) → node.foreign ≡ false →
    tree.twice ≡ false → ((f : List ℕ) → claims f ≡ bytes_eq (s.folder_of []) f) → IsLoading s d 0 tree claims
begun s d tree claims node alone root what plain twice named = record {
  done = [];
  todo = ([], Dir []) ∷ [];
  walk = Begun;
  turned = refl;
  loaded = record {
    count = ap (λ (z : List KeptNode). length z) alone;
    each = λ k row n h g. each k row n h (ap (λ (z : List KeptNode). slice_get z k) (sym alone) ∙ g);
    twice = ((λ t. absurd (true≢false (sym t ∙ twice))), (λ t. absurd (never t.one t.other t.b t.before t.second)));
    named = λ f. named f ∙ test (bytes_eq (s.folder_of []) f) [];
  };
}
  where
    test : (b : Bool) (p : Path) → b ≡ is_some (cond b (Some p) None)
    test true p = refl
    test false p = refl

    never : (i j : ℕ) (b : Row) → i < j → slice_get (([], Dir []) ∷ []) j ≡ Some b → ⊥
    never i j b l h = let m : j < 1 = slice_get_within (([], Dir []) ∷ []) j b h in omega (arith, l, m)

    each : (k : ℕ) (row : Row) (n : KeptNode) → slice_get (([], Dir []) ∷ []) k ≡ Some row → slice_get (node ∷ []) k ≡ Some n → IsKeptRow s d (([], Dir []) ∷ []) 0 k row n
    each (suc k) row n h g = absurd (cc)
    each zero row n h g =
        let r : ([], Dir []) ≡ row = cc in
        let m : node ≡ n = cc in
        subst (λ (z : Row). IsKeptRow s d (([], Dir []) ∷ []) 0 zero z n) r
        (subst (λ (z : KeptNode). IsKeptRow s d (([], Dir []) ∷ []) 0 zero ([], Dir []) z) m
        (record { what = what; place = root; marked = λ l. absurd (omega (arith, l)); unmarked = λ l. plain }))

-- nodes that are those of before but for the mark of one
pub record IsMarked (old new : List KeptNode) (number : ℕ) (foreign : Bool) : Type 0 where
  pub count : length new ≡ length old
  pub others : (k : ℕ) (node : KeptNode) → k ≢ number → slice_get new k ≡ Some node → slice_get old k ≡ Some node
  pub one : (node : KeptNode) → slice_get new number ≡ Some node → (was : KeptNode) × (slice_get old number ≡ Some was) × (node ≡ record was { foreign = foreign })

module _ (s : Sealing) (d : Disk) (turns : ℕ) (tree : KeptTree) (claims : List ℕ → Bool) (next : IsNext s d turns tree claims) where
  abbrev rows : List Row
  rows = next.done ++ next.row ∷ next.todo

  -- the node whose turn it is
  pub what_is : (node : KeptNode) → slice_get tree.nodes turns ≡ Some node → node.what ≡ what_of s next.row.1
  what_is node h = (next.loaded.each turns next.row node next.here h).what

  dir_is : (x : Node) (i folder : List ℕ) → KeptDir i folder ≡ what_of s x → (x ≡ Dir i) × (folder ≡ s.folder_of i)
  dir_is (File b) i folder h = absurd (cc)
  dir_is (Link b) i folder h = absurd (cc)
  dir_is (Bad t) i folder h = absurd (cc)
  dir_is (Dir j) i folder h =
      let e : i ≡ j = cc in
      let f : folder ≡ s.folder_of j = cc in
      (ap Dir (sym e), f ∙ ap s.folder_of (sym e))

  -- a directory's node has its folder
  pub opened : (node : KeptNode) (i folder : List ℕ) → slice_get tree.nodes turns ≡ Some node → node.what ≡ KeptDir i folder → (slice_get rows turns ≡ Some (next.row.0, Dir i)) × (folder ≡ s.folder_of i)
  opened node i folder h w =
      let a : (next.row.1 ≡ Dir i) × (folder ≡ s.folder_of i) = dir_is next.row.1 i folder (sym w ∙ what_is node h) in
      (next.here ∙ ap (λ (x : Node). Some (next.row.0, x)) a.0, a.1)

  -- the turn of a row with these entries
  turned_by : (es : List (List ℕ × Kind)) → AreEntriesOf s (folders_of s d) next.row.1 es → (tree' : KeptTree) (claims' : List ℕ → Bool) →
      AreLoaded s d (rows ++ kids s (folders_of s d) rows next.row.0 es) (suc turns) tree' claims' → IsLoading s d (suc turns) tree' claims'
  turned_by es are tree' claims' loaded = record {
    done = next.done ++ next.row ∷ [];
    todo = next.todo ++ kids s (folders_of s d) rows next.row.0 es;
    walk = Turned next.done next.todo next.row es are next.walk;
    turned = (let l : length (next.done ++ next.row ∷ []) ≡ length next.done + 1 = length-append next.done (next.row ∷ []) in let t : length next.done ≡ turns = next.turned in omega (arith, l, t));
    loaded = subst (λ (z : List Row). AreLoaded s d z (suc turns) tree' claims')
        (append_assoc next.done (next.row ∷ next.todo) (kids s (folders_of s d) rows next.row.0 es) ∙ sym (append_assoc next.done (next.row ∷ []) (next.todo ++ kids s (folders_of s d) rows next.row.0 es))) loaded;
  }

  -- a mark more
  marked_row : (all : List Row) (tree' tree'' : KeptTree) (b : Bool) → slice_get all turns ≡ Some next.row → IsMarked tree'.nodes tree''.nodes turns b → IsTrue b ↔ HasForeign s d (Some next.row.1) →
      ((k : ℕ) (row : Row) (node : KeptNode) → slice_get all k ≡ Some row → slice_get tree'.nodes k ≡ Some node → IsKeptRow s d all turns k row node) →
      (k : ℕ) (row : Row) (node : KeptNode) → slice_get all k ≡ Some row → slice_get tree''.nodes k ≡ Some node → IsKeptRow s d all (suc turns) k row node
  marked_row all tree' tree'' b at marked told each k row node h g = go (nat_cases k turns)
    where
      other : k ≢ turns → IsKeptRow s d all (suc turns) k row node
      other ne =
          let is : IsKeptRow s d all turns k row node = each k row node h (marked.others k node ne g) in record {
            what = is.what;
            place = is.place;
            marked = λ l. is.marked (omega (arith, l, ne));
            unmarked = λ l. is.unmarked (omega (arith, l));
          }

      this : k ≡ turns → IsKeptRow s d all (suc turns) k row node
      this e =
          let w : (was : KeptNode) × (slice_get tree'.nodes turns ≡ Some was) × (node ≡ record was { foreign = b }) = marked.one node (ap (slice_get tree''.nodes) (sym e) ∙ g) in
          let both : ◌≡◌ {A = Option Row} (Some row) (Some next.row) = sym h ∙ ap (slice_get all) e ∙ at in
          let same : row ≡ next.row = cc in
          let is : IsKeptRow s d all turns turns next.row w.0 = each turns next.row w.0 at w.1 in
          let new : IsKeptRow s d all (suc turns) k next.row (record w.0 { foreign = b }) = record {
            what = is.what;
            place = placed next.row.0 w.0 is.place;
            marked = λ l. told;
            unmarked = λ l. absurd (omega (arith, l, e));
          } in
          subst (λ (z : Row). IsKeptRow s d all (suc turns) k z node) (sym same) (subst (λ (z : KeptNode). IsKeptRow s d all (suc turns) k next.row z) (sym w.2) new)
        where
          placed : (p : Path) (was : KeptNode) → IsKeptAt s d all p was → IsKeptAt s d all p (record was { foreign = b })
          placed [] was at = record { own = at.own; name = at.name; entry = at.entry; short = at.short; alone = at.alone }
          placed (n ∷ q) was at = record { identifier = at.identifier; inside = at.inside; named = at.named; entry = at.entry; long = at.long; shadowed = at.shadowed }

      go : (k ≡ turns) ⊎ (k ≢ turns) → IsKeptRow s d all (suc turns) k row node
      go (inl e) = this e
      go (inr ne) = other ne

  -- a directory's turn: its nodes were added and its mark set
  pub turn_dir : (i : List ℕ) (found : List Found) (b : Bool) (tree' tree'' : KeptTree) (claims' : List ℕ → Bool) → slice_get rows turns ≡ Some (next.row.0, Dir i) →
      IsScanned s d i found b → AreAdded s d rows turns next.row.0 i found tree' claims' → IsMarked tree'.nodes tree''.nodes turns b → tree''.twice ≡ tree'.twice → IsLoading s d (suc turns) tree'' claims'
  turn_dir i found b tree' tree'' claims' at scanned added marked twice =
      let es : List (List ℕ × Kind) = added.entries in
      let all : List Row = rows ++ kids s (folders_of s d) rows next.row.0 es in
      let both : ◌≡◌ {A = Option Row} (Some next.row) (Some (next.row.0, Dir i)) = sym next.here ∙ at in
      let row_is : next.row ≡ (next.row.0, Dir i) = cc in
      let dir : next.row.1 ≡ Dir i = ap (λ (z : Row). z.1) row_is in
      let are : AreEntriesOf s (folders_of s d) next.row.1 es = subst (λ (z : Node). AreEntriesOf s (folders_of s d) z es) (sym dir) (scanned_entries s d i found b es scanned added.shown) in
      let told : IsTrue b ↔ HasForeign s d (Some next.row.1) = subst (λ (z : Node). IsTrue b ↔ HasForeign s d (Some z)) (sym dir) scanned.marked in
      turned_by es are tree'' claims' (record {
        count = marked.count ∙ added.loaded.count;
        each = marked_row all tree' tree'' b (get_left rows (kids s (folders_of s d) rows next.row.0 es) turns next.row next.here) marked told added.loaded.each;
        twice = subst (λ (z : Bool). IsTrue z ↔ NamesTwice s all) (sym twice) added.loaded.twice;
        named = added.loaded.named;
      })

  -- the turn of another node
  pub turn_other : AreEntriesOf s (folders_of s d) next.row.1 [] → (HasForeign s d (Some next.row.1) → ⊥) → IsLoading s d (suc turns) tree claims
  turn_other are none =
      let each : (k : ℕ) (row : Row) (node : KeptNode) → slice_get rows k ≡ Some row → slice_get tree.nodes k ≡ Some node → IsKeptRow s d rows (suc turns) k row node =
      λ k row node h g. passed_row k row node h g (next.loaded.each k row node h g) in
      turned_by [] are tree claims (subst (λ (z : List Row). AreLoaded s d z (suc turns) tree claims) (sym (append-nil rows))
      (record { count = next.loaded.count; each = each; twice = next.loaded.twice; named = next.loaded.named }))
    where
      passed_row : (k : ℕ) (row : Row) (node : KeptNode) → slice_get rows k ≡ Some row → slice_get tree.nodes k ≡ Some node → IsKeptRow s d rows turns k row node → IsKeptRow s d rows (suc turns) k row node
      passed_row k row node h g is = record {
        what = is.what;
        place = is.place;
        marked = λ l. go l (nat_cases k turns);
        unmarked = λ l. is.unmarked (omega (arith, l));
      }
        where
          go : k < suc turns → (k ≡ turns) ⊎ (k ≢ turns) → IsTrue node.foreign ↔ HasForeign s d (Some row.1)
          go l (inr ne) = is.marked (omega (arith, l, ne))
          go l (inl e) =
              let both : ◌≡◌ {A = Option Row} (Some row) (Some next.row) = sym h ∙ ap (slice_get rows) e ∙ next.here in
              let same : row ≡ next.row = cc in
              let plain : node.foreign ≡ false = is.unmarked (omega (arith, e)) in
              ((λ t. absurd (true≢false (sym t ∙ plain))), (λ f. absurd (none (subst (λ (z : Row). HasForeign s d (Some z.1)) same f))))

-- ---- too many nodes

take_get : {A : Type 0} (n : ℕ) (xs : List A) (k : ℕ) (x : A) → slice_get (take n xs) k ≡ Some x → slice_get xs k ≡ Some x
take_get zero xs k x h = absurd (cc)
take_get (suc n) [] k x h = h
take_get (suc n) (y ∷ xs) zero x h = h
take_get (suc n) (y ∷ xs) (suc k) x h = take_get n xs k x h

-- the rows of a turn that has these entries are nodes
pub has_nodes : (s : Sealing) (d : Disk) (count : ℕ) (done todo : List Row) → IsWalk s (folders_of s d) done todo → count ≤ length (done ++ todo) → HasNodes s d count
has_nodes s d count done todo walk many = record {
  paths = map (λ (r : Row). r.0) (take count (done ++ todo));
  many = length-map (take count (done ++ todo)) (λ (r : Row). r.0) ∙ length-take-le count (done ++ todo) many;
  distinct = λ i j path h g. apart i j path (row_at i path h) (row_at j path g);
  nodes = λ owner own path c. there owner own path (contains_at (map (λ (r : Row). r.0) (take count (done ++ todo))) path c);
}
  where
    w : Walked s (folders_of s d) done todo
    w = walked s (folders_of s d) done todo walk

    row_at : (k : ℕ) (path : Path) → slice_get (map (λ (r : Row). r.0) (take count (done ++ todo))) k ≡ Some path → (r : Row) × (slice_get (done ++ todo) k ≡ Some r) × (r.0 ≡ path)
    row_at k path h =
        let e : option_map (λ (r : Row). r.0) (slice_get (take count (done ++ todo)) k) ≡ Some path = sym (slice_get-map (λ (r : Row). r.0) (take count (done ++ todo)) k) ∙ h in
        go (slice_get (take count (done ++ todo)) k) refl e
      where
        go : (o : Option Row) → slice_get (take count (done ++ todo)) k ≡ o → option_map (λ (r : Row). r.0) o ≡ Some path → (r : Row) × (slice_get (done ++ todo) k ≡ Some r) × (r.0 ≡ path)
        go None at e = absurd (cc)
        go (Some r) at e = (r, take_get count (done ++ todo) k r at, cc)

    apart : (i j : ℕ) (path : Path) → (r : Row) × (slice_get (done ++ todo) i ≡ Some r) × (r.0 ≡ path) → (r : Row) × (slice_get (done ++ todo) j ≡ Some r) × (r.0 ≡ path) → i ≡ j
    apart i j path a b =
        sym (number_one (done ++ todo) w.ascending i a.0 a.1) ∙ ap (number_of (done ++ todo)) (a.2 ∙ sym b.2) ∙ number_one (done ++ todo) w.ascending j b.0 b.1

    there : (owner : List ℕ → Path) → IsOwner s (folders_of s d) owner → (path : Path) → (k : ℕ) × (slice_get (map (λ (r : Row). r.0) (take count (done ++ todo))) k ≡ Some path) → IsSome (node_at s (folders_of s d) owner path)
    there owner own path a =
        let r : (r : Row) × (slice_get (done ++ todo) a.0 ≡ Some r) × (r.0 ≡ path) = row_at a.0 path a.1 in
        let is : node_at s (folders_of s d) owner r.0.0 ≡ Some r.0.1 = walk_rows s (folders_of s d) owner own done todo walk r.0.0 r.0.1 (in_at (done ++ todo) a.0 r.0 r.1) in
        some_is (node_at s (folders_of s d) owner path) r.0.1 (ap (node_at s (folders_of s d) owner) (sym r.2) ∙ is)
      where
        some_is : (o : Option Node) (x : Node) → o ≡ Some x → IsSome o
        some_is o x e = ap is_some e

-- a directory whose nodes are too many for the tree
pub too_many : (s : Sealing) (d : Disk) (turns : ℕ) (tree : KeptTree) (claims : List ℕ → Bool) (next : IsNext s d turns tree claims) (i : List ℕ) (found : List Found) (b : Bool) (count : ℕ) →
    slice_get (next.done ++ next.row ∷ next.todo) turns ≡ Some (next.row.0, Dir i) → IsScanned s d i found b → count ≤ length tree.nodes + length found → HasNodes s d count
too_many s d turns tree claims next i found b count at scanned many =
    let rows : List Row = next.done ++ next.row ∷ next.todo in
    let e : (es : List (List ℕ × Kind)) × AreShown s d i found es = found_entries s d i found scanned.sound in
    let more : List Row = kids s (folders_of s d) rows next.row.0 e.0 in
    let both : ◌≡◌ {A = Option Row} (Some next.row) (Some (next.row.0, Dir i)) = sym next.here ∙ at in
    let row_is : next.row ≡ (next.row.0, Dir i) = cc in
    let are : AreEntriesOf s (folders_of s d) next.row.1 e.0 =
    subst (λ (z : Row). AreEntriesOf s (folders_of s d) z.1 e.0) (sym row_is) (scanned_entries s d i found b e.0 scanned e.1) in
    let same : length ((next.done ++ next.row ∷ []) ++ (next.todo ++ more)) ≡ length (rows ++ more) =
    ap (λ (z : List Row). length z) (append_assoc next.done (next.row ∷ []) (next.todo ++ more) ∙ sym (append_assoc next.done (next.row ∷ next.todo) more)) in
    let all : length (rows ++ more) ≡ length rows + length more = length-append rows more in
    let kid : length more ≡ length found = length-kids s d i rows next.row.0 found e.0 e.1 in
    let was : length tree.nodes ≡ length rows = next.loaded.count in
    has_nodes s d count (next.done ++ next.row ∷ []) (next.todo ++ more) (Turned next.done next.todo next.row e.0 are next.walk) (omega (arith, same, all, kid, was, many))

-- ---- folders

is_folder_there : (o : Option Thing) → is_folder o ≡ true → o ≡ Some Folder
is_folder_there None h = absurd (true≢false (sym h))
is_folder_there (Some Folder) h = refl
is_folder_there (Some (Bytes b)) h = absurd (true≢false (sym h))

-- the folder of each directory is there, if the root's is
pub folder_present : (s : Sealing) (d : Disk) (done todo : List Row) → IsWalk s (folders_of s d) done todo → IsFolder d (host_folder (s.folder_of [])) → (q : Path) (i : List ℕ) → In (q, Dir i) (done ++ todo) →
    IsFolder d (host_folder (s.folder_of i))
unfolding node_at
folder_present s d done todo walk root q i h =
    go q ((walked s (folders_of s d) done todo walk).sound (owner_of s (folders_of s d) (done ++ todo)) (follows_itself s (folders_of s d) (done ++ todo)) q (Dir i) h)
  where
    go : (q : Path) → node_at s (folders_of s d) (owner_of s (folders_of s d) (done ++ todo)) q ≡ Some (Dir i) → IsFolder d (host_folder (s.folder_of i))
    go [] is = let e : [] ≡ i = cc in subst (λ (z : List ℕ). IsFolder d (host_folder (s.folder_of z))) e root
    go (m ∷ p) is =
        let good : is_good s (folders_of s d) (owner_of s (folders_of s d) (done ++ todo)) (m ∷ p) i ≡ true =
        below_dir s (folders_of s d) (owner_of s (folders_of s d) (done ++ todo)) (m ∷ p) m (node_at s (folders_of s d) (owner_of s (folders_of s d) (done ++ todo)) p) i is in
        is_folder_there _ (and_parts _ _ (and_parts _ _ good).1).0
