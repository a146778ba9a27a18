-- What an entry of a directory's folder is, by its name and by what is there.
use Rattle.std.proofs.Common.{◌≡◌, ◌≢◌, ◌↔◌, ◌⊎◌, ℕ, ◌≤◌, Bool, true, false, cond, ◌&&◌, ◌||◌, not, List, [], ◌∷◌, ◌++◌, length, take, Option, Some, None, IsSome, IsTrue, refl, sym, ap, subst, ◌∙◌, inl, inr, arith}
use Rattle.std.specs.Str.{bytes_eq}
use Rattle.std.specs.Option.{option_map}
use Rattle.std.specs.FinMap.{get}
use Rattle.std.proofs.lemmas.List.{take_all, length-take}
use Rattle.std.proofs.lemmas.Slice.Eq.{bytes_eq-Decides}
use Rattle.outside.specs.Disk.{Disk, Node as Thing, folder as Folder, file as Bytes, IsFile, IsFolder, IsTree}
use Rattle.clear_tree.specs.Walk.{Sealing, Kind, Plain, Bare, is_name}
use Rattle.clear_tree.specs.Places.{text_dirid, text_name, text_dir, text_symlink, text_contents, host_folder, host_entry, host_inner, bytes_of, folder_kind, known, kind_where, long_kind as held_kind, either_kind, short_at as short_kind_at, folder_at, long_at, entry_at, seen_at, entry_where, entry_of}
use Rattle.clear_tree.specs.Marks.{IsNodeEntry, IsForeign, HasFurther, known_at}
use Rattle.clear_tree.specs.Kept.{is_absent}
use Rattle.clear_tree.specs.Scan.{ShowsAs}
use Rattle.tree_loading.specs.declared.found.FoundNode.{FoundNode}
use Rattle.tree_loading.specs.declared.found.Shown.{Shown}
use Rattle.tree_loading.specs.declared.found.Shown.TheVariants.{File, Link, Directory}
use Rattle.tree_loading.specs.declared.place.Showing.{Showing}
use Rattle.tree_loading.specs.Ciphers.{AreCiphers, is_long_entry}
use Rattle.tree_loading.specs.Scanned.{shown_of, found_of}
use Rattle.tree_loading.specs.Reading.{file_at, name_limit, name_in, short_at, known_file, HoldsFurther}
use Rattle.tree_loading.specs.Showing.{IsPlace}
use Rattle.tree_loading.specs.Entries.{IsThere, IsOpened, IsLongName, IsNoLongName, IsNodeOf, HasNoNode}

-- ---- options and tests

same_bytes : (xs ys : List ℕ) → bytes_eq xs ys ≡ true → xs ≡ ys
same_bytes xs ys h = (bytes_eq-Decides xs ys).0 h

named : (n : List ℕ) (o : Option (List ℕ)) → is_name n o ≡ true → o ≡ Some n
named n None h = absurd cc
named n (Some m) h = ap Some (same_bytes m n h)

naming : (n : List ℕ) (o : Option (List ℕ)) → o ≡ Some n → is_name n o ≡ true
naming n None h = absurd cc
naming n (Some m) h = let e : m ≡ n = cc in (bytes_eq-Decides m n).1 e

shown_where : (b : Bool) (x : Option Kind) (k : Kind) → cond b x None ≡ Some k → (b ≡ true) × (x ≡ Some k)
shown_where true x k h = (refl, h)
shown_where false x k h = absurd cc

shown_there : (b c : Bool) (x : Option Kind) (k : Kind) → b ≡ true → c ≡ true → x ≡ Some k → cond b (cond c x None) None ≡ Some k
shown_there true true x k p q h = h
shown_there true false x k p q h = absurd cc
shown_there false c x k p q h = absurd cc

part_where : (b : Bool) (x : Option Thing) → cond b x None ≢ None → b ≡ true
part_where true x h = refl
part_where false x h = absurd (h refl)

kept_where : (b : Bool) (kind k : Kind) → kind_where b kind ≡ Some k → (b ≡ true) × (kind ≡ k)
kept_where true kind k h = (refl, cc)
kept_where false kind k h = absurd cc

held_where : (t : List ℕ) (x : Option (List ℕ)) (kind k : Kind) → held_kind t x kind ≡ Some k → (x ≡ Some t) × (kind ≡ k)
held_where t None kind k h = absurd cc
held_where t (Some x) kind k h = let w = kept_where (bytes_eq x t) kind k h in (ap Some (same_bytes x t w.0), w.1)

held_there : (t : List ℕ) (x : Option (List ℕ)) (kind : Kind) → x ≡ Some t → held_kind t x kind ≡ Some kind
held_there t None kind h = absurd cc
held_there t (Some x) kind h = let e : x ≡ t = cc in ap (λ (b : Bool). kind_where b kind) ((bytes_eq-Decides x t).1 e)

-- an entry is at its short place, or else at the long one
by_place : (e : Option Thing) (t l : List ℕ) (short : Kind) (long : Option Kind) (k : Kind) → either_kind e short long ≡ Some k
    → ((entry_where e t l ≡ t) × (either_kind e short None ≡ Some k) × (e ≢ None)) ⊎ ((e ≡ None) × (entry_where e t l ≡ l) × (long ≡ Some k))
by_place None t l short long k h = inr (refl, refl, h)
by_place (Some Folder) t l short long k h = inl (refl, h, λ (e : Some Folder ≡ None). cc)
by_place (Some (Bytes c)) t l short long k h = inl (refl, h, λ (e : Some (Bytes c) ≡ None). cc)

either_some : (e : Option Thing) (short : Kind) (long : Option Kind) (k : Kind) → e ≢ None → either_kind e short None ≡ Some k → either_kind e short long ≡ Some k
either_some None short long k some h = absurd (some refl)
either_some (Some Folder) short long k some h = h
either_some (Some (Bytes c)) short long k some h = h

entry_some : (e : Option Thing) (t l : List ℕ) → e ≢ None → entry_where e t l ≡ t
entry_some None t l some = absurd (some refl)
entry_some (Some x) t l some = refl

present : (e : Option Thing) → e ≢ None → is_absent e ≡ false
present None some = absurd (some refl)
present (Some x) some = refl

absent : (e : Option Thing) → is_absent e ≡ true → e ≡ None
absent None h = refl
absent (Some x) h = absurd cc

shown_some : (e : Option Thing) (short k : Kind) → either_kind e short None ≡ Some k → IsSome e
shown_some None short k h = absurd cc
shown_some (Some x) short k h = refl

bytes_some : (e : Option Thing) (t : List ℕ) → bytes_of e ≡ Some t → IsSome e
bytes_some None t h = absurd cc
bytes_some (Some x) t h = refl

-- ---- further entries

known_is : (dir link contents : Option (List ℕ)) (shown : Shown) → ShowsAs (folder_kind dir link contents) (shown_of shown) → known_file shown ≡ known dir link
known_is (Some t) link contents (File size) h = absurd h
known_is (Some t) link contents (Link size) h = absurd h
known_is (Some t) link contents (Directory text) h = refl
known_is None (Some t) contents (File size) h = absurd h
known_is None (Some t) contents (Link size) h = refl
known_is None (Some t) contents (Directory text) h = absurd h
known_is None None (Some c) (File size) h = refl
known_is None None (Some c) (Link size) h = absurd h
known_is None None (Some c) (Directory text) h = absurd h
known_is None None None shown h = absurd h

plain_is : (c : List ℕ) (shown : Shown) → ShowsAs (Plain c) (shown_of shown) → known_file shown ≡ text_contents
plain_is c (File size) h = refl
plain_is c (Link size) h = absurd h
plain_is c (Directory text) h = absurd h

-- an entry that isn't the known file, nor `name.c9s` of a long one
further_is : (x long y : Bool) → (not x && not (long && y)) ≡ true → (x ≡ false) × (long ≡ true → y ≡ false)
further_is true long y h = absurd cc
further_is false true true h = absurd cc
further_is false true false h = (refl, λ _. refl)
further_is false false y h = (refl, λ (e : false ≡ true). absurd cc)

is_further_from : (x long y : Bool) → (x ≡ true → ⊥) → (long ≡ true → y ≡ true → ⊥) → (not x && not (long && y)) ≡ true
is_further_from true long y p q = absurd (p refl)
is_further_from false true true p q = absurd (q refl refl)
is_further_from false true false p q = refl
is_further_from false false y p q = refl

unequal : (xs ys : List ℕ) → bytes_eq xs ys ≡ false → xs ≢ ys
unequal xs ys h e = let same : bytes_eq xs ys ≡ true = (bytes_eq-Decides xs ys).1 e in cc (h, same)

or_cases : (x y : Bool) → (x || y) ≡ true → (x ≡ true) ⊎ (y ≡ true)
or_cases true y h = inl refl
or_cases false y h = inr h

or_left : (x y : Bool) → x ≡ true → (x || y) ≡ true
or_left true y h = refl
or_left false y h = absurd cc

or_right : (x y : Bool) → y ≡ true → (x || y) ≡ true
or_right true y h = refl
or_right false y h = h

-- ---- the text of a long name, which is read up to a limit

pub held_text : (thing : Option Thing) (t : List ℕ) → length t ≤ 1392 → option_map (take name_limit) (bytes_of thing) ≡ Some t → thing ≡ Some (Bytes t)
held_text None t short h = absurd cc
held_text (Some Folder) t short h = absurd cc
held_text (Some (Bytes b)) t short h =
    let front : take 1393 b ≡ t = cc in
    let len : length b ≤ 1393 = omega (arith, length-take 1393 b, ap length front) in
    ap (λ (xs : List ℕ). Some (Bytes xs)) (sym (take_all 1393 b len) ∙ front)

pub text_held : (o : Option (List ℕ)) (t : List ℕ) → length t ≤ 1392 → o ≡ Some t → option_map (take name_limit) o ≡ Some t
text_held o t short h = ap (option_map (take name_limit)) h ∙ ap Some (take_all 1393 t (omega arith))

-- ---- trees

none_from : (o : Option Thing) → (IsSome o → ⊥) → o ≡ None
none_from None h = refl
none_from (Some x) h = absurd (h refl)

module _ (s : Sealing) (laws : AreCiphers s) (d : Disk) (i : List ℕ) where
  abbrev h : List ℕ
  h = s.folder_of i

  -- ---- the two ways in which an entry is a node's

  record IsShort (u : List ℕ) : Type 0 where
    pub name : List ℕ
    pub kind : Kind
    pub opens : s.open_name i u ≡ Some name
    pub text : s.is_text u ≡ true
    pub shown : either_kind (entry_at s d h u) (short_kind_at d h u) None ≡ Some kind
    pub part : s.is_part u ≡ true
    pub known : kind ≢ Bare

  record IsLong (u : List ℕ) : Type 0 where
    pub name : List ℕ
    pub text : List ℕ
    pub is : IsLongName s d i u name text
    pub absent : entry_at s d h text ≡ None
    pub known : folder_at d h u ≢ Bare

  node_cases : (u : List ℕ) → (is : IsNodeEntry s d i u) → ((a : IsShort u) × (a.name ≡ is.name)) ⊎ ((b : IsLong u) × (b.name ≡ is.name))
  node_cases u is =
      let t = s.seal i is.name in
      let seen = shown_where (is_name is.name (s.open_name i t)) (seen_at s d h t) is.kind is.shown in
      let opens : s.open_name i (s.seal i is.name) ≡ Some is.name = named is.name (s.open_name i t) seen.0 in
      let placed = shown_where (s.is_text t) (either_kind (entry_at s d h t) (short_kind_at d h t) (long_at d h (s.long_of t) t)) is.kind seen.1 in
      elim (by_place (entry_at s d h t) t (s.long_of t) (short_kind_at d h t) (long_at d h (s.long_of t) t) is.kind placed.1) [
        | inl p ↦
            let here : u ≡ s.seal i is.name = is.place ∙ p.0 in
            let good : s.is_part (s.seal i is.name) ≡ true = part_where (s.is_part t) (get d (host_entry h t)) p.2 in
            inl (
              record {
                name = is.name;
                kind = is.kind;
                opens = ap (s.open_name i) here ∙ opens;
                text = ap s.is_text here ∙ placed.0;
                shown = subst (λ (x : List ℕ). either_kind (entry_at s d h x) (short_kind_at d h x) None ≡ Some is.kind) (sym here) p.1;
                part = ap s.is_part here ∙ good;
                known = is.known;
              },
              refl,
            )
        | inr p ↦
            let here : u ≡ s.long_of (s.seal i is.name) = is.place ∙ p.1 in
            let held = held_where t (bytes_of (get d (host_inner h (s.long_of t) text_name))) (folder_at d h (s.long_of t)) is.kind p.2 in
            let same : folder_at d h u ≡ is.kind = ap (folder_at d h) here ∙ held.1 in
            let there : file_at d (host_inner h u text_name) ≡ Some (s.seal i is.name) = ap (λ (x : List ℕ). bytes_of (get d (host_inner h x text_name))) here ∙ held.0 in
            inr (
              record {
                name = is.name;
                text = s.seal i is.name;
                is = record {
                  holds = record { held = there; hashed = here; short = laws.short i is.name opens };
                  opened = record { opens = opens; sealed = refl };
                };
                absent = p.0;
                known = λ bare. is.known (sym same ∙ bare);
              },
              refl,
            )
      ]

  foreign_of : (u : List ℕ) → IsThere s d i u → (u ≡ text_dirid → IsFile d (host_entry h text_dirid) → ⊥) → (IsShort u → ⊥) → (IsLong u → ⊥) → IsForeign s d i u
  foreign_of u there copy short long = record {
    there = there.there;
    no_copy = copy;
    no_node = λ is. elim (node_cases u is) [ inl a ↦ short a.0 | inr b ↦ long b.0 ];
  }

  -- ---- an entry that no path can name

  part_of_long : (u : List ℕ) → IsLong u → s.is_part u ≡ true
  part_of_long u is = ap s.is_part is.is.holds.hashed ∙ laws.part is.text

  pub foreign_no_part : (u : List ℕ) → s.is_part text_dirid ≡ true → (s.is_part u ≡ true → ⊥) → IsThere s d i u → IsForeign s d i u
  foreign_no_part u copy no_part there =
      foreign_of u there (λ e _. no_part (ap s.is_part e ∙ copy)) (λ is. no_part is.part) (λ is. no_part (part_of_long u is))

  -- ---- `dirid.c9r`

  module _ (u : List ℕ) (copy : u ≡ text_dirid) where
    copy_short : IsShort u → ⊥
    copy_short is = let no_text : s.is_text u ≡ false = ap s.is_text copy ∙ laws.copy in cc (no_text, is.text)

    copy_long : IsLong u → ⊥
    copy_long is = let bad : false ≡ true = ap is_long_entry (sym copy ∙ is.is.holds.hashed) ∙ laws.long is.text in cc

    pub copy_passed : IsFile d (host_entry h u) → (IsForeign s d i u → ⊥) × (IsNodeEntry s d i u → ⊥)
    copy_passed file = (
      λ foreign. foreign.no_copy copy (subst (λ (x : List ℕ). IsFile d (host_entry h x)) copy file),
      λ is. elim (node_cases u is) [ inl a ↦ copy_short a.0 | inr b ↦ copy_long b.0 ],
    )

  -- ---- an entry is one node's at most, and is in the folder

  apart_long : (u : List ℕ) → IsShort u → IsLong u → ⊥
  apart_long u a b =
      let long : is_long_entry u ≡ true = ap is_long_entry b.is.holds.hashed ∙ laws.long b.text in
      let no_text : s.is_text u ≡ false = laws.no_text u long in
      cc (no_text, a.text)

  pub one_name : (u : List ℕ) (x y : IsNodeEntry s d i u) → x.name ≡ y.name
  one_name u x y = elim (node_cases u x) [
    | inl a ↦ elim (node_cases u y) [
      | inl b ↦ (let both : Some a.0.name ≡ Some b.0.name = sym a.0.opens ∙ b.0.opens in let same : a.0.name ≡ b.0.name = cc in sym a.1 ∙ same ∙ b.1)
      | inr b ↦ absurd (apart_long u a.0 b.0)
    ]
    | inr a ↦ elim (node_cases u y) [
      | inl b ↦ absurd (apart_long u b.0 a.0)
      | inr b ↦
          let held : Some a.0.text ≡ Some b.0.text = sym a.0.is.holds.held ∙ b.0.is.holds.held in
          let text : a.0.text ≡ b.0.text = cc in
          let both : Some a.0.name ≡ Some b.0.name = sym a.0.is.opened.opens ∙ ap (s.open_name i) text ∙ b.0.is.opened.opens in
          let same : a.0.name ≡ b.0.name = cc in
          sym a.1 ∙ same ∙ b.1
    ]
  ]

  pub entry_there : (u : List ℕ) → IsTree d → IsNodeEntry s d i u → IsSome (get d (host_entry h u))
  entry_there u tree is = elim (node_cases u is) [
    | inl a ↦
        let at : entry_at s d h u ≡ get d (host_entry h u) = ap (λ (b : Bool). cond b (get d (host_entry h u)) None) a.0.part in
        shown_some (get d (host_entry h u)) (short_kind_at d h u) a.0.kind (ap (λ (e : Option Thing). either_kind e (short_kind_at d h u) None) (sym at) ∙ a.0.shown)
    | inr b ↦
        let held : IsSome (get d (host_inner h u text_name)) = bytes_some (get d (host_inner h u text_name)) b.0.text b.0.is.holds.held in
        let folder : get d (host_entry h u) ≡ Some Folder = tree.parents (host_inner h u text_name) held in
        rw folder refl
  ]

  -- ---- further entries and twins

  module _ (n u : List ℕ) (at : entry_of s d h (s.seal i n) ≡ u) (long : Bool) (placed : long ≡ is_absent (entry_at s d h (s.seal i n))) (known_name : List ℕ) (is_known : known_name ≡ known_at d h u) where
    further_to : HoldsFurther d (host_entry h u) known_name long → HasFurther s d h (s.seal i n)
    further_to has =
        let apart = further_is (bytes_eq has.0 known_name) long (bytes_eq has.0 text_name) has.1 in
        let other : has.0 ≢ known_at d h u = λ e. unequal has.0 known_name apart.0 (e ∙ sym is_known) in
        record {
          entry = has.0;
          unknown = subst (λ (x : List ℕ). has.0 ≢ known_at d h x) (sym at) other;
          no_name = λ none. unequal has.0 text_name (apart.1 (placed ∙ ap is_absent none));
          there = subst (λ (x : List ℕ). get d (host_inner h x has.0) ≢ None) (sym at) has.2;
        }

    further_from : HasFurther s d h (s.seal i n) → HoldsFurther d (host_entry h u) known_name long
    further_from has =
        let other : has.entry ≢ known_at d h u = subst (λ (x : List ℕ). has.entry ≢ known_at d h x) at has.unknown in (
          has.entry,
          is_further_from (bytes_eq has.entry known_name) long (bytes_eq has.entry text_name)
              (λ e. other (same_bytes has.entry known_name e ∙ is_known))
              (λ is e. has.no_name (absent (entry_at s d h (s.seal i n)) (sym placed ∙ is)) (same_bytes has.entry text_name e)),
          subst (λ (x : List ℕ). get d (host_inner h x has.entry) ≢ None) at has.there,
        )

  -- ---- an entry that ends in `.c9s`

  module _ (u : List ℕ) (long : is_long_entry u ≡ true) (there : IsThere s d i u) where
    long_no_copy : u ≡ text_dirid → ⊥
    long_no_copy e = let bad : false ≡ true = ap is_long_entry (sym e) ∙ long in cc

    long_foreign : (IsLong u → ⊥) → IsForeign s d i u
    long_foreign not_long = foreign_of u there (λ e _. long_no_copy e) (λ is. cc (laws.no_text u long, is.text)) not_long

    pub long_unnamed : IsNoLongName s d i u → IsForeign s d i u
    long_unnamed none = long_foreign (λ is. none is.name is.text is.is)

    -- a name is held within a folder
    pub long_no_folder : ¬ IsFolder d (host_entry h u) → IsForeign s d i u
    long_no_folder none = long_unnamed (λ n t is.
        let held : IsSome (get d (host_inner h u text_name)) = bytes_some (get d (host_inner h u text_name)) t is.holds.held in
        none (there.tree.parents (host_inner h u text_name) held))

    pub long_twin : (n t : List ℕ) → IsLongName s d i u n t → entry_at s d h t ≢ None → IsForeign s d i u
    long_twin n t name twin = long_foreign (λ is.
        let same : is.text ≡ t = (let both : Some is.text ≡ Some t = sym is.is.holds.held ∙ name.holds.held in cc) in
        twin (ap (entry_at s d h) (sym same) ∙ is.absent))

    pub long_bare : IsPlace d (host_entry h u) true (Some (folder_at d h u)) None → IsForeign s d i u
    long_bare bare = long_foreign (λ is. is.known (bare (folder_at d h u) refl))

  record LongFacts (u t n : List ℕ) (place : Showing) (node : FoundNode) : Type 0 where
    pub name : IsLongName s d i u n t
    pub absent : entry_at s d h t ≡ None
    pub place_is : IsPlace d (host_entry h u) true (Some (folder_at d h u)) (Some place)
    pub entry : node.entry ≡ u
    pub long : node.long ≡ true
    pub shown : node.shown ≡ place.shown
    pub shadowed : node.shadowed ≡ place.further

  long_here : (u n : List ℕ) (place : Showing) (node : FoundNode) → LongFacts u (s.seal i n) n place node → IsNodeOf s d i u (found_of (n, node))
  long_here u n place node f =
      let t = s.seal i n in
      let opens : s.open_name i (s.seal i n) ≡ Some n = f.name.opened.opens in
      let hashed : u ≡ s.long_of (s.seal i n) = f.name.holds.hashed in
      let kind = f.place_is.0 in
      let showing = f.place_is.2 in
      let is_kind : folder_at d h u ≡ f.place_is.0 = (let both : Some (folder_at d h u) ≡ Some f.place_is.0 = f.place_is.1 in cc) in
      let at : entry_of s d h (s.seal i n) ≡ u = ap (λ (e : Option Thing). entry_where e t (s.long_of t)) f.absent ∙ sym hashed in
      let placed : true ≡ is_absent (entry_at s d h (s.seal i n)) = sym (ap is_absent f.absent) in
      let held : bytes_of (get d (host_inner h (s.long_of (s.seal i n)) text_name)) ≡ Some (s.seal i n) =
      subst (λ (x : List ℕ). bytes_of (get d (host_inner h x text_name)) ≡ Some (s.seal i n)) hashed f.name.holds.held in
      let kind_there : folder_at d h (s.long_of (s.seal i n)) ≡ f.place_is.0 = ap (folder_at d h) (sym hashed) ∙ is_kind in
      let seen : either_kind (entry_at s d h (s.seal i n)) (short_kind_at d h (s.seal i n)) (long_at d h (s.long_of (s.seal i n)) (s.seal i n)) ≡ Some f.place_is.0 =
      ap (λ (e : Option Thing). either_kind e (short_kind_at d h t) (long_at d h (s.long_of t) t)) f.absent
      ∙ held_there t (bytes_of (get d (host_inner h (s.long_of t) text_name))) (folder_at d h (s.long_of t)) held ∙ ap Some kind_there in
      let as_folder : ShowsAs (folder_at d h u) (shown_of place.shown) = subst (λ (k : Kind). ShowsAs k (shown_of place.shown)) (sym is_kind) showing.shows in
      let is_known : known_file place.shown ≡ known_at d h u =
      known_is (bytes_of (get d (host_inner h u text_dir))) (bytes_of (get d (host_inner h u text_symlink))) (bytes_of (get d (host_inner h u text_contents))) place.shown as_folder in
      record {
        is = record {
          kind = f.place_is.0;
          looked = shown_there (is_name n (s.open_name i t)) (s.is_text t) (either_kind (entry_at s d h t) (short_kind_at d h t) (long_at d h (s.long_of t) t)) f.place_is.0
              (naming n (s.open_name i t) opens) (laws.text i n opens) seen;
          shows = subst (λ (x : Shown). ShowsAs f.place_is.0 (shown_of x)) (sym f.shown) showing.shows;
          entry = f.entry ∙ sym at;
          long = f.long ∙ placed;
          shadowed = (
            λ is. inl (further_to n u at true placed (known_file place.shown) is_known (showing.further.0 (sym f.shadowed ∙ is))),
            λ has. elim has [
              | inl more ↦ f.shadowed ∙ showing.further.1 (further_from n u at true placed (known_file place.shown) is_known more)
              | inr twin ↦ absurd (twin.short f.absent)
            ],
          );
        };
        place = f.entry;
      }

  pub long_found : (u t n : List ℕ) (place : Showing) (node : FoundNode) → IsLongName s d i u n t → (entry_at s d h t ≢ None → ⊥)
      → IsPlace d (host_entry h u) true (Some (folder_at d h u)) (Some place)
      → node.entry ≡ u → node.long ≡ true → node.shown ≡ place.shown → node.shadowed ≡ place.further → IsNodeOf s d i u (found_of (n, node))
  long_found u t n place node name twin place_is entry long shown shadowed =
      let none : entry_at s d h t ≡ None = none_from (entry_at s d h t) (λ some. twin (λ e. (let bad : IsSome {T = Thing} None = subst IsSome e some in cc))) in
      subst (λ (x : List ℕ). LongFacts u x n place node → IsNodeOf s d i u (found_of (n, node))) (sym name.opened.sealed) (long_here u n place node)
      (record { name = name; absent = none; place_is = place_is; entry = entry; long = long; shown = shown; shadowed = shadowed })

  -- ---- an entry that doesn't

  module _ (u : List ℕ) (short : is_long_entry u ≡ false) (no_copy : u ≢ text_dirid) (there : IsThere s d i u) where
    short_foreign : (IsShort u → ⊥) → IsForeign s d i u
    short_foreign not_short = foreign_of u there (λ e _. no_copy e) not_short
        (λ is. let yes : is_long_entry u ≡ true = ap is_long_entry is.is.holds.hashed ∙ laws.long is.text in cc (yes, short))

    pub short_bare : s.is_part u ≡ true → IsPlace d (host_entry h u) false (short_at d (host_entry h u)) None → IsForeign s d i u
    short_bare part bare = short_foreign (λ is.
        let at : entry_at s d h u ≡ get d (host_entry h u) = ap (λ (b : Bool). cond b (get d (host_entry h u)) None) part in
        is.known (bare is.kind (ap (λ (e : Option Thing). either_kind e (short_kind_at d h u) None) (sym at) ∙ is.shown)))

  -- an entry at the short place of a name that is no node's takes it from the long place
  pub taken_none : (u n : List ℕ) → IsOpened s i u n → s.is_part u ≡ true → IsThere s d i u → IsForeign s d i u → HasNoNode s d i n
  taken_none u n opened part there foreign kind shown known =
      let at : entry_at s d h u ≡ get d (host_entry h u) = ap (λ (b : Bool). cond b (get d (host_entry h u)) None) part in
      let some : entry_at s d h u ≢ None = λ none. there.there (sym at ∙ none) in
      let here : entry_of s d h u ≡ u = entry_some (entry_at s d h u) u (s.long_of u) some in
      foreign.no_node (record { name = n; kind = kind; shown = shown; known = known; place = sym here ∙ ap (entry_of s d h) opened.sealed })

  record ShortFacts (u n : List ℕ) (place : Showing) (twin : Bool) (node : FoundNode) : Type 0 where
    pub there : IsThere s d i u
    pub part : s.is_part u ≡ true
    pub opens : s.open_name i u ≡ Some n
    pub place_is : IsPlace d (host_entry h u) false (short_at d (host_entry h u)) (Some place)
    pub twin_is : IsTrue twin ↔ (name_in d (host_folder h ++ s.long_of u ∷ []) ≡ Some u)
    pub entry : node.entry ≡ u
    pub long : node.long ≡ false
    pub shown : node.shown ≡ place.shown
    pub shadowed : node.shadowed ≡ (place.further || twin)

  -- nothing is below a host file
  below_file : (u c : List ℕ) → IsTree d → get d (host_entry h u) ≡ Some (Bytes c) → (k : List ℕ) → get d (host_inner h u k) ≡ None
  below_file u c tree is k = none_from (get d (host_inner h u k)) (λ some.
      let folder : get d (host_entry h u) ≡ Some Folder = tree.parents (host_inner h u k) some in
      let bad : Some (Bytes c) ≡ Some Folder = sym is ∙ folder in cc)

  short_known : (u : List ℕ) (thing : Option Thing) (place : Showing) (kind : Kind) → IsTree d → get d (host_entry h u) ≡ thing
      → either_kind thing (short_kind_at d h u) None ≡ Some kind → ShowsAs kind (shown_of place.shown) → known_file place.shown ≡ known_at d h u
  short_known u None place kind tree is e shows = absurd cc
  short_known u (Some Folder) place kind tree is e shows =
      let same : short_kind_at d h u ≡ kind = cc in
      known_is (bytes_of (get d (host_inner h u text_dir))) (bytes_of (get d (host_inner h u text_symlink))) None place.shown
      (subst (λ (k : Kind). ShowsAs k (shown_of place.shown)) (sym same) shows)
  short_known u (Some (Bytes c)) place kind tree is e shows =
      let same : Plain c ≡ kind = cc in
      plain_is c place.shown (subst (λ (k : Kind). ShowsAs k (shown_of place.shown)) (sym same) shows)
      ∙ sym (λ j. known (bytes_of (below_file u c tree is text_dir j)) (bytes_of (below_file u c tree is text_symlink j)))

  short_here : (n : List ℕ) (place : Showing) (twin : Bool) (node : FoundNode) → ShortFacts (s.seal i n) n place twin node → IsNodeOf s d i (s.seal i n) (found_of (n, node))
  short_here n place twin node f =
      let t = s.seal i n in
      let at : entry_at s d h (s.seal i n) ≡ get d (host_entry h (s.seal i n)) = ap (λ (b : Bool). cond b (get d (host_entry h t)) None) f.part in
      let some : entry_at s d h (s.seal i n) ≢ None = λ none. f.there.there (sym at ∙ none) in
      let short : length (s.seal i n) ≤ 1392 = laws.short i n f.opens in
      let showing = f.place_is.2 in
      let seen : either_kind (entry_at s d h (s.seal i n)) (short_kind_at d h (s.seal i n)) None ≡ Some f.place_is.0 =
      ap (λ (e : Option Thing). either_kind e (short_kind_at d h t) None) at ∙ f.place_is.1 in
      let here : entry_of s d h (s.seal i n) ≡ s.seal i n = entry_some (entry_at s d h t) t (s.long_of t) some in
      let placed : false ≡ is_absent (entry_at s d h (s.seal i n)) = sym (present (entry_at s d h t) some) in
      let is_known : known_file place.shown ≡ known_at d h (s.seal i n) = short_known t (get d (host_entry h t)) place f.place_is.0 f.there.tree refl f.place_is.1 showing.shows in
      record {
        is = record {
          kind = f.place_is.0;
          looked = shown_there (is_name n (s.open_name i t)) (s.is_text t) (either_kind (entry_at s d h t) (short_kind_at d h t) (long_at d h (s.long_of t) t)) f.place_is.0
              (naming n (s.open_name i t) f.opens) (laws.text i n f.opens)
              (either_some (entry_at s d h t) (short_kind_at d h t) (long_at d h (s.long_of t) t) f.place_is.0 some seen);
          shows = subst (λ (x : Shown). ShowsAs f.place_is.0 (shown_of x)) (sym f.shown) showing.shows;
          entry = f.entry ∙ sym here;
          long = f.long ∙ placed;
          shadowed = (
            λ is. elim (or_cases place.further twin (sym f.shadowed ∙ is)) [
              | inl more ↦ inl (further_to n t here false placed (known_file place.shown) is_known (showing.further.0 more))
              | inr two ↦ inr (record { short = some; long = held_text (get d (host_inner h (s.long_of t) text_name)) t short (f.twin_is.0 two) })
            ],
            λ has. f.shadowed ∙ elim has [
              | inl more ↦ or_left place.further twin (showing.further.1 (further_from n t here false placed (known_file place.shown) is_known more))
              | inr two ↦ or_right place.further twin (f.twin_is.1 (text_held (bytes_of (get d (host_inner h (s.long_of t) text_name))) t short (ap bytes_of two.long)))
            ],
          );
        };
        place = f.entry;
      }

  pub short_found : (u n : List ℕ) (place : Showing) (twin : Bool) (node : FoundNode) → IsOpened s i u n → s.is_part u ≡ true
      → IsPlace d (host_entry h u) false (short_at d (host_entry h u)) (Some place)
      → IsTrue twin ↔ (name_in d (host_folder h ++ s.long_of u ∷ []) ≡ Some u)
      → node.entry ≡ u → node.long ≡ false → node.shown ≡ place.shown → node.shadowed ≡ (place.further || twin) → IsThere s d i u → IsNodeOf s d i u (found_of (n, node))
  short_found u n place twin node opened part place_is twin_is entry long shown shadowed there =
      subst (λ (x : List ℕ). ShortFacts x n place twin node → IsNodeOf s d i x (found_of (n, node))) (sym opened.sealed) (short_here n place twin node)
      (record { there = there; part = part; opens = opened.opens; place_is = place_is; twin_is = twin_is; entry = entry; long = long; shown = shown; shadowed = shadowed })
