-- What deeds are on a disk, by what was looked at.
use Rattle.std.proofs.Common.{◌≡◌, ◌≢◌, ◌⊎◌, ℕ, ◌+◌, List, [], ◌∷◌, ◌++◌, ◌≤◌, Bool, true, false, cond, leb, length, take, drop, Option, Some, None, refl, sym, ap, subst, ◌∙◌, inl, inr, arith, append_assoc}
use Rattle.std.specs.Prelude.{◌==◌, ◌↔◌, if◌then◌else◌, IsTrue, IsFalse, IsSome, IsNone, Contains}
use Rattle.std.specs.Option.{option_map}
use Rattle.std.proofs.lemmas.Bool.{eq-eqb, false≢true, le-leb}
use Rattle.std.proofs.lemmas.List.{take-append-drop, drop-drop}
use Rattle.outside.specs.Disk.{Disk, Path, Node, folder, file, node_at, kind_of, kind_at, parent, IsFolder, IsFile, IsTree, IsListing}
use Rattle.outside.specs.declared.folder.Kind.{Kind}
use Rattle.outside.specs.declared.folder.Kind.TheVariants.{Dir, File}
use Rattle.outside.specs.Changes.{set_at, in_file, overwritten, IsBare, IsFree}
use Rattle.outside.proofs.Paths.{by_path, set_here, set_there, same_disk}
use Rattle.deeds.specs.Reshape.{Ranges, written}
use Rattle.deeds.specs.Deeds.{PlainDeed, MakesDir, Puts, Renames, Removes, RemovesDir, Reshapes, CanDeed, Does, IsDoneAlready, reshaped}
use Rattle.journal_mending.specs.Looks.{due_if, done_if, make_dir_state, put_state, rename_state, remove_state, remove_dir_state, reshape_state}
use Rattle.journal_mending.specs.Mending.{IsStateOn, HasBytes, HasAllBytes, IsReshaped}
use Rattle.journal_mending.specs.declared.state.State.{State}
use Rattle.journal_mending.specs.declared.state.State.TheVariants.{Done, Due, Unfit}
use Rattle.journal_mending.proofs.Lengths.{dir_of, none_of, some_of, file_at}

-- ---- all deeds

-- what is set already stays
set_already : (d : Disk) (path : Path) (v : Option Node) → node_at d path ≡ v → d ≡ set_at d path v
set_already d path v is = same_disk d (set_at d path v)
    (λ q. by_path q path (λ e. ap (node_at d) e ∙ is ∙ sym (set_here d path v q e)) (λ ne. sym (set_there d path v q ne)))

cannot : (x : PlainDeed) (d : Disk) → (IsDoneAlready x d → ⊥) → (CanDeed x d → ⊥) → (after : Disk) → Does x d after → ⊥
cannot x d already can after (inl does) = already does.0
cannot x d already can after (inr does) = can does.0

-- to be done if this is so, and if it isn't it can't be
due_by : (b : Bool) (x : PlainDeed) (d : Disk) → (b ≡ false → (after : Disk) → Does x d after → ⊥) → IsStateOn (due_if b) x d
due_by true x d never = tt
due_by false x d never = never refl

done_by : (b : Bool) (x : PlainDeed) (d : Disk) → (b ≡ true → Does x d d) → IsStateOn (done_if b) x d
done_by true x d does = does refl
done_by false x d does = tt

-- ---- each deed

pub make_dir_is : (path : Path) (here : Option Kind) (inside : Bool) (d : Disk) → IsTree d → here ≡ kind_at d path → (IsFalse inside → IsFolder d (parent path) → ⊥) → IsStateOn (make_dir_state here inside) (MakesDir path) d
make_dir_is path (Some Dir) inside d tree e above =
    let at = dir_of (node_at d path) (sym e) in
    inr (record { inside = tree.parents path (subst IsSome (sym at) refl); free = inr at }, set_already d path (Some folder) at)
make_dir_is path (Some (File n)) inside d tree e above =
    let at = file_at d path n (sym e) in
    cannot (MakesDir path) d (λ never. never) (λ can. no_dir can.free at.1)
  where
    no_dir : {bytes : List ℕ} → (IsNone (node_at d path) ⊎ IsFolder d path) → node_at d path ≡ Some (file bytes) → ⊥
    no_dir (inl none) at = absurd cc
    no_dir (inr dir) at = absurd cc
make_dir_is path None inside d tree e above = due_by inside (MakesDir path) d (λ isnt. cannot (MakesDir path) d (λ never. never) (λ can. above isnt can.inside))

pub put_is : (path : Path) (bytes : List ℕ) (here : Option Kind) (same inside : Bool) (d : Disk) → IsTree d → here ≡ kind_at d path → (IsTrue same → node_at d path ≡ Some (file bytes)) → (IsFalse inside → IsFolder d (parent path) → ⊥)
    → IsStateOn (put_state (length bytes) here same inside) (Puts path bytes) d
put_is path bytes (Some Dir) same inside d tree e there above =
    let at = dir_of (node_at d path) (sym e) in
    cannot (Puts path bytes) d (λ never. never) (λ can. no_file can.0.free at)
  where
    no_file : (IsNone (node_at d path) ⊎ IsFile d path) → node_at d path ≡ Some folder → ⊥
    no_file (inl none) at = absurd cc
    no_file (inr old) at = (let f = old.1 in absurd cc)
put_is path bytes (Some (File n)) same inside d tree e there above = by_len (leb n (length bytes)) refl
  where
    puts : IsTrue same → Does (Puts path bytes) d d
    puts is_same =
        let at = there is_same in
        inr (
          (
            record { inside = tree.parents path (subst IsSome (sym at) refl); free = inr (bytes, at) },
            λ old is. (let f : Some (file old) ≡ Some (file bytes) = sym is ∙ at in let same : old ≡ bytes = cc in omega (arith, ap (λ (l : List ℕ). length l) same)),
          ),
          set_already d path (Some (file bytes)) at,
        )

    -- a longer file isn't put over
    longer : leb n (length bytes) ≡ false → CanDeed (Puts path bytes) d → ⊥
    longer more can =
        let at = file_at d path n (sym e) in
        let le : length at.0 ≤ length bytes = can.1 at.0 at.1 in
        false≢true (sym more ∙ le-leb n (length bytes) (omega (arith, le, at.2)))

    by_len : (b : Bool) → leb n (length bytes) ≡ b → IsStateOn (if b then done_if same else Unfit) (Puts path bytes) d
    by_len true e = done_by same (Puts path bytes) d puts
    by_len false e = cannot (Puts path bytes) d (λ never. never) (longer e)
put_is path bytes None same inside d tree e there above =
    due_by inside (Puts path bytes) d (λ isnt. cannot (Puts path bytes) d (λ never. never) (λ can. above isnt can.0.inside))

pub rename_is : (from to : Path) (there here : Option Kind) (inside : Bool) (d : Disk) → there ≡ kind_at d from → here ≡ kind_at d to → (IsFalse inside → IsFolder d (parent to) → ⊥) → IsStateOn (rename_state there here inside) (Renames from to) d
rename_is from to (Some Dir) here inside d e f above =
    let at = dir_of (node_at d from) (sym e) in
    cannot (Renames from to) d (λ moved. let none = moved.0 in absurd cc) (λ can. let old = can.0.there.1 in absurd cc)
rename_is from to (Some (File n)) (Some Dir) inside d e f above =
    let at = file_at d from n (sym e) in
    let to_dir = dir_of (node_at d to) (sym f) in
    cannot (Renames from to) d (λ moved. let none = moved.0 in let there = at.1 in absurd cc) (λ can. not_free can.0.free to_dir)
  where
    not_free : IsFree (node_at d to) → node_at d to ≡ Some folder → ⊥
    not_free (inl none) at = absurd cc
    not_free (inr old) at = (let f = old.1 in absurd cc)
rename_is from to (Some (File n)) (Some (File m)) inside d e f above =
    let at = file_at d from n (sym e) in
    let other = file_at d to m (sym f) in
    due_by (n == m) (Renames from to) d (λ isnt. cannot (Renames from to) d (λ moved. let none = moved.0 in let there = at.1 in absurd cc) (λ can. differ at other isnt (can.1 other.0 other.1)))
  where
    differ : (at : (bytes : List ℕ) × (node_at d from ≡ Some (file bytes)) × (length bytes ≡ n)) → (other : (bytes : List ℕ) × (node_at d to ≡ Some (file bytes)) × (length bytes ≡ m)) → (n == m) ≡ false → node_at d from ≡ Some (file other.0) → ⊥
    differ at other isnt here =
        let is : Some (file at.0) ≡ Some (file other.0) = sym at.1 ∙ here in
        let same : at.0 ≡ other.0 = cc in
        false≢true (sym isnt ∙ eq-eqb n m (sym at.2 ∙ ap (λ (l : List ℕ). length l) same ∙ other.2))
rename_is from to (Some (File n)) None inside d e f above =
    let at = file_at d from n (sym e) in
    due_by inside (Renames from to) d (λ isnt. cannot (Renames from to) d (λ moved. let none = moved.0 in let there = at.1 in absurd cc) (λ can. above isnt can.0.inside))
rename_is from to None (Some k) inside d e f above =
    let some = some_of (node_at d to) k (sym f) in
    inl ((none_of (node_at d from) (sym e), some.0, some.1), refl)
rename_is from to None None inside d e f above =
    let none = none_of (node_at d from) (sym e) in
    let nothing = none_of (node_at d to) (sym f) in
    cannot (Renames from to) d (λ moved. let there = moved.2 in absurd cc) (λ can. let old = can.0.there.1 in absurd cc)

pub remove_is : (path : Path) (here : Option Kind) (d : Disk) → here ≡ kind_at d path → IsStateOn (remove_state here) (Removes path) d
remove_is path (Some Dir) d e =
    let at = dir_of (node_at d path) (sym e) in
    cannot (Removes path) d (λ never. never) (λ can. not_free can at)
  where
    not_free : IsFree (node_at d path) → node_at d path ≡ Some folder → ⊥
    not_free (inl none) at = absurd cc
    not_free (inr old) at = (let f = old.1 in absurd cc)
remove_is path (Some (File n)) d e = tt
remove_is path None d e =
    let none = none_of (node_at d path) (sym e) in
    inr (inl none, set_already d path None none)

pub remove_dir_is : (path : Path) (here : Option Kind) (bare : Bool) (d : Disk) → here ≡ kind_at d path → (IsFalse bare → IsBare d path → ⊥) → IsStateOn (remove_dir_state here bare) (RemovesDir path) d
remove_dir_is path (Some Dir) bare d e full =
    let at = dir_of (node_at d path) (sym e) in
    due_by bare (RemovesDir path) d (λ isnt. cannot (RemovesDir path) d (λ never. never) (λ can. not_bare isnt at can))
  where
    not_bare : IsFalse bare → node_at d path ≡ Some folder → (node_at d path ≡ None) ⊎ IsBare d path → ⊥
    not_bare isnt at (inl none) = absurd cc
    not_bare isnt at (inr is) = full isnt is
remove_dir_is path (Some (File n)) bare d e full =
    let at = file_at d path n (sym e) in
    cannot (RemovesDir path) d (λ never. never) (λ can. no_dir at.1 can)
  where
    no_dir : {bytes : List ℕ} → node_at d path ≡ Some (file bytes) → (node_at d path ≡ None) ⊎ IsBare d path → ⊥
    no_dir at (inl none) = absurd cc
    no_dir at (inr is) = (let dir = is.there in absurd cc)
remove_dir_is path None bare d e full =
    let none = none_of (node_at d path) (sym e) in
    inr (inl none, set_already d path None none)

-- ---- bytes that are there already

same_over : (was : List ℕ) (at : ℕ) (bytes : List ℕ) → take (length bytes) (drop at was) ≡ bytes → overwritten was at bytes ≡ was
same_over was at bytes is =
    append_assoc (take at was) bytes (drop (at + length bytes) was)
    ∙ ap (λ (l : List ℕ). take at was ++ l) (ap (λ (l : List ℕ). l ++ drop (at + length bytes) was) (sym is) ∙ ap (λ (l : List ℕ). take (length bytes) (drop at was) ++ l) (sym (drop-drop (length bytes) at was)) ∙ take-append-drop (length bytes) (drop at was))
    ∙ take-append-drop at was

same_written : (d : Disk) (path : Path) (rs : Ranges) (was : List ℕ) → node_at d path ≡ Some (file was) → HasAllBytes d path rs → written rs was ≡ was
same_written d path [] was at all = refl
same_written d path (r ∷ rs) was at all =
    let has = all.0 in
    let same : has.0 ≡ was = (let e : Some (file has.0) ≡ Some (file was) = sym has.1 ∙ at in cc) in
    let over = same_over was r.0 r.1 (subst (λ (l : List ℕ). take (length r.1) (drop r.0 l) ≡ r.1) same has.2) in
    ap (written rs) over ∙ same_written d path rs was at all.1

same_reshaped : (d : Disk) (path : Path) (len : ℕ) (rs : Ranges) → IsReshaped d path len rs → CanDeed (Reshapes path len rs) d → Does (Reshapes path len rs) d d
same_reshaped d path len rs is can =
    let was = can.0 in
    let at = can.1 in
    let f = file_at d path len is.long in
    let same : f.0 ≡ was = (let e : Some (file f.0) ≡ Some (file was) = sym f.1 ∙ at in cc) in
    let long : length was ≡ len = ap (λ (l : List ℕ). length l) (sym same) ∙ f.2 in
    let whole : reshaped len rs was ≡ was = ap (take len) (same_written d path rs was at is.bytes) ∙ ap (λ (n : ℕ). take n was) (sym long) ∙ take_whole was in
    let node : node_at d path ≡ in_file (reshaped len rs) (node_at d path) = at ∙ ap (λ (l : List ℕ). Some (file l)) (sym whole) ∙ ap (in_file (reshaped len rs)) (sym at) in
    inr (can, set_already d path (in_file (reshaped len rs) (node_at d path)) node)
  where
    take_whole : (l : List ℕ) → take (length l) l ≡ l
    take_whole [] = refl
    take_whole (x ∷ l) = ap (λ (t : List ℕ). x ∷ t) (take_whole l)

pub reshape_is : (path : Path) (len : ℕ) (rs : Ranges) (can same : Bool) (d : Disk) → (IsTrue can ↔ CanDeed (Reshapes path len rs) d) → (IsTrue same → IsReshaped d path len rs) → IsStateOn (reshape_state can same) (Reshapes path len rs) d
reshape_is path len rs true same d can is = done_by same (Reshapes path len rs) d (λ is_same. same_reshaped d path len rs (is is_same) (can.0 refl))
reshape_is path len rs false same d can is = cannot (Reshapes path len rs) d (λ never. never) (λ does. false≢true (can.1 does))

-- ---- a folder's entries

pub no_names : (names : List (List ℕ)) → ((name : List ℕ) → Contains names name → ⊥) → names ≡ []
no_names [] none = refl
no_names (x ∷ names) none = absurd (none x (0, omega arith, refl))

pub bare_names : (d : Disk) (path : Path) (names : List (List ℕ)) → IsListing d path names → IsBare d path → names ≡ []
bare_names d path names listing bare = no_names names (λ name there. let some = (listing.exact name).0 there in let none = bare.no_child name in false≢true (subst (λ (o : Option Node). IsSome o) none some))
