-- What was looked at on a folder that may tell nothing.
use Rattle.std.proofs.Common.{◌≡◌, ℕ, zero, suc, ◌+◌, ◌≤◌, List, [], ◌∷◌, ◌++◌, take, drop, length, Bool, true, Option, Some, None, refl, sym, ap, subst, ◌∙◌, add-one, arith}
use Rattle.std.specs.Prelude.{◌↔◌, IsTrue, IsFalse}
use Rattle.outside.specs.Calls.{Told}
use Rattle.std.proofs.lemmas.Bool.{false≢true}
use Rattle.outside.specs.Disk.{Disk, Path, file, node_at, kind_at, parent, IsFolder, IsTree, IsListing}
use Rattle.outside.specs.declared.folder.Kind.{Kind}
use Rattle.outside.specs.Changes.{IsBare}
use Rattle.outside.specs.Images.{Log, now, disk_in}
use Rattle.deeds.specs.Reshape.{Ranges}
use Rattle.outside.proofs.Told.{told_always, told_both}
use Rattle.deeds.specs.declared.deed.Deed.{Deed}
use Rattle.deeds.specs.Plain.{plain, plains}
use Rattle.deeds.proofs.Phases.{plains_pushed}
use Rattle.deeds.specs.Deeds.{PlainDeed, MakesDir, Puts, Renames, Removes, RemovesDir, Reshapes, CanDeed}
use Rattle.journal_mending.specs.Looks.{make_dir_state, put_state, rename_state, remove_state, remove_dir_state, reshape_state}
use Rattle.journal_mending.specs.declared.state.DeedState.{DeedState}
use Rattle.journal_mending.specs.Mending.{deeds_in, IsStateOn, AreStatesOn, HasBytes, HasAllBytes, IsReshaped}
use Rattle.journal_mending.proofs.Skips.{deeds_pushed}
use Rattle.journal_mending.proofs.Looks.{bare_names, make_dir_is, put_is, rename_is, remove_is, remove_dir_is, reshape_is}

-- what a look at the folder above, at a file and at a folder's entries says
abbrev pub Above : Bool → Path → Log → Type 0
Above inside path l = IsFalse inside → IsFolder (now l) (parent path) → ⊥

abbrev pub IsThere : Bool → Path → List ℕ → Log → Type 0
IsThere same path bytes l = IsTrue same → node_at (now l) path ≡ Some (file bytes)

abbrev pub IsFull : Bool → Path → Log → Type 0
IsFull bare path l = IsFalse bare → IsBare (now l) path → ⊥

make_dir_at : (a : Option Log) (path : Path) (here : Option Kind) (inside : Bool) → Told (disk_in a) (λ d. here ≡ kind_at d path) → Told (disk_in a) IsTree → Told a (Above inside path) → Told a (λ l. IsStateOn (make_dir_state here inside) (MakesDir path) (now l))
make_dir_at None path here inside kind tree above = tt
make_dir_at (Some l) path here inside kind tree above = make_dir_is path here inside (now l) tree kind above

pub told_make_dir : (a b : Option Log) (path : Path) (here : Option Kind) (inside : Bool) → b ≡ a → Told (disk_in a) (λ d. here ≡ kind_at d path) → Told (disk_in a) IsTree → Told b (Above inside path) → Told a (λ l. IsStateOn (make_dir_state here inside) (MakesDir path) (now l))
told_make_dir a b path here inside same kind tree above = make_dir_at a path here inside kind tree (subst (λ (o : Option Log). Told o (Above inside path)) same above)

put_at : (a : Option Log) (path : Path) (bytes : List ℕ) (here : Option Kind) (same inside : Bool) → Told (disk_in a) (λ d. here ≡ kind_at d path) → Told (disk_in a) IsTree → Told a (IsThere same path bytes) → Told a (Above inside path)
    → Told a (λ l. IsStateOn (put_state (length bytes) here same inside) (Puts path bytes) (now l))
put_at None path bytes here same inside kind tree there above = tt
put_at (Some l) path bytes here same inside kind tree there above = put_is path bytes here same inside (now l) tree kind there above

pub told_put : (a b c : Option Log) (path : Path) (bytes : List ℕ) (here : Option Kind) (same inside : Bool) → b ≡ a → c ≡ b → Told (disk_in a) (λ d. here ≡ kind_at d path) → Told (disk_in a) IsTree → Told b (IsThere same path bytes) → Told c (Above inside path)
    → Told a (λ l. IsStateOn (put_state (length bytes) here same inside) (Puts path bytes) (now l))
told_put a b c path bytes here same inside first second kind tree there above =
    put_at a path bytes here same inside kind tree (subst (λ (o : Option Log). Told o (IsThere same path bytes)) first there) (subst (λ (o : Option Log). Told o (Above inside path)) (second ∙ first) above)

rename_at : (a : Option Log) (from to : Path) (there here : Option Kind) (inside : Bool) → Told (disk_in a) (λ d. there ≡ kind_at d from) → Told (disk_in a) (λ d. here ≡ kind_at d to) → Told a (Above inside to)
    → Told a (λ l. IsStateOn (rename_state there here inside) (Renames from to) (now l))
rename_at None from to there here inside kind other above = tt
rename_at (Some l) from to there here inside kind other above = rename_is from to there here inside (now l) kind other above

pub told_rename : (a b c : Option Log) (from to : Path) (there here : Option Kind) (inside : Bool) → b ≡ a → c ≡ b → Told (disk_in a) (λ d. there ≡ kind_at d from) → Told (disk_in b) (λ d. here ≡ kind_at d to) → Told c (Above inside to)
    → Told a (λ l. IsStateOn (rename_state there here inside) (Renames from to) (now l))
told_rename a b c from to there here inside first second kind other above =
    rename_at a from to there here inside kind (subst (λ (o : Option Log). Told (disk_in o) (λ d. here ≡ kind_at d to)) first other) (subst (λ (o : Option Log). Told o (Above inside to)) (second ∙ first) above)

pub told_remove : (a : Option Log) (path : Path) (here : Option Kind) → Told (disk_in a) (λ d. here ≡ kind_at d path) → Told a (λ l. IsStateOn (remove_state here) (Removes path) (now l))
told_remove None path here kind = tt
told_remove (Some l) path here kind = remove_is path here (now l) kind

remove_dir_at : (a : Option Log) (path : Path) (here : Option Kind) (bare : Bool) → Told (disk_in a) (λ d. here ≡ kind_at d path) → Told a (IsFull bare path) → Told a (λ l. IsStateOn (remove_dir_state here bare) (RemovesDir path) (now l))
remove_dir_at None path here bare kind full = tt
remove_dir_at (Some l) path here bare kind full = remove_dir_is path here bare (now l) kind full

pub told_remove_dir : (a b : Option Log) (path : Path) (here : Option Kind) (bare : Bool) → b ≡ a → Told (disk_in a) (λ d. here ≡ kind_at d path) → Told b (IsFull bare path) → Told a (λ l. IsStateOn (remove_dir_state here bare) (RemovesDir path) (now l))
told_remove_dir a b path here bare same kind full = remove_dir_at a path here bare kind (subst (λ (o : Option Log). Told o (IsFull bare path)) same full)

reshape_at : (a : Option Log) (path : Path) (len : ℕ) (rs : Ranges) (can same : Bool) → Told a (λ l. IsTrue can ↔ CanDeed (Reshapes path len rs) (now l)) → Told a (λ l. IsTrue same → IsReshaped (now l) path len rs)
    → Told a (λ l. IsStateOn (reshape_state can same) (Reshapes path len rs) (now l))
reshape_at None path len rs can same exact is = tt
reshape_at (Some l) path len rs can same exact is = reshape_is path len rs can same (now l) exact is

pub told_reshape : (a b : Option Log) (path : Path) (len : ℕ) (rs : Ranges) (can same : Bool) → b ≡ a → Told a (λ l. IsTrue can ↔ CanDeed (Reshapes path len rs) (now l)) → Told b (λ l. IsTrue same → IsReshaped (now l) path len rs)
    → Told a (λ l. IsStateOn (reshape_state can same) (Reshapes path len rs) (now l))
told_reshape a b path len rs can same still exact is = reshape_at a path len rs can same exact (subst (λ (o : Option Log). Told o (λ l. IsTrue same → IsReshaped (now l) path len rs)) still is)

-- ---- ranges one after the other

pub take_more : {A : Type 0} (i : ℕ) (xs : List A) (x : A) (rest : List A) → drop i xs ≡ x ∷ rest → take (i + 1) xs ≡ take i xs ++ x ∷ []
take_more {A = A} i xs x rest e = ap (λ (k : ℕ). take k xs) (add-one i) ∙ one i xs e
  where
    one : (i : ℕ) (xs : List A) → drop i xs ≡ x ∷ rest → take (suc i) xs ≡ take i xs ++ x ∷ []
    one zero xs e = ap (take 1) e
    one (suc i) [] e = absurd cc
    one (suc i) (y ∷ xs) e = ap (λ (l : List A). y ∷ l) (one i xs e)

bytes_more : (d : Disk) (path : Path) (rs : Ranges) (r : ℕ × List ℕ) → HasAllBytes d path rs → HasBytes d path r → HasAllBytes d path (rs ++ r ∷ [])
bytes_more d path [] r all one = (one, tt)
bytes_more d path (x ∷ rs) r all one = (all.0, bytes_more d path rs r all.1 one)

abbrev pub HaveAll : Path → Ranges → Log → Type 0
HaveAll path rs l = HasAllBytes (now l) path rs

-- a folder was only read since, and a file has the bytes of these
pub record HasReadSoFar (path : Path) (rs : Ranges) (a b : Option Log) (m n f g : ℕ) : Type 0 where
  pub log : b ≡ a
  pub changes : n ≡ m
  pub later : f ≤ g
  pub has : Told a (HaveAll path rs)

pub none_read : (path : Path) (a : Option Log) (m f : ℕ) → HasReadSoFar path [] a a m m f f
none_read path a m f = record { log = refl; changes = refl; later = omega arith; has = told_always a (HaveAll path []) (λ l. tt) }

pub one_read : (path : Path) (rs : Ranges) (r : ℕ × List ℕ) (a b c : Option Log) (m n o f g h : ℕ) (has : Bool) → HasReadSoFar path rs a b m n f g → c ≡ b → o ≡ n → g ≤ h → Told b (λ l. IsTrue has → HasBytes (now l) path r) → has ≡ true
    → HasReadSoFar path (rs ++ r ∷ []) a c m o f h
one_read path rs r a b c m n o f g h has so_far log changes later told holds = record {
  log = log ∙ so_far.log;
  changes = changes ∙ so_far.changes;
  later = omega (arith, so_far.later, later);
  has = told_both a (HaveAll path rs) (λ l. IsTrue has → HasBytes (now l) path r) (HaveAll path (rs ++ r ∷ [])) so_far.has (subst (λ (x : Option Log). Told x (λ l. IsTrue has → HasBytes (now l) path r)) so_far.log told)
      (λ l all one. bytes_more (now l) path rs r all (one holds));
}

-- ---- deeds one after the other

states_more : (ss : List DeedState) (s : DeedState) (d : Disk) → AreStatesOn ss d → IsStateOn s.state (plain s.deed) d → AreStatesOn (ss ++ s ∷ []) d
states_more [] s d all one = (one, tt)
states_more (x ∷ ss) s d all one = (all.0, states_more ss s d all.1 one)

-- a folder was only read since, and these are the states of the deeds that were taken
pub record HasLookedSoFar (taken : List Deed) (states : List DeedState) (a b : Option Log) (m n f g : ℕ) : Type 0 where
  pub deeds : deeds_in states ≡ plains taken
  pub log : b ≡ a
  pub changes : n ≡ m
  pub later : f ≤ g
  pub has : Told a (λ l. AreStatesOn states (now l))

pub none_looked : (a : Option Log) (m f : ℕ) → HasLookedSoFar [] [] a a m m f f
none_looked a m f = record { deeds = refl; log = refl; changes = refl; later = omega arith; has = told_always a (λ l. AreStatesOn [] (now l)) (λ l. tt) }

pub one_looked : (taken : List Deed) (ss : List DeedState) (s : DeedState) (a b c : Option Log) (m n o f g h : ℕ) → HasLookedSoFar taken ss a b m n f g → c ≡ b → o ≡ n → g ≤ h → Told b (λ l. IsStateOn s.state (plain s.deed) (now l))
    → HasLookedSoFar (taken ++ s.deed ∷ []) (ss ++ s ∷ []) a c m o f h
one_looked taken ss s a b c m n o f g h so_far log changes later told = record {
  deeds = deeds_pushed ss s ∙ ap (λ (l : List PlainDeed). l ++ plain s.deed ∷ []) so_far.deeds ∙ sym (plains_pushed taken s.deed);
  log = log ∙ so_far.log;
  changes = changes ∙ so_far.changes;
  later = omega (arith, so_far.later, later);
  has = told_both a (λ l. AreStatesOn ss (now l)) (λ l. IsStateOn s.state (plain s.deed) (now l)) (λ l. AreStatesOn (ss ++ s ∷ []) (now l)) so_far.has (subst (λ (x : Option Log). Told x (λ l. IsStateOn s.state (plain s.deed) (now l))) so_far.log told)
      (λ l all one. states_more ss s (now l) all one);
}

-- ---- a folder's entries

-- a folder isn't empty if a test fails that no names pass
pub told_full : (a : Option Log) (path : Path) (names : List (List ℕ)) (bare : Bool) → Told (disk_in a) (λ d. IsFolder d path × IsListing d path names) → (names ≡ [] → IsTrue bare) → Told a (IsFull bare path)
told_full None path names bare told empty = tt
told_full (Some l) path names bare told empty = λ isnt is. false≢true (sym isnt ∙ empty (bare_names (now l) path names told.1 is))
