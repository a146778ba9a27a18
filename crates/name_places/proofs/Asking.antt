-- What is taken, test by test.
use Rattle.std.proofs.Common.{◌≡◌, ℕ, Bool, true, false, ◌&&◌, cond, List, [], ◌∷◌, ◌++◌, take, drop, Option, Some, None, refl, sym, ap, ◌∙◌, subst}
use Rattle.std.specs.FinMap.{get}
use Rattle.outside.specs.Disk.{Disk, Path as HostPath}
use Rattle.outside.specs.Calls.{Told}
use Rattle.outside.proofs.Told.{told_then, told_both, told_always}
use Rattle.vault_path.specs.Parts.{is_part, is_path}
use Rattle.vault_keys.specs.Keys.{KeyPair}
use Rattle.vault_names.specs.Places.{long_folder}
use Rattle.clear_tree.specs.Places.{host_folder, host_entry}
use Rattle.tree_loading.specs.Format.{sealing_of}
use Rattle.tree_loading.proofs.Sealings.{is_part-long_folder}
use Rattle.tree_deed_laws.specs.Taken.{or_else, if_there, if_file, first_claim, taken_by_identifier}
use Rattle.live_tree.specs.Held.{HeldTree}
use Rattle.name_places.specs.declared.name.NewPlace.{NewPlace}
use Rattle.name_places.specs.declared.directory.NewDirectory.{NewDirectory}
use Rattle.name_places.specs.Claims.{claims_in}
use Rattle.name_places.specs.Asked.{IsAsked, IsTaken, identifier_in, taken_short, taken_place, taken_folder, claim_path}
use Rattle.name_places.proofs.Listed.{claim_path_is}

-- ---- one test before others

pub told_first : (contents : Option Disk) (A B : Disk → Option HostPath) (path : HostPath) → Told contents (λ d. Some path ≡ A d) → Told contents (λ d. Some path ≡ or_else (A d) (B d))
told_first contents A B path told = told_then contents (λ d. Some path ≡ A d) (λ d. Some path ≡ or_else (A d) (B d)) told (λ d e. ap (λ (o : Option HostPath). or_else o (B d)) e)

pub told_rest : (contents later : Option Disk) → later ≡ contents → (A B : Disk → Option HostPath) (found : Option HostPath) → Told contents (λ d. None ≡ A d) → Told later (λ d. found ≡ B d)
    → Told contents (λ d. found ≡ or_else (A d) (B d))
told_rest contents later same A B found none told =
    told_both contents (λ d. None ≡ A d) (λ d. found ≡ B d) (λ d. found ≡ or_else (A d) (B d)) none (subst (λ (o : Option Disk). Told o (λ d. found ≡ B d)) same told)
    (λ d e h. h ∙ ap (λ (o : Option HostPath). or_else o (B d)) e)

-- ---- a short place

one_more : (a b c : Bool) → (a && (b && true)) ≡ true → (a && (b && (c && true))) ≡ c
one_more true true true h = refl
one_more true true false h = refl
one_more true false c h = absurd cc
one_more false b c h = absurd cc

-- an entry of a folder has a path if it is a part
pub entry_path : (h t : List ℕ) → is_path (host_folder h) ≡ true → is_path (host_entry h t) ≡ is_part t
entry_path h t folder = one_more (is_part (take 2 h)) (is_part (drop 2 h)) (is_part t) folder

pub short_there : (contents : Option Disk) (h t : List ℕ) (path : HostPath) (found : Option HostPath) → is_path (host_folder h) ≡ true → is_path (host_entry h t) ≡ true → path ≡ host_entry h t
    → Told contents (λ d. found ≡ if_there path (get d path)) → Told contents (λ d. found ≡ taken_short d h t)
short_there contents h t path found folder good is told =
    let part : is_part t ≡ true = sym (entry_path h t folder) ∙ good in
    told_then contents (λ d. found ≡ if_there path (get d path)) (λ d. found ≡ taken_short d h t) told
    (λ d e. e ∙ ap (λ (p : HostPath). if_there p (get d p)) is ∙ ap (λ (b : Bool). if_there (host_entry h t) (cond b (get d (host_entry h t)) None)) (sym part))

pub short_ok : (contents : Option Disk) (h t : List ℕ) (above path : HostPath) (found : Option HostPath) → is_path (host_folder h) ≡ true → above ≡ host_folder h → is_path (above ++ t ∷ []) ≡ true
    → path ≡ above ++ t ∷ [] → Told contents (λ d. found ≡ if_there path (get d path)) → Told contents (λ d. found ≡ taken_short d h t)
short_ok contents h t above path found folder at good is told =
    let further : above ++ t ∷ [] ≡ host_entry h t = ap (λ (p : HostPath). p ++ t ∷ []) at in
    short_there contents h t path found folder (ap is_path (sym further) ∙ good) (is ∙ further) told

pub long_path : (h t l : List ℕ) (above : HostPath) → is_path (host_folder h) ≡ true → above ≡ host_folder h → l ≡ long_folder t → is_path (above ++ l ∷ []) ≡ true
long_path h t l above folder at is =
    ap (λ (p : HostPath). is_path (p ++ l ∷ [])) at ∙ entry_path h l folder ∙ ap is_part is ∙ is_part-long_folder t

pub short_none : (contents : Option Disk) (h t : List ℕ) → is_path (host_folder h) ≡ true → is_path (host_entry h t) ≡ false → Told contents (λ d. None ≡ taken_short d h t)
short_none contents h t folder bad =
    let part : is_part t ≡ false = sym (entry_path h t folder) ∙ bad in
    told_always contents (λ d. None ≡ taken_short d h t) (λ d. ap (λ (b : Bool). if_there (host_entry h t) (cond b (get d (host_entry h t)) None)) (sym part))

false_of : (b : Bool) → (b ≡ true → ⊥) → b ≡ false
false_of true other = absurd (other refl)
false_of false other = refl

pub short_err : (contents : Option Disk) (h t : List ℕ) (above : HostPath) → is_path (host_folder h) ≡ true → above ≡ host_folder h → (is_path (above ++ t ∷ []) ≡ true → ⊥)
    → Told contents (λ d. None ≡ taken_short d h t)
short_err contents h t above folder at bad =
    short_none contents h t folder (ap (λ (p : HostPath). is_path (p ++ t ∷ [])) (sym at) ∙ false_of (is_path (above ++ t ∷ [])) bad)

-- a test of a path that is this one
pub there_at : (contents : Option Disk) (path other : HostPath) (found : Option HostPath) → path ≡ other → Told contents (λ d. found ≡ if_there path (get d path)) → Told contents (λ d. found ≡ if_there other (get d other))
there_at contents path other found is told = subst (λ (p : HostPath). Told contents (λ d. found ≡ if_there p (get d p))) is told

pub file_at : (contents : Option Disk) (path other : HostPath) (found : Option HostPath) → path ≡ other → Told contents (λ d. found ≡ if_file path (get d path)) → Told contents (λ d. found ≡ if_file other (get d other))
file_at contents path other found is told = subst (λ (p : HostPath). Told contents (λ d. found ≡ if_file p (get d p))) is told

-- ---- all of them

or_else_or : (a b c : Option HostPath) → or_else (or_else a b) c ≡ or_else a (or_else b c)
or_else_or None b c = refl
or_else_or (Some x) b c = refl

abbrev pub by_drawn : HeldTree → List (List ℕ × ℕ) → Option NewDirectory → Disk → Option HostPath
by_drawn tree claims None d = None
by_drawn tree claims (Some directory) d = taken_folder d directory.folder (claim_path tree claims directory.folder)

drawn_is : (keys : KeyPair) (i n parent : List ℕ) (place : NewPlace) (drawn : Option NewDirectory) (tree : HeldTree) (claims : List (List ℕ × ℕ)) → IsAsked (sealing_of keys) i n parent place drawn tree claims
    → (d : Disk) → by_drawn tree claims drawn d ≡ taken_by_identifier (sealing_of keys) d (claims_in (sealing_of keys) tree) (identifier_in drawn)
drawn_is keys i n parent place None tree claims asked d = refl
drawn_is keys i n parent place (Some directory) tree claims asked d =
    ap (λ (o : Option HostPath). taken_folder d directory.folder o) (claim_path_is (sealing_of keys) tree claims directory.folder asked.is_tree asked.entries asked.indexed)
    ∙ ap (λ (f : List ℕ). taken_folder d f (first_claim f (claims_in (sealing_of keys) tree))) asked.own

pub asked_is : (parent : List ℕ) (place : NewPlace) (drawn : Option NewDirectory) (tree : HeldTree) (claims : List (List ℕ × ℕ)) (path : Option HostPath) (d : Disk)
    → path ≡ or_else (taken_place d parent place.text) (by_drawn tree claims drawn d) → IsTaken parent place drawn tree claims path d
asked_is parent place drawn tree claims path d e keys i n asked =
    e ∙ or_else_or (taken_short d parent place.text) (if_there (host_entry parent (long_folder place.text)) (get d (host_entry parent (long_folder place.text)))) (by_drawn tree claims drawn d)
    ∙ ap (λ (o : Option HostPath). or_else (taken_short d parent place.text) (or_else (if_there (host_entry parent (long_folder place.text)) (get d (host_entry parent (long_folder place.text)))) o))
    (drawn_is keys i n parent place drawn tree claims asked d)
    ∙ (λ j. or_else (taken_short d (asked.above j) (asked.text j))
    (or_else (if_there (host_entry (asked.above j) (long_folder (asked.text j))) (get d (host_entry (asked.above j) (long_folder (asked.text j)))))
    (taken_by_identifier (sealing_of keys) d (claims_in (sealing_of keys) tree) (identifier_in drawn))))

module _ (contents : Option Disk) (parent : List ℕ) (place : NewPlace) (tree : HeldTree) (claims : List (List ℕ × ℕ)) where
  pub taken_first : (drawn : Option NewDirectory) (path : HostPath) → Told contents (λ d. Some path ≡ taken_place d parent place.text) → Told contents (IsTaken parent place drawn tree claims (Some path))
  taken_first drawn path told =
      told_then contents (λ d. Some path ≡ or_else (taken_place d parent place.text) (by_drawn tree claims drawn d)) (IsTaken parent place drawn tree claims (Some path))
      (told_first contents (λ d. taken_place d parent place.text) (by_drawn tree claims drawn) path told) (asked_is parent place drawn tree claims (Some path))

  pub taken_rest : (directory : NewDirectory) (later : Option Disk) (found : Option HostPath) → later ≡ contents → Told contents (λ d. None ≡ taken_place d parent place.text)
      → Told later (λ d. found ≡ taken_folder d directory.folder (claim_path tree claims directory.folder)) → Told contents (IsTaken parent place (Some directory) tree claims found)
  taken_rest directory later found same none told =
      told_then contents (λ d. found ≡ or_else (taken_place d parent place.text) (by_drawn tree claims (Some directory) d)) (IsTaken parent place (Some directory) tree claims found)
      (told_rest contents later same (λ d. taken_place d parent place.text) (by_drawn tree claims (Some directory)) found none told)
      (asked_is parent place (Some directory) tree claims found)

-- ---- the same by values that are equal

pub place_told : (contents : Option Disk) (h t text : List ℕ) (found other : Option HostPath) → found ≡ other → t ≡ text → Told contents (λ d. found ≡ taken_place d h t) → Told contents (λ d. other ≡ taken_place d h text)
place_told contents h t text found other same is told =
    told_then contents (λ d. found ≡ taken_place d h t) (λ d. other ≡ taken_place d h text) told (λ d e. sym same ∙ e ∙ ap (λ (x : List ℕ). taken_place d h x) is)

pub none_found : (found : Option HostPath) → ((path : HostPath) → found ≡ Some path → ⊥) → found ≡ None
none_found None other = refl
none_found (Some path) other = absurd (other path refl)
