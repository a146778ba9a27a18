-- The names in a folder, from the paths of a map in order.
use Rattle.std.proofs.Common.{◌≡◌, ◌≢◌, ℕ, Bool, true, false, cond, ◌||◌, List, [], ◌∷◌, ◌++◌, Option, Some, None, is_some, refl, sym, ap, ◌∙◌, true≢false, arith, append_assoc}
use Rattle.std.proofs.lemmas.Grind.{common_steps}
use Rattle.std.specs.Bool.{Decides}
use Rattle.std.specs.Str.{bytes_eq}
use Rattle.std.specs.Option.{option_map, option_to_list}
use Rattle.std.specs.List.{list_any, IsDistinct, AllByRecursion}
use Rattle.std.specs.List.Sorted.{IsStrictlySortedBy}
use Rattle.std.specs.Map.{lookup, keys_of}
use Rattle.std.specs.BTreeMap.{is_at}
use Rattle.std.specs.Ordering.{eq_by_cmp}
use Rattle.std.proofs.lemmas.Slice.Eq.{bytes_eq-Decides}
use Rattle.std.proofs.lemmas.List.Folds.{list_any-append}
use Rattle.std.proofs.lemmas.Map.Views.{list_any-from_Contains, Contains-from_any}
use Rattle.std.specs.Cmp.Lexicographic.{nat_list_eq_equiv}
use Rattle.std.proofs.lemmas.Map.Keys.{IsDistinct-from_sorted}
use Rattle.outside.specs.Disk.{Path, path_cmp}
use Rattle.host_calls.specs.Volume.{Entry, entry_at}
use Rattle.mem_host.specs.Entries.{entry_of, names_of, AreNamesIn}
use Rattle.mem_host.specs.declared.names.MemEntry.{MemEntry}
use Rattle.outside.proofs.Paths.{path_decides}
use Rattle.mem_host.proofs.Entries.{get_names}

-- the last part of a path in a folder
abbrev pub name_below : Path → Path → Option (List ℕ)
name_below [] [] = None
name_below [] (name ∷ []) = Some name
name_below [] (part ∷ other ∷ parts) = None
name_below (part ∷ parts) [] = None
name_below (part ∷ parts) (other ∷ others) = cond (bytes_eq part other) (name_below parts others) None

-- those of all the paths
abbrev pub names_below : Path → List Path → List (List ℕ)
names_below folder [] = []
names_below folder (path ∷ paths) = option_to_list (name_below folder path) ++ names_below folder paths

step : (b : Bool) (o : Option (List ℕ)) (name : List ℕ) → cond b o None ≡ Some name → (b ≡ true) × (o ≡ Some name)
step true o name h = (refl, h)
step false o name h = cc

pub below_exact : (folder path : Path) (name : List ℕ) → name_below folder path ≡ Some name → path ≡ folder ++ name ∷ []
below_exact [] [] name h = cc
below_exact [] (last ∷ []) name h = let e : last ≡ name = cc in ap (λ t. t ∷ []) e
below_exact [] (part ∷ other ∷ parts) name h = cc
below_exact (part ∷ parts) [] name h = cc
below_exact (part ∷ parts) (other ∷ others) name h =
    let both = step (bytes_eq part other) (name_below parts others) name h in
    let heads : part ≡ other = (bytes_eq-Decides part other).0 both.0 in
    λ i. sym heads i ∷ below_exact parts others name both.1 i

pub below_made : (folder : Path) (name : List ℕ) → name_below folder (folder ++ name ∷ []) ≡ Some name
below_made [] name = refl
below_made (part ∷ parts) name = ap (λ b. cond b (name_below parts (parts ++ name ∷ [])) None) ((bytes_eq-Decides part part).1 refl) ∙ below_made parts name

-- a path that no name makes has none
pub below_none : (folder path : Path) → ((name : List ℕ) → path ≢ folder ++ name ∷ []) → name_below folder path ≡ None
below_none folder path never = at (name_below folder path) refl
  where
    at : (o : Option (List ℕ)) → name_below folder path ≡ o → name_below folder path ≡ None
    at None e = e
    at (Some name) e = absurd (never name (below_exact folder path name e))

pub below_some : (folder path : Path) (name : List ℕ) → path ≡ folder ++ name ∷ [] → name_below folder path ≡ Some name
below_some folder path name e = ap (name_below folder) e ∙ below_made folder name

or_false : (b : Bool) → (b || false) ≡ b
or_false true = refl
or_false false = refl

same_test : {P : Type 0} (a b : Bool) → Decides a P → Decides b P → a ≡ b
same_test true true d e = refl
same_test true false d e = sym (e.1 (d.0 refl))
same_test false true d e = d.1 (e.0 refl)
same_test false false d e = refl

found : (folder path : Path) (name : List ℕ) (o : Option (List ℕ)) → name_below folder path ≡ o → Decides (list_any (bytes_eq name) (option_to_list o)) (folder ++ name ∷ [] ≡ path)
found folder path name None none = (λ h. absurd (true≢false (sym h)), λ e. let some : name_below folder path ≡ Some name = below_some folder path name (sym e) in cc)
found folder path name (Some other) one = (
  λ h. let same : name ≡ other = (bytes_eq-Decides name other).0 (sym (or_false (bytes_eq name other)) ∙ h) in ap (λ t. folder ++ t ∷ []) same ∙ sym (below_exact folder path other one),
  λ e. let some : name_below folder path ≡ Some name = below_some folder path name (sym e) in let same : name ≡ other = cc in or_false (bytes_eq name other) ∙ (bytes_eq-Decides name other).1 same,
)

hit : (folder path : Path) (name : List ℕ) → eq_by_cmp path_cmp (folder ++ name ∷ []) path ≡ list_any (bytes_eq name) (option_to_list (name_below folder path))
hit folder path name = same_test _ _ (path_decides (folder ++ name ∷ []) path) (found folder path name (name_below folder path) refl)

or_cond : (b : Bool) (h : MemEntry) (o : Option MemEntry) → (b || is_some o) ≡ is_some (cond b (Some h) o)
or_cond true h o = refl
or_cond false h o = refl

listed : (es : List (Path × MemEntry)) (folder : Path) (name : List ℕ) → list_any (bytes_eq name) (names_below folder (keys_of es)) ≡ is_some (lookup (is_at (path_cmp (folder ++ name ∷ []))) es)
listed [] folder name = refl
listed (e ∷ es) folder name =
    list_any-append (bytes_eq name) (option_to_list (name_below folder e.0)) (names_below folder (keys_of es))
    ∙ (λ i. sym (hit folder e.0 name) i || listed es folder name i)
    ∙ or_cond (eq_by_cmp path_cmp (folder ++ name ∷ []) e.0) e.1 (lookup (is_at (path_cmp (folder ++ name ∷ []))) es)

-- ---- each once

apart : (folder path other : Path) (name : List ℕ) → name_below folder path ≡ Some name → eq_by_cmp path_cmp path other ≡ false → (o : Option (List ℕ)) → name_below folder other ≡ o → AllByRecursion (λ n. bytes_eq name n ≡ false) (option_to_list o)
apart folder path other name one ne None none = tt
apart folder path other name one ne (Some n) two = (not_same (bytes_eq name n) refl, tt)
  where
    not_same : (b : Bool) → bytes_eq name n ≡ b → bytes_eq name n ≡ false
    not_same false e = e
    not_same true e = let same : name ≡ n = (bytes_eq-Decides name n).0 e in
        let paths : path ≡ other = below_exact folder path name one ∙ ap (λ t. folder ++ t ∷ []) same ∙ sym (below_exact folder other n two) in
        absurd (true≢false (sym ((path_decides path other).1 paths) ∙ ne))

both_parts : (P : List ℕ → Type 0) (xs ys : List (List ℕ)) → AllByRecursion P xs → AllByRecursion P ys → AllByRecursion P (xs ++ ys)
both_parts P [] ys h k = k
both_parts P (x ∷ xs) ys h k = (h.0, both_parts P xs ys h.1 k)

all_apart : (folder path : Path) (name : List ℕ) (paths : List Path) → name_below folder path ≡ Some name → AllByRecursion (λ other. eq_by_cmp path_cmp path other ≡ false) paths → AllByRecursion (λ n. bytes_eq name n ≡ false) (names_below folder paths)
all_apart folder path name [] one h = tt
all_apart folder path name (other ∷ paths) one h =
    both_parts (λ n. bytes_eq name n ≡ false) (option_to_list (name_below folder other)) (names_below folder paths) (apart folder path other name one h.0 (name_below folder other) refl) (all_apart folder path name paths one h.1)

one_more : (folder path : Path) (paths : List Path) (o : Option (List ℕ)) → name_below folder path ≡ o → AllByRecursion (λ other. eq_by_cmp path_cmp path other ≡ false) paths → IsDistinct bytes_eq (names_below folder paths) → IsDistinct bytes_eq (option_to_list o ++ names_below folder paths)
unfolding IsDistinct
one_more folder path paths None none h rest = rest
one_more folder path paths (Some name) one h rest = (all_apart folder path name paths one h, rest)

distinct : (folder : Path) (paths : List Path) → IsDistinct (eq_by_cmp path_cmp) paths → IsDistinct bytes_eq (names_below folder paths)
unfolding IsDistinct
distinct folder [] h = tt
distinct folder (path ∷ paths) h = one_more folder path paths (name_below folder path) refl h.0 (distinct folder paths h.1)

-- ---- a listing

some_mapped : (o : Option MemEntry) → is_some (option_map entry_of o) ≡ is_some o
some_mapped None = refl
some_mapped (Some h) = refl

-- a path in the folder is there if its name is below it
there : (es : List (Path × MemEntry)) (folder : Path) (name : List ℕ) → is_some (entry_at (names_of es) (folder ++ name ∷ [])) ≡ list_any (bytes_eq name) (names_below folder (keys_of es))
there es folder name = ap is_some (get_names es (folder ++ name ∷ [])) ∙ some_mapped (lookup (is_at (path_cmp (folder ++ name ∷ []))) es) ∙ sym (listed es folder name)

-- the names below a folder are its listing
pub listing : (es : List (Path × MemEntry)) (folder : Path) → IsStrictlySortedBy path_cmp (keys_of es) → AreNamesIn (names_of es) folder (names_below folder (keys_of es))
listing es folder sorted = record {
  distinct = distinct folder (keys_of es) (IsDistinct-from_sorted path_cmp (keys_of es) sorted);
  exact = λ name. (
    λ c. there es folder name ∙ list_any-from_Contains nat_list_eq_equiv name _ c,
    λ h. Contains-from_any (λ x y. (bytes_eq-Decides x y).0) name _ (sym (there es folder name) ∙ h),
  );
}

-- ---- a loop over the paths

-- a path in the folder, and the paths after it
pub step_some : (names : List (List ℕ)) (folder path : Path) (name : List ℕ) (left rest : List Path) → left ≡ path ∷ rest → path ≡ folder ++ name ∷ [] → (names ++ name ∷ []) ++ names_below folder rest ≡ names ++ names_below folder left
step_some names folder path name left rest e is =
    append_assoc names (name ∷ []) (names_below folder rest)
    ∙ ap (λ o. names ++ (option_to_list o ++ names_below folder rest)) (sym (below_some folder path name is))
    ∙ ap (λ t. names ++ names_below folder t) (sym e)

-- another path, and the paths after it
pub step_none : (names : List (List ℕ)) (folder path : Path) (left rest : List Path) → left ≡ path ∷ rest → ((name : List ℕ) → path ≢ folder ++ name ∷ []) → names ++ names_below folder rest ≡ names ++ names_below folder left
step_none names folder path left rest e never =
    ap (λ o. names ++ (option_to_list o ++ names_below folder rest)) (sym (below_none folder path never))
    ∙ ap (λ t. names ++ names_below folder t) (sym e)

-- the end of the paths
pub all_named : (names : List (List ℕ)) (folder : Path) (left paths : List Path) → left ≡ [] → names ++ names_below folder left ≡ names_below folder paths → names ≡ names_below folder paths
all_named names folder left paths none e = append_nil names ∙ ap (λ t. names ++ names_below folder t) (sym none) ∙ e
  where
    append_nil : (xs : List (List ℕ)) → xs ≡ xs ++ []
    append_nil xs = grind (arith, common_steps)

-- ---- whether there is a name

-- a folder below which no name is has nothing in it
pub none_below : (es : List (Path × MemEntry)) (folder : Path) → names_below folder (keys_of es) ≡ [] → (name : List ℕ) → entry_at (names_of es) (folder ++ name ∷ []) ≡ None
none_below es folder none name = at (entry_at (names_of es) (folder ++ name ∷ [])) (there es folder name ∙ ap (list_any (bytes_eq name)) none)
  where
    at : (o : Option Entry) → is_some o ≡ false → o ≡ None
    at None e = refl
    at (Some entry) e = absurd (true≢false e)

-- and one below which a name is has it in it
pub some_below : (es : List (Path × MemEntry)) (folder : Path) (name : List ℕ) (more : List (List ℕ)) → names_below folder (keys_of es) ≡ name ∷ more → ((name : List ℕ) → entry_at (names_of es) (folder ++ name ∷ []) ≡ None) → ⊥
some_below es folder name more some none =
    let found : list_any (bytes_eq name) (name ∷ more) ≡ true = ap (λ b. b || list_any (bytes_eq name) more) ((bytes_eq-Decides name name).1 refl) in
    true≢false (sym (there es folder name ∙ ap (list_any (bytes_eq name)) some ∙ found) ∙ ap is_some (none name))
