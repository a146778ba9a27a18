-- The names of directories, after one was set or looked for.
use Rattle.std.proofs.Common.{◌≡◌, ◌≢◌, ℕ, Bool, true, false, cond, ◌&&◌, List, [], ◌∷◌, Option, Some, None, IsSome, is_some, bytes_eq, ◌==◌, slice_get, refl, sym, ap, ◌∙◌, true≢false}
use Rattle.std.proofs.lemmas.Bool.{eqb-true}
use Rattle.std.proofs.lemmas.Map.Text.{is_eq-slice_cmp}
use Rattle.std.specs.Cmp.{unsigned_ties}
use Rattle.std.proofs.lemmas.Cmp.{nat_list_cmp_total}
use Rattle.std.specs.Cmp.Lexicographic.{slice_cmp}
use Rattle.std.specs.Ordering.{nat_cmp, is_gt, ordering_reverse}
use Rattle.std.specs.declared.cmp.Ordering.{Ordering}
use Rattle.std.specs.declared.cmp.Ordering.TheVariants.{Less, Equal, Greater}
use Rattle.std.specs.declared.ops.Bound.{Bound}
use Rattle.std.specs.declared.ops.Bound.TheVariants.{Excluded, Unbounded}
use Rattle.std.specs.Option.{option_and_then}
use Rattle.std.specs.BTreeMap.{BTreeMap, get, is_at}
use Rattle.std.specs.BTreeMap.Range.{IsRangeOf, IsInRange, IsEntryInRange}
use Rattle.std.proofs.lemmas.Map.Lookups.{exact_bytes}
use Rattle.clear_tree.specs.Kept.{IsBehind}
use Rattle.live_tree.specs.Index.{Names, number_in, number_at, IsSet, IsNextName}

pub at_number : (a b : ℕ) → is_at (nat_cmp a) b ≡ (a == b)
at_number a b = sym (unsigned_ties a b)

pub at_name : (a b : List ℕ) → is_at (slice_cmp nat_cmp a) b ≡ bytes_eq a b
at_name a b = is_eq-slice_cmp a b

abbrev Inner : Type 0
Inner = BTreeMap (List ℕ) ℕ

number_step : (same here : Bool) (number : Option ℕ) (name' : List ℕ) (inner inner' : Inner) (was is : Option Inner) → (same ≡ true → was ≡ Some inner)
    → is ≡ cond same (Some inner') was → number_in inner' name' ≡ cond here number (number_in inner name')
    → option_and_then (λ (i : Inner). number_in i name') is ≡ cond (same && here) number (option_and_then (λ (i : Inner). number_in i name') was)
number_step true here number name' inner inner' was is had e c = rw (e, had refl) c
number_step false here number name' inner inner' was is had e c = rw e refl

there_step : (same : Bool) (inner inner' : Inner) (was is : Option Inner) → (same ≡ true → was ≡ Some inner) → is ≡ cond same (Some inner') was → is_some is ≡ is_some was
there_step true inner inner' was is had e = rw (e, had refl) refl
there_step false inner inner' was is had e = rw e refl

-- if one name of a directory was set
pub set_from : (old new : Names) (parent : ℕ) (inner inner' : Inner) (name : List ℕ) (number : Option ℕ) → get nat_cmp old parent ≡ Some inner
    → ((q : ℕ) → get nat_cmp new q ≡ cond (is_at (nat_cmp parent) q) (Some inner') (get nat_cmp old q))
    → ((q : List ℕ) → number_in inner' q ≡ cond (is_at (slice_cmp nat_cmp name) q) number (number_in inner q)) → IsSet old new parent name number
set_from old new parent inner inner' name number had outer within = record {
  numbers = λ parent' name'.
      number_step (parent == parent') (bytes_eq name name') number name' inner inner' (get nat_cmp old parent') (get nat_cmp new parent') (held parent')
      (outer parent' ∙ ap (λ b. cond b (Some inner') (get nat_cmp old parent')) (at_number parent parent'))
      (within name' ∙ ap (λ b. cond b number (number_in inner name')) (at_name name name'));
  directories = λ parent'.
      there_step (parent == parent') inner inner' (get nat_cmp old parent') (get nat_cmp new parent') (held parent')
      (outer parent' ∙ ap (λ b. cond b (Some inner') (get nat_cmp old parent')) (at_number parent parent'));
}
  where
    held : (parent' : ℕ) → (parent == parent') ≡ true → get nat_cmp old parent' ≡ Some inner
    held parent' e = ap (get nat_cmp old) (sym (eqb-true parent parent' e)) ∙ had

-- ---- the next name

-- from where on the names after another are
abbrev pub start_of : Option (List ℕ) → Bound (List ℕ)
start_of None = Unbounded
start_of (Some last) = Excluded last

turned : (a b : List ℕ) (o : Ordering) → slice_cmp nat_cmp a b ≡ o → slice_cmp nat_cmp b a ≡ ordering_reverse o
turned a b o e = nat_list_cmp_total.antisymm b a ∙ ap ordering_reverse e

behind_from : (last : Option (List ℕ)) (name : List ℕ) → IsInRange (slice_cmp nat_cmp) (start_of last) Unbounded name → IsBehind last name
behind_from None name h = tt
behind_from (Some last) name h = turned last name Less h.0

range_from : (last : Option (List ℕ)) (name : List ℕ) → IsBehind last name → IsInRange (slice_cmp nat_cmp) (start_of last) Unbounded name
range_from None name h = (tt, tt)
range_from (Some last) name h = (turned name last Greater h, tt)

less_from : (a b : List ℕ) (o : Ordering) → slice_cmp nat_cmp a b ≡ o → is_gt o ≡ false → b ≢ a → o ≡ Less
less_from a b Less e h apart = refl
less_from a b Equal e h apart = absurd (apart (sym (exact_bytes a b e)))
less_from a b Greater e h apart = absurd (true≢false h)

some_is : {o : Option ℕ} {x : ℕ} → o ≡ Some x → IsSome o
some_is e = ap is_some e

inner_at : (names : Names) (parent : ℕ) (inner : Inner) (name : List ℕ) → get nat_cmp names parent ≡ Some inner → number_at names parent name ≡ number_in inner name
inner_at names parent inner name e = ap (option_and_then (λ (i : Inner). number_in i name)) e

module _ (names : Names) (parent : ℕ) (inner : Inner) (last : Option (List ℕ)) (r : List (List ℕ × ℕ)) (is : get nat_cmp names parent ≡ Some inner)
    (range : IsRangeOf (slice_cmp nat_cmp) (start_of last) Unbounded inner r) where
  pub next_from : (e : List ℕ × ℕ) (rest : List (List ℕ × ℕ)) → r ≡ e ∷ rest → IsNextName names parent last e.1
  next_from e rest first =
      let head : slice_get r 0 ≡ Some e = ap (λ (xs : List (List ℕ × ℕ)). slice_get xs 0) first in
      let mine : IsEntryInRange (slice_cmp nat_cmp) (start_of last) Unbounded inner e = rw head at range.1 in
      record {
        name = e.0;
        there = inner_at names parent inner e.0 is ∙ mine.1;
        behind = behind_from last e.0 mine.0;
        first = λ other number' at behind apart.
            let found : number_in inner other ≡ Some number' = sym (inner_at names parent inner other is) ∙ at in
            let not_gt = rw head at (range.2 other (range_from last other behind) (some_is found)) in
            less_from e.0 other (slice_cmp nat_cmp e.0 other) refl not_gt apart;
      }

  pub none_from : r ≡ [] → (name : List ℕ) (number : ℕ) → number_at names parent name ≡ Some number → IsBehind last name → ⊥
  none_from empty name number at behind =
      let none = range.5 empty name (range_from last name behind) in
      let found : number_in inner name ≡ Some number = sym (inner_at names parent inner name is) ∙ at in
      absurd (cc (none, found))
