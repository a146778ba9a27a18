-- The first deeds of a batch.
use Rattle.std.proofs.Common.{◌≡◌, ℕ, zero, suc, ◌≤◌, List, [], ◌∷◌, length, take, refl, sym, ap, ◌∙◌, inl, inr, min, arith, length-append, length-take}
use Rattle.std.proofs.lemmas.Bool.{cases_lt}
use Rattle.std.specs.List.{AllByRecursion}
use Rattle.deeds.specs.declared.deed.Deed.{Deed}
use Rattle.deeds.specs.Deeds.{PlainDeed}
use Rattle.deeds.specs.Plain.{plain, plains}
use Rattle.deeds.specs.Grammar.{IsDeed, IsBatch, spelled_deed, spelled_deeds}

pub plains_taken : (k : ℕ) (deeds : List Deed) → plains (take k deeds) ≡ take k (plains deeds)
plains_taken zero deeds = refl
plains_taken (suc k) [] = refl
plains_taken (suc k) (deed ∷ deeds) = λ i. plain deed ∷ plains_taken k deeds i

all_taken : {A : Type 0} (P : A → Type 0) (k : ℕ) (xs : List A) → AllByRecursion P xs → AllByRecursion P (take k xs)
all_taken P zero xs all = tt
all_taken P (suc k) [] all = tt
all_taken P (suc k) (x ∷ xs) all = (all.0, all_taken P k xs all.1)

pub taken_short : (k : ℕ) (deeds : List PlainDeed) → length (spelled_deeds (take k deeds)) ≤ length (spelled_deeds deeds)
taken_short zero deeds = omega arith
taken_short (suc k) [] = omega arith
taken_short (suc k) (deed ∷ deeds) =
    omega (arith, taken_short k deeds, length-append (spelled_deed deed) (spelled_deeds (take k deeds)), length-append (spelled_deed deed) (spelled_deeds deeds))

pub taken_batch : (k : ℕ) (deeds : List PlainDeed) → IsBatch deeds → IsBatch (take k deeds)
taken_batch k deeds batch = record {
  few = omega (arith, batch.few, length-take k deeds);
  each = all_taken IsDeed k deeds batch.each;
  short = omega (arith, batch.short, taken_short k deeds);
}

taken_all : {A : Type 0} (k : ℕ) (xs : List A) → length xs ≤ k → take k xs ≡ xs
taken_all zero [] le = refl
taken_all zero (x ∷ xs) le = absurd (omega (arith, le))
taken_all (suc k) [] le = refl
taken_all (suc k) (x ∷ xs) le = λ i. x ∷ taken_all k xs (omega (arith, le)) i

-- no more of them than there are
pub taken_within : {A : Type 0} (k : ℕ) (xs : List A) → take (min k (length xs)) xs ≡ take k xs
taken_within k xs = elim (cases_lt k (length xs)) [
  | inl lt ↦ let e : min k (length xs) ≡ k = omega arith in ap (λ (n : ℕ). take n xs) e
  | inr le ↦ let e : min k (length xs) ≡ length xs = omega arith in ap (λ (n : ℕ). take n xs) e ∙ taken_all (length xs) xs (omega arith) ∙ sym (taken_all k xs le)
]
