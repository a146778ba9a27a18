-- Deeds phase by phase, and the order of doing.
use Rattle.std.proofs.Common.{◌≡◌, ℕ, zero, suc, ◌+◌, ◌≤◌, List, [], ◌∷◌, ◌++◌, Bool, true, false, cond, take, drop, length, Option, Some, None, refl, sym, ap, subst, ◌∙◌, inl, inr, add-one, append_assoc, arith}
use Rattle.std.specs.Prelude.{IsTrue}
use Rattle.std.proofs.lemmas.List.Elements.{filter-append}
use Rattle.outside.specs.Calls.{HasCause, Changes, IsUnfit, Rose}
use Rattle.outside.specs.Disk.{Disk, Path}
use Rattle.outside.specs.Images.{Log, now}
use Rattle.deeds.specs.declared.phase.Phase.{Phase}
use Rattle.deeds.specs.declared.phase.Phase.TheVariants as phases
use Rattle.deeds.specs.declared.deed.Deed.{Deed}
use Rattle.deeds.specs.Plain.{plain, plains}
use Rattle.deeds.specs.Deeds.{PlainDeed, MakesDir, Puts, Renames, Removes, RemovesDir, Reshapes, Does, DoesAll, StaysAmid, IfUnfit, IsRefusedIn, Unnamed, ApartFrom, AreApart, IsOneOf, is_of, of_phase, in_order, IsRefusal, IsWithin, AreWithin}
use Rattle.deeds.specs.declared.phase.DeedErr.{DeedErr}
use Rattle.deeds.specs.declared.phase.DeedErr.TheVariants as errors
use Rattle.deeds.proofs.Doing.{does_then, one_more, none_more}

-- ---- one deed of a list

take_one : (i : ℕ) (ds : List PlainDeed) (d : PlainDeed) (rest : List PlainDeed) → drop i ds ≡ d ∷ rest → take (suc i) ds ≡ take i ds ++ d ∷ []
take_one zero ds d rest e = ap (take 1) e
take_one (suc i) [] d rest e = absurd cc
take_one (suc i) (x ∷ ds) d rest e = ap (λ (l : List PlainDeed). x ∷ l) (take_one i ds d rest e)

-- one deed more of the front, in its phase or not
pub front_step : (phase : Phase) (ds : List PlainDeed) (i : ℕ) (d : PlainDeed) (rest : List PlainDeed) → drop i ds ≡ d ∷ rest → of_phase phase (take (i + 1) ds) ≡ of_phase phase (take i ds) ++ of_phase phase (d ∷ [])
front_step phase ds i d rest e =
    ap (λ (k : ℕ). of_phase phase (take k ds)) (add-one i) ∙ ap (of_phase phase) (take_one i ds d rest e) ∙ filter-append (is_of phase) (take i ds) (d ∷ [])

pub of_one : (phase : Phase) (d : PlainDeed) → is_of phase d ≡ true → of_phase phase (d ∷ []) ≡ d ∷ []
of_one phase d e = ap (λ (b : Bool). cond b (d ∷ []) []) e

kept_one : (x d : PlainDeed) (b : Bool) (xs : List PlainDeed) → IsOneOf d xs → IsOneOf d (cond b (x ∷ xs) xs)
kept_one x d true xs one = inr one
kept_one x d false xs one = one

pub one_of_phase : (phase : Phase) (ds : List PlainDeed) (i : ℕ) (d : PlainDeed) (rest : List PlainDeed) → drop i ds ≡ d ∷ rest → is_of phase d ≡ true → IsOneOf d (of_phase phase ds)
one_of_phase phase [] zero d rest e is = absurd cc
one_of_phase phase (x ∷ ds) zero d rest e is =
    let same : x ≡ d = cc in
    subst (λ (b : Bool). IsOneOf d (cond b (x ∷ of_phase phase ds) (of_phase phase ds))) (sym (ap (is_of phase) same ∙ is)) (inl (sym same))
one_of_phase phase [] (suc i) d rest e is = absurd cc
one_of_phase phase (x ∷ ds) (suc i) d rest e is = kept_one x d (is_of phase x) (of_phase phase ds) (one_of_phase phase ds i d rest e is)

pub within_at : (ds : List PlainDeed) (i : ℕ) (d : PlainDeed) (rest : List PlainDeed) → drop i ds ≡ d ∷ rest → AreWithin ds → IsWithin d
within_at [] zero d rest e within = absurd cc
within_at (x ∷ ds) zero d rest e within = let same : x ≡ d = cc in subst IsWithin same within.0
within_at [] (suc i) d rest e within = absurd cc
within_at (x ∷ ds) (suc i) d rest e within = within_at ds i d rest e within.1

plains_drop : (i : ℕ) (s : List Deed) → drop i (plains s) ≡ plains (drop i s)
plains_drop zero s = refl
plains_drop (suc i) [] = refl
plains_drop (suc i) (x ∷ s) = plains_drop i s

pub plains_at : (s : List Deed) (i : ℕ) (x : Deed) → drop i s ≡ x ∷ drop (i + 1) s → drop i (plains s) ≡ plain x ∷ drop (suc i) (plains s)
plains_at s i x e =
    let rest : plains (drop (i + 1) s) ≡ drop (suc i) (plains s) = sym (plains_drop (i + 1) s) ∙ ap (λ (k : ℕ). drop k (plains s)) (add-one i) in
    plains_drop i s ∙ ap plains e ∙ ap (λ (l : List PlainDeed). plain x ∷ l) rest

pub plains_next : (s : List Deed) (i : ℕ) (x : Deed) → drop i s ≡ x ∷ drop (i + 1) s → drop i (plains s) ≡ plain x ∷ drop (i + 1) (plains s)
plains_next s i x e = plains_drop i s ∙ ap plains e ∙ ap (λ (l : List PlainDeed). plain x ∷ l) (sym (plains_drop (i + 1) s))

pub plains_long : (s : List Deed) → length (plains s) ≡ length s
plains_long [] = refl
plains_long (x ∷ s) = ap suc (plains_long s)

pub plains_pushed : (s : List Deed) (x : Deed) → plains (s ++ x ∷ []) ≡ plains s ++ plain x ∷ []
plains_pushed [] x = refl
plains_pushed (y ∷ s) x = ap (λ (l : List PlainDeed). plain y ∷ l) (plains_pushed s x)

pub plains_all : (s : List Deed) (i : ℕ) → length s ≤ i → take i (plains s) ≡ plains s
plains_all [] zero le = refl
plains_all [] (suc i) le = refl
plains_all (x ∷ s) zero le = absurd (omega arith)
plains_all (x ∷ s) (suc i) le = ap (λ (l : List PlainDeed). plain x ∷ l) (plains_all s i (omega arith))

-- ---- counts of faults over more calls

pub rose_before : (a b c : ℕ) → a ≤ b → Rose b c → Rose a c
rose_before a b c le (inl lt) = inl (omega arith)
rose_before a b c le (inr end) = inr end

pub cause_then : (a b c : ℕ) (F : Type 0) → a ≤ b → HasCause b c F → HasCause a c F
cause_then a b c F le cause = record { later = omega (arith, cause.later); rose = λ failed. rose_before a b c le (cause.rose failed) }

pub unfit_then : (a b : Option Log) (fa fb fd : ℕ) (R : Log → Log → Type 0) (P Q : Log → Type 0) → ((x y : Log) → R x y → P x → Q y) → Changes a b R → fa ≤ fb → IsUnfit b fb fd Q → IsUnfit a fa fd P
unfit_then None None fa fb fd R P Q f r le u = rose_before fa fb fd le u
unfit_then None (Some y) fa fb fd R P Q f r le u = absurd r
unfit_then (Some x) None fa fb fd R P Q f r le u = absurd r
unfit_then (Some x) (Some y) fa fb fd R P Q f r le u = λ p. u (f x y r p)

pub refusal_then : (a b : Option Log) (fa fb fd : ℕ) (R : Log → Log → Type 0) (Q : Log → Type 0) (P : Disk → Type 0) → ((x y : Log) → R x y → (Q y → ⊥) → P (now x)) → Changes a b R → fa ≤ fb → IsUnfit b fb fd Q → IsRefusal a fa fd P
refusal_then None None fa fb fd R Q P f r le u = rose_before fa fb fd le u
refusal_then None (Some y) fa fb fd R Q P f r le u = absurd r
refusal_then (Some x) None fa fb fd R Q P f r le u = absurd r
refusal_then (Some x) (Some y) fa fb fd R Q P f r le u = f x y r u

pub refusal_after : (a b : Option Log) (fa fb fd : ℕ) (R : Log → Log → Type 0) (Q P : Disk → Type 0) → ((x y : Log) → R x y → Q (now y) → P (now x)) → Changes a b R → fa ≤ fb → IsRefusal b fb fd Q → IsRefusal a fa fd P
refusal_after None None fa fb fd R Q P f r le u = rose_before fa fb fd le u
refusal_after None (Some y) fa fb fd R Q P f r le u = absurd r
refusal_after (Some x) None fa fb fd R Q P f r le u = absurd r
refusal_after (Some x) (Some y) fa fb fd R Q P f r le u = f x y r u

pub refusal_by : (a : Option Log) (fa fd : ℕ) (Q P : Disk → Type 0) → ((d : Disk) → Q d → P d) → IsRefusal a fa fd Q → IsRefusal a fa fd P
refusal_by None fa fd Q P f u = u
refusal_by (Some x) fa fd Q P f u = f (now x) u

-- ---- steps of a phase

pub done_more : (phase : Phase) (ds : List PlainDeed) (i : ℕ) (d : PlainDeed) (rest : List PlainDeed) → drop i ds ≡ d ∷ rest → (a b c : Disk)
    → DoesAll (of_phase phase (take i ds)) a b → DoesAll (of_phase phase (d ∷ [])) b c → DoesAll (of_phase phase (take (i + 1) ds)) a c
done_more phase ds i d rest e a b c so_far one = subst (λ (l : List PlainDeed). DoesAll l a c) (sym (front_step phase ds i d rest e)) (does_then _ _ a b c so_far one)

part_by : (phase : Phase) (ds : List PlainDeed) (i : ℕ) (d : PlainDeed) (rest : List PlainDeed) → drop i ds ≡ d ∷ rest → (b : Bool) → is_of phase d ≡ b → (old mid new : Log)
    → StaysAmid (of_phase phase ds) old mid → StaysAmid (cond b (d ∷ []) []) mid new → StaysAmid (of_phase phase ds) old new
part_by phase ds i d rest e true is old mid new first second = one_more d (of_phase phase ds) old mid new (one_of_phase phase ds i d rest e is) first second
part_by phase ds i d rest e false is old mid new first second = none_more (of_phase phase ds) old mid new first second

pub part_more : (phase : Phase) (ds : List PlainDeed) (i : ℕ) (d : PlainDeed) (rest : List PlainDeed) → drop i ds ≡ d ∷ rest → (old mid new : Log)
    → StaysAmid (of_phase phase ds) old mid → StaysAmid (of_phase phase (d ∷ [])) mid new → StaysAmid (of_phase phase ds) old new
part_more phase ds i d rest e old mid new first second = part_by phase ds i d rest e (is_of phase d) refl old mid new first second

pub refused_at : (phase : Phase) (ds : List PlainDeed) (i : ℕ) (d : PlainDeed) → drop i ds ≡ d ∷ drop (suc i) ds → (a b : Option Log) (fa fb fd : ℕ) (error : DeedErr)
    → Changes a b (λ old new. DoesAll (of_phase phase (take i ds)) (now old) (now new)) → fa ≤ fb
    → IfUnfit error (λ at. (at ≡ i) × IsTrue (is_of phase d) × IsUnfit b fb fd (λ log. (after : Disk) × Does d (now log) after))
    → IfUnfit error (λ index. IsRefusal a fa fd (IsRefusedIn phase ds index))
refused_at phase ds i d e a b fa fb fd errors.Failed front le refused = tt
refused_at phase ds i d e a b fa fb fd (errors.Unfit at) front le refused =
    subst (λ (k : ℕ). IsRefusal a fa fd (IsRefusedIn phase ds k)) (sym refused.0)
    (refusal_then a b fa fb fd (λ old new. DoesAll (of_phase phase (take i ds)) (now old) (now new)) (λ log. (after : Disk) × Does d (now log) after) (IsRefusedIn phase ds i)
    (λ x y before cannot. record { deed = d; here = e; its_phase = refused.1; between = now y; before = before; cannot = λ after does. cannot (after, does) }) front le refused.2)

-- ---- the order of doing

-- a deed more in the batch is one more in the order of doing
pub record IsPutIn (d : PlainDeed) (old new : List PlainDeed) : Type 0 where
  pub front : List PlainDeed
  pub back : List PlainDeed
  pub before : old ≡ front ++ back
  pub after : new ≡ front ++ d ∷ back

first : (d : PlainDeed) (ms vs rs : List PlainDeed) → IsPutIn d (ms ++ vs ++ rs) ((d ∷ ms) ++ vs ++ rs)
first d ms vs rs = record { front = []; back = ms ++ vs ++ rs; before = refl; after = refl }

second : (d : PlainDeed) (ms vs rs : List PlainDeed) → IsPutIn d (ms ++ vs ++ rs) (ms ++ (d ∷ vs) ++ rs)
second d ms vs rs = record { front = ms; back = vs ++ rs; before = append_assoc ms vs rs; after = append_assoc ms (d ∷ vs) rs }

third : (d : PlainDeed) (ms vs rs : List PlainDeed) → IsPutIn d (ms ++ vs ++ rs) (ms ++ vs ++ (d ∷ rs))
third d ms vs rs = record { front = ms ++ vs; back = rs; before = refl; after = refl }

put_in : (d : PlainDeed) (ds : List PlainDeed) → IsPutIn d (in_order ds) (in_order (d ∷ ds))
put_in (MakesDir path) ds = first (MakesDir path) (of_phase phases.Make ds) (of_phase phases.Move ds) (of_phase phases.Remove ds)
put_in (Puts path bytes) ds = first (Puts path bytes) (of_phase phases.Make ds) (of_phase phases.Move ds) (of_phase phases.Remove ds)
put_in (Reshapes path len rs) ds = first (Reshapes path len rs) (of_phase phases.Make ds) (of_phase phases.Move ds) (of_phase phases.Remove ds)
put_in (Renames from to) ds = second (Renames from to) (of_phase phases.Make ds) (of_phase phases.Move ds) (of_phase phases.Remove ds)
put_in (Removes path) ds = third (Removes path) (of_phase phases.Make ds) (of_phase phases.Move ds) (of_phase phases.Remove ds)
put_in (RemovesDir path) ds = third (RemovesDir path) (of_phase phases.Make ds) (of_phase phases.Move ds) (of_phase phases.Remove ds)

unnamed_in : (q : Path) (d : PlainDeed) (xs ys : List PlainDeed) → Unnamed q (d ∷ []) → Unnamed q (xs ++ ys) → Unnamed q (xs ++ d ∷ ys)
unnamed_in q d [] ys one un = (one.0, un)
unnamed_in q d (x ∷ xs) ys one un = (un.0, unnamed_in q d xs ys one un.1)

pub unnamed_ordered : (q : Path) (ds : List PlainDeed) → Unnamed q ds → Unnamed q (in_order ds)
unnamed_ordered q [] un = tt
unnamed_ordered q (d ∷ ds) un =
    let p = put_in d ds in
    subst (Unnamed q) (sym p.after) (unnamed_in q d p.front p.back (un.0, tt) (subst (Unnamed q) p.before (unnamed_ordered q ds un.1)))

from_in : (x d : PlainDeed) (xs ys : List PlainDeed) → ApartFrom x (d ∷ []) → ApartFrom x (xs ++ ys) → ApartFrom x (xs ++ d ∷ ys)
from_in x d [] ys one apart = (one.0, one.1, apart)
from_in x d (y ∷ xs) ys one apart = (apart.0, apart.1, from_in x d xs ys one apart.2)

from_ordered : (x : PlainDeed) (ds : List PlainDeed) → ApartFrom x ds → ApartFrom x (in_order ds)
from_ordered x [] apart = tt
from_ordered x (d ∷ ds) apart =
    let p = put_in d ds in
    subst (ApartFrom x) (sym p.after) (from_in x d p.front p.back (apart.0, apart.1, tt) (subst (ApartFrom x) p.before (from_ordered x ds apart.2)))

apart_in : (d : PlainDeed) (xs ys : List PlainDeed) → ApartFrom d (xs ++ ys) → AreApart (xs ++ ys) → AreApart (xs ++ d ∷ ys)
apart_in d [] ys from apart = (from, apart)
apart_in d (x ∷ xs) ys from apart = (from_in x d xs ys (from.1, from.0, tt) apart.0, apart_in d xs ys from.2 apart.1)

-- deeds that name no path twice do so in the order of doing
pub apart_ordered : (ds : List PlainDeed) → AreApart ds → AreApart (in_order ds)
apart_ordered [] apart = tt
apart_ordered (d ∷ ds) apart =
    let p = put_in d ds in
    let from = subst (ApartFrom d) p.before (from_ordered d ds apart.0) in
    subst AreApart (sym p.after) (apart_in d p.front p.back from (subst AreApart p.before (apart_ordered ds apart.1)))
