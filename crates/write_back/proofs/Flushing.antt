-- What waited, once it is committed; and a flush of nothing.
use Rattle.std.proofs.Common.{◌≡◌, ℕ, ◌-◌, List, [], ◌∷◌, length, drop, Option, Some, None, Bool, true, false, refl, sym, ap, subst, ◌∙◌, inl, inr, ⊎_elim, ◌≤◌, ◌<◌, arith, eqb-true, eq-eqb}
use Rattle.std.specs.Prelude.{◌==◌, IsTrue, IsFalse}
use Rattle.std.proofs.lemmas.Bool.{false≢true, cases_lt}
use Rattle.outside.specs.Calls.{Told, Changes, Rose}
use Rattle.outside.proofs.Told.{told_same}
use Rattle.outside.specs.Disk.{Disk, node_at}
use Rattle.outside.specs.Images.{Log, now, IsImage}
use Rattle.deeds.specs.declared.deed.Deed.{Deed}
use Rattle.deeds.specs.Plain.{plains}
use Rattle.deeds.proofs.Phases.{plains_long}
use Rattle.deeds.specs.Deeds.{PlainDeed, DoesAll, in_order}
use Rattle.pending_files.specs.Laid.{laid, CanWait, outline, LookAlike}
use Rattle.pending_files.proofs.Laying.{same_kinds}
use Rattle.chunk_journal.specs.Journal.{IsQuiet, IsAlike, IsBeforeOrAfter, AnyMoment, HasCommitted}
use Rattle.chunk_journal.proofs.Gate.{shut_reopens}
use Rattle.chunk_journal.proofs.Tidy.{steady_tidy}

-- ---- a flush

pub is_alike : (ds : List PlainDeed) (old new : Log) → CanWait ds (now old) → HasCommitted ds old new → IsAlike (laid ds (now old)) (now new)
is_alike ds old new can done = done.after (laid ds (now old)) can.does

pub is_outlined : (ds : List PlainDeed) (d new : Disk) → CanWait ds d → IsAlike (laid ds d) new → LookAlike d new
is_outlined ds d new can alike = λ q deep. ap outline (alike q (λ e. omega (arith, deep, ap length e)) (λ e. omega (arith, deep, ap length e))) ∙ same_kinds ds d q can

-- ---- where nothing changed

same_alike : (a b : Disk) → b ≡ a → IsAlike a b
same_alike a b same = λ q journal beside. ap (λ (d : Disk). node_at d q) same

quiet_moment : (ds : List PlainDeed) (l : Log) → IsQuiet l → AnyMoment ds l l
quiet_moment ds l quiet = record {
  recovers = λ after does. record {
    start = refl;
    later = ([], refl);
    each = λ m from to image is.
        let none : length l.calls - m ≡ 0 = omega arith in
        let here : IsImage l image = subst (λ (n : ℕ). IsImage (record { start = l.start; calls = drop n l.calls }) image) none is in
        let same : image ≡ now l = quiet.steady.durable image here in
        subst (IsBeforeOrAfter (now l) after) (sym same) (now l, inl (quiet.closed, refl), inl (same_alike (now l) (now l) refl), shut_reopens (now l) quiet.closed quiet.no_folder);
  };
  tidy = steady_tidy l quiet.steady;
}

pub nothing_moved : (old new : Option Log) (ds : List PlainDeed) → new ≡ old → Told old IsQuiet → Changes old new (AnyMoment ds)
nothing_moved old new ds same quiet = told_same old new IsQuiet (AnyMoment ds) same (quiet_moment ds) quiet

none_of : (deeds : List Deed) → length deeds ≡ 0 → plains deeds ≡ []
none_of [] none = refl
none_of (x ∷ deeds) none = absurd (omega arith)

none_left : (deeds : List Deed) → plains deeds ≡ [] → length deeds ≡ 0
none_left deeds none = omega (arith, plains_long deeds, ap length none)

pub are_empty : (deeds : List Deed) (empty : Bool) → empty ≡ (length deeds == 0) → plains deeds ≡ [] → IsTrue empty
are_empty deeds empty is none = is ∙ eq-eqb (length deeds) 0 (none_left deeds none)

pub are_none : (deeds : List Deed) (empty : Bool) → empty ≡ (length deeds == 0) → IsTrue empty → plains deeds ≡ []
are_none deeds empty is so = none_of deeds (eqb-true (length deeds) 0 (sym is ∙ so))

-- ---- what fits

-- what is left is nothing
pub plains_none : (deeds : List Deed) (empty : Bool) (left : List PlainDeed) → empty ≡ (length deeds == 0) → IsTrue empty → plains deeds ≡ left → left ≡ []
plains_none deeds empty left is so same = sym same ∙ are_none deeds empty is so

-- if nothing of a told log was dropped, what was done with what is left was done with all that waited
pub of_all : (P : List PlainDeed → Log → Log → Type 0) (old mid new : Option Log) (all left : List PlainDeed) (dropped : Bool) → mid ≡ old
    → Told old (λ _. IsFalse dropped) → (IsFalse dropped → left ≡ all) → Changes mid new (P left) → Changes old new (P all)
of_all P old mid new all left dropped same untold kept is = step old new untold (subst (λ (o : Option Log). Changes o new (P left)) same is)
  where
    step : (old new : Option Log) → Told old (λ _. IsFalse dropped) → Changes old new (P left) → Changes old new (P all)
    step None None untold is = tt
    step None (Some new) untold is = absurd is
    step (Some old) None untold is = absurd is
    step (Some old) (Some new) untold is = subst (λ (l : List PlainDeed). P l old new) (kept untold) is

pub none_told : (log : Option Log) (dropped : Bool) → Told log (λ _. IsFalse dropped) → IsTrue dropped → log ≡ None
none_told None dropped untold so = refl
none_told (Some l) dropped untold so = absurd (false≢true (sym untold ∙ so))

-- what waited, if some did and none of it is left, was dropped
pub was_dropped : (all left : List PlainDeed) (dropped : Bool) → (IsFalse dropped → left ≡ all) → (all ≡ [] → ⊥) → left ≡ [] → IsTrue dropped
was_dropped all left true kept some none = refl
was_dropped all left false kept some none = absurd (some (sym (kept refl) ∙ none))

pub fitting_can : (old mid : Option Log) (all left : List PlainDeed) (dropped : Bool) → mid ≡ old → Told old (λ _. IsFalse dropped) → (IsFalse dropped → left ≡ all)
    → Told old (λ l. CanWait all (now l)) → Told mid (λ l. (after : Disk) × DoesAll (in_order left) (now l) after)
fitting_can old mid all left dropped same untold kept can = subst (λ (o : Option Log). Told o (λ l. (after : Disk) × DoesAll (in_order left) (now l) after)) (sym same) (step old untold can)
  where
    step : (old : Option Log) → Told old (λ _. IsFalse dropped) → Told old (λ l. CanWait all (now l)) → Told old (λ l. (after : Disk) × DoesAll (in_order left) (now l) after)
    step None untold can = tt
    step (Some l) untold can = subst (λ (ds : List PlainDeed). (after : Disk) × DoesAll (in_order ds) (now l) after) (sym (kept untold)) (laid all (now l), can.does)

-- a count that rose did so over later calls, too
pub rose_after : (a b c : ℕ) → a ≤ b → Rose a b → b ≤ c → Rose a c
rose_after a b c le (inl lt) more = inl (omega arith)
rose_after a b c le (inr end) more = ⊎_elim (λ (lt : a < c). inl lt) (λ (ge : c ≤ a). let same : c ≡ b = omega arith in inr (same ∙ end)) (cases_lt a c)
