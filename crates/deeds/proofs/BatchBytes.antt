-- The bytes of a whole batch.
use Rattle.std.proofs.Common.{◌≡◌, ℕ, ◌+◌, ◌-◌, ◌^◌, ◌<◌, ◌≤◌, Bool, true, false, cond, ltb, List, [], ◌++◌, length, take, drop, Option, Some, None, refl, sym, ap, subst, ◌∙◌, inl, inr, append_assoc, length-append, length-drop, arith}
use Rattle.std.specs.List.{AllByRecursion}
use Rattle.std.specs.Int.{w32, to_be_bytes, from_be_bytes}
use Rattle.std.proofs.lemmas.Bool.{ltb-true, ltb-false}
use Rattle.std.proofs.lemmas.List.{append-nil, nil_from_length}
use Rattle.deeds.specs.Deeds.{PlainDeed}
use Rattle.deeds.specs.Grammar.{spelled, spelled_deeds, spelled_deed, IsDeed, IsBatch, IsBadAt, count_of}
use Rattle.deeds.specs.Reading.{◌>>=◌, number_at, items_at, deed_at}
use Rattle.deeds.proofs.Fields.{IsBytes, guard_not, some_is, number_takes, number_again, wide32, items_again}
use Rattle.deeds.proofs.DeedBytes.{deed_takes, deed_again}

record IsCounted (bytes : List ℕ) (count : ℕ) (behind : List ℕ) : Type 0 where
  number : count ≡ count_of bytes
  rest : behind ≡ drop 4 bytes
  long : 4 ≤ length bytes

counted : (bytes : List ℕ) (count : ℕ) (behind : List ℕ) → number_at w32 bytes ≡ Some (count, behind) → IsCounted bytes count behind
counted bytes count behind e =
    let g = guard_not (ltb (length bytes) 4) (Some (from_be_bytes w32 (take 4 bytes), drop 4 bytes)) (count, behind) e in
    let same = some_is (from_be_bytes w32 (take 4 bytes), drop 4 bytes) (count, behind) g.1 in
    record { number = sym (ap (λ (p : ℕ × List ℕ). p.0) same); rest = sym (ap (λ (p : ℕ × List ℕ). p.1) same); long = ltb-false _ _ g.0 }

none_short : (b : Bool) (x : ℕ × List ℕ) → cond b None (Some x) ≡ None → b ≡ true
none_short true x e = refl
none_short false x e = absurd cc

pub short_bad : (bytes : List ℕ) → number_at w32 bytes ≡ None → IsBadAt bytes 0
short_bad bytes e = inl (ltb-true _ _ (none_short (ltb (length bytes) 4) (from_be_bytes w32 (take 4 bytes), drop 4 bytes) e), refl)

pub left_bad : (bytes : List ℕ) (count : ℕ) (behind rest : List ℕ) (ds : List PlainDeed) → number_at w32 bytes ≡ Some (count, behind) → behind ≡ spelled_deeds ds ++ rest → length ds ≡ count → AllByRecursion IsDeed ds
    → 0 < length rest → IsBadAt bytes (length bytes - length rest)
left_bad bytes count behind rest ds e parts all good left =
    let n = counted bytes count behind e in
    inr (inr (record {
      front = ds;
      rest = rest;
      good = good;
      all = all ∙ n.number;
      parts = sym n.rest ∙ parts;
      place = omega (arith, n.long, ap (λ (l : List ℕ). length l) parts, ap (λ (l : List ℕ). length l) n.rest, length-append (spelled_deeds ds) rest, length-drop 4 bytes);
      left = left;
    }))

pub whole_read : (bytes : List ℕ) (count : ℕ) (behind rest : List ℕ) (ds : List PlainDeed) → IsBytes bytes → number_at w32 bytes ≡ Some (count, behind) → behind ≡ spelled_deeds ds ++ rest → length ds ≡ count → AllByRecursion IsDeed ds
    → length rest ≡ 0 → length bytes + 9 < 2 ^ 64 → IsBatch ds × (bytes ≡ spelled ds)
whole_read bytes count behind rest ds fits e parts all good none short =
    let t = number_takes w32 (2 ^ 32) wide32 bytes count behind fits e in
    let nothing : rest ≡ [] = nil_from_length rest none in
    let is : bytes ≡ spelled ds = t.0.parts ∙ ap (λ (l : List ℕ). to_be_bytes w32 count ++ l) (parts ∙ ap (λ (l : List ℕ). spelled_deeds ds ++ l) nothing ∙ append-nil (spelled_deeds ds)) ∙ ap (λ (k : ℕ). to_be_bytes w32 k ++ spelled_deeds ds) (sym all) in
    (record { few = omega (arith, all, t.1); each = good; short = subst (λ (l : List ℕ). length l + 9 < 2 ^ 64) is short }, is)

-- ---- bytes hold one batch alone

abbrev batch_at : List ℕ → Option (List PlainDeed × List ℕ)
batch_at bytes = number_at w32 bytes >>= λ n. items_at deed_at n.0 n.1

batch_again : (ds : List PlainDeed) (rest : List ℕ) → IsBatch ds → batch_at (spelled ds ++ rest) ≡ Some (ds, rest)
batch_again ds rest is =
    ap batch_at (append_assoc (to_be_bytes w32 (length ds)) (spelled_deeds ds) rest)
    ∙ rw (number_again w32 (2 ^ 32) wide32 (length ds) (spelled_deeds ds ++ rest) is.few) (items_again deed_at spelled_deed IsDeed deed_takes deed_again ds rest is.each)

pub one_batch : (a b : List PlainDeed) (x y : List ℕ) → IsBatch a → IsBatch b → spelled a ++ x ≡ spelled b ++ y → a ≡ b
one_batch a b x y is_a is_b e =
    ap (λ (p : List PlainDeed × List ℕ). p.0) (some_is (a, x) (b, y) (sym (batch_again a x is_a) ∙ ap batch_at e ∙ batch_again b y is_b))
