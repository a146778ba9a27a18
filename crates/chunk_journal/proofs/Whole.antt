-- What isn't damaged recovers.
use Rattle.std.proofs.Common.{◌≡◌, ⊎_elim, ℕ, zero, suc, ◌+◌, ◌<◌, ◌≤◌, ◌^◌, List, [], ◌∷◌, ◌++◌, length, take, drop, get_or, Option, Some, None, refl, sym, ap, subst, ◌∙◌, inl, inr, arith, append_assoc, length-append, length-drop, length-take}
use Rattle.std.specs.Int.{w32, to_be_bytes}
use Rattle.std.specs.List.{AllByRecursion}
use Rattle.std.proofs.lemmas.Nat.{be_bytes_4}
use Rattle.std.proofs.lemmas.List.{take-append-drop, append-nil}
use Rattle.std.proofs.lemmas.Bool.{cases_eq, cases_lt}
use Rattle.outside.specs.Disk.{Disk, Node, folder, file, node_at}
use Rattle.deeds.specs.Deeds.{PlainDeed}
use Rattle.deeds.specs.Grammar.{spelled, spelled_deed, spelled_deeds, count_of, IsDeed, IsBatch, IsBadAt, IsBadDeed}
use Rattle.deeds.proofs.Windows.{spelled_end}
use Rattle.chunk_journal.specs.Journal.{journal_file, IsSummed, HoldsBatch, RecoversTo}
use Rattle.chunk_journal.specs.Opening.{said_len, batch_bytes, whole_batch, behind_batch, IsShort, IsDamagedAt, HasFileBytes, HasFolder, Says}
use Rattle.chunk_journal.proofs.Damage.{follows, summed_here, held_bytes, one_file, take_fits}
use Rattle.chunk_journal.proofs.Undamaged.{held_runs}

drop_fits : (k : ℕ) (bytes : List ℕ) → ((i : ℕ) → get_or bytes i 0 < 256) → (i : ℕ) → get_or (drop k bytes) i 0 < 256
drop_fits zero bytes fits = fits
drop_fits (suc k) [] fits = fits
drop_fits (suc k) (b ∷ bytes) fits = drop_fits k bytes (λ i. fits (suc i))

-- ---- bytes that are nowhere outside of the grammar are a batch

-- the bytes begin with so many good deeds
record IsFront (text : List ℕ) (count : ℕ) : Type 0 where
  front : List PlainDeed
  rest : List ℕ
  good : AllByRecursion IsDeed front
  long : length front ≡ count
  parts : text ≡ spelled_deeds front ++ rest

good_end : (front : List PlainDeed) (deed : PlainDeed) → AllByRecursion IsDeed front → IsDeed deed → AllByRecursion IsDeed (front ++ deed ∷ [])
good_end [] deed all good = (good, tt)
good_end (first ∷ front) deed all good = (all.0, good_end front deed all.1 good)

one_more : (text : List ℕ) (count : ℕ) (is : IsFront text count) (deed : PlainDeed) (tail : List ℕ) → IsDeed deed → is.rest ≡ spelled_deed deed ++ tail → IsFront text (suc count)
one_more text count is deed tail good e = record {
  front = is.front ++ deed ∷ [];
  rest = tail;
  good = good_end is.front deed is.good good;
  long = omega (arith, length-append is.front (deed ∷ []), is.long);
  parts = is.parts ∙ ap (λ (l : List ℕ). spelled_deeds is.front ++ l) e ∙ sym (append_assoc (spelled_deeds is.front) (spelled_deed deed) tail)
      ∙ ap (λ (l : List ℕ). l ++ tail) (sym (spelled_end spelled_deed is.front deed));
}

fronts : (count : ℕ) (text : List ℕ) → ((at : ℕ) → IsBadDeed count text at → ⊥) → (k : ℕ) → k ≤ count → (IsFront text k → ⊥) → ⊥
fronts count text fit zero le never = never (record { front = []; rest = text; good = tt; long = refl; parts = refl })
fronts count text fit (suc k) le never = fronts count text fit k (omega (arith, le)) (λ is. fit (4 + length (spelled_deeds is.front)) (record {
  front = is.front;
  rest = is.rest;
  good = is.good;
  fewer = omega (arith, is.long, le);
  parts = is.parts;
  place = refl;
  bad = λ deed tail good e. never (one_more text k is deed tail good e);
}))

none_left : (rest : List ℕ) → (0 < length rest → ⊥) → rest ≡ []
none_left [] none = refl
none_left (x ∷ rest) none = absurd (none (omega arith))

-- these deeds are spelled so, and are a batch if that isn't too long
record IsSpelled (text : List ℕ) : Type 0 where
  deeds : List PlainDeed
  good : AllByRecursion IsDeed deeds
  few : length deeds < 2 ^ 32
  is : text ≡ spelled deeds

module _ (text : List ℕ) (fits : (i : ℕ) → get_or text i 0 < 256) (fit : (at : ℕ) → IsBadAt text at → ⊥) where
  long : 4 ≤ length text
  long = elim (cases_lt (length text) 4) [ inl few ↦ absurd (fit 0 (inl (few, refl))) | inr le ↦ le ]

  spells : IsFront (drop 4 text) (count_of text) → IsSpelled text
  spells is = record {
    deeds = is.front;
    good = is.good;
    few = few;
    is = sym (take-append-drop 4 text) ∙ ap (λ (l : List ℕ). l ++ drop 4 text) (sym four) ∙ ap (λ (l : List ℕ). to_be_bytes w32 (length is.front) ++ l) whole;
  }
    where
      small : (i : ℕ) → get_or (take 4 text) i 0 < 256
      small = take_fits 4 text fits

      four : to_be_bytes w32 (length is.front) ≡ take 4 text
      four = be_bytes_4 (take 4 text) (length is.front) (omega (arith, length-take 4 text, long)) small is.long

      few : length is.front < 2 ^ 32
      few = omega (arith, is.long, small 0, small 1, small 2, small 3)

      none : 0 < length is.rest → ⊥
      none some = fit (4 + length (spelled_deeds is.front)) (inr (inr (record {
        front = is.front;
        rest = is.rest;
        good = is.good;
        all = is.long;
        parts = is.parts;
        place = refl;
        left = some;
      })))

      whole : drop 4 text ≡ spelled_deeds is.front
      whole = is.parts ∙ ap (λ (l : List ℕ). spelled_deeds is.front ++ l) (none_left is.rest none) ∙ append-nil (spelled_deeds is.front)

  spelled_there : (IsSpelled text → ⊥) → ⊥
  spelled_there never = fronts (count_of text) (drop 4 text) (λ at bad. fit at (inr (inl bad))) (count_of text) (omega arith) (λ is. never (spells is))

-- ---- the journal's file

module _ (disk : Disk) (undamaged : (at : ℕ) → IsDamagedAt disk at → ⊥) where
  clear : HasFolder disk → ⊥
  clear has = undamaged 0 (inl (has, refl))

  module _ (bytes : List ℕ) (here : node_at disk journal_file ≡ Some (file bytes)) (gate : get_or bytes 0 0 ≡ 1) (fits : (i : ℕ) → get_or bytes i 0 < 256) (limit : length bytes < 2 ^ 64) where
    not_short : IsShort bytes → ⊥
    not_short short = undamaged (length bytes) (inr (record { no_folder = clear; bytes = bytes; here = here; gate = gate; damage = inl (record { short = short; place = refl }) }))

    long_enough : 9 + said_len bytes ≤ length bytes
    long_enough = elim (cases_lt (length bytes) (9 + said_len bytes)) [ inl few ↦ absurd (not_short (inr few)) | inr le ↦ le ]

    not_bad : (at : ℕ) → IsBadAt (batch_bytes bytes) at → ⊥
    not_bad at bad = undamaged (9 + at) (inr (record { no_folder = clear; bytes = bytes; here = here; gate = gate; damage = inr (inl (record { whole = not_short; fault = at; bad = bad; place = refl })) }))

    text_long : length (batch_bytes bytes) ≡ said_len bytes
    text_long = omega (arith, length-take (said_len bytes) (drop 9 bytes), length-drop 9 bytes, long_enough)

    not_missummed : (IsSummed (whole_batch bytes) (behind_batch bytes) → ⊥) → ⊥
    not_missummed other = undamaged (9 + said_len bytes) (inr (record {
      no_folder = clear;
      bytes = bytes;
      here = here;
      gate = gate;
      damage = inr (inr (inl (record { whole = not_short; good = not_bad; other = other; place = refl })));
    }))

    held : IsSummed (whole_batch bytes) (behind_batch bytes) → IsSpelled (batch_bytes bytes) → (deeds : List PlainDeed) × HoldsBatch disk deeds
    held summed is =
        let batch : IsBatch is.deeds = record { few = is.few; each = is.good; short = omega (arith, ap (λ (l : List ℕ). length l) is.is, text_long, long_enough, limit) } in
        let says : Says (said_len bytes) disk = record { bytes = bytes; here = here; gate = gate; whole = not_short; is = refl; fits = take_fits 9 bytes fits } in
        let f = follows disk (said_len bytes) (batch_bytes bytes) is.deeds says batch is.is refl text_long in
        let same : bytes ≡ held_bytes is.deeds f.rest = one_file (node_at disk journal_file) bytes (held_bytes is.deeds f.rest) here f.here in
        let sum = summed_here is.deeds f.rest f.batch (subst (λ (l : List ℕ). IsSummed (whole_batch l) (behind_batch l)) same summed) in
        (is.deeds, record { batch = f.batch; rest = f.rest; here = f.here; sum = sum })

    open_recovers : ((found : Disk) → RecoversTo disk found → ⊥) → ⊥
    open_recovers never = not_missummed (λ summed. spelled_there (batch_bytes bytes) (take_fits (said_len bytes) (drop 9 bytes) (drop_fits 9 bytes fits)) not_bad (λ is.
        let there = held summed is in
        held_runs there.0 disk undamaged there.1 (λ after run. never after (inr (there.0, there.1, run)))))

  recovers_by : (o : Option Node) → node_at disk journal_file ≡ o → HasFileBytes disk → ((found : Disk) → RecoversTo disk found → ⊥) → ⊥
  recovers_by None at has never = never disk (inl (inl at, refl))
  recovers_by (Some folder) at has never = clear (inl at)
  recovers_by (Some (file bytes)) at has never = ⊎_elim
      (λ (gate : get_or bytes 0 0 ≡ 1). open_recovers bytes at gate (has bytes at).1 (has bytes at).0 never)
      (λ (shut : get_or bytes 0 0 ≡ 1 → ⊥). never disk (inl (inr (bytes, at, shut), refl)))
      (cases_eq (get_or bytes 0 0) 1)

pub undamaged_recovers : (disk : Disk) → HasFileBytes disk → ((at : ℕ) → IsDamagedAt disk at → ⊥) → ((found : Disk) → RecoversTo disk found → ⊥) → ⊥
undamaged_recovers disk has undamaged = recovers_by disk undamaged (node_at disk journal_file) refl has
