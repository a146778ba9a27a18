-- Ranges that rise: cut to a length, and with a chunk put among them.
use Rattle.std.proofs.Common.{◌≡◌, ℕ, zero, suc, ◌+◌, ◌-◌, ◌≤◌, ◌<◌, List, [], ◌∷◌, ◌++◌, length, take, drop, Bool, true, false, refl, sym, ap, subst, ◌∙◌, arith, length-take}
use Rattle.std.specs.Prelude.{insert, remove, nat_lt, ◌==◌, if◌then◌else◌}
use Rattle.std.proofs.lemmas.Bool.{lt-ltb, le-ltb, ltb-true, ltb-false, eq-eqb, eqb-true, false≢true}
use Rattle.std.proofs.lemmas.List.{take_all}
use Rattle.deeds.specs.declared.writes.Range.{Range}
use Rattle.deeds.specs.Reshape.{Ranges}
use Rattle.deeds.specs.Plain.{plain_ranges}
use Rattle.pending_files.specs.Pending.{IsPlace, AreChunks, cut_to, with_chunk}
use Rattle.pending_files.specs.Kept.{IsGap}

-- ---- as plain data

pub plain_long : (s : List Range) → length (plain_ranges s) ≡ length s
plain_long [] = refl
plain_long (x ∷ s) = ap suc (plain_long s)

pub plain_pushed : (s : List Range) (x : Range) → plain_ranges (s ++ x ∷ []) ≡ plain_ranges s ++ (x.at, x.bytes.items) ∷ []
plain_pushed [] x = refl
plain_pushed (y ∷ s) x = ap (λ (l : Ranges). (y.at, y.bytes.items) ∷ l) (plain_pushed s x)

pub plain_inserted : (s : List Range) (i : ℕ) (x : Range) → plain_ranges (insert s i x) ≡ insert (plain_ranges s) i (x.at, x.bytes.items)
plain_inserted s zero x = refl
plain_inserted [] (suc i) x = refl
plain_inserted (y ∷ s) (suc i) x = ap (λ (l : Ranges). (y.at, y.bytes.items) ∷ l) (plain_inserted s i x)

pub plain_removed : (s : List Range) (i : ℕ) → plain_ranges (remove s i) ≡ remove (plain_ranges s) i
plain_removed [] zero = refl
plain_removed (y ∷ s) zero = refl
plain_removed [] (suc i) = refl
plain_removed (y ∷ s) (suc i) = ap (λ (l : Ranges). (y.at, y.bytes.items) ∷ l) (plain_removed s i)

pub plain_dropped : (s : List Range) (i : ℕ) (x : Range) (rest : List Range) → drop i s ≡ x ∷ rest → drop i (plain_ranges s) ≡ (x.at, x.bytes.items) ∷ plain_ranges rest
plain_dropped s zero x rest e = ap plain_ranges e
plain_dropped [] (suc i) x rest e = absurd cc
plain_dropped (y ∷ s) (suc i) x rest e = plain_dropped s i x rest e

-- ---- cut to a length

abbrev pub Cut : Bool → ℕ → ℕ × List ℕ → Ranges → Ranges
Cut b len r more = if b then (r.0, take (len - r.0) r.1) ∷ more else []

pub cut_gone : (len : ℕ) (front : Ranges) (r : ℕ × List ℕ) → len ≤ r.0 → cut_to len (front ++ r ∷ []) ≡ cut_to len front
cut_gone len [] r le = ap (λ (b : Bool). Cut b len r []) (le-ltb r.0 len le)
cut_gone len (f ∷ front) r le = step (cut_gone len front r le) (nat_lt f.0 len)
  where
    step : cut_to len (front ++ r ∷ []) ≡ cut_to len front → (b : Bool) → Cut b len f (cut_to len (front ++ r ∷ [])) ≡ Cut b len f (cut_to len front)
    step more true = ap (λ (l : Ranges). (f.0, take (len - f.0) f.1) ∷ l) more
    step more false = refl

pub chunks_later : (from most : ℕ) (front : Ranges) (r : ℕ × List ℕ) → AreChunks from most (front ++ r ∷ []) → from ≤ r.0
chunks_later from most [] r are = are.0
chunks_later from most (f ∷ front) r are = omega (arith, are.0, chunks_later (f.0 + 32796) most front r are.4)

pub chunks_front : (from most : ℕ) (front : Ranges) (r : ℕ × List ℕ) → AreChunks from most (front ++ r ∷ []) → AreChunks from most front
chunks_front from most [] r are = tt
chunks_front from most (f ∷ front) r are = (are.0, are.1, are.2, are.3, chunks_front (f.0 + 32796) most front r are.4)

pub cut_kept : (len from most : ℕ) (front : Ranges) (r : ℕ × List ℕ) → AreChunks from most (front ++ r ∷ []) → r.0 < len → cut_to len (front ++ r ∷ []) ≡ front ++ (r.0, take (len - r.0) r.1) ∷ []
cut_kept len from most [] r are lt = ap (λ (b : Bool). Cut b len r []) (lt-ltb r.0 len lt)
cut_kept len from most (f ∷ front) r are lt =
    let later = chunks_later (f.0 + 32796) most front r are.4 in
    let below : f.0 < len = omega arith in
    let whole : take (len - f.0) f.1 ≡ f.1 = take_all (len - f.0) f.1 (omega (arith, are.2)) in
    ap (λ (b : Bool). Cut b len f (cut_to len (front ++ r ∷ []))) (lt-ltb f.0 len below)
    ∙ ap (λ (bytes : List ℕ). (f.0, bytes) ∷ cut_to len (front ++ r ∷ [])) whole
    ∙ ap (λ (l : Ranges). f ∷ l) (cut_kept len (f.0 + 32796) most front r are.4 lt)

pub cut_chunks : (from most len : ℕ) (rs : Ranges) → AreChunks from most rs → AreChunks from len (cut_to len rs)
cut_chunks from most len [] are = tt
cut_chunks from most len (r ∷ rs) are = step (cut_chunks (r.0 + 32796) most len rs are.4) (nat_lt r.0 len) refl
  where
    step : AreChunks (r.0 + 32796) len (cut_to len rs) → (b : Bool) → nat_lt r.0 len ≡ b → AreChunks from len (Cut b len r (cut_to len rs))
    step more true is =
        let lt = ltb-true r.0 len is in
        (are.0, are.1, omega (arith, are.2, length-take (len - r.0) r.1), omega (arith, lt, length-take (len - r.0) r.1), more)
    step more false is = tt

-- ---- a chunk put among them

abbrev pub With : Bool → Bool → ℕ × List ℕ → ℕ × List ℕ → Ranges → Ranges → Ranges
With below same one r more rs = if below then r ∷ more else if same then one ∷ rs else one ∷ r ∷ rs

-- two places of chunks are as far apart as a chunk is long
pub places_apart : (a b : ℕ) → IsPlace a → IsPlace b → a < b → a + 32796 ≤ b
places_apart a b at_a at_b lt = omega (arith, at_a.1, at_b.1, lt)

pub chunks_with : (from most at : ℕ) (bytes : List ℕ) (rs : Ranges) → AreChunks from most rs → from ≤ at → IsPlace at → length bytes ≤ 32796 → at + length bytes ≤ most → AreChunks from most (with_chunk at bytes rs)
chunks_with from most at bytes [] are le place short within = (le, place, short, within, tt)
chunks_with from most at bytes (r ∷ rs) are le place short within = step (chunks_with (r.0 + 32796) most at bytes rs are.4) (nat_lt r.0 at) (r.0 == at) refl refl
  where
    step : (r.0 + 32796 ≤ at → IsPlace at → length bytes ≤ 32796 → at + length bytes ≤ most → AreChunks (r.0 + 32796) most (with_chunk at bytes rs)) → (below same : Bool) → nat_lt r.0 at ≡ below → (r.0 == at) ≡ same → AreChunks from most (With below same (at, bytes) r (with_chunk at bytes rs) rs)
    step more true same is_below is_same =
        let apart = places_apart r.0 at are.1 place (ltb-true r.0 at is_below) in
        (are.0, are.1, are.2, are.3, more apart place short within)
    step more false true is_below is_same =
        let e : r.0 ≡ at = eqb-true r.0 at is_same in
        (le, place, short, within, subst (λ (k : ℕ). AreChunks (k + 32796) most rs) e are.4)
    step more false false is_below is_same =
        let le_r : at ≤ r.0 = ltb-false r.0 at is_below in
        let ne : r.0 ≡ at → ⊥ = λ e. false≢true (sym is_same ∙ eq-eqb r.0 at e) in
        let lt : at < r.0 = omega (arith, le_r, ne) in
        (le, place, short, within, (places_apart at r.0 place are.1 lt, are.1, are.2, are.3, are.4))

abbrev first_of : Ranges → ℕ
first_of [] = 0
first_of (r ∷ rs) = r.0

zero_not : {i : ℕ} → suc i ≡ 0 → ⊥
zero_not e = omega arith

-- at the gap for a place is a range that begins there
pub chunk_over : (at : ℕ) (bytes : List ℕ) (rs : Ranges) (i : ℕ) (r : ℕ × List ℕ) (rest : Ranges) → IsGap at rs i → drop i rs ≡ r ∷ rest → r.0 ≡ at → with_chunk at bytes rs ≡ insert (remove rs i) i (at, bytes)
chunk_over at bytes [] zero r rest gap here e = absurd cc
chunk_over at bytes [] (suc i) r rest gap here e = absurd cc
chunk_over at bytes (s ∷ rs) zero r rest gap here e =
    let same : s.0 ≡ at = ap (λ (l : Ranges). first_of l) here ∙ e in
    ap (λ (b : Bool). With b (s.0 == at) (at, bytes) s (with_chunk at bytes rs) rs) (le-ltb s.0 at gap)
    ∙ ap (λ (b : Bool). With false b (at, bytes) s (with_chunk at bytes rs) rs) (eq-eqb s.0 at same)
chunk_over at bytes (s ∷ rs) (suc i) r rest gap here e =
    ap (λ (b : Bool). With b (s.0 == at) (at, bytes) s (with_chunk at bytes rs) rs) (lt-ltb s.0 at gap.0)
    ∙ ap (λ (l : Ranges). s ∷ l) (chunk_over at bytes rs i r rest gap.1 here e)

-- or none does
pub chunk_between : (at : ℕ) (bytes : List ℕ) (rs : Ranges) (i : ℕ) → IsGap at rs i → ((r : ℕ × List ℕ) (rest : Ranges) → drop i rs ≡ r ∷ rest → r.0 ≡ at → ⊥) → with_chunk at bytes rs ≡ insert rs i (at, bytes)
chunk_between at bytes [] zero gap other = refl
chunk_between at bytes [] (suc i) gap other = absurd (zero_not gap)
chunk_between at bytes (s ∷ rs) zero gap other =
    ap (λ (b : Bool). With b (s.0 == at) (at, bytes) s (with_chunk at bytes rs) rs) (le-ltb s.0 at gap)
    ∙ ap (λ (b : Bool). With false b (at, bytes) s (with_chunk at bytes rs) rs) (no_eqb (s.0 == at) refl)
  where
    no_eqb : (b : Bool) → (s.0 == at) ≡ b → (s.0 == at) ≡ false
    no_eqb true is = absurd (other s rs refl (eqb-true s.0 at is))
    no_eqb false is = is
chunk_between at bytes (s ∷ rs) (suc i) gap other =
    ap (λ (b : Bool). With b (s.0 == at) (at, bytes) s (with_chunk at bytes rs) rs) (lt-ltb s.0 at gap.0)
    ∙ ap (λ (l : Ranges). s ∷ l) (chunk_between at bytes rs i gap.1 other)

pub gap_within : (at : ℕ) (rs : Ranges) (i : ℕ) → IsGap at rs i → i ≤ length rs
gap_within at [] i gap = omega (arith, gap)
gap_within at (r ∷ rs) zero gap = omega arith
gap_within at (r ∷ rs) (suc i) gap = omega (arith, gap_within at rs i gap.1)

pub head_place : (xs : Ranges) (a b : ℕ × List ℕ) (more others : Ranges) → xs ≡ a ∷ more → xs ≡ b ∷ others → a.0 ≡ b.0
head_place xs a b more others one other = ap (λ (l : Ranges). first_of l) (sym one ∙ other)

pub none_there : (xs : Ranges) (b : ℕ × List ℕ) (bs : Ranges) → xs ≡ [] → xs ≡ b ∷ bs → ⊥
none_there xs b bs none some = let e = sym none ∙ some in cc

pub cut_short : (len : ℕ) (rs : Ranges) → length (cut_to len rs) ≤ length rs
cut_short len [] = omega arith
cut_short len (r ∷ rs) = step (cut_short len rs) (nat_lt r.0 len)
  where
    step : length (cut_to len rs) ≤ length rs → (b : Bool) → length (Cut b len r (cut_to len rs)) ≤ suc (length rs)
    step more true = omega (arith, more)
    step more false = omega arith

pub cut_all : (rs : Ranges) → cut_to 0 rs ≡ []
cut_all [] = refl
cut_all (r ∷ rs) = ap (λ (b : Bool). Cut b 0 r (cut_to 0 rs)) (le-ltb r.0 0 (omega arith))

pub plain_none : (s : List Range) → plain_ranges s ≡ [] → s ≡ []
plain_none [] none = refl
plain_none (x ∷ s) none = absurd cc

pub with_short : (at : ℕ) (bytes : List ℕ) (rs : Ranges) → length (with_chunk at bytes rs) ≤ suc (length rs)
with_short at bytes [] = omega arith
with_short at bytes (r ∷ rs) = step (with_short at bytes rs) (nat_lt r.0 at) (r.0 == at)
  where
    step : length (with_chunk at bytes rs) ≤ suc (length rs) → (below same : Bool) → length (With below same (at, bytes) r (with_chunk at bytes rs) rs) ≤ suc (suc (length rs))
    step more true same = omega (arith, more)
    step more false true = omega arith
    step more false false = omega arith
