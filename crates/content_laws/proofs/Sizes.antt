-- Sizes of host files before and after a change.
use Rattle.std.proofs.Common.{◌≡◌, ◌⊎◌, inl, inr, ℕ, ◌+◌, ◌-◌, ◌*◌, ◌/◌, ◌%◌, ◌≤◌, ◌<◌, max, min, Bool, cond, None, Some, refl, ap, ◌∙◌, arith}
use Rattle.std.proofs.lemmas.Bool.{cases_lt}
use Rattle.file_chunks.specs.File.{chunk_count, clear_length}
use Rattle.file_chunks.proofs.Contents.{sized}
use Rattle.content_laws.specs.Rewriting.{sealed_size}
use Rattle.content_laws.proofs.Cells.{good_size}

-- a size that a content has, by its full chunks and what is left
pub record IsGood (size n m : ℕ) : Type 0 where
  pub header : 68 ≤ size
  pub whole : ((size - 68) % 32796 ≡ 0) ⊎ (28 ≤ (size - 68) % 32796)
  pub count : m ≡ (size - 68 + 32795) / 32796
  pub len : size ≡ 68 + n + 28 * m

pub is_good : (size n : ℕ) → clear_length size ≡ Some n → IsGood size n (chunk_count size)
is_good size n e =
    let facts = sized size n e in
    let header : 68 ≤ size = facts.header in
    let whole : ((size - 68) % 32796 ≡ 0) ⊎ (28 ≤ (size - 68) % 32796) = facts.whole in
    let len : n ≡ size - 68 - 28 * ((size - 68 + 32795) / 32796) = facts.len in
    record {
      header = header;
      whole = whole;
      count = refl;
      len = elim whole [ inl none ↦ omega arith | inr enough ↦ omega arith ];
    }

-- of a content whose last chunk isn't empty
pub good_sealed_size : (n : ℕ) → IsGood (sealed_size n) n (n / 32768 + min 1 (n % 32768))
good_sealed_size n =
    let count : n / 32768 + min 1 (n % 32768) ≡ (68 + n + 28 * (n / 32768 + min 1 (n % 32768)) - 68 + 32795) / 32796 = omega arith in
    record {
      header = omega arith;
      whole = elim (cases_lt 0 (n % 32768)) [
        | inl some ↦ inr (omega arith)
        | inr none ↦ inl (omega arith)
      ];
      count = count;
      len = refl;
    }

-- the size after a write, and that it has as many chunks as it is to have
pub record IsGrown (old size n high m : ℕ) : Type 0 where
  pub good : IsGood size (max n high) (max m (high / 32768 + min 1 (high % 32768)))
  pub no_shorter : old ≤ size
  pub either : ((high ≤ n) × (size ≡ old)) ⊎ ((n < high) × (size ≡ 68 + high + 28 * (high / 32768 + min 1 (high % 32768))))

pub grown : (old size n high m : ℕ) → IsGood old n m → size ≡ max old (sealed_size high) → IsGrown old size n high m
grown old size n high m was is =
    let header : 68 ≤ old = was.header in
    let whole : ((old - 68) % 32796 ≡ 0) ⊎ (28 ≤ (old - 68) % 32796) = was.whole in
    let counted : m ≡ (old - 68 + 32795) / 32796 = was.count in
    let len : old ≡ 68 + n + 28 * m = was.len in
    let sealed = good_sealed_size high in
    elim (cases_lt n high) [
      | inl longer ↦
          let more : old ≤ 68 + high + 28 * (high / 32768 + min 1 (high % 32768)) = elim whole [ inl none ↦ omega arith | inr enough ↦ omega arith ] in
          let chunks : max m (high / 32768 + min 1 (high % 32768)) ≡ high / 32768 + min 1 (high % 32768) = elim whole [ inl none ↦ omega arith | inr enough ↦ omega arith ] in
          let same : size ≡ sealed_size high = omega arith in
          let bytes : max n high ≡ high = omega arith in
          record { good = rw (chunks, same, bytes) sealed; no_shorter = omega arith; either = inr (longer, same) }
      | inr within ↦
          let more : 68 + high + 28 * (high / 32768 + min 1 (high % 32768)) ≤ old = elim whole [ inl none ↦ omega arith | inr enough ↦ omega arith ] in
          let chunks : max m (high / 32768 + min 1 (high % 32768)) ≡ m = elim whole [ inl none ↦ omega arith | inr enough ↦ omega arith ] in
          let same : size ≡ old = omega arith in
          let bytes : max n high ≡ n = omega arith in
          record { good = rw (chunks, same, bytes) was; no_shorter = omega arith; either = inl (within, same) }
    ]

-- ---- the chunks of a write, as they are put

-- the chunk of an index is put into a file of `now` bytes, which leaves `next`
pub record IsPut (size last index long now next : ℕ) : Type 0 where
  pub short : long ≤ 32796
  pub whole : (long ≡ 32796) ⊎ (68 + 32796 * index + long ≡ size)
  pub ends : 68 + 32796 * index + long ≤ size
  pub more : index + 1 < last → 68 + 32796 * (index + 1) ≤ next
  pub done : last ≤ index + 1 → size ≤ next

pub is_put : (old size n high m index long now : ℕ) → IsGrown old size n high m → index < high / 32768 + min 1 (high % 32768)
    → long ≡ min 32768 (max n high - index * 32768) + 28 → old ≤ now
    → IsPut size (high / 32768 + min 1 (high % 32768)) index long now (max now (68 + 32796 * index + long))
is_put old size n high m index long now grown below is held =
    let len : size ≡ 68 + max n high + 28 * max m (high / 32768 + min 1 (high % 32768)) = grown.good.len in
    let count : max m (high / 32768 + min 1 (high % 32768)) ≡ (size - 68 + 32795) / 32796 = grown.good.count in
    let header : 68 ≤ size = grown.good.header in
    let whole : ((size - 68) % 32796 ≡ 0) ⊎ (28 ≤ (size - 68) % 32796) = grown.good.whole in
    let either : ((high ≤ n) × (size ≡ old)) ⊎ ((n < high) × (size ≡ 68 + high + 28 * (high / 32768 + min 1 (high % 32768)))) = grown.either in
    let is_whole : (long ≡ 32796) ⊎ (68 + 32796 * index + long ≡ size) =
    elim (cases_lt (max n high) (index * 32768 + 32768)) [
      | inl partly ↦ inr (elim whole [ inl none ↦ omega arith | inr enough ↦ omega arith ])
      | inr all ↦ inl (omega arith)
    ] in
    let ends : 68 + 32796 * index + long ≤ size = elim whole [ inl none ↦ omega arith | inr enough ↦ omega arith ] in
    record {
      short = omega arith;
      whole = is_whole;
      ends = ends;
      more = λ before. omega arith;
      done = λ last. elim either [
        | inl within ↦ let same : size ≡ old = within.1 in omega arith
        | inr longer ↦ let past : n < high = longer.0 in let same : size ≡ 68 + high + 28 * (high / 32768 + min 1 (high % 32768)) = longer.1 in omega arith
      ];
    }

-- ---- which sizes a content has

pub clear_sealed : (n : ℕ) → clear_length (sealed_size n) ≡ Some n
clear_sealed n =
    let facts = good_sealed_size n in
    let counted : n / 32768 + min 1 (n % 32768) ≡ (sealed_size n - 68 + 32795) / 32796 = facts.count in
    let len : sealed_size n - 68 - 28 * ((sealed_size n - 68 + 32795) / 32796) ≡ n = omega arith in
    ap (λ (b : Bool). cond b None (Some (sealed_size n - 68 - 28 * ((sealed_size n - 68 + 32795) / 32796)))) (good_size (sealed_size n) facts.header facts.whole)
    ∙ ap (λ (l : ℕ). Some l) len

pub sealed_clear : (size n : ℕ) → clear_length size ≡ Some n → (size ≡ sealed_size n) ⊎ ((n % 32768 ≡ 0) × (size ≡ sealed_size n + 28))
sealed_clear size n e =
    let facts = is_good size n e in
    let header : 68 ≤ size = facts.header in
    let len : size ≡ 68 + n + 28 * ((size - 68 + 32795) / 32796) = facts.len in
    elim facts.whole [
      | inl none ↦ inl (omega arith)
      | inr enough ↦ elim (cases_lt 28 ((size - 68) % 32796)) [
        | inl some ↦ inl (omega arith)
        | inr empty ↦ inr (omega arith, omega arith)
      ]
    ]
