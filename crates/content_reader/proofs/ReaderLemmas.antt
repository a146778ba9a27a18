-- How a read ends, by the length of the content.
use Rattle.std.proofs.Common.{◌≡◌, ◌⊎◌, ℕ, ◌-◌, ◌≤◌, min, Bool, List, length, take, drop, Option, Result, refl, sym, ap, ◌∙◌, subst, arith, inl, inr, ◌++◌, length-take, length-drop}
use Rattle.std.proofs.lemmas.Bool.{cases_lt}
use Rattle.tree_model.specs.Rows.{Cell, Content, chunks, joined, content_length, all_there, slice_of}
use Rattle.content_reader.specs.declared.error.ReadErr.{ReadErr}
use Rattle.content_reader.specs.Reading.{Ends, read_of}
use Rattle.content_reader.proofs.Spans.{take_min}
use Rattle.std.proofs.lemmas.List.{take_at}

pub within_none : (n at count : ℕ) → min (n - at) count ≡ 0 → (n ≤ at) ⊎ (count ≡ 0)
within_none n at count none = elim (cases_lt at n) [ inl inside ↦ inr (omega arith) | inr past ↦ inl past ]

-- of a good size a read is a slice
pub read_of_good : (content : Content) (at count : ℕ) (b : Bool) → (cells : List Cell) × (content ≡ chunks b cells) → read_of content at count ≡ slice_of content at count
read_of_good content at count b good = subst (λ (c : Content). read_of c at count ≡ slice_of c at count) (sym good.1) refl

-- a slice ends with its content
pub slice_capped : (content : Content) (n at count : ℕ) → content_length content ≡ n → slice_of content at (min (n - at) count) ≡ slice_of content at count
slice_capped content n at count len =
    ap all_there (take_min count (min (n - at) count) (drop at (joined content)) (omega (arith, len, length-drop at (joined content))))

-- what a slice within the content ends with, a read does
pub read_ends : (content : Content) (n at count some : ℕ) (b : Bool) (before now : ℕ) (r : Result (List ℕ) ReadErr) → content_length content ≡ n → some ≡ min (n - at) count
    → (cells : List Cell) × (content ≡ chunks b cells) → Ends (slice_of content at some) before now r → Ends (read_of content at count) before now r
read_ends content n at count some b before now r len is good ends =
    subst (λ (found : Option (List ℕ)). Ends found before now r)
    (ap (slice_of content at) is ∙ slice_capped content n at count len ∙ sym (read_of_good content at count b good)) ends

-- the front of a buffer, as it was copied
pub copied_is : (some room : ℕ) (filled old buffer copied from : List ℕ) → some ≤ length filled → length filled ≡ room → from ≡ take room (filled ++ drop (length filled) old)
    → copied ≡ take some from → take some filled ≡ take some (copied ++ drop some buffer)
copied_is some room filled old buffer copied from fits whole is_from is_copied =
    let same : from ≡ filled = is_from ∙ take_at filled (drop (length filled) old) room whole in
    let front : copied ≡ take some filled = is_copied ∙ ap (take some) same in
    let len : length copied ≡ some = ap length front ∙ simp length-take (omega arith) in
    sym (take_at copied (drop some buffer) some len ∙ front)
