-- Bytes written into a block.
use Rattle.std.proofs.Common.{◌≡◌, ℕ, suc, ◌+◌, ◌-◌, ◌<◌, ◌≤◌, List, ◌∷◌, ◌++◌, length, take, drop, refl, sym, ap, ◌∙◌, arith}
use Rattle.std.specs.Prelude.{slice_set, replicate}
use Rattle.std.proofs.lemmas.List.{drop-replicate, set_at, append_assoc, length-append, length-take-le, take_at}
use borrow.Rule.Slice.PartMut.{put_mid}
use Rattle.siv_mode.specs.Cmac.{zero_block, padded}

-- a block of zeros, of which the front is written and a one bit after it
pub padded_is : (bytes front : List ℕ) → length bytes < 16 → front ≡ bytes → slice_set (front ++ drop (length bytes) zero_block) (length bytes) 0x80 ≡ padded bytes
padded_is bytes front short is =
    let next : 16 - length bytes ≡ suc (15 - length bytes) = omega arith in
    let rest : drop (length bytes) zero_block ≡ 0 ∷ replicate (15 - length bytes) 0 = drop-replicate (length bytes) 16 0 ∙ ap (λ n. replicate n 0) next in
    ap (λ t. slice_set t (length bytes) 0x80) (λ i. is i ++ rest i) ∙ set_at bytes 0 (replicate (15 - length bytes) 0) 0x80 (length bytes) refl

-- a block, of which the part after its front is written
pub filled_is : (block bytes part : List ℕ) (filled k : ℕ) → filled ≤ length block → part ≡ bytes → take (filled + length bytes) (put_mid filled k block part) ≡ take filled block ++ bytes
filled_is block bytes part filled k within is =
    let front = take filled block in
    let rest = drop k (drop filled block) in
    ap (λ t. take (filled + length bytes) (front ++ (t ++ rest))) is ∙ ap (take (filled + length bytes)) (sym (append_assoc front bytes rest))
    ∙ take_at (front ++ bytes) rest (filled + length bytes) (length-append front bytes ∙ ap (λ n. n + length bytes) (length-take-le filled block within))
