use Rattle.std.proofs.Common.{◌≡◌, ℕ, List, [], map, get_or, ap, ap₂, ◌∙◌}
use Rattle.aes_kernels.proofs.Vectors.{round_sum, zip2-xor}
use Rattle.aes_kernels.specs.Nibbles.{last_of, mixed_of, next_of, once, round_of, shifted, twice}
use Rattle.aes_block.specs.Bytes.{xor_bytes}
use Rattle.aes_kernels.proofs.nibbles.round.Goals as goal

pub returns : goal.returns
unfolding round_of
returns c =
    let a : get_or c.substituted.result 0 [] ≡ map once (shifted c.args.x) =
    ap (λ (l : List (List ℕ)). get_or l 0 []) c.substituted.ensures ∙ ap (map once) c.shifted.ensures in
    let b : get_or c.substituted.result 1 [] ≡ map twice (shifted c.args.x) =
    ap (λ (l : List (List ℕ)). get_or l 1 []) c.substituted.ensures ∙ ap (map twice) c.shifted.ensures in
    round_sum c.next-2.result c.next.result (get_or c.substituted.result 1 []) c.last.result c.args.key
    ∙ ap₂ (λ (p q : List ℕ). xor_bytes (xor_bytes (xor_bytes p (xor_bytes c.next.result (get_or c.substituted.result 1 []))) q) c.args.key)
    (c.next-2.ensures ∙ ap next_of (zip2-xor c.next.result (get_or c.substituted.result 1 []))) c.last.ensures
    ∙ ap (λ (p : List ℕ). xor_bytes (xor_bytes (xor_bytes (next_of (xor_bytes p (get_or c.substituted.result 1 []))) (xor_bytes p (get_or c.substituted.result 1 []))) (last_of (get_or c.substituted.result 0 []))) c.args.key) c.next.ensures
    ∙ ap₂ (mixed_of c.args.key) a b
