use Rattle.std.proofs.Common.{◌≡◌, ◌++◌, ◌%◌, ◌^◌, List, [], ◌∷◌, ℕ, ap, ◌∙◌, arith}
use Rattle.aes_block.specs.Bytes.{bytes_of}
use Rattle.gcm_mode.specs.Gcm.{counter_block}
use Rattle.gcm_mode.proofs.ByteNumbers.{put_mid_end, to_be_bytes_counter}
use Rattle.model_contents.proofs.gcm.counter_block.Goals as goal

pub returns : goal.returns
unfolding counter_block
returns c =
    let zeros : List ℕ = 0 ∷ 0 ∷ 0 ∷ 0 ∷ [] in
    let counter : ℕ = c.args.i % 2 ^ 32 in
    let same : c.args.i % 2 ^ 32 % 2 ^ 32 ≡ c.args.i % 2 ^ 32 = omega arith in
    let second : c.copy_from_slice-2.new.self ≡ bytes_of 4 (c.args.i % 2 ^ 32) =
    c.copy_from_slice-2.ensures.after ∙ c.to_be_bytes.ensures ∙ to_be_bytes_counter counter (omega arith) ∙ ap (bytes_of 4) same in
    put_mid_end c.copy_from_slice.new.self zeros c.copy_from_slice-2.new.self 12 4 c.copy_from_slice.ensures.len (omega arith)
    ∙ ap (λ (xs : List ℕ). xs ++ c.copy_from_slice-2.new.self) c.copy_from_slice.ensures.after ∙ ap (λ (ys : List ℕ). c.args.nonce ++ ys) second
