use Rattle.std.proofs.Common.{◌+◌, ◌/◌, ◌%◌, slice_index, rules}
use Rattle.aes_block.specs.Aes.{place, shift_rows}
use Rattle.model_contents.proofs.CipherArrays.{from_fn-is}
use Rattle.model_contents.proofs.cipher.shift_rows.Goals as goal

pub returns : goal.returns
unfolding shift_rows
returns c =
    from_fn-is (λ i. slice_index c.args.state (place (i % 4) (i / 4 + i % 4))) c.from_fn.ensures.items (λ i y q h called. search rules)
