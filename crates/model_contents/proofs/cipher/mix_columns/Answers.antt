use Rattle.std.proofs.Common.{◌/◌, ◌%◌, slice_index, rules}
use Rattle.aes_block.specs.Aes.{mix_columns, mixed_column, word}
use Rattle.model_contents.proofs.CipherArrays.{from_fn-is}
use Rattle.model_contents.proofs.cipher.mix_columns.Goals as goal

pub returns : goal.returns
unfolding mix_columns
returns c =
    from_fn-is (λ i. slice_index (mixed_column 2 3 1 1 (word c.args.state (i / 4))) (i % 4)) c.from_fn.ensures.items (λ i y q h called. search rules)
