use Rattle.std.proofs.Common.{◌+◌, ◌*◌, bit_xor, slice_index, arith, rules}
use Rattle.model_contents.proofs.CipherArrays.{from_fn-is}
use Rattle.model_contents.proofs.CipherXors.{xored-at}
use Rattle.model_contents.proofs.cipher.add_round_key.Goals as goal

pub returns : goal.returns
returns c =
    let state = c.args.state in
    let schedule = c.args.schedule.now in
    let at = 16 * c.args.round in
    xored-at state schedule c.from_fn.result at 16 (omega arith) (omega arith)
    (from_fn-is (λ i. bit_xor (slice_index state i) (slice_index schedule (at + i))) c.from_fn.ensures.items (λ i y q h called. search rules))
