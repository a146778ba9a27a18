use Rattle.std.proofs.Common.{bit_xor, slice_index, arith, rules}
use Rattle.model_contents.proofs.CipherArrays.{from_fn-is}
use Rattle.model_contents.proofs.CipherXors.{xored-is}
use Rattle.model_contents.proofs.mac.xored.Goals as goal

pub returns : goal.returns
returns c =
    xored-is c.args.a c.args.b c.from_fn.result 16 (omega arith) (omega arith)
    (from_fn-is (λ i. bit_xor (slice_index c.args.a i) (slice_index c.args.b i)) c.from_fn.ensures.items (λ i y q h called. search rules))
