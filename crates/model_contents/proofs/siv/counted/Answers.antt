use Rattle.std.proofs.Common.{◌≡◌, length, ◌+◌, ◌/◌, bit_xor, map, sym, ◌∙◌, arith}
use Rattle.std.specs.List.{zip}
use Rattle.std.proofs.lemmas.Result.{IfOk-weaker}
use Rattle.aes_block.specs.Aes.{aes}
use Rattle.siv_mode.specs.Siv.{counted}
use Rattle.model_contents.proofs.SivLemmas.{counted-zip}
use Rattle.model_contents.proofs.siv.counted.Goals as goal

pub returns : goal.returns
returns c =
    let cipher = aes c.args.key.now in
    let text = c.args.text.now in
    let blocks : c.div_ceil.result ≡ (length text + 15) / 16 = omega (arith, c.div_ceil.ensures) in
    let zipped = counted-zip cipher c.args.tag text c.deref.result.now c.first_counter.result c.div_ceil.result c.first_counter.ensures blocks (c.deref.ensures.value ∙ c.in_ok-stream.ensures) in
    IfOk-weaker c.xored_bytes.result (λ out. out.items ≡ map (λ p. bit_xor p.0 p.1) (zip text c.deref.result.now)) (λ out. out.items ≡ counted cipher c.args.tag text) (λ out is. is ∙ sym zipped) c.xored_bytes.ensures
