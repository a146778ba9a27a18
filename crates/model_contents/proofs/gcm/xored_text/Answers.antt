use Rattle.std.proofs.Common.{◌≡◌, length, ◌∙◌, rules}
use Rattle.std.specs.Iterator.Adapters.{zip_first, zip_second}
use Rattle.std.specs.Slice.Iter.{iter_rest}
use Rattle.std.proofs.lemmas.List.{length_push}
use Rattle.std.proofs.lemmas.Slice.Zip.{zip_end, zip_turn}
use Rattle.model_contents.proofs.GcmTexts.{xor_bytes_all, xor_bytes_more}
use Rattle.model_contents.proofs.gcm.xored_text.Goals as goal

pub loop-byte-preserved : goal.loop-byte-preserved
loop-byte-preserved c =
    let first : iter_rest (zip_first c.into_iter-byte-iterator.result) ≡ c.args.text.now = search rules in
    let second : iter_rest (zip_second c.into_iter-byte-iterator.result) ≡ c.args.mask.now = search rules in
    let turn = zip_turn c.args.text.now c.args.mask.now c.loop-byte.yielded c.into_iter-byte-iterator.result c.loop-byte.byte-iterator c.next.new.self c.next.result first second
    c.loop-byte.yielded_by _ c.in-Some.is c.next.ensures.steps in
    let more = xor_bytes_more c.args.text.now c.args.mask.now (length c.loop-byte.yielded) turn.0 turn.1 in
    rw (length_push c.loop-byte.yielded (c.in-Some.byte, c.in-Some.masking), more, ← turn.2 0, ← turn.3 0) (search rules)

pub returns : goal.returns
returns c =
    let first : iter_rest (zip_first c.into_iter-byte-iterator.result) ≡ c.args.text.now = search rules in
    let second : iter_rest (zip_second c.into_iter-byte-iterator.result) ≡ c.args.mask.now = search rules in
    let all = zip_end c.args.text.now c.args.mask.now c.loop-byte.yielded c.into_iter-byte-iterator.result c.loop-byte.byte-iterator c.next.new.self c.next.result first second
    c.loop-byte.yielded_by c.in-None.is c.next.ensures.steps in
    c.loop-byte.invariant ∙ xor_bytes_all c.args.text.now c.args.mask.now (length c.loop-byte.yielded) all
