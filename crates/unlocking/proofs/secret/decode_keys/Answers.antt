use Rattle.std.proofs.Common.{sym, ◌∙◌}
use Rattle.unlocking.proofs.Decoding.{no_keys, has_keys, keys_are}
use Rattle.unlocking.proofs.secret.decode_keys.Goals as goal

pub returns-then-is_err : goal.returns-then-is_err
returns-then-is_err c =
    sym (no_keys c.args.line.now c.decode_to_slice.result c.decode_to_slice.new.out c.decode_to_slice.ensures.value (sym c.is_err.ensures.value ∙ c.if-is_err.true))

pub returns : goal.returns
returns c =
    let out = c.decode_to_slice.new.out in
    let found = has_keys c.args.line.now c.decode_to_slice.result out c.decode_to_slice.ensures.value (sym c.is_err.ensures.value ∙ c.if-is_err.false) in
    keys_are c.args.line.now out c.keys_in.result found c.keys_in.ensures.enc c.keys_in.ensures.mac
