use native.Mathlib.Nat.{div-one}
use Rattle.std.proofs.Common.{◌∙◌, ap, arith}
use Rattle.ctrmac_chunks.proofs.Layouts.{bound_to_is}
use Rattle.ctrmac_chunks.proofs.header.Header.bound_to.Goals as goal

pub returns : goal.returns
returns c =
    bound_to_is c.args.self.now c.args.index c.copy_from_slice.new.self c.copy_from_slice-2.new.self (omega arith)
    (c.copy_from_slice.ensures.after ∙ ap (λ head. head.nonce) c.self.view_is) (c.copy_from_slice-2.ensures.after ∙ rw (div-one c.args.index) c.to_be_bytes.ensures)
