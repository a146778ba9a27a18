use native.Mathlib.Nat.{div-one}
use Rattle.std.proofs.Common.{◌∙◌, ap}
use Rattle.file_chunks.proofs.Layouts.{associated_data_is}
use Rattle.file_chunks.proofs.header.Header.associated_data.Goals as goal

pub returns : goal.returns
returns c =
    associated_data_is c.args.self.now c.args.index c.copy_from_slice.new.self c.copy_from_slice-2.new.self
    (c.copy_from_slice.ensures.after ∙ rw (div-one c.args.index) c.to_be_bytes.ensures) (c.copy_from_slice-2.ensures.after ∙ ap (λ head. head.nonce) c.self.view_is)
