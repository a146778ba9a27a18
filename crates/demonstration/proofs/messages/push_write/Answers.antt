use Rattle.std.proofs.Common.{◌≡◌, ◌+◌, length, arith, append_assoc}
use Rattle.ninep_wire.specs.TMessage.{t_fields, write}
use Rattle.demonstration.specs.Script.{sent}
use Rattle.demonstration.proofs.messages.push_write.Goals as goal

pub returns : goal.returns
unfolding sent
returns c =
    let a = c.args in
    let size : 4 + (12 + length a.bytes.now) ≡ length (t_fields (write a.fid a.offset a.bytes.now)) = omega arith in
    simp append_assoc at (rw (c.in_ok-push_u64.ensures, c.in_ok-push_call.ensures, size) at c.push_data.ensures)
