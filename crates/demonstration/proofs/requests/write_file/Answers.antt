use Rattle.std.proofs.Common.{append_assoc, append-nil}
use Rattle.demonstration.proofs.requests.write_file.Goals as goal

pub returns : goal.returns
returns c =
    simp append-nil (
    simp append_assoc at (
    rw (c.in_ok-push_write.ensures, c.in_ok-push_open.ensures, c.in_ok-push_walk_to_file.ensures, c.directory_name.ensures, c.file_name.ensures, c.offset.ensures, c.byte.ensures)
    at c.push_clunk.ensures))
