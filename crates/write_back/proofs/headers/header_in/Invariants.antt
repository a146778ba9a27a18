use Rattle.std.proofs.Common.{◌≡◌, drop}
use Rattle.write_back.specs.Headers.{plain_headers, header_of}
use Rattle.write_back.proofs.headers.header_in.Given as goal

abbrev pub invariant-loop-one : goal.invariant-loop-one
invariant-loop-one l = header_of l.path (plain_headers (drop l.one-index l.kept)) ≡ header_of l.path (plain_headers l.kept)
