use Rattle.std.proofs.Common.{◌<◌, arith}
use Rattle.outside.specs.Images.{disk_in}
use Rattle.vault_layout.specs.Limits.{key_file_limit}
use Rattle.unlocking.proofs.Seen.{length_seen, bytes_seen}
use Rattle.unlocking.proofs.finding.find.Goals as goal

pub returns-in-Some-File-clause-found : goal.returns-in-Some-File-clause-found
returns-in-Some-File-clause-found g c =
    length_seen (disk_in (g.D.Reads.log c.args.folder.now)) c.args.path.now _ c.in-Some-File.length (λ n. key_file_limit < n) (cc) c.in_ok-kind.ensures.kind (omega arith)

pub returns-in_ok-bytes-in-Some-File-2-clause-found : goal.returns-in_ok-bytes-in-Some-File-2-clause-found
returns-in_ok-bytes-in-Some-File-2-clause-found g c =
    bytes_seen (g.D.Reads.log c.args.folder.now) (g.D.Reads.log c.kind.new.self) c.args.path.now c.in_ok-bytes-in-Some-File-2.bytes.items _ c.kind.ensures.log
    c.in_ok-bytes-in-Some-File-2.ensures.bytes (omega (arith, c.in_ok-bytes-in-Some-File-2.ensures.few))
