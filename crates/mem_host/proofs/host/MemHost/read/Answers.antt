use Rattle.std.proofs.Common.{◌-◌, ℕ, List, length, min, take, drop, ap, ◌∙◌}
use Rattle.host_calls.specs.Story.{bytes_now, volume_now}
use Rattle.host_calls.proofs.Volumes.{file_in}
use Rattle.mem_host.proofs.host.MemHost.read.Goals as goal

pub returns-clause-bytes : goal.returns-clause-bytes
returns-clause-bytes c = (
  bytes_now c.args.self.now.story c.args.seen,
  file_in (volume_now c.args.self.now.story) c.args.path.now c.args.seen (c.is_file_at.ensures.0 c.if-not-is_file_at.false),
  c.copy_at.ensures.count ∙ ap (λ (l : List ℕ). min (length c.args.out.now) (length l - c.args.at)) c.bytes.ensures,
  c.copy_at.ensures.bytes ∙ ap (λ (l : List ℕ). take c.copy_at.result (drop c.args.at l)) c.bytes.ensures,
)
