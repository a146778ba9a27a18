use Rattle.pending_files.proofs.Later.{put_later}
use Rattle.pending_files.proofs.laws.putting_in_what_waits.Goals as goal

pub returns : goal.returns
returns c = put_later
