use Rattle.vault_top.proofs.Numbers.{within}
use Rattle.vault_top.proofs.task.read_task.Goals as goal

pub task_of-requires : goal.task_of-requires
task_of-requires c = record { within = within _ _ c.in_ok-read_words.ensures.job }
