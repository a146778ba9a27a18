use Rattle.std.proofs.Common.{◌≡◌, [], map, vec_len}
use Rattle.model_step.specs.Listed.{named}
use Rattle.model_step.proofs.Putting.{put_all}
use Rattle.model_step.proofs.listing.named_children.Given as goal

abbrev pub invariant-loop-child : goal.invariant-loop-child
invariant-loop-child l = put_all (map named l.entries.items) (map named l.children.items) ≡ put_all [] (map named l.initial.children.items)

abbrev pub decreases-loop-child : goal.decreases-loop-child
decreases-loop-child l = vec_len l.children
