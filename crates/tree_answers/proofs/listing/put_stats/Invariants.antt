use Rattle.std.proofs.Common.{◌≡◌, ◌≤◌, ◌-◌, ℕ, ◌++◌, length, take, drop}
use Rattle.std.specs.List.{concat}
use Rattle.std.specs.Option.{option_copied}
use Rattle.tree_model.specs.Rows.{Content}
use Rattle.tree_model.specs.Asked.{AreStats}
use Rattle.tree_model.specs.Step.{fitting, stats_behind}
use Rattle.live_tree.specs.Held.{live_rows}
use Rattle.tree_answers.specs.Answers.{AreSizes}
use Rattle.tree_answers.proofs.listing.put_stats.Given as goal

-- whole stats were put, and those after the last name are next
abbrev pub invariant-loop-number : goal.invariant-loop-number
invariant-loop-number l = record {
  within : l.used ≤ length l.room;
  long : length l.room ≡ length l.initial.room;
  bytes : (contents : ℕ → Content) → AreSizes l.tree contents →
      concat (fitting (length l.initial.room) (stats_behind (live_rows contents l.tree) l.parent (option_copied l.after)))
      ≡ take l.used l.room ++ concat (fitting (length l.initial.room - l.used) (stats_behind (live_rows contents l.tree) l.parent (option_copied l.last)));
  form : AreStats (length l.initial.room) (take l.used l.room);
  rest : drop l.used l.room ≡ drop l.used l.initial.room;
}

abbrev pub decreases-loop-number : goal.decreases-loop-number
decreases-loop-number l = length l.room - l.used
