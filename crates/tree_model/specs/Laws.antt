-- What a legal history comes to in which nothing of the outside failed.
use Rattle.std.specs.Prelude.{◌≡◌, ◌≢◌, ◌⊎◌, ℕ, List, true, false, Some, IsNone}
use Rattle.std.specs.List.{AllByRecursion}
use Rattle.outside.specs.Disk.{Path}
use Rattle.outside.specs.Calls.{Rose}
use Rattle.tree_model.specs.declared.refusal.Refusal.TheVariants as refusals
use Rattle.tree_model.specs.Rows.{Rows}
use Rattle.tree_model.specs.Step.{refuses, step}
use Rattle.tree_model.specs.History.{Made, Entry, Origin, answer_of, entry_at, places, is_refusal, is_stopped, rows_at, tally_of, MayLackMemory}

-- no count of faults rose in an entry
pub record IsFaultless (made : Made) : Type 0 where
  pub folder : ¬ (Rose made.folder.before made.folder.after)
  pub entropy : ¬ (Rose made.entropy.before made.entropy.after)

-- nor in any entry of a history
abbrev pub AreFaultless : List Entry → Type 0
AreFaultless entries = AllByRecursion (λ entry. IsFaultless entry.made) entries

-- a request that the step doesn't refuse would put its node at a place that is taken, and is answered so
pub record IsPlaceTaken (rows : Rows) (made : Made) : Type 0 where
  pub path : Path
  pub taken : made.taken ≡ Some path
  pub places : places rows made.asked.request ≡ true
  pub accepted : is_refusal (step rows made.asked.request made.asked.second).answer.reply ≡ false
  pub answer : answer_of made ≡ refuses (refusals.PlaceTaken path)

-- memory ran out on a request on which it may, of a node that is there
pub record IsOutOfMemory (rows : Rows) (made : Made) : Type 0 where
  pub may : MayLackMemory made.asked.request
  pub there : (step rows made.asked.request made.asked.second).answer ≢ refuses refusals.Removed
  pub answer : answer_of made ≡ refuses refusals.OutOfMemory

-- the answer is the step's, or one of the two that no count of faults is the cause of
abbrev pub IsStepAnswer : Rows → Made → Type 0
IsStepAnswer rows made =
    (answer_of made ≡ (step rows made.asked.request made.asked.second).answer)
    ⊎ IsPlaceTaken rows made
    ⊎ IsOutOfMemory rows made

-- what was made of a request if nothing failed: its commit neither, and the store goes on
pub record IsStepped (rows : Rows) (made : Made) : Type 0 where
  pub committed : made.commit_failed ≡ false
  pub running : is_stopped made.asked.reply ≡ false
  pub answer : IsStepAnswer rows made

-- each entry of a history is stepped in the rows before it, and the store is running after them all
pub record AreStepped (rows : Rows) (origin : Origin) (entries : List Entry) : Type 0 where
  pub each : (i : ℕ) (entry : Entry) → entry_at entries i ≡ Some entry → IsStepped (rows_at rows entries i) entry.made
  pub running : IsNone (tally_of origin entries).stopped
