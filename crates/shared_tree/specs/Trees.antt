-- What a tree makes of a caller's request.
use Rattle.std.specs.Prelude.{◌≡◌, ℕ, ◌≤◌, List, [], ◌∷◌, ◌++◌, Option}
use Rattle.outside.specs.Views.{EntropyView}
use Rattle.tree_model.specs.Asked.{Asked}
use Rattle.tree_model.specs.Rows.{Rows}
use Rattle.tree_model.specs.History.{Made, Entry, Origin, entry_of, tally_of}

-- a random source went from one view to another as this was made: the counts of faults that it tells lie between them, and it drew what
-- it says
pub record IsDrawnFor (draws : Option (List ℕ) → Option (List ℕ) → Made → Type 0) (before after : EntropyView) (made : Made) : Type 0 where
  pub low : before.faults ≤ made.entropy.before
  pub high : made.entropy.after ≤ after.faults
  pub drawn : draws before.drawn after.drawn made

-- what was made of a request that was asked and answered so
pub record IsMadeOf (draws : Option (List ℕ) → Option (List ℕ) → Made → Type 0) (asked : Asked) (before after : EntropyView) (made : Made) : Type 0 where
  pub same : made.asked ≡ asked
  pub source : IsDrawnFor draws before after made

-- One entry more: whatever history the tree stood for, whoever asks, it stands for that history with one entry, in which this was asked and
-- answered. The caller's random source goes on from where it was in the caller's last entry.
abbrev pub AddsEntry : {T : Type 0} → (T → Rows → Origin → List Entry → Type 0) → (Option (List ℕ) → Option (List ℕ) → Made → Type 0)
    → T → T → Asked → EntropyView → EntropyView → Type 0
AddsEntry stands draws old new asked before after =
    (rows : Rows) (origin : Origin) (history : List Entry) (caller : ℕ) → stands old rows origin history →
    (tally_of origin history).entropy_faults caller ≤ before.faults →
    (made : Made) × IsMadeOf draws asked before after made × stands new rows origin (history ++ entry_of caller made ∷ [])
