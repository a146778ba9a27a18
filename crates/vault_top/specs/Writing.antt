-- What is written of the report so far.
use Rattle.std.specs.Prelude.{◌≡◌, ◌⊎◌, ℕ, List, ◌++◌, Option}
use Rattle.outside.specs.Calls.{Changes}
use Rattle.vault_top.specs.Report.{TakesPart}

-- a text was taken whole; or the sink failed, and took a part from its front; and the status for that
abbrev pub IsWritten : Type 0 → Option (List ℕ) → Option (List ℕ) → List ℕ → ℕ → ℕ → ℕ → Type 0
IsWritten failed taken taken' text whole cut status =
    ((status ≡ whole) × Changes taken taken' (λ old new. new ≡ old ++ text)) ⊎ (failed × (status ≡ cut) × Changes taken taken' (TakesPart text))
