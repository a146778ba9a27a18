-- Tests of fids.
use Rattle.std.proofs.Common.{◌≡◌, ℕ, Result, Ok, Err, refl, ◌∙◌}
use Rattle.std.specs.Prelude.{MatchResult}
use Rattle.std.proofs.lemmas.Bool.{ne_eqb}
use Rattle.session_core.specs.declared.texts.Denial.{Denial}
use Rattle.session_core.specs.Denial.{denial_text}
use Rattle.session_core.specs.State.{State, no_fid}
use Rattle.session_core.specs.Action.{Action, refuses, with_unused, with_newfid}
use Rattle.session_core.specs.Change.{CanSet}

-- a newfid that is another fid has to be unused
pub with_newfid-other : (s : State) (f newfid : ℕ) (action : Action) → (newfid ≡ no_fid → ⊥) → (newfid ≡ f → ⊥) → with_newfid s f newfid action ≡ with_unused s newfid action
with_newfid-other s f newfid action none other = rw (ne_eqb newfid no_fid none, ne_eqb newfid f other) refl

pub newfid_tested : (s : State) (f newfid : ℕ) → (newfid ≡ no_fid → ⊥) → (newfid ≡ f → ⊥) → (r : Result (Unit {0}) Denial)
    → MatchResult r (λ _. ((action : Action) → with_unused s newfid action ≡ action) × CanSet s newfid) (λ d. (action : Action) → with_unused s newfid action ≡ refuses (denial_text d) s)
    → MatchResult r (λ _. ((action : Action) → with_newfid s f newfid action ≡ action) × CanSet s newfid) (λ d. (action : Action) → with_newfid s f newfid action ≡ refuses (denial_text d) s)
newfid_tested s f newfid none other (Ok u) h = (λ action. with_newfid-other s f newfid action none other ∙ h.0 action, h.1)
newfid_tested s f newfid none other (Err d) h = λ action. with_newfid-other s f newfid action none other ∙ h action
