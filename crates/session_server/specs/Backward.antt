-- A talk in which what each fid is before a message is found by looking back over the messages before it and their answers.
use Rattle.std.specs.Prelude.{◌≡◌, ℕ, List, [], ◌∷◌, ◌++◌, Option}
use Rattle.std.specs.Option.{option_to_list}
use Rattle.tree_model.specs.Asked.{Asked}
use Rattle.ninep_wire.specs.Reading.{message_in}
use Rattle.session_core.specs.State.{State, fresh}
use Rattle.session_core.specs.Session.{Exchanged}
use Rattle.session_core.specs.LookBack.{Exchange, IsFoundBack}
use Rattle.session_server.specs.Talk.{Answered}

-- The first message is answered in the session that is found by looking back over the exchanges before it, and Rest holds of these and its
-- own, and of the seconds, and what was asked and answered, for the others.
pub record FirstLooksBack (past : List Exchange) (frame seconds : List ℕ) (asked : List Asked) (answers : List (List ℕ)) (Rest : List Exchange → List ℕ → List Asked → List (List ℕ) → Type 0) : Type 0 where
  pub session : State
  pub found : IsFoundBack past session
  pub second : ℕ
  pub request : Option Asked
  pub answer : List ℕ
  pub next : State
  pub exchanged : Exchanged session frame second request answer next
  pub other_seconds : List ℕ
  pub others : List Asked
  pub other_answers : List (List ℕ)
  pub rest : Rest (past ++ record { given = message_in frame; answer = exchanged.answer } ∷ []) other_seconds others other_answers
  pub seconds_are : seconds ≡ second ∷ other_seconds
  pub asked_is : asked ≡ option_to_list request ++ others
  pub answers_are : answers ≡ answer ∷ other_answers

-- messages answered in order, after those of the past: the second at which each was, what was asked for them, and the answer to each
abbrev pub AnsweredBack : List Exchange → List (List ℕ) → List ℕ → List Asked → List (List ℕ) → Type 0
AnsweredBack past [] seconds asked answers = (seconds ≡ []) × (asked ≡ []) × (answers ≡ [])
AnsweredBack past (frame ∷ frames) seconds asked answers =
    FirstLooksBack past frame seconds asked answers (λ past other_seconds others other_answers. AnsweredBack past frames other_seconds others other_answers)

-- so are the messages of each talk, from its start
abbrev pub TalksLookBack : Type 0
TalksLookBack =
    (frames : List (List ℕ)) (seconds : List ℕ) (asked : List Asked) (answers : List (List ℕ)) (last : State) → Answered fresh frames seconds asked answers last
    → AnsweredBack [] frames seconds asked answers
