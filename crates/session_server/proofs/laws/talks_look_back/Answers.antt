use Rattle.std.proofs.Common.{ℕ, List, [], ◌∷◌, ◌++◌, refl, subst}
use Rattle.tree_model.specs.Asked.{Asked}
use Rattle.ninep_wire.specs.Reading.{message_in}
use Rattle.session_core.specs.State.{State, fresh}
use Rattle.session_core.specs.LookBack.{Exchange, Leads, AreHeld, LooksBack}
use Rattle.session_server.specs.Talk.{Answered}
use Rattle.session_server.specs.Backward.{AnsweredBack}
use Rattle.session_server.proofs.laws.talks_look_back.Goals as goal

-- one more frame was answered
held_snoc : (s : State) (past : List Exchange) (t : State) (e : Exchange) (next : State) → AreHeld s past t → Leads t e next → AreHeld s (past ++ e ∷ []) next
held_snoc s [] t e next held leads = (next, subst (λ (u : State). Leads u e next) held leads, refl)
held_snoc s (x ∷ past) t e next held leads = (held.0, held.1, held_snoc held.0 past t e next held.2 leads)

looks_back : LooksBack → (past : List Exchange) (s : State) → AreHeld fresh past s → (frames : List (List ℕ)) (seconds : List ℕ) (asked : List Asked) (answers : List (List ℕ)) (last : State)
    → Answered s frames seconds asked answers last → AnsweredBack past frames seconds asked answers
looks_back law past s held [] seconds asked answers last h = (h.0, h.1, h.2)
looks_back law past s held (frame ∷ frames) seconds asked answers last h =
    let e : Exchange = record { given = message_in frame; answer = h.exchanged.answer } in
    let leads : Leads s e h.next = record {
      frame = frame;
      second = h.second;
      asked = h.request;
      out = h.answer;
      exchanged = h.exchanged;
      given_is = refl;
      answer_is = refl;
    } in
    record {
      session = s;
      found = law past s held;
      second = h.second;
      request = h.request;
      answer = h.answer;
      next = h.next;
      exchanged = h.exchanged;
      other_seconds = h.other_seconds;
      others = h.others;
      other_answers = h.other_answers;
      rest = looks_back law (past ++ e ∷ []) h.next (held_snoc fresh past s e h.next held leads) frames h.other_seconds h.others h.other_answers last h.rest;
      seconds_are = h.seconds_are;
      asked_is = h.asked_is;
      answers_are = h.answers_are;
    }

pub returns : goal.returns
returns c = looks_back c.fids_are_found_by_looking_back.ensures [] fresh refl
