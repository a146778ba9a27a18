-- The ways in which a message is answered.
use Rattle.std.proofs.Common.{◌≡◌, ℕ, ◌≤◌, List, [], ◌++◌, length, take, drop, Some, None, Result, Ok, refl, sym, ap, subst, ◌∙◌, arith}
use Rattle.std.proofs.lemmas.List.{take_at, length-take, length-drop, length-append}
use Rattle.tree_model.specs.Asked.{PlainRequest, Asked}
use Rattle.ninep_wire.specs.declared.fault.WireErr.{WireErr}
use Rattle.ninep_wire.specs.TMessage.{PlainMessage}
use Rattle.ninep_wire.specs.RMessage.{PlainRMessage, spelled_r, IsRMessage}
use Rattle.ninep_wire.specs.Reading.{message_in}
use Rattle.session_core.specs.State.{State, limit}
use Rattle.session_core.specs.Action.{Action, says, asks, action_of}
use Rattle.session_core.specs.Outcome.{outcome, outcome_of}
use Rattle.session_core.specs.Session.{action_on, IsDone, tag_at, Exchanged}

pub said : (s next : State) (frame : List ℕ) (given : Result PlainMessage WireErr) (second : ℕ) (out : List ℕ) (tag : ℕ) (answer : PlainRMessage)
    → message_in frame ≡ given → action_on s given ≡ says answer next → tag ≡ tag_at frame → IsRMessage tag answer → out ≡ spelled_r tag answer → length out ≤ limit next
    → Exchanged s frame second None out next
said s next frame given second out tag answer read acts same formed h fits = record {
  answer = answer;
  formed = subst (λ (k : ℕ). IsRMessage k answer) same formed;
  fits = fits;
  spelled = h ∙ ap (λ (k : ℕ). spelled_r k answer) same;
  is_done = subst (λ (g : Result PlainMessage WireErr). IsDone (action_on s g) s g second None answer next) (sym read)
      (subst (λ (a : Action). IsDone a s given second None answer next) (sym acts) (refl, refl, refl));
}

pub asked_for : (s next : State) (frame : List ℕ) (m : PlainMessage) (second : ℕ) (out : List ℕ) (tag : ℕ) (answer : PlainRMessage) (request : PlainRequest) (entry : Asked)
    → message_in frame ≡ Ok m → action_of s m.body ≡ asks request → entry.request ≡ request → entry.second ≡ second → outcome_of s m.body entry.reply entry.bytes ≡ outcome answer next
    → tag ≡ tag_at frame → IsRMessage tag answer → out ≡ spelled_r tag answer → length out ≤ limit next → Exchanged s frame second (Some entry) out next
asked_for s next frame m second out tag answer request entry read acts asked at follows same formed h fits =
    let given : Result PlainMessage WireErr = Ok m in record {
      answer = answer;
      formed = subst (λ (k : ℕ). IsRMessage k answer) same formed;
      fits = fits;
      spelled = h ∙ ap (λ (k : ℕ). spelled_r k answer) same;
      is_done = subst (λ (g : Result PlainMessage WireErr). IsDone (action_on s g) s g second (Some entry) answer next) (sym read)
          (subst (λ (a : Action). IsDone a s given second (Some entry) answer next) (sym acts) (entry, refl, asked, at, follows));
    }

-- the first so many bytes are no more than that
pub within : (n most : ℕ) (out : List ℕ) → n ≤ most → length (take n out) ≤ most
within n most out le = omega (arith, length-take n out)

-- what was written in front of a rest of this length
pub written : (text old new : List ℕ) (n : ℕ) → new ≡ text ++ drop n old → length new ≡ length old → n ≤ length old → take n new ≡ text
written text old new n is same le =
    let size : length text ≡ n = omega (arith, ap (λ (w : List ℕ). length w) is, length-append text (drop n old), length-drop n old, same, le) in
    ap (take n) is ∙ take_at text (drop n old) n size
