-- The talk so far: messages that were answered, and what the link and the object are after them.
use Rattle.std.proofs.Common.{◌≡◌, ℕ, ◌+◌, ◌^◌, ◌<◌, ◌≤◌, List, [], ◌∷◌, ◌++◌, length, take, drop, Option, refl, sym, ap, subst, ◌∙◌, append_assoc, arith}
use Rattle.std.specs.List.{concat}
use Rattle.std.specs.Option.{option_to_list}
use Rattle.std.proofs.lemmas.List.{append-nil, take-append-drop, length-append, length-drop}
use Rattle.outside.specs.Calls.{HasCause, TakesNext}
use Rattle.outside.specs.Views.{LinkView}
use Rattle.outside.proofs.Told.{told_always}
use Rattle.tree_model.specs.Asked.{Asked, Extends}
use Rattle.ninep_wire.specs.Reading.{IsFrame}
use Rattle.session_core.specs.State.{State, fresh, limit}
use Rattle.session_core.specs.Session.{Exchanged}
use Rattle.session_server.specs.declared.ending.SessionEnd.{SessionEnd}
use Rattle.session_server.specs.declared.ending.SessionEnd.TheVariants.{Done, Cut, BadFrame, ReadFault, WriteFault, Limit, Memory}
use Rattle.session_server.specs.Talk.{Answered, EndsAfter, IsTaken, IsReadUp}
use Rattle.session_server.specs.Served.{HasTalked}
use Rattle.session_server.specs.Steps.{Reads, Writes, IsReadEnd, StopsAt}
use Rattle.session_server.proofs.Links.{reads_nothing, reads_then, reads_more, reads_with, writes_nothing, writes_more, cause_later, no_cause}
use Rattle.session_server.proofs.Seconds.{gives_none, gives_more}

-- n messages were answered since the link and the clock were as before
pub record SoFar {B : Type 0} (stands : B → B → List Asked → Type 0) (object object' : B) (before now : LinkView) (clock clock' : Option (ℕ → ℕ)) (n : ℕ) (s : State) : Type 0 where
  pub frames : List (List ℕ)
  pub seconds : List ℕ
  pub asked : List Asked
  pub answers : List (List ℕ)
  pub count : length frames ≡ n
  pub answered : Answered fresh frames seconds asked answers s
  pub read : Reads before.left now.left (concat frames)
  pub wrote : Writes before.taken now.taken (concat answers)
  pub clock_gave : TakesNext clock clock' seconds
  pub extends : Extends stands object object' asked
  pub read_faults : before.read_faults ≤ now.read_faults
  pub write_faults : before.write_faults ≤ now.write_faults

-- one message, answered
pub record OneAnswered (s : State) (frame : List ℕ) (second : ℕ) (request : Option Asked) (answer : List ℕ) (next : State) : Type 0 where
  pub framed : IsFrame frame
  pub fits : length frame ≤ limit s
  pub exchanged : Exchanged s frame second request answer next

-- ---- one more message

-- joined lists with one list more
concat_more : (xs : List (List ℕ)) (x : List ℕ) → concat (xs ++ x ∷ []) ≡ concat xs ++ x
concat_more [] x = append-nil x
concat_more (y ∷ xs) x = ap (λ (w : List ℕ). y ++ w) (concat_more xs x) ∙ sym (append_assoc y (concat xs) x)

-- messages that were answered, and one more
answered_more : (first : State) (frames : List (List ℕ)) (seconds : List ℕ) (asked : List Asked) (answers : List (List ℕ)) (s : State) (frame : List ℕ) (second : ℕ) (request : Option Asked) (answer : List ℕ) (next : State)
    → Answered first frames seconds asked answers s → OneAnswered s frame second request answer next
    → Answered first (frames ++ frame ∷ []) (seconds ++ second ∷ []) (asked ++ option_to_list request) (answers ++ answer ∷ []) next
answered_more first [] seconds asked answers s frame second request answer next h one =
    let same : s ≡ first = h.3 in record {
      framed = one.framed;
      fits = subst (λ (t : State). length frame ≤ limit t) same one.fits;
      second = second;
      request = request;
      answer = answer;
      next = next;
      exchanged = subst (λ (t : State). Exchanged t frame second request answer next) same one.exchanged;
      other_seconds = [];
      others = [];
      other_answers = [];
      rest = (refl, refl, refl, refl);
      seconds_are = ap (λ (w : List ℕ). w ++ second ∷ []) h.0;
      asked_is = ap (λ (w : List Asked). w ++ option_to_list request) h.1 ∙ sym (append-nil (option_to_list request));
      answers_are = ap (λ (w : List (List ℕ)). w ++ answer ∷ []) h.2;
    }
answered_more first (x ∷ frames) seconds asked answers s frame second request answer next h one = record {
  framed = h.framed;
  fits = h.fits;
  second = h.second;
  request = h.request;
  answer = h.answer;
  next = h.next;
  exchanged = h.exchanged;
  other_seconds = h.other_seconds ++ second ∷ [];
  others = h.others ++ option_to_list request;
  other_answers = h.other_answers ++ answer ∷ [];
  rest = answered_more h.next frames h.other_seconds h.others h.other_answers s frame second request answer next h.rest one;
  seconds_are = ap (λ (w : List ℕ). w ++ second ∷ []) h.seconds_are;
  asked_is = ap (λ (w : List Asked). w ++ option_to_list request) h.asked_is ∙ append_assoc (option_to_list h.request) h.others (option_to_list request);
  answers_are = ap (λ (w : List (List ℕ)). w ++ answer ∷ []) h.answers_are;
}

-- an object that was asked these, and then those
pub extends_more : {B : Type 0} (stands : B → B → List Asked → Type 0) (a b c : B) (xs ys : List Asked) → Extends stands a b xs → Extends stands b c ys → Extends stands a c (xs ++ ys)
extends_more stands a b c xs ys h k = λ start before stood. subst (λ (w : List Asked). stands c start w) (append_assoc before xs ys) (k start (before ++ xs) (h start before stood))

-- one that was asked nothing
pub extends_none : {B : Type 0} (stands : B → B → List Asked → Type 0) (a : B) → Extends stands a a []
extends_none stands a = λ start before stood. subst (λ (w : List Asked). stands a start w) (sym (append-nil before)) stood

-- before the first message
pub so_far_none : {B : Type 0} {stands : B → B → List Asked → Type 0} {object : B} {link : LinkView} {clock : Option (ℕ → ℕ)} {s : State} → s ≡ fresh → SoFar stands object object link link clock clock 0 s
so_far_none {stands = stands} {object = object} {link = link} {clock = clock} is = record {
  frames = [];
  seconds = [];
  asked = [];
  answers = [];
  count = refl;
  answered = (refl, refl, refl, is);
  read = reads_nothing link.left;
  wrote = writes_nothing link.taken;
  clock_gave = gives_none clock;
  extends = extends_none stands object;
  read_faults = omega arith;
  write_faults = omega arith;
}

-- a message was read whole, and part of its answer was written
pub record IsOnLink (now after : LinkView) (frame sent : List ℕ) : Type 0 where
  pub read : Reads now.left after.left frame
  pub wrote : Writes now.taken after.taken sent
  pub read_faults : now.read_faults ≤ after.read_faults
  pub write_faults : now.write_faults ≤ after.write_faults

-- ---- how the talk ends

before_limit : (n : ℕ) (end : SessionEnd) → IsReadEnd end → n < 2 ^ 32 → EndsAfter n end
before_limit n Done kind lt = lt
before_limit n (Cut had wanted) kind lt = lt
before_limit n (BadFrame size) kind lt = lt
before_limit n ReadFault kind lt = lt
before_limit n WriteFault kind lt = absurd kind
before_limit n Limit kind lt = absurd kind
before_limit n Memory kind lt = absurd kind

all_taken : (end : SessionEnd) (answers : List (List ℕ)) → IsReadEnd end → IsTaken end answers (concat answers)
all_taken Done answers kind = refl
all_taken (Cut had wanted) answers kind = refl
all_taken (BadFrame size) answers kind = refl
all_taken ReadFault answers kind = refl
all_taken WriteFault answers kind = absurd kind
all_taken Limit answers kind = absurd kind
all_taken Memory answers kind = absurd kind

no_write_fault : (end : SessionEnd) → IsReadEnd end → end ≡ WriteFault → ⊥
no_write_fault Done kind e = cc
no_write_fault (Cut had wanted) kind e = cc
no_write_fault (BadFrame size) kind e = cc
no_write_fault ReadFault kind e = cc
no_write_fault WriteFault kind e = kind
no_write_fault Limit kind e = cc
no_write_fault Memory kind e = cc

-- nothing was read for lack of memory
pub talked_memory : {B : Type 0} {stands : B → B → List Asked → Type 0} {object : B} {link : LinkView} {clock : Option (ℕ → ℕ)} → HasTalked stands object object link link clock clock Memory
talked_memory {stands = stands} {object = object} {link = link} {clock = clock} = record {
  asked = [];
  talked = record {
    input = [];
    seconds = [];
    answers = [];
    sent = [];
    talk = record { frames = []; rest = []; last = fresh; input_is = refl; answered = (refl, refl, refl, refl); ended = refl; count = refl };
    read = reads_with (IsReadUp Memory) link.left link.left [] (reads_nothing link.left) (told_always link.left (IsReadUp Memory) (λ x. tt));
    written = writes_nothing link.taken;
    sent_is = refl;
    clock_gave = gives_none clock;
    read_fault = no_cause link.read_faults link.read_faults (Memory ≡ ReadFault) (omega arith) (λ e. cc);
    write_fault = no_cause link.write_faults link.write_faults (Memory ≡ WriteFault) (omega arith) (λ e. cc);
  };
  extends = extends_none stands object;
}

module _ {B : Type 0} {stands : B → B → List Asked → Type 0} {object object' : B} {before now : LinkView} {clock clock' : Option (ℕ → ℕ)} {n : ℕ} {s : State} (so : SoFar stands object object' before now clock clock' n s) where
  -- the reading of the next message stopped
  pub talked_stop : {after : LinkView} {end : SessionEnd} → n < 2 ^ 32 → StopsAt [] s now.left after.left end → after.taken ≡ now.taken → HasCause now.read_faults after.read_faults (end ≡ ReadFault) → now.write_faults ≤ after.write_faults
      → HasTalked stands object object' before after clock clock' end
  talked_stop {after} {end} lt stop same cause writes = record {
    asked = so.asked;
    talked = record {
      input = concat so.frames ++ stop.more;
      seconds = so.seconds;
      answers = so.answers;
      sent = concat so.answers;
      talk = record {
        frames = so.frames;
        rest = stop.more;
        last = s;
        input_is = refl;
        answered = so.answered;
        ended = stop.ends;
        count = before_limit (length so.frames) end stop.kind (omega (arith, so.count));
      };
      read = reads_then (IsReadUp end) before.left now.left after.left (concat so.frames) stop.more so.read stop.read;
      written = subst (λ (t : Option (List ℕ)). Writes before.taken t (concat so.answers)) (sym same) so.wrote;
      sent_is = all_taken end so.answers stop.kind;
      clock_gave = so.clock_gave;
      read_fault = cause_later before.read_faults now.read_faults after.read_faults (end ≡ ReadFault) (end ≡ ReadFault) so.read_faults cause (λ e. e);
      write_fault = no_cause before.write_faults after.write_faults (end ≡ WriteFault) (omega (arith, so.write_faults)) (no_write_fault end stop.kind);
    };
    extends = so.extends;
  }

  -- 2^32 messages were answered
  pub talked_limit : n ≡ 2 ^ 32 → HasTalked stands object object' before now clock clock' Limit
  talked_limit all = record {
    asked = so.asked;
    talked = record {
      input = concat so.frames;
      seconds = so.seconds;
      answers = so.answers;
      sent = concat so.answers;
      talk = record { frames = so.frames; rest = []; last = s; input_is = sym (append-nil (concat so.frames)); answered = so.answered; ended = refl; count = so.count ∙ all };
      read = reads_with (IsReadUp Limit) before.left now.left (concat so.frames) so.read (told_always now.left (IsReadUp Limit) (λ x. tt));
      written = so.wrote;
      sent_is = refl;
      clock_gave = so.clock_gave;
      read_fault = no_cause before.read_faults now.read_faults (Limit ≡ ReadFault) so.read_faults (λ e. cc);
      write_fault = no_cause before.write_faults now.write_faults (Limit ≡ WriteFault) so.write_faults (λ e. cc);
    };
    extends = so.extends;
  }

  -- one message more
  module _ {object'' : B} {clock'' : Option (ℕ → ℕ)} {frame : List ℕ} {second : ℕ} {request : Option Asked} {answer : List ℕ} {next : State}
      (one : OneAnswered s frame second request answer next) (gave : TakesNext clock' clock'' (second ∷ [])) (extends : Extends stands object' object'' (option_to_list request)) where
    pub so_far_more : {after : LinkView} → IsOnLink now after frame answer → SoFar stands object object'' before after clock clock'' (n + 1) next
    so_far_more {after} link = record {
      frames = so.frames ++ frame ∷ [];
      seconds = so.seconds ++ second ∷ [];
      asked = so.asked ++ option_to_list request;
      answers = so.answers ++ answer ∷ [];
      count = length-append so.frames (frame ∷ []) ∙ ap (λ (k : ℕ). k + 1) so.count;
      answered = answered_more fresh so.frames so.seconds so.asked so.answers s frame second request answer next so.answered one;
      read = subst (λ (w : List ℕ). Reads before.left after.left w) (sym (concat_more so.frames frame)) (reads_more before.left now.left after.left (concat so.frames) frame so.read link.read);
      wrote = subst (λ (w : List ℕ). Writes before.taken after.taken w) (sym (concat_more so.answers answer)) (writes_more before.taken now.taken after.taken (concat so.answers) answer so.wrote link.wrote);
      clock_gave = gives_more clock clock' clock'' so.seconds (second ∷ []) so.clock_gave gave;
      extends = extends_more stands object object' object'' so.asked (option_to_list request) so.extends extends;
      read_faults = omega (arith, so.read_faults, link.read_faults);
      write_faults = omega (arith, so.write_faults, link.write_faults);
    }

    -- only a part of its answer's front is taken
    pub talked_fault : {after : LinkView} (sent : ℕ) → n < 2 ^ 32 → sent < length answer → IsOnLink now after frame (take sent answer) → HasCause now.write_faults after.write_faults (WriteFault ≡ WriteFault)
        → HasTalked stands object object'' before after clock clock'' WriteFault
    talked_fault {after} sent lt short link cause =
        let size : length (so.frames ++ frame ∷ []) ≡ n + 1 = length-append so.frames (frame ∷ []) ∙ ap (λ (k : ℕ). k + 1) so.count in
        let input : Reads before.left after.left (concat (so.frames ++ frame ∷ [])) =
        subst (λ (w : List ℕ). Reads before.left after.left w) (sym (concat_more so.frames frame)) (reads_more before.left now.left after.left (concat so.frames) frame so.read link.read)
        in record {
          asked = so.asked ++ option_to_list request;
          talked = record {
            input = concat (so.frames ++ frame ∷ []);
            seconds = so.seconds ++ second ∷ [];
            answers = so.answers ++ answer ∷ [];
            sent = concat so.answers ++ take sent answer;
            talk = record {
              frames = so.frames ++ frame ∷ [];
              rest = [];
              last = next;
              input_is = sym (append-nil (concat (so.frames ++ frame ∷ [])));
              answered = answered_more fresh so.frames so.seconds so.asked so.answers s frame second request answer next so.answered one;
              ended = refl;
              count = (omega (arith, size), omega (arith, size));
            };
            read = reads_with (IsReadUp WriteFault) before.left after.left (concat (so.frames ++ frame ∷ [])) input (told_always after.left (IsReadUp WriteFault) (λ x. tt));
            written = writes_more before.taken now.taken after.taken (concat so.answers) (take sent answer) so.wrote link.wrote;
            sent_is = record {
              earlier = so.answers;
              part = take sent answer;
              lost = drop sent answer;
              answers_are = ap (λ (w : List ℕ). so.answers ++ w ∷ []) (sym (take-append-drop sent answer));
              some = omega (arith, length-drop sent answer);
              taken_is = refl;
            };
            clock_gave = gives_more clock clock' clock'' so.seconds (second ∷ []) so.clock_gave gave;
            read_fault = no_cause before.read_faults after.read_faults (WriteFault ≡ ReadFault) (omega (arith, so.read_faults, link.read_faults)) (λ e. cc);
            write_fault = cause_later before.write_faults now.write_faults after.write_faults (WriteFault ≡ WriteFault) (WriteFault ≡ WriteFault) so.write_faults cause (λ e. e);
          };
          extends = extends_more stands object object' object'' so.asked (option_to_list request) so.extends extends;
        }
