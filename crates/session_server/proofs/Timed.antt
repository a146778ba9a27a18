-- What sessions asked was asked at the seconds of its messages.
use Rattle.std.proofs.Common.{ℕ, Bool, true, false, not, cond, List, [], ◌∷◌, ◌++◌, map, Option, sym, subst, inl, inr}
use Rattle.std.specs.Option.{option_to_list}
use Rattle.std.proofs.lemmas.List.{map-append}
use Rattle.outside.specs.Calls.{TakesNext}
use Rattle.outside.specs.Views.{LinkView}
use Rattle.tree_model.specs.Asked.{Asked, entered, is_exhausted}
use Rattle.ninep_wire.specs.Reading.{message_in}
use Rattle.session_core.specs.State.{State}
use Rattle.session_core.specs.Action.{Action, says, asks}
use Rattle.session_core.specs.Session.{Exchanged, IsDone, action_on}
use Rattle.session_server.specs.declared.ending.SessionEnd.{SessionEnd}
use Rattle.session_server.specs.Talk.{Answered}
use Rattle.session_server.specs.Served.{ServedLink, TalkedOn, TalkedOnEach}
use Rattle.session_server.specs.Timed.{AreAmong, IsTimed}
use Rattle.session_server.proofs.Seconds.{gives_none, gives_more}

-- ---- lists among others

among_more : (xs : List ℕ) (y : ℕ) (ys : List ℕ) → AreAmong xs ys → AreAmong xs (y ∷ ys)
among_more [] y ys h = tt
among_more (x ∷ xs) y ys h = inr h

among_behind : (xs zs ys : List ℕ) → AreAmong xs ys → AreAmong xs (zs ++ ys)
among_behind xs [] ys h = h
among_behind xs (z ∷ zs) ys h = among_more xs z (zs ++ ys) (among_behind xs zs ys h)

among_both : (xs ys xs' ys' : List ℕ) → AreAmong xs ys → AreAmong xs' ys' → AreAmong (xs ++ xs') (ys ++ ys')
among_both [] ys xs' ys' h g = among_behind xs' ys ys' g
among_both (x ∷ xs) [] xs' ys' h g = absurd h
among_both (x ∷ xs) (y ∷ ys) xs' ys' (inl h) g = inl (h.0, among_both xs ys xs' ys' h.1 g)
among_both (x ∷ xs) (y ∷ ys) xs' ys' (inr h) g = inr (among_both (x ∷ xs) ys xs' ys' h g)

among_less : (x : ℕ) (xs ys : List ℕ) → AreAmong (x ∷ xs) ys → AreAmong xs ys
among_less x xs [] h = absurd h
among_less x xs (y ∷ ys) (inl h) = among_more xs y ys h.1
among_less x xs (y ∷ ys) (inr h) = among_more xs y ys (among_less x xs ys h)

among_kept : (x : ℕ) (xs xs' : List ℕ) → ((ys : List ℕ) → AreAmong xs ys → AreAmong xs' ys) → (ys : List ℕ) → AreAmong (x ∷ xs) ys → AreAmong (x ∷ xs') ys
among_kept x xs xs' only [] h = absurd h
among_kept x xs xs' only (y ∷ ys) (inl h) = inl (h.0, only ys h.1)
among_kept x xs xs' only (y ∷ ys) (inr h) = inr (among_kept x xs xs' only ys h)

-- a request that entered the history or not, and those after it
among_if : (entered_it : Bool) (a : Asked) (asked others : List Asked) → ((ys : List ℕ) → AreAmong (map (λ b. b.second) asked) ys → AreAmong (map (λ b. b.second) others) ys)
    → (ys : List ℕ) → AreAmong (a.second ∷ map (λ b. b.second) asked) ys → AreAmong (map (λ b. b.second) (cond entered_it (a ∷ others) others)) ys
among_if true a asked others only ys h = among_kept a.second (map (λ b. b.second) asked) (map (λ b. b.second) others) only ys h
among_if false a asked others only ys h = only ys (among_less a.second (map (λ b. b.second) asked) ys h)

among_entered : (asked : List Asked) (ys : List ℕ) → AreAmong (map (λ a. a.second) asked) ys → AreAmong (map (λ a. a.second) (entered asked)) ys
among_entered [] ys h = tt
among_entered (a ∷ asked) ys h = among_if (not (is_exhausted a.reply)) a asked (entered asked) (among_entered asked) ys h

-- ---- one talk

at_second : (action : Action) (s : State) (frame : List ℕ) (second : ℕ) (request : Option Asked) (answer : List ℕ) (next : State) (e : Exchanged s frame second request answer next)
    → IsDone action s (message_in frame) second request e.answer next → AreAmong (map (λ a. a.second) (option_to_list request)) (second ∷ [])
at_second (says said after) s frame second request answer next e is = subst (λ (r : Option Asked). AreAmong (map (λ a. a.second) (option_to_list r)) (second ∷ [])) (sym is.0) tt
at_second (asks asked) s frame second request answer next e (entry, asked_is, request_is, second_is, outcome_is) =
    subst (λ (r : Option Asked). AreAmong (map (λ a. a.second) (option_to_list r)) (second ∷ [])) (sym asked_is) (inl (second_is, tt))

answered_at : (s : State) (frames : List (List ℕ)) (seconds : List ℕ) (asked : List Asked) (answers : List (List ℕ)) (last : State) → Answered s frames seconds asked answers last
    → AreAmong (map (λ a. a.second) asked) seconds
answered_at s [] seconds asked answers last h = subst (λ (w : List Asked). AreAmong (map (λ a. a.second) w) seconds) (sym h.1) tt
answered_at s (frame ∷ frames) seconds asked answers last h =
    let first : List ℕ = map (λ a. a.second) (option_to_list h.request) in
    let others : List ℕ = map (λ a. a.second) h.others in
    let both : AreAmong (first ++ others) (h.second ∷ h.other_seconds) =
    among_both first (h.second ∷ []) others h.other_seconds
    (at_second (action_on s (message_in frame)) s frame h.second h.request h.answer h.next h.exchanged h.exchanged.is_done)
    (answered_at h.next frames h.other_seconds h.others h.other_answers last h.rest)
    in
    let joined : AreAmong (map (λ a. a.second) (option_to_list h.request ++ h.others)) (h.second ∷ h.other_seconds) =
    subst (λ (l : List ℕ). AreAmong l (h.second ∷ h.other_seconds)) (sym (map-append (λ (a : Asked). a.second) (option_to_list h.request) h.others)) both
    in
    subst (λ (p : List Asked × List ℕ). AreAmong (map (λ a. a.second) p.0) p.1) (λ i. (sym h.asked_is i, sym h.seconds_are i)) joined

pub timed_on : (before after : LinkView) (clock clock' : Option (ℕ → ℕ)) (end : SessionEnd) (asked : List Asked) → TalkedOn before after clock clock' end asked → IsTimed clock clock' asked
timed_on before after clock clock' end asked talked = record {
  seconds = talked.seconds;
  clock_gave = talked.clock_gave;
  made_at = answered_at _ talked.talk.frames talked.seconds asked talked.answers talked.talk.last talked.talk.answered;
}

-- ---- talk after talk

pub timed_on_each : {C : Type 0} (view : C → LinkView) (clock clock' : Option (ℕ → ℕ)) (links : List (ServedLink C)) (asked : List Asked) → TalkedOnEach view clock clock' links asked → IsTimed clock clock' asked
timed_on_each view clock clock' [] asked talked = record {
  seconds = [];
  clock_gave = subst (λ (k : Option (ℕ → ℕ)). TakesNext clock k []) (sym talked.1) (gives_none clock);
  made_at = subst (λ (w : List Asked). AreAmong (map (λ a. a.second) w) []) (sym talked.0) tt;
}
timed_on_each view clock clock' (link ∷ links) asked talked =
    let first : IsTimed clock talked.next talked.first = timed_on (view link.came) (view link.given) clock talked.next link.end talked.first talked.talked in
    let others : IsTimed talked.next clock' talked.others = timed_on_each view talked.next clock' links talked.others talked.rest in
    let both : AreAmong (map (λ a. a.second) (talked.first ++ talked.others)) (first.seconds ++ others.seconds) =
    subst (λ (l : List ℕ). AreAmong l (first.seconds ++ others.seconds)) (sym (map-append (λ (a : Asked). a.second) talked.first talked.others))
    (among_both (map (λ a. a.second) talked.first) first.seconds (map (λ a. a.second) talked.others) others.seconds first.made_at others.made_at)
    in
    record {
      seconds = first.seconds ++ others.seconds;
      clock_gave = gives_more clock talked.next clock' first.seconds others.seconds first.clock_gave others.clock_gave;
      made_at = subst (λ (w : List Asked). AreAmong (map (λ a. a.second) w) (first.seconds ++ others.seconds)) (sym talked.asked_is) both;
    }

-- and so was what of it entered a history
pub timed_entered : (clock clock' : Option (ℕ → ℕ)) (asked : List Asked) → IsTimed clock clock' asked → IsTimed clock clock' (entered asked)
timed_entered clock clock' asked timed = record { seconds = timed.seconds; clock_gave = timed.clock_gave; made_at = among_entered asked timed.seconds timed.made_at }
