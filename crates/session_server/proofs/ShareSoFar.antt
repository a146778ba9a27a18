-- The part of a share that was served so far.
use Rattle.std.proofs.Common.{◌≡◌, ◌⊎◌, ℕ, ◌≤◌, true, false, true≢false, List, [], ◌∷◌, ◌++◌, length, map, Option, Some, Result, Ok, refl, sym, ap, subst, ◌∙◌, inl, inr, arith, append_assoc, append-nil}
use Rattle.std.proofs.lemmas.List.{map-append}
use Rattle.outside.specs.declared.stream.Failed.{Failed}
use Rattle.outside.specs.Calls.{Rose, HasCause, Changes}
use Rattle.outside.specs.Views.{ListenerView, LinkView}
use Rattle.outside.proofs.Told.{unchanged, changed_by, through}
use Rattle.tree_model.specs.Asked.{Asked, Extends}
use Rattle.session_server.specs.declared.ending.SessionEnd.{SessionEnd}
use Rattle.session_server.specs.Served.{ServedLink, TalkedOnEach}
use Rattle.session_server.proofs.Links.{rose_later}
use Rattle.session_server.proofs.TalkSoFar.{extends_none, extends_more}
use Rattle.session_server.specs.declared.counts.SessionCounts.{SessionCounts}
use Rattle.session_server.specs.declared.crew.Crew.{Crew}
use Rattle.session_server.specs.Ends.{AreCounts}
use Rattle.session_server.specs.Shares.{Share, ends_of}
use Rattle.session_server.specs.Links.{HasServedLink, HasNoLink, HasServedNext}
use Rattle.session_server.specs.Workers.{HasServedShare}
use Rattle.session_server.proofs.Sharing.{ends_of-length}

-- contents that stayed after a change
pub changes_to : {X : Type 0} (P : X → X → Type 0) (a b c : Option X) → c ≡ b → Changes a b P → Changes a c P
changes_to P a b c e h = subst (λ o. Changes a o P) (sym e) h

-- and before one
pub changes_from : {X : Type 0} (P : X → X → Type 0) (a b c : Option X) → b ≡ a → Changes b c P → Changes a c P
changes_from P a b c e h = subst (λ o. Changes o c P) e h

-- an object that didn't change
pub extends_same : {B : Type 0} (stands : B → B → List Asked → Type 0) (a b c : B) (xs : List Asked) → c ≡ b → Extends stands a b xs → Extends stands a c xs
extends_same stands a b c xs e h = subst (λ o. Extends stands a o xs) (sym e) h

-- talks on links, and one more
talked_more : {C : Type 0} (link : C → LinkView) (clock clock' clock'' : Option (ℕ → ℕ)) (links : List (ServedLink C)) (served : ServedLink C) (asked more : List Asked)
    → TalkedOnEach link clock clock' links asked → TalkedOnEach link clock' clock'' (served ∷ []) more → TalkedOnEach link clock clock'' (links ++ served ∷ []) (asked ++ more)
talked_more link clock clock' clock'' [] served asked more h t =
    subst (λ (p : Option (ℕ → ℕ) × List Asked). TalkedOnEach link p.0 clock'' (served ∷ []) (p.1 ++ more)) (λ i. (h.1 i, sym h.0 i)) t
talked_more link clock clock' clock'' (x ∷ links) served asked more h t = record {
  next = h.next;
  first = h.first;
  others = h.others ++ more;
  talked = h.talked;
  rest = talked_more link h.next clock' clock'' links served h.others more h.rest t;
  asked_is = ap (λ (w : List Asked). w ++ more) h.asked_is ∙ append_assoc h.first h.others more;
}

-- the link that was served, if one was
pub link_of : {B C : Type 0} (stands : B → B → List Asked → Type 0) (object object' : B) (link : C → LinkView) (clock clock' : Option (ℕ → ℕ)) (before after : ListenerView C) (result : Result (Option SessionEnd) Failed) (found : Option SessionEnd) (end : SessionEnd)
    → HasServedNext stands object object' link clock clock' before after result → result ≡ Ok found → found ≡ Some end → HasServedLink stands object object' link clock clock' before after end
link_of stands object object' link clock clock' before after result found end h is ended =
    let whole : HasServedNext stands object object' link clock clock' before after (Ok found) = subst (λ (r : Result (Option SessionEnd) Failed). HasServedNext stands object object' link clock clock' before after r) is h in
    subst (λ (o : Option SessionEnd). HasServedNext stands object object' link clock clock' before after (Ok o)) ended whole

-- so many links were served
pub record SoFar {B C : Type 0} (stands : B → B → List Asked → Type 0) (object object' : B) (link : C → LinkView) (clock clock' : Option (ℕ → ℕ)) (before now : ListenerView C) (counts : SessionCounts) : Type 0 where
  pub share : Share C
  pub came : Changes before.to_come now.to_come (λ old new. old ≡ map (λ link. link.came) share.links ++ new)
  pub given : Changes before.given_back now.given_back (λ old new. new ≡ old ++ map (λ link. link.given) share.links)
  pub talked : TalkedOnEach link clock clock' share.links share.asked
  pub extends : Extends stands object object' share.asked
  pub counted : AreCounts counts (ends_of share)
  pub faults : before.faults ≤ now.faults

module _ {B C : Type 0} (stands : B → B → List Asked → Type 0) (link : C → LinkView) where
  pub begun : (object : B) (clock : Option (ℕ → ℕ)) (before : ListenerView C) (counts : SessionCounts) → AreCounts counts [] → SoFar stands object object link clock clock before before counts
  begun object clock before counts none = record {
    share = record { links = []; asked = [] };
    came = unchanged before.to_come before.to_come _ refl (λ x. refl);
    given = unchanged before.given_back before.given_back _ refl (λ x. sym (append-nil x));
    talked = (refl, refl);
    extends = extends_none stands object;
    counted = none;
    faults = omega arith;
  }

  pub one_more : (object object' object'' : B) (clock clock' clock'' : Option (ℕ → ℕ)) (before now after : ListenerView C) (counts counts' : SessionCounts) (end : SessionEnd) → SoFar stands object object' link clock clock' before now counts
      → HasServedLink stands object' object'' link clock' clock'' now after end → ((ends : List SessionEnd) → AreCounts counts ends → AreCounts counts' (ends ++ end ∷ []))
      → SoFar stands object object'' link clock clock'' before after counts'
  one_more object object' object'' clock clock' clock'' before now after counts counts' end so one counted =
      let came : List (ServedLink C) → List C = map (λ (l : ServedLink C). l.came) in
      let given : List (ServedLink C) → List C = map (λ (l : ServedLink C). l.given) in
      let last : List (ServedLink C) = one.served ∷ [] in
      let ends : ends_of (record { links = so.share.links ++ last; asked = so.share.asked ++ one.talked.asked }) ≡ ends_of so.share ++ end ∷ [] =
      map-append (λ (l : ServedLink C). l.end) so.share.links last ∙ ap (λ (e : SessionEnd). ends_of so.share ++ e ∷ []) one.end_is
      in record {
        share = record { links = so.share.links ++ last; asked = so.share.asked ++ one.talked.asked };
        came = through before.to_come now.to_come after.to_come _ _ _
            (λ (x y z : List C) p q. p ∙ (ap (λ (w : List C). came so.share.links ++ w) q
            ∙ (sym (append_assoc (came so.share.links) (one.served.came ∷ []) z) ∙ ap (λ (w : List C). w ++ z) (sym (map-append (λ (l : ServedLink C). l.came) so.share.links last))))) so.came one.came;
        given = through before.given_back now.given_back after.given_back _ _ _
            (λ (x y z : List C) p q. q ∙ (ap (λ (w : List C). w ++ one.served.given ∷ []) p
            ∙ (append_assoc x (given so.share.links) (one.served.given ∷ []) ∙ ap (λ (w : List C). x ++ w) (sym (map-append (λ (l : ServedLink C). l.given) so.share.links last))))) so.given one.given;
        talked = talked_more link clock clock' clock'' so.share.links one.served so.share.asked one.talked.asked so.talked
            (record { next = clock''; first = one.talked.asked; others = []; talked = one.talked.talked; rest = (refl, refl); asked_is = sym (append-nil one.talked.asked) });
        extends = extends_more stands object object' object'' so.share.asked one.talked.asked so.extends one.talked.extends;
        counted = subst (AreCounts counts') (sym ends) (counted (ends_of so.share) so.counted);
        faults = (let a = so.faults in let b = one.faults in omega arith);
      }

module _ {N B K C : Type 0} (stands : B → B → List Asked → Type 0) (link : C → LinkView) (clock : K → Option (ℕ → ℕ)) (listener : N → ListenerView C) (sessions : ℕ) where
  -- the end of a share
  ended : (old new : Crew N B K) (object' : B) (clock' : Option (ℕ → ℕ)) (during : ListenerView C) → SoFar stands old.object object' link (clock old.clock) clock' (listener old.listener) during new.counts → new.counts.sessions ≤ sessions
      → new.object ≡ object' → clock new.clock ≡ clock' → Changes during.to_come (listener new.listener).to_come (λ o n. (o ≡ n) × ((new.counts.sessions ≡ sessions) ⊎ (n ≡ []) ⊎ (new.failed ≡ true)))
      → (listener new.listener).given_back ≡ during.given_back → HasCause during.faults (listener new.listener).faults (new.failed ≡ true) → HasServedShare stands listener link clock sessions old new
  ended old new object' clock' during so few unasked unread last given cause =
      let count : new.counts.sessions ≡ length so.share.links = so.counted.sessions ∙ ends_of-length so.share.links in record {
        share = so.share;
        served = record {
          gave = record {
            few = omega arith;
            came = through (listener old.listener).to_come during.to_come (listener new.listener).to_come _ _ _
                (λ (x y z : List C) p q. (p ∙ ap (λ (w : List C). map (λ (l : ServedLink C). l.came) so.share.links ++ w) q.0, subst (λ (n : ℕ). (n ≡ sessions) ⊎ (z ≡ []) ⊎ (new.failed ≡ true)) count q.1)) so.came last;
            given = changes_to _ _ _ _ given so.given;
          };
          talked = subst (λ (k : Option (ℕ → ℕ)). TalkedOnEach link (clock old.clock) k so.share.links so.share.asked) (sym unread) so.talked;
          extends = extends_same stands old.object object' new.object so.share.asked unasked so.extends;
          counted = so.counted;
          cause = record { later = (let a = so.faults in let b = cause.later in omega arith); rose = λ failed. rose_later _ _ _ so.faults (cause.rose failed) };
        };
      }

  -- all sessions of it were served
  pub ended_full : (old new : Crew N B K) → SoFar stands old.object new.object link (clock old.clock) (clock new.clock) (listener old.listener) (listener new.listener) new.counts → new.counts.sessions ≡ sessions → new.failed ≡ false
      → HasServedShare stands listener link clock sessions old new
  ended_full old new so full fine =
      ended old new new.object (clock new.clock) (listener new.listener) so (omega arith) refl refl (unchanged (listener new.listener).to_come (listener new.listener).to_come _ refl (λ x. (refl, inl full))) refl
      (record { later = omega arith; rose = λ failed. absurd (true≢false (sym failed ∙ fine)) })

  -- no more links came
  pub ended_none : (old new : Crew N B K) (object' : B) (clock' : Option (ℕ → ℕ)) (during : ListenerView C) → SoFar stands old.object object' link (clock old.clock) clock' (listener old.listener) during new.counts → new.counts.sessions ≤ sessions → new.failed ≡ false
      → HasNoLink object' new.object clock' (clock new.clock) during (listener new.listener) (Changes during.to_come (listener new.listener).to_come (λ o n. (o ≡ []) × (n ≡ [])))
      → HasServedShare stands listener link clock sessions old new
  ended_none old new object' clock' during so few fine none =
      ended old new object' clock' during so few none.unasked none.unread (changed_by during.to_come (listener new.listener).to_come _ _ (λ o n h. (h.0 ∙ sym h.1, inr (inl h.1))) none.none) none.given
      (record { later = none.faults; rose = λ failed. absurd (true≢false (sym failed ∙ fine)) })

  -- the listener failed
  pub ended_failed : (old new : Crew N B K) (object' : B) (clock' : Option (ℕ → ℕ)) (during : ListenerView C) → SoFar stands old.object object' link (clock old.clock) clock' (listener old.listener) during new.counts → new.counts.sessions ≤ sessions → new.failed ≡ true
      → HasNoLink object' new.object clock' (clock new.clock) during (listener new.listener) (((listener new.listener).to_come ≡ during.to_come) × Rose during.faults (listener new.listener).faults)
      → HasServedShare stands listener link clock sessions old new
  ended_failed old new object' clock' during so few failed none =
      ended old new object' clock' during so few none.unasked none.unread (unchanged during.to_come (listener new.listener).to_come _ none.none.0 (λ x. (refl, inr (inr failed)))) none.given
      (record { later = none.faults; rose = λ f. none.none.1 })
