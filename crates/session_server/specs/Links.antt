-- What serving the next link of a listener does.
use Rattle.std.specs.Prelude.{◌≡◌, ℕ, ◌≤◌, List, [], ◌∷◌, Option, Some, None, Result, Ok, Err}
use Rattle.outside.specs.declared.stream.Failed.{Failed}
use Rattle.outside.specs.Calls.{Rose, Changes, Extends, TakesFront}
use Rattle.outside.specs.Views.{ListenerView, LinkView}
use Rattle.tree_model.specs.Asked.{Asked}
use Rattle.session_server.specs.declared.ending.SessionEnd.{SessionEnd}
use Rattle.session_server.specs.Served.{ServedLink, HasTalked}

-- a listener gave a link and got it back after a session over an object
pub record HasServedLink {B C : Type 0} (stands : B → B → List Asked → Type 0) (object object' : B) (link : C → LinkView) (clock clock' : Option (ℕ → ℕ)) (before after : ListenerView C) (end : SessionEnd) : Type 0 where
  pub served : ServedLink C
  pub end_is : served.end ≡ end
  pub talked : HasTalked stands object object' (link served.came) (link served.given) clock clock' served.end
  pub came : TakesFront before.to_come after.to_come (served.came ∷ [])
  pub given : Extends before.given_back after.given_back (served.given ∷ [])
  pub faults : before.faults ≤ after.faults

-- a listener gave none, nothing was asked, and the clock wasn't read
pub record HasNoLink {B C : Type 0} (object object' : B) (clock clock' : Option (ℕ → ℕ)) (before after : ListenerView C) (came : Type 0) : Type 0 where
  pub unasked : object' ≡ object
  pub unread : clock' ≡ clock
  pub none : came
  pub given : after.given_back ≡ before.given_back
  pub faults : before.faults ≤ after.faults

-- a session was held on the next link; or there were no more; or the listener failed
abbrev pub HasServedNext : {B C : Type 0} → (B → B → List Asked → Type 0) → B → B → (C → LinkView) → Option (ℕ → ℕ) → Option (ℕ → ℕ) → ListenerView C → ListenerView C
    → Result (Option SessionEnd) Failed → Type 0
HasServedNext stands object object' link clock clock' before after (Ok (Some end)) = HasServedLink stands object object' link clock clock' before after end
HasServedNext stands object object' link clock clock' before after (Ok None) =
    HasNoLink object object' clock clock' before after (Changes before.to_come after.to_come (λ old new. (old ≡ []) × (new ≡ [])))
HasServedNext stands object object' link clock clock' before after (Err failed) =
    HasNoLink object object' clock clock' before after ((after.to_come ≡ before.to_come) × Rose before.faults after.faults)
