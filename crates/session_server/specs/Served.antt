-- What was done on a link, and on the links of a listener.
use Rattle.std.specs.Prelude.{◌≡◌, ◌⊎◌, ℕ, ◌≤◌, List, [], ◌∷◌, ◌++◌, length, map, Option}
use Rattle.outside.specs.Calls as calls
use Rattle.outside.specs.Calls.{HasCause, Changes, TakesNext}
use Rattle.outside.specs.Views.{LinkView, ListenerView}
use Rattle.tree_model.specs.Asked.{Asked, Extends}
use Rattle.session_server.specs.declared.ending.SessionEnd.{SessionEnd}
use Rattle.session_server.specs.declared.ending.SessionEnd.TheVariants as ends
use Rattle.session_server.specs.Talk.{Talk, IsTaken, IsReadUp}

-- There is a talk that was held on a link, which ended so and in which this was asked: the bytes that were read are its input, and those
-- that the link took are its answers. The seconds of its messages are those that the clock gave next, one for each message that was read whole.
pub record TalkedOn (before after : LinkView) (clock clock' : Option (ℕ → ℕ)) (end : SessionEnd) (asked : List Asked) : Type 0 where
  pub input : List ℕ
  pub seconds : List ℕ
  pub answers : List (List ℕ)
  pub sent : List ℕ
  pub talk : Talk input seconds asked answers end
  pub read : Changes before.left after.left (λ old new. (old ≡ input ++ new) × IsReadUp end new)
  pub written : calls.Extends before.taken after.taken sent
  pub sent_is : IsTaken end answers sent
  pub clock_gave : TakesNext clock clock' seconds
  pub read_fault : HasCause before.read_faults after.read_faults (end ≡ ends.ReadFault)
  pub write_fault : HasCause before.write_faults after.write_faults (end ≡ ends.WriteFault)

-- a session was held on a link: what was asked in it is what the object stands for from now on
pub record HasTalked {B : Type 0} (stands : B → B → List Asked → Type 0) (object object' : B) (before after : LinkView) (clock clock' : Option (ℕ → ℕ)) (end : SessionEnd) : Type 0 where
  pub asked : List Asked
  pub talked : TalkedOn before after clock clock' end asked
  pub extends : Extends stands object object' asked

-- ---- the links of a listener

-- a link that was served: as it came, as it was given back, and how its session ended
pub record ServedLink (C : Type 0) : Type 0 where
  pub came : C
  pub given : C
  pub end : SessionEnd

-- the talk on the first link, and Rest of the clock after it and of what was asked on the others
pub record FirstTalked {C : Type 0} (view : C → LinkView) (clock : Option (ℕ → ℕ)) (link : ServedLink C) (asked : List Asked) (Rest : Option (ℕ → ℕ) → List Asked → Type 0) : Type 0 where
  pub next : Option (ℕ → ℕ)
  pub first : List Asked
  pub others : List Asked
  pub talked : TalkedOn (view link.came) (view link.given) clock next link.end first
  pub rest : Rest next others
  pub asked_is : asked ≡ first ++ others

-- the talks on links, one after the other, in which this was asked, by one clock
abbrev pub TalkedOnEach : {C : Type 0} → (C → LinkView) → Option (ℕ → ℕ) → Option (ℕ → ℕ) → List (ServedLink C) → List Asked → Type 0
TalkedOnEach view clock clock' [] asked = (asked ≡ []) × (clock' ≡ clock)
TalkedOnEach view clock clock' (link ∷ links) asked = FirstTalked view clock link asked (λ next others. TalkedOnEach view next clock' links others)

-- A listener gave the first of its links and got them back: as many as its share of the sessions, or all if there were fewer, or, if it
-- failed, up to then.
pub record GaveBack {C : Type 0} (share : ℕ) (failed : Type 0) (before after : ListenerView C) (links : List (ServedLink C)) : Type 0 where
  pub few : length links ≤ share
  pub came : Changes before.to_come after.to_come (λ old new.
      (old ≡ map (λ link. link.came) links ++ new) × ((length links ≡ share) ⊎ (new ≡ []) ⊎ failed))
  pub given : calls.Extends before.given_back after.given_back (map (λ link. link.given) links)
