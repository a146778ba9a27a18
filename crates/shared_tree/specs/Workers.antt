-- Workers, the clients that they get, and their seats.
use Rattle.std.specs.Prelude.{◌≡◌, ℕ, List, [], ◌∷◌, Option, false, ⊤}
use Rattle.outside.specs.Views.{ListenerView, EntropyView}
use Rattle.tree_model.specs.Rows.{Rows}
use Rattle.tree_model.specs.History.{Made, Origin}
use Rattle.turn_lock.specs.SeatView.{SeatView}
use Rattle.session_server.specs.declared.crew.Crew.{Crew}
use Rattle.session_server.specs.Shares.{course, WorkerSpan}
use Rattle.shared_tree.specs.Clients.{ClientView, client_of, GoesOn}
use Rattle.shared_tree.specs.declared.workers.Worker.{Worker}

-- a crew has the listener and the clock of a worker, and a client with this seat and the worker's random source
pub record IsCrewOf {N E K : Type 0} (seat : SeatView Made) (worker : Worker N E K) (crew : Crew N (ClientView E) K) : Type 0 where
  pub listener : crew.listener ≡ worker.listener
  pub object : crew.object ≡ client_of seat worker.entropy
  pub clock : crew.clock ≡ worker.clock

-- each of them, in order
abbrev pub AreCrewsOf : {N E K : Type 0} → List (SeatView Made) → List (Worker N E K) → List (Crew N (ClientView E) K) → Type 0
AreCrewsOf [] [] [] = ⊤
AreCrewsOf (seat ∷ seats) (worker ∷ workers) (crew ∷ crews) = IsCrewOf seat worker crew × AreCrewsOf seats workers crews
AreCrewsOf seats workers crews = ⊥

-- a seat in no turn, and a random source that can go on after what the seat has seen
pub record IsReady {N E K : Type 0} (start : Rows → Origin → Type 0) (faults_of : E → ℕ) (seat : SeatView Made) (worker : Worker N E K) : Type 0 where
  pub rests : seat.in_turn ≡ false
  pub goes : GoesOn start seat (faults_of worker.entropy)

abbrev pub AreReady : {N E K : Type 0} → (Rows → Origin → Type 0) → (E → ℕ) → List (SeatView Made) → List (Worker N E K) → Type 0
AreReady start faults_of [] [] = ⊤
AreReady start faults_of (seat ∷ seats) (worker ∷ workers) = IsReady start faults_of seat worker × AreReady start faults_of seats workers
AreReady start faults_of seats workers = ⊥

-- a worker's listener, random source and clock, before and after
abbrev pub worker_span : {N E K C : Type 0} → (N → ListenerView C) → (E → EntropyView) → (K → Option (ℕ → ℕ)) → Worker N E K → Worker N E K → WorkerSpan C
worker_span listener entropy clock before after = record {
  listener = course listener before.listener after.listener;
  entropy = course entropy before.entropy after.entropy;
  clock = course clock before.clock after.clock;
}

-- the workers before and after, one by one
abbrev pub worker_spans : {N E K C : Type 0} → (N → ListenerView C) → (E → EntropyView) → (K → Option (ℕ → ℕ)) → List (Worker N E K) → List (Worker N E K) → List (WorkerSpan C)
worker_spans listener entropy clock [] after = []
worker_spans listener entropy clock (w ∷ before) [] = []
worker_spans listener entropy clock (w ∷ before) (v ∷ after) = worker_span listener entropy clock w v ∷ worker_spans listener entropy clock before after
