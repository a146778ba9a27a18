-- What a run of the program is given and what it leaves.
use Rattle.std.specs.Prelude.{ℕ, List, Option}
use Rattle.outside.specs.declared.folder.Reads as reads
use Rattle.outside.specs.declared.entropy.Entropy as entropies
use Rattle.outside.specs.declared.link.Listener as listeners
use Rattle.outside.specs.declared.link.Link as links
use Rattle.outside.specs.declared.clock.Clock as clocks
use Rattle.outside.specs.declared.stream.Source as sources
use Rattle.outside.specs.declared.stream.Sink as sinks
use Rattle.outside.specs.Views.{FolderView, folder_in, EntropyView, entropy_in, ListenerView, listener_in, LinkView, link_in}
pub use Rattle.session_server.specs.Shares.{Course, course, WorkerSpan}
use Rattle.shared_tree.specs.Workers as workers
use Rattle.shared_tree.specs.declared.workers.Worker.{Worker}
use Rattle.vault_store.specs.Open.{ClosedVault}
pub use Rattle.vault_store.specs.ReadOnly.{IsOnlyRead}

-- the bytes that are left of a source, and its faults
pub record SourceView : Type 0 where
  pub left : Option (List ℕ)
  pub faults : ℕ

abbrev pub source_in : {S : Type 0} → sources.Ghosts S → S → SourceView
source_in by source = record { left = by.left source; faults = by.faults source }

-- the bytes that a sink has taken, and its faults
pub record SinkView : Type 0 where
  pub taken : Option (List ℕ)
  pub faults : ℕ

abbrev pub sink_in : {O : Type 0} → sinks.Ghosts O → O → SinkView
sink_in by sink = record { taken = by.taken sink; faults = by.faults sink }

-- how a run's objects are seen: its folder, its listeners and their links, its random sources and its clocks
pub record Views (D N C E K : Type 0) : Type 0 where
  pub folder : D → FolderView
  pub listener : N → ListenerView C
  pub link : C → LinkView
  pub entropy : E → EntropyView
  pub clock : K → Option (ℕ → ℕ)

-- by the ghost records of the objects' traits
abbrev pub views_of : {D N C E K : Type 0} → reads.Ghosts D → listeners.Ghosts N C → links.Ghosts C → entropies.Ghosts E → clocks.Ghosts K → Views D N C E K
views_of of_folder of_listener of_link of_entropy of_clock = record {
  folder = folder_in of_folder;
  listener = listener_in of_listener;
  link = link_in of_link;
  entropy = entropy_in of_entropy;
  clock = of_clock.to_give;
}

-- what a vault is unlocked by: the secret, the folder, and the second that the clock gives next, if it tells
pub record Given : Type 0 where
  pub secret : Course SourceView
  pub folder : Course FolderView
  pub second : Option ℕ

-- the words after the program's name, what a vault is unlocked by, the workers, and the closed store that is handed back, if a vault was served that
-- could be changed, that of a demonstration among them
pub record Span (C : Type 0) : Type 0 where
  pub words : List (List ℕ)
  pub given : Given
  pub workers : List (WorkerSpan C)
  pub closed : Option ClosedVault

abbrev pub worker_span : {D N C E K : Type 0} → Views D N C E K → Worker N E K → Worker N E K → WorkerSpan C
worker_span views before after = workers.worker_span views.listener views.entropy views.clock before after

-- the workers before and after, one by one
abbrev pub worker_spans : {D N C E K : Type 0} → Views D N C E K → List (Worker N E K) → List (Worker N E K) → List (WorkerSpan C)
worker_spans views before after = workers.worker_spans views.listener views.entropy views.clock before after

-- what a vault is unlocked by, if the folder is this before and that after
abbrev pub given_of : {D : Type 0} → (D → FolderView) → Course SourceView → Option ℕ → D → D → Given
given_of view secret second folder kept = record { secret = secret; folder = course view folder kept; second = second }

-- what a run is given and leaves, as these views see it
abbrev pub span_of : {D N C E K : Type 0} → Views D N C E K → List (List ℕ) → Course SourceView → Option ℕ → D → D → List (Worker N E K) → List (Worker N E K) → Option ClosedVault → Span C
span_of views words secret second folder kept workers workers' closed = record {
  words = words;
  given = given_of views.folder secret second folder kept;
  workers = worker_spans views workers workers';
  closed = closed;
}
