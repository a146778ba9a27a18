-- What a demonstration does: it serves a vault of its own, in memory, to clients that send their scripts, and sums up what they leave.
use Rattle.std.specs.Prelude.{◌≡◌, ℕ, List, [], length, map, Option, Some}
use Rattle.std.specs.List.{range_with_len}
use Rattle.outside_mem.specs.Held.{Holding}
use Rattle.outside_mem.specs.Links.{Ends, Links}
use Rattle.outside_mem.specs.Words.{Drawing}
use Rattle.tree_model.specs.History.{rows_after}
use Rattle.vault_store.specs.Open.{ClosedVault}
use Rattle.unlocking.specs.declared.from_folder.SecretKind.TheVariants.{RawKeys}
use Rattle.vault_words.specs.Jobs.{Demonstration}
use Rattle.demonstration.specs.Summary.{PlainRow, summary_line}
use Rattle.demonstration.specs.Objects.{IsEmptyVault, entropy_of, entropy_seen, folder_seen, key_line, link_seen, listener_of, listener_seen}
use Rattle.demonstration.specs.Left.{AreLeft}
use Rattle.shared_tree.specs.declared.workers.Worker.{Worker}
use Rattle.vault_top.specs.Span.{Course, SourceView, Views, Span, span_of}
use Rattle.vault_top.specs.Sessions.{IsServedWhole}

-- a clock that stands still gives its second at each call
abbrev pub clock_seen : ℕ → Option (ℕ → ℕ)
clock_seen second = Some (λ k. second)

-- how its objects are seen
abbrev pub own_views : Views Holding Links Ends Drawing ℕ
own_views = record { folder = folder_seen; listener = listener_seen; link = link_seen; entropy = entropy_seen; clock = clock_seen }

-- a client's worker, whose clock stands at 0, and those of so many clients
abbrev pub worker_of : ℕ → ℕ → ℕ → Worker Links Drawing ℕ
worker_of seed requests client = record { listener = listener_of seed client requests; entropy = entropy_of seed client; clock = 0 }

abbrev pub workers_of : ℕ → ℕ → ℕ → List (Worker Links Drawing ℕ)
workers_of seed clients requests = map (worker_of seed requests) (range_with_len 0 clients)

-- what it is given and leaves: the vault is unlocked at 0, and each client has a worker
abbrev pub own_span : Demonstration → Course SourceView → Holding → Holding → List (Worker Links Drawing ℕ) → ClosedVault → Span Ends
own_span d secret folder kept workers' closed = span_of own_views [] secret (Some 0) folder kept (workers_of d.seed d.clients d.requests) workers' (Some closed)

-- It was held: an empty vault, whose keys are the first bytes of stream 0, was served to the clients, each of whom was one session that sent its script, and
-- this is its store, closed. The line sums up the rows after the last entry of the one history of all sessions, with the number of its entries.
pub record HasHeld (d : Demonstration) (text : List ℕ) (closed : ClosedVault) : Type 0 where
  pub secret : Course SourceView
  pub secret_is : secret.before ≡ record { left = Some (key_line d.seed); faults = 0 }
  pub folder : Holding
  pub kept : Holding
  pub workers_left : List (Worker Links Drawing ℕ)
  pub sessions : IsServedWhole own_views (own_span d secret folder kept workers_left closed) RawKeys d.clients d.clients closed.store.entries
  pub empty : IsEmptyVault sessions.served.vault.keys folder
  pub rows : List PlainRow
  pub left : AreLeft (rows_after sessions.served.history.rows sessions.served.history.entries) rows
  pub text_is : text ≡ summary_line d.clients d.requests (length sessions.served.history.entries) rows
