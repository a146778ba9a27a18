-- Runs of the program on a folder of which something is known, and with a known count of workers.
use Rattle.std.proofs.Common.{◌≡◌, ℕ, List, sym, subst}
use Rattle.vault_top.specs.Span.{SinkView, Views}
use Rattle.vaultd.specs.Starting.{IsOverStreams, IsRunOf}
use Rattle.vaultd.specs.declared.starting.Started.{Started}

-- a run on this folder, of which P is known
pub run_on : {D N C E K O : Type 0} {views : Views D N C E K} {IsNew : N → Type 0} {sink_of : O → SinkView} {words : List (List ℕ)} {count status : ℕ}
    (P : D → Type 0) (folder : D) → P folder → IsRunOf views (λ opened. opened ≡ folder) IsNew sink_of words count status
    → IsRunOf views P IsNew sink_of words count status
run_on P folder holds is = record {
  folder = is.folder;
  opened = subst P (sym is.opened) holds;
  secret = is.secret;
  second = is.second;
  workers = is.workers;
  many = is.many;
  new = is.new;
  workers_after = is.workers_after;
  before = is.before;
  after = is.after;
  ended = is.ended;
  run = is.run;
  status_is = is.status_is;
}

pub streams_on : {D N C E K O : Type 0} {views : Views D N C E K} {IsNew : N → Type 0} {sink_of : O → SinkView} {words : List (List ℕ)} {started : Started}
    (P : D → Type 0) (folder : D) → P folder → IsOverStreams views (λ opened. opened ≡ folder) IsNew sink_of words started
    → IsOverStreams views P IsNew sink_of words started
streams_on P folder holds is = record { run = run_on P folder holds is.run; removed = is.removed }
