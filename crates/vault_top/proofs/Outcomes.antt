-- The endings that serving comes to.
use Rattle.std.proofs.Common.{◌≡◌, ℕ, ◌≤◌, List, [], ◌∷◌, ◌++◌, length, codes, get_or, drop, refl, sym, ap, subst, ◌∙◌, inl, inr, Result, Ok, IfOk, arith}
use Rattle.outside.specs.Calls.{Rose, Changes}
use Rattle.session_server.specs.declared.ending.SessionEnd.{SessionEnd}
use Rattle.vault_top.specs.Report.{line, sessions_line, TakesPart}
use Rattle.vault_top.specs.Span.{SinkView, Views}
use Rattle.vault_top.specs.Ending.{Ending, Reading, whole, a_listener_failed, not_reported, not_shared, only_read, no_memory_to_serve, served, listener_fault, closing_fault, serving, report_of, status_of, cut_status_of, IsReported}
use Rattle.vault_top.specs.Serving.{HasOutcome, HasServed, AreCounted, MayEnd, HasLastLine, unreported}
use Rattle.vault_top.specs.Viewing.{HasReadOutcome, HasViewed, MayRead}
use Rattle.session_server.specs.declared.counts.SessionCounts.{SessionCounts}
use Rattle.session_server.specs.Ends.{AreCounts}
use Rattle.session_server.specs.Shares.{all_ends}
use Rattle.shared_tree.specs.declared.workers.Worker.{Worker}
use Rattle.tree_model.specs.Rows.{Rows}
use Rattle.tree_model.specs.History.{Origin}
use Rattle.outside.specs.Views.{FolderView}
use Rattle.vault_keys.specs.Keys.{KeyPair}
use Rattle.outside.specs.declared.stream.Failed.{Failed}
use Rattle.vault_top.specs.declared.task.Service.{Service}
use Rattle.vault_top.specs.declared.serving.HandedBack.{HandedBack}
use Rattle.vault_top.specs.declared.viewing.ReadBack.{ReadBack}
use Rattle.vault_top.specs.declared.serving.Outcome.{Outcome}
use Rattle.vault_top.specs.declared.serving.Outcome.TheVariants.{Served, ListenerFault, FolderFault, NoMemory}
use Rattle.vault_top.proofs.Written.{written_then, written_not, written_as}

pub counts_of : (ends : List SessionEnd) (outcome : Outcome) (counts : SessionCounts) → outcome ≡ Served counts → AreCounted ends outcome → AreCounts counts ends
counts_of ends outcome counts e h = subst (λ o. AreCounted ends o) e h

pub may_end : (ends : List SessionEnd) (outcome other : Outcome) (ending : Ending) → outcome ≡ other → MayEnd ends other ending → MayEnd ends outcome ending
may_end ends outcome other ending e h = subst (λ o. MayEnd ends o ending) (sym e) h

counted_as : (counts : Result SessionCounts Failed) (closing : Result (Unit {0}) Failed) (all ends : List SessionEnd) (outcome : Outcome) → HasOutcome counts closing outcome → IfOk counts (λ c. AreCounts c all) → all ≡ ends → AreCounted ends outcome
counted_as counts closing all ends (Served c) h counted same =
    let counted' : AreCounts c all = subst (λ (r : Result SessionCounts Failed). IfOk r (λ c. AreCounts c all)) h.0 counted in
    subst (λ (l : List SessionEnd). AreCounts c l) same counted'
counted_as counts closing all ends ListenerFault h counted same = tt
counted_as counts closing all ends FolderFault h counted same = tt
counted_as counts closing all ends NoMemory h counted same = tt

pub counted_in : {D N C E K : Type 0} (start : Rows → Origin → Type 0) (since : FolderView → KeyPair → Rows → Type 0) (views : Views D N C E K) (service : Service) (workers workers' : List (Worker N E K)) (ends : List SessionEnd) (back : HandedBack D)
    → HasServed start since views service workers workers' ends back → AreCounted ends back.outcome
counted_in start since views service workers workers' ends back (inl h) = counted_as h.counts _ (all_ends h.joined.shares) ends back.outcome h.outcome h.joined.counted h.ended
counted_in start since views service workers workers' ends back (inr h) = subst (λ (o : Outcome). AreCounted ends o) (sym h.outcome) tt

-- an ending that an outcome comes to whose last line isn't written, as the sink failed before
record IsUnwritten (ends : List SessionEnd) (outcome : Outcome) : Type 0 where
  ending : Ending
  may : MayEnd ends outcome ending
  status_is : cut_status_of ending ≡ unreported outcome
  text : List ℕ
  report_is : report_of ending ≡ serving ++ text

unwritten : (ends : List SessionEnd) (outcome : Outcome) → IsUnwritten ends outcome
unwritten ends (Served counts) = record { ending = served ends; may = inl refl; status_is = refl; text = sessions_line ends; report_is = refl }
unwritten ends ListenerFault = record { ending = listener_fault ends; may = refl; status_is = refl; text = line (codes "listener fault"); report_is = refl }
unwritten ends FolderFault = record { ending = closing_fault ends; may = refl; status_is = refl; text = line (codes "device fault: folder"); report_is = refl }
unwritten ends NoMemory = record { ending = no_memory_to_serve; may = refl; status_is = refl; text = line (codes "out of memory"); report_is = refl }

-- how serving was reported: by an ending that its outcome comes to
pub record Reports (ends : List SessionEnd) (outcome : Outcome) (before after : SinkView) (status : ℕ) : Type 0 where
  pub ending : Ending
  pub may : MayEnd ends outcome ending
  pub reported : IsReported (record { before = before; after = after }) ending status

-- the last line was written after the first
pub reports_both : (ends : List SessionEnd) (outcome : Outcome) (before middle after : SinkView) (status : ℕ) → before.faults ≤ middle.faults
    → Changes before.taken middle.taken (λ old new. new ≡ old ++ serving)
    → ((x : List SessionEnd) → AreCounted x outcome → HasLastLine x outcome (record { before = middle; after = after }) status)
    → AreCounted ends outcome → Reports ends outcome before after status
reports_both ends outcome before middle after status le first last counted =
    let l = last ends counted in record {
      ending = l.ending;
      may = l.may;
      reported = written_as _ before.taken after.taken (serving ++ l.text) (report_of l.ending) (status_of l.ending) (cut_status_of l.ending) status (sym l.report_is)
          (written_then before.faults middle.faults after.faults before.taken middle.taken after.taken serving l.text (status_of l.ending) (cut_status_of l.ending) status le first l.written);
    }

-- the first line wasn't taken whole
pub reports_first : (ends : List SessionEnd) (outcome : Outcome) (before after : SinkView) (status : ℕ) → Rose before.faults after.faults → status ≡ unreported outcome
    → Changes before.taken after.taken (TakesPart serving) → Reports ends outcome before after status
reports_first ends outcome before after status failed same h =
    let l = unwritten ends outcome in record {
      ending = l.ending;
      may = l.may;
      reported = written_as _ before.taken after.taken (serving ++ l.text) (report_of l.ending) (status_of l.ending) (cut_status_of l.ending) status (sym l.report_is)
          (written_not before.faults after.faults before.taken after.taken serving l.text (status_of l.ending) (cut_status_of l.ending) status failed (same ∙ sym l.status_is) h);
    }

-- a list and its first item
pub first_item : {X : Type 0} (xs others : List X) (x : X) → 1 ≤ length xs → x ≡ get_or xs 0 x → others ≡ drop 1 xs → xs ≡ x ∷ others
first_item [] others x few e o = absurd (omega arith)
first_item (y ∷ ys) others x few e o = ap (λ z. z ∷ ys) (sym e) ∙ ap (λ zs. x ∷ zs) (sym o)

-- ---- of a vault that is only read

-- what was counted of it: an outcome of one that was closed well
counted_reading : (counts : Result SessionCounts Failed) (all ends : List SessionEnd) (outcome : Outcome) → HasReadOutcome counts outcome → IfOk counts (λ c. AreCounts c all) → all ≡ ends → AreCounted ends outcome
counted_reading counts all ends (Served c) h = counted_as counts (Ok tt) all ends (Served c) (h, refl)
counted_reading counts all ends ListenerFault h = counted_as counts (Ok tt) all ends ListenerFault (h, refl)
counted_reading counts all ends FolderFault h = absurd h
counted_reading counts all ends NoMemory h = absurd h

pub counted_readers : {D N C E K : Type 0} {start : Rows → Origin → Type 0} {since : FolderView → KeyPair → Rows → Type 0} {views : Views D N C E K} {service : Service} {workers workers' : List (Worker N E K)} {ends : List SessionEnd} {back : ReadBack D}
    → HasViewed start since views service workers workers' ends back → AreCounted ends back.outcome
counted_readers {ends = ends} {back = back} (inl h) = counted_reading h.counts (all_ends h.joined.shares) ends back.outcome h.outcome h.joined.counted h.ended
counted_readers {ends = ends} (inr h) = subst (λ (o : Outcome). AreCounted ends o) (sym h.outcome) tt

-- serving it was reported by an ending of a vault that was only read, which has the report and the status of the other
pub record ReadReports (ends : List SessionEnd) (outcome : Outcome) (before after : SinkView) (status : ℕ) : Type 0 where
  pub reading : Reading
  pub may : MayRead ends outcome reading
  pub reported : IsReported (record { before = before; after = after }) (only_read reading) status

-- the folder of one never failed at the end
never_broken : {D N C E K : Type 0} {start : Rows → Origin → Type 0} {since : FolderView → KeyPair → Rows → Type 0} {views : Views D N C E K} {service : Service} {workers workers' : List (Worker N E K)} {ends : List SessionEnd} {back : ReadBack D}
    → HasViewed start since views service workers workers' ends back → back.outcome ≡ FolderFault → ⊥
never_broken (inl h) is = subst (λ (o : Outcome). HasReadOutcome h.counts o) is h.outcome
never_broken (inr h) is = let e : NoMemory ≡ FolderFault = sym h.outcome ∙ is in cc

module _ (ends : List SessionEnd) (before after : SinkView) (status : ℕ) where
  abbrev IsReportedAs : Ending → Type 0
  IsReportedAs ending = IsReported (record { before = before; after = after }) ending status

  reads_as : (outcome : Outcome) → (outcome ≡ FolderFault → ⊥) → Reports ends outcome before after status → ReadReports ends outcome before after status
  reads_as (Served counts) whole_folder r = elim r.may [
    | inl is ↦ record { reading = whole ends; may = inl refl; reported = subst IsReportedAs is r.reported }
    | inr is ↦ record { reading = not_reported ends; may = inr refl; reported = subst IsReportedAs is r.reported }
  ]
  reads_as ListenerFault whole_folder r = record { reading = a_listener_failed ends; may = refl; reported = subst IsReportedAs r.may r.reported }
  reads_as FolderFault whole_folder r = absurd (whole_folder refl)
  reads_as NoMemory whole_folder r = record { reading = not_shared; may = refl; reported = subst IsReportedAs r.may r.reported }

pub read_reports : {D N C E K : Type 0} {start : Rows → Origin → Type 0} {since : FolderView → KeyPair → Rows → Type 0} {views : Views D N C E K} {service : Service} {workers workers' : List (Worker N E K)} {ends : List SessionEnd} {back : ReadBack D}
    {before after : SinkView} {status : ℕ} → HasViewed start since views service workers workers' ends back → Reports ends back.outcome before after status → ReadReports ends back.outcome before after status
read_reports {ends = ends} {back = back} {before = before} {after = after} {status = status} h = reads_as ends before after status back.outcome (never_broken h)
