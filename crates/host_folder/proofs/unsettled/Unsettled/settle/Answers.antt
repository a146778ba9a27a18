use Rattle.std.proofs.Common.{◌≡◌, true, [], Some, sym, ap, subst, ◌∙◌, not}
use Rattle.outside.specs.Calls.{Told, Changes}
use Rattle.outside.proofs.Told.{told_then}
use Rattle.host_calls.specs.Story.{disk_now}
use Rattle.host_folder.specs.Behind.{HasTexts, IsShown}
use Rattle.host_folder.specs.Holding.{log_in, Holding, Reading}
use Rattle.host_folder.specs.Held.{IsLater}
use Rattle.host_folder.specs.Opened.{IsOpened}
use Rattle.host_folder.proofs.Unsettling.{log_settled}
use Rattle.host_folder.proofs.unsettled.Unsettled.settle.Goals as goal

pub settle-requires : goal.settle-requires
settle-requires g c = record {
  unsettled = c.self.invariant.0;
  tells = c.self.invariant.1;
  texts = told_then (g.H.HostCalls.story c.self.inside.host.host) (IsShown g.H.HostCalls.top c.self.inside.host) (λ s. HasTexts g.H.HostCalls.top c.self.inside.host) c.self.invariant.2 (λ s is. is.texts);
  opened = subst (λ (h : Reading g.row.H.Denot). Told (g.H.HostCalls.story h.host) (IsOpened c.args.paths.now)) (sym c.self.view_is) c.requires;
}

pub returns-clause-later : goal.returns-clause-later
returns-clause-later g c =
    subst (λ (h : Holding g.row.H.Denot). Changes (g.H.HostCalls.story c.args.self.host) (g.H.HostCalls.story h.host) IsLater) (sym c.over.ensures)
    (subst (λ (h : Reading g.row.H.Denot). Changes (g.H.HostCalls.story h.host) (g.H.HostCalls.story c.settle.new.self.host) IsLater) c.self.view_is c.settle.ensures.later)

pub returns-clause-tells : goal.returns-clause-tells
returns-clause-tells g c = subst (λ (h : Holding g.row.H.Denot). h.tells ≡ not h.failed) (sym c.over.ensures) c.settle.ensures.tells

pub returns-clause-base : goal.returns-clause-base
returns-clause-base g c = ap (λ h. h.base) c.over.ensures ∙ c.settle.ensures.base ∙ ap (λ h. h.base) c.self.view_is

pub returns-clause-faults : goal.returns-clause-faults
returns-clause-faults g c = ap (λ h. h.faults) c.over.ensures ∙ ap (λ h. h.faults) c.self.view_is

pub returns-clause-log : goal.returns-clause-log
returns-clause-log g c =
    let story = g.H.HostCalls.story in
    let host = c.settle.new.self in
    subst (λ (h : Holding g.row.H.Denot). Told (story c.args.self.host) (λ s. h.tells ≡ true → log_in story h ≡ Some (record { start = disk_now s; calls = [] }))) (sym c.over.ensures)
    (log_settled host.tells c.args.paths.now (story c.args.self.host) (story host.host) c.requires
    (subst (λ (h : Reading g.row.H.Denot). Changes (story h.host) (story host.host) IsLater) c.self.view_is c.settle.ensures.later))
