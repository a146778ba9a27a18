use Rattle.std.proofs.Common.{◌∙◌, refl, string_bytes}
use Rattle.std.specs.List.{flat_map}
use Rattle.host_folder.specs.First.{with_folder}
use Rattle.host_folder.specs.Held.{HaveCome, HaveComeFirst}
use Rattle.host_folder.specs.declared.host.Host.{Host}
use Rattle.host_folder.proofs.FlushSteps.{IsFlushing, flushing_then}
use Rattle.host_folder.proofs.OpeningSteps.{all_come, later_first, later_both, kept_opened}
use Rattle.host_folder.proofs.host.Host.flush_first.Goals as goal

pub returns-clause-kept : goal.returns-clause-kept
returns-clause-kept g c =
    let story = g.H.HostCalls.story in
    let top = g.H.HostCalls.top in
    let old = c.args.self.now in
    let mid = c.flush_with_folders.new in
    let last = c.flush_each.new in
    let new : Host g.row.H.Denot = record old { host = last.host; paths = last.paths; touched = c.clear.new.self } in
    let paths = c.args.paths.now in
    let touched = c.paths.result.now in
    let first : IsFlushing (string_bytes old.paths.base) (top old.host) (string_bytes mid.paths.base) (top mid.host) (story old.host)
    (story mid.host) (HaveComeFirst (flat_map with_folder paths)) = record {
      base = c.flush_with_folders.ensures.base;
      top = c.flush_with_folders.ensures.top;
      later = c.flush_with_folders.ensures.later;
      come = c.in_ok-flush_with_folders.ensures.come;
    } in
    let next : IsFlushing (string_bytes mid.paths.base) (top mid.host) (string_bytes last.paths.base) (top last.host) (story mid.host)
    (story last.host) (HaveCome touched) = record {
      base = c.flush_each.ensures.base;
      top = c.flush_each.ensures.top;
      later = c.flush_each.ensures.later;
      come = c.in_ok-flush_each.ensures.come;
    } in
    kept_opened story top old new paths c.requires.texts c.requires.opened (record {
      flushed = flushing_then first next
          (λ s t u. all_come paths touched s t u (c.paths.ensures ∙ c.requires.unsettled.touched));
      target = refl;
      touched = c.clear.ensures;
      moved = c.requires.unsettled.moved;
      failed = c.requires.unsettled.failed;
    })

pub returns-clause-later : goal.returns-clause-later
returns-clause-later g c =
    later_both g.H.HostCalls.story g.H.HostCalls.top c.args.self.now c.flush_with_folders.new.host c.flush_each.new.host (string_bytes c.flush_with_folders.new.paths.base) c.args.paths.now
    c.flush_with_folders.ensures.base c.flush_with_folders.ensures.top c.requires.texts c.requires.opened c.flush_with_folders.ensures.later c.flush_each.ensures.later

pub returns-in_err-flush_with_folders-clause-later : goal.returns-in_err-flush_with_folders-clause-later
returns-in_err-flush_with_folders-clause-later g c =
    later_first g.H.HostCalls.story g.H.HostCalls.top c.args.self.now (g.H.HostCalls.story c.flush_with_folders.new.host) c.args.paths.now c.requires.texts c.requires.opened c.flush_with_folders.ensures.later

pub returns-in_err-flush_each-clause-later : goal.returns-in_err-flush_each-clause-later
returns-in_err-flush_each-clause-later g c =
    later_both g.H.HostCalls.story g.H.HostCalls.top c.args.self.now c.flush_with_folders.new.host c.flush_each.new.host (string_bytes c.flush_with_folders.new.paths.base) c.args.paths.now
    c.flush_with_folders.ensures.base c.flush_with_folders.ensures.top c.requires.texts c.requires.opened c.flush_with_folders.ensures.later c.flush_each.ensures.later
