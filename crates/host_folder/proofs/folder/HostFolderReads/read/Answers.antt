use Rattle.std.proofs.Common.{◌≡◌, ◌-◌, ℕ, List, Option, Some, Result, ap, ◌∙◌, length, take, drop, min, IfOk}
use Rattle.std.specs.Option.{option_map}
use Rattle.outside.specs.declared.folder.FolderErr.{FolderErr}
use Rattle.outside.specs.Calls.{Told}
use Rattle.outside.specs.Disk.{node_at, file, IsFile}
use Rattle.outside.specs.Images.{Log, disk_in}
use Rattle.host_folder.specs.Behind.{log_of}
use Rattle.host_folder.specs.Holding.{log_in}
use Rattle.host_folder.specs.Telling.{diary_of}
use Rattle.host_folder.proofs.Shown.{story_looked, kept_looked, shown_kept}
use Rattle.host_folder.proofs.Passing.{passed, passed_no}
use Rattle.host_folder.proofs.folder.HostFolderReads.read.Goals as goal

pub read-answer-requires : goal.read-answer-requires
read-answer-requires g c = shown_kept g.H.HostCalls.story g.H.HostCalls.top c.self.inside.host c.self.invariant

pub invariant_of-self : goal.invariant_of-self
invariant_of-self g c = kept_looked g.H.HostCalls.story g.H.HostCalls.top c.self.inside.host c.read-answer.new.self c.read-answer.ensures.looked c.self.invariant

pub returns-clause-bytes : goal.returns-clause-bytes
returns-clause-bytes g c =
    passed c.counted_in_folder.result c.read-answer.result (log_of g.H.HostCalls.story c.self.inside.host) (log_in g.H.HostCalls.story c.args.self.now)
    (λ (x : Result ℕ FolderErr) (l : Option Log). IfOk x (λ n. Told (disk_in l) (λ d. (bytes : List ℕ)
    × (node_at d c.args.path.now ≡ Some (file bytes))
    × (n ≡ min (length c.args.out.now) (length bytes - c.args.at)) × (take n c.read-answer.new.out ≡ take n (drop c.args.at bytes)))))
    c.counted_in_folder.ensures.same (ap (log_in g.H.HostCalls.story) c.self.view_is) c.read-answer.ensures.bytes

pub returns-clause-unfit : goal.returns-clause-unfit
returns-clause-unfit g c =
    passed_no c.counted_in_folder.result c.read-answer.result (log_of g.H.HostCalls.story c.self.inside.host) (log_in g.H.HostCalls.story c.args.self.now) c.self.inside.faults c.args.self.now.faults c.counted_in_folder.new.faults (λ d. IsFile d c.args.path.now)
    c.counted_in_folder.ensures.same (ap (log_in g.H.HostCalls.story) c.self.view_is) (ap (λ h. h.faults) c.self.view_is) c.read-answer.ensures.unfit c.counted_in_folder.ensures.unfit

pub returns-clause-log : goal.returns-clause-log
returns-clause-log g c =
    ap (option_map diary_of) (story_looked g.H.HostCalls.story g.H.HostCalls.top c.self.inside.host c.read-answer.new.self c.read-answer.ensures.looked) ∙ ap (log_in g.H.HostCalls.story) c.self.view_is
