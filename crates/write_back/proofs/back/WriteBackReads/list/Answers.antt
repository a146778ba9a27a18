use Rattle.std.specs.Prelude.{IfOk}
use Rattle.std.specs.Option.{option_map}
use Rattle.outside.specs.Calls.{Told, IsUnfit}
use Rattle.outside.specs.Disk.{IsFolder, IsListing}
use Rattle.outside.specs.Images.{disk_in}
use Rattle.pending_files.specs.Laid.{laid_log}
use Rattle.write_back.proofs.Showing.{can_of, at_view, if_ok, told_names, told_no_folder}
use Rattle.write_back.proofs.back.WriteBackReads.list.Goals as goal

pub returns-clause-names : goal.returns-clause-names
returns-clause-names g c =
    at_view (λ f w. IfOk c.list.result (λ names. Told (disk_in (option_map (laid_log w) (g.D.Reads.log f))) (λ d. IsFolder d c.args.path.now × IsListing d c.args.path.now names.items))) _ _ _ c.self.view_is
    (if_ok _ _ c.list.result (λ names is. told_names (g.D.Reads.log c.self.inside.journal) c.self.inside.pending c.args.path.now names.items (can_of (g.D.Reads.log c.self.inside.journal) c.self.inside.pending c.self.inside.headers c.self.invariant) is) c.list.ensures.names)

pub returns-clause-unfit : goal.returns-clause-unfit
returns-clause-unfit g c = λ refused.
    at_view (λ f w. IsUnfit (disk_in (option_map (laid_log w) (g.D.Reads.log f))) (g.D.Reads.faults f) (g.D.Reads.faults c.list.new.self) (λ d. IsFolder d c.args.path.now)) _ _ _ c.self.view_is
    (told_no_folder (g.D.Reads.log c.self.inside.journal) c.self.inside.pending c.args.path.now (g.D.Reads.faults c.self.inside.journal) (g.D.Reads.faults c.list.new.self) (can_of (g.D.Reads.log c.self.inside.journal) c.self.inside.pending c.self.inside.headers c.self.invariant)
    (c.list.ensures.unfit refused))
