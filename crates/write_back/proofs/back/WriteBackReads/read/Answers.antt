use Rattle.std.proofs.Common.{◌≡◌, ◌-◌, ℕ, List, Some, length, take, drop, min, arith}
use Rattle.std.specs.Option.{option_map}
use Rattle.outside.specs.Calls.{IsUnfit, Told}
use Rattle.outside.specs.Disk.{IsFile, node_at, file}
use Rattle.outside.specs.Images.{disk_in}
use Rattle.pending_files.specs.Laid.{laid_log}
use Rattle.write_back.proofs.Showing.{can_of, at_view, told_no_file}
use Rattle.write_back.proofs.KeptHeaders.{told_shown}
use Rattle.write_back.proofs.back.WriteBackReads.read.Goals as goal

pub returns-in-Some-Some-clause-bytes : goal.returns-in-Some-Some-clause-bytes
returns-in-Some-Some-clause-bytes g c =
    let kept = c.in-Some-Some in
    let n = c.shown_header.result in
    let out = c.shown_header.new.out in
    at_view (λ f w. Told (disk_in (option_map (laid_log w) (g.D.Reads.log f))) (λ d. (bytes : List ℕ) × (node_at d c.args.path.now ≡ Some (file bytes))
    × (n ≡ min (length c.args.out.now) (length bytes - c.args.at)) × (take n out ≡ take n (drop c.args.at bytes)))) _ _ _ c.self.view_is
    (told_shown c.self.inside.pending c.self.inside.headers c.args.path.now kept.header.now out kept.len c.args.at (length c.args.out.now) n kept.ensures'
    (omega (arith, c.if-saturating_add.true, c.saturating_add.ensures)) c.shown_header.ensures.count c.shown_header.ensures.shown
    (g.D.Reads.log c.self.inside.journal) c.self.invariant kept.ensures)

pub returns-clause-unfit : goal.returns-clause-unfit
returns-clause-unfit g c = λ refused.
    at_view (λ f w. IsUnfit (disk_in (option_map (laid_log w) (g.D.Reads.log f))) (g.D.Reads.faults f) (g.D.Reads.faults c.read_through.new.folder) (λ d. IsFile d c.args.path.now)) _ _ _ c.self.view_is
    (told_no_file (g.D.Reads.log c.self.inside.journal) c.self.inside.pending c.args.path.now (g.D.Reads.faults c.self.inside.journal) (g.D.Reads.faults c.read_through.new.folder) (can_of (g.D.Reads.log c.self.inside.journal) c.self.inside.pending c.self.inside.headers c.self.invariant)
    (c.read_through.ensures.unfit refused))
