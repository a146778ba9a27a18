use Rattle.std.proofs.Common.{◌≡◌, ℕ, List, Some, length, take, drop, sym, ap, subst, ◌∙◌, arith, length-take}
use Rattle.std.proofs.lemmas.List.{take_at}
use Rattle.outside.specs.Disk.{Disk, node_at, file}
use Rattle.outside.specs.Changes.{bytes_or_none}
use Rattle.outside.specs.Calls.{Told}
use Rattle.outside.specs.Images.{disk_in}
use Rattle.outside.proofs.Told.{told_then, told_always}
use Rattle.deeds.specs.Reshape.{written, CanWrite}
use Rattle.deeds.specs.Plain.{plain_ranges}
use Rattle.deeds.specs.Deeds.{reshaped}
use Rattle.pending_files.specs.Later.{Shows}
use Rattle.pending_files.proofs.Shown.{read_shows, shown_cut}
use Rattle.pending_files.proofs.Covered.{covered_shows}
use Rattle.pending_files.proofs.reading.read_reshaped.Goals as goal
use Rattle.pending_files.proofs.reading.read_reshaped.Goals.{then-not-covers+in_ok-read, else-not-covers}

pub returns-clause-bytes : goal.returns-clause-bytes
returns-clause-bytes g c =
    let rs = plain_ranges c.args.ranges.now in
    let count = c.shown_count-count.result in
    let window = c.overlay.new.window in
    let under = c.if-not-covers.shown in
    let long : length under ≡ count = omega (arith, c.if-not-covers.auto.shown, length-take count c.args.out.now, c.shown_count-count.ensures) in
    let whole : length window ≡ count = c.overlay.ensures.long ∙ long in
    let disk = disk_in (g.R.Reads.log c.args.folder.now) in
    let laid : Told disk (λ (d : Disk). (was : List ℕ) → node_at d c.args.path.now ≡ Some (file was) → CanWrite rs was → Shows c.args.at (written rs was) window) =
    elim c.if-not-covers.branch [
      | then-not-covers+in_ok-read w ↦ told_then disk _ _ w.in_ok-read.ensures.bytes (λ d read was there can.
          let same : read.0 ≡ was = ap bytes_or_none (sym read.1 ∙ there) in
          let filled = w.read.new.out in
          let n = w.in_ok-read.field-0 in
          let shows : Shows c.args.at read.0 filled = read_shows read.0 filled c.args.at n (omega (arith, read.2, w.read.auto.out)) read.3 in
          c.overlay.ensures.shown was can (subst (λ (l : List ℕ). Shows c.args.at was l) (sym w.shown-is) (subst (λ (l : List ℕ). Shows c.args.at l filled) same shows)))
      | else-not-covers w ↦ told_always disk _ (λ d was there can.
          covered_shows rs was under window c.args.at can c.overlay.ensures.long
          (λ i from to. c.covers.ensures w.if-not-covers.false i from (omega (arith, to, long)))
          c.overlay.ensures.shown)
    ] in
    told_then disk _ _ laid (λ d shown was there can in_file.
    let is = shown_cut (written rs was) window c.args.at c.args.len in_file (omega (arith, whole, c.shown_count-count.ensures)) (shown was there can) in
    (c.shown_count-count.ensures, take_at window (drop count c.args.out.now) count whole ∙ is ∙ ap (λ (k : ℕ). take k (drop c.args.at (reshaped c.args.len rs was))) whole))
