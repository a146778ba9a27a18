use Rattle.std.proofs.Common.{◌≡◌, ◌+◌, ◌-◌, ◌*◌, ◌/◌, ◌<◌, ℕ, min, length, ap, subst, ◌∙◌, arith}
use Rattle.outside.specs.Images.{disk_in}
use Rattle.outside.proofs.Told.{told_then}
use Rattle.file_chunks.specs.File.{sealed_at}
use Rattle.content_writer.proofs.opening.fetch.Goals as goal

pub returns-then-bytes-min-clause-damaged : goal.returns-then-bytes-min-clause-damaged
returns-then-bytes-min-clause-damaged g c = λ _.
    let n : ℕ = c.args.content.now.length in
    let index : ℕ = c.args.index in
    let inside : 32768 * c.args.index < c.args.content.now.length = omega (arith, c.saturating_sub-more.ensures, c.if-more-eq0.false) in
    record {
      inside = inside;
      closed = told_then (disk_in (g.R.Reads.log c.args.folder.now)) _ _ c.in_ok-open.ensures.opened (λ d opened keys bytes is.
          let chunk = opened bytes is.there in
          let place : (32768 * c.args.index) / 32768 ≡ c.args.index = omega arith in
          let long : length (sealed_at bytes index) ≡ min 32768 (n - 32768 * index) + 28 =
          subst (λ (i : ℕ). length (sealed_at bytes i) ≡ min 32768 (n - 32768 * i) + 28) place (c.reads_are_slices.ensures.sealed bytes n (32768 * index) is.opened.sized inside) in
          absurd (c.if-bytes-min.true (ap length c.bytes.ensures.bytes ∙ omega (arith, chunk.long, long, c.min.ensures, c.saturating_sub-more.ensures))));
    }
