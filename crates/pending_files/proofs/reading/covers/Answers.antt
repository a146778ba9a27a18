use Rattle.std.proofs.Common.{◌≡◌, ⊎_elim, ◌+◌, ◌≤◌, ◌<◌, ◌∷◌, length, drop, arith}
use Rattle.std.proofs.lemmas.Bool.{cases_lt}
use Rattle.deeds.proofs.Doing.{split_at}
use Rattle.pending_files.proofs.Covered.{outside_item}
use Rattle.pending_files.proofs.reading.covers.Goals as goal
use Rattle.pending_files.proofs.reading.covers.Goals.{then-start-end, else-start-end}

pub loop-start-preserved : goal.loop-start-preserved
loop-start-preserved c =
    let s = c.args.ranges.now in
    let k = c.loop-start.start-index in
    let x = c.loop-start-item.result in
    let split : drop k s ≡ x ∷ drop (k + 1) s = split_at s k x (omega arith) c.loop-start-item.is in
    elim c.if-start-end.branch [
      | then-start-end w ↦ record {
        from = omega (arith, c.loop-start.invariant.from, w.end-is, w.max-end.ensures);
        covered = λ i from to un.
            ⊎_elim
            (λ (below : i < c.loop-start.end). c.loop-start.invariant.covered i from below un)
            (λ (past : c.loop-start.end ≤ i).
            ⊎_elim
            (λ (before : i < x.at). omega (arith, before, past, w.if-start-end.true))
            (λ (behind : x.at + length x.bytes.items ≤ i). omega (arith, behind, past, to, w.end-is, w.max-end.ensures, w.saturating_add.ensures, w.len.ensures))
            (outside_item s k i x (drop (k + 1) s) split un))
            (cases_lt i c.loop-start.end);
      }
      | else-start-end w ↦ record {
        from = omega (arith, c.loop-start.invariant.from, w.end-is);
        covered = λ i from to un. c.loop-start.invariant.covered i from (omega (arith, to, w.end-is)) un;
      }
    ]
