use Rattle.std.proofs.Common.{◌≤◌, ◌+◌, ℕ, sym, subst, arith}
use Rattle.outside_mem.proofs.Pictures.{CountsTo, counts_more, counts_anew}
use Rattle.outside_mem.proofs.images.synced_len.Goals as goal
use Rattle.outside_mem.proofs.images.synced_len.Goals.{in-Synced, in_default}

pub loop-index-preserved : goal.loop-index-preserved
loop-index-preserved c =
    let calls = c.args.calls.now in
    let n = c.loop-index.index in
    let call = c.index-calls-index.result in
    elim c.match-calls-index.branch [
      | in-Synced w ↦ record {
        within = omega (arith, w.synced-is);
        since = λ start. subst (λ (s : ℕ). CountsTo start calls s (n + 1)) (sym w.synced-is) (counts_anew start calls n call c.loop-index-test.true c.index-calls-index.is w.in-Synced.is);
      }
      | in_default w ↦ record {
        within = omega (arith, w.synced-is, c.loop-index.invariant.within);
        since = λ start. subst (λ (s : ℕ). CountsTo start calls s (n + 1)) (sym w.synced-is) (counts_more start calls n call c.loop-index.synced c.loop-index-test.true c.index-calls-index.is w.in_default.not-Synced c.loop-index.invariant.within (c.loop-index.invariant.since start));
      }
    ]
