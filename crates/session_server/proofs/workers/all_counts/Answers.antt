use Rattle.std.proofs.Common.{◌≡◌, ◌+◌, suc, length, take, ap, sym, subst, ◌∙◌, arith, length-append}
use Rattle.session_server.specs.Ends.{AreCounts}
use Rattle.session_server.specs.Shares.{ends_of, all_ends}
use Rattle.session_server.specs.Workers.{NoneFailed}
use Rattle.session_server.proofs.Sharing.{one_more, all_ends-take, counts_all, none_more, any_at}
use Rattle.session_server.proofs.workers.all_counts.Goals as goal

pub returns-then-crew-clause-some : goal.returns-then-crew-clause-some
returns-then-crew-clause-some g c =
    any_at c.args.crews.now c.loop-crew.crew-index c.crew-item.result c.loop-crew-test.true (sym (ap (λ crew. crew.failed) c.crew-item.is) ∙ c.if-crew.true)

pub add_all-requires : goal.add_all-requires
add_all-requires g c =
    let i = c.loop-crew.crew-index in
    let shares = c.requires.few.0 in
    let one = one_more c.args.crews.now shares i c.crew-item.result c.loop-crew-test.true c.requires.few.1 in
    let whole = ap length one.more in
    let parts = length-append (all_ends (take i shares)) (ends_of one.share) in
    let below = all_ends-take (suc i) shares in
    let few = c.requires.few.2 in record {
      ends = all_ends (take i shares);
      other_ends = ends_of one.share;
      counted = c.loop-crew.invariant.counted shares c.requires.few.1;
      others_counted = subst (λ crew. AreCounts crew.counts (ends_of one.share)) (sym c.crew-item.is) one.counted;
      few = omega arith;
    }

pub loop-crew-preserved : goal.loop-crew-preserved
loop-crew-preserved g c =
    let i = c.loop-crew.crew-index in
    let next : suc i ≡ i + 1 = omega arith in record {
      counted = λ shares are.
          let one = one_more c.args.crews.now shares i c.crew-item.result c.loop-crew-test.true are in
          let all : AreCounts c.add_all.new.self (all_ends (take (suc i) shares)) =
          subst (AreCounts c.add_all.new.self) (sym one.more)
          (c.add_all.ensures (all_ends (take i shares)) (ends_of one.share) (c.loop-crew.invariant.counted shares are) (subst (λ crew. AreCounts crew.counts (ends_of one.share)) (sym c.crew-item.is) one.counted))
          in
          subst (λ k. AreCounts c.add_all.new.self (all_ends (take k shares))) next all;
      none = subst (λ k. NoneFailed (take k c.args.crews.now)) next
          (none_more c.args.crews.now i c.crew-item.result c.loop-crew-test.true c.loop-crew.invariant.none (sym (ap (λ crew. crew.failed) c.crew-item.is) ∙ c.if-crew.false));
    }

pub returns-clause-counted : goal.returns-clause-counted
returns-clause-counted g c = λ shares are.
    subst (λ l. AreCounts c.loop-crew.counts (all_ends l)) (counts_all c.args.crews.now shares c.loop-crew.crew-index (let past = c.loop-crew-test.false in omega arith) are) (c.loop-crew.invariant.counted shares are)
