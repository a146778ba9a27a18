use Rattle.std.proofs.Common.{◌+◌, ◌≤◌, length, ◌∙◌, arith, rules}
use Rattle.siv_mode.proofs.Chains.{halfway_none, halfway_more, halfway_all}
use Rattle.siv_mode.proofs.mac.RunningMac.absorb.Goals as goal

pub loop-self-init : goal.loop-self-init
loop-self-init g c = λ text h. halfway_none h

pub loop-self-preserved : goal.loop-self-preserved
loop-self-preserved g c = λ text h.
    let now = c.loop-self.self in
    halfway_more c.fill.new.self.block (c.loop-self.invariant text h) now.fits now.whole c.fill.new.self.whole c.loop-self-test.true
    c.split_at.ensures.front c.split_at.ensures.back c.fill.ensures.filled c.fill.ensures.block (search rules) c.chain_block.ensures.filled

pub returns : goal.returns
returns g c = λ text h.
    let now = c.loop-self.self in
    let room : now.filled + length c.loop-self.rest.now ≤ 16 = omega arith in
    let all = halfway_all (c.loop-self.invariant text h) now.fits now.whole room c.fill-2.ensures.block in
    record { chained_before = c.fill-2.ensures.chain ∙ all.chained_before; last = all.last }
