use Rattle.std.proofs.Common.{◌≡◌, ◌++◌, length, rules, arith}
use Rattle.std.proofs.lemmas.List.{drop_all}
use Rattle.model_step.proofs.Fitting.{fill_ends, fill_more, fill_stops}
use Rattle.model_step.proofs.listing.fitting.Goals as goal

pub returns-then-room-len : goal.returns-then-room-len
returns-then-room-len c =
    fill_stops c.loop-stat.bytes.items _ c.loop-stat.room c.loop-stat.stat-index c.args.stats.now c.stat-item.result (omega arith) c.stat-item.is (omega arith) c.loop-stat.invariant

pub loop-stat-preserved : goal.loop-stat-preserved
loop-stat-preserved c =
    let more : c.extend_from_slice.new.self.items ≡ c.loop-stat.bytes.items ++ c.stat-item.result.items = search rules in
    let size : c.len-room.result ≡ length c.stat-item.result.items = omega arith in
    rw size
    (fill_more c.loop-stat.bytes.items c.extend_from_slice.new.self.items _ c.loop-stat.room c.loop-stat.stat-index c.args.stats.now c.stat-item.result (omega arith) c.stat-item.is (omega arith) more c.loop-stat.invariant)

pub returns : goal.returns
returns c = fill_ends c.loop-stat.bytes.items _ c.loop-stat.room _ (drop_all c.loop-stat.stat-index c.args.stats.now (omega arith)) c.loop-stat.invariant
