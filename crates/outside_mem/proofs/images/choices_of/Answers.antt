use Rattle.outside_mem.proofs.Choices.{three_more}
use Rattle.outside_mem.specs.Choices.{all_choices}
use Rattle.outside_mem.proofs.images.choices_of.Goals as goal

pub loop-back-preserved : goal.loop-back-preserved
loop-back-preserved c =
    three_more c.loop-back.choices.items c.push-in-loop-back.new.self.items c.push-in-loop-back-2.new.self.items c.push-in-loop-back-3.new.self.items
    (all_choices c.args.since) c.args.since c.loop-back.back c.loop-back-test.true
    c.in_ok-push-4.ensures.items c.in_ok-push-5.ensures.items c.in_ok-push-6.ensures.items c.loop-back.invariant
