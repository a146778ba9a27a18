use Rattle.std.proofs.Common.{arith, length}
use Rattle.session_server.proofs.Counting.{are_few}
use Rattle.session_server.proofs.counts.SessionCounts.add.Goals as goal

pub overflow_add-self-in-Done : goal.overflow_add-self-in-Done
overflow_add-self-in-Done c = let few = (are_few c.args.self.now c.requires.0 (length c.requires.0) c.requires.1 (omega arith)).done in let most = c.requires.2 in omega arith

pub overflow_add-self-in-Cut : goal.overflow_add-self-in-Cut
overflow_add-self-in-Cut c = let few = (are_few c.args.self.now c.requires.0 (length c.requires.0) c.requires.1 (omega arith)).cut in let most = c.requires.2 in omega arith

pub overflow_add-self-in-BadFrame : goal.overflow_add-self-in-BadFrame
overflow_add-self-in-BadFrame c = let few = (are_few c.args.self.now c.requires.0 (length c.requires.0) c.requires.1 (omega arith)).bad in let most = c.requires.2 in omega arith

pub overflow_add-self-in-ReadFault : goal.overflow_add-self-in-ReadFault
overflow_add-self-in-ReadFault c = let few = (are_few c.args.self.now c.requires.0 (length c.requires.0) c.requires.1 (omega arith)).read in let most = c.requires.2 in omega arith

pub overflow_add-self-in-WriteFault : goal.overflow_add-self-in-WriteFault
overflow_add-self-in-WriteFault c = let few = (are_few c.args.self.now c.requires.0 (length c.requires.0) c.requires.1 (omega arith)).write in let most = c.requires.2 in omega arith

pub overflow_add-self-in-Memory : goal.overflow_add-self-in-Memory
overflow_add-self-in-Memory c = let few = (are_few c.args.self.now c.requires.0 (length c.requires.0) c.requires.1 (omega arith)).memory in let most = c.requires.2 in omega arith

pub overflow_add-self-in-Limit : goal.overflow_add-self-in-Limit
overflow_add-self-in-Limit c = let few = (are_few c.args.self.now c.requires.0 (length c.requires.0) c.requires.1 (omega arith)).limit in let most = c.requires.2 in omega arith
