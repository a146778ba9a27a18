use Rattle.std.proofs.Common.{arith, length}
use Rattle.session_server.proofs.Counting.{are_few}
use Rattle.session_server.proofs.counts.SessionCounts.add_all.Goals as goal

pub overflow_add-self-2 : goal.overflow_add-self-2
overflow_add-self-2 c =
    let few = (are_few c.args.self.now c.requires.ends (length c.requires.ends) c.requires.counted (omega arith)).done in
    let others = (are_few c.args.others.now c.requires.other_ends (length c.requires.other_ends) c.requires.others_counted (omega arith)).done in
    let most = c.requires.few in omega arith

pub overflow_add-self-3 : goal.overflow_add-self-3
overflow_add-self-3 c =
    let few = (are_few c.args.self.now c.requires.ends (length c.requires.ends) c.requires.counted (omega arith)).cut in
    let others = (are_few c.args.others.now c.requires.other_ends (length c.requires.other_ends) c.requires.others_counted (omega arith)).cut in
    let most = c.requires.few in omega arith

pub overflow_add-self-4 : goal.overflow_add-self-4
overflow_add-self-4 c =
    let few = (are_few c.args.self.now c.requires.ends (length c.requires.ends) c.requires.counted (omega arith)).bad in
    let others = (are_few c.args.others.now c.requires.other_ends (length c.requires.other_ends) c.requires.others_counted (omega arith)).bad in
    let most = c.requires.few in omega arith

pub overflow_add-self-5 : goal.overflow_add-self-5
overflow_add-self-5 c =
    let few = (are_few c.args.self.now c.requires.ends (length c.requires.ends) c.requires.counted (omega arith)).read in
    let others = (are_few c.args.others.now c.requires.other_ends (length c.requires.other_ends) c.requires.others_counted (omega arith)).read in
    let most = c.requires.few in omega arith

pub overflow_add-self-6 : goal.overflow_add-self-6
overflow_add-self-6 c =
    let few = (are_few c.args.self.now c.requires.ends (length c.requires.ends) c.requires.counted (omega arith)).write in
    let others = (are_few c.args.others.now c.requires.other_ends (length c.requires.other_ends) c.requires.others_counted (omega arith)).write in
    let most = c.requires.few in omega arith

pub overflow_add-self-7 : goal.overflow_add-self-7
overflow_add-self-7 c =
    let few = (are_few c.args.self.now c.requires.ends (length c.requires.ends) c.requires.counted (omega arith)).memory in
    let others = (are_few c.args.others.now c.requires.other_ends (length c.requires.other_ends) c.requires.others_counted (omega arith)).memory in
    let most = c.requires.few in omega arith

pub overflow_add-self-8 : goal.overflow_add-self-8
overflow_add-self-8 c =
    let few = (are_few c.args.self.now c.requires.ends (length c.requires.ends) c.requires.counted (omega arith)).limit in
    let others = (are_few c.args.others.now c.requires.other_ends (length c.requires.other_ends) c.requires.others_counted (omega arith)).limit in
    let most = c.requires.few in omega arith
