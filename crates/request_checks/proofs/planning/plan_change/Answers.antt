use Rattle.std.proofs.Common.{sym}
use Rattle.tree_model.specs.Asked.{plain_change}
use Rattle.request_checks.proofs.Public.{removed, all_planned, all_refused, all_owned, all_resizable}
use Rattle.request_checks.proofs.planning.plan_change.Goals as goal

pub returns-in-Some-clause-planned : goal.returns-in-Some-clause-planned
returns-in-Some-clause-planned c =
    all_planned c.args.tree.now c.args.number (plain_change c.args.change.now) c.in-Some.node.now (sym c.in-Some.ensures) c.plan_for_node.result c.plan_for_node.ensures

pub returns-in-Some-clause-refused : goal.returns-in-Some-clause-refused
returns-in-Some-clause-refused c =
    all_refused c.args.tree.now c.args.number (plain_change c.args.change.now) c.in-Some.node.now (sym c.in-Some.ensures) c.plan_for_node.result c.plan_for_node.ensures

pub returns-in-Some-clause-own : goal.returns-in-Some-clause-own
returns-in-Some-clause-own c =
    all_owned c.args.tree.now c.args.number (plain_change c.args.change.now) c.in-Some.node.now (sym c.in-Some.ensures) c.plan_for_node.result c.plan_for_node.ensures

pub returns-in-Some-clause-resizable : goal.returns-in-Some-clause-resizable
returns-in-Some-clause-resizable c =
    all_resizable c.args.tree.now c.args.number (plain_change c.args.change.now) c.in-Some.node.now (sym c.in-Some.ensures) c.plan_for_node.result c.plan_for_node.ensures

pub returns-in-None-clause-refused : goal.returns-in-None-clause-refused
returns-in-None-clause-refused c = removed c.args.tree.now c.args.number (plain_change c.args.change.now) (sym c.in-None.ensures)
