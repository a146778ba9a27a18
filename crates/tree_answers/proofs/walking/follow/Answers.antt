use Rattle.std.proofs.Common.{◌<◌, ◌≤◌, ◌≡◌, length, arith}
use Rattle.std.proofs.lemmas.List.{length-set}
use Rattle.tree_model.specs.Names.{names_in}
use Rattle.tree_answers.proofs.Ways.{HasName-left, IsOnWay, names_after, ends_refused, ends_whole, goes_further}
use Rattle.tree_answers.proofs.walking.follow.Goals as goal

pub split_name-requires : goal.split_name-requires
split_name-requires c =
    let first = HasName-left c.args.names.now.count c.loop-count.count c.loop-count.bytes.now c.loop-count-test.true c.loop-count.invariant.names in
    (first.head, first.whole)

pub returns-in-Err-clause-way : goal.returns-in-Err-clause-way
returns-in-Err-clause-way c =
    let way : IsOnWay c.args.tree.now c.args.from (names_in c.args.names.now.count c.args.names.now.bytes.now) c.loop-count.at
    c.args.names.now.count c.loop-count.count c.loop-count.bytes.now c.split_name.result.0.now c.split_name.result.1.now
    c.loop-count.qids = record {
      split = record {
        below = c.loop-count-test.true;
        are = c.loop-count.invariant.names;
        name_is = c.split_name.ensures.name;
        rest_is = c.split_name.ensures.rest;
      };
      goes = c.loop-count.invariant.way;
    } in
    ends_refused way c.in_ok-node.ensures.stands c.in-Err.is

pub loop-count-preserved : goal.loop-count-preserved
loop-count-preserved c =
    let few : c.args.names.now.count ≤ 16 = c.requires.names.few in
    let room : length c.loop-count.qids ≡ 16 = c.loop-count.invariant.room in
    let below : c.loop-count.count < c.args.names.now.count = c.loop-count-test.true in
    let way : IsOnWay c.args.tree.now c.args.from (names_in c.args.names.now.count c.args.names.now.bytes.now) c.loop-count.at
    c.args.names.now.count c.loop-count.count c.loop-count.bytes.now c.split_name.result.0.now c.split_name.result.1.now
    c.loop-count.qids = record {
      split = record {
        below = c.loop-count-test.true;
        are = c.loop-count.invariant.names;
        name_is = c.split_name.ensures.name;
        rest_is = c.split_name.ensures.rest;
      };
      goes = c.loop-count.invariant.way;
    } in
    record {
      room = omega (arith, length-set c.loop-count.qids c.loop-count.count c.qid_of.result);
      names = names_after way.split;
      way = goes_further way (record {
        good = c.requires.tree;
        next = _;
        led = c.in_ok-node.ensures.stands;
        is = c.in-Ok.is;
        shown = c.qid_of.ensures;
      }) (omega arith);
    }

pub returns-clause-way : goal.returns-clause-way
returns-clause-way c =
    ends_whole c.args.tree.now c.args.from (names_in c.args.names.now.count c.args.names.now.bytes.now) c.loop-count.at c.args.names.now.count c.loop-count.count c.loop-count.bytes.now
    c.loop-count.qids (omega arith) c.loop-count.invariant.way
