use Rattle.std.proofs.Common.{◌≡◌, ◌+◌, length, ap, arith, subst}
use Rattle.std.specs.Option.{IfSome, IfNone}
use Rattle.outside.specs.Images.{disk_in}
use Rattle.tree_loading.specs.Turned.{IsScanAt, IsNoDirectory}
use Rattle.tree_loading.proofs.Turning.{told_other, told_many, marked_ready, marked_longer, length-found, count_is, told_added}
use Rattle.tree_loading.proofs.turns.turn.Goals as goal

pub returns-in_default-clause-turned : goal.returns-in_default-clause-turned
returns-in_default-clause-turned g c =
    told_other (disk_in (g.R.Reads.log c.args.from.now)) c.args.keys.now c.args.number c.args.loading.now c.requires.inside
    (subst (λ o. IfNone o (IsNoDirectory c.args.loading.now.tree c.args.number)) c.in_default.is c.in_ok-scanned.ensures.other)

pub returns-then-len-clause-too_many : goal.returns-then-len-clause-too_many
returns-then-len-clause-too_many g c n is =
    let at : IsScanAt c.args.keys.now (disk_in (g.R.Reads.log c.args.from.now)) c.args.loading.now.tree c.args.number c.in-Some.scanned =
    subst (λ o. IfSome o (λ s. IsScanAt c.args.keys.now (disk_in (g.R.Reads.log c.args.from.now)) c.args.loading.now.tree c.args.number s)) c.in-Some.is c.in_ok-scanned.ensures.scanned in
    let exact : n ≡ 1048577 = count_is n is in
    let found : length c.in-Some.scanned.found ≡ length c.into_nodes-nodes.result.items = length-found c.into_nodes-nodes.result.items c.in-Some.scanned c.into_nodes-nodes.ensures in
    told_many (disk_in (g.R.Reads.log c.args.from.now)) c.args.keys.now c.args.number n c.args.loading.now c.in-Some.scanned c.requires.inside at
    (omega (arith, exact, found, c.if-len.true, c.len.ensures, c.len-2.ensures.count, c.into_nodes-nodes.result.ok)) exact

pub returns-clause-ready : goal.returns-clause-ready
returns-clause-ready g c = marked_ready c.args.keys.now c.add_nodes.new.loading.tree c.mark_foreign.new.self c.args.number (c.args.number + 1) c.has_foreign-foreign.result c.mark_foreign.ensures c.in_ok-add_nodes.ensures.ready

pub returns-clause-longer : goal.returns-clause-longer
returns-clause-longer g c = marked_longer c.args.loading.now.tree c.add_nodes.new.loading.tree c.mark_foreign.new.self c.args.number c.has_foreign-foreign.result c.mark_foreign.ensures c.in_ok-add_nodes.ensures.longer

pub returns-clause-turned : goal.returns-clause-turned
returns-clause-turned g c =
    let at : IsScanAt c.args.keys.now (disk_in (g.R.Reads.log c.args.from.now)) c.args.loading.now.tree c.args.number c.in-Some.scanned =
    subst (λ o. IfSome o (λ s. IsScanAt c.args.keys.now (disk_in (g.R.Reads.log c.args.from.now)) c.args.loading.now.tree c.args.number s)) c.in-Some.is c.in_ok-scanned.ensures.scanned in
    told_added (disk_in (g.R.Reads.log c.args.from.now)) (disk_in (g.R.Reads.log c.scan_at.new.from)) c.args.keys.now c.args.number c.args.loading.now c.add_nodes.new.loading c.mark_foreign.new.self c.in-Some.scanned
    c.into_nodes-nodes.result.items c.has_foreign-foreign.result c.requires.inside (ap disk_in c.in_ok-scanned.ensures.log) at c.into_nodes-nodes.ensures c.has_foreign-foreign.ensures c.in_ok-add_nodes.ensures.added c.mark_foreign.ensures
