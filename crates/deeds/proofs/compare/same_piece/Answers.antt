use Rattle.std.proofs.Common.{Option, subst}
use Rattle.outside.specs.Calls.{Told}
use Rattle.outside.specs.Images.{Log, now}
use Rattle.outside.proofs.Told.{told_both}
use Rattle.deeds.proofs.Doing.{told_disk}
use Rattle.deeds.proofs.Alike.{HasRead, pieces_alike}
use Rattle.deeds.proofs.compare.same_piece.Goals as goal

pub returns-clause-same : goal.returns-clause-same
returns-clause-same g c =
    let log = g.F.Reads.log c.args.folder.now in
    let at = c.args.at in
    let One = HasRead c.args.one.now c.read.new.out 4096 at c.in_ok-n.n in
    let Other = HasRead c.args.other.now c.read-2.new.out 4096 at c.in_ok-m.m in
    told_both log (λ l. One (now l)) (λ l. Other (now l)) _
    (told_disk log One c.in_ok-n.ensures.bytes)
    (subst (λ (o : Option Log). Told o (λ l. Other (now l))) c.in_ok-n.ensures.log (told_disk (g.F.Reads.log c.read.new.self) Other c.in_ok-m.ensures.bytes))
    (λ l one other. pieces_alike (now l) c.args.one.now c.args.other.now c.read.new.out c.read-2.new.out 4096 at c.in_ok-n.n c.in_ok-m.m c.eq.result c.eq.ensures one other)
