use Rattle.std.proofs.Common.{[], ◌∷◌, refl, arith, length-append}
use Rattle.session_server.specs.Shares.{ends_of}
use Rattle.session_server.proofs.ShareSoFar.{begun, one_more, link_of}
use Rattle.session_server.proofs.crew.serve_share.Goals as goal

pub loop-crew-init : goal.loop-crew-init
loop-crew-init g c =
    let so = begun _ _ _ _ _ c.default-crew.result (search) in
    let none = so.counted.sessions in
    record { so = so; few = omega arith; fine = refl }

pub loop-crew-preserved : goal.loop-crew-preserved
loop-crew-preserved g c =
    let inv = c.loop-crew.invariant in
    let served = link_of g.B.TreeObject.stands c.loop-crew.crew.object c.serve_next.new.object _ _ _ _ _ c.serve_next.result c.in-Ok-Some.field-0 c.in-Ok-Some.end c.serve_next.ensures.served c.in-Ok-Some.is c.in-Ok-Some.field-0-is in
    let so = one_more _ _ _ _ _ _ _ _ _ _ _ _ _ c.in-Ok-Some.end inv.so served c.add.ensures in
    let is = (c.add.ensures _ inv.so.counted).sessions in
    let was = inv.so.counted.sessions in
    let more = length-append (ends_of inv.so.share) (c.in-Ok-Some.end ∷ []) in
    let below = c.loop-crew-test.true in
    record { so = so; few = omega arith; fine = inv.fine }
