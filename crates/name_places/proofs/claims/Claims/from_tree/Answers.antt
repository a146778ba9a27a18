use Rattle.std.proofs.Common.{◌≡◌, ℕ, suc, ◌+◌, subst, arith}
use Rattle.tree_loading.specs.Format.{sealing_of}
use Rattle.name_places.specs.Index.{AreClaimsBelow}
use Rattle.name_places.proofs.Indexed.{claims_end}
use Rattle.name_places.proofs.claims.Claims.from_tree.Goals as goal

pub loop-number-preserved : goal.loop-number-preserved
loop-number-preserved c =
    let next : suc c.loop-number.number ≡ c.loop-number.number + 1 = omega arith in
    subst (λ (k : ℕ). AreClaimsBelow (sealing_of c.args.keys.now) c.args.live.now k c.take_in.new.self) next c.in_ok-take_in.ensures

pub returns : goal.returns
returns c =
    claims_end (sealing_of c.args.keys.now) c.args.live.now c.loop-number.number c.loop-number.claims c.len-count.ensures.tree (omega (arith, c.next-number-end.ensures, c.loop-number-test.false))
    c.loop-number.invariant
