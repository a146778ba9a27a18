use Rattle.std.proofs.Common.{◌≡◌, true, false, subst}
use Rattle.std.specs.Float.{Float}
use Rattle.std.specs.Float.Ieee.{eq}
use Rattle.json_members.proofs.Floats.{integer_of-equal, integer_of-not_below, integer_of-unequal}
use Rattle.json_members.proofs.whole.Goals as goal
use Rattle.json_members.proofs.whole.Goals.{else-x-via-then-x+else-x-nearest_u64_to_f64, else-x-via-else-x}

pub returns-then-x-nearest_u64_to_f64 : goal.returns-then-x-nearest_u64_to_f64
returns-then-x-nearest_u64_to_f64 c =
    integer_of-equal c.args.x c.saturating_f64_to_u64-integer.result c.saturating_f64_to_u64-integer.ensures c.if-x.true
    (subst (λ (y : Float). eq c.args.x y ≡ true) c.nearest_u64_to_f64.ensures c.if-x-nearest_u64_to_f64.true)

pub returns-else-x : goal.returns-else-x
returns-else-x c =
    elim c.else-x.branch [
      | else-x-via-then-x+else-x-nearest_u64_to_f64 w ↦
          integer_of-unequal c.args.x c.saturating_f64_to_u64-integer.result c.saturating_f64_to_u64-integer.ensures w.if-x.true
          (subst (λ (y : Float). eq c.args.x y ≡ false) w.nearest_u64_to_f64.ensures w.if-x-nearest_u64_to_f64.false)
      | else-x-via-else-x w ↦ integer_of-not_below c.args.x w.if-x.false
    ]
