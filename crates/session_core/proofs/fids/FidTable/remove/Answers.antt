use Rattle.std.proofs.Common.{sym, ◌∙◌, ap, subst, arith}
use Rattle.std.specs.FinMap as map
use Rattle.std.specs.Ordering.{nat_cmp}
use Rattle.session_core.specs.State.{Fid}
use Rattle.session_core.specs.Entries.{Entries, IsStrictlySorted, IsAt, IsGapFor}
use Rattle.session_core.proofs.Place.{sorted_remove}
use Rattle.session_core.proofs.Maps.{as_map, map_remove, remove_absent, get_in_gap}
use Rattle.session_core.proofs.fids.FidTable.remove.Goals as goal

pub invariant_of-self : goal.invariant_of-self
invariant_of-self c =
    let is_at = subst (λ (l : Entries). IsAt l c.args.fid c.in-Ok.at) c.deref.ensures.value c.in-Ok.ensures.found in
    record {
      sorted = subst IsStrictlySorted (sym c.remove-slot.ensures.items) (sorted_remove c.self.inside.used.items c.in-Ok.at is_at.in_range c.self.invariant.sorted);
      all = omega (arith, c.self.invariant.all, c.remove-slot.ensures.len, c.in-Ok-push.ensures.len);
      used_room = omega (arith, c.self.invariant.used_room, c.remove-slot.ensures.capacity);
      spare_room = omega (arith, c.self.invariant.spare_room, c.in-Ok-push.ensures.capacity);
    }

pub returns-in-Ok-push : goal.returns-in-Ok-push
returns-in-Ok-push c =
    let is_at = subst (λ (l : Entries). IsAt l c.args.fid c.in-Ok.at) c.deref.ensures.value c.in-Ok.ensures.found in
    ap as_map c.remove-slot.ensures.items
    ∙ map_remove c.self.inside.used.items c.self.invariant.sorted c.args.fid c.in-Ok.at is_at
    ∙ ap (λ (m : map.FinMap nat_cmp Fid). map.remove m c.args.fid) c.self.view_is

pub returns-in_default : goal.returns-in_default
returns-in_default c =
    let gap = subst (λ (l : Entries). IsGapFor l c.args.fid c.in_default.field-0) c.deref.ensures.value c.in_default.ensures.absent in
    sym (remove_absent c.args.self.now c.args.fid
    (ap (λ (m : map.FinMap nat_cmp Fid). map.get m c.args.fid) (sym c.self.view_is) ∙ get_in_gap c.self.inside.used.items c.args.fid c.in_default.field-0 gap))
