use Rattle.std.proofs.Common.{ℕ, Some, sym, ◌∙◌, ap, subst}
use Rattle.std.specs.FinMap as map
use Rattle.std.specs.Ordering.{nat_cmp}
use Rattle.std.proofs.lemmas.List.{get_or_default}
use Rattle.session_core.specs.State.{Fid}
use Rattle.session_core.specs.Entries.{Entries, nothing, IsAt, IsGapFor}
use Rattle.session_core.proofs.Maps.{get_at, get_in_gap}
use Rattle.session_core.proofs.fids.FidTable.get.Goals as goal

pub returns-in-Ok : goal.returns-in-Ok
returns-in-Ok c =
    let is_at = subst (λ (l : Entries). IsAt l c.args.fid c.in-Ok.at) c.deref.ensures.value c.in-Ok.ensures.found in
    let value = get_at c.self.inside.used.items c.self.invariant.sorted c.args.fid c.in-Ok.at is_at in
    let read = get_or_default c.self.inside.used.items c.in-Ok.at c.index.result.now nothing is_at.in_range in
    ap (λ (m : map.FinMap nat_cmp Fid). map.get m c.args.fid) (sym c.self.view_is) ∙ value
    ∙ ap (λ (e : ℕ × Fid). Some e.1) (sym (c.index.ensures ∙ read))

pub returns-in-Err : goal.returns-in-Err
returns-in-Err c =
    let gap = subst (λ (l : Entries). IsGapFor l c.args.fid c.in-Err.field-0) c.deref.ensures.value c.in-Err.ensures.absent in
    ap (λ (m : map.FinMap nat_cmp Fid). map.get m c.args.fid) (sym c.self.view_is) ∙ get_in_gap c.self.inside.used.items c.args.fid c.in-Err.field-0 gap
