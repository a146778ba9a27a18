use Rattle.std.proofs.Common.{◌≡◌, true, ℕ, Option, Some, length, sym, ◌∙◌, ap, subst, set}
use Rattle.std.specs.Prelude.{IfSome}
use Rattle.std.specs.Option.{option_map_or}
use Rattle.std.specs.FinMap as map
use Rattle.std.specs.Ordering.{nat_cmp}
use Rattle.std.proofs.lemmas.List.{get_or_default}
use Rattle.tree_model.specs.Asked.{AreStats}
use Rattle.session_core.specs.State.{Fid}
use Rattle.session_core.specs.Outcome.{read_on}
use Rattle.session_core.specs.Entries.{Entries, nothing, IsStrictlySorted, IsAt, IsGapFor}
use Rattle.session_core.proofs.Place.{sorted_set}
use Rattle.session_core.proofs.Maps.{as_map, entry_is, map_set, get_at, get_in_gap}
use Rattle.session_core.proofs.fids.FidTable.read_on.Goals as goal

pub read_on-requires-clause-stats : goal.read_on-requires-clause-stats
read_on-requires-clause-stats c =
    let is_at = subst (λ (l : Entries). IsAt l c.args.fid c.in-Ok.at) c.deref.ensures.value c.in-Ok.ensures.found in
    let read = get_or_default c.self.inside.used.items c.in-Ok.at c.index_mut.result.now nothing is_at.in_range in
    let value = ap (λ (m : map.FinMap nat_cmp Fid). map.get m c.args.fid) (sym c.self.view_is) ∙ get_at c.self.inside.used.items c.self.invariant.sorted c.args.fid c.in-Ok.at is_at
    ∙ ap (λ (e : ℕ × Fid). Some e.1) (sym (c.index_mut.ensures.value ∙ read))
    in
    subst (λ (o : Option Fid). IfSome o (λ f. f.is_dir ≡ true → AreStats (length c.args.bytes.now) c.args.bytes.now)) value c.requires.stats

pub invariant_of-self : goal.invariant_of-self
invariant_of-self c =
    let is_at = subst (λ (l : Entries). IsAt l c.args.fid c.in-Ok.at) c.deref.ensures.value c.in-Ok.ensures.found in
    let read = get_or_default c.self.inside.used.items c.in-Ok.at c.index_mut.result.now nothing is_at.in_range in
    let fid = ap (λ (e : ℕ × Fid). e.0) (c.index_mut.ensures.value ∙ read) ∙ is_at.is in
    record {
      sorted = subst (λ (f : ℕ). IsStrictlySorted (set c.self.inside.used.items c.in-Ok.at (f, c.read_on.new.self))) (sym fid)
          (sorted_set c.self.inside.used.items c.self.invariant.sorted c.args.fid c.in-Ok.at is_at c.read_on.new.self);
      all = c.self.invariant.all;
      used_room = c.self.invariant.used_room;
      spare_room = c.self.invariant.spare_room;
    }

pub returns-in-Ok : goal.returns-in-Ok
returns-in-Ok c =
    let is_at = subst (λ (l : Entries). IsAt l c.args.fid c.in-Ok.at) c.deref.ensures.value c.in-Ok.ensures.found in
    let read = get_or_default c.self.inside.used.items c.in-Ok.at c.index_mut.result.now nothing is_at.in_range in
    let fid = ap (λ (e : ℕ × Fid). e.0) (c.index_mut.ensures.value ∙ read) ∙ is_at.is in
    let value = ap (λ (m : map.FinMap nat_cmp Fid). map.get m c.args.fid) (sym c.self.view_is) ∙ get_at c.self.inside.used.items c.self.invariant.sorted c.args.fid c.in-Ok.at is_at
    ∙ ap (λ (e : ℕ × Fid). Some e.1) (sym (c.index_mut.ensures.value ∙ read))
    in
    let after = read_on c.args.offset c.args.bytes.now c.index_mut.result.now.1 in
    ap (λ (e : ℕ × Fid). as_map (set c.self.inside.used.items c.in-Ok.at e)) (entry_is c.index_mut.result.now.0 c.args.fid c.read_on.new.self after fid c.read_on.ensures)
    ∙ map_set c.self.inside.used.items c.self.invariant.sorted c.args.fid c.in-Ok.at is_at after
    ∙ ap (λ (m : map.FinMap nat_cmp Fid). map.insert m c.args.fid after) c.self.view_is
    ∙ ap (λ (o : Option Fid). option_map_or (λ f. map.insert c.args.self.now c.args.fid (read_on c.args.offset c.args.bytes.now f)) o c.args.self.now) (sym value)

pub returns-in_default : goal.returns-in_default
returns-in_default c =
    let gap = subst (λ (l : Entries). IsGapFor l c.args.fid c.in_default.field-0) c.deref.ensures.value c.in_default.ensures.absent in
    let none = ap (λ (m : map.FinMap nat_cmp Fid). map.get m c.args.fid) (sym c.self.view_is) ∙ get_in_gap c.self.inside.used.items c.args.fid c.in_default.field-0 gap in
    ap (λ (o : Option Fid). option_map_or (λ f. map.insert c.args.self.now c.args.fid (read_on c.args.offset c.args.bytes.now f)) o c.args.self.now) (sym none)
