use Rattle.std.proofs.Common.{ℕ, Option, is_some, sym, ◌∙◌, ap, subst, inl, inr, arith, set}
use mathlib.Core.Bool.{false≢true}
use Rattle.std.specs.FinMap as map
use Rattle.std.specs.Ordering.{nat_cmp}
use Rattle.std.proofs.lemmas.List.{get_or_default}
use Rattle.session_core.specs.State.{Fid}
use Rattle.session_core.specs.Slot.{placed}
use Rattle.session_core.specs.Entries.{Entries, nothing, IsStrictlySorted, IsAt, IsGapFor}
use Rattle.session_core.proofs.Place.{sorted_set, sorted_insert}
use Rattle.session_core.proofs.Maps.{as_map, entry_is, map_set, map_insert, get_in_gap, len_is}
use Rattle.session_core.proofs.fids.FidTable.set.Goals as goal

pub unreachable-requires : goal.unreachable-requires
unreachable-requires c =
    let gap = subst (λ (l : Entries). IsGapFor l c.args.fid c.in-Err.at) c.deref.ensures.value c.in-Err.ensures.absent in
    let none = ap (λ (m : map.FinMap nat_cmp Fid). map.get m c.args.fid) (sym c.self.view_is) ∙ get_in_gap c.self.inside.used.items c.args.fid c.in-Err.at gap in
    let len = ap (λ (m : map.FinMap nat_cmp Fid). map.len m) (sym c.self.view_is) ∙ len_is c.self.inside.used.items c.self.invariant.sorted in
    elim c.requires.room [
      | inl in_use ↦ absurd (false≢true (sym (ap (λ (o : Option Fid). is_some o) none) ∙ in_use))
      | inr few ↦ omega (arith, few, len, c.self.inside.used.ok, c.self.invariant.all, c.in_default.ensures.cases)
    ]

pub invariant_of-self : goal.invariant_of-self
invariant_of-self c =
    let is_at = subst (λ (l : Entries). IsAt l c.args.fid c.in-Ok.at) c.deref.ensures.value c.in-Ok.ensures.found in
    let read = get_or_default c.self.inside.used.items c.in-Ok.at c.index_mut.result.now nothing is_at.in_range in
    let fid = ap (λ (e : ℕ × Fid). e.0) (c.index_mut.ensures.value ∙ read) ∙ is_at.is in
    record {
      sorted = subst (λ (e : ℕ × Fid). IsStrictlySorted (set c.self.inside.used.items c.in-Ok.at e))
          (sym (entry_is c.index_mut.result.now.0 c.args.fid c.put.new.self (placed c.args.place.now) fid c.put.ensures))
          (sorted_set c.self.inside.used.items c.self.invariant.sorted c.args.fid c.in-Ok.at is_at (placed c.args.place.now));
      all = c.self.invariant.all;
      used_room = c.self.invariant.used_room;
      spare_room = c.self.invariant.spare_room;
    }

pub returns-in-Ok : goal.returns-in-Ok
returns-in-Ok c =
    let is_at = subst (λ (l : Entries). IsAt l c.args.fid c.in-Ok.at) c.deref.ensures.value c.in-Ok.ensures.found in
    let read = get_or_default c.self.inside.used.items c.in-Ok.at c.index_mut.result.now nothing is_at.in_range in
    let fid = ap (λ (e : ℕ × Fid). e.0) (c.index_mut.ensures.value ∙ read) ∙ is_at.is in
    ap (λ (e : ℕ × Fid). as_map (set c.self.inside.used.items c.in-Ok.at e)) (entry_is c.index_mut.result.now.0 c.args.fid c.put.new.self (placed c.args.place.now) fid c.put.ensures)
    ∙ map_set c.self.inside.used.items c.self.invariant.sorted c.args.fid c.in-Ok.at is_at (placed c.args.place.now)
    ∙ ap (λ (m : map.FinMap nat_cmp Fid). map.insert m c.args.fid (placed c.args.place.now)) c.self.view_is

pub invariant_of-self-in-Ok-insert : goal.invariant_of-self-in-Ok-insert
invariant_of-self-in-Ok-insert c =
    let gap = subst (λ (l : Entries). IsGapFor l c.args.fid c.in-Err.at) c.deref.ensures.value c.in-Err.ensures.absent in
    record {
      sorted = subst IsStrictlySorted (sym c.in-Ok-insert.ensures.items) (sorted_insert c.self.inside.used.items c.args.fid c.in-Err.at gap c.put-in-Err.new.self c.self.invariant.sorted);
      all = omega (arith, c.self.invariant.all, c.in-Some.ensures.cases, c.in-Ok-insert.ensures.len);
      used_room = omega (arith, c.self.invariant.used_room, c.in-Ok-insert.ensures.capacity);
      spare_room = omega (arith, c.self.invariant.spare_room, c.in-Some.ensures.capacity);
    }

pub returns-in-Ok-insert : goal.returns-in-Ok-insert
returns-in-Ok-insert c =
    let gap = subst (λ (l : Entries). IsGapFor l c.args.fid c.in-Err.at) c.deref.ensures.value c.in-Err.ensures.absent in
    ap as_map c.in-Ok-insert.ensures.items
    ∙ map_insert c.self.inside.used.items c.args.fid c.in-Err.at gap c.put-in-Err.new.self
    ∙ ap (λ (v : Fid). map.insert (as_map c.self.inside.used.items) c.args.fid v) c.put-in-Err.ensures
    ∙ ap (λ (m : map.FinMap nat_cmp Fid). map.insert m c.args.fid (placed c.args.place.now)) c.self.view_is
