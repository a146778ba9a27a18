use Rattle.std.proofs.Common.{◌≡◌, ℕ, List, Ok, sym, ap, ◌∙◌, subst}
use Rattle.std.specs.Option.{option_copied}
use Rattle.name_places.specs.New.{IsNewPlace}
use Rattle.tree_model.specs.Names.{clear_name}
use Rattle.tree_loading.specs.Format.{sealing_of}
use Rattle.live_tree.specs.Held.{IsFree, IsNamed}
use Rattle.node_changes.specs.Placed.{identifier_in}
use Rattle.node_changes.specs.Creating.{IsSiteRefusal}
use Rattle.node_changes.proofs.Sites.{absent_refused, other_refused, fault_refused, lacks_memory, exists_refused, full_refused, some_found, none_found, no_identifier, directory_is, kind_is, text_fits}
use Rattle.node_changes.proofs.tree.VaultTree.site.Goals as goal

pub returns-in_default-clause-refusal : goal.returns-in_default-clause-refusal
returns-in_default-clause-refusal c = absent_refused c.args.self.now.live c.args.parent c.args.name.now (sym c.node.ensures ∙ ap option_copied c.in_default.is)

pub returns-in_default-identifier_in-clause-refusal : goal.returns-in_default-identifier_in-clause-refusal
returns-in_default-identifier_in-clause-refusal c =
    let held = c.in-Some.node.now in
    other_refused c.args.self.now.live c.args.parent c.args.name.now held (sym c.in-Some.ensures)
    (no_identifier held.kept.what (ap identifier_in (sym c.what.ensures) ∙ sym c.identifier_in.ensures ∙ ap option_copied c.in_default-identifier_in.is))

pub returns-in-Err-clause-refusal : goal.returns-in-Err-clause-refusal
returns-in-Err-clause-refusal c =
    let held = c.in-Some.node.now in
    subst (IsSiteRefusal c.args.self.now.live c.args.parent c.args.name.now) (sym c.name_refusal.ensures)
    (fault_refused c.args.self.now.live c.args.parent c.args.name.now held (sym c.in-Some.ensures) (kind_is held.kept.what c.in-Some-identifier_in.identifier.now (ap identifier_in (sym c.what.ensures) ∙ sym c.in-Some-identifier_in.ensures))
    c.in-Err.fault c.in-Err.ensures.fault)

pub returns-in_default-from_slice-clause-refusal : goal.returns-in_default-from_slice-clause-refusal
returns-in_default-from_slice-clause-refusal c =
    let held = c.in-Some.node.now in
    lacks_memory c.args.self.now.live c.args.parent c.args.name.now held (sym c.in-Some.ensures) (kind_is held.kept.what c.in-Some-identifier_in.identifier.now (ap identifier_in (sym c.what.ensures) ∙ sym c.in-Some-identifier_in.ensures))

pub returns-then-is_some-clause-refusal : goal.returns-then-is_some-clause-refusal
returns-then-is_some-clause-refusal c =
    let live = c.args.self.now.live in
    let held = c.in-Some.node.now in
    let n = c.in-Ok-from_slice.name in
    let found = some_found c.look.result (IsNamed live c.args.parent n) c.look.ensures.found (sym c.is_some.ensures ∙ c.if-is_some.true) in
    exists_refused live c.args.parent c.args.name.now held (sym c.in-Some.ensures) (kind_is held.kept.what c.in-Some-identifier_in.identifier.now (ap identifier_in (sym c.what.ensures) ∙ sym c.in-Some-identifier_in.ensures))
    c.len-count.ensures.tree n (c.in-Ok.ensures.name ∙ ap (λ (m : List ℕ). Ok m) (sym (c.in-Ok-from_slice.ensures ∙ c.as_bytes.ensures.bytes))) found.0 found.1

pub returns-then-is_full-clause-refusal : goal.returns-then-is_full-clause-refusal
returns-then-is_full-clause-refusal c =
    let live = c.args.self.now.live in
    let held = c.in-Some.node.now in
    let n = c.in-Ok-from_slice.name in
    full_refused live c.args.parent c.args.name.now held (sym c.in-Some.ensures) (kind_is held.kept.what c.in-Some-identifier_in.identifier.now (ap identifier_in (sym c.what.ensures) ∙ sym c.in-Some-identifier_in.ensures))
    c.len-count.ensures.tree n (c.in-Ok.ensures.name ∙ ap (λ (m : List ℕ). Ok m) (sym (c.in-Ok-from_slice.ensures ∙ c.as_bytes.ensures.bytes)))
    (none_found c.look.result (IsFree live c.args.parent n) c.look.ensures.none (sym c.is_some.ensures ∙ c.if-is_some.false))
    (λ contents. c.is_full.ensures contents ∙ c.if-is_full.true)

pub returns-in-Ok-place_name-clause-site : goal.returns-in-Ok-place_name-clause-site
returns-in-Ok-place_name-clause-site c =
    let live = c.args.self.now.live in
    let held = c.in-Some.node.now in
    let identifier = c.in-Some-identifier_in.identifier.now in
    let n = c.in-Ok-from_slice.name in
    let same : n ≡ c.in-Ok.clear = c.in-Ok-from_slice.ensures ∙ c.as_bytes.ensures.bytes in
    let s = sealing_of c.args.self.now.keys in
    record {
      held = held;
      there = sym c.in-Some.ensures;
      identifier = identifier;
      dir = directory_is held.kept.what identifier c.in-Some-folder.folder.now (ap identifier_in (sym c.what.ensures) ∙ sym c.in-Some-identifier_in.ensures) (sym c.in-Some-folder.ensures.value);
      path = c.in-Some-folder.ensures.path;
      clear = subst (λ (m : List ℕ). clear_name m ≡ Ok m) (sym same) c.as_bytes.ensures.clear;
      free = none_found c.look.result (IsFree live c.args.parent n) c.look.ensures.none (sym c.is_some.ensures ∙ c.if-is_some.false);
      room = λ contents. c.is_full.ensures contents ∙ c.if-is_full.false;
      threshold = c.args.self.now.threshold;
      place = subst (λ (m : List ℕ). IsNewPlace s identifier m c.args.self.now.threshold c.in-Ok-place_name.place) (sym same) c.in-Ok-place_name.ensures;
      short = text_fits s c.are_ciphers.ensures identifier c.in-Ok.clear c.in-Ok-place_name.place.text c.in-Ok-place_name.ensures.text c.in-Ok-place_name.ensures.named;
    }

pub returns-clause-refusal : goal.returns-clause-refusal
returns-clause-refusal c =
    let held = c.in-Some.node.now in
    lacks_memory c.args.self.now.live c.args.parent c.args.name.now held (sym c.in-Some.ensures) (kind_is held.kept.what c.in-Some-identifier_in.identifier.now (ap identifier_in (sym c.what.ensures) ∙ sym c.in-Some-identifier_in.ensures))
