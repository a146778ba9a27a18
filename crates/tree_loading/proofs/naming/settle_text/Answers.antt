use Rattle.std.proofs.Common.{◌≡◌, List, ℕ, true, sym, ap, subst, ◌∙◌}
use Rattle.outside.specs.Images.{disk_in}
use Rattle.outside.proofs.Told.{told_always}
use Rattle.tree_loading.specs.Format.{is_identifier}
use Rattle.tree_loading.specs.Under.{HasFolder}
use Rattle.tree_loading.proofs.Settling.{claimed_now, settled_again, was_claimed, was_free, told_absent, told_present}
use Rattle.tree_loading.proofs.naming.settle_text.Goals as goal

pub returns-then-not-branch-clause-claims : goal.returns-then-not-branch-clause-claims
returns-then-not-branch-clause-claims g c =
    let valid : is_identifier c.args.text ≡ true = ap is_identifier (sym c.as_bytes.ensures) ∙ sym c.if-not-is_identifier.ensures in
    let has : HasFolder c.args.keys.now c.args.text c.characters_of-folder.result = subst (λ (z : List ℕ). HasFolder c.args.keys.now z c.characters_of-folder.result) c.as_bytes-2.ensures c.characters_of-folder.ensures in
    claimed_now c.args.keys.now c.args.text c.characters_of-folder.result valid has c.args.claims.now c.insert.new.self c.in_ok-insert.ensures.updates

pub returns-then-not-branch-clause-settled : goal.returns-then-not-branch-clause-settled
returns-then-not-branch-clause-settled g c =
    let valid : is_identifier c.args.text ≡ true = ap is_identifier (sym c.as_bytes.ensures) ∙ sym c.if-not-is_identifier.ensures in
    let has : HasFolder c.args.keys.now c.args.text c.characters_of-folder.result = subst (λ (z : List ℕ). HasFolder c.args.keys.now z c.characters_of-folder.result) c.as_bytes-2.ensures c.characters_of-folder.ensures in
    told_always (disk_in (g.R.Reads.log c.args.from.now)) _ (λ d. settled_again c.args.keys.now c.args.text c.characters_of-folder.result valid has d c.args.claims.now
    (was_claimed _ c.in_ok-insert.field-0 c.in_ok-insert.ensures.added c.if-not-branch.true))

pub returns-then-not-branch-2-clause-claims : goal.returns-then-not-branch-2-clause-claims
returns-then-not-branch-2-clause-claims g c =
    let valid : is_identifier c.args.text ≡ true = ap is_identifier (sym c.as_bytes.ensures) ∙ sym c.if-not-is_identifier.ensures in
    let has : HasFolder c.args.keys.now c.args.text c.characters_of-folder.result = subst (λ (z : List ℕ). HasFolder c.args.keys.now z c.characters_of-folder.result) c.as_bytes-2.ensures c.characters_of-folder.ensures in
    claimed_now c.args.keys.now c.args.text c.characters_of-folder.result valid has c.args.claims.now c.insert.new.self c.in_ok-insert.ensures.updates

pub returns-then-not-branch-2-clause-settled : goal.returns-then-not-branch-2-clause-settled
returns-then-not-branch-2-clause-settled g c =
    let valid : is_identifier c.args.text ≡ true = ap is_identifier (sym c.as_bytes.ensures) ∙ sym c.if-not-is_identifier.ensures in
    let has : HasFolder c.args.keys.now c.args.text c.characters_of-folder.result = subst (λ (z : List ℕ). HasFolder c.args.keys.now z c.characters_of-folder.result) c.as_bytes-2.ensures c.characters_of-folder.ensures in
    told_absent (disk_in (g.R.Reads.log c.args.from.now)) c.args.keys.now c.args.text c.characters_of-folder.result c.host_folder-path.result c.args.claims.now _ valid has
    (was_free _ c.in_ok-insert.field-0 c.in_ok-insert.ensures.added c.if-not-branch.false) c.host_folder-path.ensures c.in_ok-is_listed.ensures.listed c.if-not-branch-2.true

pub returns-clause-claims : goal.returns-clause-claims
returns-clause-claims g c =
    let valid : is_identifier c.args.text ≡ true = ap is_identifier (sym c.as_bytes.ensures) ∙ sym c.if-not-is_identifier.ensures in
    let has : HasFolder c.args.keys.now c.args.text c.characters_of-folder.result = subst (λ (z : List ℕ). HasFolder c.args.keys.now z c.characters_of-folder.result) c.as_bytes-2.ensures c.characters_of-folder.ensures in
    claimed_now c.args.keys.now c.args.text c.characters_of-folder.result valid has c.args.claims.now c.insert.new.self c.in_ok-insert.ensures.updates

pub returns-clause-settled : goal.returns-clause-settled
returns-clause-settled g c =
    let valid : is_identifier c.args.text ≡ true = ap is_identifier (sym c.as_bytes.ensures) ∙ sym c.if-not-is_identifier.ensures in
    let has : HasFolder c.args.keys.now c.args.text c.characters_of-folder.result = subst (λ (z : List ℕ). HasFolder c.args.keys.now z c.characters_of-folder.result) c.as_bytes-2.ensures c.characters_of-folder.ensures in
    told_present (disk_in (g.R.Reads.log c.args.from.now)) c.args.keys.now c.args.text c.characters_of-folder.result c.host_folder-path.result c.args.claims.now _ valid has
    (was_free _ c.in_ok-insert.field-0 c.in_ok-insert.ensures.added c.if-not-branch.false) c.host_folder-path.ensures c.in_ok-is_listed.ensures.listed c.if-not-branch-2.false
