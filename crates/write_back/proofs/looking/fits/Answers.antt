use Rattle.std.proofs.Common.{List, Option, Some, None, true, refl, sym, ap, subst, ◌∙◌}
use Rattle.std.specs.Prelude.{◌↔◌, IsTrue}
use Rattle.std.proofs.lemmas.Bool.{false≢true}
use Rattle.outside.specs.Calls.{Told}
use Rattle.outside.specs.Images.{Log, now}
use Rattle.outside.proofs.Told.{told_always}
use Rattle.deeds.specs.declared.writes.Range.{Range}
use Rattle.deeds.specs.Plain.{plain_ranges}
use Rattle.write_back.specs.Headers.{BeginsWith, CanHold}
use Rattle.write_back.proofs.Showing.{if_ok}
use Rattle.write_back.proofs.Fitting.{not_held, but_header}
use Rattle.write_back.proofs.looking.fits.Goals as goal

pub returns-then-not-can_hold-clause-fits : goal.returns-then-not-can_hold-clause-fits
returns-then-not-can_hold-clause-fits g c =
    let reshape = c.in-Reshape in
    let held = c.in-Some-File.held in
    rw c.in-Reshape.is (not_held (g.R.Reads.log c.args.folder.now) reshape.path reshape.len held (plain_ranges reshape.ranges.items) _ c.in_ok-held.field-0
    (c.in-Some-File.is ∙ ap Some c.in-Some-File.field-0-is)
    (λ can. false≢true (sym c.if-not-can_hold.true ∙ c.can_hold.ensures.1 (subst (λ (l : List Range). CanHold reshape.len held (plain_ranges l)) (sym c.deref.ensures.value) can)))
    c.in_ok-held.ensures.kind)

pub returns-in-Some-clause-fits : goal.returns-in-Some-clause-fits
returns-in-Some-clause-fits g c =
    let reshape = c.in-Reshape in
    let held = c.in-Some-File.held in
    let can = subst (λ (l : List Range). CanHold reshape.len held (plain_ranges l)) c.deref.ensures.value (c.can_hold.ensures.0 c.if-not-can_hold.false) in
    rw (c.in-Reshape.is, c.in-Some.is) (if_ok _ _ c.begins_with.result (λ begins is. but_header (g.R.Reads.log c.args.folder.now) reshape.path reshape.len held (plain_ranges reshape.ranges.items)
    (Some c.in-Some.header.now) c.in_ok-held.field-0 begins (c.in-Some-File.is ∙ ap Some c.in-Some-File.field-0-is) can c.in_ok-held.ensures.kind
    (subst (λ (o : Option Log). Told o (λ l. IsTrue begins ↔ BeginsWith c.in-Some.header.now reshape.path (now l))) c.in_ok-held.ensures.log is)) c.begins_with.ensures.begins)

pub returns-in-None-clause-fits : goal.returns-in-None-clause-fits
returns-in-None-clause-fits g c =
    let reshape = c.in-Reshape in
    let held = c.in-Some-File.held in
    let can = subst (λ (l : List Range). CanHold reshape.len held (plain_ranges l)) c.deref.ensures.value (c.can_hold.ensures.0 c.if-not-can_hold.false) in
    rw (c.in-Reshape.is, c.in-None.is) (but_header (g.R.Reads.log c.args.folder.now) reshape.path reshape.len held (plain_ranges reshape.ranges.items)
    None c.in_ok-held.field-0 true (c.in-Some-File.is ∙ ap Some c.in-Some-File.field-0-is) can c.in_ok-held.ensures.kind
    (told_always (g.R.Reads.log c.args.folder.now) _ (λ l. (λ so. tt, λ t. refl))))
