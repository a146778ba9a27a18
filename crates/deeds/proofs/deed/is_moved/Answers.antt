use Rattle.std.proofs.Common.{◌≡◌, Option, ap, ◌∙◌, subst, Bool}
use Rattle.std.specs.Prelude.{not}
use Rattle.outside.specs.Disk.{kind_at}
use Rattle.outside.specs.Calls.{Told}
use Rattle.outside.specs.Images.{Log, now}
use Rattle.outside.proofs.Told.{told_both, told_then}
use Rattle.deeds.proofs.Doing.{moved_exactly, not_moved, told_disk}
use Rattle.deeds.proofs.deed.is_moved.Goals as goal

pub returns-then-gone-clause-moved : goal.returns-then-gone-clause-moved
returns-then-gone-clause-moved g c =
    let from = c.args.from.now in
    let to = c.args.to.now in
    let a = c.in_ok-kind.field-0 in
    let b = c.in_ok-kind-2.field-0 in
    let first = told_disk (g.F.Reads.log c.args.folder.now) (λ d. a ≡ kind_at d from) c.in_ok-kind.ensures.kind in
    let second = told_disk (g.F.Reads.log c.kind.new.self) (λ d. b ≡ kind_at d to) c.in_ok-kind-2.ensures.kind in
    told_both (g.F.Reads.log c.args.folder.now) (λ l. a ≡ kind_at (now l) from) (λ l. b ≡ kind_at (now l) to) _
    first (subst (λ (o : Option Log). Told o (λ l. b ≡ kind_at (now l) to)) c.in_ok-kind.ensures.log second)
    (λ l ea eb. rw c.is_some-there.ensures (moved_exactly from to (now l) a b ea eb (c.is_none-gone.ensures ∙ ap (λ (t : Bool). not t) c.if-gone.true)))

pub returns-else-gone-clause-moved : goal.returns-else-gone-clause-moved
returns-else-gone-clause-moved g c =
    let from = c.args.from.now in
    let to = c.args.to.now in
    let a = c.in_ok-kind.field-0 in
    let first = told_disk (g.F.Reads.log c.args.folder.now) (λ d. a ≡ kind_at d from) c.in_ok-kind.ensures.kind in
    rw c.if-gone.false (told_then (g.F.Reads.log c.args.folder.now) (λ l. a ≡ kind_at (now l) from) _ first (λ l ea. not_moved from to (now l) a ea (c.is_none-gone.ensures ∙ ap (λ (t : Bool). not t) c.if-gone.false)))
