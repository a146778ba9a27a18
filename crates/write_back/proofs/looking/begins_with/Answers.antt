use Rattle.std.proofs.Common.{sym, ◌∙◌, arith, eqb-true}
use Rattle.std.proofs.lemmas.Slice.Eq.{bytes_eq-Decides}
use Rattle.write_back.proofs.Fitting.{told_begins}
use Rattle.write_back.proofs.looking.begins_with.Goals as goal

pub returns-then-count-eq-HEADER_LENGTH-clause-begins : goal.returns-then-count-eq-HEADER_LENGTH-clause-begins
returns-then-count-eq-HEADER_LENGTH-clause-begins g c =
    let out = c.read.new.out in
    let header = c.args.header.now in
    let same = bytes_eq-Decides out header in
    told_begins (g.R.Reads.log c.args.folder.now) c.args.path.now out header c.in_ok-count.count (omega (arith, c.read.auto.out)) (omega arith) c.in_ok-count.ensures.bytes c.are_same.result
    (λ so. (c.if-count-eq-HEADER_LENGTH.true, same.0 (sym c.are_same.ensures ∙ so)), λ both. c.are_same.ensures ∙ same.1 both.1)

pub returns-else-count-eq-HEADER_LENGTH-clause-begins : goal.returns-else-count-eq-HEADER_LENGTH-clause-begins
returns-else-count-eq-HEADER_LENGTH-clause-begins g c =
    told_begins (g.R.Reads.log c.args.folder.now) c.args.path.now c.read.new.out c.args.header.now c.in_ok-count.count (omega (arith, c.read.auto.out)) (omega arith) c.in_ok-count.ensures.bytes _
    (λ so. absurd (c.if-count-eq-HEADER_LENGTH.false (eqb-true _ _ so)), λ both. absurd (c.if-count-eq-HEADER_LENGTH.false both.0))
