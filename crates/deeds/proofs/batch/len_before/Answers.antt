use Rattle.std.proofs.Common.{ℕ, List, take, length, sym, ap, subst, ◌∙◌, arith}
use Rattle.deeds.specs.Deeds.{PlainDeed}
use Rattle.deeds.specs.Plain.{plains}
use Rattle.deeds.specs.Grammar.{IsBatch, spelled_deeds}
use Rattle.deeds.proofs.Fronts.{plains_taken, taken_batch, taken_short, taken_within}
use Rattle.deeds.proofs.batch.len_before.Goals as goal

pub spelled_len-requires : goal.spelled_len-requires
spelled_len-requires c =
    let items = c.args.deeds.now in
    subst IsBatch (sym (plains_taken c.min.result items)) (taken_batch c.min.result (plains items) c.requires)

pub returns-clause-count : goal.returns-clause-count
returns-clause-count c =
    let items = c.args.deeds.now in
    let same = ap plains (ap (λ (n : ℕ). take n items) c.min.ensures ∙ taken_within c.args.index items) ∙ plains_taken c.args.index items in
    omega (arith, c.spelled_len.ensures, ap (λ (ds : List PlainDeed). length (spelled_deeds ds)) same)

pub returns-clause-within : goal.returns-clause-within
returns-clause-within c =
    let items = c.args.deeds.now in
    omega (arith, c.spelled_len.ensures, ap (λ (ds : List PlainDeed). length (spelled_deeds ds)) (plains_taken c.min.result items), taken_short c.min.result (plains items))
