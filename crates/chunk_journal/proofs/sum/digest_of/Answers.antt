use Rattle.std.proofs.Common.{◌≡◌, ℕ, ◌+◌, List, ◌∷◌, ◌++◌, length, take, ap, subst, ◌∙◌, arith}
use Rattle.std.proofs.lemmas.List.{take_all}
use Rattle.sha2.specs.Hashers.{Holds256}
use Rattle.deeds.specs.Grammar.{behind_gate}
use Rattle.deeds.specs.Plain.{plains}
use Rattle.chunk_journal.proofs.Pieces.{pieces_join}
use Rattle.chunk_journal.proofs.sum.digest_of.Goals as goal

pub loop-at-preserved : goal.loop-at-preserved
loop-at-preserved c =
    let bs = behind_gate (plains c.args.deeds.now) in
    let at = c.loop-at.at in
    let n = c.write_batch-n.result in
    let room = length c.loop-at.piece in
    let join = pieces_join at room n bs c.loop-at.invariant.within c.write_batch-n.ensures.count in
    record {
      holds = subst (λ (l : List ℕ). Holds256 c.update-in-loop-at.new.self (1 ∷ l)) (ap (λ (l : List ℕ). take at bs ++ l) c.write_batch-n.ensures.bytes ∙ join)
          (c.update-in-loop-at.ensures (1 ∷ take at bs) c.loop-at.invariant.holds);
      within = omega (arith, c.loop-at.invariant.within, c.write_batch-n.ensures.count);
      long = c.loop-at.invariant.long;
    }

pub returns : goal.returns
returns c =
    let bs = behind_gate (plains c.args.deeds.now) in
    let at = c.loop-at.at in
    let all : take at bs ≡ bs = take_all at bs (omega (arith, c.loop-at-test.false, c.loop-at.invariant.long)) in
    c.finalize.ensures (1 ∷ bs) (subst (λ (l : List ℕ). Holds256 c.loop-at.hasher (1 ∷ l)) all c.loop-at.invariant.holds)
