use Rattle.std.proofs.Common.{◌≡◌, ◌∷◌, ◌++◌, [], List, ℕ, length, Option, Some, None, sym, ap, ◌∙◌, append_assoc, length-append, arith}
use Rattle.outside.proofs.Lists.{all_more}
use Rattle.deeds.specs.Deeds.{PlainDeed}
use Rattle.deeds.specs.Plain.{plain, plains}
use Rattle.deeds.specs.Grammar.{spelled_deeds, spelled_deed, IsDeed}
use Rattle.deeds.specs.Reading.{deed_at}
use Rattle.deeds.proofs.Phases.{plains_pushed}
use Rattle.deeds.proofs.Windows.{spelled_end}
use Rattle.deeds.proofs.DeedBytes.{deed_takes, deed_again}
use Rattle.deeds.proofs.batch.deeds_of.Goals as goal

no_some : {A : Type 0} (x : A) (o : Option A) → o ≡ Some x → o ≡ None → ⊥
no_some x (Some y) e none = cc
no_some x None e none = cc

none_here : (rest : List ℕ) (deed : PlainDeed) (tail : List ℕ) → deed_at rest ≡ None → IsDeed deed → rest ≡ spelled_deed deed ++ tail → ⊥
none_here rest deed tail none is e = no_some (deed, tail) (deed_at rest) (ap deed_at e ∙ deed_again deed tail is) none

pub returns-in-Err-Bad-clause-bad : goal.returns-in-Err-Bad-clause-bad
returns-in-Err-Bad-clause-bad c =
    let ds = plains c.loop.deeds.items in
    let rest = c.loop.rest.now in
    record {
      front = ds;
      rest = rest;
      good = c.loop.invariant.good;
      fewer = omega (arith, c.loop.invariant.long, c.loop-test.true);
      parts = c.loop.invariant.parts;
      place = omega (arith, ap (λ (l : List ℕ). length l) c.loop.invariant.parts, length-append (spelled_deeds ds) rest);
      bad = λ deed tail is e. none_here rest deed tail (rw c.in-Err-Bad.field-0-is at c.in-Err-Bad.ensures) is e;
    }

pub loop-preserved : goal.loop-preserved
loop-preserved c =
    let items = c.loop.deeds.items in
    let ds = plains items in
    let d = c.in-Ok.deed in
    let after = c.in-Ok.after.now in
    let t = deed_takes c.loop.rest.now (plain d, after) c.loop.invariant.fits c.in-Ok.ensures in
    let pushed : plains c.push.new.self.items ≡ ds ++ plain d ∷ [] = ap plains c.in_ok-push-in-Ok.ensures.items ∙ plains_pushed items d in
    record {
      parts = rw pushed (c.loop.invariant.parts ∙ ap (λ (l : List ℕ). spelled_deeds ds ++ l) t.0.parts ∙ sym (append_assoc (spelled_deeds ds) (spelled_deed (plain d)) after) ∙ ap (λ (l : List ℕ). l ++ after) (sym (spelled_end spelled_deed ds (plain d))));
      long = rw pushed (omega (arith, c.loop.invariant.long, length-append ds (plain d ∷ [])));
      good = rw pushed (all_more IsDeed ds (plain d) c.loop.invariant.good t.1);
      fits = t.0.rest_fits;
    }
