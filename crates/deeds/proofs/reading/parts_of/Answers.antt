use Rattle.std.proofs.Common.{◌≡◌, ℕ, ◌<◌, Bool, true, false, cond, Some, None, List, ◌++◌, ◌∷◌, [], length, refl, arith, length-append}
use Rattle.std.specs.Prelude.{IsTrue}
use Rattle.std.proofs.lemmas.Result.{err_from_is_err_and}
use Rattle.vault_path.specs.Parts.{is_part, is_path}
use Rattle.deeds.specs.declared.reading.ReadErr.{ReadErr}
use Rattle.deeds.specs.declared.reading.ReadErr.TheVariants as errors
use Rattle.deeds.specs.Reading.{Fails, items_at, short_at, part_at}
use Rattle.deeds.proofs.Loop.{goes_on, ends, is_done, bind_fails}
use Rattle.deeds.proofs.Fields.{good_part, longer_good}
use Rattle.deeds.proofs.reading.parts_of.Goals as goal

not_true : (b : Bool) → (b ≡ true → ⊥) → b ≡ false
not_true true never = absurd (never refl)
not_true false never = refl

good_read : (bytes part after : List ℕ) → short_at bytes ≡ Some (part, after) → IsTrue (is_part part) → part_at bytes ≡ Some (part, after)
unfolding part_at
good_read bytes part after e good = rw (e, good) refl

bad_read : (bytes part after : List ℕ) → short_at bytes ≡ Some (part, after) → is_part part ≡ false → part_at bytes ≡ None
unfolding part_at
bad_read bytes part after e bad = rw (e, bad) refl

fails_read : (bytes : List ℕ) (e : ReadErr) → Fails e (short_at bytes) → Fails e (part_at bytes)
unfolding part_at
fails_read bytes e fails = bind_fails e (short_at bytes) (λ part. cond (is_part part.0) (Some part) None) fails

pub returns-in_err-part : goal.returns-in_err-part
returns-in_err-part c =
    let p = err_from_is_err_and c.from_residual.result c.from_residual.ensures.1 in
    rw (p.1, p.2) (ends part_at c.in_err-part.field-0.0 c.loop.path c.args.count c.loop.counter c.loop.rest.now (items_at part_at c.args.count c.args.bytes.now) c.loop-test.true
    (fails_read c.loop.rest.now c.in_err-part.field-0.0 c.in_err-part.ensures) c.loop.invariant.read)

pub loop-preserved : goal.loop-preserved
loop-preserved c =
    let part = c.in_ok-part.part.now in
    let path = c.loop.path in
    let longer : c.in_ok-path.path ≡ path ++ part ∷ [] = c.in_ok-path.ensures.path in
    let good : IsTrue (is_path (path ++ part ∷ [])) = c.in_ok-path.ensures.exact.0 refl in
    let read = good_read c.loop.rest.now part c.in_ok-part.after.now c.in_ok-part.ensures (good_part path part good) in
    record {
      read = rw longer (goes_on part_at path c.args.count c.loop.counter c.loop.rest.now part c.in_ok-part.after.now (items_at part_at c.args.count c.args.bytes.now) c.loop-test.true read c.loop.invariant.read);
      long = rw longer (omega (arith, c.loop.invariant.long, length-append path (part ∷ [])));
      good = rw longer good;
    }

pub returns-in_err-path : goal.returns-in_err-path
returns-in_err-path c =
    let p = err_from_is_err_and c.from_residual-in_err-path.result c.from_residual-in_err-path.ensures.1 in
    let part = c.in_ok-part.part.now in
    let path = c.loop.path in
    let few : length path < 6 = omega (arith, c.loop.invariant.long, c.loop-test.true, c.requires) in
    let bad : is_part part ≡ false = not_true (is_part part) (λ is. let f : false ≡ true = c.in_err-path.ensures.exact.1 (longer_good path part c.loop.invariant.good few is) in cc) in
    rw (p.1, p.2) (ends part_at errors.Bad path c.args.count c.loop.counter c.loop.rest.now (items_at part_at c.args.count c.args.bytes.now) c.loop-test.true (bad_read c.loop.rest.now part c.in_ok-part.after.now c.in_ok-part.ensures bad) c.loop.invariant.read)

pub returns : goal.returns
returns c = is_done part_at c.loop.path c.args.count c.loop.counter c.loop.rest.now (items_at part_at c.args.count c.args.bytes.now) c.loop-test.false c.loop.invariant.read
