use Rattle.std.proofs.Common.{◌≡◌, ◌-◌, get_or, ap, sym, ◌∙◌, arith}
use Rattle.std.proofs.lemmas.List.{length-set}
use Rattle.gcm_mode.specs.Ghash.{place_entry, times_x_power}
use Rattle.gcm_mode.proofs.Products.{place_entry-first, place_entry-more, place_entry_one, table_more}
use Rattle.gcm_mode.proofs.ghash.PlaceTable.new.Goals as goal

pub loop-nibble-preserved : goal.loop-nibble-preserved
loop-nibble-preserved c = (
  omega (arith, length-set c.loop-nibble.table c.loop-nibble.nibble c.nibble_product.result, c.loop-nibble.invariant.0),
  table_more (place_entry c.args.subkey) c.loop-nibble.table c.loop-nibble.nibble c.nibble_product.result (omega (arith, c.loop-nibble.invariant.0)) c.loop-nibble.invariant.1
      (c.nibble_product.ensures ∙ sym (place_entry-first c.args.subkey c.loop-nibble.nibble c.loop-nibble-test.true)),
)

pub loop-i-preserved : goal.loop-i-preserved
loop-i-preserved c = (
  omega (arith, length-set c.loop-i.table c.loop-i.i c.times_x4.result, c.loop-i.invariant.0),
  table_more (place_entry c.args.subkey) c.loop-i.table c.loop-i.i c.times_x4.result (omega (arith, c.loop-i.invariant.0)) c.loop-i.invariant.1
      (c.times_x4.ensures ∙ ap (times_x_power 4) (c.loop-i.invariant.1 (c.loop-i.i - 16) (omega arith)) ∙ sym (place_entry-more c.args.subkey c.loop-i.i (omega arith))),
)

pub invariant_of-result : goal.invariant_of-result
invariant_of-result c = λ j within.
    let eight : get_or c.loop-i.table 8 0 ≡ c.args.subkey = c.loop-i.invariant.1 8 (omega arith) ∙ place_entry_one c.args.subkey in
    rw eight (c.loop-i.invariant.1 j (omega arith))

pub returns : goal.returns
returns c = c.loop-i.invariant.1 8 (omega arith) ∙ place_entry_one c.args.subkey
