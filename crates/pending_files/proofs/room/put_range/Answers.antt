use Rattle.std.proofs.Common.{◌≡◌, Bool, List, ℕ, true, sym, ap, ◌∙◌}
use Rattle.std.specs.Prelude.{is_ok, not, insert, if◌then◌else◌}
use Rattle.deeds.specs.declared.writes.Range.{Range}
use Rattle.deeds.specs.Plain.{plain_ranges}
use Rattle.pending_files.proofs.Ranges.{plain_inserted}
use Rattle.pending_files.proofs.room.put_range.Goals as goal

pub returns-clause-put : goal.returns-clause-put
returns-clause-put c =
    let s = c.buffer_for-bytes.new.ranges.items in
    let i = c.count_before-index.result in
    let x : Range = record { at = c.args.at; bytes = c.filled-bytes.result } in
    let ok : is_ok c.insert.result ≡ true = c.is_err.ensures.negation ∙ ap not c.if-is_err.false in
    ap plain_ranges (c.insert.ensures.items ∙ ap (λ (b : Bool). if b then insert s i x else s) ok) ∙ plain_inserted s i x
    ∙ ap (λ (bytes : List ℕ). insert (plain_ranges s) i (c.args.at, bytes)) c.filled-bytes.ensures.bytes ∙ sym (c.buffer_for-bytes.ensures.others c.args.sealed.now)
