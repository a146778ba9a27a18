use Rattle.std.proofs.Common.{◌≡◌, ◌+◌, ◌-◌, ℕ, List, ◌++◌, length, take, drop, sym, ap, subst, ◌∙◌, append_assoc, arith, length-take, length-drop}
use Rattle.std.proofs.lemmas.List.{drop-drop}
use Rattle.outside.specs.Changes.{overwritten}
use Rattle.pending_files.specs.Later.{Shows}
use Rattle.pending_files.proofs.Shown.{laid}
use Rattle.pending_files.proofs.reading.lay.Goals as goal

pub returns-clause-shown : goal.returns-clause-shown
returns-clause-shown c = λ was le shows.
    let window = c.args.window.now in
    let piece = c.copy_from_slice.new.self in
    let bytes = c.args.bytes.now in
    let skip = c.saturating_sub-skip.result in
    let shift = c.saturating_sub-shift.result in
    let count = c.min-count.result in
    let e : skip + count - skip ≡ count = omega arith in
    let is_piece : piece ≡ take count (drop skip bytes) = c.copy_from_slice.ensures.after ∙ ap (λ (k : ℕ). take k (drop skip bytes)) e in
    let long : length piece ≡ count = ap length is_piece ∙ omega (arith, length-take count (drop skip bytes), length-drop skip bytes, c.min-count.ensures) in
    let room : shift + (shift + count - shift) ≡ shift + length piece = omega (arith, long) in
    subst (Shows c.args.at (overwritten was c.args.start bytes)) (append_assoc (take shift window) piece (drop (shift + length piece) window) ∙ ap (λ (l : List ℕ). take shift window ++ (piece ++ l)) (sym (drop-drop (shift + count - shift) shift window ∙ ap (λ (k : ℕ). drop k window) room)))
    (laid was bytes window piece c.args.start c.args.at skip shift count le (omega (arith, c.saturating_sub-skip.ensures)) (omega (arith, c.saturating_sub-shift.ensures)) (omega (arith, c.if-skip-bytes.false)) (omega (arith, c.if-shift-window.false)) (omega (arith, c.min-count.ensures)) is_piece shows)
