-- Windows of a file over which bytes are laid.
use Rattle.std.proofs.Common.{◌≡◌, ⊎_elim, ℕ, ◌+◌, ◌-◌, ◌≤◌, ◌<◌, min, List, length, get_or, take, drop, Option, Some, None, sym, ap, ◌∙◌, arith, length-take, length-drop}
use Rattle.std.proofs.lemmas.Bool.{cases_lt}
use Rattle.std.proofs.lemmas.List.{get_or-take, get_or-drop, ext_get_or}
use Rattle.outside.specs.Changes.{overwritten}
use Rattle.std.specs.Prelude.{Result, Ok, Err, IfOk}
use Rattle.outside.specs.Calls.{IsUnfit}
use Rattle.deeds.proofs.Overwritten.{long_over, get_before, get_behind, get_inside}
use Rattle.pending_files.specs.Later.{Shows}

-- bytes of which the window shows a piece
pub laid : (was bytes window piece : List ℕ) (place at skip start count : ℕ) → place ≤ length was → skip ≡ at - place → start ≡ place - at → skip < length bytes → start < length window
    → count ≡ min (length bytes - skip) (length window - start) → piece ≡ take count (drop skip bytes) → Shows at was window → Shows at (overwritten was place bytes) (overwritten window start piece)
laid was bytes window piece place at skip start count le is_skip is_start in_bytes in_window is_count is_piece shows i lt within =
    let piece_long : length piece ≡ count = ap length is_piece ∙ omega (arith, length-take count (drop skip bytes), length-drop skip bytes, is_count) in
    let in_start : start ≤ length window = omega arith in
    let new_long = long_over window start piece in_start in
    let long = long_over was place bytes le in
    ⊎_elim
    (λ (below : i < start).
    get_before window start piece i in_start below ∙ shows i (omega arith) (omega (arith, is_start, le))
    ∙ sym (get_before was place bytes (at + i) le (omega (arith, is_start))))
    (λ (from : start ≤ i).
    ⊎_elim
    (λ (to : i < start + count).
    let place_in : skip + (i - start) ≡ at + i - place = omega (arith, is_skip, is_start, from) in
    get_inside window start piece i in_start from (omega (arith, piece_long))
    ∙ ap (λ (l : List ℕ). get_or l (i - start) 0) is_piece ∙ get_or-take count (drop skip bytes) (i - start) 0 (omega arith)
    ∙ get_or-drop skip bytes (i - start) 0 ∙ ap (λ (k : ℕ). get_or bytes k 0) place_in
    ∙ sym (get_inside was place bytes (at + i) le (omega (arith, is_start, from)) (omega (arith, is_skip, is_start, is_count, from, to, in_bytes))))
    (λ (behind : start + count ≤ i).
    let here : i < length window = omega (arith, new_long, lt, piece_long, is_count) in
    let past : place + length bytes ≤ at + i = omega (arith, is_skip, is_start, is_count, behind, here, in_bytes) in
    get_behind window start piece i in_start (omega (arith, piece_long, behind)) ∙ shows i here (omega (arith, long, within, past))
    ∙ sym (get_behind was place bytes (at + i) le past))
    (cases_lt i (start + count)))
    (cases_lt i start)

-- a window that was filled by a read shows the file
pub read_shows : (was window : List ℕ) (at n : ℕ) → n ≡ min (length window) (length was - at) → take n window ≡ take n (drop at was) → Shows at was window
read_shows was window at n is_n front i lt within =
    let in_n : i < n = omega (arith, is_n) in
    sym (get_or-take n window i 0 in_n) ∙ ap (λ (l : List ℕ). get_or l i 0) front ∙ get_or-take n (drop at was) i 0 in_n ∙ get_or-drop at was i 0

-- a window that shows a file, and ends within a length of it, holds the file's bytes when it is cut to the length
pub shown_cut : (bytes window : List ℕ) (at len : ℕ) → len ≤ length bytes → length window ≤ len - at → Shows at bytes window → window ≡ take (length window) (drop at (take len bytes))
shown_cut bytes window at len le short shows =
    let long = length-take len bytes in
    ext_get_or 0 window (take (length window) (drop at (take len bytes)))
    (omega (arith, length-take (length window) (drop at (take len bytes)), length-drop at (take len bytes), long, le, short))
    (λ i lt. let here : at + i < len = omega (arith, short) in
    shows i lt (omega (arith, here, le)) ∙ sym (get_or-take (length window) (drop at (take len bytes)) i 0 lt ∙ get_or-drop at (take len bytes) i 0 ∙ get_or-take len bytes (at + i) 0 here))

pub ok_more : {X E : Type 0} (r : Result X E) (P Q : X → Type 0) → ((x : X) → P x → Q x) → IfOk r P → IfOk r Q
ok_more (Ok x) P Q more if_ok = more x if_ok
ok_more (Err e) P Q more if_ok = if_ok

pub unfit_more : {X : Type 0} (o : Option X) (before after : ℕ) (P Q : X → Type 0) → ((x : X) → Q x → P x) → IsUnfit o before after P → IsUnfit o before after Q
unfit_more None before after P Q more unfit = unfit
unfit_more (Some x) before after P Q more unfit = λ q. unfit (more x q)
