-- What reads show of a header that is kept: what waits for its file leaves it as it is.
use Rattle.std.proofs.Common.{◌≡◌, ⊎_elim, ℕ, ◌+◌, ◌-◌, ◌≤◌, ◌<◌, min, List, [], ◌∷◌, length, take, drop, Bool, Option, Some, None, refl, sym, ap, subst, ◌∙◌, arith, length-take}
use Rattle.std.specs.Option.{option_map}
use Rattle.std.proofs.lemmas.Bool.{cases_lt, le-ltb}
use Rattle.std.proofs.lemmas.List.{take-take, drop-take}
use Rattle.outside.specs.Calls.{Told}
use Rattle.outside.specs.Disk.{Disk, Path, file, node_at}
use Rattle.outside.specs.Images.{Log, now, disk_in}
use Rattle.deeds.specs.Reshape.{Ranges, written, CanWrite}
use Rattle.deeds.specs.Deeds.{PlainDeed, reshaped}
use Rattle.pending_files.specs.Pending.{AreChunks, file_of, ranges_or_none, cut_to}
use Rattle.pending_files.specs.Later.{IsReshaped}
use Rattle.pending_files.specs.Laid.{laid, laid_log, CanWait}
use Rattle.pending_files.proofs.Ranges.{Cut}
use Rattle.pending_files.proofs.Written.{cut_written}
use Rattle.pending_files.proofs.Files.{ranges_are}
use Rattle.pending_files.proofs.Doing.{later_file}
use Rattle.write_back.specs.Headers.{header_of, AreHeaders}
use Rattle.write_back.proofs.Fitting.{header_begins}

-- ---- what waits leaves the first 68 bytes

-- none of its ranges begins among them
none_before : (from most : ℕ) (rs : Ranges) → AreChunks from most rs → cut_to 68 rs ≡ []
none_before from most [] are = refl
none_before from most (r ∷ rs) are = ap (λ (b : Bool). Cut b 68 r (cut_to 68 rs)) (le-ltb r.0 68 (omega (arith, are.1.1)))

header_stays : (most : ℕ) (rs : Ranges) (was : List ℕ) → AreChunks 0 most rs → CanWrite rs was → take 68 (written rs was) ≡ take 68 was
header_stays most rs was are can =
    sym (cut_written 68 0 most rs was are can).same ∙ ap (λ (l : Ranges). take 68 (written l was)) (none_before 0 most rs are)

-- ---- windows of bytes that begin with a header

window_in : (at n most : ℕ) (bytes : List ℕ) → at + n ≤ most → take n (drop at (take most bytes)) ≡ drop at (take (at + n) bytes)
window_in at n most bytes le = sym (drop-take at n (take most bytes)) ∙ ap (drop at) (take-take (at + n) most bytes le)

same_window : (bytes header : List ℕ) (len at room n : ℕ) → take 68 bytes ≡ header → at + room ≤ 68 → n ≡ min room (len - at) → take n (drop at header) ≡ take n (drop at (take len bytes))
same_window bytes header len at room n begins within count = ⊎_elim
    (λ (lt : at < len).
    ap (λ (l : List ℕ). take n (drop at l)) (sym begins) ∙ window_in at n 68 bytes (omega (arith, within, count)) ∙ sym (window_in at n len bytes (omega (arith, lt, count))))
    (λ (le : len ≤ at).
    let none : n ≡ 0 = omega (arith, le, count) in
    subst (λ (k : ℕ). take k (drop at header) ≡ take k (drop at (take len bytes))) (sym none) refl)
    (cases_lt at len)

-- ---- what is shown

module _ (ds : List PlainDeed) (headers : List (Path × List ℕ)) (path : Path) (header shown : List ℕ) (len at room n : ℕ) (kept : header_of path headers ≡ Some header)
    (within : at + room ≤ 68) (count : n ≡ min room (len - at)) (front : take n shown ≡ take n (drop at header)) where
  shown_laid : (d : Disk) → CanWait ds d → AreHeaders headers d → (o : Option (ℕ × Ranges)) → file_of path ds ≡ o → Some len ≡ option_map (λ found. found.0) o
      → (bytes : List ℕ) × (node_at (laid ds d) path ≡ Some (file bytes)) × (n ≡ min room (length bytes - at)) × (take n shown ≡ take n (drop at bytes))
  shown_laid d can are None is waits = absurd cc
  shown_laid d can are (Some f) is waits =
      let len_is : len ≡ f.0 = cc in
      let file_is : IsReshaped path f.0 f.1 d (laid ds d) = later_file path ds f.0 f.1 d (laid ds d) can.pending.each can.pending.apart is can.does in
      let chunks = ranges_are path ds can.pending.each in
      let whole = written f.1 file_is.was in
      let begins : take 68 whole ≡ header =
      header_stays chunks.0 f.1 file_is.was (subst (λ (o : Option (ℕ × Ranges)). AreChunks 0 chunks.0 (ranges_or_none o)) is chunks.1) file_is.can
      ∙ header_begins headers path header d kept are file_is.was file_is.there in
      let long : length (take f.0 whole) ≡ len = omega (arith, length-take f.0 whole, file_is.long, len_is) in (
        reshaped f.0 f.1 file_is.was,
        file_is.is,
        omega (arith, count, long),
        front ∙ same_window whole header f.0 at room n begins within (omega (arith, count, len_is)),
      )

  pub told_shown : (log : Option Log) → Told log (λ l. CanWait ds (now l) × AreHeaders headers (now l)) → Some len ≡ option_map (λ found. found.0) (file_of path ds)
      → Told (disk_in (option_map (laid_log ds) log)) (λ d. (bytes : List ℕ) × (node_at d path ≡ Some (file bytes)) × (n ≡ min room (length bytes - at)) × (take n shown ≡ take n (drop at bytes)))
  told_shown None both waits = tt
  told_shown (Some l) both waits = shown_laid (now l) both.0 both.1 (file_of path ds) refl waits
