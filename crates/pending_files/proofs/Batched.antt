-- What waits is a batch that can be done again.
use Rattle.std.proofs.Common.{◌≡◌, ◌≢◌, ℕ, ◌+◌, ◌*◌, ◌≤◌, ◌<◌, ◌^◌, List, [], ◌∷◌, ◌++◌, length, Bool, true, refl, ap, ◌∙◌, arith, length-append}
use Rattle.std.specs.Prelude.{◌&&◌, nat_le}
use Rattle.std.specs.Int.{w32, w64, to_be_bytes}
use Rattle.std.specs.List.{AllByRecursion}
use Rattle.std.proofs.lemmas.Bool.{le-leb}
use Rattle.outside.specs.Disk.{Path}
use Rattle.deeds.specs.Reshape.{Ranges}
use Rattle.deeds.specs.Deeds.{PlainDeed, MakesDir, Puts, Renames, Removes, RemovesDir, Reshapes, NotIn, Unnamed, names}
use Rattle.deeds.specs.Grammar.{spelled_all, spelled_deed, spelled_deeds, spelled_path, spelled_range, IsDeed, IsBatch, FitsRange, rise_within}
use Rattle.deeds.specs.Repeatable.{IsRepeatable}
use Rattle.deeds.proofs.Fields.{wide32, wide64}
use Rattle.deeds.proofs.Lengths.{path_long}
use Rattle.pending_files.specs.Pending.{AreChunks, IsWaiting, ArePending, chunk_count, its_ranges}

-- ---- the grammar

rises : (low from len : ℕ) (rs : Ranges) → low ≤ from → AreChunks from len rs → rise_within low len rs ≡ true
rises low from len [] le are = refl
rises low from len (r ∷ rs) le are =
    ap (λ (b : Bool). b && (nat_le (r.0 + length r.1) len && rise_within (r.0 + length r.1) len rs)) (le-leb low r.0 (omega (arith, le, are.0)))
    ∙ ap (λ (b : Bool). b && rise_within (r.0 + length r.1) len rs) (le-leb (r.0 + length r.1) len are.3)
    ∙ rises (r.0 + length r.1) (r.0 + 32796) len rs (omega (arith, are.2)) are.4

fits_each : (from len : ℕ) (rs : Ranges) → len < 2 ^ 64 → AreChunks from len rs → AllByRecursion FitsRange rs
fits_each from len [] fits are = tt
fits_each from len (r ∷ rs) fits are = (record { at = omega (arith, are.3, fits); short = omega (arith, are.2) }, fits_each (r.0 + 32796) len rs fits are.4)

not_root : (path : Path) → 1 < length path → path ≢ []
not_root [] deep = λ e. omega (arith, deep)
not_root (x ∷ path) deep = λ e. cc

is_deed : (x : PlainDeed) → IsWaiting x → length (its_ranges x) ≤ 64 → IsDeed x
is_deed (Reshapes path len rs) waits few = record {
  named = record { good = waits.inside.good; below = not_root path waits.inside.deep };
  fits = waits.fits;
  few = omega (arith, few);
  short = fits_each 0 len rs waits.fits waits.chunks;
  rise = rises 0 0 len rs (omega arith) waits.chunks;
}
is_deed (MakesDir p) waits few = absurd waits
is_deed (Puts p bytes) waits few = absurd waits
is_deed (Renames p q) waits few = absurd waits
is_deed (Removes p) waits few = absurd waits
is_deed (RemovesDir p) waits few = absurd waits

each_deed : (xs : List PlainDeed) → AllByRecursion IsWaiting xs → chunk_count xs ≤ 64 → AllByRecursion IsDeed xs
each_deed [] each few = tt
each_deed (x ∷ xs) each few = (is_deed x each.0 (omega (arith, few)), each_deed xs each.1 (omega (arith, few)))

-- ---- its length

ranges_long : (from len : ℕ) (rs : Ranges) → AreChunks from len rs → length (spelled_all spelled_range rs) ≤ 32808 * length rs
ranges_long from len [] are = omega arith
ranges_long from len (r ∷ rs) are =
    omega (
      arith,
      are.2,
      ranges_long (r.0 + 32796) len rs are.4,
      length-append (spelled_range r) (spelled_all spelled_range rs),
      length-append (to_be_bytes w64 r.0) (to_be_bytes w32 (length r.1) ++ r.1),
      length-append (to_be_bytes w32 (length r.1)) r.1,
      wide64.len r.0,
      wide32.len (length r.1),
    )

deed_long : (x : PlainDeed) → IsWaiting x → length (spelled_deed x) ≤ 1550 + 32808 * length (its_ranges x)
deed_long (Reshapes path len rs) waits =
    omega (
      arith,
      path_long path waits.inside.good,
      ranges_long 0 len rs waits.chunks,
      length-append (spelled_path path) (to_be_bytes w64 len ++ (to_be_bytes w32 (length rs) ++ spelled_all spelled_range rs)),
      length-append (to_be_bytes w64 len) (to_be_bytes w32 (length rs) ++ spelled_all spelled_range rs),
      length-append (to_be_bytes w32 (length rs)) (spelled_all spelled_range rs),
      wide64.len len,
      wide32.len (length rs),
    )
deed_long (MakesDir p) waits = absurd waits
deed_long (Puts p bytes) waits = absurd waits
deed_long (Renames p q) waits = absurd waits
deed_long (Removes p) waits = absurd waits
deed_long (RemovesDir p) waits = absurd waits

deeds_long : (xs : List PlainDeed) → AllByRecursion IsWaiting xs → length (spelled_deeds xs) ≤ 1550 * length xs + 32808 * chunk_count xs
deeds_long [] each = omega arith
deeds_long (x ∷ xs) each = omega (arith, deed_long x each.0, deeds_long xs each.1, length-append (spelled_deed x) (spelled_deeds xs))

pub is_batch : (xs : List PlainDeed) → ArePending xs → IsBatch xs
is_batch xs are = record {
  few = omega (arith, are.few_files);
  each = each_deed xs are.each are.few_chunks;
  short = omega (arith, deeds_long xs are.each, are.few_files, are.few_chunks, length-append (to_be_bytes w32 (length xs)) (spelled_deeds xs), wide32.len (length xs));
}

-- ---- done again

not_lone : (name : List ℕ) (path : Path) → 1 < length path → name ∷ [] ≢ path
not_lone name path deep = λ e. omega (arith, deep, ap length e)

beside : (name : List ℕ) (x : PlainDeed) → IsWaiting x → NotIn (name ∷ []) (names x)
beside name (Reshapes path len rs) waits = (not_lone name path waits.inside.deep, tt)
beside name (MakesDir p) waits = absurd waits
beside name (Puts p bytes) waits = absurd waits
beside name (Renames p q) waits = absurd waits
beside name (Removes p) waits = absurd waits
beside name (RemovesDir p) waits = absurd waits

all_beside : (name : List ℕ) (xs : List PlainDeed) → AllByRecursion IsWaiting xs → Unnamed (name ∷ []) xs
all_beside name [] each = tt
all_beside name (x ∷ xs) each = (beside name x each.0, all_beside name xs each.1)

pub is_repeatable : (xs : List PlainDeed) → ArePending xs → IsRepeatable xs
is_repeatable xs are = record { apart = are.apart; beside_journal = all_beside _ xs are.each; beside_new = all_beside _ xs are.each }
