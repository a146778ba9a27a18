-- If nothing failed and no directory held foreign entries, which places are taken.
use Rattle.std.proofs.Common.{◌≡◌, ℕ, zero, suc, Bool, false, cond, List, [], ◌∷◌, take, Option, Some, IsNone, IsSome, refl, sym, subst}
use Rattle.std.proofs.lemmas.Option.{same_Some}
use Rattle.outside.specs.Calls.{Told}
use Rattle.outside.specs.Images.{Log, log_at, now}
use Rattle.outside.proofs.Told.{told_then}
use Rattle.vault_keys.specs.Keys.{KeyPair}
use Rattle.tree_model.specs.Rows.{Rows}
use Rattle.tree_model.specs.History.{Entry, Origin, Tally, after, entry_at, next, rows_at, tally_at, tally_of, AreCaused, MayDraw}
use Rattle.tree_model.specs.Laws.{AreStepped}
use Rattle.store_laws.specs.Store.{ArePlaced}
use Rattle.store_laws.proofs.Requests.{places_are_anothers}
use Rattle.store_laws.proofs.Unmarked.{histories_stay_unmarked}
use Rattle.vault_top.specs.Sound.{AreRightlyTaken}

may_draw_at : (tally : Tally) (entries : List Entry) → AreCaused tally entries → (i : ℕ) (entry : Entry) → entry_at entries i ≡ Some entry → IsSome entry.made.drawn → MayDraw entry.made.asked.request
may_draw_at tally [] caused i entry at = absurd cc
may_draw_at tally (first ∷ entries) caused zero entry at = subst (λ (e : Entry). IsSome e.made.drawn → MayDraw e.made.asked.request) (same_Some first entry at) caused.0.drawn
may_draw_at tally (first ∷ entries) caused (suc i) entry at = may_draw_at (next tally first) entries caused.1 i entry at

-- no commit failed before an entry
running_at : (tally : Tally) (entries : List Entry) → IsNone tally.stopped → ((i : ℕ) (entry : Entry) → entry_at entries i ≡ Some entry → entry.made.commit_failed ≡ false)
    → (i : ℕ) → IsNone (after tally (take i entries)).stopped
running_at tally [] running whole zero = running
running_at tally [] running whole (suc i) = running
running_at tally (first ∷ entries) running whole zero = running
running_at tally (first ∷ entries) running whole (suc i) =
    running_at (next tally first) entries (subst (λ (b : Bool). IsNone (cond b (Some tally.count) tally.stopped)) (sym (whole zero first refl)) running)
    (λ j entry at. whole (suc j) entry at) i

pub rightly_taken : (keys : KeyPair) (rows : Rows) (origin : Origin) (entries : List Entry) (log : Option Log) → AreCaused (tally_at origin) entries → AreStepped rows origin entries
    → Told log (ArePlaced keys rows origin entries) → Told log (AreRightlyTaken keys rows origin entries)
rightly_taken keys rows origin entries log caused stepped placed = told_then log (ArePlaced keys rows origin entries) (AreRightlyTaken keys rows origin entries) placed
    (λ log are unmarked i entry at taken.
    let here = are i entry at (running_at (tally_at origin) entries refl (λ j other there. (stepped.each j other there).committed) i) in
    record {
      placed = here;
      may = places_are_anothers keys (now (log_at log (tally_of origin (take i entries)).moment)) (rows_at rows entries i) entry.made here taken
          (histories_stay_unmarked rows entries i unmarked) (may_draw_at (tally_at origin) entries caused i entry at);
    })
