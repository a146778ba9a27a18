-- A Put where no longer file is.
use Rattle.std.proofs.Common.{◌≡◌, ℕ, List, Bool, Option, Some, None, refl, sym, ◌∙◌, inl, inr}
use Rattle.std.specs.Prelude.{IsTrue, ◌↔◌}
use Rattle.outside.specs.Disk.{Disk, Path, file, node_at}
use Rattle.outside.specs.Calls.{Told, Changes}
use Rattle.outside.specs.Changes.{Put, done}
use Rattle.outside.specs.Images.{Log, now, HasDone, HasBroken}
use Rattle.outside.proofs.Told.{told_then, changed_from}
use Rattle.deeds.specs.Deeds.{Puts, HoldsNoMore}
use Rattle.deeds.specs.Applying.{KeepsStill}

module _ (path : Path) (bytes : List ℕ) where
  abbrev Fits : Log → Type 0
  Fits log = HoldsNoMore path bytes (now log)

  -- nothing is there
  pub none_held : (disk : Disk) → node_at disk path ≡ None → HoldsNoMore path bytes disk
  none_held disk none = λ old is. absurd (let f : Some (file old) ≡ None = sym is ∙ none in cc)

  pub put_fits : (log : Option Log) (held : Bool) → Told log (λ l. IsTrue held ↔ Fits l) → IsTrue held → Told log Fits
  put_fits log held told e = told_then log (λ l. IsTrue held ↔ Fits l) Fits told (λ l h. h.0 e)

  pub put_keeps : (a b : Option Log) → Told a Fits → Changes a b (HasDone (Put path bytes)) → Changes a b (KeepsStill (Puts path bytes))
  put_keeps a b fits did = changed_from a b Fits (HasDone (Put path bytes)) (KeepsStill (Puts path bytes))
      (λ old new few h cannot. absurd (cannot (done (Put path bytes) (now old)) (inr ((h.0, few), refl)))) fits did

  still : (old new : Log) → Fits old → HasBroken (Put path bytes) old new → KeepsStill (Puts path bytes) old new
  still old new few (inl same) cannot = same
  still old new few (inr broke) cannot = absurd (cannot (done (Put path bytes) (now old)) (inr ((broke.1.can, few), refl)))

  pub put_broke : (a b : Option Log) → Told a Fits → Changes a b (HasBroken (Put path bytes)) → Changes a b (KeepsStill (Puts path bytes))
  put_broke a b fits broke = changed_from a b Fits (HasBroken (Put path bytes)) (KeepsStill (Puts path bytes)) still fits broke
