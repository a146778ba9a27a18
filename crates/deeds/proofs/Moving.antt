-- A Rename where no other file is.
use Rattle.std.proofs.Common.{◌≡◌, Bool, Option, Some, None, refl, sym, ◌∙◌, inl, inr}
use Rattle.std.specs.Prelude.{IsTrue, ◌↔◌}
use Rattle.outside.specs.Disk.{Disk, Path, file, node_at}
use Rattle.outside.specs.Calls.{Told, Changes}
use Rattle.outside.specs.Changes.{Move, done}
use Rattle.outside.specs.Images.{Log, now, HasDone, HasBroken}
use Rattle.outside.proofs.Told.{told_then, changed_from}
use Rattle.deeds.specs.Deeds.{Renames, HoldsSame}
use Rattle.deeds.specs.Applying.{KeepsStill}

module _ (from to : Path) where
  abbrev Fits : Log → Type 0
  Fits log = HoldsSame from to (now log)

  -- nothing is at the name that it goes to
  pub none_there : (disk : Disk) → node_at disk to ≡ None → HoldsSame from to disk
  none_there disk none = λ old is. absurd (let f : Some (file old) ≡ None = sym is ∙ none in cc)

  pub move_fits : (log : Option Log) (held : Bool) → Told log (λ l. IsTrue held ↔ Fits l) → IsTrue held → Told log Fits
  move_fits log held told e = told_then log (λ l. IsTrue held ↔ Fits l) Fits told (λ l h. h.0 e)

  pub move_keeps : (a b : Option Log) → Told a Fits → Changes a b (HasDone (Move from to)) → Changes a b (KeepsStill (Renames from to))
  move_keeps a b fits did = changed_from a b Fits (HasDone (Move from to)) (KeepsStill (Renames from to))
      (λ old new same h cannot. absurd (cannot (done (Move from to) (now old)) (inr ((h.0, same), refl)))) fits did

  still : (old new : Log) → Fits old → HasBroken (Move from to) old new → KeepsStill (Renames from to) old new
  still old new same (inl stayed) cannot = stayed
  still old new same (inr broke) cannot = absurd (cannot (done (Move from to) (now old)) (inr ((broke.1.can, same), refl)))

  pub move_broke : (a b : Option Log) → Told a Fits → Changes a b (HasBroken (Move from to)) → Changes a b (KeepsStill (Renames from to))
  move_broke a b fits broke = changed_from a b Fits (HasBroken (Move from to)) (KeepsStill (Renames from to)) still fits broke
