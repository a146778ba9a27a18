use Rattle.std.proofs.Common.{List, ℕ, [], ◌∷◌, ◌++◌, sym, subst}
use Rattle.deeds.specs.Deeds.{Unnamed}
use Rattle.deeds.specs.Plain.{plains}
use Rattle.batch_looks.proofs.named.has_unnamed.Goals as goal

pub returns-then-is_unnamed : goal.returns-then-is_unnamed
returns-then-is_unnamed c = λ foreign. (
  c.entry-item.result,
  (c.loop-entry.entry-index, c.loop-entry-test.true, sym c.entry-item.is),
  subst (λ (name : List ℕ). Unnamed (c.args.folder.now ++ name ∷ []) (plains c.args.deeds.now)) c.as_bytes.ensures (c.is_unnamed.ensures.0 c.if-is_unnamed.true),
)
