use Rattle.std.proofs.Common.{◌≡◌, ◌++◌, ◌∷◌, [], ℕ, Option, Some, slice_get, if◌then◌else◌, ap, sym, ◌∙◌, rules, arith}
use Rattle.std.proofs.lemmas.List.{map-append}
use Rattle.tree_model.specs.Rows.{Cell}
use Rattle.tree_model.specs.Contents.{is_met, sealed_chunk}
use Rattle.model_step.specs.SeenContents.{cell_seen, cells_seen}
use Rattle.model_step.proofs.Gathered.{absent_of, there_of}
use Rattle.model_step.proofs.content_changing.chunks_after.Goals as goal

pub returns-in-None : goal.returns-in-None
returns-in-None c =
    let chunk : ℕ → Option Cell = λ i. if is_met c.args.low c.args.high i then sealed_chunk c.args.bytes.now i else slice_get (cells_seen c.args.old.now) i in
    let none = rw c.in-None.is at c.in_ok-cell.ensures in
    sym (absent_of chunk c.args.n c.loop-i.i (omega arith) (sym none))

pub loop-i-preserved : goal.loop-i-preserved
loop-i-preserved c =
    let chunk : ℕ → Option Cell = λ i. if is_met c.args.low c.args.high i then sealed_chunk c.args.bytes.now i else slice_get (cells_seen c.args.old.now) i in
    let some = rw c.in-Some.is at c.in_ok-cell.ensures in
    let pushed : c.push.new.self.items ≡ c.loop-i.cells.items ++ c.in-Some.cell ∷ [] = search rules in
    let seen : cells_seen c.push.new.self.items ≡ cells_seen c.loop-i.cells.items ++ cell_seen c.in-Some.cell ∷ [] =
    ap cells_seen pushed ∙ map-append cell_seen c.loop-i.cells.items (c.in-Some.cell ∷ []) in
    there_of chunk c.loop-i.i (cells_seen c.loop-i.cells.items) (cell_seen c.in-Some.cell) (sym some) c.loop-i.invariant ∙ ap Some (sym seen)
