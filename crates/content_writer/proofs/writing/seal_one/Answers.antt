use Rattle.std.proofs.Common.{◌≡◌, ◌+◌, ◌-◌, ◌*◌, ◌<◌, ◌≤◌, ℕ, List, min, length, take, drop, ap, ◌∙◌, arith}
use Rattle.std.proofs.lemmas.Result.{err_from_is_err_and}
use Rattle.outside.specs.Images.{disk_in}
use Rattle.content_laws.specs.Laws.{patched, patched_at}
use Rattle.content_writer.specs.Sealing.{Writing, writing_of}
use Rattle.content_writer.proofs.WrittenChunks.{ChunkLaws, patched_chunk, replaced_chunk, lost_chunk, partly_kept, length-patched_at, length-replaced, input_rest, input_chunk, sealed_as}
use Rattle.content_writer.proofs.writing.seal_one.Goals as goal
use Rattle.content_writer.proofs.writing.seal_one.Goals.{else-write-start-via-then-write-start+else-min-write, else-write-start-via-else-write-start}

pub returns-then-min-write-clause-sealed : goal.returns-then-min-write-clause-sealed
returns-then-min-write-clause-sealed g c =
    let w : Writing = writing_of (disk_in (g.R.Reads.log c.args.folder.now)) c.args.path.now c.args.content.now c.args.write.now in
    let law = c.written_chunk.ensures in
    let laws : ChunkLaws w c.args.index = record {
      opened = λ keys bytes. law.opened keys w.head w.length bytes w.at w.input c.args.index;
      behind = λ keys bytes. law.behind keys w.head w.length bytes w.at w.input c.args.index;
      replaced = λ keys bytes. law.replaced keys w.head w.length bytes w.at w.input c.args.index;
      damaged = λ keys bytes. law.damaged keys w.head w.length bytes w.at w.input c.args.index;
    } in
    let from : c.args.write.now.at ≤ 32768 * c.args.index = c.if-write-start.true in
    let over : min c.args.content.now.length (32768 * (c.args.index + 1)) ≤ c.args.write.now.at + length c.args.write.now.input.now = omega (arith, c.if-min-write.true, c.min.ensures) in
    let met : 32768 * c.args.index < c.args.write.now.at + length c.args.write.now.input.now = omega (arith, c.requires.met.below) in
    sealed_as w c.args.index _ (take 32768 (drop (32768 * c.args.index - w.at) w.input)) c.args.sealed.now c.push.new.self _ _
    (input_chunk w.input c.saturating_sub.result (32768 * c.args.index - w.at) c.min-then-min-write.result c.saturating_sub.ensures c.min-then-min-write.ensures)
    c.in_ok-push.ensures.pushed (length-replaced w c.args.index from over met) (replaced_chunk w c.args.index laws from over)

pub returns-in_err-fetch-clause-damaged : goal.returns-in_err-fetch-clause-damaged
returns-in_err-fetch-clause-damaged g c =
    let w : Writing = writing_of (disk_in (g.R.Reads.log c.args.folder.now)) c.args.path.now c.args.content.now c.args.write.now in
    let law = c.written_chunk.ensures in
    let laws : ChunkLaws w c.args.index = record {
      opened = λ keys bytes. law.opened keys w.head w.length bytes w.at w.input c.args.index;
      behind = λ keys bytes. law.behind keys w.head w.length bytes w.at w.input c.args.index;
      replaced = λ keys bytes. law.replaced keys w.head w.length bytes w.at w.input c.args.index;
      damaged = λ keys bytes. law.damaged keys w.head w.length bytes w.at w.input c.args.index;
    } in
    let p = err_from_is_err_and c.from_residual-in_err-fetch.result c.from_residual-in_err-fetch.ensures.1 in
    let not_whole : c.args.write.now.at ≤ 32768 * c.args.index → min c.args.content.now.length (32768 * (c.args.index + 1)) ≤ c.args.write.now.at + length c.args.write.now.input.now → ⊥ =
    λ from over. elim c.else-write-start.branch [
      | else-write-start-via-then-write-start+else-min-write b ↦ omega (arith, b.if-min-write.false, b.min.ensures)
      | else-write-start-via-else-write-start b ↦ omega (arith, b.if-write-start.false)
    ] in
    rw (p.1, p.2) (λ e.
    let lost = c.in_err-fetch.ensures.damaged e in
    lost_chunk w c.args.index laws lost (partly_kept c.args.content.now.length c.args.write.now.at (length c.args.write.now.input.now) c.args.index lost.inside not_whole))

pub returns-clause-sealed : goal.returns-clause-sealed
returns-clause-sealed g c =
    let w : Writing = writing_of (disk_in (g.R.Reads.log c.args.folder.now)) c.args.path.now c.args.content.now c.args.write.now in
    let law = c.written_chunk.ensures in
    let laws : ChunkLaws w c.args.index = record {
      opened = λ keys bytes. law.opened keys w.head w.length bytes w.at w.input c.args.index;
      behind = λ keys bytes. law.behind keys w.head w.length bytes w.at w.input c.args.index;
      replaced = λ keys bytes. law.replaced keys w.head w.length bytes w.at w.input c.args.index;
      damaged = λ keys bytes. law.damaged keys w.head w.length bytes w.at w.input c.args.index;
    } in
    let old : List ℕ = c.fetch.new.plaintext in
    let met : 32768 * c.args.index < c.args.write.now.at + length c.args.write.now.input.now = omega (arith, c.requires.met.below) in
    let is_patched : c.patch.new.self ≡ patched c.fetch.new.plaintext c.saturating_sub-2.result (take (length w.input - c.saturating_sub.result) (drop c.saturating_sub.result w.input)) = c.patch.ensures in
    let is : c.bytes.result.now ≡ patched_at c.args.index c.fetch.new.plaintext w.at w.input =
    c.bytes.ensures.bytes ∙ is_patched
    ∙ ap (λ (at : ℕ). patched old at (take (length w.input - c.saturating_sub.result) (drop c.saturating_sub.result w.input))) c.saturating_sub-2.ensures
    ∙ ap (patched old (w.at - 32768 * c.args.index)) (input_rest w.input c.saturating_sub.result (32768 * c.args.index - w.at) c.saturating_sub.ensures) in
    sealed_as w c.args.index _ (patched_at c.args.index old w.at w.input) c.args.sealed.now c.push-2.new.self _ _ is c.in_ok-push-2.ensures.pushed
    (length-patched_at w c.args.index old c.in_ok-fetch.ensures.old.long met) (patched_chunk w c.args.index laws old c.in_ok-fetch.ensures.old)
