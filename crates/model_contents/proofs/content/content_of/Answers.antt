use Rattle.std.proofs.Common.{◌≡◌, ◌+◌, ◌∷◌, [], ◌++◌, ℕ, length, take, map, Option, refl, ap, ◌∙◌, rules, arith}
use Rattle.std.specs.List.{range_with_len}
use Rattle.std.specs.Option.{option_map}
use Rattle.std.proofs.lemmas.List.{map-append}
use Rattle.std.proofs.lemmas.List.FromFn.{map-range_with_len_more}
use Rattle.tree_model.specs.Rows.{Cell}
use Rattle.file_chunks.specs.Header.{Head, header_opens}
use Rattle.file_chunks.specs.File.{cell_of, chunk_count, sealed_at}
use Rattle.model_contents.specs.Seen.{cell_seen, head_seen}
use Rattle.model_contents.proofs.Contents.{content_read, is_some-head_seen}
use Rattle.model_contents.proofs.content.content_of.Goals as goal

pub loop-i-preserved : goal.loop-i-preserved
loop-i-preserved c =
    let cell : ℕ → Cell = λ i. cell_of (option_map head_seen c.in_ok-head.head) i (sealed_at c.args.bytes.now i) in
    let pushed : c.push.new.self.items ≡ c.loop-i.cells.items ++ c.in_ok-cell_of.field-0 ∷ [] = search rules in
    let last : cell_seen c.in_ok-cell_of.field-0 ≡ cell c.loop-i.i = search rules in
    let more : map cell (range_with_len 0 (c.loop-i.i + 1)) ≡ map cell (range_with_len 0 c.loop-i.i) ++ cell c.loop-i.i ∷ [] =
    map-range_with_len_more cell 0 c.loop-i.i c.loop-i.i (omega arith) in
    rw (pushed, more, map-append cell_seen c.loop-i.cells.items (c.in_ok-cell_of.field-0 ∷ []), c.loop-i.invariant, last) refl

pub returns : goal.returns
returns c =
    let bytes = c.args.bytes.now in
    let head : Option Head = option_map head_seen c.in_ok-head.head in
    let opens : head ≡ header_opens c.args.keys.now (take 68 bytes) = search rules in
    let all : c.loop-i.i ≡ chunk_count (length bytes) = omega arith in
    let cells = c.loop-i.invariant ∙ ap (λ (n : ℕ). map (λ i. cell_of head i (sealed_at bytes i)) (range_with_len 0 n)) all in
    rw (c.is_some.ensures, ← is_some-head_seen c.in_ok-head.head) (content_read c.args.keys.now bytes head _ (search rules) opens cells)
