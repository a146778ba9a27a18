use Rattle.std.proofs.Common.{◌≡◌, ◌+◌, ◌*◌, ◌++◌, ◌∷◌, [], ℕ, List, Vec, Global, take, drop, slice_index, ap, ◌∙◌, rules, arith}
use Rattle.std.proofs.lemmas.List.{map-append}
use Rattle.model_step.specs.SeenRows.{bytes_seen}
use Rattle.model_step.proofs.Ways.{names_end, names_more}
use Rattle.model_step.proofs.walking.names_in.Goals as goal

pub returns : goal.returns
returns c = names_end _ _ c.loop-left.left c.loop-left.rest.now (omega arith) c.loop-left.invariant

pub loop-left-preserved : goal.loop-left-preserved
loop-left-preserved c =
    let bytes : List ℕ = c.loop-left.rest.now in
    let len : ℕ = c.byte_at.result + 256 * c.byte_at-in-loop-left.result in
    let size : len ≡ slice_index bytes 0 + 256 * slice_index bytes 1 = omega (arith, c.byte_at.ensures.byte, c.byte_at-in-loop-left.ensures.byte) in
    let name : c.in_ok-from_slice.field-0.items ≡ take len (drop 2 bytes) = c.in_ok-from_slice.ensures.items ∙ c.front.ensures ∙ ap (take len) c.behind.ensures in
    let pushed : c.push.new.self.items ≡ c.loop-left.names.items ++ c.in_ok-from_slice.field-0 ∷ [] = search rules in
    let more : bytes_seen c.push.new.self.items ≡ bytes_seen c.loop-left.names.items ++ c.in_ok-from_slice.field-0.items ∷ [] =
    ap bytes_seen pushed ∙ map-append (λ (text : Vec ℕ Global). text.items) c.loop-left.names.items (c.in_ok-from_slice.field-0 ∷ []) in
    names_more (bytes_seen c.loop-left.names.items) (bytes_seen c.push.new.self.items) _ c.loop-left.left len bytes c.in_ok-from_slice.field-0.items c.behind-rest.result.now
    (omega arith) size name c.behind-rest.ensures more c.loop-left.invariant
