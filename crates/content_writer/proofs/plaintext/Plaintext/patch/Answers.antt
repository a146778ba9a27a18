use Rattle.std.proofs.Common.{◌≡◌, ◌+◌, List, ℕ, length, take, drop, ap, ◌∙◌, ◌++◌}
use Rattle.std.proofs.lemmas.List.{take_at}
use Rattle.content_laws.specs.Laws.{patched}
use Rattle.content_writer.proofs.Patching.{patched_in}
use Rattle.content_writer.proofs.plaintext.Plaintext.patch.Goals as goal

pub returns : goal.returns
returns c =
    let from : ℕ = c.min-from.result in
    let part : List ℕ = take c.min.result c.args.bytes.now in
    let room : length c.deref_mut.result.now ≡ 32768 = c.deref_mut.ensures.len ∙ c.self.invariant.1 in
    let filled : c.deref_mut-2.result.now ≡ c.fill_gap.new.bytes =
    c.deref_mut-2.ensures.value ∙ take_at c.fill_gap.new.bytes (drop (length c.fill_gap.new.bytes) c.self.inside.clear.items) c.self.inside.clear.len (c.fill_gap.auto.bytes ∙ c.deref_mut.ensures.len) in
    let put : c.put.new.into ≡ take from c.fill_gap.new.bytes ++ part ++ drop (from + length part) c.fill_gap.new.bytes =
    c.put.ensures ∙ ap (λ (xs : List ℕ). take from xs ++ part ++ drop (from + length part) xs) filled in
    ap (take c.max-self-inside.result) (take_at c.put.new.into _ c.self.inside.clear.len (c.put.auto.into ∙ c.deref_mut-2.ensures.len))
    ∙ ap (λ (n : ℕ). take n c.put.new.into) c.max-self-inside.ensures
    ∙ patched_in c.deref_mut.result.now c.self.inside.count c.args.at c.args.bytes.now room c.self.invariant.2 from c.min-from.ensures part
    (ap (λ (n : ℕ). take n c.args.bytes.now) c.min.ensures) c.fill_gap.new.bytes c.put.new.into c.fill_gap.ensures put
    ∙ ap (λ (old : List ℕ). patched old c.args.at c.args.bytes.now) (ap (take c.self.inside.count) c.deref_mut.ensures.value ∙ c.self.view_is)
