use Rattle.std.proofs.Common.{◌≡◌, ℕ, List, [], length, set, get_or, sym, subst, ◌∙◌, arith, inl, inr}
use Rattle.std.proofs.lemmas.Bool.{cases_eq}
use Rattle.std.proofs.lemmas.List.{get_or-set_other, get_or-set_same, length-set}
use Rattle.aes_block.specs.Aes.{key_schedule, round_key}
use Rattle.aes_kernels.specs.Circuit.{AreKeyPlanes}
use Rattle.aes_kernels.proofs.blocks.round_keys.Goals as goal

pub loop-r-preserved : goal.loop-r-preserved
loop-r-preserved c =
    let P = λ (k : ℕ) (p : List (List ℕ)). (length (round_key (key_schedule c.args.key.now) k) ≡ 16) × AreKeyPlanes c.args.key.now k p in
    let made : P c.loop-r.r c.key_planes.result = (c.key_planes.ensures.size, c.key_planes.ensures.planes) in (
      length-set c.loop-r.keys c.loop-r.r c.key_planes.result ∙ c.loop-r.invariant.0,
      λ k h. elim (cases_eq k c.loop-r.r) [
        | inl same ↦ subst (λ (j : ℕ). P j (get_or (set c.loop-r.keys c.loop-r.r c.key_planes.result) j [])) (sym same)
            (subst (P c.loop-r.r) (sym (get_or-set_same c.loop-r.keys c.loop-r.r c.key_planes.result [] (omega (arith, c.loop-r.invariant.0)))) made)
        | inr other ↦ subst (P k) (sym (get_or-set_other c.loop-r.keys c.loop-r.r k c.key_planes.result [] other)) (c.loop-r.invariant.1 k (omega (arith, other)))
      ],
    )

pub returns : goal.returns
returns c = record {
  size = c.has_32_bytes.ensures.long;
  sizes = λ r h. (c.loop-r.invariant.1 r (omega (arith, h))).0;
  each = λ r h. (c.loop-r.invariant.1 r (omega (arith, h))).1;
}
