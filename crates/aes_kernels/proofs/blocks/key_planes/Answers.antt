use Rattle.std.proofs.Common.{◌≡◌, ℕ, ◌<◌, List, [], ◌∷◌, get_or, subst, refl, ap, sym, ◌∙◌}
use Rattle.aes_block.proofs.ByteLemmas.{get_or-byte}
use Rattle.aes_kernels.specs.Circuit.{row_places}
use Rattle.aes_kernels.proofs.Mixing.{at-picked, place-lt}
use Rattle.aes_kernels.proofs.Turning.{below8, turned-byte}
use Rattle.aes_kernels.proofs.blocks.key_planes.Goals as goal

pub returns-clause-planes : goal.returns-clause-planes
returns-clause-planes c =
    let v : List ℕ = c.rows_of-rows.result in
    let x : List (List ℕ) = v ∷ v ∷ v ∷ v ∷ v ∷ v ∷ v ∷ v ∷ [] in (
      c.transposed.ensures.planes,
      λ lane bit within small.
          turned-byte x c.transposed.result lane bit refl c.transposed.ensures.planes.0 small (c.transposed.ensures.bits lane within)
          (subst (λ (l : List ℕ). get_or l lane 0 < 256) (same bit small) (get_or-byte v lane c.rows_of-rows.ensures.bytes))
          ∙ ap (λ (l : List ℕ). get_or l lane 0) (sym (same bit small)) ∙ ap (λ (l : List ℕ). get_or l lane 0) c.rows_of-rows.ensures.lanes ∙ at-picked c.flipped_key.result row_places lane within
          ∙ c.flipped_key.ensures.bytes (get_or row_places lane 0) (place-lt row_places tt lane),
    )
  where
    same : (bit : ℕ) → bit < 8 → c.rows_of-rows.result ≡ get_or (c.rows_of-rows.result ∷ c.rows_of-rows.result ∷ c.rows_of-rows.result ∷ c.rows_of-rows.result ∷ c.rows_of-rows.result ∷ c.rows_of-rows.result ∷ c.rows_of-rows.result ∷ c.rows_of-rows.result ∷ []) bit []
    same bit small = below8 (λ k. c.rows_of-rows.result ≡ get_or (c.rows_of-rows.result ∷ c.rows_of-rows.result ∷ c.rows_of-rows.result ∷ c.rows_of-rows.result ∷ c.rows_of-rows.result ∷ c.rows_of-rows.result ∷ c.rows_of-rows.result ∷ c.rows_of-rows.result ∷ []) k []) refl refl refl refl refl refl refl refl bit small
