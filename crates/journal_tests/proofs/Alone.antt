-- A sealed chunk alone.
use Rattle.std.proofs.Common.{◌≡◌, inr, ℕ, ◌+◌, ◌<◌, ◌≤◌, List, [], ◌∷◌, length, sym, ap, ◌∙◌, subst, arith}
use Rattle.std.proofs.lemmas.List.{append-nil}
use Rattle.content_laws.specs.Rewriting.{place_of_chunk, CanPutChunks}
use Rattle.write_back.specs.Sealed.{chunks_of}
use Rattle.write_back.proofs.Cutting.{cut_first}

-- no more than a full one is cut into itself
cut_alone : (bytes : List ℕ) → 0 < length bytes → length bytes ≤ 32796 → chunks_of 32796 bytes ≡ bytes ∷ []
cut_alone bytes some short = ap (chunks_of 32796) (sym (append-nil bytes)) ∙ cut_first bytes [] some (omega arith)

-- it can be put if the file ends after it
pub can_alone : (size len first : ℕ) (bytes : List ℕ) → 0 < length bytes → length bytes ≤ 32796 → place_of_chunk first ≤ len
    → size ≡ place_of_chunk first + length bytes → CanPutChunks size len first (chunks_of 32796 bytes)
can_alone size len first bytes some short begins ends =
    subst (CanPutChunks size len first) (sym (cut_alone bytes some short))
    (record { short = short; whole = inr (sym ends); begins = begins; ends = omega (arith, ends) }, omega (arith, ends))
