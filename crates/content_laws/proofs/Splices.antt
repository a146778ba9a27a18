-- Bytes of which some may be missing, others written over them, and the chunks of that.
use Rattle.std.proofs.Common.{◌≡◌, ℕ, zero, suc, ◌+◌, ◌-◌, ◌*◌, ◌<◌, max, min, List, [], ◌∷◌, ◌++◌, length, take, drop, map, replicate, get_or, Some, None, Option, refl, ap, ◌∙◌, arith, length-append, length-drop, length-take}
use Rattle.std.specs.Option.{option_map}
use Rattle.std.proofs.lemmas.List.{length-map, length-replicate}
use Rattle.tree_model.specs.Rows.{good, all_there}
use Rattle.tree_model.specs.Contents.{spliced, sealed_chunk}
use Rattle.content_laws.specs.Laws.{AreChunksOf}

pub length-spliced : (old : List (Option ℕ)) (at : ℕ) (bytes : List ℕ) → length (spliced old at bytes) ≡ max (length old) (at + length bytes)
length-spliced old at bytes =
    let zeros : List (Option ℕ) = replicate (at - length old) (Some 0) in
    let middle : List (Option ℕ) = map (λ b. Some b) bytes in
    let behind : List (Option ℕ) = drop (at + length bytes) old in
    let gap : length (replicate {A = Option ℕ} (at - length old) (Some 0)) ≡ at - length old = length-replicate (at - length old) (Some 0) in
    let front : length (take at (old ++ zeros)) ≡ at = length-take at (old ++ zeros) ∙ omega (arith, length-append old zeros, gap) in
    let all : length (take at (old ++ zeros) ++ middle ++ behind) ≡ length (take at (old ++ zeros) ++ middle) + length behind =
    length-append (take at (old ++ zeros) ++ middle) behind in
    let rest : length (take at (old ++ zeros) ++ middle) ≡ length (take at (old ++ zeros)) + length middle = length-append (take at (old ++ zeros)) middle in
    let some : length middle ≡ length bytes = length-map bytes (λ (b : ℕ). Some b) in
    let left : length behind ≡ length old - (at + length bytes) = length-drop (at + length bytes) old in
    omega arith

opened_rest : (x : ℕ) (o : Option (List ℕ)) (ys : List ℕ) → option_map (λ rest. x ∷ rest) o ≡ Some ys → (rest : List ℕ) × (o ≡ Some rest) × (ys ≡ x ∷ rest)
opened_rest x None ys e = absurd cc
opened_rest x (Some rest) ys e = (rest, refl, cc)

pub length-all_there : (xs : List (Option ℕ)) (ys : List ℕ) → all_there xs ≡ Some ys → length ys ≡ length xs
length-all_there [] ys e = let none : ys ≡ [] = cc in ap length none
length-all_there (None ∷ xs) ys e = absurd cc
length-all_there (Some x ∷ xs) ys e =
    let rest = opened_rest x (all_there xs) ys e in
    ap length rest.2 ∙ ap suc (length-all_there xs rest.0 rest.1)

pub there_of : (o : Option (List ℕ)) (p : List ℕ) → option_map (λ clear. good clear) o ≡ Some (good p) → o ≡ Some p
there_of None p e = absurd cc
there_of (Some q) p e = cc

-- how long a chunk is
pub length-chunk_of : (bytes : List (Option ℕ)) (i : ℕ) (p : List ℕ) → sealed_chunk bytes i ≡ Some (good p) → length p ≡ min 32768 (length bytes - i * 32768)
length-chunk_of bytes i p e =
    length-all_there (take 32768 (drop (i * 32768) bytes)) p (there_of (all_there (take 32768 (drop (i * 32768) bytes))) p e)
    ∙ length-take 32768 (drop (i * 32768) bytes) ∙ ap (min 32768) (length-drop (i * 32768) bytes)

-- a chunk of an index among chunks one after the other
pub chunk_of : (bytes : List (Option ℕ)) (plaintexts : List (List ℕ)) (first i j : ℕ) → i ≡ first + j → j < length plaintexts → AreChunksOf bytes first plaintexts
    → sealed_chunk bytes i ≡ Some (good (get_or plaintexts j []))
chunk_of bytes [] first i j is inside are = absurd (omega arith)
chunk_of bytes (p ∷ ps) first i zero is inside are =
    let same : i ≡ first = omega arith in ap (sealed_chunk bytes) same ∙ are.0
chunk_of bytes (p ∷ ps) first i (suc j) is inside are = chunk_of bytes ps (first + 1) i j (omega arith) (omega arith) are.1
