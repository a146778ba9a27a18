-- Chunks that are put into a host file, one after the other: what is there afterwards.
use Rattle.std.proofs.Common.{◌≡◌, inl, inr, ℕ, zero, suc, ◌+◌, ◌-◌, ◌*◌, ◌≤◌, ◌<◌, max, List, [], ◌∷◌, ◌++◌, length, take, drop, get_or, Some, refl, ap, sym, subst, ◌∙◌, arith, length-append, length-drop, length-take}
use Rattle.std.proofs.lemmas.List.{take_all, take_at, take-take, take-append-le, drop_at, drop-drop, drop-take, drop-append-le, append_assoc}
use Rattle.outside.specs.Changes.{overwritten}
use Rattle.file_chunks.specs.Header.{Head}
use Rattle.file_chunks.specs.Chunk.{chunk_opens}
use Rattle.file_chunks.specs.File.{sealed_at}
use Rattle.content_laws.specs.Rewriting.{place_of_chunk, put_chunks, AreSealed, CanPutChunk, CanPutChunks}

-- ---- one chunk

pub length-overwritten : (old : List ℕ) (at : ℕ) (bytes : List ℕ) → at ≤ length old → length (overwritten old at bytes) ≡ max (length old) (at + length bytes)
length-overwritten old at bytes inside =
    length-append (take at old ++ bytes) (drop (at + length bytes) old)
    ∙ omega (arith, length-append (take at old) bytes, length-take at old, length-drop (at + length bytes) old)

-- a part of a front
pub in_front : {X : Type 0} (size from count : ℕ) (xs : List X) → from + count ≤ size → take count (drop from (take size xs)) ≡ take count (drop from xs)
in_front size from count xs inside =
    let split : size ≡ from + (size - from) = omega arith in
    ap (λ (n : ℕ). take count (drop from (take n xs))) split
    ∙ ap (take count) (drop-take from (size - from) xs)
    ∙ take-take count (size - from) (drop from xs) (omega arith)

part_before : (old : List ℕ) (at : ℕ) (bytes : List ℕ) (from count : ℕ) → at ≤ length old → from + count ≤ at
    → take count (drop from (overwritten old at bytes)) ≡ take count (drop from old)
part_before old at bytes from count inside before =
    let rest : List ℕ = bytes ++ drop (at + length bytes) old in
    let long : length (take at old) ≡ at = omega (arith, length-take at old) in
    ap (λ (xs : List ℕ). take count (drop from xs)) (append_assoc (take at old) bytes (drop (at + length bytes) old))
    ∙ ap (take count) (drop-append-le from (take at old) rest (omega arith))
    ∙ take-append-le count (drop from (take at old)) rest (omega (arith, length-drop from (take at old)))
    ∙ in_front at from count old before

part_here : (old : List ℕ) (at : ℕ) (bytes : List ℕ) → at ≤ length old → take (length bytes) (drop at (overwritten old at bytes)) ≡ bytes
part_here old at bytes inside =
    ap (λ (xs : List ℕ). take (length bytes) (drop at xs)) (append_assoc (take at old) bytes (drop (at + length bytes) old))
    ∙ ap (take (length bytes)) (drop_at (take at old) (bytes ++ drop (at + length bytes) old) at (omega (arith, length-take at old)))
    ∙ take_at bytes (drop (at + length bytes) old) (length bytes) refl

part_behind : (old : List ℕ) (at : ℕ) (bytes : List ℕ) (from : ℕ) → at ≤ length old → at + length bytes ≤ from
    → drop from (overwritten old at bytes) ≡ drop from old
part_behind old at bytes from inside behind =
    let front : List ℕ = take at old ++ bytes in
    let long : length (take at old ++ bytes) ≡ at + length bytes = length-append (take at old) bytes ∙ omega (arith, length-take at old) in
    let split : from ≡ (at + length bytes) + (from - (at + length bytes)) = omega arith in
    ap (λ (n : ℕ). drop n (front ++ drop (at + length bytes) old)) split
    ∙ sym (drop-drop (from - (at + length bytes)) (at + length bytes) (front ++ drop (at + length bytes) old))
    ∙ ap (drop (from - (at + length bytes))) (drop_at front (drop (at + length bytes) old) (at + length bytes) long)
    ∙ drop-drop (from - (at + length bytes)) (at + length bytes) old
    ∙ ap (λ (n : ℕ). drop n old) (sym split)

-- ---- all of them

-- the others can be put once the first is
rest_can : (size first : ℕ) (bytes sealed : List ℕ) (more : List (List ℕ)) → CanPutChunk size (length bytes) first sealed
    → CanPutChunks size (max (length bytes) (place_of_chunk first + length sealed)) (first + 1) more
    → CanPutChunks size (length (overwritten bytes (place_of_chunk first) sealed)) (first + 1) more
rest_can size first bytes sealed more this can =
    subst (λ (n : ℕ). CanPutChunks size n (first + 1) more) (sym (length-overwritten bytes (place_of_chunk first) sealed this.begins)) can

-- the file is as long as it is to be
pub long_enough : (size : ℕ) (sealed : List (List ℕ)) (first : ℕ) (bytes : List ℕ) → CanPutChunks size (length bytes) first sealed
    → size ≤ length (put_chunks bytes first sealed)
long_enough size [] first bytes can = can
long_enough size (s ∷ more) first bytes can =
    long_enough size more (first + 1) (overwritten bytes (place_of_chunk first) s) (rest_can size first bytes s more can.0 can.1)

-- and no longer, if it wasn't before
pub not_longer : (size : ℕ) (sealed : List (List ℕ)) (first : ℕ) (bytes : List ℕ) → CanPutChunks size (length bytes) first sealed
    → length bytes ≤ size → length (put_chunks bytes first sealed) ≤ size
not_longer size [] first bytes can short = short
not_longer size (s ∷ more) first bytes can short =
    let this : CanPutChunk size (length bytes) first s = can.0 in
    let ends : 68 + 32796 * first + length s ≤ size = this.ends in
    not_longer size more (first + 1) (overwritten bytes (place_of_chunk first) s) (rest_can size first bytes s more this can.1)
    (omega (arith, length-overwritten bytes (68 + 32796 * first) s this.begins))

pub before_put : (size : ℕ) (sealed : List (List ℕ)) (first : ℕ) (bytes : List ℕ) (from count : ℕ) → CanPutChunks size (length bytes) first sealed
    → from + count ≤ place_of_chunk first → take count (drop from (put_chunks bytes first sealed)) ≡ take count (drop from bytes)
before_put size [] first bytes from count can before = refl
before_put size (s ∷ more) first bytes from count can before =
    let this : CanPutChunk size (length bytes) first s = can.0 in
    before_put size more (first + 1) (overwritten bytes (place_of_chunk first) s) from count (rest_can size first bytes s more this can.1) (omega arith)
    ∙ part_before bytes (place_of_chunk first) s from count this.begins before

pub behind_put : (size : ℕ) (sealed : List (List ℕ)) (first : ℕ) (bytes : List ℕ) (from : ℕ) → CanPutChunks size (length bytes) first sealed
    → place_of_chunk (first + length sealed) ≤ from → drop from (put_chunks bytes first sealed) ≡ drop from bytes
behind_put size [] first bytes from can behind = refl
behind_put size (s ∷ more) first bytes from can behind =
    let this : CanPutChunk size (length bytes) first s = can.0 in
    let short : length s ≤ 32796 = this.short in
    behind_put size more (first + 1) (overwritten bytes (place_of_chunk first) s) from (rest_can size first bytes s more this can.1) (omega arith)
    ∙ part_behind bytes (place_of_chunk first) s from this.begins (omega arith)

-- the first of them is at its place
first_put : (size first : ℕ) (bytes s : List ℕ) (more : List (List ℕ)) → CanPutChunk size (length bytes) first s
    → CanPutChunks size (max (length bytes) (place_of_chunk first + length s)) (first + 1) more
    → sealed_at (take size (put_chunks bytes first (s ∷ more))) first ≡ s
first_put size first bytes s more this can =
    let place : ℕ = 68 + 32796 * first in
    let short : length s ≤ 32796 = this.short in
    let ends : 68 + 32796 * first + length s ≤ size = this.ends in
    let all : List ℕ = put_chunks bytes first (s ∷ more) in
    let here : take (length s) (drop place all) ≡ s =
    before_put size more (first + 1) (overwritten bytes place s) place (length s) (rest_can size first bytes s more this can) (omega arith)
    ∙ part_here bytes place s this.begins in
    elim this.whole [
      | inl full ↦
          let count : 32796 ≡ length s = sym full in
          in_front size place 32796 all (omega arith) ∙ ap (λ (n : ℕ). take n (drop place all)) count ∙ here
      | inr last ↦
          let split : size ≡ place + length s = sym last in
          let front : drop place (take size all) ≡ take (length s) (drop place all) =
          ap (λ (n : ℕ). drop place (take n all)) split ∙ drop-take place (length s) all in
          ap (take 32796) (front ∙ here) ∙ take_all 32796 s short
    ]

-- each of them opens at its index
pub opened_put : (head : Head) (size : ℕ) (sealed plaintexts : List (List ℕ)) (bytes : List ℕ) (first i j : ℕ) → i ≡ first + j → j < length plaintexts
    → CanPutChunks size (length bytes) first sealed → AreSealed head first sealed plaintexts
    → chunk_opens head i (sealed_at (take size (put_chunks bytes first sealed)) i) ≡ Some (get_or plaintexts j [])
opened_put head size [] [] bytes first i j is inside can are = absurd (omega arith)
opened_put head size [] (p ∷ ps) bytes first i j is inside can are = absurd are
opened_put head size (s ∷ more) [] bytes first i j is inside can are = absurd are
opened_put head size (s ∷ more) (p ∷ ps) bytes first i zero is inside can are =
    let same : i ≡ first = omega arith in
    ap (λ (k : ℕ). chunk_opens head k (sealed_at (take size (put_chunks bytes first (s ∷ more))) k)) same
    ∙ ap (chunk_opens head first) (first_put size first bytes s more can.0 can.1)
    ∙ are.0.opens
opened_put head size (s ∷ more) (p ∷ ps) bytes first i (suc j) is inside can are =
    opened_put head size more ps (overwritten bytes (place_of_chunk first) s) (first + 1) i j (omega arith) (omega arith)
    (rest_can size first bytes s more can.0 can.1) are.1

-- how many there are
pub counted : (head : Head) (first : ℕ) (sealed plaintexts : List (List ℕ)) → AreSealed head first sealed plaintexts → length sealed ≡ length plaintexts
counted head first [] [] are = refl
counted head first [] (p ∷ ps) are = absurd are
counted head first (s ∷ more) [] are = absurd are
counted head first (s ∷ more) (p ∷ ps) are = ap suc (counted head (first + 1) more ps are.1)
