-- A chunk after a write, by the chunk alone.
use Rattle.std.proofs.Common.{◌≡◌, ℕ, zero, suc, ◌+◌, ◌-◌, List, [], ◌∷◌, ◌++◌, length, take, drop, map, replicate, Some, Option, refl, ap, sym, ◌∙◌, arith}
use Rattle.std.proofs.lemmas.List.{take-take, drop_all, take-map, drop-map, map-append, length-map}
use Rattle.tree_model.specs.Rows.{all_there}
use Rattle.tree_model.specs.Contents.{spliced}
use Rattle.file_chunks.proofs.SliceLemmas.{all_there-map}
use Rattle.content_laws.specs.Laws.{patched}

-- ---- a write, one byte on

-- before its own bytes
pub spliced-before : (x : Option ℕ) (old : List (Option ℕ)) (at : ℕ) (bytes : List ℕ) → spliced (x ∷ old) (suc at) bytes ≡ x ∷ spliced old at bytes
spliced-before x old at bytes =
    let gap : suc at - suc (length old) ≡ at - length old = omega arith in
    let end : suc at + length bytes ≡ suc (at + length bytes) = omega arith in
    ap (λ (g : ℕ). take (suc at) (x ∷ old ++ replicate g (Some 0)) ++ map (λ b. Some b) bytes ++ drop (suc at + length bytes) (x ∷ old)) gap
    ∙ ap (λ (e : ℕ). x ∷ (take at (old ++ replicate (at - length old) (Some 0)) ++ map (λ b. Some b) bytes) ++ drop e (x ∷ old)) end

-- in the gap
spliced-gap : (at : ℕ) (bytes : List ℕ) → spliced [] (suc at) bytes ≡ Some 0 ∷ spliced [] at bytes
spliced-gap at bytes =
    let none : drop (suc at + length bytes) [] ≡ drop (at + length bytes) [] =
    drop_all {X = Option ℕ} (suc at + length bytes) [] (omega arith) ∙ sym (drop_all {X = Option ℕ} (at + length bytes) [] (omega arith)) in
    let first : suc at - 0 ≡ suc at = omega arith in
    let rest : at - 0 ≡ at = omega arith in
    ap (λ (g : ℕ). take (suc at) (replicate g (Some 0)) ++ map (λ b. Some b) bytes ++ drop (suc at + length bytes) []) first
    ∙ ap (λ (behind : List (Option ℕ)). Some 0 ∷ (take at (replicate at (Some 0)) ++ map (λ b. Some b) bytes) ++ behind) none
    ∙ sym (ap (λ (g : ℕ). Some 0 ∷ (take at (replicate g (Some 0)) ++ map (λ b. Some b) bytes) ++ drop (at + length bytes) []) rest)

-- within them
spliced-within : (x : Option ℕ) (old : List (Option ℕ)) (b : ℕ) (bytes : List ℕ) → spliced (x ∷ old) 0 (b ∷ bytes) ≡ Some b ∷ spliced old 0 bytes
spliced-within x old b bytes =
    let end : 0 + suc (length bytes) ≡ suc (0 + length bytes) = omega arith in
    ap (λ (e : ℕ). Some b ∷ map (λ b. Some b) bytes ++ drop e (x ∷ old)) end

spliced-past : (b : ℕ) (bytes : List ℕ) → spliced [] 0 (b ∷ bytes) ≡ Some b ∷ spliced [] 0 bytes
spliced-past b bytes =
    let none : drop (0 + suc (length bytes)) [] ≡ drop (0 + length bytes) [] =
    drop_all {X = Option ℕ} (0 + suc (length bytes)) [] (omega arith) ∙ sym (drop_all {X = Option ℕ} (0 + length bytes) [] (omega arith)) in
    ap (λ (rest : List (Option ℕ)). Some b ∷ map (λ b. Some b) bytes ++ rest) none

-- what there is from a place on after a write
pub drop-spliced : (n : ℕ) (old : List (Option ℕ)) (at : ℕ) (bytes : List ℕ)
    → drop n (spliced old at bytes) ≡ spliced (drop n old) (at - n) (drop (n - at) bytes)
drop-spliced zero old at bytes =
    let place : at ≡ at - 0 = omega arith in
    let all : 0 ≡ 0 - at = omega arith in
    ap (λ (a : ℕ). spliced old a bytes) place ∙ ap (λ (d : ℕ). spliced old (at - 0) (drop d bytes)) all
drop-spliced (suc n) [] zero [] =
    let place : 0 ≡ 0 - suc n = omega arith in
    let none : [] ≡ drop (suc n - 0) [] = sym (drop_all {X = ℕ} (suc n - 0) [] (omega arith)) in
    ap (λ (a : ℕ). spliced [] a []) place ∙ ap (spliced [] (0 - suc n)) none
drop-spliced (suc n) (x ∷ old) zero [] =
    let place : 0 ≡ 0 - suc n = omega arith in
    let none : [] ≡ drop (suc n - 0) [] = sym (drop_all {X = ℕ} (suc n - 0) [] (omega arith)) in
    ap (λ (a : ℕ). spliced (drop n old) a []) place ∙ ap (spliced (drop n old) (0 - suc n)) none
drop-spliced (suc n) [] zero (b ∷ bytes) =
    let place : 0 - n ≡ 0 - suc n = omega arith in
    let from : n - 0 ≡ n = omega arith in
    let next : suc n - 0 ≡ suc n = omega arith in
    ap (drop (suc n)) (spliced-past b bytes) ∙ drop-spliced n [] 0 bytes
    ∙ ap (λ (xs : List (Option ℕ)). spliced xs (0 - n) (drop (n - 0) bytes)) (drop_all {X = Option ℕ} n [] (omega arith))
    ∙ ap (λ (a : ℕ). spliced [] a (drop (n - 0) bytes)) place
    ∙ ap (λ (d : ℕ). spliced [] (0 - suc n) (drop d bytes)) from
    ∙ sym (ap (λ (d : ℕ). spliced [] (0 - suc n) (drop d (b ∷ bytes))) next)
drop-spliced (suc n) (x ∷ old) zero (b ∷ bytes) =
    let place : 0 - n ≡ 0 - suc n = omega arith in
    let from : n - 0 ≡ n = omega arith in
    let next : suc n - 0 ≡ suc n = omega arith in
    ap (drop (suc n)) (spliced-within x old b bytes) ∙ drop-spliced n old 0 bytes
    ∙ ap (λ (a : ℕ). spliced (drop n old) a (drop (n - 0) bytes)) place
    ∙ ap (λ (d : ℕ). spliced (drop n old) (0 - suc n) (drop d bytes)) from
    ∙ sym (ap (λ (d : ℕ). spliced (drop n old) (0 - suc n) (drop d (b ∷ bytes))) next)
drop-spliced (suc n) [] (suc at) bytes =
    let place : at - n ≡ suc at - suc n = omega arith in
    let from : n - at ≡ suc n - suc at = omega arith in
    ap (drop (suc n)) (spliced-gap at bytes) ∙ drop-spliced n [] at bytes
    ∙ ap (λ (xs : List (Option ℕ)). spliced xs (at - n) (drop (n - at) bytes)) (drop_all {X = Option ℕ} n [] (omega arith))
    ∙ ap (λ (a : ℕ). spliced [] a (drop (n - at) bytes)) place
    ∙ ap (λ (d : ℕ). spliced [] (suc at - suc n) (drop d bytes)) from
drop-spliced (suc n) (x ∷ old) (suc at) bytes =
    let place : at - n ≡ suc at - suc n = omega arith in
    let from : n - at ≡ suc n - suc at = omega arith in
    ap (drop (suc n)) (spliced-before x old at bytes) ∙ drop-spliced n old at bytes
    ∙ ap (λ (a : ℕ). spliced (drop n old) a (drop (n - at) bytes)) place
    ∙ ap (λ (d : ℕ). spliced (drop n old) (suc at - suc n) (drop d bytes)) from

-- the first bytes after a write, by the first bytes before it
pub take-spliced : (n : ℕ) (old : List (Option ℕ)) (at : ℕ) (bytes : List ℕ) → take n (spliced old at bytes) ≡ take n (spliced (take n old) at bytes)
take-spliced zero old at bytes = refl
take-spliced (suc n) [] at bytes = refl
take-spliced (suc n) (x ∷ old) zero [] = sym (take-take (suc n) (suc n) (x ∷ old) (omega arith))
take-spliced (suc n) (x ∷ old) zero (b ∷ bytes) =
    ap (take (suc n)) (spliced-within x old b bytes) ∙ ap (λ (xs : List (Option ℕ)). Some b ∷ xs) (take-spliced n old 0 bytes)
    ∙ sym (ap (take (suc n)) (spliced-within x (take n old) b bytes))
take-spliced (suc n) (x ∷ old) (suc at) bytes =
    ap (take (suc n)) (spliced-before x old at bytes) ∙ ap (λ (xs : List (Option ℕ)). x ∷ xs) (take-spliced n old at bytes)
    ∙ sym (ap (take (suc n)) (spliced-before x (take n old) at bytes))

-- a chunk after a write is what the write makes of the chunk
pub chunk-spliced : (old : List (Option ℕ)) (at : ℕ) (bytes : List ℕ) (start size : ℕ)
    → take size (drop start (spliced old at bytes)) ≡ take size (spliced (take size (drop start old)) (at - start) (drop (start - at) bytes))
chunk-spliced old at bytes start size =
    ap (take size) (drop-spliced start old at bytes) ∙ take-spliced size (drop start old) (at - start) (drop (start - at) bytes)

-- ---- of bytes that are all there

some-replicate : (n : ℕ) → replicate n (Some 0) ≡ map (λ (b : ℕ). Some b) (replicate n 0)
some-replicate zero = refl
some-replicate (suc n) = ap (λ (xs : List (Option ℕ)). Some 0 ∷ xs) (some-replicate n)

some-spliced : (old : List ℕ) (at : ℕ) (bytes : List ℕ)
    → spliced (map (λ b. Some b) old) at bytes ≡ map (λ b. Some b) (take at (old ++ replicate (at - length old) 0) ++ bytes ++ drop (at + length bytes) old)
some-spliced old at bytes =
    let f : ℕ → Option ℕ = λ b. Some b in
    let long : length (map (λ (b : ℕ). Some b) old) ≡ length old = length-map old (λ (b : ℕ). Some b) in
    let zeros : List ℕ = replicate (at - length old) 0 in
    let front : take at (map f old ++ replicate (at - length (map f old)) (Some 0)) ≡ map f (take at (old ++ zeros)) =
    ap (λ (l : ℕ). take at (map f old ++ replicate (at - l) (Some 0))) long
    ∙ ap (λ (zs : List (Option ℕ)). take at (map f old ++ zs)) (some-replicate (at - length old))
    ∙ ap (take at) (sym (map-append f old zeros))
    ∙ take-map f at (old ++ zeros) in
    ap (λ (xs : List (Option ℕ)). xs ++ map f bytes ++ drop (at + length bytes) (map f old)) front
    ∙ ap (λ (xs : List (Option ℕ)). map f (take at (old ++ zeros)) ++ map f bytes ++ xs) (drop-map f (at + length bytes) old)
    ∙ ap (λ (xs : List (Option ℕ)). xs ++ map f (drop (at + length bytes) old)) (sym (map-append f (take at (old ++ zeros)) bytes))
    ∙ sym (map-append f (take at (old ++ zeros) ++ bytes) (drop (at + length bytes) old))

pub there-spliced : (old : List ℕ) (at : ℕ) (bytes : List ℕ) → all_there (take 32768 (spliced (map (λ b. Some b) old) at bytes)) ≡ Some (patched old at bytes)
there-spliced old at bytes =
    let all : List ℕ = take at (old ++ replicate (at - length old) 0) ++ bytes ++ drop (at + length bytes) old in
    ap (λ (xs : List (Option ℕ)). all_there (take 32768 xs)) (some-spliced old at bytes)
    ∙ ap all_there (take-map (λ (b : ℕ). Some b) 32768 all)
    ∙ all_there-map (take 32768 all)
