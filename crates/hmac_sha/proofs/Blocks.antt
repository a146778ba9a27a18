-- The key's block, and the tag from it.
use Rattle.std.proofs.Common.{◌≡◌, ℕ, ◌-◌, ◌<◌, ◌≤◌, List, ◌++◌, length, replicate, map, take, drop, refl, ap, ap₂, ◌∙◌}
use Rattle.std.proofs.lemmas.Bool.{cond_below, cond_above}
use Rattle.std.proofs.lemmas.List.{append-nil, take_all, drop_all}
use Rattle.hmac_sha.specs.Hmac.{hmac, key_block, xored}

-- a key that is longer than a block
pub key_block-long : (hash : List ℕ → List ℕ) (block : ℕ) (key digest made : List ℕ) → block < length key → digest ≡ hash key
    → made ≡ digest ++ replicate (block - length digest) 0 → made ≡ key_block hash block key
key_block-long hash block key digest made h e m =
    m ∙ ap (λ (s : List ℕ). s ++ replicate (block - length s) 0) (e ∙ cond_below block (length key) (hash key) key h)

-- a key that is no longer than a block
pub key_block-short : (hash : List ℕ → List ℕ) (block : ℕ) (key made : List ℕ) → length key ≤ block
    → made ≡ key ++ replicate (block - length key) 0 → made ≡ key_block hash block key
key_block-short hash block key made h m =
    m ∙ ap (λ (s : List ℕ). s ++ replicate (block - length s) 0) (cond_above block (length key) (hash key) key key h refl)

-- the two hashes of the text
pub hmac-is : (hash : List ℕ → List ℕ) (block : ℕ) (key text made inner tag : List ℕ) → made ≡ key_block hash block key
    → inner ≡ hash (xored 0x36 made ++ text) → tag ≡ hash (xored 0x5c made ++ inner) → tag ≡ hmac hash block key text
unfolding hmac
hmac-is hash block key text made inner tag e i t =
    t ∙ ap₂ (λ (k n : List ℕ). hash (xored 0x5c k ++ n)) e (i ∙ ap (λ (k : List ℕ). hash (xored 0x36 k ++ text)) e)

-- f applied to every element
pub map_over_all : (f : ℕ → ℕ) (i : ℕ) (xs ys : List ℕ) → length xs ≤ i → ys ≡ map f (take i xs) ++ drop i xs → ys ≡ map f xs
map_over_all f i xs ys h e =
    e ∙ ap₂ (λ (p q : List ℕ). map f p ++ q) (take_all i xs h) (drop_all i xs h) ∙ append-nil (map f xs)
