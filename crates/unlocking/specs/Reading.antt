-- Reading the secret byte by byte.
use Rattle.std.specs.Prelude.{◌≡◌, ℕ, List, [], ◌∷◌, Option, MatchOption}
use Rattle.masterkey_file.specs.Password.{line_of}
use Rattle.unlocking.specs.Secret.{IsAfterLine}

-- the next byte was taken, or there is none
abbrev pub HasNext : Option ℕ → List ℕ → List ℕ → Type 0
HasNext byte bytes left = MatchOption byte ((bytes ≡ []) × (left ≡ [])) (λ b. bytes ≡ b ∷ left)

-- this line was taken, and nothing after it
abbrev pub HasLine : List ℕ → List ℕ → List ℕ → Type 0
HasLine line bytes left = (line_of bytes ≡ line) × IsAfterLine bytes left
