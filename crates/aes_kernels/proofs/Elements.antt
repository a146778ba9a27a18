-- Lists whose elements are equal one by one.
use Rattle.std.proofs.Common.{◌≡◌, ℕ, List, [], ◌∷◌, ap₂}
use Rattle.aes_kernels.specs.Circuit.{number}

pub cons-is : {x y : ℕ} {xs ys : List ℕ} → x ≡ y → xs ≡ ys → (x ∷ xs) ≡ (y ∷ ys)
cons-is e f = ap₂ (λ (a : ℕ) (l : List ℕ). a ∷ l) e f

-- the number of eight bits
pub eight : {a b c d e f g h a' b' c' d' e' f' g' h' : ℕ} → a ≡ a' → b ≡ b' → c ≡ c' → d ≡ d' → e ≡ e' → f ≡ f' → g ≡ g' → h ≡ h'
    → number (a ∷ b ∷ c ∷ d ∷ e ∷ f ∷ g ∷ h ∷ []) ≡ number (a' ∷ b' ∷ c' ∷ d' ∷ e' ∷ f' ∷ g' ∷ h' ∷ [])
eight p q r s t u v w = cc

-- the same of a list of anything
pub eight-same : {A : Type 0} {a b c d e f g h a' b' c' d' e' f' g' h' : A} → a ≡ a' → b ≡ b' → c ≡ c' → d ≡ d' → e ≡ e' → f ≡ f' → g ≡ g' → h ≡ h'
    → (a ∷ b ∷ c ∷ d ∷ e ∷ f ∷ g ∷ h ∷ []) ≡ (a' ∷ b' ∷ c' ∷ d' ∷ e' ∷ f' ∷ g' ∷ h' ∷ [])
eight-same p q r s t u v w = cc
