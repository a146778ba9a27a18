-- What clocks in memory give, call by call.
use Rattle.std.proofs.Common.{◌≡◌, ℕ, zero, suc, ◌+◌, ◌-◌, ◌^◌, ◌≤◌, [], ◌∷◌, min, refl, arith}
use Rattle.outside.specs.Calls.{followed_by}

pub stands : (second k : ℕ) → second ≡ followed_by (second ∷ []) (λ n. second) k
stands second zero = refl
stands second (suc k) = refl

pub ticks : (second next : ℕ) → second ≤ 2 ^ 32 - 1 → next ≡ min (second + 1) (2 ^ 32 - 1) → (k : ℕ) → min (second + k) (2 ^ 32 - 1) ≡ followed_by (second ∷ []) (λ n. min (next + n) (2 ^ 32 - 1)) k
ticks second next fits is zero = omega arith
ticks second next fits is (suc k) = omega arith
