-- What the calls of the outside say of contents that are told, and when they may fail.
use Rattle.std.specs.Prelude.{◌≡◌, ◌⊎◌, ℕ, zero, suc, ◌+◌, ◌<◌, ◌≤◌, ◌-◌, ◌^◌, ◌==◌, if◌then◌else◌, List, [], ◌∷◌, ◌++◌, drop, Option, Some, None, option_map, IfSome, ⊤}

-- a count one higher, which saturates
abbrev pub risen : ℕ → ℕ
risen n = if n == 2 ^ 64 - 1 then n else n + 1

-- a count of faults rose, or is at its end already
abbrev pub Rose : ℕ → ℕ → Type 0
Rose before now = (before < now) ⊎ (now ≡ 2 ^ 64 - 1)

-- the count never falls, and a call answers that it failed only if the count rose
pub record HasCause (before now : ℕ) (failed : Type 0) : Type 0 where
  pub later : before ≤ now
  pub rose : failed → Rose before now

-- P of the contents, if they are told
abbrev pub Told : {X : Type 0} → Option X → (X → Type 0) → Type 0
Told contents P = IfSome contents P

-- P of the contents before and after, if they are told; whether an object tells never changes, so that what is told after a
-- call can be required by the next one
abbrev pub Changes : {X : Type 0} → Option X → Option X → (X → X → Type 0) → Type 0
Changes None None P = ⊤
Changes None (Some new) P = ⊥
Changes (Some old) None P = ⊥
Changes (Some old) (Some new) P = P old new

-- a call answers that its condition fails only if it does, or, if contents aren't told, only if the count rose
abbrev pub IsUnfit : {X : Type 0} → Option X → ℕ → ℕ → (X → Type 0) → Type 0
IsUnfit None before now Fits = Rose before now
IsUnfit (Some contents) before now Fits = ¬ (Fits contents)

-- a list grew by these at its end, if it is told
abbrev pub Extends : {X : Type 0} → Option (List X) → Option (List X) → List X → Type 0
Extends old new more = Changes old new (λ before after. after ≡ before ++ more)

-- these were taken from a list's front, if it is told
abbrev pub TakesFront : {X : Type 0} → Option (List X) → Option (List X) → List X → Type 0
TakesFront old new front = Changes old new (λ before after. before ≡ front ++ after)

-- these, and then what a sequence gives that has no end
abbrev pub followed_by : List ℕ → (ℕ → ℕ) → ℕ → ℕ
followed_by [] rest k = rest k
followed_by (x ∷ xs) rest zero = x
followed_by (x ∷ xs) rest (suc k) = followed_by xs rest k

-- these were the next that such a sequence gave, if it is told
abbrev pub TakesNext : Option (ℕ → ℕ) → Option (ℕ → ℕ) → List ℕ → Type 0
TakesNext old new front = Changes old new (λ before after. (k : ℕ) → before k ≡ followed_by front after k)

-- what it gives next, if it is told
abbrev pub next_of : Option (ℕ → ℕ) → Option ℕ
next_of to_give = option_map (λ seconds. seconds 0) to_give

-- a buffer is as it was from an index on
abbrev pub KeepsFrom : {X : Type 0} → ℕ → List X → List X → Type 0
KeepsFrom index old new = drop index new ≡ drop index old
