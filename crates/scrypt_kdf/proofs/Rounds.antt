-- The rounds of Salsa20, quarter by quarter.
use Rattle.std.proofs.Common.{◌≡◌, ℕ, zero, suc, ◌+◌, ◌<◌, ◌≤◌, ◌%◌, ◌^◌, List, ◌++◌, set, take, drop, add-one, arith, [], ◌∷◌, get_or, length, refl, ap, ◌∙◌, sym, ap₂}
use Rattle.std.proofs.lemmas.List.{append-nil, drop_all, take_all}
use Rattle.std.proofs.lemmas.List.FromFn.{fill_by_all}
use Rattle.scrypt_kdf.specs.Salsa.{add_words, double_round, quarter, salsa}

-- a quarter round that doesn't compute by itself
unfoldable step : ℕ → ℕ → ℕ → ℕ → List ℕ → List ℕ
step a b c d x = quarter a b c d x

-- each quarter of 16 words is that of its 4 words
column_0 : (x0 x1 x2 x3 x4 x5 x6 x7 x8 x9 x10 x11 x12 x13 x14 x15 : ℕ) (q : List ℕ) → q ≡ quarter 0 1 2 3 (x0 ∷ x4 ∷ x8 ∷ x12 ∷ [])
    → step 0 4 8 12 (x0 ∷ x1 ∷ x2 ∷ x3 ∷ x4 ∷ x5 ∷ x6 ∷ x7 ∷ x8 ∷ x9 ∷ x10 ∷ x11 ∷ x12 ∷ x13 ∷ x14 ∷ x15 ∷ []) ≡ get_or q 0 0 ∷ x1 ∷ x2 ∷ x3 ∷ get_or q 1 0 ∷ x5 ∷ x6 ∷ x7 ∷ get_or q 2 0 ∷ x9 ∷ x10 ∷ x11 ∷ get_or q 3 0 ∷ x13 ∷ x14 ∷ x15 ∷ []
unfolding step
column_0 x0 x1 x2 x3 x4 x5 x6 x7 x8 x9 x10 x11 x12 x13 x14 x15 q e = rw e refl

column_1 : (x0 x1 x2 x3 x4 x5 x6 x7 x8 x9 x10 x11 x12 x13 x14 x15 : ℕ) (q : List ℕ) → q ≡ quarter 0 1 2 3 (x5 ∷ x9 ∷ x13 ∷ x1 ∷ [])
    → step 5 9 13 1 (x0 ∷ x1 ∷ x2 ∷ x3 ∷ x4 ∷ x5 ∷ x6 ∷ x7 ∷ x8 ∷ x9 ∷ x10 ∷ x11 ∷ x12 ∷ x13 ∷ x14 ∷ x15 ∷ []) ≡ x0 ∷ get_or q 3 0 ∷ x2 ∷ x3 ∷ x4 ∷ get_or q 0 0 ∷ x6 ∷ x7 ∷ x8 ∷ get_or q 1 0 ∷ x10 ∷ x11 ∷ x12 ∷ get_or q 2 0 ∷ x14 ∷ x15 ∷ []
unfolding step
column_1 x0 x1 x2 x3 x4 x5 x6 x7 x8 x9 x10 x11 x12 x13 x14 x15 q e = rw e refl

column_2 : (x0 x1 x2 x3 x4 x5 x6 x7 x8 x9 x10 x11 x12 x13 x14 x15 : ℕ) (q : List ℕ) → q ≡ quarter 0 1 2 3 (x10 ∷ x14 ∷ x2 ∷ x6 ∷ [])
    → step 10 14 2 6 (x0 ∷ x1 ∷ x2 ∷ x3 ∷ x4 ∷ x5 ∷ x6 ∷ x7 ∷ x8 ∷ x9 ∷ x10 ∷ x11 ∷ x12 ∷ x13 ∷ x14 ∷ x15 ∷ []) ≡ x0 ∷ x1 ∷ get_or q 2 0 ∷ x3 ∷ x4 ∷ x5 ∷ get_or q 3 0 ∷ x7 ∷ x8 ∷ x9 ∷ get_or q 0 0 ∷ x11 ∷ x12 ∷ x13 ∷ get_or q 1 0 ∷ x15 ∷ []
unfolding step
column_2 x0 x1 x2 x3 x4 x5 x6 x7 x8 x9 x10 x11 x12 x13 x14 x15 q e = rw e refl

column_3 : (x0 x1 x2 x3 x4 x5 x6 x7 x8 x9 x10 x11 x12 x13 x14 x15 : ℕ) (q : List ℕ) → q ≡ quarter 0 1 2 3 (x15 ∷ x3 ∷ x7 ∷ x11 ∷ [])
    → step 15 3 7 11 (x0 ∷ x1 ∷ x2 ∷ x3 ∷ x4 ∷ x5 ∷ x6 ∷ x7 ∷ x8 ∷ x9 ∷ x10 ∷ x11 ∷ x12 ∷ x13 ∷ x14 ∷ x15 ∷ []) ≡ x0 ∷ x1 ∷ x2 ∷ get_or q 1 0 ∷ x4 ∷ x5 ∷ x6 ∷ get_or q 2 0 ∷ x8 ∷ x9 ∷ x10 ∷ get_or q 3 0 ∷ x12 ∷ x13 ∷ x14 ∷ get_or q 0 0 ∷ []
unfolding step
column_3 x0 x1 x2 x3 x4 x5 x6 x7 x8 x9 x10 x11 x12 x13 x14 x15 q e = rw e refl

row_0 : (x0 x1 x2 x3 x4 x5 x6 x7 x8 x9 x10 x11 x12 x13 x14 x15 : ℕ) (q : List ℕ) → q ≡ quarter 0 1 2 3 (x0 ∷ x1 ∷ x2 ∷ x3 ∷ [])
    → step 0 1 2 3 (x0 ∷ x1 ∷ x2 ∷ x3 ∷ x4 ∷ x5 ∷ x6 ∷ x7 ∷ x8 ∷ x9 ∷ x10 ∷ x11 ∷ x12 ∷ x13 ∷ x14 ∷ x15 ∷ []) ≡ get_or q 0 0 ∷ get_or q 1 0 ∷ get_or q 2 0 ∷ get_or q 3 0 ∷ x4 ∷ x5 ∷ x6 ∷ x7 ∷ x8 ∷ x9 ∷ x10 ∷ x11 ∷ x12 ∷ x13 ∷ x14 ∷ x15 ∷ []
unfolding step
row_0 x0 x1 x2 x3 x4 x5 x6 x7 x8 x9 x10 x11 x12 x13 x14 x15 q e = rw e refl

row_1 : (x0 x1 x2 x3 x4 x5 x6 x7 x8 x9 x10 x11 x12 x13 x14 x15 : ℕ) (q : List ℕ) → q ≡ quarter 0 1 2 3 (x5 ∷ x6 ∷ x7 ∷ x4 ∷ [])
    → step 5 6 7 4 (x0 ∷ x1 ∷ x2 ∷ x3 ∷ x4 ∷ x5 ∷ x6 ∷ x7 ∷ x8 ∷ x9 ∷ x10 ∷ x11 ∷ x12 ∷ x13 ∷ x14 ∷ x15 ∷ []) ≡ x0 ∷ x1 ∷ x2 ∷ x3 ∷ get_or q 3 0 ∷ get_or q 0 0 ∷ get_or q 1 0 ∷ get_or q 2 0 ∷ x8 ∷ x9 ∷ x10 ∷ x11 ∷ x12 ∷ x13 ∷ x14 ∷ x15 ∷ []
unfolding step
row_1 x0 x1 x2 x3 x4 x5 x6 x7 x8 x9 x10 x11 x12 x13 x14 x15 q e = rw e refl

row_2 : (x0 x1 x2 x3 x4 x5 x6 x7 x8 x9 x10 x11 x12 x13 x14 x15 : ℕ) (q : List ℕ) → q ≡ quarter 0 1 2 3 (x10 ∷ x11 ∷ x8 ∷ x9 ∷ [])
    → step 10 11 8 9 (x0 ∷ x1 ∷ x2 ∷ x3 ∷ x4 ∷ x5 ∷ x6 ∷ x7 ∷ x8 ∷ x9 ∷ x10 ∷ x11 ∷ x12 ∷ x13 ∷ x14 ∷ x15 ∷ []) ≡ x0 ∷ x1 ∷ x2 ∷ x3 ∷ x4 ∷ x5 ∷ x6 ∷ x7 ∷ get_or q 2 0 ∷ get_or q 3 0 ∷ get_or q 0 0 ∷ get_or q 1 0 ∷ x12 ∷ x13 ∷ x14 ∷ x15 ∷ []
unfolding step
row_2 x0 x1 x2 x3 x4 x5 x6 x7 x8 x9 x10 x11 x12 x13 x14 x15 q e = rw e refl

row_3 : (x0 x1 x2 x3 x4 x5 x6 x7 x8 x9 x10 x11 x12 x13 x14 x15 : ℕ) (q : List ℕ) → q ≡ quarter 0 1 2 3 (x15 ∷ x12 ∷ x13 ∷ x14 ∷ [])
    → step 15 12 13 14 (x0 ∷ x1 ∷ x2 ∷ x3 ∷ x4 ∷ x5 ∷ x6 ∷ x7 ∷ x8 ∷ x9 ∷ x10 ∷ x11 ∷ x12 ∷ x13 ∷ x14 ∷ x15 ∷ []) ≡ x0 ∷ x1 ∷ x2 ∷ x3 ∷ x4 ∷ x5 ∷ x6 ∷ x7 ∷ x8 ∷ x9 ∷ x10 ∷ x11 ∷ get_or q 1 0 ∷ get_or q 2 0 ∷ get_or q 3 0 ∷ get_or q 0 0 ∷ []
unfolding step
row_3 x0 x1 x2 x3 x4 x5 x6 x7 x8 x9 x10 x11 x12 x13 x14 x15 q e = rw e refl

unfold_steps : (x : List ℕ) → double_round x ≡ step 15 12 13 14 (step 10 11 8 9 (step 5 6 7 4 (step 0 1 2 3 (step 15 3 7 11 (step 10 14 2 6 (step 5 9 13 1 (step 0 4 8 12 x)))))))
unfolding step
unfold_steps x = refl

-- the quarters of a double round of 16 words: those of its columns, and then those of its rows
pub record AreQuarters (x q0 q1 q2 q3 q4 q5 q6 q7 : List ℕ) : Type 0 where
  pub first : q0 ≡ quarter 0 1 2 3 (get_or x 0 0 ∷ get_or x 4 0 ∷ get_or x 8 0 ∷ get_or x 12 0 ∷ [])
  pub second : q1 ≡ quarter 0 1 2 3 (get_or x 5 0 ∷ get_or x 9 0 ∷ get_or x 13 0 ∷ get_or x 1 0 ∷ [])
  pub third : q2 ≡ quarter 0 1 2 3 (get_or x 10 0 ∷ get_or x 14 0 ∷ get_or x 2 0 ∷ get_or x 6 0 ∷ [])
  pub fourth : q3 ≡ quarter 0 1 2 3 (get_or x 15 0 ∷ get_or x 3 0 ∷ get_or x 7 0 ∷ get_or x 11 0 ∷ [])
  pub fifth : q4 ≡ quarter 0 1 2 3 (get_or q0 0 0 ∷ get_or q1 3 0 ∷ get_or q2 2 0 ∷ get_or q3 1 0 ∷ [])
  pub sixth : q5 ≡ quarter 0 1 2 3 (get_or q1 0 0 ∷ get_or q2 3 0 ∷ get_or q3 2 0 ∷ get_or q0 1 0 ∷ [])
  pub seventh : q6 ≡ quarter 0 1 2 3 (get_or q2 0 0 ∷ get_or q3 3 0 ∷ get_or q0 2 0 ∷ get_or q1 1 0 ∷ [])
  pub eighth : q7 ≡ quarter 0 1 2 3 (get_or q3 0 0 ∷ get_or q0 3 0 ∷ get_or q1 2 0 ∷ get_or q2 1 0 ∷ [])

double_round-is : (x0 x1 x2 x3 x4 x5 x6 x7 x8 x9 x10 x11 x12 x13 x14 x15 : ℕ) {q0 q1 q2 q3 q4 q5 q6 q7 : List ℕ} → AreQuarters (x0 ∷ x1 ∷ x2 ∷ x3 ∷ x4 ∷ x5 ∷ x6 ∷ x7 ∷ x8 ∷ x9 ∷ x10 ∷ x11 ∷ x12 ∷ x13 ∷ x14 ∷ x15 ∷ []) q0 q1 q2 q3 q4 q5 q6 q7
    → get_or q4 0 0 ∷ get_or q4 1 0 ∷ get_or q4 2 0 ∷ get_or q4 3 0 ∷ get_or q5 3 0 ∷ get_or q5 0 0 ∷ get_or q5 1 0 ∷ get_or q5 2 0 ∷ get_or q6 2 0 ∷ get_or q6 3 0 ∷ get_or q6 0 0 ∷ get_or q6 1 0 ∷ get_or q7 1 0 ∷ get_or q7 2 0 ∷ get_or q7 3 0 ∷ get_or q7 0 0 ∷ [] ≡ double_round (x0 ∷ x1 ∷ x2 ∷ x3 ∷ x4 ∷ x5 ∷ x6 ∷ x7 ∷ x8 ∷ x9 ∷ x10 ∷ x11 ∷ x12 ∷ x13 ∷ x14 ∷ x15 ∷ [])
double_round-is x0 x1 x2 x3 x4 x5 x6 x7 x8 x9 x10 x11 x12 x13 x14 x15 {q0 = q0} {q1 = q1} {q2 = q2} {q3 = q3} {q4 = q4} {q5 = q5} {q6 = q6} {q7 = q7} q =
    sym (unfold_steps (x0 ∷ x1 ∷ x2 ∷ x3 ∷ x4 ∷ x5 ∷ x6 ∷ x7 ∷ x8 ∷ x9 ∷ x10 ∷ x11 ∷ x12 ∷ x13 ∷ x14 ∷ x15 ∷ [])
    ∙ ap (λ (l : List ℕ). step 15 12 13 14 (step 10 11 8 9 (step 5 6 7 4 (step 0 1 2 3 (step 15 3 7 11 (step 10 14 2 6 (step 5 9 13 1 l))))))) (column_0 x0 x1 x2 x3 x4 x5 x6 x7 x8 x9 x10 x11 x12 x13 x14 x15 q0 q.first)
    ∙ ap (λ (l : List ℕ). step 15 12 13 14 (step 10 11 8 9 (step 5 6 7 4 (step 0 1 2 3 (step 15 3 7 11 (step 10 14 2 6 l)))))) (column_1 (get_or q0 0 0) x1 x2 x3 (get_or q0 1 0) x5 x6 x7 (get_or q0 2 0) x9 x10 x11 (get_or q0 3 0) x13 x14 x15 q1 q.second)
    ∙ ap (λ (l : List ℕ). step 15 12 13 14 (step 10 11 8 9 (step 5 6 7 4 (step 0 1 2 3 (step 15 3 7 11 l))))) (column_2 (get_or q0 0 0) (get_or q1 3 0) x2 x3 (get_or q0 1 0) (get_or q1 0 0) x6 x7 (get_or q0 2 0) (get_or q1 1 0) x10 x11 (get_or q0 3 0) (get_or q1 2 0) x14 x15 q2 q.third)
    ∙ ap (λ (l : List ℕ). step 15 12 13 14 (step 10 11 8 9 (step 5 6 7 4 (step 0 1 2 3 l)))) (column_3 (get_or q0 0 0) (get_or q1 3 0) (get_or q2 2 0) x3 (get_or q0 1 0) (get_or q1 0 0) (get_or q2 3 0) x7 (get_or q0 2 0) (get_or q1 1 0) (get_or q2 0 0) x11 (get_or q0 3 0) (get_or q1 2 0) (get_or q2 1 0) x15 q3 q.fourth)
    ∙ ap (λ (l : List ℕ). step 15 12 13 14 (step 10 11 8 9 (step 5 6 7 4 l))) (row_0 (get_or q0 0 0) (get_or q1 3 0) (get_or q2 2 0) (get_or q3 1 0) (get_or q0 1 0) (get_or q1 0 0) (get_or q2 3 0) (get_or q3 2 0) (get_or q0 2 0) (get_or q1 1 0) (get_or q2 0 0) (get_or q3 3 0) (get_or q0 3 0) (get_or q1 2 0) (get_or q2 1 0) (get_or q3 0 0) q4 q.fifth)
    ∙ ap (λ (l : List ℕ). step 15 12 13 14 (step 10 11 8 9 l)) (row_1 (get_or q4 0 0) (get_or q4 1 0) (get_or q4 2 0) (get_or q4 3 0) (get_or q0 1 0) (get_or q1 0 0) (get_or q2 3 0) (get_or q3 2 0) (get_or q0 2 0) (get_or q1 1 0) (get_or q2 0 0) (get_or q3 3 0) (get_or q0 3 0) (get_or q1 2 0) (get_or q2 1 0) (get_or q3 0 0) q5 q.sixth)
    ∙ ap (λ (l : List ℕ). step 15 12 13 14 l) (row_2 (get_or q4 0 0) (get_or q4 1 0) (get_or q4 2 0) (get_or q4 3 0) (get_or q5 3 0) (get_or q5 0 0) (get_or q5 1 0) (get_or q5 2 0) (get_or q0 2 0) (get_or q1 1 0) (get_or q2 0 0) (get_or q3 3 0) (get_or q0 3 0) (get_or q1 2 0) (get_or q2 1 0) (get_or q3 0 0) q6 q.seventh)
    ∙ row_3 (get_or q4 0 0) (get_or q4 1 0) (get_or q4 2 0) (get_or q4 3 0) (get_or q5 3 0) (get_or q5 0 0) (get_or q5 1 0) (get_or q5 2 0) (get_or q6 2 0) (get_or q6 3 0) (get_or q6 0 0) (get_or q6 1 0) (get_or q0 3 0) (get_or q1 2 0) (get_or q2 1 0) (get_or q3 0 0) q7 q.eighth)

-- a list of 16 words by its places
pub sixteen-is : (x : List ℕ) → length x ≡ 16 → x ≡ get_or x 0 0 ∷ get_or x 1 0 ∷ get_or x 2 0 ∷ get_or x 3 0 ∷ get_or x 4 0 ∷ get_or x 5 0 ∷ get_or x 6 0 ∷ get_or x 7 0 ∷ get_or x 8 0 ∷ get_or x 9 0 ∷ get_or x 10 0 ∷ get_or x 11 0 ∷ get_or x 12 0 ∷ get_or x 13 0 ∷ get_or x 14 0 ∷ get_or x 15 0 ∷ []
sixteen-is x long = fill_by_all (λ (k : ℕ). get_or x k 0) x 16 0 long (λ k h. refl)

-- what a double round makes of 16 words
pub double_round_of_sixteen : (x : List ℕ) {q0 q1 q2 q3 q4 q5 q6 q7 : List ℕ} → length x ≡ 16 → AreQuarters x q0 q1 q2 q3 q4 q5 q6 q7
    → get_or q4 0 0 ∷ get_or q4 1 0 ∷ get_or q4 2 0 ∷ get_or q4 3 0 ∷ get_or q5 3 0 ∷ get_or q5 0 0 ∷ get_or q5 1 0 ∷ get_or q5 2 0 ∷ get_or q6 2 0 ∷ get_or q6 3 0 ∷ get_or q6 0 0 ∷ get_or q6 1 0 ∷ get_or q7 1 0 ∷ get_or q7 2 0 ∷ get_or q7 3 0 ∷ get_or q7 0 0 ∷ [] ≡ double_round x
double_round_of_sixteen x long q =
    double_round-is (get_or x 0 0) (get_or x 1 0) (get_or x 2 0) (get_or x 3 0) (get_or x 4 0) (get_or x 5 0) (get_or x 6 0) (get_or x 7 0) (get_or x 8 0) (get_or x 9 0) (get_or x 10 0) (get_or x 11 0) (get_or x 12 0) (get_or x 13 0) (get_or x 14 0) (get_or x 15 0)
    (record { first = q.first; second = q.second; third = q.third; fourth = q.fourth; fifth = q.fifth; sixth = q.sixth; seventh = q.seventh; eighth = q.eighth })
    ∙ ap double_round (sym (sixteen-is x long))

-- ---- Salsa20/8

-- x after n double rounds
unfoldable pub rounds : List ℕ → ℕ → List ℕ
rounds x zero = x
rounds x (suc n) = double_round (rounds x n)

pub rounds-none : (x y : List ℕ) → y ≡ x → y ≡ rounds x 0
unfolding rounds
rounds-none x y e = e

pub rounds-more : (x y z : List ℕ) (n : ℕ) → y ≡ rounds x n → z ≡ double_round y → z ≡ rounds x (n + 1)
unfolding rounds
rounds-more x y z n e step = rw add-one (step ∙ ap double_round e)

pub salsa-is : (x y z : List ℕ) (n : ℕ) → n ≡ 4 → y ≡ rounds x n → z ≡ add_words y x → z ≡ salsa x
unfolding rounds salsa
salsa-is x y z n four e added = added ∙ ap (λ (l : List ℕ). add_words l x) (e ∙ ap (rounds x) four)

-- one more word added over the first i, that is x
add_over-step : (i x y : ℕ) (xs ks : List ℕ) → i < length xs → i < length ks → x ≡ get_or (add_words (take i ks) (take i xs) ++ drop i xs) i 0 → y ≡ get_or ks i 0
    → set (add_words (take i ks) (take i xs) ++ drop i xs) i ((y + x) % 2 ^ 32) ≡ add_words (take (suc i) ks) (take (suc i) xs) ++ drop (suc i) xs
add_over-step i x y [] ks h k e f = absurd (omega arith)
add_over-step i x y (a ∷ xs) [] h k e f = absurd (omega arith)
add_over-step zero x y (a ∷ xs) (b ∷ ks) h k e f = ap₂ (λ (p q : ℕ). (p + q) % 2 ^ 32 ∷ xs) f e
add_over-step (suc i) x y (a ∷ xs) (b ∷ ks) h k e f = ap (λ (l : List ℕ). (b + a) % 2 ^ 32 ∷ l) (add_over-step i x y xs ks (omega arith) (omega arith) e f)

pub add_over_more : (i x y : ℕ) (xs ks ys : List ℕ) → i < length xs → i < length ks → ys ≡ add_words (take i ks) (take i xs) ++ drop i xs
    → x ≡ get_or ys i 0 → y ≡ get_or ks i 0 → set ys i ((y + x) % 2 ^ 32) ≡ add_words (take (i + 1) ks) (take (i + 1) xs) ++ drop (i + 1) xs
add_over_more i x y xs ks ys h k s e f = rw (add-one, s) (add_over-step i x y xs ks h k (rw s at e) f)

-- every word added over
pub add_over_all : (i : ℕ) (xs ks ys : List ℕ) → length xs ≤ i → length ks ≤ i → ys ≡ add_words (take i ks) (take i xs) ++ drop i xs → ys ≡ add_words ks xs
add_over_all i xs ks ys h k e =
    e ∙ rw (take_all i xs h, take_all i ks k, drop_all i xs h) (append-nil (add_words ks xs))
