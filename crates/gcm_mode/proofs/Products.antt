-- The product of two blocks, some bits at a time.
use Rattle.std.proofs.Common.{◌≡◌, ◌⊎◌, ℕ, zero, suc, ◌+◌, ◌-◌, ◌*◌, ◌/◌, ◌%◌, ◌^◌, ◌<◌, ◌≤◌, List, length, set, get_or, Bool, true, false, cond, eqb, inl, inr, refl, ap, ap₂, sym, ◌∙◌, arith, eq-eqb}
use Rattle.std.specs.Int.Bits.{bit_and, bit_xor, xor_assoc, xor_comm, xor_mod, xor_shr, xor_shifted, xor_zero_r}
use Rattle.std.proofs.lemmas.Bool.{agree_below_at, eqb-true, ne_eqb}
use Rattle.std.proofs.lemmas.Bool.{cases_eq}
use Rattle.std.proofs.lemmas.List.{get_or-set_other, get_or-set_same}
use Rattle.std.proofs.lemmas.Nat.{and_mask, shr-shr, shr_split}
use Rattle.std.proofs.lemmas.Nat.Bits.{bit_at_cat_low, shr_and_one}
use Rattle.gcm_mode.specs.declared.ghash.TheConstants.{REDUCTIONS}
use Rattle.gcm_mode.specs.Ghash.{place_entry, product_of, times_x, times_x_power}

-- ---- a bit at a time, from the left

-- a bit of x that is 1 adds v to the sum
pub product_of_taken : (sum sum' n x v v' : ℕ) → bit_and (x / 2 ^ n) 1 ≡ 1 → sum' ≡ bit_xor sum v → v' ≡ times_x v
    → bit_xor sum' (product_of n x v') ≡ bit_xor sum (product_of (suc n) x v)
unfolding product_of
product_of_taken sum sum' n x v v' set es ev =
    let test : eqb ((x / 2 ^ n) % 2) 1 ≡ true = eq-eqb _ _ (sym (shr_and_one x n) ∙ set) in
    rw (test, es, ev) (xor_assoc sum v (product_of n x (times_x v)))

-- and one that is 0 adds nothing
pub product_of_skipped : (sum sum' n x v v' : ℕ) → (bit_and (x / 2 ^ n) 1 ≡ 1 → ⊥) → sum' ≡ sum → v' ≡ times_x v
    → bit_xor sum' (product_of n x v') ≡ bit_xor sum (product_of (suc n) x v)
unfolding product_of
product_of_skipped sum sum' n x v v' clear es ev =
    let test : eqb ((x / 2 ^ n) % 2) 1 ≡ false = ne_eqb _ _ (λ e. clear (shr_and_one x n ∙ e)) in
    rw (test, es, ev) refl

pub product_of_none : (x v : ℕ) → product_of 0 x v ≡ 0
unfolding product_of
product_of_none x v = refl

-- ---- x times a sum is the sum of the products

-- what the coefficient of x^127 leaves
abbrev pub reduced : ℕ → ℕ
reduced v = cond (eqb (v % 2) 0) 0 (0xe1 * 2 ^ 120)

pub times_x_parts : (v : ℕ) → times_x v ≡ bit_xor (v / 2) (reduced v)
unfolding times_x
times_x_parts v = choice (eqb (v % 2) 0)
  where
    choice : (b : Bool) → cond b (v / 2) (bit_xor (v / 2) (0xe1 * 2 ^ 120)) ≡ bit_xor (v / 2) (cond b 0 (0xe1 * 2 ^ 120))
    choice true = sym (xor_zero_r (v / 2))
    choice false = refl

pub parity-xor : (a b p q : ℕ) → a % 2 ≡ p → b % 2 ≡ q → bit_xor a b % 2 ≡ bit_xor p q
parity-xor a b p q e f = xor_mod a b 1 ∙ rw (e, f) refl

pub even_or_odd : (a : ℕ) → (a % 2 ≡ 0) ⊎ (a % 2 ≡ 1)
even_or_odd a = grind arith

reduced-xor : (a b : ℕ) → reduced (bit_xor a b) ≡ bit_xor (reduced a) (reduced b)
reduced-xor a b = elim (even_or_odd a) [
  | inl ea ↦ elim (even_or_odd b) [
    | inl eb ↦ rw (parity-xor a b 0 0 ea eb, ea, eb) refl
    | inr eb ↦ rw (parity-xor a b 0 1 ea eb, ea, eb) refl
  ]
  | inr ea ↦ elim (even_or_odd b) [
    | inl eb ↦ rw (parity-xor a b 1 0 ea eb, ea, eb) refl
    | inr eb ↦ rw (parity-xor a b 1 1 ea eb, ea, eb) refl
  ]
]

pub xor_pairs : (p q r s : ℕ) → bit_xor (bit_xor p q) (bit_xor r s) ≡ bit_xor (bit_xor p r) (bit_xor q s)
xor_pairs p q r s =
    let turned : bit_xor q (bit_xor r s) ≡ bit_xor r (bit_xor q s) =
    sym (xor_assoc q r s) ∙ ap (λ (n : ℕ). bit_xor n s) (xor_comm q r) ∙ xor_assoc r q s in
    xor_assoc p q (bit_xor r s) ∙ ap (λ (n : ℕ). bit_xor p n) turned ∙ sym (xor_assoc p r (bit_xor q s))

pub times_x-xor : (a b : ℕ) → times_x (bit_xor a b) ≡ bit_xor (times_x a) (times_x b)
times_x-xor a b =
    let halves : bit_xor a b / 2 ≡ bit_xor (a / 2) (b / 2) = xor_shr a b 1 in
    rw (times_x_parts (bit_xor a b), times_x_parts a, times_x_parts b, halves, reduced-xor a b) (xor_pairs (a / 2) (b / 2) (reduced a) (reduced b))

pub times_x-zero : times_x 0 ≡ 0
unfolding times_x
times_x-zero = refl

pub times_x-double : (a : ℕ) → times_x (a * 2) ≡ a
unfolding times_x
times_x-double a =
    let even : a * 2 % 2 ≡ 0 = omega arith in
    let half : a * 2 / 2 ≡ a = omega arith in
    rw (even, half) refl

-- ---- some bits from the left, and the bits after them

pub times_x_power-xor : (m a b : ℕ) → times_x_power m (bit_xor a b) ≡ bit_xor (times_x_power m a) (times_x_power m b)
times_x_power-xor zero a b = refl
times_x_power-xor (suc m) a b = ap (times_x_power m) (times_x-xor a b) ∙ times_x_power-xor m (times_x a) (times_x b)

pub product_of-times_x : (n x v : ℕ) → product_of n x (times_x v) ≡ times_x (product_of n x v)
unfolding product_of
product_of-times_x zero x v = sym times_x-zero
product_of-times_x (suc n) x v =
    let test : Bool = eqb ((x / 2 ^ n) % 2) 1 in
    let rest : product_of n x (times_x (times_x v)) ≡ times_x (product_of n x (times_x v)) = product_of-times_x n x (times_x v) in
    ap (λ (k : ℕ). bit_xor (cond test (times_x v) 0) k) rest ∙ ap (λ (k : ℕ). bit_xor k (times_x (product_of n x (times_x v)))) (choice v test)
    ∙ sym (times_x-xor (cond test v 0) (product_of n x (times_x v)))
  where
    choice : (v : ℕ) (b : Bool) → cond b (times_x v) 0 ≡ times_x (cond b v 0)
    choice v true = refl
    choice v false = sym times_x-zero

pub product_of-add : (m n x v : ℕ) → product_of (m + n) x v ≡ bit_xor (product_of m (x / 2 ^ n) v) (times_x_power m (product_of n x v))
unfolding product_of
product_of-add zero n x v =
    let none : 0 + n ≡ n = omega arith in
    ap (λ (k : ℕ). product_of k x v) none
product_of-add (suc m) n x v =
    let next : suc m + n ≡ suc (m + n) = omega arith in
    let order : n + m ≡ m + n = omega arith in
    let bit : x / 2 ^ n / 2 ^ m ≡ x / 2 ^ (m + n) = shr-shr x n m ∙ ap (λ (k : ℕ). x / 2 ^ k) order in
    let taken : ℕ = cond (eqb ((x / 2 ^ (m + n)) % 2) 1) v 0 in
    let before : product_of (m + n) x (times_x v) ≡ bit_xor (product_of m (x / 2 ^ n) (times_x v)) (times_x_power m (times_x (product_of n x v))) =
    product_of-add m n x (times_x v) ∙ ap (λ (k : ℕ). bit_xor (product_of m (x / 2 ^ n) (times_x v)) (times_x_power m k)) (product_of-times_x n x v) in
    ap (λ (k : ℕ). product_of k x v) next ∙ ap (λ (k : ℕ). bit_xor taken k) before
    ∙ sym (xor_assoc taken (product_of m (x / 2 ^ n) (times_x v)) (times_x_power m (times_x (product_of n x v))))
    ∙ ap (λ (k : ℕ). bit_xor (bit_xor (cond (eqb (k % 2) 1) v 0) (product_of m (x / 2 ^ n) (times_x v))) (times_x_power m (times_x (product_of n x v)))) (sym bit)

-- ---- 4 bits at a time, from the right

-- only the lowest 4 bits count
pub product_of_nibble : (x v : ℕ) → product_of 4 (x % 16) v ≡ product_of 4 x v
unfolding product_of
product_of_nibble x v =
    let a : x % 16 / 8 % 2 ≡ x / 8 % 2 = omega arith in
    let b : x % 16 / 4 % 2 ≡ x / 4 % 2 = omega arith in
    let c : x % 16 / 2 % 2 ≡ x / 2 % 2 = omega arith in
    let d : x % 16 / 1 % 2 ≡ x / 1 % 2 = omega arith in
    rw (a, b, c, d) refl

-- x^4 times a block is what its bits are after a move, and what the 4 bits that leave stand for
pub shifted_parts : (v : ℕ) → times_x_power 4 v ≡ bit_xor (v / 16) (times_x_power 4 (v % 16))
shifted_parts v =
    let low : v % 16 < 16 = omega arith in
    let whole : v ≡ bit_xor (v / 16 * 16) (v % 16) = omega arith ∙ sym (xor_shifted (v / 16) 4 (v % 16) low) in
    let high : times_x_power 4 (v / 16 * 16) ≡ v / 16 =
    ap (times_x_power 4) (doubles (v / 16)) ∙ ap (times_x_power 3) (times_x-double (v / 16 * 2 * 2 * 2)) ∙ ap (times_x_power 2) (times_x-double (v / 16 * 2 * 2))
    ∙ ap (times_x_power 1) (times_x-double (v / 16 * 2)) ∙ times_x-double (v / 16) in
    ap (times_x_power 4) whole ∙ times_x_power-xor 4 (v / 16 * 16) (v % 16) ∙ ap (λ (k : ℕ). bit_xor k (times_x_power 4 (v % 16))) high
  where
    doubles : (a : ℕ) → a * 16 ≡ a * 2 * 2 * 2 * 2
    doubles a = omega arith

-- the entry of 8 is h itself
pub product_of_one : (h : ℕ) → product_of 4 8 h ≡ h
unfolding product_of
product_of_one h = xor_zero_r h

-- the table has the product with x^4 of each 4 bits that leave
reductions_are : (k : ℕ) → k < 16 → get_or REDUCTIONS k 0 * 2 ^ 112 % 2 ^ 128 ≡ times_x_power 4 k
unfolding times_x
reductions_are k within =
    eqb-true _ _ (agree_below_at (λ (b : ℕ). eqb (get_or REDUCTIONS b 0 * 2 ^ 112 % 2 ^ 128) (times_x_power 4 b)) (λ (b : ℕ). true) 16 k refl within)

pub shifted_by_table : (v r : ℕ) → r ≡ get_or REDUCTIONS (bit_and v 15) 0 → bit_xor (v / 16) (r * 2 ^ 112 % 2 ^ 128) ≡ times_x_power 4 v
shifted_by_table v r read =
    let low : v % 16 < 16 = omega arith in
    let place : bit_and v 15 ≡ v % 16 = and_mask v 4 in
    let entry : r * 2 ^ 112 % 2 ^ 128 ≡ times_x_power 4 (v % 16) = rw (read, place) (reductions_are (v % 16) low) in
    ap (λ (k : ℕ). bit_xor (v / 16) k) entry ∙ sym (shifted_parts v)

-- ---- a table of the 4 bits at each place

pub product_of-times_x_power : (m n x v : ℕ) → product_of n x (times_x_power m v) ≡ times_x_power m (product_of n x v)
product_of-times_x_power zero n x v = refl
product_of-times_x_power (suc m) n x v =
    product_of-times_x_power m n x (times_x v) ∙ ap (times_x_power m) (product_of-times_x n x v)

pub times_x_power-add : (m n v : ℕ) → times_x_power (m + n) v ≡ times_x_power n (times_x_power m v)
times_x_power-add zero n v =
    let none : 0 + n ≡ n = omega arith in
    ap (λ (k : ℕ). times_x_power k v) none
times_x_power-add (suc m) n v =
    let next : suc m + n ≡ suc (m + n) = omega arith in
    ap (λ (k : ℕ). times_x_power k v) next ∙ times_x_power-add m n (times_x v)

-- the first 16 entries
pub place_entry-first : (h j : ℕ) → j < 16 → place_entry h j ≡ product_of 4 j h
place_entry-first h j first =
    let low : j % 16 ≡ j = omega arith in
    let place : 4 * (j / 16) ≡ 0 = omega arith in
    rw (low, place) refl

-- an entry is x^4 times the one 16 before it
pub place_entry-more : (h i : ℕ) → 16 ≤ i → place_entry h i ≡ times_x_power 4 (place_entry h (i - 16))
place_entry-more h i behind =
    let low : i % 16 ≡ (i - 16) % 16 = omega arith in
    let place : 4 * (i / 16) ≡ 4 * ((i - 16) / 16) + 4 = omega arith in
    rw (low, place, times_x_power-add (4 * ((i - 16) / 16)) 4 h)
    (product_of-times_x_power 4 4 ((i - 16) % 16) (times_x_power (4 * ((i - 16) / 16)) h))

-- the lowest n bits are all that counts
pub product_of_low : (m n x v : ℕ) → n ≤ m → product_of n (x % 2 ^ m) v ≡ product_of n x v
unfolding product_of
product_of_low m zero x v within = refl
product_of_low m (suc n) x v within =
    let same : (x % 2 ^ m) / 2 ^ n % 2 ≡ x / 2 ^ n % 2 =
    sym (bit_at_cat_low (x / 2 ^ m) m (x % 2 ^ m) n (omega arith)) ∙ ap (λ (k : ℕ). k / 2 ^ n % 2) (shr_split x m) in
    ap₂ (λ (b k : ℕ). bit_xor (cond (eqb b 1) v 0) k) same (product_of_low m n x (times_x v) (omega arith))

-- both halves of a block
pub product_of_halves : (x h low : ℕ) → low ≡ bit_and x 0xffff_ffff_ffff_ffff
    → bit_xor (product_of 64 (x / 2 ^ 64) h) (product_of 64 low (times_x_power 64 h)) ≡ product_of 128 x h
product_of_halves x h low at =
    let mask : bit_and x 0xffff_ffff_ffff_ffff ≡ x % 2 ^ 64 = and_mask x 64 in
    let lower : product_of 64 low (times_x_power 64 h) ≡ times_x_power 64 (product_of 64 x h) =
    ap (λ (k : ℕ). product_of 64 k (times_x_power 64 h)) (at ∙ mask) ∙ product_of_low 64 64 x (times_x_power 64 h) (omega arith)
    ∙ product_of-times_x_power 64 64 x h in
    ap (bit_xor (product_of 64 (x / 2 ^ 64) h)) lower ∙ sym (product_of-add 64 64 x h)

-- the entry of the 4 bits at place p, and the product of the n bits after them
place_more : (h y n p entry : ℕ) → entry ≡ place_entry h (16 * p + bit_and (y / 2 ^ n) 15)
    → bit_xor entry (product_of n y (times_x_power (4 * (p + 1)) h)) ≡ product_of (4 + n) y (times_x_power (4 * p) h)
place_more h y n p entry found =
    let low : bit_and (y / 2 ^ n) 15 ≡ (y / 2 ^ n) % 16 = and_mask (y / 2 ^ n) 4 in
    let same : (16 * p + bit_and (y / 2 ^ n) 15) % 16 ≡ (y / 2 ^ n) % 16 = omega (arith, low) in
    let place : 4 * ((16 * p + bit_and (y / 2 ^ n) 15) / 16) ≡ 4 * p = omega (arith, low) in
    let next : 4 * (p + 1) ≡ 4 * p + 4 = omega arith in
    rw (found, same, place, next, product_of_nibble (y / 2 ^ n) (times_x_power (4 * p) h), times_x_power-add (4 * p) 4 h, product_of-times_x_power 4 n y (times_x_power (4 * p) h), product_of-add 4 n y (times_x_power (4 * p) h))
    refl

-- the sum so far with the products of what is left of both halves, after i places of each
abbrev pub with_rest : ℕ → ℕ → ℕ → ℕ → ℕ → ℕ
with_rest h high low sum i =
    bit_xor sum (bit_xor (product_of (64 - 4 * i) high (times_x_power (4 * i) h)) (product_of (64 - 4 * i) low (times_x_power (4 * (16 + i)) h)))

pub with_rest-more : (h high low sum i a b : ℕ) → i < 16 → a ≡ place_entry h (16 * i + bit_and (high / 2 ^ (60 - 4 * i)) 15)
    → b ≡ place_entry h (16 * (16 + i) + bit_and (low / 2 ^ (60 - 4 * i)) 15) → with_rest h high low (bit_xor sum (bit_xor a b)) (i + 1) ≡ with_rest h high low sum i
with_rest-more h high low sum i a b within found-a found-b =
    let left : 64 - 4 * (i + 1) ≡ 60 - 4 * i = omega arith in
    let whole : 64 - 4 * i ≡ 4 + (60 - 4 * i) = omega arith in
    let next : 16 + (i + 1) ≡ 16 + i + 1 = omega arith in
    rw (left, whole, next)
    (xor_assoc sum (bit_xor a b) _
    ∙ ap (bit_xor sum) (xor_pairs a b _ _ ∙ ap₂ bit_xor (place_more h high (60 - 4 * i) i a found-a) (place_more h low (60 - 4 * i) (16 + i) b found-b)))

pub with_rest-all : (h high low sum : ℕ) → with_rest h high low sum 16 ≡ sum
unfolding product_of
with_rest-all h high low sum = xor_zero_r sum

-- a table that is f below i, and one entry more
pub table_more : (f : ℕ → ℕ) (table : List ℕ) (i y : ℕ) → i < length table → ((k : ℕ) → k < i → get_or table k 0 ≡ f k) → y ≡ f i
    → (k : ℕ) → k < i + 1 → get_or (set table i y) k 0 ≡ f k
table_more f table i y room before at k below =
    elim (cases_eq k i) [
      | inl same ↦ ap (λ (j : ℕ). get_or (set table i y) j 0) same ∙ get_or-set_same table i y 0 room ∙ at ∙ ap f (sym same)
      | inr other ↦ get_or-set_other table i k y 0 other ∙ before k (omega (arith, other))
    ]

-- the entry of 8 at the leftmost place is h itself
pub place_entry_one : (h : ℕ) → place_entry h 8 ≡ h
place_entry_one h = place_entry-first h 8 (omega arith) ∙ product_of_one h

-- the sum of the products of the bits so far, and of 4 bits more
pub product_of_nibble_more : (h x i sum sum' nibble entry : ℕ) → sum ≡ product_of (4 * i) x h → nibble ≡ (x / 2 ^ (4 * i)) % 16 → entry ≡ product_of 4 nibble h
    → sum' ≡ bit_xor (times_x_power 4 sum) entry → sum' ≡ product_of (4 * (i + 1)) x h
product_of_nibble_more h x i sum sum' nibble entry known at found more =
    let next : 4 * (i + 1) ≡ 4 + 4 * i = omega arith in
    let low : entry ≡ product_of 4 (x / 2 ^ (4 * i)) h = found ∙ ap (λ (k : ℕ). product_of 4 k h) at ∙ product_of_nibble (x / 2 ^ (4 * i)) h in
    more ∙ ap (λ (k : ℕ). bit_xor (times_x_power 4 sum) k) low ∙ ap (λ (k : ℕ). bit_xor (times_x_power 4 k) (product_of 4 (x / 2 ^ (4 * i)) h)) known
    ∙ xor_comm (times_x_power 4 (product_of (4 * i) x h)) (product_of 4 (x / 2 ^ (4 * i)) h)
    ∙ sym (product_of-add 4 (4 * i) x h) ∙ ap (λ (k : ℕ). product_of k x h) (sym next)

-- the product with x, the bit that leaves being a factor
pub times_x_by_product : (v low : ℕ) → low ≡ v % 2 → bit_xor (v / 2) (low * (0xe1 * 2 ^ 120)) ≡ times_x v
times_x_by_product v low is = rw is (sym (times_x_parts v ∙ ap (bit_xor (v / 2)) (choice (v % 2) (even_or_odd v))))
  where
    choice : (b : ℕ) → (b ≡ 0) ⊎ (b ≡ 1) → cond (eqb b 0) 0 (0xe1 * 2 ^ 120) ≡ b * (0xe1 * 2 ^ 120)
    choice b (inl none) = rw none refl
    choice b (inr one) = rw one refl
