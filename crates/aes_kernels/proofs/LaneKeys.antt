-- Round keys in the form of their rounds, and blocks under a key.
use Rattle.std.proofs.Common.{◌≡◌, ℕ, suc, ◌+◌, ◌-◌, ◌*◌, ◌<◌, ◌≤◌, List, [], ◌∷◌, ◌++◌, length, map, get_or, set, take, drop, eqb, ap, ap₂, sym, subst, ◌∙◌, refl, arith, inr}
use Rattle.std.proofs.lemmas.Bool.{cond-true, cond-false, eq-eqb, ne_eqb}
use Rattle.std.proofs.lemmas.Simd.{map-map}
use Rattle.std.proofs.lemmas.List.FromFn.{fill_by_all}
use Rattle.std.specs.List.{AllByRecursion}
use Rattle.std.proofs.lemmas.List.{append-nil, drop_all, length-set, get_or-set_other, get_or_default, take_all}
use Rattle.std.proofs.lemmas.List.Edits.{map_over_more}
use Rattle.aes_block.specs.Bytes.{AreBytes, xor_bytes}
use Rattle.aes_block.specs.Aes.{aes, key_schedule, round_key, state_after}
use Rattle.aes_block.proofs.Inversion.{IsBlock-state_after}
use Rattle.aes_block.proofs.Schedules.{IsBlock-round_key}
use Rattle.aes_block.proofs.StateLemmas.{aes-is, state_after-more}
use Rattle.aes_kernels.specs.Nibbles.{IsBlock, IsKey, based, first_round_of, formed, last_round_of, round_of}
use Rattle.aes_kernels.proofs.Rounds.{based_key, based-xor, last_key, last_round-is, round-is}

pub formed-first : (r : ℕ) (k : List ℕ) → r ≡ 0 → formed r k ≡ map based k
formed-first r k e = cond-true (eqb r 0) _ _ (eq-eqb _ _ e)

pub formed-last : (r : ℕ) (k : List ℕ) → r ≡ 14 → formed r k ≡ last_key k
formed-last r k e = ap (λ (n : ℕ). formed n k) e

pub formed-other : (r : ℕ) (k : List ℕ) → (r ≡ 0 → ⊥) → (r ≡ 14 → ⊥) → formed r k ≡ based_key k
formed-other r k h j = cond-false (eqb r 0) _ _ (ne_eqb _ _ h) ∙ cond-false (eqb r 14) _ _ (ne_eqb _ _ j)

based-sum : (s k : List ℕ) → AreBytes s → AreBytes k → xor_bytes (map based s) (map based k) ≡ map based (xor_bytes s k)
based-sum [] k h j = refl
based-sum (x ∷ s) [] h j = refl
based-sum (x ∷ s) (y ∷ k) h j = ap₂ (λ (a : ℕ) (l : List ℕ). a ∷ l) (sym (based-xor x y h.0 j.0)) (based-sum s k h.1 j.1)

-- the state of a block after r rounds
abbrev pub after : List ℕ → ℕ → List ℕ → List ℕ
after key r block = state_after (key_schedule key) block r

key-block : (key : List ℕ) → IsKey key → (r : ℕ) → r ≤ 14 → IsBlock (round_key (key_schedule key) r)
key-block key k r le = IsBlock-round_key key (inr k.0, k.1) r (omega (arith, k.0))

after-block : (key : List ℕ) → IsKey key → (block : List ℕ) → IsBlock block → (r : ℕ) → r ≤ 14 → IsBlock (after key r block)
after-block key k block b r le = IsBlock-state_after (key_schedule key) 14 (key-block key k) block b r le

pub first-is : (key keys : List ℕ) (block : List ℕ) → IsKey key → IsBlock block → keys ≡ formed 0 (round_key (key_schedule key) 0) → first_round_of keys block ≡ map based (after key 0 block)
unfolding first_round_of state_after
first-is key keys block k b e =
    ap (xor_bytes (map based block)) e ∙ based-sum block (round_key (key_schedule key) 0) b.1 (key-block key k 0 (omega arith)).1

pub next-is : (key keys : List ℕ) (block : List ℕ) (r : ℕ) → IsKey key → IsBlock block → 1 ≤ r → r < 14 → keys ≡ formed r (round_key (key_schedule key) r)
    → round_of keys (map based (after key (r - 1) block)) ≡ map based (after key (r + 1 - 1) block)
next-is key keys block r k b low high e =
    let s = after-block key k block b (r - 1) (omega arith) in
    let t = key-block key k r (omega arith) in
    ap (λ (l : List ℕ). round_of l (map based (after key (r - 1) block)))
    (e ∙ formed-other r (round_key (key_schedule key) r) (λ z. absurd (omega arith)) (λ z. absurd (omega arith)))
    ∙ round-is (after key (r - 1) block) (round_key (key_schedule key) r) s.0 t.0 s.1 t.1
    ∙ ap (map based) (state_after-more (key_schedule key) block (after key (r - 1) block) r low refl)

pub last-is : (key keys : List ℕ) (block : List ℕ) → IsKey key → IsBlock block → keys ≡ formed 14 (round_key (key_schedule key) 14)
    → last_round_of keys (map based (after key 13 block)) ≡ aes key block
last-is key keys block k b e =
    let s = after-block key k block b 13 (omega arith) in
    let t = key-block key k 14 (omega arith) in
    ap (λ (l : List ℕ). last_round_of l (map based (after key 13 block))) (e ∙ formed-last 14 (round_key (key_schedule key) 14) refl)
    ∙ last_round-is (after key 13 block) (round_key (key_schedule key) 14) s.0 t.0 s.1
    ∙ aes-is key (key_schedule key) block 14 refl (omega (arith, k.0))

-- ---- some blocks

abbrev pub AreBlocks : List (List ℕ) → Type 0
AreBlocks blocks = AllByRecursion IsBlock blocks

same-map : (f g : List ℕ → List ℕ) → ((b : List ℕ) → IsBlock b → f b ≡ g b) → (blocks : List (List ℕ)) → AreBlocks blocks → map f blocks ≡ map g blocks
same-map f g e [] h = refl
same-map f g e (b ∷ blocks) h = ap₂ (λ (x : List ℕ) (l : List (List ℕ)). x ∷ l) (e b h.0) (same-map f g e blocks h.1)

-- the vectors after r rounds
abbrev pub vectors : List ℕ → ℕ → List (List ℕ) → List (List ℕ)
vectors key r blocks = map (λ b. map based (after key r b)) blocks

pub vectors-first : (key keys : List ℕ) (blocks made : List (List ℕ)) → IsKey key → AreBlocks blocks → keys ≡ formed 0 (round_key (key_schedule key) 0)
    → made ≡ map (first_round_of keys) blocks → made ≡ vectors key 0 blocks
vectors-first key keys blocks made k h e m =
    m ∙ same-map (first_round_of keys) (λ b. map based (after key 0 b)) (λ b is. first-is key keys b k is e) blocks h

pub vectors-more : (key keys : List ℕ) (blocks made before : List (List ℕ)) (r : ℕ) → IsKey key → AreBlocks blocks → 1 ≤ r → r < 14 → keys ≡ formed r (round_key (key_schedule key) r)
    → before ≡ vectors key (r - 1) blocks → made ≡ map (round_of keys) before → made ≡ vectors key (r + 1 - 1) blocks
vectors-more key keys blocks made before r k h low high e so_far m =
    m ∙ ap (map (round_of keys)) so_far ∙ map-map (round_of keys) (λ b. map based (after key (r - 1) b)) blocks
    ∙ same-map (λ b. round_of keys (map based (after key (r - 1) b))) (λ b. map based (after key (r + 1 - 1) b)) (λ b is. next-is key keys b r k is low high e) blocks h

pub vectors-last : (key keys : List ℕ) (blocks made before : List (List ℕ)) (r : ℕ) → IsKey key → AreBlocks blocks → r ≡ 14 → keys ≡ formed 14 (round_key (key_schedule key) 14)
    → before ≡ vectors key (r - 1) blocks → made ≡ map (last_round_of keys) before → made ≡ map (aes key) blocks
vectors-last key keys blocks made before r k h end e so_far m =
    m ∙ ap (map (last_round_of keys)) (so_far ∙ ap (λ (n : ℕ). vectors key (n - 1) blocks) end) ∙ map-map (last_round_of keys) (λ b. map based (after key 13 b)) blocks
    ∙ same-map (λ b. last_round_of keys (map based (after key 13 b))) (aes key) (λ b is. last-is key keys b k is e) blocks h

-- four blocks
pub four-is : (x : List (List ℕ)) → length x ≡ 4 → x ≡ get_or x 0 [] ∷ get_or x 1 [] ∷ get_or x 2 [] ∷ get_or x 3 [] ∷ []
four-is x long = fill_by_all (λ (k : ℕ). get_or x k []) x 4 [] long (λ k h. refl)

-- ---- encryption in place

module _ (f : List ℕ → List ℕ) (xs : List (List ℕ)) where
  -- ys are the blocks, of which f has been made of the first i
  abbrev pub Done : ℕ → List (List ℕ) → Type 0
  Done i ys = ys ≡ map f (take i xs) ++ drop i xs

  pub one_more : (ys : List (List ℕ)) (i : ℕ) (x y : List ℕ) → i < length xs → i < length ys → Done i ys → x ≡ get_or ys i [] → y ≡ f x → Done (i + 1) (set ys i y)
  one_more ys i x y room room' e at is =
      ap (set ys i) is ∙ map_over_more f xs ys i x room e (at ∙ get_or_default ys i [] x room')

  pub all_done : (ys : List (List ℕ)) (i : ℕ) → length xs ≤ i → Done i ys → ys ≡ map f xs
  all_done ys i h e =
      e ∙ ap₂ (λ (p q : List (List ℕ)). map f p ++ q) (take_all i xs h) (drop_all i xs h) ∙ append-nil (map f xs)

  pub four_more : (ys made : List (List ℕ)) (i : ℕ) → 4 * i + 4 ≤ length xs → length ys ≡ length xs → Done (4 * i) ys
      → made ≡ map f (get_or ys (4 * i) [] ∷ get_or ys (4 * i + 1) [] ∷ get_or ys (4 * i + 2) [] ∷ get_or ys (4 * i + 3) [] ∷ [])
      → Done (4 * (i + 1)) (set (set (set (set ys (4 * i) (get_or made 0 [])) (4 * i + 1) (get_or made 1 [])) (4 * i + 2) (get_or made 2 [])) (4 * i + 3) (get_or made 3 []))
  four_more ys made i room same e m =
      let n : ℕ = 4 * i in
      let m0 : List ℕ = get_or made 0 [] in
      let m1 : List ℕ = get_or made 1 [] in
      let m2 : List ℕ = get_or made 2 [] in
      let at = λ (k : ℕ). ap (λ (l : List (List ℕ)). get_or l k []) m in
      let y1 : List (List ℕ) = set ys n m0 in
      let y2 : List (List ℕ) = set y1 (n + 1) m1 in
      let y3 : List (List ℕ) = set y2 (n + 2) m2 in
      let l1 : length y1 ≡ length xs = length-set ys n m0 ∙ same in
      let l2 : length y2 ≡ length xs = length-set y1 (n + 1) m1 ∙ l1 in
      let l3 : length y3 ≡ length xs = length-set y2 (n + 2) m2 ∙ l2 in
      let o1 = λ (j : ℕ) (h : n < j). get_or-set_other ys n j m0 [] (λ z. absurd (omega arith)) in
      let o2 = λ (j : ℕ) (h : n + 1 < j). get_or-set_other y1 (n + 1) j m1 [] (λ z. absurd (omega arith)) ∙ o1 j (omega arith) in
      let o3 = λ (j : ℕ) (h : n + 2 < j). get_or-set_other y2 (n + 2) j m2 [] (λ z. absurd (omega arith)) ∙ o2 j (omega arith) in
      let e1 = one_more ys n (get_or ys n []) m0 (omega arith) (omega (arith, same)) e refl (at 0) in
      let e2 = subst (λ (k : ℕ). Done k y2) (plus n 1) (one_more y1 (n + 1) (get_or ys (n + 1) []) m1 (omega arith) (omega (arith, l1)) e1 (sym (o1 (n + 1) (omega arith))) (at 1)) in
      let e3 = subst (λ (k : ℕ). Done k y3) (plus n 2) (one_more y2 (n + 2) (get_or ys (n + 2) []) m2 (omega arith) (omega (arith, l2)) e2 (sym (o2 (n + 2) (omega arith))) (at 2)) in
      subst (λ (k : ℕ). Done k (set y3 (n + 3) (get_or made 3 []))) (last i)
      (one_more y3 (n + 3) (get_or ys (n + 3) []) (get_or made 3 []) (omega arith) (omega (arith, l3)) e3 (sym (o3 (n + 3) (omega arith))) (at 3))
    where
      plus : (n k : ℕ) → n + k + 1 ≡ n + suc k
      plus n k = omega arith

      last : (i : ℕ) → 4 * i + 3 + 1 ≡ 4 * (i + 1)
      last i = omega arith
