-- Decryption undoes encryption, and encryption decryption, round by round.
use Rattle.std.proofs.Common.{◌≡◌, ℕ, zero, suc, ◌+◌, ◌-◌, ◌/◌, ◌%◌, ◌<◌, ◌≤◌, List, [], ◌∷◌, length, get_or, map, refl, sym, ap, ap₂, ◌∙◌, arith}
use Rattle.std.specs.List.{range_with_len}
use Rattle.std.proofs.lemmas.List.{length-map}
use Rattle.std.proofs.lemmas.List.FromFn.{fill_by_all}
use Rattle.aes_block.specs.Bytes.{xor_bytes, AreBytes, MakesBlocks}
use Rattle.aes_block.specs.Field.{substituted, substituted_back}
use Rattle.aes_block.specs.Aes.{aes, inverse_aes, inverse_mix_columns, inverse_shift_rows, inverse_sub_bytes, key_schedule, mix_columns, place, round_count, round_key, shift_rows, state_after, state_back_after, sub_bytes}
use Rattle.aes_block.proofs.ByteLemmas.{AreBytes-map, AreBytes-xor, get_or-byte, length-xor, substituted-lt, substituted_back-lt, xor_bytes-twice}
use Rattle.aes_block.proofs.ColumnLemmas.{AreBytes-inverse_mix_columns, AreBytes-mix_columns, inverse_mix_columns-mix_columns, length-inverse_mix_columns, length-mix_columns, mix_columns-inverse_mix_columns}
use Rattle.aes_block.proofs.Schedules.{IsBlock, IsBlock-round_key, IsKey}
use Rattle.aes_block.proofs.TableLemmas.{substituted-substituted_back, substituted_back-substituted}

-- ---- each step keeps a block a block, and is undone

-- a block xored with a round key is a block
pub IsBlock-xor : (s k : List ℕ) → IsBlock s → IsBlock k → IsBlock (xor_bytes s k)
IsBlock-xor s k h j = (length-xor s k (omega (arith, h.0, j.0)) ∙ h.0, AreBytes-xor s k h.1 j.1)

IsBlock-sub_bytes : (s : List ℕ) → IsBlock s → IsBlock (sub_bytes s)
unfolding sub_bytes
IsBlock-sub_bytes s h = (length-map s substituted ∙ h.0, AreBytes-map substituted substituted-lt s)

IsBlock-inverse_sub_bytes : (s : List ℕ) → IsBlock s → IsBlock (inverse_sub_bytes s)
unfolding inverse_sub_bytes
IsBlock-inverse_sub_bytes s h = (length-map s substituted_back ∙ h.0, AreBytes-map substituted_back substituted_back-lt s)

IsBlock-shift_rows : (s : List ℕ) → AreBytes s → IsBlock (shift_rows s)
unfolding shift_rows
IsBlock-shift_rows s h = (refl, AreBytes-map (λ i. get_or s (place (i % 4) (i / 4 + i % 4)) 0) (λ i. get_or-byte s _ h) (range_with_len 0 16))

IsBlock-inverse_shift_rows : (s : List ℕ) → AreBytes s → IsBlock (inverse_shift_rows s)
unfolding inverse_shift_rows
IsBlock-inverse_shift_rows s h = (refl, AreBytes-map (λ i. get_or s (place (i % 4) (i / 4 + (4 - i % 4))) 0) (λ i. get_or-byte s _ h) (range_with_len 0 16))

IsBlock-mix_columns : (s : List ℕ) → IsBlock s → IsBlock (mix_columns s)
IsBlock-mix_columns s h = (length-mix_columns s, AreBytes-mix_columns s h.1)

IsBlock-inverse_mix_columns : (s : List ℕ) → IsBlock s → IsBlock (inverse_mix_columns s)
IsBlock-inverse_mix_columns s h = (length-inverse_mix_columns s, AreBytes-inverse_mix_columns s h.1)

map-undone : (f g : ℕ → ℕ) → ((b : ℕ) → b < 256 → g (f b) ≡ b) → (s : List ℕ) → AreBytes s → map g (map f s) ≡ s
map-undone f g e [] h = refl
map-undone f g e (x ∷ s) h = ap₂ (λ (y : ℕ) (l : List ℕ). y ∷ l) (e x h.0) (map-undone f g e s h.1)

inverse_sub_bytes-sub_bytes : (s : List ℕ) → AreBytes s → inverse_sub_bytes (sub_bytes s) ≡ s
unfolding sub_bytes inverse_sub_bytes
inverse_sub_bytes-sub_bytes s h = map-undone substituted substituted_back substituted_back-substituted s h

sub_bytes-inverse_sub_bytes : (s : List ℕ) → AreBytes s → sub_bytes (inverse_sub_bytes s) ≡ s
unfolding sub_bytes inverse_sub_bytes
sub_bytes-inverse_sub_bytes s h = map-undone substituted_back substituted substituted-substituted_back s h

sixteen : (s : List ℕ) → length s ≡ 16 → map (λ i. get_or s i 0) (range_with_len 0 16) ≡ s
sixteen s h = sym (fill_by_all (λ i. get_or s i 0) s 16 0 h (λ k l. refl))

inverse_shift_rows-shift_rows : (s : List ℕ) → length s ≡ 16 → inverse_shift_rows (shift_rows s) ≡ s
unfolding shift_rows inverse_shift_rows
inverse_shift_rows-shift_rows s h = sixteen s h

shift_rows-inverse_shift_rows : (s : List ℕ) → length s ≡ 16 → shift_rows (inverse_shift_rows s) ≡ s
unfolding shift_rows inverse_shift_rows
shift_rows-inverse_shift_rows s h = sixteen s h

xored-twice : (s k : List ℕ) → IsBlock s → IsBlock k → xor_bytes (xor_bytes s k) k ≡ s
xored-twice s k h j = xor_bytes-twice s k (omega (arith, h.0, j.0))

-- ---- rounds

-- InvSubBytes after InvShiftRows, as the inverse cipher begins a round, and SubBytes before ShiftRows
abbrev unsubstituted : List ℕ → List ℕ
unsubstituted s = inverse_sub_bytes (inverse_shift_rows s)

abbrev resubstituted : List ℕ → List ℕ
resubstituted s = shift_rows (sub_bytes s)

unsubstituted-resubstituted : (s : List ℕ) → IsBlock s → unsubstituted (resubstituted s) ≡ s
unsubstituted-resubstituted s h =
    ap inverse_sub_bytes (inverse_shift_rows-shift_rows (sub_bytes s) (IsBlock-sub_bytes s h).0) ∙ inverse_sub_bytes-sub_bytes s h.1

resubstituted-unsubstituted : (s : List ℕ) → IsBlock s → resubstituted (unsubstituted s) ≡ s
resubstituted-unsubstituted s h =
    ap shift_rows (sub_bytes-inverse_sub_bytes (inverse_shift_rows s) (IsBlock-inverse_shift_rows s h.1).1) ∙ shift_rows-inverse_shift_rows s h.0

IsBlock-resubstituted : (s : List ℕ) → IsBlock s → IsBlock (resubstituted s)
IsBlock-resubstituted s h = IsBlock-shift_rows (sub_bytes s) (IsBlock-sub_bytes s h).1

IsBlock-unsubstituted : (s : List ℕ) → IsBlock s → IsBlock (unsubstituted s)
IsBlock-unsubstituted s h = IsBlock-inverse_sub_bytes (inverse_shift_rows s) (IsBlock-inverse_shift_rows s h.1)

round-undone : (t k : List ℕ) → IsBlock t → IsBlock k → inverse_mix_columns (xor_bytes (xor_bytes (mix_columns t) k) k) ≡ t
round-undone t k h j = ap inverse_mix_columns (xored-twice (mix_columns t) k (IsBlock-mix_columns t h) j) ∙ inverse_mix_columns-mix_columns t h.0 h.1

round-redone : (t k : List ℕ) → IsBlock t → IsBlock k → xor_bytes (mix_columns (inverse_mix_columns (xor_bytes t k))) k ≡ t
round-redone t k h j =
    let x = IsBlock-xor t k h j in
    ap (λ (s : List ℕ). xor_bytes s k) (mix_columns-inverse_mix_columns (xor_bytes t k) x.0 x.1) ∙ xored-twice t k h j

aes-rounds : (key block : List ℕ) → aes key block ≡ xor_bytes (resubstituted (state_after (key_schedule key) block (round_count key - 1))) (round_key (key_schedule key) (round_count key))
unfolding aes
aes-rounds key block = refl

inverse_aes-rounds : (key block : List ℕ) → inverse_aes key block ≡ xor_bytes (unsubstituted (state_back_after (key_schedule key) (round_count key) block (round_count key - 1))) (round_key (key_schedule key) 0)
unfolding inverse_aes
inverse_aes-rounds key block = refl

state_after-none : (schedule block : List ℕ) → state_after schedule block 0 ≡ xor_bytes block (round_key schedule 0)
unfolding state_after
state_after-none schedule block = refl

state_back_after-none : (schedule : List ℕ) (n : ℕ) (block : List ℕ) → state_back_after schedule n block 0 ≡ xor_bytes block (round_key schedule n)
unfolding state_back_after
state_back_after-none schedule n block = refl

-- under a schedule of n + 1 round keys
module _ (schedule : List ℕ) (n : ℕ) (keys : (r : ℕ) → r ≤ n → IsBlock (round_key schedule r)) where
  -- the state is a block after every round
  pub IsBlock-state_after : (block : List ℕ) → IsBlock block → (r : ℕ) → r ≤ n → IsBlock (state_after schedule block r)
  unfolding state_after
  IsBlock-state_after block h zero le = IsBlock-xor block (round_key schedule 0) h (keys 0 (omega arith))
  IsBlock-state_after block h (suc r) le =
      let s = IsBlock-state_after block h r (omega arith) in
      let t = IsBlock-shift_rows (sub_bytes (state_after schedule block r)) (IsBlock-sub_bytes (state_after schedule block r) s).1 in
      IsBlock-xor (mix_columns (shift_rows (sub_bytes (state_after schedule block r)))) (round_key schedule (suc r)) (IsBlock-mix_columns (shift_rows (sub_bytes (state_after schedule block r))) t) (keys (suc r) le)

  IsBlock-state_back_after : (block : List ℕ) → IsBlock block → (r : ℕ) → r ≤ n → IsBlock (state_back_after schedule n block r)
  unfolding state_back_after
  IsBlock-state_back_after block h zero le = IsBlock-xor block (round_key schedule n) h (keys n (omega arith))
  IsBlock-state_back_after block h (suc r) le =
      let s = IsBlock-state_back_after block h r (omega arith) in
      let b : List ℕ = state_back_after schedule n block r in
      let t = IsBlock-inverse_sub_bytes (inverse_shift_rows (state_back_after schedule n block r)) (IsBlock-inverse_shift_rows (state_back_after schedule n block r) s.1) in
      IsBlock-inverse_mix_columns (xor_bytes (inverse_sub_bytes (inverse_shift_rows (state_back_after schedule n block r))) (round_key schedule (n - suc r)))
      (IsBlock-xor (inverse_sub_bytes (inverse_shift_rows (state_back_after schedule n block r))) (round_key schedule (n - suc r)) t (keys (n - suc r) (omega arith)))

  undone_once : (block : List ℕ) (d : ℕ) → IsBlock (state_after schedule block d) → suc d ≤ n
      → inverse_mix_columns (xor_bytes (state_after schedule block (suc d)) (round_key schedule (suc d))) ≡ resubstituted (state_after schedule block d)
  unfolding state_after
  undone_once block d s le = round-undone (resubstituted (state_after schedule block d)) (round_key schedule (suc d)) (IsBlock-resubstituted (state_after schedule block d) s) (keys (suc d) le)

  redone_once : (block : List ℕ) (d i : ℕ) → IsBlock (state_back_after schedule n block d) → n - suc d ≡ i → i ≤ n
      → xor_bytes (mix_columns (state_back_after schedule n block (suc d))) (round_key schedule i) ≡ unsubstituted (state_back_after schedule n block d)
  unfolding state_back_after
  redone_once block d i s e le =
      ap (λ (j : ℕ). xor_bytes (mix_columns (inverse_mix_columns (xor_bytes (unsubstituted (state_back_after schedule n block d)) (round_key schedule j)))) (round_key schedule i)) e
      ∙ round-redone (unsubstituted (state_back_after schedule n block d)) (round_key schedule i) (IsBlock-unsubstituted (state_back_after schedule n block d) s) (keys i le)

  -- the states of the inverse cipher, before their round key, are those of the cipher, backwards
  undone : (block c : List ℕ) (m : ℕ) → IsBlock block → n ≡ suc m → c ≡ xor_bytes (resubstituted (state_after schedule block m)) (round_key schedule n)
      → (r : ℕ) → r ≤ m → unsubstituted (state_back_after schedule n c r) ≡ state_after schedule block (m - r)
  unfolding state_back_after
  undone block c m h en ec zero le =
      let s = IsBlock-state_after block h m (omega arith) in
      let whole : m ≡ m - 0 = omega arith in
      ap unsubstituted (ap (λ (x : List ℕ). xor_bytes x (round_key schedule n)) ec
      ∙ xored-twice (resubstituted (state_after schedule block m)) (round_key schedule n) (IsBlock-resubstituted (state_after schedule block m) s) (keys n (omega arith)))
      ∙ unsubstituted-resubstituted (state_after schedule block m) s ∙ ap (state_after schedule block) whole
  undone block c m h en ec (suc r) le =
      let s = IsBlock-state_after block h (m - suc r) (omega arith) in
      let before : m - r ≡ suc (m - suc r) = omega arith in
      let key : n - suc r ≡ suc (m - suc r) = omega arith in
      ap unsubstituted (ap₂ (λ (x : List ℕ) (i : ℕ). inverse_mix_columns (xor_bytes x (round_key schedule i))) (undone block c m h en ec r (omega arith) ∙ ap (state_after schedule block) before) key
      ∙ undone_once block (m - suc r) s (omega arith))
      ∙ unsubstituted-resubstituted (state_after schedule block (m - suc r)) s

  -- the states of the cipher on what the inverse cipher gives
  redone : (block p : List ℕ) (m : ℕ) → IsBlock block → n ≡ suc m → p ≡ xor_bytes (unsubstituted (state_back_after schedule n block m)) (round_key schedule 0)
      → (r : ℕ) → r ≤ m → state_after schedule p r ≡ unsubstituted (state_back_after schedule n block (m - r))
  unfolding state_after
  redone block p m h en ep zero le =
      let s = IsBlock-state_back_after block h m (omega arith) in
      let whole : m ≡ m - 0 = omega arith in
      ap (λ (x : List ℕ). xor_bytes x (round_key schedule 0)) ep
      ∙ xored-twice (unsubstituted (state_back_after schedule n block m)) (round_key schedule 0) (IsBlock-unsubstituted (state_back_after schedule n block m) s) (keys 0 (omega arith))
      ∙ ap (λ (i : ℕ). unsubstituted (state_back_after schedule n block i)) whole
  redone block p m h en ep (suc r) le =
      let s = IsBlock-state_back_after block h (m - suc r) (omega arith) in
      let t = IsBlock-state_back_after block h (suc (m - suc r)) (omega arith) in
      let before : m - r ≡ suc (m - suc r) = omega arith in
      let key : n - suc (m - suc r) ≡ suc r = omega arith in
      ap (λ (x : List ℕ). xor_bytes (mix_columns (resubstituted x)) (round_key schedule (suc r)))
      (redone block p m h en ep r (omega arith) ∙ ap (λ (i : ℕ). unsubstituted (state_back_after schedule n block i)) before)
      ∙ ap (λ (x : List ℕ). xor_bytes (mix_columns x) (round_key schedule (suc r))) (resubstituted-unsubstituted (state_back_after schedule n block (suc (m - suc r))) t)
      ∙ redone_once block (m - suc r) (suc r) s key (omega arith)

-- ---- the ciphers

pub inverse_aes-aes : (key block : List ℕ) → IsKey key → IsBlock block → inverse_aes key (aes key block) ≡ block
unfolding inverse_aes
inverse_aes-aes key block k h =
    let n : ℕ = round_count key in
    let m : ℕ = round_count key - 1 in
    let schedule : List ℕ = key_schedule key in
    let last : round_count key - 1 - (round_count key - 1) ≡ 0 = omega arith in
    let keys = IsBlock-round_key key k in
    ap (λ (x : List ℕ). xor_bytes x (round_key schedule 0))
    (undone schedule n keys block (aes key block) m h (omega arith) (aes-rounds key block) m (omega arith) ∙ ap (state_after schedule block) last ∙ state_after-none schedule block)
    ∙ xored-twice block (round_key schedule 0) h (keys 0 (omega arith))

pub aes-inverse_aes : (key block : List ℕ) → IsKey key → IsBlock block → aes key (inverse_aes key block) ≡ block
unfolding aes
aes-inverse_aes key block k h =
    let n : ℕ = round_count key in
    let m : ℕ = round_count key - 1 in
    let schedule : List ℕ = key_schedule key in
    let last : round_count key - 1 - (round_count key - 1) ≡ 0 = omega arith in
    let keys = IsBlock-round_key key k in
    let first = IsBlock-xor block (round_key schedule n) h (keys n (omega arith)) in
    ap (λ (x : List ℕ). xor_bytes (resubstituted x) (round_key schedule n))
    (redone schedule n keys block (inverse_aes key block) m h (omega arith) (inverse_aes-rounds key block) m (omega arith)
    ∙ ap (λ (i : ℕ). unsubstituted (state_back_after schedule n block i)) last ∙ ap unsubstituted (state_back_after-none schedule n block))
    ∙ ap (λ (x : List ℕ). xor_bytes x (round_key schedule n)) (resubstituted-unsubstituted (xor_bytes block (round_key schedule n)) first)
    ∙ xored-twice block (round_key schedule n) h (keys n (omega arith))

-- what the cipher makes of any list is a block
pub MakesBlocks-aes : (key : List ℕ) → IsKey key → MakesBlocks (aes key)
unfolding aes sub_bytes
MakesBlocks-aes key k =
    let last = IsBlock-round_key key k (round_count key) (omega arith) in
    let made : (b : List ℕ) → IsBlock (aes key b) = λ b.
    let s : List ℕ = state_after (key_schedule key) b (round_count key - 1) in
    IsBlock-xor (shift_rows (sub_bytes s)) (round_key (key_schedule key) (round_count key)) (IsBlock-shift_rows (sub_bytes s) (AreBytes-map substituted substituted-lt s)) last in
    record { long = λ b. (made b).0; bytes = λ b. (made b).1 }

-- and what the inverse cipher makes
pub MakesBlocks-inverse_aes : (key : List ℕ) → IsKey key → MakesBlocks (inverse_aes key)
unfolding inverse_aes inverse_sub_bytes inverse_shift_rows
MakesBlocks-inverse_aes key k =
    let last = IsBlock-round_key key k 0 (omega arith) in
    let made : (b : List ℕ) → IsBlock (inverse_aes key b) = λ b.
    let s : List ℕ = inverse_shift_rows (state_back_after (key_schedule key) (round_count key) b (round_count key - 1)) in
    IsBlock-xor (inverse_sub_bytes s) (round_key (key_schedule key) 0) (refl, AreBytes-map substituted_back substituted_back-lt s) last in
    record { long = λ b. (made b).0; bytes = λ b. (made b).1 }
