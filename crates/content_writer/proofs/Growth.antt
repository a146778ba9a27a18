-- Growth is a write of its last zero after a gap.
use Rattle.std.proofs.Common.{◌≡◌, ℕ, zero, suc, ◌+◌, ◌-◌, ◌<◌, min, max, true, false, List, [], ◌∷◌, ◌++◌, length, take, drop, map, replicate, Option, Some, refl, sym, ap, ◌∙◌, arith, length-append}
use Rattle.std.specs.Int.{div_ceil}
use Rattle.std.specs.Option.{option_map}
use Rattle.std.proofs.lemmas.List.{append-nil, append_assoc, drop_all, take_all, length-replicate, replicate_more}
use Rattle.tree_model.specs.Rows.{Cell, Content, bad_size, chunks, joined_cells, content_length}
use Rattle.tree_model.specs.Contents.{spliced, chunks_after, written_cells, written}

some_zeros : (n : ℕ) → map (λ (b : ℕ). Some b) (replicate n 0) ≡ replicate n (Some 0)
some_zeros zero = refl
some_zeros (suc n) = ap (λ (xs : List (Option ℕ)). Some 0 ∷ xs) (some_zeros n)

more_zeros : (n k : ℕ) → n ≡ k + 1 → map (λ (b : ℕ). Some b) (replicate n 0) ≡ replicate k (Some 0) ++ Some 0 ∷ []
more_zeros n k is = some_zeros n ∙ ap (λ (l : ℕ). replicate {A = Option ℕ} l (Some 0)) is ∙ sym (replicate_more {X = Option ℕ} k (Some 0))

-- the bytes afterwards, by all its zeros
by_zeros : (old : List (Option ℕ)) (m : ℕ) → length old < m → spliced old (length old) (replicate (m - length old) 0) ≡ old ++ map (λ b. Some b) (replicate (m - length old) 0)
by_zeros old m longer =
    let none : length old - length old ≡ 0 = omega arith in
    let zeros : List ℕ = replicate (m - length old) 0 in
    let behind : drop (length old + length zeros) old ≡ [] = drop_all (length old + length zeros) old (omega arith) in
    let front : take (length old) (old ++ replicate (length old - length old) (Some 0)) ≡ old =
    ap (λ (n : ℕ). take (length old) (old ++ replicate n (Some 0))) none ∙ ap (take (length old)) (append-nil old) ∙ take_all (length old) old (omega arith) in
    ap (λ (xs : List (Option ℕ)). xs ++ map (λ b. Some b) zeros ++ drop (length old + length zeros) old) front
    ∙ ap (λ (xs : List (Option ℕ)). old ++ map (λ b. Some b) zeros ++ xs) behind
    ∙ append-nil (old ++ map (λ b. Some b) zeros)

-- and by its last one
by_last : (old : List (Option ℕ)) (m : ℕ) → length old < m → spliced old (m - 1) (0 ∷ []) ≡ old ++ map (λ b. Some b) (replicate (m - length old) 0)
by_last old m longer =
    let gap : List (Option ℕ) = replicate (m - 1 - length old) (Some 0) in
    let long : length (old ++ replicate (m - 1 - length old) (Some 0)) ≡ m - 1 =
    omega (arith, length-append old (replicate (m - 1 - length old) (Some 0)), length-replicate {A = Option ℕ} (m - 1 - length old) (Some 0)) in
    let behind : drop (m - 1 + 1) old ≡ [] = drop_all (m - 1 + 1) old (omega arith) in
    ap (λ (xs : List (Option ℕ)). xs ++ Some 0 ∷ [] ++ drop (m - 1 + 1) old) (take_all (m - 1) (old ++ gap) (omega (arith, long)))
    ∙ ap (λ (xs : List (Option ℕ)). old ++ gap ++ Some 0 ∷ [] ++ xs) behind
    ∙ append-nil (old ++ gap ++ Some 0 ∷ [])
    ∙ append_assoc old gap (Some 0 ∷ [])
    ∙ ap (λ (xs : List (Option ℕ)). old ++ xs) (sym (more_zeros (m - length old) (m - 1 - length old) (omega arith)))

module _ (cells : List Cell) (m : ℕ) (longer : length (joined_cells cells) < m) where
  len : ℕ
  len = length (joined_cells cells)

  cells_grown : written_cells cells (length (joined_cells cells)) (replicate (m - length (joined_cells cells)) 0) ≡ written_cells cells (m - 1) (0 ∷ [])
  cells_grown =
      let n : ℕ = length (joined_cells cells) in
      let ends : length (joined_cells cells) + length (replicate {A = ℕ} (m - length (joined_cells cells)) 0) ≡ m =
      omega (arith, length-replicate {A = ℕ} (m - length (joined_cells cells)) 0) in
      let ends' : m - 1 + 1 ≡ m = omega arith in
      let low : min n n ≡ min (m - 1) n = omega arith in
      ap (λ (end : ℕ). chunks_after cells (spliced (joined_cells cells) n (replicate (m - n) 0)) (min n n) end (max (length cells) (div_ceil end 32768))) ends
      ∙ ap (λ (bytes : List (Option ℕ)). chunks_after cells bytes (min n n) m (max (length cells) (div_ceil m 32768)))
      (by_zeros (joined_cells cells) m longer ∙ sym (by_last (joined_cells cells) m longer))
      ∙ ap (λ (from : ℕ). chunks_after cells (spliced (joined_cells cells) (m - 1) (0 ∷ [])) from m (max (length cells) (div_ceil m 32768))) low
      ∙ sym (ap (λ (end : ℕ). chunks_after cells (spliced (joined_cells cells) (m - 1) (0 ∷ [])) (min (m - 1) n) end (max (length cells) (div_ceil end 32768))) ends')

pub grown_by_last : (content : Content) (n m : ℕ) → content_length content ≡ n → n < m → written content n (replicate (m - n) 0) ≡ written content (m - 1) (0 ∷ [])
unfolding written
grown_by_last bad_size n m long longer = refl
grown_by_last (chunks false cells) n m long longer = refl
grown_by_last (chunks true cells) n m long longer =
    let more : length (joined_cells cells) < m = omega (arith, long) in
    ap (λ (k : ℕ). option_map (λ cs. chunks true cs) (written_cells cells k (replicate (m - k) 0))) (sym long)
    ∙ ap (option_map (λ cs. chunks true cs)) (cells_grown cells m more)
