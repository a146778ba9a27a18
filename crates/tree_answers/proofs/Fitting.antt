-- Stats that fit, one after another.
use Rattle.std.proofs.Common.{◌≡◌, ◌≢◌, ℕ, ◌+◌, ◌-◌, ◌<◌, ◌≤◌, true, false, nat_le, nat_lt, List, [], ◌∷◌, ◌++◌, length, take, drop, flat_map, inl, inr, refl, sym, ap, ◌∙◌, append_assoc, arith}
use Rattle.std.specs.List.{concat, AllByRecursion}
use Rattle.std.proofs.lemmas.Bool.{cases_lt, cond-true, cond-false}
use Rattle.std.proofs.lemmas.Grind.{common_steps}
use borrow.Rule.Slice.PartMut.{mid_of, post_of, put_mid}
use Rattle.std.proofs.lemmas.List.{append-nil, nil_from_length, take_rest, length-append, length-take, length-drop, take_at, drop_at, take-append-drop, take-append-le, drop-append-le, drop-drop}
use Rattle.std.proofs.lemmas.List.Concat.{flat_map-cons, flat_map-append}
use Rattle.outside.proofs.Lists.{all_more}
use Rattle.tree_model.specs.Wire.{PlainStat, spelled_stat, IsTreeStat}
use Rattle.tree_model.specs.Asked.{AreStats}
use Rattle.tree_model.specs.Step.{fitting, is_too_small}

le_is : (a b : ℕ) → a ≤ b → nat_le a b ≡ true
le_is a b h = grind (arith, common_steps, h)

le_not : (a b : ℕ) → b < a → nat_le a b ≡ false
le_not a b h = grind (arith, common_steps, h)

lt_is : (a b : ℕ) → a < b → nat_lt a b ≡ true
lt_is a b h = grind (arith, common_steps, h)

lt_not : (a b : ℕ) → b ≤ a → nat_lt a b ≡ false
lt_not a b h = grind (arith, common_steps, h)

pub fits : (room : ℕ) (s : List ℕ) (stats : List (List ℕ)) → length s ≤ room → concat (fitting room (s ∷ stats)) ≡ s ++ concat (fitting (room - length s) stats)
unfolding fitting
fits room s stats h = ap concat (cond-true (nat_le (length s) room) _ _ (le_is (length s) room h))

pub fits_not : (room : ℕ) (s : List ℕ) (stats : List (List ℕ)) → room < length s → concat (fitting room (s ∷ stats)) ≡ []
unfolding fitting
fits_not room s stats h = ap concat (cond-false (nat_le (length s) room) _ _ (le_not (length s) room h))

pub nothing_fits : (room : ℕ) → concat (fitting room []) ≡ []
unfolding fitting
nothing_fits room = refl

-- ---- a buffer that is filled from its front on

-- the next text is written into the rest of the buffer
pub record IsPut (old new : List ℕ) (used : ℕ) (text : List ℕ) : Type 0 where
  pub within : used + length text ≤ length old
  pub is : new ≡ take used old ++ (text ++ drop (length text) (drop used old))

-- as a write into a part of the buffer, from a place up to its end
pub IsPut-part : (old part : List ℕ) (used size : ℕ) (text : List ℕ) → used ≤ length old → size ≤ length old - used → size ≡ length text
    → part ≡ text ++ drop size (mid_of used (length old - used) old) → IsPut old (put_mid used (length old - used) old part) used text
IsPut-part old part used size text within fit long is =
    let middle : mid_of used (length old - used) old ≡ drop used old = take_rest old used in
    let none : post_of used (length old - used) old ≡ [] = nil_from_length (post_of used (length old - used) old) (omega (arith, length-drop (length old - used) (drop used old), length-drop used old)) in
    record {
      within = omega (arith, within, fit, long);
      is = ap (λ (w : List ℕ). take used old ++ (part ++ w)) none
          ∙ ap (λ (w : List ℕ). take used old ++ w) (append-nil part ∙ is ∙ ap (λ (w : List ℕ). text ++ drop size w) middle ∙ ap (λ (n : ℕ). text ++ drop n (drop used old)) long);
    }

module _ (old new : List ℕ) (used : ℕ) (text : List ℕ) (put : IsPut old new used text) where
  front_length : length (take used old) ≡ used
  front_length = omega (arith, length-take used old, put.within)

  front_all : length (take used old ++ text) ≡ used + length text
  front_all = length-append (take used old) text ∙ ap (λ (n : ℕ). n + length text) front_length

  new_is : new ≡ (take used old ++ text) ++ drop (length text) (drop used old)
  new_is = put.is ∙ sym (append_assoc (take used old) text (drop (length text) (drop used old)))

  pub put_front : take (used + length text) new ≡ take used old ++ text
  put_front = ap (take (used + length text)) new_is ∙ take_at (take used old ++ text) (drop (length text) (drop used old)) (used + length text) front_all

  pub put_back : drop (used + length text) new ≡ drop (used + length text) old
  put_back =
      ap (drop (used + length text)) new_is ∙ drop_at (take used old ++ text) (drop (length text) (drop used old)) (used + length text) front_all
      ∙ drop-drop (length text) used old

  pub put_length : length new ≡ length old
  put_length =
      ap (λ (w : List ℕ). length w) new_is
      ∙ omega (arith, length-append (take used old ++ text) (drop (length text) (drop used old)), front_all, length-drop (length text) (drop used old), length-drop used old, put.within)

  -- what is after it stays as it was before that too
  pub put_keeps : (first : List ℕ) → drop used old ≡ drop used first → drop (used + length text) new ≡ drop (used + length text) first
  put_keeps first rest = put_back ∙ sym (drop-drop (length text) used old) ∙ ap (drop (length text)) rest ∙ drop-drop (length text) used first

  -- the front grows by what of the stats is next
  pub put_more : (room : ℕ) (all : List ℕ) (stats : List (List ℕ)) → length old ≡ room → all ≡ take used old ++ concat (fitting (room - used) (text ∷ stats))
      → all ≡ take (used + length text) new ++ concat (fitting (room - (used + length text)) stats)
  put_more room all stats long so_far =
      let left : room - used - length text ≡ room - (used + length text) = omega arith in
      so_far
      ∙ ap (λ (w : List ℕ). take used old ++ w) (fits (room - used) text stats (omega (arith, put.within, long)))
      ∙ sym (append_assoc (take used old) text (concat (fitting (room - used - length text) stats)))
      ∙ ap (λ (w : List ℕ). w ++ concat (fitting (room - used - length text) stats)) (sym put_front)
      ∙ ap (λ (n : ℕ). take (used + length text) new ++ concat (fitting n stats)) left

-- ---- whole stats

pub stats_more : (most : ℕ) (bytes : List ℕ) (s : PlainStat) → AreStats most bytes → IsTreeStat s → length bytes + length (spelled_stat s) ≤ most → AreStats most (bytes ++ spelled_stat s)
stats_more most bytes s are good fit = record {
  fit = omega (arith, length-append bytes (spelled_stat s), fit);
  stats = are.stats ++ s ∷ [];
  spelled =
      let one : flat_map spelled_stat (s ∷ []) ≡ spelled_stat s = flat_map-cons spelled_stat s [] ∙ append-nil (spelled_stat s) in
      ap (λ (w : List ℕ). w ++ spelled_stat s) are.spelled ∙ ap (λ (w : List ℕ). flat_map spelled_stat are.stats ++ w) (sym one)
      ∙ sym (flat_map-append spelled_stat are.stats (s ∷ []));
  each = all_more IsTreeStat are.stats s are.each good;
}

-- ---- whether the first is too large

none_from : (w : List ℕ) → length w ≡ 0 → w ≡ []
none_from [] h = refl
none_from (b ∷ w) h = absurd (omega arith)

-- something was put
pub some_fit : (most : ℕ) (stats : List (List ℕ)) (bytes : List ℕ) → bytes ≡ concat (fitting most stats) → length bytes ≢ 0 → is_too_small most stats ≡ false
unfolding fitting
some_fit most [] bytes is some = absurd (some (ap (λ (w : List ℕ). length w) is))
some_fit most (s ∷ stats) bytes is some = elim (cases_lt most (length s)) [
  | inl small ↦ absurd (some (ap (λ (w : List ℕ). length w) (is ∙ fits_not most s stats small)))
  | inr fit ↦ lt_not most (length s) fit
]

-- nothing was put, though something could be
pub none_fit : (most : ℕ) (s : List ℕ) (stats : List (List ℕ)) (bytes : List ℕ) → bytes ≡ concat (fitting most (s ∷ stats)) → length bytes ≡ 0 → 0 < length s → is_too_small most (s ∷ stats) ≡ true
none_fit most s stats bytes is none some = elim (cases_lt most (length s)) [
  | inl small ↦ lt_is most (length s) small
  | inr fit ↦
      let same : length bytes ≡ length (s ++ concat (fitting (most - length s) stats)) = ap (λ (w : List ℕ). length w) (is ∙ fits most s stats fit) in
      absurd (omega (arith, same, none, some, length-append s (concat (fitting (most - length s) stats))))
]

-- ---- the front of a buffer that was given to be filled

module _ (old room : List ℕ) (count used : ℕ) (large : count ≤ length old) (long : length room ≡ length (take count old)) (few : used ≤ length (take count old)) where
  pub part_length : length (take count old) ≡ count
  part_length = omega (arith, length-take count old, large)

  pub front_of : take used (room ++ drop count old) ≡ take used room
  front_of = take-append-le used room (drop count old) (omega (arith, long, few))

  pub front_count : length (take used (room ++ drop count old)) ≡ used
  front_count = ap (λ (w : List ℕ). length w) front_of ∙ omega (arith, length-take used room, long, few)

  pub rest_of : drop used room ≡ drop used (take count old) → drop used (room ++ drop count old) ≡ drop used old
  rest_of same =
      drop-append-le used room (drop count old) (omega (arith, long, few)) ∙ ap (λ (w : List ℕ). w ++ drop count old) same
      ∙ sym (drop-append-le used (take count old) (drop count old) few) ∙ ap (drop used) (take-append-drop count old)
