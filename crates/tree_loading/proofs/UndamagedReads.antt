-- Reads of a disk without damage.
use Rattle.std.proofs.Common.{◌≡◌, ◌≢◌, ℕ, zero, suc, Bool, true, false, cond, List, [], ◌∷◌, ◌++◌, take, drop, map, Option, Some, None, refl, sym, ap, subst, true≢false}
use Rattle.std.specs.Prelude.{◌==◌}
use Rattle.std.specs.Option.{IsSome, option_map, option_map_or}
use Rattle.std.specs.List.{AllByRecursion, find}
use Rattle.tree_model.specs.declared.refusal.Refusal.TheVariants as refusals
use Rattle.tree_model.specs.Rows.{Kind, dir, file, link, bad, Cell, good, damaged, joined_cells, Content, bad_size, chunks, all_there, slice_of, Row, Rows, row_of}
use Rattle.tree_model.specs.Asked.{read}
use Rattle.tree_model.specs.Step.{Answer, step, work, stepped, refuses, bytes_answer, read_refusal}
use Rattle.tree_loading.specs.Undamaged.{IsGood, IsWhole, IsSound, UndamagedIsRead}

-- ---- bytes that are all there

abbrev AreThere : List (Option ℕ) → Type 0
AreThere = AllByRecursion (λ (x : Option ℕ). IsSome x)

bytes_there : (bytes : List ℕ) (rest : List (Option ℕ)) → AreThere rest → AreThere (map (λ b. Some b) bytes ++ rest)
bytes_there [] rest there = there
bytes_there (b ∷ bytes) rest there = (refl, bytes_there bytes rest there)

cells_there : (cells : List Cell) → AllByRecursion IsGood cells → AreThere (joined_cells cells)
cells_there [] whole = tt
cells_there (good bytes ∷ cells) whole = bytes_there bytes (joined_cells cells) (cells_there cells whole.1)
cells_there (damaged n ∷ cells) whole = absurd whole.0

drop_there : (n : ℕ) (xs : List (Option ℕ)) → AreThere xs → AreThere (drop n xs)
drop_there zero xs there = there
drop_there (suc n) [] there = tt
drop_there (suc n) (x ∷ xs) there = drop_there n xs there.1

take_there : (n : ℕ) (xs : List (Option ℕ)) → AreThere xs → AreThere (take n xs)
take_there zero xs there = tt
take_there (suc n) [] there = tt
take_there (suc n) (x ∷ xs) there = (there.0, take_there n xs there.1)

map_found : (x : ℕ) (found : Option (List ℕ)) → IsSome found → IsSome (option_map (λ (rest : List ℕ). x ∷ rest) found)
map_found x None is = is
map_found x (Some xs) is = refl

all_found : (xs : List (Option ℕ)) → AreThere xs → IsSome (all_there xs)
all_found [] there = refl
all_found (None ∷ xs) there = there.0
all_found (Some x ∷ xs) there = map_found x (all_there xs) (all_found xs there.1)

slice_found : (opens : Bool) (cells : List Cell) (at most : ℕ) → AllByRecursion IsGood cells → IsSome (slice_of (chunks opens cells) at most)
slice_found opens cells at most whole =
    all_found (take most (drop at (joined_cells cells))) (take_there most (drop at (joined_cells cells)) (drop_there at (joined_cells cells) (cells_there cells whole)))

-- ---- answers

by_reply : (a b : Answer) → a.reply ≢ b.reply → a ≢ b
by_reply a b other e = other (ap (λ (x : Answer). x.reply) e)

bytes_given : (found : Option (List ℕ)) → IsSome found → bytes_answer found ≢ refuses refusals.Damaged
bytes_given None is = absurd (true≢false (sym is))
bytes_given (Some bytes) is = by_reply (bytes_answer (Some bytes)) (refuses refusals.Damaged) (λ e. cc)

-- the answer to a read of a node of this kind and content isn't damaged
abbrev IsRead : Rows → Kind → Content → ℕ → ℕ → Type 0
IsRead rows kind content at most =
    (option_map_or (λ refusal. stepped rows (refuses refusal)) (read_refusal kind content) (stepped rows (bytes_answer (slice_of content at most)))).answer ≢ refuses refusals.Damaged

by_kind : (rows : Rows) (kind : Kind) (content : Content) (at most : ℕ) → kind ≢ bad → IsWhole content → IsRead rows kind content at most
by_kind rows dir content at most fine whole = by_reply (refuses refusals.IsADirectory) (refuses refusals.Damaged) (λ e. cc)
by_kind rows bad content at most fine whole = absurd (fine refl)
by_kind rows file bad_size at most fine whole = absurd whole
by_kind rows file (chunks opens cells) at most fine whole = bytes_given (slice_of (chunks opens cells) at most) (slice_found opens cells at most whole.1)
by_kind rows link bad_size at most fine whole = absurd whole
by_kind rows link (chunks opens cells) at most fine whole = bytes_given (slice_of (chunks opens cells) at most) (slice_found opens cells at most whole.1)

-- what holds of each element holds of the one that is found
found_holds : {X : Type 0} (P : X → Type 0) (test : X → Bool) (xs : List X) (x : X) → AllByRecursion P xs → find test xs ≡ Some x → P x
found_holds P test [] x all is = absurd cc
found_holds {X} P test (y ∷ ys) x all is = by_test (test y) (found_holds P test ys x all.1) is
  where
    by_test : (b : Bool) → (find test ys ≡ Some x → P x) → cond b (Some y) (find test ys) ≡ Some x → P x
    by_test true rest e = let same : y ≡ x = cc in subst P same all.0
    by_test false rest e = rest e

pub undamaged_is_read : UndamagedIsRead
unfolding step
undamaged_is_read keys disk undamaged number at most second =
    go (row_of undamaged.rows number) (λ row is. found_holds IsSound (λ row. row.number == number) undamaged.rows.nodes row undamaged.sound is)
  where
    go : (found : Option Row) → ((row : Row) → found ≡ Some row → IsSound row)
        → (option_map_or (λ refusal. stepped undamaged.rows (refuses refusal)) (option_map_or (λ row. read_refusal row.kind row.content) found (Some refusals.Removed))
        (option_map_or (λ row. work undamaged.rows row (read number at most) second) found (stepped undamaged.rows (refuses refusals.Removed)))).answer ≢ refuses refusals.Damaged
    go None sound = by_reply (refuses refusals.Removed) (refuses refusals.Damaged) (λ e. cc)
    go (Some row) sound = by_kind undamaged.rows row.kind row.content at most (sound row refl).good (sound row refl).whole
