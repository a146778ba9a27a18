-- The rows after a file got another content, and an mtime besides.
use Rattle.std.proofs.Common.{◌≡◌, ◌==◌, ℕ, Bool, true, false, cond, List, [], ◌∷◌, map, Option, Some, None, refl, sym, ap, ap₂, ◌∙◌, eqb-true, eq-eqb}
use Rattle.std.specs.List.{find}
use Rattle.std.specs.Option.{option_map}
use Rattle.tree_model.specs.Rows.{Row, Rows, row_of}
use Rattle.tree_model.specs.Step.{set_row, with_content}
use Rattle.live_tree.specs.Held.{HeldTree, live_rows}
use Rattle.live_tree.specs.Changes.{wrapped, wrapped_row, RowsAreDated, RowsAreTouched}
use Rattle.file_changes.specs.Held.{RowsAreRewritten}

-- the row, or another in place of the one of its number
abbrev set_to : Row → Row → Row
set_to new row = cond (row.number == new.number) new row

abbrev is_of : ℕ → Row → Bool
is_of number row = row.number == number

-- ---- lists of rows

wrapped_set : (nodes : List Row) (new : Row) → map wrapped_row (map (set_to new) nodes) ≡ map (set_to (wrapped_row new)) (map wrapped_row nodes)
wrapped_set [] new = refl
wrapped_set (row ∷ nodes) new = ap₂ (λ (x : Row) (xs : List Row). x ∷ xs) (one (row.number == new.number)) (wrapped_set nodes new)
  where
    one : (b : Bool) → wrapped_row (cond b new row) ≡ cond b (wrapped_row new) (wrapped_row row)
    one true = refl
    one false = refl

set_again : (nodes : List Row) (a b : Row) → a.number ≡ b.number → map (set_to b) (map (set_to a) nodes) ≡ map (set_to b) nodes
set_again [] a b same = refl
set_again (row ∷ nodes) a b same = ap₂ (λ (x : Row) (xs : List Row). x ∷ xs) (one (row.number == a.number) refl) (set_again nodes a b same)
  where
    one : (c : Bool) → (row.number == a.number) ≡ c → set_to b (cond c a row) ≡ set_to b row
    one false e = refl
    one true e =
        ap (λ (c : Bool). cond c b a) (eq-eqb a.number b.number same)
        ∙ sym (ap (λ (c : Bool). cond c b row) (eq-eqb row.number b.number (eqb-true row.number a.number e ∙ same)))

find_wrapped : (nodes : List Row) (number : ℕ) → find (is_of number) (map wrapped_row nodes) ≡ option_map wrapped_row (find (is_of number) nodes)
find_wrapped [] number = refl
find_wrapped (row ∷ nodes) number = one (row.number == number) (find_wrapped nodes number)
  where
    one : (b : Bool) → find (is_of number) (map wrapped_row nodes) ≡ option_map wrapped_row (find (is_of number) nodes)
        → cond b (Some (wrapped_row row)) (find (is_of number) (map wrapped_row nodes)) ≡ option_map wrapped_row (cond b (Some row) (find (is_of number) nodes))
    one true rest = refl
    one false rest = rest

find_set : (nodes : List Row) (number : ℕ) (row new : Row) → new.number ≡ number → find (is_of number) nodes ≡ Some row → find (is_of number) (map (set_to new) nodes) ≡ Some new
find_set [] number row new is h = absurd cc
find_set (first ∷ nodes) number row new is h = one (first.number == number) refl h (find_set nodes number row new is)
  where
    here : find (is_of number) (new ∷ map (set_to new) nodes) ≡ Some new
    here = ap (λ (b : Bool). cond b (Some new) (find (is_of number) (map (set_to new) nodes))) (eq-eqb new.number number is)

    one : (b : Bool) → (first.number == number) ≡ b → cond b (Some first) (find (is_of number) nodes) ≡ Some row
        → (find (is_of number) nodes ≡ Some row → find (is_of number) (map (set_to new) nodes) ≡ Some new) → find (is_of number) (set_to new first ∷ map (set_to new) nodes) ≡ Some new
    one true e g rest =
        ap (λ (b : Bool). find (is_of number) (cond b new first ∷ map (set_to new) nodes)) (eq-eqb first.number new.number (eqb-true first.number number e ∙ sym is)) ∙ here
    one false e g rest =
        let other : (first.number == new.number) ≡ false = ap (λ (n : ℕ). first.number == n) is ∙ e in
        ap (λ (b : Bool). find (is_of number) (cond b new first ∷ map (set_to new) nodes)) other
        ∙ ap (λ (b : Bool). cond b (Some first) (find (is_of number) (map (set_to new) nodes))) e
        ∙ rest g

-- ---- rows

-- rows with another in place of each row of its number, by what is wrapped of them
abbrev put : Row → Rows → Rows
put new rows = record { nodes = map (set_to new) rows.nodes; next = rows.next; named_twice = rows.named_twice }

wrapped_put : (rows : Rows) (new : Row) → wrapped (set_row rows new) ≡ put (wrapped_row new) (wrapped rows)
wrapped_put rows new = ap (λ (nodes : List Row). record { nodes = nodes; next = rows.next; named_twice = rows.named_twice }) (wrapped_set rows.nodes new)

put_again : (rows : Rows) (a b : Row) → a.number ≡ b.number → put b (put a rows) ≡ put b rows
put_again rows a b same = ap (λ (nodes : List Row). record { nodes = nodes; next = rows.next; named_twice = rows.named_twice }) (set_again rows.nodes a b same)

abbrev with_date : ℕ → Row → Row
with_date modified row = record row { modified = modified }

-- a row that was set, and is dated
date_again : (rows between : Rows) (x y : Row) (modified : ℕ) → wrapped between ≡ wrapped (set_row rows x) → wrapped_row y ≡ wrapped_row x
    → wrapped (set_row between (with_date modified y)) ≡ wrapped (set_row rows (with_date modified x))
date_again rows between x y modified is same =
    wrapped_put between (with_date modified y)
    ∙ ap₂ put (ap (with_date modified) same) (is ∙ wrapped_put rows x)
    ∙ put_again (wrapped rows) (wrapped_row x) (wrapped_row (with_date modified x)) refl
    ∙ sym (wrapped_put rows (with_date modified x))

-- the row that was set is there
set_there : (rows between : Rows) (number : ℕ) (row x : Row) → row_of rows number ≡ Some row → x.number ≡ number → wrapped between ≡ wrapped (set_row rows x)
    → (y : Row) × (row_of between number ≡ Some y) × (wrapped_row y ≡ wrapped_row x)
set_there rows between number row x there is same = found (row_of between number) refl (sym (find_wrapped between.nodes number)
    ∙ ap (λ (r : Rows). find (is_of number) r.nodes) same ∙ find_wrapped (map (set_to x) rows.nodes) number ∙ ap (option_map wrapped_row) (find_set rows.nodes number row x is there))
  where
    found : (o : Option Row) → row_of between number ≡ o → option_map wrapped_row o ≡ Some (wrapped_row x) → (y : Row) × (row_of between number ≡ Some y) × (wrapped_row y ≡ wrapped_row x)
    found None e h = absurd cc
    found (Some y) e h = (y, e, cc)

find_of : (nodes : List Row) (number : ℕ) (row : Row) → find (is_of number) nodes ≡ Some row → row.number ≡ number
find_of [] number row h = absurd cc
find_of (first ∷ nodes) number row h = one (first.number == number) refl h (find_of nodes number row)
  where
    one : (b : Bool) → (first.number == number) ≡ b → cond b (Some first) (find (is_of number) nodes) ≡ Some row → (find (is_of number) nodes ≡ Some row → row.number ≡ number) → row.number ≡ number
    one true e g rest = let same : first ≡ row = cc in ap (λ (r : Row). r.number) (sym same) ∙ eqb-true first.number number e
    one false e g rest = rest g

-- a file was touched, and then its mtime was set
pub rows_are_rewritten : (live between live' : HeldTree) (number modified second : ℕ) → RowsAreTouched live between number second → RowsAreDated between live' number modified
    → RowsAreRewritten live live' number (Some modified) second
rows_are_rewritten live between live' number modified second touched dates contents contents' row there agree =
    let x : Row = with_content row (contents' number) second in
    let is : wrapped (live_rows contents' between) ≡ wrapped (set_row (live_rows contents live) x) = touched contents contents' row there agree in
    let has = set_there (live_rows contents live) (live_rows contents' between) number row x there (find_of (live_rows contents live).nodes number row there) is in
    dates contents' has.0 has.1 ∙ date_again (live_rows contents live) (live_rows contents' between) x has.0 modified is has.2
