-- No request marks a row: if no row is marked, none is after a step, and none in a whole history.
use Rattle.std.proofs.Common.{◌≡◌, ◌==◌, ℕ, zero, suc, Bool, true, false, cond, not, List, [], ◌∷◌, ◌++◌, length, map, filter, find, Option, Some, None, Result, Ok, Err, is_some, refl, subst}
use Rattle.std.specs.List.{AllByRecursion}
use Rattle.std.specs.Option.{option_map_or}
use Rattle.tree_model.specs.declared.refusal.Refusal.TheVariants as refusals
use Rattle.tree_model.specs.Names.{NameFault, clear_name}
use Rattle.tree_model.specs.Rows.{Content, Row, Rows, root, child_of, qid_of, row_of}
use Rattle.tree_model.specs.Contents.{resized, written}
use Rattle.tree_model.specs.Asked.{PlainChange, PlainRequest, look, walk, open_node, create, read, list, write, remove, stat_of, change, sync, count, done, qid}
use Rattle.tree_model.specs.Step.{Stepped, stepped, says, refuses, step, work, early_refusal, node_of, set_row, changed_at, change_dir, with_content, with_mtime, new_row, create_named, is_full, is_held, length_refusal, new_length, new_name, place_step, rename_step, truncates}
use Rattle.tree_model.specs.History.{Entry, is_refusal, rows_then}
use Rattle.store_laws.specs.Places.{AreUnmarked, HistoriesStayUnmarked}

abbrev pub IsUnmarked : Row → Type 0
IsUnmarked row = row.foreign ≡ false

abbrev pub AllUnmarked : List Row → Type 0
AllUnmarked rows = AllByRecursion (λ (row : Row). row.foreign ≡ false) rows

-- ---- lists of rows

pub map_stays : (f : Row → Row) → ((row : Row) → IsUnmarked row → IsUnmarked (f row)) → (rows : List Row) → AllUnmarked rows → AllUnmarked (map f rows)
map_stays f each [] all = tt
map_stays f each (row ∷ rows) all = (each row all.0, map_stays f each rows all.1)

filter_stays : (test : Row → Bool) (rows : List Row) → AllUnmarked rows → AllUnmarked (filter test rows)
filter_stays test [] all = tt
filter_stays test (row ∷ rows) all = go (test row) (filter_stays test rows all.1)
  where
    go : (b : Bool) → AllUnmarked (filter test rows) → AllUnmarked (cond b (row ∷ filter test rows) (filter test rows))
    go true rest = (all.0, rest)
    go false rest = rest

one_more : (rows : List Row) (new : Row) → AllUnmarked rows → IsUnmarked new → AllUnmarked (rows ++ new ∷ [])
one_more [] new all is = (is, tt)
one_more (row ∷ rows) new all is = (all.0, one_more rows new all.1 is)

pub found_unmarked : (test : Row → Bool) (rows : List Row) (row : Row) → AllUnmarked rows → find test rows ≡ Some row → IsUnmarked row
found_unmarked test [] row all found = absurd cc
found_unmarked test (x ∷ rows) row all found = go (test x) found (found_unmarked test rows row all.1)
  where
    go : (b : Bool) → cond b (Some x) (find test rows) ≡ Some row → (find test rows ≡ Some row → IsUnmarked row) → IsUnmarked row
    go true h rest = let same : x ≡ row = cc in subst IsUnmarked same all.0
    go false h rest = rest h

-- ---- rows that change

either_row : (b : Bool) (x y : Row) → IsUnmarked x → IsUnmarked y → IsUnmarked (cond b x y)
either_row true x y is is' = is
either_row false x y is is' = is'

set_stays : (rows : Rows) (new : Row) → AreUnmarked rows → IsUnmarked new → AreUnmarked (set_row rows new)
set_stays rows new all is = map_stays (λ row. cond (row.number == new.number) new row) (λ row h. either_row (row.number == new.number) new row is h) rows.nodes all

change_stays : (rows : Rows) (number now : ℕ) → AreUnmarked rows → AreUnmarked (change_dir rows number now)
change_stays rows number now all = map_stays (λ row. cond (row.number == number) (changed_at now row) row) (λ row h. either_row (row.number == number) (changed_at now row) row h h) rows.nodes all

abbrev Stays : Stepped → Type 0
Stays s = AreUnmarked s.rows

either : (b : Bool) (s t : Stepped) → Stays s → Stays t → Stays (cond b s t)
either true s t is is' = is
either false s t is is' = is'

with_some : {A : Type 0} (f : A → Stepped) (o : Option A) (s : Stepped) → ((x : A) → Stays (f x)) → Stays s → Stays (option_map_or f o s)
with_some f None s each none = none
with_some f (Some x) s each none = each x

-- ---- the step, for a row that is there

module _ (rows : Rows) (all : AreUnmarked rows) (row : Row) (is : IsUnmarked row) (now : ℕ) where
  -- a row of another content
  content_stays : (content : Content) → AreUnmarked (set_row rows (with_content row content now))
  content_stays content = set_stays rows (with_content row content now) all is

  created : (name : Result (List ℕ) NameFault) (is_dir : Bool) → Stays (create_named rows row name is_dir now)
  created (Err fault) is_dir = all
  created (Ok name) is_dir =
      either (is_some (child_of rows row.number name)) _ _ all
      (either (is_full rows) _ _ all (one_more (change_dir rows row.number now).nodes (new_row rows row name is_dir now) (change_stays rows row.number now all) refl))

  renamed : (c : PlainChange) (name : Result (List ℕ) NameFault) → Stays (rename_step rows row c name now)
  renamed c (Err fault) = all
  renamed c (Ok name) =
      either (is_some (child_of rows row.parent name)) _ _ all
      (either (is_held rows row) _ _ all (set_stays (change_dir rows row.parent now) (with_mtime c (record row { name = name })) (change_stays rows row.parent now all) is))

  placed : (c : PlainChange) (name : Option (List ℕ)) (n : Option ℕ) → Stays (place_step rows row c name n now)
  placed c None None = set_stays rows (with_mtime c row) all is
  placed c None (Some n) =
      with_some (λ refusal. stepped rows (refuses refusal)) (length_refusal row.kind row.content n) _ (λ refusal. all)
      (with_some (λ content. stepped (set_row rows (with_mtime c (with_content row content now))) (says done)) (resized row.content n) _ (λ content. set_stays rows (with_mtime c (with_content row content now)) all is) all)
  placed c (Some name) None = either (row.number == root) _ _ all (renamed c (clear_name name))
  placed c (Some name) (Some n) = all

  works : (request : PlainRequest) → Stays (work rows row request now)
  works (look n) = all
  works (walk n names) = all
  works (open_node n mode) =
      either (truncates mode) _ _
      (with_some (λ content. stepped (set_row rows (with_content row content now)) (says (qid (qid_of (with_content row content now))))) (resized row.content 0) _ content_stays all) all
  works (create n name is_dir mode) = created (clear_name name) is_dir
  works (read n at most) = all
  works (list n after most) = all
  works (write n at bytes) =
      either (length bytes == 0) _ _ all
      (with_some (λ content. stepped (set_row rows (with_content row content now)) (says (count (length bytes)))) (written row.content at bytes) _ content_stays all)
  works (remove n) = filter_stays (λ other. not (other.number == row.number)) (change_dir rows row.parent now).nodes (change_stays rows row.parent now all)
  works (stat_of n) = all
  works (change n c) = placed c (new_name row c) (new_length row c)
  works (sync n) = all

-- ---- any step, and histories

module _ (rows : Rows) (all : AreUnmarked rows) (request : PlainRequest) (now : ℕ) where
  at_row : (o : Option Row) → row_of rows (node_of request) ≡ o → Stays (option_map_or (λ row. work rows row request now) o (stepped rows (refuses refusals.Removed)))
  at_row None e = all
  at_row (Some row) e = works rows all row (found_unmarked (λ other. other.number == node_of request) rows.nodes row all e) now request

  step_stays : AreUnmarked (step rows request now).rows
  unfolding step
  step_stays = with_some (λ refusal. stepped rows (refuses refusal)) (early_refusal rows request) _ (λ refusal. all) (at_row (row_of rows (node_of request)) refl)

then_stays : (rows : Rows) (entry : Entry) → AreUnmarked rows → AreUnmarked (rows_then rows entry.made)
then_stays rows entry all = go (is_refusal entry.made.asked.reply)
  where
    go : (refused : Bool) → AreUnmarked (cond refused rows (step rows entry.made.asked.request entry.made.asked.second).rows)
    go true = all
    go false = step_stays rows all entry.made.asked.request entry.made.asked.second

pub histories_stay_unmarked : HistoriesStayUnmarked
histories_stay_unmarked rows [] i all = all
histories_stay_unmarked rows (entry ∷ entries) zero all = all
histories_stay_unmarked rows (entry ∷ entries) (suc i) all = histories_stay_unmarked (rows_then rows entry.made) entries i (then_stays rows entry all)
