-- The map of a directory's rows, put together from the last on.
use Rattle.std.proofs.Common.{◌≡◌, ℕ, ◌+◌, ◌<◌, ◌≤◌, Bool, true, false, List, [], ◌∷◌, ◌++◌, length, take, drop, set, get_or, map, if◌then◌else◌, Ordering, Less, Equal, refl, sym, ap, ◌∙◌, nat_cmp, arith}
use Rattle.std.specs.Cmp.Lexicographic.{slice_cmp, nat_list_cmp_total}
use Rattle.std.specs.FinMap as finmap
use Rattle.std.specs.FinMap.Entries.{by_order}
use Rattle.std.proofs.lemmas.List.{drop-set, drop_more, map-append, nil_from_length, take-append-drop, take-set}
use Rattle.std.proofs.lemmas.Map.Lookups.{exact_bytes}
use Rattle.tree_model.specs.Rows.{Row}
use Rattle.model_step.specs.declared.rows.Row.{Row as CodeRow}
use Rattle.model_step.specs.declared.listing.Place.{Place}
use Rattle.model_step.specs.SeenRows.{row_seen}
use Rattle.model_step.specs.Listed.{IsPlace, named, put_named}

abbrev Named : Type 0
Named = List ℕ × Row

-- others put among these, from the last on
abbrev pub put_all : List Named → List Named → List Named
put_all entries [] = entries
put_all entries (e ∷ es) = put_named e (put_all entries es)

pub put_all-last : (entries es : List Named) (e : Named) → put_all entries (es ++ e ∷ []) ≡ put_all (put_named e entries) es
put_all-last entries [] e = refl
put_all-last entries (x ∷ es) e = ap (put_named x) (put_all-last entries es e)

abbrev map_of : List Named → finmap.FinMap (slice_cmp nat_cmp) Row
map_of es = finmap.from_entries es

empty_entries : finmap.entries (map_of []) ≡ []
empty_entries = nil_from_length (finmap.entries (map_of [])) (sym (finmap.len-entries (map_of [])) ∙ finmap.len-empty (slice_cmp nat_cmp) Row)

-- these are the map's entries
pub put_all-entries : (es : List Named) → put_all [] es ≡ finmap.entries (map_of es)
put_all-entries [] = sym empty_entries
put_all-entries (e ∷ es) =
    ap (put_named e) (put_all-entries es) ∙ sym (finmap.entries-insert nat_list_cmp_total (map_of es) e.0 e.1)

named_pairs : (rows : List CodeRow) → map named rows ≡ map (λ (row : Row). (row.name, row)) (map row_seen rows)
named_pairs [] = refl
named_pairs (row ∷ rows) = ap (λ (rest : List Named). named row ∷ rest) (named_pairs rows)

-- the rows of a directory, put together
pub put_children : (rows : List CodeRow) (children : List Row) → map row_seen rows ≡ children
    → put_all [] (map named rows) ≡ finmap.entries (map_of (map (λ (row : Row). (row.name, row)) children))
put_children rows children are =
    put_all-entries (map named rows) ∙ ap (λ (es : List Named). finmap.entries (map_of es)) (named_pairs rows ∙ ap (map (λ (row : Row). (row.name, row))) are)

-- one more of the last ones
pub put_last : (entries others rest : List Named) (rows children : List CodeRow) (child : CodeRow) → children ≡ rows ++ child ∷ [] → others ≡ put_named (named child) entries
    → put_all entries (map named children) ≡ rest → put_all others (map named rows) ≡ rest
put_last entries others rest rows children child are put is =
    ap (λ (es : List Named). put_all es (map named rows)) put ∙ sym (put_all-last entries (map named rows) (named child))
    ∙ ap (put_all entries) (sym (map-append named rows (child ∷ [])) ∙ ap (map named) (sym are)) ∙ is

-- ---- places

set_parts : (xs : List CodeRow) (i : ℕ) (x : CodeRow) → i < length xs → set xs i x ≡ take i xs ++ x ∷ drop (i + 1) xs
set_parts xs i x h =
    sym (take-append-drop i (set xs i x))
    ∙ ap (λ (front : List CodeRow). front ++ drop i (set xs i x)) (take-set xs i x)
    ∙ ap (λ (rest : List CodeRow). take i xs ++ rest) (drop-set xs i x h)

module _ (entries : List CodeRow) (name : List ℕ) (i : ℕ) (e : CodeRow) (text : List ℕ) (h : i < length entries) (is : e ≡ get_or entries i e) (same : text ≡ e.name.items)
    (before : (row : Row) → put_named (name, row) (map named entries) ≡ map named (take i entries) ++ put_named (name, row) (map named (drop i entries))) where
  next : drop i entries ≡ e ∷ drop (i + 1) entries
  next = drop_more entries i e h ∙ ap (λ (x : CodeRow). x ∷ drop (i + 1) entries) (sym is)

  abbrev ordered : Row → Ordering → List Named
  ordered row o = by_order o ((name, row) ∷ map named (e ∷ drop (i + 1) entries)) ((e.name.items, row) ∷ map named (drop (i + 1) entries))
      (named e ∷ put_named (name, row) (map named (drop (i + 1) entries)))

  behind : (row : Row) (o : Ordering) → o ≡ slice_cmp nat_cmp name text → put_named (name, row) (map named (drop i entries)) ≡ ordered row o
  behind row o order =
      ap (λ (rest : List CodeRow). put_named (name, row) (map named rest)) next
      ∙ ap (ordered row) (sym (order ∙ ap (slice_cmp nat_cmp name) same))

  pub place_less : Less ≡ slice_cmp nat_cmp name text → IsPlace entries name (record { index = i; is_taken = false })
  place_less order = record {
    there = omega arith;
    within = λ e. absurd cc;
    put = λ row. before row ∙ ap (λ (rest : List Named). map named (take i entries) ++ rest)
        (behind row Less order ∙ ap (λ (rest : List CodeRow). (name, row) ∷ map named rest) (sym next));
  }

  pub place_equal : Equal ≡ slice_cmp nat_cmp name text → IsPlace entries name (record { index = i; is_taken = true })
  place_equal order =
      let key : name ≡ e.name.items = exact_bytes name e.name.items (sym (order ∙ ap (slice_cmp nat_cmp name) same)) in
      record {
        there = omega arith;
        within = λ e. omega arith;
        put = λ row. before row ∙ ap (λ (rest : List Named). map named (take i entries) ++ rest)
            (behind row Equal order ∙ ap (λ (n : List ℕ). (n, row) ∷ map named (drop (i + 1) entries)) (sym key));
      }

-- a row in the place of one of its name
pub put_taken : (entries : List CodeRow) (place : Place) (row : CodeRow) → IsPlace entries row.name.items place → place.is_taken ≡ true
    → map named (set entries place.index row) ≡ put_named (named row) (map named entries)
put_taken entries place row is taken =
    let h : place.index < length entries = (let w : place.index + 1 ≤ length entries = is.within taken in omega arith) in
    let parts : set entries place.index row ≡ take place.index entries ++ row ∷ drop (place.index + 1) entries = set_parts entries place.index row h in
    ap (map named) parts ∙ map-append named (take place.index entries) (row ∷ drop (place.index + 1) entries)
    ∙ ap (λ (k : ℕ). map named (take place.index entries) ++ named row ∷ map named (drop k entries)) (sym (ap (λ (b : Bool). if b then place.index + 1 else place.index) taken))
    ∙ sym (is.put (row_seen row))
