-- What the step reads of rows, and how it changes them, if their versions are modulo 2^32.
use Rattle.std.proofs.Common.{◌≡◌, ◌==◌, ◌||◌, ◌&&◌, ℕ, suc, ◌-◌, ◌%◌, ◌^◌, nat_le, Bool, true, false, cond, not, List, [], ◌∷◌, ◌++◌, map, filter, Option, Some, None, Result, Ok, Err, is_some, Ordering, Less, Equal, Greater, nat_cmp, refl, sym, ap, ap₂, ◌∙◌, arith}
use Rattle.std.specs.List.{find, list_any}
use Rattle.std.specs.Option.{option_map}
use Rattle.std.specs.Cmp.Lexicographic.{slice_cmp, nat_list_cmp_total}
use Rattle.std.specs.FinMap as finmap
use Rattle.std.specs.FinMap.Entries.{put, by_order}
use Rattle.std.specs.Str.{bytes_eq}
use Rattle.std.proofs.Math.Nat.{mod-mod}
use Rattle.std.proofs.lemmas.List.{nil_from_length, length-map, map-append}
use Rattle.tree_model.specs.declared.refusal.Refusal.{Refusal}
use Rattle.tree_model.specs.declared.refusal.Refusal.TheVariants as refusals
use Rattle.tree_model.specs.declared.stat.Qid.{Qid}
use Rattle.tree_model.specs.Wire.{PlainStat, spelled_stat}
use Rattle.tree_model.specs.Names.{NameFault, clear_name}
use Rattle.tree_model.specs.Rows.{Row, Rows, Content, root, is_dir, row_of, is_child, child_of, qid_of, mode_of, owner, shown_length, stat_at}
use Rattle.tree_model.specs.Asked.{PlainChange}
use Rattle.tree_model.specs.Step.{with_nodes, set_row, changed_at, change_dir, with_content, with_mtime, with_new, without_row, found, found_by_name, walked_by, walk_on, walk_from, dot_dot, is_full, node_limit, is_behind, stats_behind, has_children}
use Rattle.version_laws.specs.RowVersions.{wrapped_row, wrapped}

-- ---- one row

mod_twice : (v : ℕ) → v % 2 ^ 32 % 2 ^ 32 ≡ v % 2 ^ 32
mod_twice v = mod-mod v (2 ^ 32)

mod_suc : (v : ℕ) → suc (v % 2 ^ 32) % 2 ^ 32 ≡ suc v % 2 ^ 32
mod_suc v = omega arith

abbrev of_version : Row → ℕ → Row
of_version row v = record row { version = v }

abbrev of_qid_version : Row → ℕ → Qid
of_qid_version row v = record { kind = cond (is_dir row.kind) 0x80 0; version = v; path = row.number }

abbrev of_qid : Row → Qid → PlainStat
of_qid row q = record {
  kind = 0;
  device = 0;
  qid = q;
  mode = mode_of row.kind;
  accessed = row.modified;
  modified = row.modified;
  length = shown_length row;
  name = row.name;
  owner = owner;
  group = owner;
  modifier = owner;
}

pub row_twice : (row : Row) → wrapped_row (wrapped_row row) ≡ wrapped_row row
row_twice row = ap (of_version row) (mod_twice row.version)

pub qid_seen : (row : Row) → qid_of (wrapped_row row) ≡ qid_of row
qid_seen row = ap (of_qid_version row) (mod_twice row.version)

pub stat_seen : (row : Row) → stat_at (wrapped_row row) ≡ stat_at row
stat_seen row = ap (of_qid row) (qid_seen row)

pub changed_seen : (row : Row) (content : Content) (now : ℕ) → wrapped_row (with_content (wrapped_row row) content now) ≡ wrapped_row (with_content row content now)
changed_seen row content now = ap (of_version (with_content row content now)) (mod_suc row.version)

pub changed_qid_seen : (row : Row) (content : Content) (now : ℕ) → qid_of (with_content (wrapped_row row) content now) ≡ qid_of (with_content row content now)
changed_qid_seen row content now = ap (of_qid_version row) (mod_suc row.version)

pub dated_seen : (a b : Row) (c : PlainChange) → wrapped_row a ≡ wrapped_row b → wrapped_row (with_mtime c a) ≡ wrapped_row (with_mtime c b)
dated_seen a b c same = ap (λ (row : Row). with_mtime c row) same

pub named_seen : (row : Row) (name : List ℕ) → wrapped_row (record (wrapped_row row) { name = name }) ≡ wrapped_row (record row { name = name })
named_seen row name = ap (of_version (record row { name = name })) (mod_twice row.version)

-- ---- lists of rows

map_twice : (rows : List Row) → map wrapped_row (map wrapped_row rows) ≡ map wrapped_row rows
map_twice [] = refl
map_twice (row ∷ rows) = ap₂ (λ (x : Row) (xs : List Row). x ∷ xs) (row_twice row) (map_twice rows)

pub wrapped_twice : (rows : Rows) → wrapped (wrapped rows) ≡ wrapped rows
wrapped_twice rows = ap (with_nodes rows) (map_twice rows.nodes)

find_test : (b : Bool) (row : Row) (found' found : Option Row) → found' ≡ option_map wrapped_row found
    → cond b (Some (wrapped_row row)) found' ≡ option_map wrapped_row (cond b (Some row) found)
find_test true row found' found same = refl
find_test false row found' found same = same

find_wrapped : (test : Row → Bool) → ((row : Row) → test (wrapped_row row) ≡ test row) → (rows : List Row) → find test (map wrapped_row rows) ≡ option_map wrapped_row (find test rows)
find_wrapped test same [] = refl
find_wrapped test same (row ∷ rows) =
    ap (λ (b : Bool). cond b (Some (wrapped_row row)) (find test (map wrapped_row rows))) (same row)
    ∙ find_test (test row) row (find test (map wrapped_row rows)) (find test rows) (find_wrapped test same rows)

pub row_seen : (rows : Rows) (number : ℕ) → row_of (wrapped rows) number ≡ option_map wrapped_row (row_of rows number)
row_seen rows number = find_wrapped (λ row. row.number == number) (λ row. refl) rows.nodes

child_there : (rows : Rows) (parent : ℕ) (name : List ℕ) → child_of (wrapped rows) parent name ≡ option_map wrapped_row (child_of rows parent name)
child_there rows parent name = find_wrapped (λ row. (row.parent == parent) && bytes_eq row.name name && not (row.number == root)) (λ row. refl) rows.nodes

still_some : (o : Option Row) → is_some (option_map wrapped_row o) ≡ is_some o
still_some None = refl
still_some (Some row) = refl

pub child_seen : (rows : Rows) (parent : ℕ) (name : List ℕ) → is_some (child_of (wrapped rows) parent name) ≡ is_some (child_of rows parent name)
child_seen rows parent name = ap is_some (child_there rows parent name) ∙ still_some (child_of rows parent name)

any_wrapped : (test : Row → Bool) → ((row : Row) → test (wrapped_row row) ≡ test row) → (rows : List Row) → list_any test (map wrapped_row rows) ≡ list_any test rows
any_wrapped test same [] = refl
any_wrapped test same (row ∷ rows) = ap₂ (λ (b c : Bool). b || c) (same row) (any_wrapped test same rows)

pub children_seen : (rows : Rows) (number : ℕ) → has_children (wrapped rows) number ≡ has_children rows number
children_seen rows number = any_wrapped (is_child number) (λ row. refl) rows.nodes

pub full_seen : (rows : Rows) → is_full (wrapped rows) ≡ is_full rows
full_seen rows = ap (λ (n : ℕ). nat_le node_limit n || nat_le (2 ^ 64 - 1) rows.next) (length-map rows.nodes wrapped_row)

filter_test : (b : Bool) (row : Row) (rows' rows : List Row) → rows' ≡ map wrapped_row rows
    → cond b (wrapped_row row ∷ rows') rows' ≡ map wrapped_row (cond b (row ∷ rows) rows)
filter_test true row rows' rows same = ap (λ (xs : List Row). wrapped_row row ∷ xs) same
filter_test false row rows' rows same = same

filter_wrapped : (test : Row → Bool) → ((row : Row) → test (wrapped_row row) ≡ test row) → (rows : List Row) → filter test (map wrapped_row rows) ≡ map wrapped_row (filter test rows)
filter_wrapped test same [] = refl
filter_wrapped test same (row ∷ rows) =
    ap (λ (b : Bool). cond b (wrapped_row row ∷ filter test (map wrapped_row rows)) (filter test (map wrapped_row rows))) (same row)
    ∙ filter_test (test row) row (filter test (map wrapped_row rows)) (filter test rows) (filter_wrapped test same rows)

map_wrapped : (f f' : Row → Row) → ((row : Row) → wrapped_row (f row) ≡ f' (wrapped_row row)) → (rows : List Row) → map wrapped_row (map f rows) ≡ map f' (map wrapped_row rows)
map_wrapped f f' same [] = refl
map_wrapped f f' same (row ∷ rows) = ap₂ (λ (x : Row) (xs : List Row). x ∷ xs) (same row) (map_wrapped f f' same rows)

-- ---- rows that change

wrapped_if : (b : Bool) (x y : Row) → wrapped_row (cond b x y) ≡ cond b (wrapped_row x) (wrapped_row y)
wrapped_if true x y = refl
wrapped_if false x y = refl

set_wrapped : (rows : Rows) (new : Row) → wrapped (set_row rows new) ≡ set_row (wrapped rows) (wrapped_row new)
set_wrapped rows new =
    ap (with_nodes rows)
    (map_wrapped (λ row. cond (row.number == new.number) new row) (λ row. cond (row.number == new.number) (wrapped_row new) row) (λ row. wrapped_if (row.number == new.number) new row) rows.nodes)

pub set_seen : (a b : Rows) (new new' : Row) → wrapped a ≡ wrapped b → wrapped_row new ≡ wrapped_row new' → wrapped (set_row a new) ≡ wrapped (set_row b new')
set_seen a b new new' rows row = set_wrapped a new ∙ ap₂ set_row rows row ∙ sym (set_wrapped b new')

-- a row that changed, of the row as its version is shown
abbrev next_row : ℕ → Row → Row
next_row now row = wrapped_row (changed_at now row)

change_if : (b : Bool) (row : Row) (now : ℕ) → wrapped_row (cond b (changed_at now row) row) ≡ cond b (next_row now (wrapped_row row)) (wrapped_row row)
change_if true row now = sym (ap (of_version (changed_at now row)) (mod_suc row.version))
change_if false row now = refl

abbrev change_next : Rows → ℕ → ℕ → Rows
change_next rows number now = with_nodes rows (map (λ row. cond (row.number == number) (next_row now row) row) rows.nodes)

change_wrapped : (rows : Rows) (number now : ℕ) → wrapped (change_dir rows number now) ≡ change_next (wrapped rows) number now
change_wrapped rows number now =
    ap (with_nodes rows)
    (map_wrapped (λ row. cond (row.number == number) (changed_at now row) row) (λ row. cond (row.number == number) (next_row now row) row) (λ row. change_if (row.number == number) row now) rows.nodes)

pub change_seen : (a b : Rows) (number now : ℕ) → wrapped a ≡ wrapped b → wrapped (change_dir a number now) ≡ wrapped (change_dir b number now)
change_seen a b number now rows =
    change_wrapped a number now ∙ ap (λ (rows : Rows). change_next rows number now) rows ∙ sym (change_wrapped b number now)

abbrev more_nodes : Row → Rows → Rows
more_nodes new rows = record { nodes = rows.nodes ++ new ∷ []; next = suc rows.next; named_twice = rows.named_twice }

new_wrapped : (rows : Rows) (new : Row) (now : ℕ) → wrapped (with_new rows new now) ≡ more_nodes (wrapped_row new) (wrapped (change_dir rows new.parent now))
new_wrapped rows new now =
    ap (λ (nodes : List Row). record { nodes = nodes; next = suc rows.next; named_twice = rows.named_twice })
    (map-append wrapped_row (change_dir rows new.parent now).nodes (new ∷ []))

pub new_seen : (a b : Rows) (new : Row) (now : ℕ) → wrapped a ≡ wrapped b → wrapped (with_new a new now) ≡ wrapped (with_new b new now)
new_seen a b new now rows =
    new_wrapped a new now ∙ ap (more_nodes (wrapped_row new)) (change_seen a b new.parent now rows) ∙ sym (new_wrapped b new now)

abbrev less_nodes : ℕ → Rows → Rows
less_nodes number rows = with_nodes rows (filter (λ row. not (row.number == number)) rows.nodes)

less_wrapped : (rows : Rows) (old : Row) (now : ℕ) → wrapped (without_row rows old now) ≡ less_nodes old.number (wrapped (change_dir rows old.parent now))
less_wrapped rows old now =
    ap (with_nodes rows) (sym (filter_wrapped (λ row. not (row.number == old.number)) (λ row. refl) (change_dir rows old.parent now).nodes))

pub less_seen : (a b : Rows) (old : Row) (now : ℕ) → wrapped a ≡ wrapped b → wrapped (without_row a old now) ≡ wrapped (without_row b old now)
less_seen a b old now rows =
    less_wrapped a old now ∙ ap (less_nodes old.number) (change_seen a b old.parent now rows) ∙ sym (less_wrapped b old now)

-- ---- lists of stats

abbrev name_cmp : List ℕ → List ℕ → Ordering
name_cmp = slice_cmp nat_cmp

abbrev Named : Type 0
Named = List ℕ × Row

abbrev wrapped_entry : Named → Named
wrapped_entry e = (e.0, wrapped_row e.1)

abbrev map_of : List Named → finmap.FinMap name_cmp Row
map_of es = finmap.from_entries es

abbrev entries_of : List Named → List Named
entries_of es = finmap.entries (map_of es)

entries_none : entries_of [] ≡ []
entries_none = nil_from_length (entries_of []) (sym (finmap.len-entries (map_of [])) ∙ finmap.len-empty name_cmp Row)

put_by : (o : Ordering) (name : List ℕ) (row : Row) (e : Named) (es rest' rest : List Named) → rest' ≡ map wrapped_entry rest
    → by_order o ((name, wrapped_row row) ∷ wrapped_entry e ∷ map wrapped_entry es) ((e.0, wrapped_row row) ∷ map wrapped_entry es) (wrapped_entry e ∷ rest')
    ≡ map wrapped_entry (by_order o ((name, row) ∷ e ∷ es) ((e.0, row) ∷ es) (e ∷ rest))
put_by Less name row e es rest' rest same = refl
put_by Equal name row e es rest' rest same = refl
put_by Greater name row e es rest' rest same = ap (λ (xs : List Named). wrapped_entry e ∷ xs) same

put_wrapped : (name : List ℕ) (row : Row) (es : List Named) → put name_cmp name (wrapped_row row) (map wrapped_entry es) ≡ map wrapped_entry (put name_cmp name row es)
put_wrapped name row [] = refl
put_wrapped name row (e ∷ es) =
    put_by (name_cmp name e.0) name row e es (put name_cmp name (wrapped_row row) (map wrapped_entry es)) (put name_cmp name row es) (put_wrapped name row es)

entries_wrapped : (es : List Named) → entries_of (map wrapped_entry es) ≡ map wrapped_entry (entries_of es)
entries_wrapped [] = entries_none ∙ ap (map wrapped_entry) (sym entries_none)
entries_wrapped (e ∷ es) =
    finmap.entries-insert nat_list_cmp_total (map_of (map wrapped_entry es)) e.0 (wrapped_row e.1)
    ∙ ap (put name_cmp e.0 (wrapped_row e.1)) (entries_wrapped es)
    ∙ put_wrapped e.0 e.1 (entries_of es)
    ∙ ap (map wrapped_entry) (sym (finmap.entries-insert nat_list_cmp_total (map_of es) e.0 e.1))

abbrev by_name : List Row → List Named
by_name rows = map (λ row. (row.name, row)) rows

by_name_wrapped : (rows : List Row) → by_name (map wrapped_row rows) ≡ map wrapped_entry (by_name rows)
by_name_wrapped [] = refl
by_name_wrapped (row ∷ rows) = ap (λ (es : List Named). wrapped_entry (row.name, row) ∷ es) (by_name_wrapped rows)

abbrev stats_of : Option (List ℕ) → List Named → List (List ℕ)
stats_of after es = map (λ (named : Named). spelled_stat (stat_at named.1)) (filter (λ (named : Named). is_behind after named.0) es)

stats_test : (b : Bool) (after : Option (List ℕ)) (e : Named) (es : List Named) → stats_of after (map wrapped_entry es) ≡ stats_of after es
    → map (λ (named : Named). spelled_stat (stat_at named.1)) (cond b (wrapped_entry e ∷ filter (λ (named : Named). is_behind after named.0) (map wrapped_entry es)) (filter (λ (named : Named). is_behind after named.0) (map wrapped_entry es)))
    ≡ map (λ (named : Named). spelled_stat (stat_at named.1)) (cond b (e ∷ filter (λ (named : Named). is_behind after named.0) es) (filter (λ (named : Named). is_behind after named.0) es))
stats_test true after e es same = ap₂ (λ (s : PlainStat) (rest : List (List ℕ)). spelled_stat s ∷ rest) (stat_seen e.1) same
stats_test false after e es same = same

stats_wrapped : (after : Option (List ℕ)) (es : List Named) → stats_of after (map wrapped_entry es) ≡ stats_of after es
stats_wrapped after [] = refl
stats_wrapped after (e ∷ es) = stats_test (is_behind after e.0) after e es (stats_wrapped after es)

pub stats_seen : (rows : Rows) (parent : ℕ) (after : Option (List ℕ)) → stats_behind (wrapped rows) parent after ≡ stats_behind rows parent after
stats_seen rows parent after =
    ap (λ (xs : List Row). stats_of after (entries_of (by_name xs))) (filter_wrapped (is_child parent) (λ row. refl) rows.nodes)
    ∙ ap (λ (es : List Named). stats_of after (entries_of es)) (by_name_wrapped (filter (is_child parent) rows.nodes))
    ∙ ap (stats_of after) (entries_wrapped (by_name (filter (is_child parent) rows.nodes)))
    ∙ stats_wrapped after (entries_of (by_name (filter (is_child parent) rows.nodes)))

-- ---- walks

abbrev wrapped_way : Result Row Refusal → Result Row Refusal
wrapped_way (Ok row) = Ok (wrapped_row row)
wrapped_way (Err refusal) = Err refusal

found_wrapped : (o : Option Row) → found (option_map wrapped_row o) ≡ wrapped_way (found o)
found_wrapped None = refl
found_wrapped (Some row) = refl

named_wrapped : (rows : Rows) (n : ℕ) (r : Result (List ℕ) NameFault) → found_by_name (wrapped rows) n r ≡ wrapped_way (found_by_name rows n r)
named_wrapped rows n (Ok name) = ap found (child_there rows n name) ∙ found_wrapped (child_of rows n name)
named_wrapped rows n (Err fault) = refl

way_by : (b c : Bool) (x' x y' y : Result Row Refusal) → x' ≡ wrapped_way x → y' ≡ wrapped_way y
    → cond b (Err refusals.NotADirectory) (cond c x' y') ≡ wrapped_way (cond b (Err refusals.NotADirectory) (cond c x y))
way_by true c x' x y' y p q = refl
way_by false true x' x y' y p q = p
way_by false false x' x y' y p q = q

way_wrapped : (rows : Rows) (from : Row) (name : List ℕ) → walked_by (wrapped rows) (wrapped_row from) name ≡ wrapped_way (walked_by rows from name)
way_wrapped rows from name =
    way_by (not (is_dir from.kind)) (bytes_eq name dot_dot) (found (row_of (wrapped rows) from.parent)) (found (row_of rows from.parent))
    (found_by_name (wrapped rows) from.number (clear_name name)) (found_by_name rows from.number (clear_name name))
    (ap found (row_seen rows from.parent) ∙ found_wrapped (row_of rows from.parent)) (named_wrapped rows from.number (clear_name name))

abbrev Walked : Type 0
Walked = List Qid × Option Refusal

on_wrapped : (rest' rest : Row → Walked) → ((row : Row) → rest' (wrapped_row row) ≡ rest row) → (way : Result Row Refusal) → walk_on rest' (wrapped_way way) ≡ walk_on rest way
on_wrapped rest' rest same (Err refusal) = refl
on_wrapped rest' rest same (Ok row) = ap₂ (λ (q : Qid) (w : Walked). (q ∷ w.0, w.1)) (qid_seen row) (same row)

pub walk_seen : (rows : Rows) (from : Row) (names : List (List ℕ)) → walk_from (wrapped rows) (wrapped_row from) names ≡ walk_from rows from names
unfolding walk_from
walk_seen rows from [] = refl
walk_seen rows from (name ∷ names) =
    ap (walk_on (λ row. walk_from (wrapped rows) row names)) (way_wrapped rows from name)
    ∙ on_wrapped (λ row. walk_from (wrapped rows) row names) (λ row. walk_from rows row names) (λ row. walk_seen rows row names) (walked_by rows from name)
