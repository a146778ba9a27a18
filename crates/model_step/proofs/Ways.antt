-- Walks name by name, and the names of a walk.
use Rattle.std.proofs.Common.{◌≡◌, ℕ, zero, suc, ◌+◌, ◌-◌, ◌*◌, ◌<◌, List, [], ◌∷◌, ◌++◌, length, take, drop, get_or, slice_index, Option, Some, None, Result, Ok, Err, Vec, Global, sym, ap, ◌∙◌, append_assoc, arith}
use Rattle.std.proofs.lemmas.List.{append-nil, drop_more}
use Rattle.tree_model.specs.declared.refusal.Refusal.{Refusal}
use Rattle.tree_model.specs.declared.stat.Qid.{Qid}
use Rattle.tree_model.specs.Names.{names_in}
use Rattle.tree_model.specs.Rows.{Row, Rows, qid_of}
use Rattle.tree_model.specs.Step.{walked_by, walk_from, walk_on}
use Rattle.model_step.specs.SeenRows.{bytes_seen}

abbrev Way : Type 0
Way = List Qid × Option Refusal

-- a way after nodes
abbrev pub behind : List Qid → Way → Way
behind qids rest = (qids ++ rest.0, rest.1)

next : (names : List (Vec ℕ Global)) (i : ℕ) (name : Vec ℕ Global) → i < length names → name ≡ get_or names i name → drop i names ≡ name ∷ drop (i + 1) names
next names i name h is = drop_more names i name h ∙ ap (λ (x : Vec ℕ Global). x ∷ drop (i + 1) names) (sym is)

first_walked : (rows : Rows) (at : Row) (name : List ℕ) (names : List (List ℕ)) (to : Result Row Refusal) → to ≡ walked_by rows at name
    → walk_from rows at (name ∷ names) ≡ walk_on (λ row. walk_from rows row names) to
unfolding walk_from
first_walked rows at name names to is = ap (walk_on (λ row. walk_from rows row names)) (sym is)

pub walk_stops : (rows : Rows) (at : Row) (names : List (Vec ℕ Global)) (i : ℕ) (name : Vec ℕ Global) (refusal : Refusal) (qids : List Qid) (all : Way) → i < length names → name ≡ get_or names i name
    → Err refusal ≡ walked_by rows at name.items → behind qids (walk_from rows at (bytes_seen (drop i names))) ≡ all → (qids, Some refusal) ≡ all
walk_stops rows at names i name refusal qids all h is refused so_far =
    let way : walk_from rows at (bytes_seen (drop i names)) ≡ ([], Some refusal) =
    ap (λ (ns : List (Vec ℕ Global)). walk_from rows at (bytes_seen ns)) (next names i name h is) ∙ first_walked rows at name.items (bytes_seen (drop (i + 1) names)) (Err refusal) refused in
    ap (λ (qs : List Qid). (qs, Some refusal)) (sym (append-nil qids)) ∙ ap (behind qids) (sym way) ∙ so_far

pub walk_goes : (rows : Rows) (at to : Row) (names : List (Vec ℕ Global)) (i : ℕ) (name : Vec ℕ Global) (qids more : List Qid) (all : Way) → i < length names → name ≡ get_or names i name
    → Ok to ≡ walked_by rows at name.items → more ≡ qids ++ qid_of to ∷ [] → behind qids (walk_from rows at (bytes_seen (drop i names))) ≡ all
    → behind more (walk_from rows to (bytes_seen (drop (i + 1) names))) ≡ all
walk_goes rows at to names i name qids more all h is goes are so_far =
    let rest : Way = walk_from rows to (bytes_seen (drop (i + 1) names)) in
    let way : walk_from rows at (bytes_seen (drop i names)) ≡ (qid_of to ∷ rest.0, rest.1) =
    ap (λ (ns : List (Vec ℕ Global)). walk_from rows at (bytes_seen ns)) (next names i name h is) ∙ first_walked rows at name.items (bytes_seen (drop (i + 1) names)) (Ok to) goes in
    ap (λ (qs : List Qid). (qs, rest.1)) (ap (λ (qs : List Qid). qs ++ rest.0) are ∙ append_assoc qids (qid_of to ∷ []) rest.0) ∙ ap (behind qids) (sym way) ∙ so_far

pub walk_ends : (rows : Rows) (at : Row) (names : List (Vec ℕ Global)) (qids : List Qid) (all : Way) → names ≡ [] → behind qids (walk_from rows at (bytes_seen names)) ≡ all → (qids, None) ≡ all
unfolding walk_from
walk_ends rows at names qids all none so_far =
    ap (λ (qs : List Qid). (qs, None)) (sym (append-nil qids)) ∙ ap (λ (ns : List (Vec ℕ Global)). behind qids (walk_from rows at (bytes_seen ns))) (sym none) ∙ so_far

-- ---- the names of a walk

less_one : (n : ℕ) → suc n - 1 ≡ n
less_one n = omega arith

next_name : (n len : ℕ) (bytes : List ℕ) → 0 < n → len ≡ slice_index bytes 0 + 256 * slice_index bytes 1
    → names_in n bytes ≡ take len (drop 2 bytes) ∷ names_in (n - 1) (drop (2 + len) bytes)
unfolding names_in
next_name zero len bytes h is = absurd (omega arith)
next_name (suc n) len bytes h is =
    ap (λ (k : ℕ). take k (drop 2 bytes) ∷ names_in n (drop (2 + k) bytes)) (sym is)
    ∙ ap (λ (k : ℕ). take len (drop 2 bytes) ∷ names_in k (drop (2 + len) bytes)) (sym (less_one n))

pub names_more : (done more all : List (List ℕ)) (n len : ℕ) (bytes name rest : List ℕ) → 0 < n → len ≡ slice_index bytes 0 + 256 * slice_index bytes 1 → name ≡ take len (drop 2 bytes) → rest ≡ drop (2 + len) bytes
    → more ≡ done ++ name ∷ [] → done ++ names_in n bytes ≡ all → more ++ names_in (n - 1) rest ≡ all
names_more done more all n len bytes name rest h is name_is rest_is are so_far =
    ap (λ (front : List (List ℕ)). front ++ names_in (n - 1) rest) are ∙ append_assoc done (name ∷ []) (names_in (n - 1) rest)
    ∙ ap (λ (m : List ℕ). done ++ m ∷ names_in (n - 1) rest) name_is
    ∙ ap (λ (r : List ℕ). done ++ take len (drop 2 bytes) ∷ names_in (n - 1) r) rest_is
    ∙ ap (λ (names : List (List ℕ)). done ++ names) (sym (next_name n len bytes h is)) ∙ so_far

pub names_end : (done all : List (List ℕ)) (n : ℕ) (bytes : List ℕ) → n ≡ 0 → done ++ names_in n bytes ≡ all → done ≡ all
unfolding names_in
names_end done all n bytes none so_far = sym (append-nil done) ∙ ap (λ (k : ℕ). done ++ names_in k bytes) (sym none) ∙ so_far
