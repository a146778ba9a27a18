-- Lists of rows, and numbers of bytes.
use Rattle.std.proofs.Common.{◌≡◌, ℕ, zero, suc, ◌<◌, ◌≤◌, Bool, true, false, ◌||◌, ◌==◌, List, [], ◌∷◌, ◌++◌, length, take, get_or, is_ok, OnOk, Result, Ok, Err, cond, Some, if◌then◌else◌, refl, sym, ap, ◌∙◌, arith}
use Rattle.std.specs.Int.{byte_at, bytes_low_first}
use Rattle.std.specs.List.{find, list_any}
use Rattle.std.proofs.lemmas.Option.{same_Some}
use Rattle.tree_model.specs.Rows as rows
use Rattle.model_step.specs.declared.rows.Row.{Row}
use Rattle.model_step.specs.declared.ends.StepErr.{StepErr}
use Rattle.model_step.specs.declared.ends.StepErr.TheVariants.{Versions, Memory}
use Rattle.model_step.specs.SeenRows.{nodes_seen, row_seen}
use Rattle.model_step.specs.Ends.{IsEnd, has_last, is_last}

or_true : (b : Bool) → (b || true) ≡ true
or_true true = refl
or_true false = refl

pub any_at : (p : rows.Row → Bool) (nodes : List Row) (i : ℕ) (d : Row) → i < length nodes → p (row_seen (get_or nodes i d)) ≡ true → list_any p (nodes_seen nodes) ≡ true
any_at p [] i d h is = absurd (omega arith)
any_at p (node ∷ nodes) zero d h is = ap (λ (b : Bool). b || list_any p (nodes_seen nodes)) is
any_at p (node ∷ nodes) (suc i) d h is =
    ap (λ (b : Bool). p (row_seen node) || b) (any_at p nodes i d (omega arith) is) ∙ or_true (p (row_seen node))

-- a last version among rows
pub end_at : (e : StepErr) (nodes : List Row) (i : ℕ) (row copy : Row) → i < length nodes → row ≡ get_or nodes i row → row_seen copy ≡ row_seen row
    → IsEnd e (is_last (row_seen copy)) → IsEnd e (list_any is_last (nodes_seen nodes))
end_at Memory nodes i row copy h is same end = tt
end_at Versions nodes i row copy h is same end =
    any_at is_last nodes i row h (ap (λ (r : Row). is_last (row_seen r)) (sym is) ∙ ap is_last (sym same) ∙ end)

-- the first bytes of a number
pub low_bytes : (i n m x : ℕ) → n ≤ m → take n (bytes_low_first i m x) ≡ bytes_low_first i n x
low_bytes i zero m x h = refl
low_bytes i (suc n) zero x h = absurd (omega arith)
low_bytes i (suc n) (suc m) x h = ap (λ (bytes : List ℕ). byte_at i x ∷ bytes) (low_bytes (suc i) n m x (omega arith))

pub appended : {A E : Type 0} (r : Result A E) (new old more as_said : List ℕ) → new ≡ (if is_ok r then old ++ more else old) → more ≡ as_said → OnOk r (new ≡ old ++ as_said)
appended (Ok x) new old more as_said is same = is ∙ ap (λ (bytes : List ℕ). old ++ bytes) same
appended (Err e) new old more as_said is same = tt

-- a row that is found is among them
found_any : (p test : rows.Row → Bool) (nodes : List rows.Row) (row : rows.Row) → find test nodes ≡ Some row → p row ≡ true → list_any p nodes ≡ true
found_any p test [] row is h = absurd cc
found_any p test (node ∷ nodes) row is h = by (test node) is (found_any p test nodes row)
  where
    by : (b : Bool) → cond b (Some node) (find test nodes) ≡ Some row → (find test nodes ≡ Some row → p row ≡ true → list_any p nodes ≡ true) → list_any p (node ∷ nodes) ≡ true
    by true is rest = ap (λ (b : Bool). b || list_any p nodes) (ap p (same_Some node row is) ∙ h)
    by false is rest = ap (λ (b : Bool). p node || b) (rest is h) ∙ or_true (p node)

or_absorbs : (a b : Bool) → (b ≡ true → a ≡ true) → (a || b) ≡ a
or_absorbs true b h = refl
or_absorbs false true h = absurd (let no : false ≡ true = h refl in cc)
or_absorbs false false h = refl

-- the last version of a row among rows is there
pub end_among : (all : rows.Rows) (n : ℕ) (row : rows.Row) → rows.row_of all n ≡ Some row → (has_last all || is_last row) ≡ has_last all
end_among all n row is = or_absorbs (has_last all) (is_last row) (λ h. found_any is_last (λ (row : rows.Row). row.number == n) all.nodes row is h)
