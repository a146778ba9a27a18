-- What the step answers, by the row of its node.
use Rattle.std.proofs.Common.{◌≡◌, ℕ, Bool, true, false, cond, not, List, [], ◌∷◌, Option, Some, None, Result, Ok, Err, refl, sym, ap, ◌∙◌}
use Rattle.std.proofs.lemmas.Option.{same_Some}
use Rattle.std.specs.Option.{option_map, option_map_or}
use Rattle.std.specs.Str.{bytes_eq, is_utf8}
use Rattle.nfc_text.specs.Nfc.{nfc_of}
use Rattle.tree_model.specs.declared.refusal.Refusal.{Refusal}
use Rattle.tree_model.specs.declared.refusal.Refusal.TheVariants as refusals
use Rattle.tree_model.specs.declared.stat.Qid.{Qid}
use Rattle.tree_model.specs.Names.{NameFault, not_utf8, empty, dots, forbidden, too_long, form_fault, checked_name, clear_name}
use Rattle.tree_model.specs.Rows.{Row, Rows, Content, is_dir, row_of, child_of, qid_of}
use Rattle.tree_model.specs.Contents.{resized}
use Rattle.tree_model.specs.Asked.{PlainRequest, look, walk, open_node, create, read, list, write, remove, stat_of, change, sync, qid, walked, refused}
use Rattle.tree_model.specs.Step.{Answer, Stepped, stepped, says, refuses, dot_dot, found, found_by_name, walked_by, walk_on, walk_from, walk_answer, walk_refusal, name_refusal, raw_name_refusal, set_row, with_content, step, early, work, node_of, IsReading}

-- ---- the step

-- if nothing refuses it, what a request leads to is its work
abbrev refused_or : Rows → Option Refusal → Stepped → Stepped
refused_or rows refusal work = option_map_or (λ refusal. stepped rows (refuses refusal)) refusal work

-- a number without a row is removed
pub step_removed : (rows : Rows) (request : PlainRequest) (second : ℕ) → row_of rows (node_of request) ≡ None → step rows request second ≡ stepped rows (refuses refusals.Removed)
unfolding step
step_removed rows request second none =
    ap (λ (o : Option Row). refused_or rows (option_map_or (λ row. early rows row request) o (Some refusals.Removed))
    (option_map_or (λ row. work rows row request second) o (stepped rows (refuses refusals.Removed)))) none

-- the step for a node that is there
pub step_at : (rows : Rows) (request : PlainRequest) (second : ℕ) (row : Row) → row_of rows (node_of request) ≡ Some row
    → step rows request second ≡ option_map_or (λ refusal. stepped rows (refuses refusal)) (early rows row request) (work rows row request second)
unfolding step
step_at rows request second row is =
    ap (λ (o : Option Row). refused_or rows (option_map_or (λ row. early rows row request) o (Some refusals.Removed))
    (option_map_or (λ row. work rows row request second) o (stepped rows (refuses refusals.Removed)))) is

-- if nothing refuses the request before the work
pub step_worked : (rows : Rows) (request : PlainRequest) (second : ℕ) (row : Row) → row_of rows (node_of request) ≡ Some row → early rows row request ≡ None
    → step rows request second ≡ work rows row request second
step_worked rows request second row is free =
    step_at rows request second row is ∙ ap (λ (o : Option Refusal). refused_or rows o (work rows row request second)) free

-- if something does
pub step_refused : (rows : Rows) (request : PlainRequest) (second : ℕ) (row : Row) (refusal : Refusal) → row_of rows (node_of request) ≡ Some row → early rows row request ≡ Some refusal
    → step rows request second ≡ stepped rows (refuses refusal)
step_refused rows request second row refusal is before =
    step_at rows request second row is ∙ ap (λ (o : Option Refusal). refused_or rows o (work rows row request second)) before

work_reads : (rows : Rows) (row : Row) (request : PlainRequest) (second : ℕ) → IsReading request → (work rows row request second).rows ≡ rows
work_reads rows row (look n) second is = refl
work_reads rows row (walk n names) second is = refl
work_reads rows row (open_node n mode) second is =
    ap (λ (b : Bool). (cond b (option_map_or (λ (content : Content). stepped (set_row rows (with_content row content second)) (says (qid (qid_of (with_content row content second))))) (resized row.content 0)
    (stepped rows (refuses refusals.Damaged))) (stepped rows (says (qid (qid_of row))))).rows) is
work_reads rows row (create n name is_dir mode) second is = absurd is
work_reads rows row (read n at most) second is = refl
work_reads rows row (list n after most) second is = refl
work_reads rows row (write n at bytes) second is = absurd is
work_reads rows row (remove n) second is = absurd is
work_reads rows row (stat_of n) second is = refl
work_reads rows row (change n c) second is = absurd is
work_reads rows row (sync n) second is = refl

refused_reads : (rows : Rows) (refusal : Option Refusal) (s : Stepped) → s.rows ≡ rows → (refused_or rows refusal s).rows ≡ rows
refused_reads rows None s is = is
refused_reads rows (Some refusal) s is = refl

row_reads : (rows : Rows) (request : PlainRequest) (second : ℕ) (row : Option Row) → IsReading request
    → (option_map_or (λ (row : Row). work rows row request second) row (stepped rows (refuses refusals.Removed))).rows ≡ rows
row_reads rows request second None is = refl
row_reads rows request second (Some row) is = work_reads rows row request second is

-- the requests that change no rows leave them
pub step_reads : (rows : Rows) (request : PlainRequest) (second : ℕ) → IsReading request → (step rows request second).rows ≡ rows
unfolding step
step_reads rows request second is =
    refused_reads rows (option_map_or (λ row. early rows row request) (row_of rows (node_of request)) (Some refusals.Removed))
    (option_map_or (λ row. work rows row request second) (row_of rows (node_of request)) (stepped rows (refuses refusals.Removed))) (row_reads rows request second (row_of rows (node_of request)) is)

-- ---- walks

refused_text : (rows : Rows) (n : ℕ) (refusal : Refusal) (text : Bool) (fault : Option NameFault) (rest : Result (List ℕ) NameFault)
    → cond text (option_map name_refusal fault) (Some refusals.BadName) ≡ Some refusal
    → found_by_name rows n (cond text (option_map_or (λ fault. Err fault) fault rest) (Err not_utf8)) ≡ Err refusal
refused_text rows n refusal false fault rest is = ap (λ (r : Refusal). Err r) (same_Some refusals.BadName refusal is)
refused_text rows n refusal true None rest is = absurd cc
refused_text rows n refusal true (Some fault) rest is = ap (λ (r : Refusal). Err r) (same_Some (name_refusal fault) refusal is)

-- what refuses a name before its form NFC is needed refuses it in a directory
pub raw_refused : (rows : Rows) (n : ℕ) (name : List ℕ) (refusal : Refusal) → raw_name_refusal name ≡ Some refusal → found_by_name rows n (clear_name name) ≡ Err refusal
unfolding clear_name
raw_refused rows n name refusal is = refused_text rows n refusal (is_utf8 name) (form_fault name) (checked_name (nfc_of name)) is

-- a walk's first name is refused before the work as it would be in it
early_walked : (rows : Rows) (row : Row) (name : List ℕ) (refusal : Refusal) (is_dir is_up : Bool)
    → cond (not is_dir) (Some refusals.NotADirectory) (cond is_up None (raw_name_refusal name)) ≡ Some refusal
    → cond (not is_dir) (Err refusals.NotADirectory) (cond is_up (found (row_of rows row.parent)) (found_by_name rows row.number (clear_name name))) ≡ Err refusal
early_walked rows row name refusal false is_up is = ap (λ (r : Refusal). Err r) (same_Some refusals.NotADirectory refusal is)
early_walked rows row name refusal true true is = absurd cc
early_walked rows row name refusal true false is = raw_refused rows row.number name refusal is

walked_early : (rows : Rows) (n second : ℕ) (name : List ℕ) (names : List (List ℕ)) (row : Row) (early : Option Refusal) → walk_refusal row.kind name ≡ early
    → (option_map_or (λ refusal. stepped rows (refuses refusal)) early (work rows row (walk n (name ∷ names)) second)).answer ≡ walk_answer (walk_from rows row (name ∷ names))
unfolding walk_from
walked_early rows n second name names row None is = refl
walked_early rows n second name names row (Some refusal) is =
    sym (ap (λ (w : Result Row Refusal). walk_answer (walk_on (λ row. walk_from rows row names) w)) (early_walked rows row name refusal (is_dir row.kind) (bytes_eq name dot_dot) is))

-- a walk from a node that is there is answered by its way
pub step_walk : (rows : Rows) (n second : ℕ) (names : List (List ℕ)) (row : Row) → row_of rows n ≡ Some row → (step rows (walk n names) second).answer ≡ walk_answer (walk_from rows row names)
step_walk rows n second [] row is = ap (λ (s : Stepped). s.answer) (step_worked rows (walk n []) second row is refl)
step_walk rows n second (name ∷ names) row is =
    ap (λ (s : Stepped). s.answer) (step_at rows (walk n (name ∷ names)) second row is)
    ∙ walked_early rows n second name names row (walk_refusal row.kind name) refl

found_refusal : (o : Option Row) → found o ≡ Err refusals.Removed → ⊥
found_refusal None e = cc
found_refusal (Some row) e = cc

named_refusal : (rows : Rows) (n : ℕ) (r : Result (List ℕ) NameFault) → found_by_name rows n r ≡ Err refusals.Removed → ⊥
named_refusal rows n (Ok name) e = found_refusal (child_of rows n name) e
named_refusal rows n (Err not_utf8) e = cc
named_refusal rows n (Err empty) e = cc
named_refusal rows n (Err dots) e = cc
named_refusal rows n (Err forbidden) e = cc
named_refusal rows n (Err (too_long k)) e = cc

either_refusal : (b c : Bool) (x y : Result Row Refusal) → (x ≡ Err refusals.Removed → ⊥) → (y ≡ Err refusals.Removed → ⊥)
    → cond b (Err refusals.NotADirectory) (cond c x y) ≡ Err refusals.Removed → ⊥
either_refusal true c x y p q e = cc
either_refusal false true x y p q e = p e
either_refusal false false x y p q e = q e

answer_refusal : (rest : Row → List Qid × Option Refusal) (w : Result Row Refusal) → (w ≡ Err refusals.Removed → ⊥) → walk_answer (walk_on rest w) ≡ refuses refusals.Removed → ⊥
answer_refusal rest (Ok row) other e = let same : walked (qid_of row ∷ (rest row).0) ≡ refused refusals.Removed = ap (λ (a : Answer). a.reply) e in cc
answer_refusal rest (Err refusal) other e = other (let same : refused refusal ≡ refused refusals.Removed = ap (λ (a : Answer). a.reply) e in cc)

-- a walk is never answered by `Removed` if its node is there
pub walk_not_removed : (rows : Rows) (row : Row) (names : List (List ℕ)) → walk_answer (walk_from rows row names) ≡ refuses refusals.Removed → ⊥
unfolding walk_from
walk_not_removed rows row [] e = let same : walked [] ≡ refused refusals.Removed = ap (λ (a : Answer). a.reply) e in cc
walk_not_removed rows row (name ∷ names) e =
    answer_refusal (λ row. walk_from rows row names) (walked_by rows row name)
    (either_refusal (not (is_dir row.kind)) (bytes_eq name dot_dot) (found (row_of rows row.parent)) (found_by_name rows row.number (clear_name name))
    (found_refusal (row_of rows row.parent)) (named_refusal rows row.number (clear_name name))) e
