-- A list and a change of a node that is there are never answered by `Removed`.
use Rattle.std.proofs.Common.{◌≡◌, ◌≢◌, ℕ, ◌==◌, ◌-◌, List, Bool, true, false, cond, not, nat_lt, Option, Some, None, IfSome, is_some, Result, Ok, Err, refl, sym, ap, ◌∙◌, true≢false}
use Rattle.std.specs.Option.{option_map, option_map_or}
use Rattle.std.specs.Str.{is_utf8}
use Rattle.tree_model.specs.declared.refusal.Refusal.{Refusal}
use Rattle.tree_model.specs.declared.refusal.Refusal.TheVariants as refusals
use Rattle.tree_model.specs.Names.{NameFault, not_utf8, empty, dots, forbidden, too_long, form_fault, clear_name}
use Rattle.tree_model.specs.Rows.{Kind, dir, file, link, bad, Content, Row, Rows, root, is_dir, child_of, content_length, row_of}
use Rattle.tree_model.specs.Contents.{resized}
use Rattle.tree_model.specs.Asked.{PlainChange, PlainReply, PlainRequest, list, change, qid, walked, count, stat, done, refused}
use Rattle.tree_model.specs.Step.{Answer, Stepped, stepped, says, refuses, set_row, change_dir, with_mtime, with_content, name_refusal, raw_name_refusal, growth_refusal, length_refusal, place_refusal, touches_fixed, is_bad, is_bad_size, file_limit, gap_limit, is_held, is_too_small, stats_behind, rename_step, place_step, new_name, new_length, early, work, step, node_of}
use Rattle.tree_model.proofs.Steps.{step_at}

abbrev is_gone : Refusal → Bool
is_gone refusals.Removed = true
is_gone refusal = false

abbrev says_gone : PlainReply → Bool
says_gone (refused refusal) = is_gone refusal
says_gone (qid q) = false
says_gone (walked qids) = false
says_gone (count n) = false
says_gone (stat n) = false
says_gone done = false

abbrev Stays : Option Refusal → Type 0
Stays o = IfSome o (λ refusal. is_gone refusal ≡ false)

stays_if : (b : Bool) (x y : Option Refusal) → Stays x → Stays y → Stays (cond b x y)
stays_if true x y p q = p
stays_if false x y p q = q

abbrev Keeps : Stepped → Type 0
Keeps s = says_gone s.answer.reply ≡ false

keeps_if : (b : Bool) (x y : Stepped) → Keeps x → Keeps y → Keeps (cond b x y)
keeps_if true x y p q = p
keeps_if false x y p q = q

keeps_or : (rows : Rows) (o : Option Refusal) (s : Stepped) → Stays o → Keeps s → Keeps (option_map_or (λ refusal. stepped rows (refuses refusal)) o s)
keeps_or rows None s p q = q
keeps_or rows (Some refusal) s p q = p

never : (answer : Answer) → says_gone answer.reply ≡ false → answer ≢ refuses refusals.Removed
never answer is e = true≢false (sym (ap (λ (a : Answer). says_gone a.reply) e) ∙ is)

at_row : (rows : Rows) (request : PlainRequest) (second : ℕ) (row : Row) → row_of rows (node_of request) ≡ Some row → Stays (early rows row request) → Keeps (work rows row request second)
    → (step rows request second).answer ≢ refuses refusals.Removed
at_row rows request second row is early_stays keeps =
    never (step rows request second).answer
    (ap (λ (s : Stepped). says_gone s.answer.reply) (step_at rows request second row is) ∙ keeps_or rows (early rows row request) (work rows row request second) early_stays keeps)

pub list_not_removed : (rows : Rows) (n most second : ℕ) (after : Option (List ℕ)) (row : Row) → row_of rows n ≡ Some row → (step rows (list n after most) second).answer ≢ refuses refusals.Removed
list_not_removed rows n most second after row is =
    at_row rows (list n after most) second row is
    (stays_if (not (is_dir row.kind)) (Some refusals.NotADirectory) (cond (is_too_small most (stats_behind rows row.number after)) (Some refusals.CountTooSmall) None) refl
    (stays_if (is_too_small most (stats_behind rows row.number after)) (Some refusals.CountTooSmall) None refl tt)) refl

-- ---- changes

fault_stays : (fault : NameFault) → is_gone (name_refusal fault) ≡ false
fault_stays not_utf8 = refl
fault_stays empty = refl
fault_stays dots = refl
fault_stays forbidden = refl
fault_stays (too_long n) = refl

form_stays : (o : Option NameFault) → Stays (option_map name_refusal o)
form_stays None = tt
form_stays (Some fault) = fault_stays fault

growth_stays : (content : Content) (at end : ℕ) → Stays (growth_refusal content at end)
growth_stays content at end =
    stays_if (is_bad_size content) (Some refusals.Damaged) (cond (nat_lt file_limit end) (Some refusals.FileTooLarge) (cond (nat_lt gap_limit (at - content_length content)) (Some refusals.GapTooLarge) None)) refl
    (stays_if (nat_lt file_limit end) (Some refusals.FileTooLarge) (cond (nat_lt gap_limit (at - content_length content)) (Some refusals.GapTooLarge) None) refl
    (stays_if (nat_lt gap_limit (at - content_length content)) (Some refusals.GapTooLarge) None refl tt))

length_stays : (kind : Kind) (content : Content) (n : ℕ) → Stays (length_refusal kind content n)
length_stays dir content n = refl
length_stays bad content n = refl
length_stays link content n = refl
length_stays file content n = growth_stays content n n

place_stays : (row : Row) (name : Option (List ℕ)) (length : Option ℕ) → Stays (place_refusal row name length)
place_stays row None None = tt
place_stays row None (Some n) = length_stays row.kind row.content n
place_stays row (Some name) None = stays_if (row.number == root) None (raw_name_refusal name) tt (stays_if (is_utf8 name) (option_map name_refusal (form_fault name)) (Some refusals.BadName) (form_stays (form_fault name)) refl)
place_stays row (Some name) (Some n) = tt

resized_keeps : (rows : Rows) (row : Row) (c : PlainChange) (now : ℕ) (o : Option Content)
    → Keeps (option_map_or (λ content. stepped (set_row rows (with_mtime c (with_content row content now))) (says done)) o (stepped rows (refuses refusals.Damaged)))
resized_keeps rows row c now None = refl
resized_keeps rows row c now (Some content) = refl

rename_keeps : (rows : Rows) (row : Row) (c : PlainChange) (r : Result (List ℕ) NameFault) (now : ℕ) → Keeps (rename_step rows row c r now)
rename_keeps rows row c (Err fault) now = fault_stays fault
rename_keeps rows row c (Ok name) now =
    let moved : Stepped = stepped (set_row (change_dir rows row.parent now) (with_mtime c (record row { name = name }))) (says done) in
    keeps_if (is_some (child_of rows row.parent name)) (stepped rows (refuses refusals.FileExists)) (cond (is_held rows row) (stepped rows (refuses refusals.Foreign)) moved) refl
    (keeps_if (is_held rows row) (stepped rows (refuses refusals.Foreign)) moved refl refl)

place_keeps : (rows : Rows) (row : Row) (c : PlainChange) (name : Option (List ℕ)) (length : Option ℕ) (now : ℕ) → Keeps (place_step rows row c name length now)
place_keeps rows row c None None now = refl
place_keeps rows row c None (Some n) now = keeps_or rows (length_refusal row.kind row.content n)
    (option_map_or (λ content. stepped (set_row rows (with_mtime c (with_content row content now))) (says done)) (resized row.content n) (stepped rows (refuses refusals.Damaged))) (length_stays row.kind row.content n) (resized_keeps rows row c now (resized row.content n))
place_keeps rows row c (Some name) None now = keeps_if (row.number == root) (stepped rows (refuses refusals.NotPermitted)) (rename_step rows row c (clear_name name) now) refl (rename_keeps rows row c (clear_name name) now)
place_keeps rows row c (Some name) (Some n) now = refl

pub change_not_removed : (rows : Rows) (n second : ℕ) (c : PlainChange) (row : Row) → row_of rows n ≡ Some row → (step rows (change n c) second).answer ≢ refuses refusals.Removed
change_not_removed rows n second c row is =
    at_row rows (change n c) second row is
    (stays_if (is_bad row.kind) (Some refusals.Damaged) (cond (touches_fixed row c) (Some refusals.NotPermitted) (place_refusal row c.name (new_length row c))) refl
    (stays_if (touches_fixed row c) (Some refusals.NotPermitted) (place_refusal row c.name (new_length row c)) refl (place_stays row c.name (new_length row c))))
    (place_keeps rows row c (new_name row c) (new_length row c) second)
