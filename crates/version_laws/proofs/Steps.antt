-- The step from rows whose versions are modulo 2^32 is the same as from the rows themselves.
use Rattle.std.proofs.Common.{◌≡◌, ◌||◌, ◌==◌, ℕ, Bool, true, false, cond, not, List, [], ◌∷◌, length, Option, Some, None, Result, Ok, Err, is_some, refl, sym, ap, ap₂, ◌∙◌}
use Rattle.std.specs.List.{concat}
use Rattle.std.specs.Option.{option_map, option_map_or}
use Rattle.tree_model.specs.declared.refusal.Refusal.{Refusal}
use Rattle.tree_model.specs.declared.refusal.Refusal.TheVariants as refusals
use Rattle.tree_model.specs.declared.stat.Qid.{Qid}
use Rattle.tree_model.specs.Wire.{PlainStat, spelled_stat}
use Rattle.tree_model.specs.Names.{NameFault, clear_name}
use Rattle.tree_model.specs.Rows.{Kind, dir, file, link, bad, Row, Rows, Content, root, is_dir, row_of, child_of, qid_of, mode_of, owner, slice_of}
use Rattle.tree_model.specs.Contents.{written, resized}
use Rattle.tree_model.specs.Asked.{PlainChange, PlainRequest, look, walk, open_node, create, read, list, write, remove, stat_of, change, sync, qid, count, stat, done}
use Rattle.tree_model.specs.Step.{Answer, Stepped, stepped, says, refuses, node_of, set_row, change_dir, with_content, with_mtime, name_refusal, walk_from, walk_answer, truncates, open_step, is_full, new_row, with_new, create_named, bytes_answer, fitting, is_too_small, list_refusal, list_answer, write_step, is_held, removal_refusal, remove_refusal, is_other, is_other_qid, is_other_text, new_name, new_length, length_refusal, place_refusal, is_bad, change_refusal, rename_step, place_step, early, work, early_refusal, step}
use Rattle.version_laws.specs.RowVersions.{wrapped_row, wrapped, StepsAreSame, EarlyRefusalsAreSame}
use Rattle.version_laws.proofs.Pieces.{row_twice, wrapped_twice, qid_seen, stat_seen, changed_seen, changed_qid_seen, dated_seen, named_seen, row_seen, child_seen, children_seen, full_seen, set_seen, change_seen, new_seen, less_seen, stats_seen, walk_seen}

-- ---- refusals before the work

list_refused : (rows : Rows) (row : Row) (after : Option (List ℕ)) (most : ℕ) → list_refusal (wrapped rows) (wrapped_row row) after most ≡ list_refusal rows row after most
list_refused rows row after most =
    ap (λ (stats : List (List ℕ)). cond (not (is_dir row.kind)) (Some refusals.NotADirectory) (cond (is_too_small most stats) (Some refusals.CountTooSmall) None)) (stats_seen rows row.number after)

removal_refused : (rows : Rows) (row : Row) (kind : Kind) → removal_refusal (wrapped rows) (wrapped_row row) kind ≡ removal_refusal rows row kind
removal_refused rows row dir =
    ap (λ (b : Bool). cond b (Some refusals.DirectoryNotEmpty) (cond (row.foreign || is_held rows row) (Some refusals.Foreign) None)) (children_seen rows row.number)
removal_refused rows row file = refl
removal_refused rows row link = refl
removal_refused rows row bad = refl

remove_refused : (rows : Rows) (row : Row) → remove_refusal (wrapped rows) (wrapped_row row) ≡ remove_refusal rows row
remove_refused rows row = ap (λ (o : Option Refusal). cond (row.number == root) (Some refusals.NotPermitted) o) (removal_refused rows row row.kind)

change_refused : (row : Row) (c : PlainChange) → change_refusal (wrapped_row row) c ≡ change_refusal row c
change_refused row c =
    ap
    (λ (q : Qid).
    cond (is_bad row.kind) (Some refusals.Damaged)
    (cond
    (is_other c.kind 0 || is_other c.device 0 || is_other_qid c.qid q || is_other c.mode (mode_of row.kind) || is_other c.accessed row.modified || is_other_text c.owner owner || is_other_text c.group owner
    || is_other_text c.modifier owner)
    (Some refusals.NotPermitted) (place_refusal row c.name (new_length row c))))
    (qid_seen row)

early_seen : (rows : Rows) (row : Row) (request : PlainRequest) → early (wrapped rows) (wrapped_row row) request ≡ early rows row request
early_seen rows row (look n) = refl
early_seen rows row (walk n []) = refl
early_seen rows row (walk n (name ∷ names)) = refl
early_seen rows row (open_node n mode) = refl
early_seen rows row (create n name is_dir mode) = refl
early_seen rows row (read n at most) = refl
early_seen rows row (list n after most) = list_refused rows row after most
early_seen rows row (write n at bytes) = refl
early_seen rows row (remove n) = remove_refused rows row
early_seen rows row (stat_of n) = refl
early_seen rows row (change n c) = change_refused row c
early_seen rows row (sync n) = refl

early_at : (rows : Rows) (request : PlainRequest) (o : Option Row)
    → option_map_or (λ (row : Row). early (wrapped rows) row request) (option_map wrapped_row o) (Some refusals.Removed)
    ≡ option_map_or (λ (row : Row). early rows row request) o (Some refusals.Removed)
early_at rows request None = refl
early_at rows request (Some row) = early_seen rows row request

early_wrapped : (rows : Rows) (request : PlainRequest) → early_refusal (wrapped rows) request ≡ early_refusal rows request
early_wrapped rows request =
    ap (λ (o : Option Row). option_map_or (λ (row : Row). early (wrapped rows) row request) o (Some refusals.Removed)) (row_seen rows (node_of request))
    ∙ early_at rows request (row_of rows (node_of request))

pub early_refusals_are_same : EarlyRefusalsAreSame
early_refusals_are_same a b request same =
    sym (early_wrapped a request) ∙ ap (λ (rows : Rows). early_refusal rows request) same ∙ early_wrapped b request

-- ---- work

-- what is seen of a step
abbrev seen : Stepped → Stepped
seen s = stepped (wrapped s.rows) s.answer

-- the rows stay
stays : (rows : Rows) (x y : Answer) → x ≡ y → seen (stepped (wrapped rows) x) ≡ seen (stepped rows y)
stays rows x y same = ap₂ stepped (wrapped_twice rows) same

refused : (rows : Rows) (refusal : Refusal) → seen (stepped (wrapped rows) (refuses refusal)) ≡ seen (stepped rows (refuses refusal))
refused rows refusal = stays rows (refuses refusal) (refuses refusal) refl

set : (rows : Rows) (new new' : Row) → wrapped_row new ≡ wrapped_row new' → wrapped (set_row (wrapped rows) new) ≡ wrapped (set_row rows new')
set rows new new' same = set_seen (wrapped rows) rows new new' (wrapped_twice rows) same

either : (b : Bool) (s' s t' t : Stepped) → seen s' ≡ seen s → seen t' ≡ seen t → seen (cond b s' t') ≡ seen (cond b s t)
either true s' s t' t p q = p
either false s' s t' t p q = q

-- what is done with a content, if it is one
with_some : (f' f : Content → Stepped) (s' s : Stepped) (o : Option Content) → ((content : Content) → seen (f' content) ≡ seen (f content)) → seen s' ≡ seen s
    → seen (option_map_or f' o s') ≡ seen (option_map_or f o s)
with_some f' f s' s None some none = none
with_some f' f s' s (Some content) some none = some content

truncated : (rows : Rows) (row : Row) (now : ℕ) (content : Content)
    → seen (stepped (set_row (wrapped rows) (with_content (wrapped_row row) content now)) (says (qid (qid_of (with_content (wrapped_row row) content now)))))
    ≡ seen (stepped (set_row rows (with_content row content now)) (says (qid (qid_of (with_content row content now)))))
truncated rows row now content =
    ap₂ stepped (set rows (with_content (wrapped_row row) content now) (with_content row content now) (changed_seen row content now))
    (ap (λ (q : Qid). says (qid q)) (changed_qid_seen row content now))

opened : (rows : Rows) (row : Row) (mode now : ℕ) → seen (open_step (wrapped rows) (wrapped_row row) mode now) ≡ seen (open_step rows row mode now)
opened rows row mode now =
    either (truncates mode)
    (option_map_or
    (λ content. stepped (set_row (wrapped rows) (with_content (wrapped_row row) content now)) (says (qid (qid_of (with_content (wrapped_row row) content now)))))
    (resized row.content 0) (stepped (wrapped rows) (refuses refusals.Damaged)))
    (option_map_or (λ content. stepped (set_row rows (with_content row content now)) (says (qid (qid_of (with_content row content now))))) (resized row.content 0) (stepped rows (refuses refusals.Damaged)))
    (stepped (wrapped rows) (says (qid (qid_of (wrapped_row row))))) (stepped rows (says (qid (qid_of row))))
    (with_some (λ content. stepped (set_row (wrapped rows) (with_content (wrapped_row row) content now)) (says (qid (qid_of (with_content (wrapped_row row) content now)))))
    (λ content. stepped (set_row rows (with_content row content now)) (says (qid (qid_of (with_content row content now)))))
    (stepped (wrapped rows) (refuses refusals.Damaged)) (stepped rows (refuses refusals.Damaged)) (resized row.content 0) (truncated rows row now) (refused rows refusals.Damaged))
    (stays rows (says (qid (qid_of (wrapped_row row)))) (says (qid (qid_of row))) (ap (λ (q : Qid). says (qid q)) (qid_seen row)))

made_by : (rows : Rows) (row : Row) (name : List ℕ) (is_dir : Bool) (now : ℕ) (b c : Bool)
    → seen (cond b (stepped (wrapped rows) (refuses refusals.FileExists)) (cond c (stepped (wrapped rows) (refuses refusals.VaultFull))
    (stepped (with_new (wrapped rows) (new_row rows row name is_dir now) now) (says (qid (qid_of (new_row rows row name is_dir now)))))))
    ≡ seen (cond b (stepped rows (refuses refusals.FileExists)) (cond c (stepped rows (refuses refusals.VaultFull))
    (stepped (with_new rows (new_row rows row name is_dir now) now) (says (qid (qid_of (new_row rows row name is_dir now)))))))
made_by rows row name is_dir now true c = refused rows refusals.FileExists
made_by rows row name is_dir now false true = refused rows refusals.VaultFull
made_by rows row name is_dir now false false =
    ap (λ (after : Rows). stepped after (says (qid (qid_of (new_row rows row name is_dir now))))) (new_seen (wrapped rows) rows (new_row rows row name is_dir now) now (wrapped_twice rows))

made : (rows : Rows) (row : Row) (name : Result (List ℕ) NameFault) (is_dir : Bool) (now : ℕ)
    → seen (create_named (wrapped rows) (wrapped_row row) name is_dir now) ≡ seen (create_named rows row name is_dir now)
made rows row (Err fault) is_dir now = refused rows (name_refusal fault)
made rows row (Ok name) is_dir now =
    ap₂
    (λ (b c : Bool). seen (cond b (stepped (wrapped rows) (refuses refusals.FileExists)) (cond c (stepped (wrapped rows) (refuses refusals.VaultFull))
    (stepped (with_new (wrapped rows) (new_row rows row name is_dir now) now) (says (qid (qid_of (new_row rows row name is_dir now))))))))
    (child_seen rows row.number name) (full_seen rows)
    ∙ made_by rows row name is_dir now (is_some (child_of rows row.number name)) (is_full rows)

listed : (rows : Rows) (row : Row) (after : Option (List ℕ)) (most : ℕ) → list_answer (wrapped rows) (wrapped_row row) after most ≡ list_answer rows row after most
listed rows row after most = ap (λ (stats : List (List ℕ)). bytes_answer (Some (concat (fitting most stats)))) (stats_seen rows row.number after)

written_seen : (rows : Rows) (row : Row) (at : ℕ) (bytes : List ℕ) (now : ℕ) → seen (write_step (wrapped rows) (wrapped_row row) at bytes now) ≡ seen (write_step rows row at bytes now)
written_seen rows row at bytes now =
    either (length bytes == 0) (stepped (wrapped rows) (says (count 0))) (stepped rows (says (count 0)))
    (option_map_or (λ content. stepped (set_row (wrapped rows) (with_content (wrapped_row row) content now)) (says (count (length bytes)))) (written row.content at bytes) (stepped (wrapped rows) (refuses refusals.Damaged)))
    (option_map_or (λ content. stepped (set_row rows (with_content row content now)) (says (count (length bytes)))) (written row.content at bytes) (stepped rows (refuses refusals.Damaged)))
    (stays rows (says (count 0)) (says (count 0)) refl)
    (with_some (λ content. stepped (set_row (wrapped rows) (with_content (wrapped_row row) content now)) (says (count (length bytes)))) (λ content. stepped (set_row rows (with_content row content now)) (says (count (length bytes))))
    (stepped (wrapped rows) (refuses refusals.Damaged)) (stepped rows (refuses refusals.Damaged)) (written row.content at bytes)
    (λ content. ap (λ (after : Rows). stepped after (says (count (length bytes)))) (set rows (with_content (wrapped_row row) content now) (with_content row content now) (changed_seen row content now)))
    (refused rows refusals.Damaged))

-- ---- changes of attributes

-- a row is set, and all is done
done_seen : (rows : Rows) (new new' : Row) → wrapped_row new ≡ wrapped_row new' → seen (stepped (set_row (wrapped rows) new) (says done)) ≡ seen (stepped (set_row rows new') (says done))
done_seen rows new new' same = ap (λ (after : Rows). stepped after (says done)) (set rows new new' same)

renamed_by : (rows : Rows) (row : Row) (c : PlainChange) (name : List ℕ) (now : ℕ) (b held : Bool)
    → seen (cond b (stepped (wrapped rows) (refuses refusals.FileExists)) (cond held (stepped (wrapped rows) (refuses refusals.Foreign))
    (stepped (set_row (change_dir (wrapped rows) row.parent now) (with_mtime c (record (wrapped_row row) { name = name }))) (says done))))
    ≡ seen (cond b (stepped rows (refuses refusals.FileExists)) (cond held (stepped rows (refuses refusals.Foreign))
    (stepped (set_row (change_dir rows row.parent now) (with_mtime c (record row { name = name }))) (says done))))
renamed_by rows row c name now true held = refused rows refusals.FileExists
renamed_by rows row c name now false true = refused rows refusals.Foreign
renamed_by rows row c name now false false =
    ap (λ (after : Rows). stepped after (says done))
    (set_seen (change_dir (wrapped rows) row.parent now) (change_dir rows row.parent now) (with_mtime c (record (wrapped_row row) { name = name })) (with_mtime c (record row { name = name }))
    (change_seen (wrapped rows) rows row.parent now (wrapped_twice rows))
    (dated_seen (record (wrapped_row row) { name = name }) (record row { name = name }) c (named_seen row name)))

renamed : (rows : Rows) (row : Row) (c : PlainChange) (name : Result (List ℕ) NameFault) (now : ℕ) → seen (rename_step (wrapped rows) (wrapped_row row) c name now) ≡ seen (rename_step rows row c name now)
renamed rows row c (Err fault) now = refused rows (name_refusal fault)
renamed rows row c (Ok name) now =
    ap
    (λ (b : Bool). seen (cond b (stepped (wrapped rows) (refuses refusals.FileExists)) (cond (is_held rows row) (stepped (wrapped rows) (refuses refusals.Foreign))
    (stepped (set_row (change_dir (wrapped rows) row.parent now) (with_mtime c (record (wrapped_row row) { name = name }))) (says done)))))
    (child_seen rows row.parent name)
    ∙ renamed_by rows row c name now (is_some (child_of rows row.parent name)) (is_held rows row)

resized_by : (rows : Rows) (row : Row) (c : PlainChange) (now : ℕ) (refusal : Option Refusal) (o : Option Content)
    → seen (option_map_or (λ refusal. stepped (wrapped rows) (refuses refusal)) refusal
    (option_map_or (λ content. stepped (set_row (wrapped rows) (with_mtime c (with_content (wrapped_row row) content now))) (says done)) o (stepped (wrapped rows) (refuses refusals.Damaged))))
    ≡ seen (option_map_or (λ refusal. stepped rows (refuses refusal)) refusal
    (option_map_or (λ content. stepped (set_row rows (with_mtime c (with_content row content now))) (says done)) o (stepped rows (refuses refusals.Damaged))))
resized_by rows row c now (Some refusal) o = refused rows refusal
resized_by rows row c now None None = refused rows refusals.Damaged
resized_by rows row c now None (Some content) =
    done_seen rows (with_mtime c (with_content (wrapped_row row) content now)) (with_mtime c (with_content row content now))
    (dated_seen (with_content (wrapped_row row) content now) (with_content row content now) c (changed_seen row content now))

placed : (rows : Rows) (row : Row) (c : PlainChange) (name : Option (List ℕ)) (n : Option ℕ) (now : ℕ) → seen (place_step (wrapped rows) (wrapped_row row) c name n now) ≡ seen (place_step rows row c name n now)
placed rows row c None None now = done_seen rows (with_mtime c (wrapped_row row)) (with_mtime c row) (dated_seen (wrapped_row row) row c (row_twice row))
placed rows row c None (Some n) now = resized_by rows row c now (length_refusal row.kind row.content n) (resized row.content n)
placed rows row c (Some name) None now =
    either (row.number == root) (stepped (wrapped rows) (refuses refusals.NotPermitted)) (stepped rows (refuses refusals.NotPermitted))
    (rename_step (wrapped rows) (wrapped_row row) c (clear_name name) now) (rename_step rows row c (clear_name name) now)
    (refused rows refusals.NotPermitted) (renamed rows row c (clear_name name) now)
placed rows row c (Some name) (Some n) now = refused rows refusals.OneChangeAtATime

-- ---- the step

work_seen : (rows : Rows) (row : Row) (request : PlainRequest) (now : ℕ) → seen (work (wrapped rows) (wrapped_row row) request now) ≡ seen (work rows row request now)
work_seen rows row (look n) now = stays rows (says (qid (qid_of (wrapped_row row)))) (says (qid (qid_of row))) (ap (λ (q : Qid). says (qid q)) (qid_seen row))
work_seen rows row (walk n names) now =
    stays rows (walk_answer (walk_from (wrapped rows) (wrapped_row row) names)) (walk_answer (walk_from rows row names)) (ap walk_answer (walk_seen rows row names))
work_seen rows row (open_node n mode) now = opened rows row mode now
work_seen rows row (create n name is_dir mode) now = made rows row (clear_name name) is_dir now
work_seen rows row (read n at most) now = stays rows (bytes_answer (slice_of row.content at most)) (bytes_answer (slice_of row.content at most)) refl
work_seen rows row (list n after most) now = stays rows (list_answer (wrapped rows) (wrapped_row row) after most) (list_answer rows row after most) (listed rows row after most)
work_seen rows row (write n at bytes) now = written_seen rows row at bytes now
work_seen rows row (remove n) now = ap (λ (after : Rows). stepped after (says done)) (less_seen (wrapped rows) rows row now (wrapped_twice rows))
work_seen rows row (stat_of n) now =
    ap₂ stepped (wrapped_twice rows) (ap (λ (s : PlainStat). record { reply = stat (length (spelled_stat s)); bytes = spelled_stat s }) (stat_seen row))
work_seen rows row (change n c) now = placed rows row c (new_name row c) (new_length row c) now
work_seen rows row (sync n) now = stays rows (says done) (says done) refl

work_at : (rows : Rows) (request : PlainRequest) (now : ℕ) (refusal : Option Refusal) (o : Option Row)
    → seen (option_map_or (λ refusal. stepped (wrapped rows) (refuses refusal)) refusal
    (option_map_or (λ row. work (wrapped rows) row request now) (option_map wrapped_row o) (stepped (wrapped rows) (refuses refusals.Removed))))
    ≡ seen (option_map_or (λ refusal. stepped rows (refuses refusal)) refusal
    (option_map_or (λ row. work rows row request now) o (stepped rows (refuses refusals.Removed))))
work_at rows request now (Some refusal) o = refused rows refusal
work_at rows request now None None = refused rows refusals.Removed
work_at rows request now None (Some row) = work_seen rows row request now

step_wrapped : (rows : Rows) (request : PlainRequest) (now : ℕ) → seen (step (wrapped rows) request now) ≡ seen (step rows request now)
unfolding step
step_wrapped rows request now =
    ap₂
    (λ (refusal : Option Refusal) (o : Option Row). seen (option_map_or (λ refusal. stepped (wrapped rows) (refuses refusal)) refusal
    (option_map_or (λ row. work (wrapped rows) row request now) o (stepped (wrapped rows) (refuses refusals.Removed)))))
    (early_wrapped rows request) (row_seen rows (node_of request))
    ∙ work_at rows request now (early_refusal rows request) (row_of rows (node_of request))

step_seen : (a b : Rows) (request : PlainRequest) (now : ℕ) → wrapped a ≡ wrapped b → seen (step a request now) ≡ seen (step b request now)
step_seen a b request now same =
    sym (step_wrapped a request now) ∙ ap (λ (rows : Rows). seen (step rows request now)) same ∙ step_wrapped b request now

pub steps_are_same : StepsAreSame
steps_are_same a b request now same = record {
  answer = ap (λ (s : Stepped). s.answer) (step_seen a b request now same);
  rows = ap (λ (s : Stepped). s.rows) (step_seen a b request now same);
}
