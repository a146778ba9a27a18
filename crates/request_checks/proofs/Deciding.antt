-- What is decided by what is held of a node is what the step says of its row.
use Rattle.std.proofs.Common.{◌≡◌, ℕ, suc, zero, ◌+◌, ◌-◌, ◌==◌, ◌&&◌, Bool, true, false, cond, nat_lt, List, Option, Some, None, Result, Ok, Err, refl, sym, ap, ap₂, ◌∙◌, subst, arith}
use Rattle.std.proofs.lemmas.Bool.{eqb-false}
use Rattle.std.proofs.lemmas.Bool.Decides.{nat_tests}
use Rattle.std.proofs.Math.Bool.{or-true}
use Rattle.std.specs.Option.{option_map_or}
use Rattle.std.specs.Str.{bytes_eq}
use Rattle.nfc_text.specs.Nfc.{nfc_of}
use Rattle.tree_model.specs.declared.refusal.Refusal.{Refusal}
use Rattle.tree_model.specs.declared.refusal.Refusal.TheVariants as refusals
use Rattle.tree_model.specs.Names.{NameFault, clear_name}
use Rattle.tree_model.specs.Rows.{Content, Row, Rows, content_length, length_of, root}
use Rattle.tree_model.specs.Asked.{PlainChange}
use Rattle.tree_model.specs.Step.{Stepped, stepped, refuses, change_refusal, change_step, file_limit, gap_limit, growth_refusal, is_bad, is_bad_size as is_bad_content, create_refusal, length_refusal, new_length, new_name, open_refusal, place_refusal, place_step, raw_name_refusal, rename_step, resize_step, touches_fixed, truncates, write_refusal, writes}
use Rattle.clear_tree.specs.Kept.{What, KeptFile, KeptLink, KeptDir, KeptBad, kind_of, content_of, size_in}
use Rattle.live_tree.specs.Held.{HeldNode, live_row}
use Rattle.file_chunks.specs.File.{is_bad_size}
use Rattle.tree_answers.specs.Answers.{length_by, shown_length}
use Rattle.request_checks.specs.declared.planning.Plan.{Plan}
use Rattle.request_checks.specs.declared.planning.Plan.TheVariants.{Resize, Date}
use Rattle.request_checks.specs.Plans.{IsPlan}
use Rattle.request_checks.specs.Deciding.{bare_row, creation_fault, growth_fault, has_name, inner_plan, length_fault, named_plan, other_length, place_plan, plan_of, plan_or, name_or_refusal, resize_plan, root_plan, write_fault}

-- ---- lengths

-- a content is what the size of its host file gives
pub record TellsSize (content : Content) (size : ℕ) : Type 0 where
  pub long : content_length content ≡ length_by size
  pub bad : is_bad_content content ≡ is_bad_size size

pub length_is : (what : What) (content : Content) → ((size : ℕ) → size_in what ≡ Some size → TellsSize content size) → length_of (kind_of what) (content_of what content) ≡ shown_length what
length_is (KeptFile size) content tells = (tells size refl).long
length_is (KeptLink size) content tells = (tells size refl).long
length_is (KeptDir identifier folder) content tells = refl
length_is (KeptBad text) content tells = refl

growth_is : (content : Content) (size at end : ℕ) → TellsSize content size → growth_refusal content at end ≡ growth_fault size at end
growth_is content size at end tells =
    ap₂
    (λ (bad : Bool) (length : ℕ). cond bad (Some refusals.Damaged) (cond (nat_lt file_limit end) (Some refusals.FileTooLarge) (cond (nat_lt gap_limit (at - length)) (Some refusals.GapTooLarge) None)))
    tells.bad tells.long

pub fault_is : (what : What) (content : Content) (n : ℕ) → ((size : ℕ) → size_in what ≡ Some size → TellsSize content size) → length_refusal (kind_of what) (content_of what content) n ≡ length_fault what n
fault_is (KeptFile size) content n tells = growth_is content size n n (tells size refl)
fault_is (KeptLink size) content n tells = refl
fault_is (KeptDir identifier folder) content n tells = refl
fault_is (KeptBad text) content n tells = refl

pub write_is : (what : What) (content : Content) (at len : ℕ) → ((size : ℕ) → size_in what ≡ Some size → TellsSize content size)
    → write_refusal (kind_of what) (content_of what content) at len ≡ write_fault what at len
write_is (KeptFile size) content at len tells = ap (cond (len == 0) None) (growth_is content size at (at + len) (tells size refl))
write_is (KeptLink size) content at len tells = refl
write_is (KeptDir identifier folder) content at len tells = refl
write_is (KeptBad text) content at len tells = refl

pub creation_is : (what : What) (name : List ℕ) → create_refusal (kind_of what) name ≡ creation_fault what name
creation_is (KeptFile size) name = refl
creation_is (KeptLink size) name = refl
creation_is (KeptDir identifier folder) name = refl
creation_is (KeptBad text) name = refl

-- no mode that truncates is 0
truncates-zero : (mode : ℕ) → truncates mode ≡ true → (mode == 0) ≡ false
truncates-zero zero is = absurd cc
truncates-zero (suc mode) is = grind (arith, nat_tests)

no_gap : (length : ℕ) → nat_lt gap_limit (0 - length) ≡ false
no_gap length = grind (arith, nat_tests)

-- a truncation is refused as the length 0 is
pub truncation_is : (what : What) (content : Content) (mode : ℕ) → truncates mode ≡ true → ((size : ℕ) → size_in what ≡ Some size → TellsSize content size)
    → open_refusal (kind_of what) (content_of what content) mode ≡ length_fault what 0
truncation_is (KeptFile size) content mode is tells =
    ap₂ (λ (truncates bad : Bool). cond (truncates && bad) (Some refusals.Damaged) None) is (tells size refl).bad
    ∙ sym (ap (λ (far : Bool). cond (is_bad_size size) (Some refusals.Damaged) (cond far (Some refusals.GapTooLarge) None)) (no_gap (length_by size)))
truncation_is (KeptLink size) content mode is tells = rw (is, or-true (writes mode)) refl
truncation_is (KeptDir identifier folder) content mode is tells = rw (truncates-zero mode is) refl
truncation_is (KeptBad text) content mode is tells = refl

-- ---- what a change of a row leads to

abbrev after : Rows → Option Refusal → Stepped → Stepped
after rows early work = option_map_or (λ refusal. stepped rows (refuses refusal)) early work

-- a decision on a change is the step's, by what refuses the change early
abbrev pub Decides : ℕ → Rows → Row → PlainChange → Option Refusal → Result Plan Refusal → Type 0
Decides number rows row c early (Ok plan) = (early ≡ None) × IsPlan number row c plan
Decides number rows row c early (Err refusal) = (second : ℕ) → (option_map_or (λ refusal. stepped rows (refuses refusal)) early (change_step rows row c second)).answer ≡ refuses refusal

resize_refused : (rows : Rows) (row : Row) (c : PlainChange) (n second : ℕ) (refusal : Refusal) → length_refusal row.kind row.content n ≡ Some refusal
    → (resize_step rows row c n second).answer ≡ refuses refusal
resize_refused rows row c n second refusal is = rw is refl

gate : (number : ℕ) (rows : Rows) (row : Row) (c : PlainChange) (bad fixed : Bool) (early : Option Refusal) (decision : Result Plan Refusal) → Decides number rows row c early decision
    → Decides number rows row c (cond bad (Some refusals.Damaged) (cond fixed (Some refusals.NotPermitted) early)) (cond bad (Err refusals.Damaged) (cond fixed (Err refusals.NotPermitted) decision))
gate number rows row c true fixed early decision is = λ second. refl
gate number rows row c false true early decision is = λ second. refl
gate number rows row c false false early decision is = is

module _ (contents : ℕ → Content) (number : ℕ) (node : HeldNode) (rows : Rows) (c : PlainChange) (tells : (size : ℕ) → size_in node.kept.what ≡ Some size → TellsSize (contents number) size) where
  abbrev row : Row
  row = live_row contents (number, node)

  unnamed : c.name ≡ None → new_name row c ≡ None
  unnamed is = ap (λ (o : Option (List ℕ)). option_map_or (λ name. cond (bytes_eq (nfc_of name) node.kept.name) None (Some name)) o None) is

  named_by : (name : List ℕ) (has : Bool) → c.name ≡ Some name → has_name node name ≡ has → new_name row c ≡ cond has None (Some name)
  named_by name has is same =
      ap (λ (o : Option (List ℕ)). option_map_or (λ name. cond (bytes_eq (nfc_of name) node.kept.name) None (Some name)) o None) is
      ∙ ap (λ (b : Bool). cond b None (Some name)) same

  step_by : (second : ℕ) (name : Option (List ℕ)) (long : Option ℕ) → new_name row c ≡ name → new_length row c ≡ long
      → (change_step rows row c second).answer ≡ (place_step rows row c name long second).answer
  step_by second name long named is = ap₂ (λ (o : Option (List ℕ)) (l : Option ℕ). (place_step rows row c o l second).answer) named is

  dates : new_name row c ≡ None → new_length row c ≡ None → Decides number rows row c None (Ok Date)
  dates named long = (refl, record { named = named; long = long })

  -- a new length if no name is given
  resizes_alone : (n : ℕ) (fault : Option Refusal) → length_fault node.kept.what n ≡ fault → new_name row c ≡ None → new_length row c ≡ Some n
      → Decides number rows row c (length_refusal row.kind row.content n) (plan_or fault (Ok (Resize n)))
  resizes_alone n None is named long =
      let allowed : length_refusal row.kind row.content n ≡ None = fault_is node.kept.what (contents number) n tells ∙ is in
      (allowed, record { named = named; long = long; allowed = allowed })
  resizes_alone n (Some refusal) is named long = λ second.
      ap (λ (o : Option Refusal). (after rows o (change_step rows row c second)).answer) (fault_is node.kept.what (contents number) n tells ∙ is)

  -- if the node's own name is given too
  resizes_too : (n : ℕ) (fault : Option Refusal) → length_fault node.kept.what n ≡ fault → new_name row c ≡ None → new_length row c ≡ Some n
      → Decides number rows row c None (plan_or fault (Ok (Resize n)))
  resizes_too n None is named long =
      (refl, record { named = named; long = long; allowed = fault_is node.kept.what (contents number) n tells ∙ is })
  resizes_too n (Some refusal) is named long = λ second.
      step_by second None (Some n) named long ∙ resize_refused rows row c n second refusal (fault_is node.kept.what (contents number) n tells ∙ is)

  resizes_named : (name : List ℕ) (n : ℕ) (has : Bool) → has_name node name ≡ has → c.name ≡ Some name → new_length row c ≡ Some n
      → Decides number rows row c None (cond has (resize_plan node.kept.what n) (Err refusals.OneChangeAtATime))
  resizes_named name n true same is long = resizes_too n (length_fault node.kept.what n) refl (named_by name true is same) long
  resizes_named name n false same is long = λ second. step_by second (Some name) (Some n) (named_by name false is same) long

  renames_root : (name : List ℕ) (has : Bool) → has_name node name ≡ has → c.name ≡ Some name → new_length row c ≡ None → (number == root) ≡ true
      → Decides number rows row c None (cond has (Ok Date) (Err refusals.NotPermitted))
  renames_root name true same is long at = dates (named_by name true is same) long
  renames_root name false same is long at = λ second.
      step_by second (Some name) None (named_by name false is same) long
      ∙ ap (λ (b : Bool). (cond b (stepped rows (refuses refusals.NotPermitted)) (rename_step rows row c (clear_name name) second)).answer) at

  renames_to : (name : List ℕ) (clear : Result (List ℕ) NameFault) → clear_name name ≡ clear → new_name row c ≡ Some name → new_length row c ≡ None → (number == root) ≡ false
      → Decides number rows row c None (named_plan (name_or_refusal clear))
  renames_to name (Ok clear) is named long at =
      (refl, record { below = eqb-false number root at; asked = name; named = named; clear = is; long = long })
  renames_to name (Err fault) is named long at = λ second.
      step_by second (Some name) None named long
      ∙ ap (λ (b : Bool). (cond b (stepped rows (refuses refusals.NotPermitted)) (rename_step rows row c (clear_name name) second)).answer) at
      ∙ ap (λ (r : Result (List ℕ) NameFault). (rename_step rows row c r second).answer) is

  renames_inner : (name : List ℕ) (raw : Option Refusal) (has : Bool) → has_name node name ≡ has → c.name ≡ Some name → new_length row c ≡ None → (number == root) ≡ false
      → Decides number rows row c raw (plan_or raw (cond has (Ok Date) (named_plan (name_or_refusal (clear_name name)))))
  renames_inner name (Some refusal) has same is long at = λ second. refl
  renames_inner name None true same is long at = dates (named_by name true is same) long
  renames_inner name None false same is long at = renames_to name (clear_name name) refl (named_by name false is same) long at

  renames : (name : List ℕ) (at : Bool) → (number == root) ≡ at → c.name ≡ Some name → new_length row c ≡ None
      → Decides number rows row c (cond at None (raw_name_refusal name)) (cond at (root_plan node name) (inner_plan node name))
  renames name true at is long = renames_root name (has_name node name) refl is long at
  renames name false at is long = renames_inner name (raw_name_refusal name) (has_name node name) refl is long at

  places : (name : Option (List ℕ)) (long : Option ℕ) → c.name ≡ name → new_length row c ≡ long → Decides number rows row c (place_refusal row name long) (place_plan number node name long)
  places None None is long = dates (unnamed is) long
  places None (Some n) is long = resizes_alone n (length_fault node.kept.what n) refl (unnamed is) long
  places (Some name) None is long = renames name (number == root) refl is long
  places (Some name) (Some n) is long = resizes_named name n (has_name node name) refl is long

  -- the decision on a change of a node is the step's
  pub decides : Decides number rows row c (change_refusal row c) (plan_of number node c)
  decides =
      let long : new_length row c ≡ other_length (shown_length node.kept.what) c.length = ap (λ (k : ℕ). other_length k c.length) (length_is node.kept.what (contents number) tells) in
      gate number rows row c (is_bad (kind_of node.kept.what)) (touches_fixed (bare_row number node) c) (place_refusal row c.name (new_length row c))
      (place_plan number node c.name (other_length (shown_length node.kept.what) c.length))
      (subst (λ (l : Option ℕ). Decides number rows row c (place_refusal row c.name l) (place_plan number node c.name (other_length (shown_length node.kept.what) c.length))) (sym long)
      (places c.name (other_length (shown_length node.kept.what) c.length) refl long))
