-- What a decision refuses is the tree's own.
use Rattle.std.proofs.Common.{◌≡◌, ℕ, ◌-◌, ◌==◌, Bool, true, false, cond, nat_lt, List, Option, Some, None, IfSome, Result, Ok, Err, IfErr, refl}
use Rattle.std.specs.Option.{option_map}
use Rattle.std.specs.Str.{is_utf8}
use Rattle.tree_model.specs.declared.refusal.Refusal.{Refusal}
use Rattle.tree_model.specs.declared.refusal.Refusal.TheVariants as refusals
use Rattle.tree_model.specs.Names.{NameFault, not_utf8, empty, dots, forbidden, too_long, form_fault, clear_name}
use Rattle.tree_model.specs.Rows.{root}
use Rattle.tree_model.specs.Asked.{PlainChange}
use Rattle.tree_model.specs.Step.{file_limit, gap_limit, is_bad, name_refusal, raw_name_refusal, touches_fixed}
use Rattle.clear_tree.specs.Kept.{What, KeptFile, KeptLink, KeptDir, KeptBad, kind_of}
use Rattle.live_tree.specs.Held.{HeldNode}
use Rattle.file_chunks.specs.File.{is_bad_size}
use Rattle.tree_answers.specs.Answers.{is_own, length_by, shown_length}
use Rattle.request_checks.specs.declared.planning.Plan.{Plan}
use Rattle.request_checks.specs.declared.planning.Plan.TheVariants.{Resize, Date}
use Rattle.request_checks.specs.Deciding.{bare_row, has_name, inner_plan, length_fault, named_plan, other_length, place_plan, plan_of, plan_or, name_or_refusal, resize_plan, root_plan}

abbrev OwnFault : Option Refusal → Type 0
OwnFault fault = IfSome fault (λ refusal. is_own refusal ≡ true)

abbrev pub IsOwned : Result Plan Refusal → Type 0
IsOwned decision = IfErr decision (λ refusal. is_own refusal ≡ true)

own_name : (fault : NameFault) → is_own (name_refusal fault) ≡ true
own_name not_utf8 = refl
own_name empty = refl
own_name dots = refl
own_name forbidden = refl
own_name (too_long n) = refl

own_raw : (text : Bool) (fault : Option NameFault) → OwnFault (cond text (option_map name_refusal fault) (Some refusals.BadName))
own_raw false fault = refl
own_raw true None = tt
own_raw true (Some fault) = own_name fault

own_growth : (bad large far : Bool) → OwnFault (cond bad (Some refusals.Damaged) (cond large (Some refusals.FileTooLarge) (cond far (Some refusals.GapTooLarge) None)))
own_growth true large far = refl
own_growth false true far = refl
own_growth false false true = refl
own_growth false false false = tt

own_length : (what : What) (n : ℕ) → OwnFault (length_fault what n)
own_length (KeptFile size) n = own_growth (is_bad_size size) (nat_lt file_limit n) (nat_lt gap_limit (n - length_by size))
own_length (KeptLink size) n = refl
own_length (KeptDir identifier folder) n = refl
own_length (KeptBad text) n = refl

own_or : (fault : Option Refusal) (decision : Result Plan Refusal) → OwnFault fault → IsOwned decision → IsOwned (plan_or fault decision)
own_or None decision own owned = owned
own_or (Some refusal) decision own owned = own

own_if : (b : Bool) (first other : Result Plan Refusal) → IsOwned first → IsOwned other → IsOwned (cond b first other)
own_if true first other a b = a
own_if false first other a b = b

own_named : (clear : Result (List ℕ) NameFault) → IsOwned (named_plan (name_or_refusal clear))
own_named (Ok name) = tt
own_named (Err fault) = own_name fault

own_resize : (what : What) (n : ℕ) → IsOwned (resize_plan what n)
own_resize what n = own_or (length_fault what n) (Ok (Resize n)) (own_length what n) tt

own_inner : (node : HeldNode) (name : List ℕ) → IsOwned (inner_plan node name)
own_inner node name =
    own_or (raw_name_refusal name) (cond (has_name node name) (Ok Date) (named_plan (name_or_refusal (clear_name name)))) (own_raw (is_utf8 name) (form_fault name))
    (own_if (has_name node name) (Ok Date) (named_plan (name_or_refusal (clear_name name))) tt (own_named (clear_name name)))

own_place : (number : ℕ) (node : HeldNode) (name : Option (List ℕ)) (long : Option ℕ) → IsOwned (place_plan number node name long)
own_place number node None None = tt
own_place number node None (Some n) = own_resize node.kept.what n
own_place number node (Some name) None =
    own_if (number == root) (root_plan node name) (inner_plan node name) (own_if (has_name node name) (Ok Date) (Err refusals.NotPermitted) tt refl) (own_inner node name)
own_place number node (Some name) (Some n) =
    own_if (has_name node name) (resize_plan node.kept.what n) (Err refusals.OneChangeAtATime) (own_resize node.kept.what n) refl

pub owned : (number : ℕ) (node : HeldNode) (c : PlainChange) → IsOwned (plan_of number node c)
owned number node c =
    let place = place_plan number node c.name (other_length (shown_length node.kept.what) c.length) in
    own_if (is_bad (kind_of node.kept.what)) (Err refusals.Damaged) (cond (touches_fixed (bare_row number node) c) (Err refusals.NotPermitted) place) refl
    (own_if (touches_fixed (bare_row number node) c) (Err refusals.NotPermitted) place refl (own_place number node c.name (other_length (shown_length node.kept.what) c.length)))
