-- A plan of another length is for a file that can have it.
use Rattle.std.proofs.Common.{◌≡◌, ℕ, ◌+◌, ◌-◌, ◌*◌, ◌≤◌, ◌==◌, Bool, true, false, cond, List, Option, Some, None, unwrap_or, Result, Ok, Err, IfOk, refl, arith}
use Rattle.std.proofs.lemmas.Bool.Decides.{nat_tests}
use Rattle.tree_model.specs.declared.refusal.Refusal.{Refusal}
use Rattle.tree_model.specs.declared.refusal.Refusal.TheVariants as refusals
use Rattle.tree_model.specs.Rows.{root}
use Rattle.tree_model.specs.Asked.{PlainChange}
use Rattle.tree_model.specs.Step.{file_limit, gap_limit, is_bad, raw_name_refusal, touches_fixed}
use Rattle.tree_model.specs.Names.{clear_name}
use Rattle.clear_tree.specs.Kept.{What, KeptFile, KeptLink, KeptDir, KeptBad, kind_of}
use Rattle.live_tree.specs.Held.{HeldNode, HeldTree, node_of}
use Rattle.file_chunks.specs.File.{chunk_count, is_bad_size}
use Rattle.file_chunks.specs.declared.size.TheConstants.{HEADER_LENGTH, SEALING_LENGTH}
use Rattle.tree_answers.specs.Answers.{length_by, shown_length}
use Rattle.request_checks.specs.declared.planning.Plan.{Plan}
use Rattle.request_checks.specs.declared.planning.Plan.TheVariants.{Resize, Date}
use Rattle.request_checks.specs.Files.{IsResizable}
use Rattle.request_checks.specs.Plans.{CanResize}
use Rattle.request_checks.specs.Deciding.{bare_row, growth_fault, has_name, inner_plan, length_fault, named_plan, name_or_refusal, other_length, place_plan, plan_of, plan_or, rename_plan, resize_plan, root_plan}

abbrev pub GivesResizable : HeldTree → ℕ → Result Plan Refusal → Type 0
GivesResizable live number decision = IfOk decision (CanResize live number)

-- what nothing refuses has room
record HasRoom (size at end : ℕ) : Type 0 where
  good : is_bad_size size ≡ false
  gap : at ≤ length_by size + gap_limit
  limit : end ≤ file_limit

has_room : (size at end : ℕ) → growth_fault size at end ≡ None → HasRoom size at end
has_room size at end none = grind (arith, nat_tests)

sized_by : (bad : Bool) (length : ℕ) → bad ≡ false → cond bad None (Some length) ≡ Some (unwrap_or (cond bad None (Some length)) 0)
sized_by true length is = absurd cc
sized_by false length is = refl

-- ---- of decisions

gives_or : (live : HeldTree) (number : ℕ) (fault : Option Refusal) (decision : Result Plan Refusal) → (fault ≡ None → GivesResizable live number decision) → GivesResizable live number (plan_or fault decision)
gives_or live number None decision gives = gives refl
gives_or live number (Some refusal) decision gives = tt

gives_if : (live : HeldTree) (number : ℕ) (b : Bool) (first other : Result Plan Refusal) → GivesResizable live number first → GivesResizable live number other → GivesResizable live number (cond b first other)
gives_if live number true first other a b = a
gives_if live number false first other a b = b

gives_named : (live : HeldTree) (number : ℕ) (name : Result (List ℕ) Refusal) → GivesResizable live number (named_plan name)
gives_named live number (Ok name) = tt
gives_named live number (Err refusal) = tt

gives_renamed : (live : HeldTree) (number : ℕ) (node : HeldNode) (name : List ℕ) → GivesResizable live number (rename_plan number node name)
gives_renamed live number node name =
    let named = named_plan (name_or_refusal (clear_name name)) in
    gives_if live number (number == root) (root_plan node name) (inner_plan node name)
    (gives_if live number (has_name node name) (Ok Date) (Err refusals.NotPermitted) tt tt)
    (gives_or live number (raw_name_refusal name) (cond (has_name node name) (Ok Date) named)
    (λ none. gives_if live number (has_name node name) (Ok Date) named tt (gives_named live number (name_or_refusal (clear_name name)))))

module _ (live : HeldTree) (number : ℕ) (node : HeldNode) (there : node_of live number ≡ Some node) where
  resizable : (what : What) (n : ℕ) → node.kept.what ≡ what → length_fault what n ≡ None → IsResizable live number n
  resizable (KeptFile size) n file none =
      let room = has_room size n n none in
      record {
        size = size;
        clear = length_by size;
        is = record { held = node; there = there; file = file; sized = sized_by (is_bad_size size) (size - HEADER_LENGTH - SEALING_LENGTH * chunk_count size) room.good };
        gap = room.gap;
        limit = room.limit;
      }
  resizable (KeptLink size) n file none = absurd cc
  resizable (KeptDir identifier folder) n file none = absurd cc
  resizable (KeptBad text) n file none = absurd cc

  gives_resized : (n : ℕ) → GivesResizable live number (resize_plan node.kept.what n)
  gives_resized n = gives_or live number (length_fault node.kept.what n) (Ok (Resize n)) (resizable node.kept.what n refl)

  gives_placed : (name : Option (List ℕ)) (long : Option ℕ) → GivesResizable live number (place_plan number node name long)
  gives_placed None None = tt
  gives_placed None (Some n) = gives_resized n
  gives_placed (Some name) None = gives_renamed live number node name
  gives_placed (Some name) (Some n) = gives_if live number (has_name node name) (resize_plan node.kept.what n) (Err refusals.OneChangeAtATime) (gives_resized n) tt

  pub gives_resizable : (c : PlainChange) → GivesResizable live number (plan_of number node c)
  gives_resizable c =
      let place = place_plan number node c.name (other_length (shown_length node.kept.what) c.length) in
      gives_if live number (is_bad (kind_of node.kept.what)) (Err refusals.Damaged) (cond (touches_fixed (bare_row number node) c) (Err refusals.NotPermitted) place) tt
      (gives_if live number (touches_fixed (bare_row number node) c) (Err refusals.NotPermitted) place tt (gives_placed c.name (other_length (shown_length node.kept.what) c.length)))
