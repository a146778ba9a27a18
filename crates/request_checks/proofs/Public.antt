-- Decisions on the changes of a tree's nodes.
use Rattle.std.proofs.Common.{◌≡◌, ℕ, true, Some, None, Result, Ok, Err, IfOk, IfErr, sym, ap, ◌∙◌, subst}
use Rattle.tree_model.specs.declared.refusal.Refusal.{Refusal}
use Rattle.tree_model.specs.declared.refusal.Refusal.TheVariants as refusals
use Rattle.tree_model.specs.Rows.{Content}
use Rattle.tree_model.specs.Asked.{PlainChange, change}
use Rattle.tree_model.specs.Step.{Stepped, early}
use Rattle.tree_model.proofs.Steps.{step_at, step_removed}
use Rattle.live_tree.specs.Held.{HeldNode, HeldTree, live_row, live_rows, node_of}
use Rattle.tree_answers.specs.Answers.{is_own}
use Rattle.request_checks.specs.Plans.{CanResize, HaveSizes, IsPlanned, IsRefused}
use Rattle.request_checks.specs.Deciding.{plan_of}
use Rattle.request_checks.specs.declared.planning.Plan.{Plan}
use Rattle.request_checks.proofs.Rows.{early_by, row_absent, row_there, tells_by}
use Rattle.request_checks.proofs.Deciding.{Decides, decides}
use Rattle.request_checks.proofs.Owned.{IsOwned, owned}
use Rattle.request_checks.proofs.Files.{GivesResizable, gives_resizable}

answer_of : {a b : Stepped} → a ≡ b → a.answer ≡ b.answer
answer_of is = ap (λ (s : Stepped). s.answer) is

-- a number without a node is removed
pub removed : (live : HeldTree) (number : ℕ) (c : PlainChange) → node_of live number ≡ None → IsRefused live number c refusals.Removed
removed live number c none contents have second =
    answer_of (step_removed (live_rows contents live) (change number c) second (row_absent contents live number none))

module _ (live : HeldTree) (number : ℕ) (c : PlainChange) (node : HeldNode) (there : node_of live number ≡ Some node) where
  decided : (contents : ℕ → Content) → HaveSizes live contents → (decision : Result Plan Refusal) → decision ≡ plan_of number node c
      → Decides number (live_rows contents live) (live_row contents (number, node)) c (early (live_rows contents live) (live_row contents (number, node)) (change number c)) decision
  decided contents have decision is =
      subst (λ (d : Result Plan Refusal). Decides number (live_rows contents live) (live_row contents (number, node)) c (early (live_rows contents live) (live_row contents (number, node)) (change number c)) d) (sym is)
      (decides contents number node (live_rows contents live) c (tells_by contents live number node have there))

  pub planned : (plan : Plan) → Ok plan ≡ plan_of number node c → IsPlanned live number c plan
  planned plan is contents have =
      let fits = decided contents have (Ok plan) is in
      let found = row_there contents live number node there in
      record {
        row = live_row contents (number, node);
        there = found;
        early = early_by (live_rows contents live) (change number c) (Some (live_row contents (number, node))) found ∙ fits.0;
        fits = fits.1;
      }

  pub refused : (refusal : Refusal) → Err refusal ≡ plan_of number node c → IsRefused live number c refusal
  refused refusal is contents have second =
      answer_of (step_at (live_rows contents live) (change number c) second (live_row contents (number, node)) (row_there contents live number node there))
      ∙ decided contents have (Err refusal) is second

  -- ---- of what was decided, unless memory ran out

  pub all_planned : {E : Type 0} (result : Result (Result Plan Refusal) E) → IfOk result (λ decision. decision ≡ plan_of number node c)
      → IfOk result (λ decision. IfOk decision (IsPlanned live number c))
  all_planned (Ok (Ok plan)) is = planned plan is
  all_planned (Ok (Err refusal)) is = tt
  all_planned (Err e) is = tt

  pub all_refused : {E : Type 0} (result : Result (Result Plan Refusal) E) → IfOk result (λ decision. decision ≡ plan_of number node c)
      → IfOk result (λ decision. IfErr decision (IsRefused live number c))
  all_refused (Ok (Ok plan)) is = tt
  all_refused (Ok (Err refusal)) is = refused refusal is
  all_refused (Err e) is = tt

  pub all_owned : {E : Type 0} (result : Result (Result Plan Refusal) E) → IfOk result (λ decision. decision ≡ plan_of number node c)
      → IfOk result (λ decision. IfErr decision (λ refusal. is_own refusal ≡ true))
  all_owned (Ok decision) is = subst IsOwned (sym is) (owned number node c)
  all_owned (Err e) is = tt

  pub all_resizable : {E : Type 0} (result : Result (Result Plan Refusal) E) → IfOk result (λ decision. decision ≡ plan_of number node c)
      → IfOk result (λ decision. IfOk decision (CanResize live number))
  all_resizable (Ok decision) is = subst (GivesResizable live number) (sym is) (gives_resizable live number node there c)
  all_resizable (Err e) is = tt
