-- Answers that are the step's.
use Rattle.std.proofs.Common.{◌≡◌, ◌<◌, ◌^◌, ℕ, ◌&&◌, ◌||◌, ◌*◌, ◌%◌, ◌/◌, Bool, true, false, cond, bit_and, not, nat_eq, eq-eqb, eqb-true, true≢false, Some, None, refl, sym, ap, ◌∙◌, arith, inl, inr}
use Rattle.std.proofs.lemmas.Bool.{ne_eqb, cases_lt, cases_Bool}
use Rattle.std.proofs.lemmas.Nat.Bits.{and_pow}
use Rattle.tree_model.specs.declared.refusal.Refusal.{Refusal}
use Rattle.tree_model.specs.declared.refusal.Refusal.TheVariants as refusals
use Rattle.tree_model.specs.declared.stat.Qid.{Qid}
use Rattle.tree_model.specs.Rows.{Content, qid_of}
use Rattle.tree_model.specs.Asked.{PlainRequest, look, open_node, sync, qid, done}
use Rattle.tree_model.specs.Step.{Stepped, stepped, says, refuses, open_refusal, is_bad_size, open_step, truncates, writes, node_of}
use Rattle.tree_model.proofs.Steps.{step_removed, step_worked, step_refused}
use Rattle.clear_tree.specs.Kept.{What, KeptFile, KeptLink, KeptDir, KeptBad, kind_of}
use Rattle.live_tree.specs.Held.{HeldNode, HeldTree, live_row, live_rows, node_of as node_in}
use Rattle.tree_answers.specs.Answers.{IsStepOf, open_fault, qid_in}
use Rattle.tree_answers.proofs.Rows.{row_there, row_absent, version_is}

pub answer_of : {a b : Stepped} → a ≡ b → a.answer ≡ b.answer
answer_of e = ap (λ (s : Stepped). s.answer) e

pub removed : (tree : HeldTree) (request : PlainRequest) → node_in tree (node_of request) ≡ None → IsStepOf tree request (refuses refusals.Removed)
removed tree request none contents second = sym (answer_of (step_removed (live_rows contents tree) request second (row_absent contents tree (node_of request) none)))

-- a qid as the step shows it
shown : (number : ℕ) (node : HeldNode) (q : Qid) → node.version < 2 ^ 32 → q ≡ qid_in number node → says (qid q) ≡ says (qid (record (qid_in number node) { version = node.version % 2 ^ 32 }))
shown number node q small is = ap (λ (q : Qid). says (qid q)) (is ∙ ap (λ (v : ℕ). record (qid_in number node) { version = v }) (sym (version_is node.version small)))

pub looked : (tree : HeldTree) (number : ℕ) (node : HeldNode) (q : Qid) → node_in tree number ≡ Some node → node.version < 2 ^ 32 → q ≡ qid_in number node → IsStepOf tree (look number) (says (qid q))
looked tree number node q there small is contents second =
    shown number node q small is
    ∙ sym (answer_of (step_worked (live_rows contents tree) (look number) second (live_row contents (number, node)) (row_there contents tree number node there) refl))

pub synced : (tree : HeldTree) (number : ℕ) (node : HeldNode) → node_in tree number ≡ Some node → IsStepOf tree (sync number) (says done)
synced tree number node there contents second =
    sym (answer_of (step_worked (live_rows contents tree) (sync number) second (live_row contents (number, node)) (row_there contents tree number node there) refl))

-- ---- opening

pub truncates_set : (mode : ℕ) → (bit_and mode 16 ≡ 0 → ⊥) → truncates mode ≡ true
truncates_set mode set =
    let bit : bit_and mode 16 ≡ mode / 16 % 2 * 16 = and_pow mode 4 in
    eq-eqb (mode / 16 % 2) 1 (elim (cases_lt (mode / 16 % 2) 1) [ inl low ↦ absurd (set (omega arith)) | inr high ↦ omega arith ])

pub truncates_clear : (mode : ℕ) → bit_and mode 16 ≡ 0 → truncates mode ≡ false
truncates_clear mode clear =
    let bit : bit_and mode 16 ≡ mode / 16 % 2 * 16 = and_pow mode 4 in
    ne_eqb (mode / 16 % 2) 1 (λ one. omega arith)

pub truncates_is : (mode : ℕ) → not (nat_eq (bit_and mode 16) 0) ≡ truncates mode
truncates_is mode = elim (cases_Bool (nat_eq (bit_and mode 16) 0)) [
  | inl zero ↦ ap not zero ∙ sym (truncates_clear mode (eqb-true (bit_and mode 16) 0 zero))
  | inr other ↦ ap not other ∙ sym (truncates_set mode (λ zero. true≢false (sym (eq-eqb (bit_and mode 16) 0 zero) ∙ other)))
]

or_false : (a b : Bool) → b ≡ false → (a || b) ≡ a
or_false true b e = refl
or_false false b e = e

open_early : (what : What) (content : Content) (mode : ℕ) → truncates mode ≡ false → open_refusal (kind_of what) content mode ≡ open_fault what mode
open_early (KeptFile size) content mode keeps = ap (λ (b : Bool). cond (b && is_bad_size content) (Some refusals.Damaged) None) keeps
open_early (KeptLink size) content mode keeps = ap (λ (b : Bool). cond b (Some refusals.NotPermitted) None) (or_false (writes mode) (truncates mode) keeps)
open_early (KeptDir identifier folder) content mode keeps = refl
open_early (KeptBad text) content mode keeps = refl

module _ (tree : HeldTree) (number mode : ℕ) (node : HeldNode) (there : node_in tree number ≡ Some node) (keeps : truncates mode ≡ false) where
  pub open_refused : (refusal : Refusal) → open_fault node.kept.what mode ≡ Some refusal → IsStepOf tree (open_node number mode) (refuses refusal)
  open_refused refusal fault contents second =
      sym (answer_of (step_refused (live_rows contents tree) (open_node number mode) second (live_row contents (number, node)) refusal (row_there contents tree number node there)
      (open_early node.kept.what (live_row contents (number, node)).content mode keeps ∙ fault)))

  pub opened : (q : Qid) → open_fault node.kept.what mode ≡ None → node.version < 2 ^ 32 → q ≡ qid_in number node → IsStepOf tree (open_node number mode) (says (qid q))
  opened q free small is contents second =
      shown number node q small is
      ∙ sym (ap (λ (b : Bool). (cond b (open_step (live_rows contents tree) (live_row contents (number, node)) 16 second) (stepped (live_rows contents tree) (says (qid (qid_of (live_row contents (number, node))))))).answer) keeps)
      ∙ sym (answer_of (step_worked (live_rows contents tree) (open_node number mode) second (live_row contents (number, node)) (row_there contents tree number node there)
      (open_early node.kept.what (live_row contents (number, node)).content mode keeps ∙ free)))
