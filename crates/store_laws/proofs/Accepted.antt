-- If the step refuses neither a new node nor another name, no node of the directory has that name.
use Rattle.std.proofs.Common.{◌≡◌, ◌≢◌, ℕ, Bool, true, false, cond, List, Option, Some, None, Ok, is_some, bytes_eq, refl, sym, ap, ◌∙◌, true≢false}
use Rattle.std.specs.Option.{option_map_or}
use Rattle.nfc_text.specs.Nfc.{nfc_of}
use Rattle.tree_model.specs.declared.refusal.Refusal.{Refusal}
use Rattle.tree_model.specs.declared.refusal.Refusal.TheVariants as refusals
use Rattle.tree_model.specs.Names.{clear_name}
use Rattle.tree_model.specs.Rows.{Content, Row, Rows, is_dir, root, row_of}
use Rattle.tree_model.specs.Asked.{PlainChange, change, create}
use Rattle.tree_model.specs.Step.{Answer, Stepped, early, new_length, new_name, place_step, refuses, step}
use Rattle.tree_model.proofs.Steps.{step_refused, step_worked}
use Rattle.tree_model.specs.History.{is_refusal, places}
use Rattle.clear_tree.specs.Kept.{kind_of}
use Rattle.live_tree.specs.Held.{HeldNode, HeldTree, node_of, live_row, live_rows, IsFree, IsTree}
use Rattle.live_tree_laws.proofs.Numbers.{nodes_have_rows}
use Rattle.node_changes.specs.Renaming.{IsRenamingIn}
use Rattle.node_changes.proofs.Naming.{at_root, named_already}
use Rattle.node_changes.proofs.Sites.{exists_refused}

-- an answer that isn't refused is none of the refusals
not_refused : (a : Answer) (refusal : Refusal) → is_refusal a.reply ≡ false → a ≡ refuses refusal → ⊥
not_refused a refusal accepted is = true≢false (sym (ap (λ (x : Answer). is_refusal x.reply) is) ∙ accepted)

module _ (live : HeldTree) (contents : ℕ → Content) (tree : IsTree live) (number second : ℕ) (held : HeldNode) (there : node_of live number ≡ Some held) where
  abbrev its : Rows
  its = live_rows contents live

  pub free_to_create : (name n : List ℕ) (is_directory : Bool) (mode : ℕ) → is_dir (kind_of held.kept.what) ≡ true → clear_name name ≡ Ok n
      → is_refusal (step its (create number name is_directory mode) second).answer.reply ≡ false → IsFree live number n
  free_to_create name n is_directory mode dir clear accepted other named =
      not_refused _ refusals.FileExists accepted (exists_refused live number name held there dir tree n clear other named contents is_directory mode second)

  module _ (c : PlainChange) (asked n : List ℕ) (asks : c.name ≡ Some asked) (clear : clear_name asked ≡ Ok n) (placed : places its (change number c) ≡ true)
      (accepted : is_refusal (step its (change number c) second).answer.reply ≡ false) where
    row : Row
    row = live_row contents (number, held)

    found : row_of its number ≡ Some row
    unfolding row
    found = nodes_have_rows live contents number held there

    names : new_name row c ≡ Some asked
    names =
        let is : new_name row c ≡ cond (bytes_eq (nfc_of asked) row.name) None (Some asked) =
        ap (λ (o : Option (List ℕ)). option_map_or (λ name. cond (bytes_eq (nfc_of name) row.name) None (Some name)) o None) asks in
        let some : is_some (new_name row c) ≡ true = sym (ap (λ (o : Option Row). option_map_or (λ (r : Row). is_some (new_name r c)) o false) found) ∙ placed in
        is ∙ go (bytes_eq (nfc_of asked) row.name) (sym (ap is_some is) ∙ some)
      where
        go : (same : Bool) → is_some (cond same None (Some asked)) ≡ true → cond same None (Some asked) ≡ Some asked
        go true h = absurd (true≢false (sym h))
        go false h = refl

    no_early : early its row (change number c) ≡ None
    no_early = go (early its row (change number c)) refl
      where
        go : (o : Option Refusal) → early its row (change number c) ≡ o → early its row (change number c) ≡ None
        go None e = e
        go (Some refusal) e = absurd (not_refused _ refusal accepted (ap (λ (w : Stepped). w.answer) (step_refused its (change number c) second row refusal found e)))

    no_length : new_length row c ≡ None
    no_length = go (new_length row c) refl
      where
        go : (o : Option ℕ) → new_length row c ≡ o → new_length row c ≡ None
        go None e = e
        go (Some k) e =
            absurd (not_refused _ refusals.OneChangeAtATime accepted (ap (λ (w : Stepped). w.answer)
            (step_worked its (change number c) second row found no_early
            ∙ ap (λ (o : Option (List ℕ)). place_step its row c o (new_length row c) second) names
            ∙ ap (λ (o : Option ℕ). place_step its row c (Some asked) o second) e)))

    renaming : IsRenamingIn live number n c.modified c contents
    renaming = record {
      row = row;
      there = found;
      none = ap (λ (o : Option Row). option_map_or (λ r. early its r (change number c)) o (Some refusals.Removed)) found ∙ no_early;
      asked = asked;
      named = names;
      clear = clear;
      length = no_length;
      dated = refl;
    }

    below : number ≢ root
    below e = not_refused _ refusals.NotPermitted accepted (at_root live contents number n c.modified c second renaming e)

    pub free_to_rename : IsFree live held.kept.parent n
    free_to_rename other named =
        not_refused _ refusals.FileExists accepted (named_already live contents number n c.modified c second renaming held there below tree other named)
