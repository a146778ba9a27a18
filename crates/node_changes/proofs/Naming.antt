-- What the step answers to a change of a name alone, by what is held of the tree.
use Rattle.std.proofs.Common.{◌≡◌, ◌≢◌, ◌==◌, ℕ, Bool, true, false, ◌&&◌, ◌||◌, cond, List, Option, Some, None, is_some, IfSome, IfNone, Result, refl, sym, ap, ◌∙◌, true≢false, eqb-true, eq-eqb, ne_eqb}
use Rattle.std.proofs.lemmas.Bool.{cond-true}
use Rattle.std.specs.Option.{option_map, option_map_or}
use Rattle.tree_model.specs.declared.refusal.Refusal.{Refusal}
use Rattle.tree_model.specs.declared.refusal.Refusal.TheVariants as refusals
use Rattle.tree_model.specs.Names.{NameFault}
use Rattle.tree_model.specs.Rows.{bad, Content, Row, Rows, root, is_dir, child_of}
use Rattle.tree_model.specs.Asked.{PlainChange, change, done, refused}
use Rattle.tree_model.specs.Step.{Answer, Stepped, stepped, says, refuses, step, early, is_bad, is_held, set_row, change_dir, with_mtime, rename_step, place_step, new_length}
use Rattle.tree_model.proofs.Steps.{step_worked}
use Rattle.clear_tree.specs.Kept.{What, KeptFile, KeptLink, KeptDir, KeptBad, kind_of, folder_in}
use Rattle.live_tree.specs.Held.{HeldNode, HeldTree, node_of, live_row, live_rows, IsNamed, IsFree, IsTree}
use Rattle.live_tree.proofs.Rows.{row_is}
use Rattle.live_tree_laws.proofs.Numbers.{nodes_have_rows}
use Rattle.node_changes.specs.NewName.{IsRefusedAs, IsNameRefusal}
use Rattle.node_changes.specs.Renaming.{IsRenamingIn}
use Rattle.node_changes.proofs.Refusing.{find_true}
use Rattle.node_changes.proofs.Creations.{free_child, named_child}

-- what a rename comes to, by whether the node is the root, the name is there, and something keeps the node
renamed_by : Rows → Rows → Bool → Bool → Bool → Stepped
renamed_by rows after top there held =
    cond top (stepped rows (refuses refusals.NotPermitted))
    (cond there (stepped rows (refuses refusals.FileExists)) (cond held (stepped rows (refuses refusals.Foreign)) (stepped after (says done))))

never_by : (rows after : Rows) (top there held : Bool) → (renamed_by rows after top there held).answer ≢ refuses refusals.Removed
unfolding renamed_by
never_by rows after true there held e = let same : refused refusals.NotPermitted ≡ refused refusals.Removed = ap (λ (a : Answer). a.reply) e in cc
never_by rows after false true held e = let same : refused refusals.FileExists ≡ refused refusals.Removed = ap (λ (a : Answer). a.reply) e in cc
never_by rows after false false true e = let same : refused refusals.Foreign ≡ refused refusals.Removed = ap (λ (a : Answer). a.reply) e in cc
never_by rows after false false false e = let same : done ≡ refused refusals.Removed = ap (λ (a : Answer). a.reply) e in cc

module _ (live : HeldTree) (contents : ℕ → Content) (number : ℕ) (name : List ℕ) (modified : Option ℕ) (c : PlainChange) (second : ℕ) (is : IsRenamingIn live number name modified c contents) where
  abbrev its : Rows
  its = live_rows contents live

  early_none : early its is.row (change number c) ≡ None
  early_none = sym (ap (λ (o : Option Row). option_map_or (λ row. early its row (change number c)) o (Some refusals.Removed)) is.there) ∙ is.none

  after : Rows
  after = set_row (change_dir its is.row.parent second) (with_mtime c (record is.row { name = name }))

  named_step : step its (change number c) second ≡ renamed_by its after (is.row.number == root) (is_some (child_of its is.row.parent name)) (is_held its is.row)
  unfolding renamed_by after
  named_step =
      step_worked its (change number c) second is.row is.there early_none
      ∙ ap (λ (o : Option (List ℕ)). place_step its is.row c o (new_length is.row c) second) is.named
      ∙ ap (λ (o : Option ℕ). place_step its is.row c (Some is.asked) o second) is.length
      ∙ ap (λ (r : Result (List ℕ) NameFault). cond (is.row.number == root) (stepped its (refuses refusals.NotPermitted)) (rename_step its is.row c r second)) is.clear

  pub never_removed : (step its (change number c) second).answer ≢ refuses refusals.Removed
  never_removed e =
      never_by its after (is.row.number == root) (is_some (child_of its is.row.parent name)) (is_held its is.row)
      (sym (ap (λ (w : Stepped). w.answer) named_step) ∙ e)

  row_number : is.row.number ≡ number
  row_number = eqb-true is.row.number number (find_true (λ (row : Row). row.number == number) its.nodes is.row is.there)

  pub never_gone : node_of live number ≡ None → ⊥
  never_gone none =
      let w : ◌≡◌ {A = Option Row} (Some is.row) None = sym is.there ∙ row_is contents live number ∙ ap (option_map (λ (node : HeldNode). live_row contents (number, node))) none in
      cc

  pub at_root : number ≡ root → (step its (change number c) second).answer ≡ refuses refusals.NotPermitted
  unfolding renamed_by
  at_root e =
      ap (λ (w : Stepped). w.answer) named_step
      ∙ ap (λ (b : Bool). (renamed_by its after b (is_some (child_of its is.row.parent name)) (is_held its is.row)).answer) (eq-eqb is.row.number root (row_number ∙ e))

  module _ (held : HeldNode) (there : node_of live number ≡ Some held) where
    pub row_of_held : is.row ≡ live_row contents (number, held)
    row_of_held = let w : ◌≡◌ {A = Option Row} (Some is.row) (Some (live_row contents (number, held))) = sym is.there ∙ nodes_have_rows live contents number held there in cc

    pub never_bad : (t : List ℕ) → held.kept.what ≡ KeptBad t → ⊥
    never_bad t e =
        let kind : is.row.kind ≡ bad = ap (λ (row : Row). row.kind) row_of_held ∙ ap kind_of e in
        let w : ◌≡◌ {A = Option Refusal} (Some refusals.Damaged) None = sym (cond-true (is_bad is.row.kind) _ _ (ap is_bad kind)) ∙ early_none in
        cc

    module _ (below : number ≢ root) where
      at_node : (there held : Bool) → is_some (child_of its is.row.parent name) ≡ there → is_held its is.row ≡ held → step its (change number c) second ≡ renamed_by its after false there held
      at_node there held e f =
          named_step ∙ ap (λ (b : Bool). renamed_by its after b (is_some (child_of its is.row.parent name)) (is_held its is.row)) (ne_eqb is.row.number root (λ z. below (sym row_number ∙ z)))
          ∙ ap (λ (b : Bool). renamed_by its after false b (is_held its is.row)) e ∙ ap (renamed_by its after false there) f

      parent_is : is.row.parent ≡ held.kept.parent
      parent_is = ap (λ (row : Row). row.parent) row_of_held

      pub named_already : IsTree live → (other : ℕ) → IsNamed live held.kept.parent name other → (step its (change number c) second).answer ≡ refuses refusals.FileExists
      unfolding renamed_by
      named_already tree other named =
          ap (λ (w : Stepped). w.answer)
          (at_node true (is_held its is.row) (ap (λ (p : ℕ). is_some (child_of its p name)) parent_is ∙ named_child live tree contents held.kept.parent name other named) refl)

      module _ (tree : IsTree live) (free : IsFree live held.kept.parent name) where
        none_there : is_some (child_of its is.row.parent name) ≡ false
        none_there = ap (λ (p : ℕ). is_some (child_of its p name)) parent_is ∙ ap is_some (free_child live tree contents held.kept.parent name free)

        held_is : is_held its is.row ≡ (held.kept.shadowed || (is_dir (kind_of held.kept.what) && live.twice))
        held_is = ap (is_held its) row_of_held

        pub kept_back : (held.kept.shadowed || (is_dir (kind_of held.kept.what) && live.twice)) ≡ true → (step its (change number c) second).answer ≡ refuses refusals.Foreign
        unfolding renamed_by
        kept_back e = ap (λ (w : Stepped). w.answer) (at_node false true none_there (held_is ∙ e))

        pub given : (held.kept.shadowed || (is_dir (kind_of held.kept.what) && live.twice)) ≡ false
            → step its (change number c) second ≡ stepped (set_row (change_dir its held.kept.parent second) (with_mtime c (record (live_row contents (number, held)) { name = name }))) (says done)
        unfolding renamed_by after
        given e =
            at_node false false none_there (held_is ∙ e)
            ∙ ap (λ (row : Row). stepped (set_row (change_dir its row.parent second) (with_mtime c (record row { name = name }))) (says done)) row_of_held

-- ---- which nodes are kept back

pub kept_back_is : (shadowed twice : Bool) (what : What) → (shadowed || (is_dir (kind_of what) && twice)) ≡ (shadowed || (is_some (folder_in what) && twice))
kept_back_is shadowed twice (KeptFile size) = refl
kept_back_is shadowed twice (KeptLink size) = refl
kept_back_is shadowed twice (KeptDir identifier folder) = refl
kept_back_is shadowed twice (KeptBad text) = refl

pub not_shadowed : (shadowed other : Bool) → (shadowed || other) ≡ false → shadowed ≡ false
not_shadowed true other e = absurd cc
not_shadowed false other e = refl

pub named_once : (shadowed twice : Bool) (what : What) → (shadowed || (is_some (folder_in what) && twice)) ≡ false → (i f : List ℕ) → what ≡ KeptDir i f → twice ≡ false
named_once true twice what e i f is = absurd cc
named_once false twice what e i f is = sym (ap (λ (w : What). is_some (folder_in w) && twice) is) ∙ e

pub not_kept_back : (shadowed twice : Bool) (what : What) → shadowed ≡ false → ((i f : List ℕ) → what ≡ KeptDir i f → twice ≡ false) → (shadowed || (is_dir (kind_of what) && twice)) ≡ false
not_kept_back true twice what clean once = absurd (true≢false clean)
not_kept_back false twice (KeptFile size) clean once = refl
not_kept_back false twice (KeptLink size) clean once = refl
not_kept_back false twice (KeptDir identifier folder) clean once = once identifier folder refl
not_kept_back false twice (KeptBad text) clean once = refl

-- ---- refusals before the folder is read

module _ (live : HeldTree) (number : ℕ) (name : List ℕ) where
  pub refuses_gone : node_of live number ≡ None → IsRefusedAs live number name refusals.Removed
  refuses_gone none contents c modified second is = absurd (never_gone live contents number name modified c second is none)

  pub refuses_root : number ≡ root → IsRefusedAs live number name refusals.NotPermitted
  refuses_root e contents c modified second is = at_root live contents number name modified c second is e

  pub refuses_bad : (held : HeldNode) → node_of live number ≡ Some held → (t : List ℕ) → held.kept.what ≡ KeptBad t → IsRefusedAs live number name refusals.Damaged
  refuses_bad held there t e contents c modified second is = absurd (never_bad live contents number name modified c second is held there t e)

  pub lacks_memory : IsNameRefusal live number name refusals.OutOfMemory
  lacks_memory contents c modified second is = never_removed live contents number name modified c second is

  module _ (tree : IsTree live) (held : HeldNode) (there : node_of live number ≡ Some held) (below : number ≢ root) where
    pub refuses_named : (o : Option ℕ) → is_some o ≡ true → IfSome o (λ other. IsNamed live held.kept.parent name other) → IsRefusedAs live number name refusals.FileExists
    refuses_named None some named = absurd (true≢false (sym some))
    refuses_named (Some other) some named = λ contents c modified second is. named_already live contents number name modified c second is held there below tree other named

    pub refuses_held : IsFree live held.kept.parent name → (held.kept.shadowed || (is_some (folder_in held.kept.what) && live.twice)) ≡ true → IsRefusedAs live number name refusals.Foreign
    refuses_held free e contents c modified second is =
        kept_back live contents number name modified c second is held there below tree free (kept_back_is held.kept.shadowed live.twice held.kept.what ∙ e)

pub free_name : (live : HeldTree) (parent : ℕ) (name : List ℕ) (o : Option ℕ) → is_some o ≡ false → IfNone o (IsFree live parent name) → IsFree live parent name
free_name live parent name None none free = free
free_name live parent name (Some other) none free = absurd (true≢false none)
