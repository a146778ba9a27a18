-- What a walk of a tree in memory comes to, one name after another.
use Rattle.std.proofs.Common.{◌≡◌, ℕ, Bool, true, false, cond, not, List, [], ◌∷◌, Option, Some, None, IfSome, IfNone, IsSome, is_some, ok_or, Result, Ok, Err, IfOk, refl, sym, ap, subst, ◌∙◌}
use Rattle.std.specs.Option.{option_and_then, option_map}
use Rattle.std.specs.Str.{bytes_eq}
use Rattle.std.proofs.lemmas.Option.{same_Some}
use Rattle.tree_model.specs.declared.refusal.Refusal.{Refusal}
use Rattle.tree_model.specs.declared.refusal.Refusal.TheVariants as refusals
use Rattle.tree_model.specs.declared.stat.Qid.{Qid}
use Rattle.tree_model.specs.Names.{NameFault, not_utf8, empty, dots, forbidden, too_long, clear_name}
use Rattle.tree_model.specs.Rows.{Content, Row, Rows, is_dir, row_of, child_of, qid_of}
use Rattle.tree_model.specs.Asked.{PlainReply, walk}
use Rattle.tree_model.specs.Step.{says, dot_dot, found, found_by_name, name_refusal, walked_by, walk_on, walk_from, walk_answer}
use Rattle.tree_model.proofs.Steps.{step_walk}
use Rattle.vault_names.specs.declared.name.BadName.{BadName}
use Rattle.vault_names.specs.declared.name.BadName.TheVariants as bad_names
use Rattle.vault_names.specs.Faults.{IsFault}
use Rattle.clear_tree.specs.Kept.{What, KeptFile, KeptLink, KeptDir, KeptBad, kind_of}
use Rattle.live_tree.specs.Held.{HeldNode, HeldTree, IsTree, IsNamed, IsFree, node_of, live_row, live_rows}
use Rattle.live_tree.proofs.Rows.{has_node}
use Rattle.tree_answers.specs.Answers.{IsStepOf, is_own, qid_in}
use Rattle.tree_answers.specs.Walk.{ForRows, StandsFor, IsWay, bad_name_refusal, dir_parent, parent_in, qid_at}
use Rattle.tree_answers.proofs.Rows.{row_there, some_is, parent_there}
use Rattle.tree_answers.proofs.Shown.{qid_is}
use Rattle.tree_answers.proofs.Named.{child_found, child_absent}

-- ---- one name

abbrev pub Next : HeldTree → ℕ → List ℕ → Result ℕ Refusal → Type 0
Next tree from name next = ForRows tree (λ rows. (row : Row) → row_of rows from ≡ Some row → StandsFor rows (walked_by rows row name) next)

-- a node by what its parent is as a directory
dir_kind : (node : HeldNode) (what : What) → is_some (dir_parent node what) ≡ is_dir (kind_of what)
dir_kind node (KeptFile size) = refl
dir_kind node (KeptLink size) = refl
dir_kind node (KeptDir identifier folder) = refl
dir_kind node (KeptBad text) = refl

dir_inside : (node : HeldNode) (what : What) (parent : ℕ) → dir_parent node what ≡ Some parent → node.kept.parent ≡ parent
dir_inside node (KeptFile size) parent is = absurd cc
dir_inside node (KeptLink size) parent is = absurd cc
dir_inside node (KeptDir identifier folder) parent is = same_Some node.kept.parent parent is
dir_inside node (KeptBad text) parent is = absurd cc

parent_at : (tree : HeldTree) (n : ℕ) (node : HeldNode) → node_of tree n ≡ Some node → parent_in tree n ≡ dir_parent node node.kept.what
parent_at tree n node there = ap (λ (o : Option HeldNode). option_and_then (λ (node : HeldNode). dir_parent node node.kept.what) o) there

-- the node of a number whose parent is asked for
node_inside : (tree : HeldTree) (n parent : ℕ) (o : Option HeldNode) → node_of tree n ≡ o → option_and_then (λ (node : HeldNode). dir_parent node node.kept.what) o ≡ Some parent
    → (node : HeldNode) × (node_of tree n ≡ Some node) × (node.kept.parent ≡ parent)
node_inside tree n parent None there is = absurd cc
node_inside tree n parent (Some node) there is = (node, there, dir_inside node node.kept.what parent is)

-- the parent of a directory is there
pub up_there : (tree : HeldTree) (from parent : ℕ) → IsTree tree → parent_in tree from ≡ Some parent → IsSome (node_of tree parent)
up_there tree from parent good inner =
    let node = node_inside tree from parent (node_of tree from) refl inner in
    subst (λ (n : ℕ). IsSome (node_of tree n)) node.2 (parent_there tree from node.0 good node.1)

module _ (contents : ℕ → Content) (tree : HeldTree) where
  abbrev rows : Rows
  rows = live_rows contents tree

  -- the row of a node that is a directory, or isn't
  row_kind : (n : ℕ) (row : Row) (o : Option ℕ) → row_of rows n ≡ Some row → parent_in tree n ≡ o → is_dir row.kind ≡ is_some o
  row_kind n row o is parent =
      let has = has_node contents tree n row is in
      ap (λ (r : Row). is_dir r.kind) has.is ∙ sym (dir_kind has.node has.node.kept.what) ∙ ap is_some (sym (parent_at tree n has.node has.there) ∙ parent)

  own_number : (n : ℕ) (row : Row) → row_of rows n ≡ Some row → row.number ≡ n
  own_number n row is = ap (λ (r : Row). r.number) (has_node contents tree n row is).is

  own_parent : (n parent : ℕ) (row : Row) → row_of rows n ≡ Some row → parent_in tree n ≡ Some parent → row.parent ≡ parent
  own_parent n parent row is inner =
      let has = has_node contents tree n row is in
      ap (λ (r : Row). r.parent) has.is ∙ dir_inside has.node has.node.kept.what parent (sym (parent_at tree n has.node has.there) ∙ inner)

  -- the qid of a row is that of its node
  qid_row : IsTree tree → (n : ℕ) (row : Row) (q : Qid) → row_of rows n ≡ Some row → qid_at tree n ≡ Some q → qid_of row ≡ q
  qid_row good n row q is shown =
      let has = has_node contents tree n row is in
      ap qid_of has.is ∙ qid_is contents n has.node (good.versions n has.node has.there)
      ∙ same_Some (qid_in n has.node) q (sym (ap (option_map (qid_in n)) has.there) ∙ shown)

  -- by one name, from a directory
  from_dir : (from parent : ℕ) (name : List ℕ) (row : Row) (up : Bool) → row_of rows from ≡ Some row → parent_in tree from ≡ Some parent → bytes_eq name dot_dot ≡ up
      → walked_by rows row name ≡ cond up (found (row_of rows row.parent)) (found_by_name rows row.number (clear_name name))
  from_dir from parent name row up is inner same =
      ap (λ (b : Bool). cond (not b) (Err refusals.NotADirectory) (cond (bytes_eq name dot_dot) (found (row_of rows row.parent)) (found_by_name rows row.number (clear_name name))))
      (row_kind from row (Some parent) is inner)
      ∙ ap (λ (b : Bool). cond b (found (row_of rows row.parent)) (found_by_name rows row.number (clear_name name))) same

  stands_found : IsTree tree → (from : ℕ) (name : List ℕ) (o : Option ℕ) → IfSome o (λ n. IsNamed tree from name n) → IfNone o (IsFree tree from name)
      → StandsFor rows (found (child_of rows from name)) (ok_or o refusals.FileDoesNotExist)
  stands_found good from name None some none = ap found (child_absent contents tree good from name none)
  stands_found good from name (Some n) some none = let child = child_found contents tree good from name n some in (child.row, child.there, ap found child.child)

pub next_from_file : (tree : HeldTree) (from : ℕ) (name : List ℕ) → parent_in tree from ≡ None → Next tree from name (Err refusals.NotADirectory)
next_from_file tree from name other contents row is =
    let its = live_rows contents tree in
    ap (λ (b : Bool). cond (not b) (Err refusals.NotADirectory) (cond (bytes_eq name dot_dot) (found (row_of its row.parent)) (found_by_name its row.number (clear_name name))))
    (row_kind contents tree from row None is other)

module _ (tree : HeldTree) (from parent : ℕ) (name : List ℕ) (inner : parent_in tree from ≡ Some parent) where
  -- `..` leads to the parent
  pub next_up : IsTree tree → bytes_eq name dot_dot ≡ true → Next tree from name (Ok parent)
  next_up good up contents row is =
      let its = live_rows contents tree in
      let above = some_is (node_of tree parent) (up_there tree from parent good inner) in
      let there : row_of (live_rows contents tree) parent ≡ Some (live_row contents (parent, above.0)) = row_there contents tree parent above.0 above.1 in (
        live_row contents (parent, above.0),
        there,
        from_dir contents tree from parent name row true is inner up ∙ ap (λ (n : ℕ). found (row_of its n)) (own_parent contents tree from parent row is inner) ∙ ap found there,
      )

  module _ (other : bytes_eq name dot_dot ≡ false) where
    -- a name that is none leads nowhere
    next_fault : (fault : NameFault) → clear_name name ≡ Err fault → Next tree from name (Err (name_refusal fault))
    next_fault fault is contents row here =
        from_dir contents tree from parent name row false here inner other ∙ ap (found_by_name (live_rows contents tree) row.number) is

    by_refusal : (refused refusal : Refusal) → Next tree from name (Err refused) → Some refused ≡ Some refusal → Next tree from name (Err refusal)
    by_refusal refused refusal next is = subst (λ (r : Refusal). Next tree from name (Err r)) (same_Some refused refusal is) next

    -- what refuses bytes that are no name
    pub next_bad : (fault : BadName) (refusal : Refusal) → IsFault fault (clear_name name) → bad_name_refusal fault ≡ Some refusal → Next tree from name (Err refusal)
    next_bad bad_names.NotUtf8 refusal fault is = by_refusal refusals.BadName refusal (next_fault not_utf8 fault) is
    next_bad bad_names.Empty refusal fault is = by_refusal refusals.BadName refusal (next_fault empty fault) is
    next_bad bad_names.Dots refusal fault is = by_refusal refusals.BadName refusal (next_fault dots fault) is
    next_bad bad_names.Forbidden refusal fault is = by_refusal refusals.BadName refusal (next_fault forbidden fault) is
    next_bad (bad_names.TooLong n) refusal fault is = by_refusal refusals.NameTooLong refusal (next_fault (too_long n) fault) is
    next_bad bad_names.Memory refusal fault is = absurd cc

    -- a name leads to the node of that name
    pub next_named : (clear : List ℕ) (o : Option ℕ) (r : Result ℕ Refusal) → IsTree tree → clear_name name ≡ Ok clear → IfSome o (λ n. IsNamed tree from clear n) → IfNone o (IsFree tree from clear)
        → r ≡ ok_or o refusals.FileDoesNotExist → Next tree from name r
    next_named clear o r good valid some none is contents row here =
        let its = live_rows contents tree in
        subst (λ (r : Result ℕ Refusal). StandsFor (live_rows contents tree) (walked_by (live_rows contents tree) row name) r) (sym is)
        (subst (λ (w : Result Row Refusal). StandsFor (live_rows contents tree) w (ok_or o refusals.FileDoesNotExist))
        (sym (from_dir contents tree from parent name row false here inner other ∙ ap (found_by_name its row.number) valid ∙ ap (λ (n : ℕ). found (child_of its n clear)) (own_number contents tree from row here)))
        (stands_found contents tree good from clear o some none))

pub bad_own : (fault : BadName) (refusal : Refusal) → bad_name_refusal fault ≡ Some refusal → is_own refusal ≡ true
bad_own bad_names.NotUtf8 refusal is = ap is_own (sym (same_Some refusals.BadName refusal is))
bad_own bad_names.Empty refusal is = ap is_own (sym (same_Some refusals.BadName refusal is))
bad_own bad_names.Dots refusal is = ap is_own (sym (same_Some refusals.BadName refusal is))
bad_own bad_names.Forbidden refusal is = ap is_own (sym (same_Some refusals.BadName refusal is))
bad_own (bad_names.TooLong n) refusal is = ap is_own (sym (same_Some refusals.NameTooLong refusal is))
bad_own bad_names.Memory refusal is = absurd cc

-- what a name leads to is there
pub named_there : (tree : HeldTree) (from : ℕ) (name : List ℕ) (o : Option ℕ) (r : Result ℕ Refusal) → IfSome o (λ n. IsNamed tree from name n) → r ≡ ok_or o refusals.FileDoesNotExist
    → IfOk r (λ n. IsSome (node_of tree n))
named_there tree from name o r some is = subst (λ (r : Result ℕ Refusal). IfOk r (λ n. IsSome (node_of tree n))) (sym is) (by o some)
  where
    by : (o : Option ℕ) → IfSome o (λ n. IsNamed tree from name n) → IfOk (ok_or o refusals.FileDoesNotExist) (λ n. IsSome (node_of tree n))
    by None some = tt
    by (Some n) some = ap is_some some.child.there

-- ---- several names

pub way_none : (tree : HeldTree) (n : ℕ) → IsWay tree n [] [] None
unfolding walk_from
way_none tree n contents row is = refl

pub way_refused : (tree : HeldTree) (n : ℕ) (name : List ℕ) (names : List (List ℕ)) (refusal : Refusal) → Next tree n name (Err refusal) → IsWay tree n (name ∷ names) [] (Some refusal)
unfolding walk_from
way_refused tree n name names refusal next contents row is = ap (walk_on (λ row. walk_from (live_rows contents tree) row names)) (next contents row is)

pub way_more : (tree : HeldTree) (n m : ℕ) (name : List ℕ) (names : List (List ℕ)) (q : Qid) (qids : List Qid) (end : Option Refusal)
    → IsTree tree → Next tree n name (Ok m) → qid_at tree m ≡ Some q → IsWay tree m names qids end → IsWay tree n (name ∷ names) (q ∷ qids) end
unfolding walk_from
way_more tree n m name names q qids end good next shown way contents row is =
    let its = live_rows contents tree in
    let to = next contents row is in
    ap (walk_on (λ row. walk_from its row names)) to.2
    ∙ ap (λ (w : List Qid × Option Refusal). (qid_of to.0 ∷ w.0, w.1)) (way contents to.0 to.1)
    ∙ ap (λ (q : Qid). (q ∷ qids, end)) (qid_row contents tree good m to.0 q to.1 shown)

pub walk_reached : (tree : HeldTree) (n : ℕ) (names : List (List ℕ)) (qids : List Qid) (end : Option Refusal) (reply : PlainReply) (node : HeldNode)
    → node_of tree n ≡ Some node → IsWay tree n names qids end → says reply ≡ walk_answer (qids, end) → IsStepOf tree (walk n names) (says reply)
walk_reached tree n names qids end reply node there way is contents second =
    let row : Row = live_row contents (n, node) in
    let here : row_of (live_rows contents tree) n ≡ Some (live_row contents (n, node)) = row_there contents tree n node there in
    is ∙ ap walk_answer (sym (way contents row here)) ∙ sym (step_walk (live_rows contents tree) n second names row here)
