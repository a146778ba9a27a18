-- What a walk of a tree in memory comes to, whatever its files hold.
use Rattle.std.specs.Prelude.{◌≡◌, ℕ, ◌≤◌, List, length, Option, Some, None, Result, Ok, Err}
use Rattle.std.specs.Option.{option_and_then, option_map}
use Rattle.tree_model.specs.declared.refusal.Refusal.{Refusal}
use Rattle.tree_model.specs.declared.refusal.Refusal.TheVariants as refusals
use Rattle.tree_model.specs.declared.stat.Qid.{Qid}
use Rattle.tree_model.specs.Rows.{Content, Row, Rows, row_of}
use Rattle.tree_model.specs.Step.{walk_from}
use Rattle.vault_names.specs.declared.name.BadName.{BadName}
use Rattle.vault_names.specs.declared.name.BadName.TheVariants as bad_names
use Rattle.clear_tree.specs.Kept.{What, KeptFile, KeptLink, KeptDir, KeptBad}
use Rattle.live_tree.specs.Held.{HeldNode, HeldTree, node_of, live_rows}
use Rattle.tree_answers.specs.Answers.{qid_in}

-- P of the rows of a tree, whatever its files hold
abbrev pub ForRows : HeldTree → (Rows → Type 0) → Type 0
ForRows tree P = (contents : ℕ → Content) → P (live_rows contents tree)

-- the number of the parent of a node that is a directory
abbrev pub dir_parent : HeldNode → What → Option ℕ
dir_parent node (KeptFile size) = None
dir_parent node (KeptLink size) = None
dir_parent node (KeptDir identifier folder) = Some node.kept.parent
dir_parent node (KeptBad text) = None

abbrev pub parent_in : HeldTree → ℕ → Option ℕ
parent_in tree number = option_and_then (λ (node : HeldNode). dir_parent node node.kept.what) (node_of tree number)

-- the qid of the node of a number
abbrev pub qid_at : HeldTree → ℕ → Option Qid
qid_at tree number = option_map (qid_in number) (node_of tree number)

-- what refuses bytes that are no name; lack of memory says nothing of them
abbrev pub bad_name_refusal : BadName → Option Refusal
bad_name_refusal bad_names.NotUtf8 = Some refusals.BadName
bad_name_refusal bad_names.Empty = Some refusals.BadName
bad_name_refusal bad_names.Dots = Some refusals.BadName
bad_name_refusal bad_names.Forbidden = Some refusals.BadName
bad_name_refusal (bad_names.TooLong n) = Some refusals.NameTooLong
bad_name_refusal bad_names.Memory = None

-- a number stands for the row that was walked to, or a refusal for its refusal
abbrev pub StandsFor : Rows → Result Row Refusal → Result ℕ Refusal → Type 0
StandsFor rows walked (Ok n) = (row : Row) × (row_of rows n ≡ Some row) × (walked ≡ Ok row)
StandsFor rows walked (Err refusal) = walked ≡ Err refusal

-- these are the qids of the nodes on the way from a node along names, and what refused the next one, if any
abbrev pub IsWay : HeldTree → ℕ → List (List ℕ) → List Qid → Option Refusal → Type 0
IsWay tree n names qids end = ForRows tree (λ rows. (row : Row) → row_of rows n ≡ Some row → walk_from rows row names ≡ (qids, end))

-- a walk that ended here: all names were walked, or the next one was refused
abbrev pub IsWhole : ℕ → Option Refusal → List (List ℕ) → Type 0
IsWhole count None names = count ≡ length names
IsWhole count (Some refusal) names = count ≤ length names
