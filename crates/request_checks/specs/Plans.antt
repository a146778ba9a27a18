-- What a change of a node's attributes comes to, in the rows of a tree, if nothing refuses it before its own work, what refuses a
-- write and a truncation before the content is looked at, and what refuses a creation before the name's form NFC is needed.
use Rattle.std.specs.Prelude.{◌≡◌, ◌≢◌, ⊤, ℕ, List, Bool, length, Option, Some, None, Ok}
use Rattle.tree_model.specs.declared.refusal.Refusal.{Refusal}
use Rattle.tree_model.specs.Names.{clear_name}
use Rattle.tree_model.specs.Rows.{Content, Row, Rows, root, row_of}
use Rattle.tree_model.specs.Asked.{PlainChange, change, create, open_node, write}
use Rattle.tree_model.specs.Step.{early_refusal, is_bad_size as is_bad_content, length_refusal, new_length, new_name, refuses, step}
use Rattle.live_tree.specs.Held.{HeldTree, live_rows, size_of}
use Rattle.file_chunks.specs.File.{is_bad_size}
use Rattle.tree_answers.specs.Answers.{AreSizes}
use Rattle.request_checks.specs.declared.planning.Plan.{Plan}
use Rattle.request_checks.specs.declared.planning.Plan.TheVariants.{Rename, Resize, Date}
use Rattle.request_checks.specs.Files.{IsResizable}

-- The contents of a tree's files and links are what the sizes of their host files give: as long, and none if and only if no content has
-- that size.
pub record HaveSizes (live : HeldTree) (contents : ℕ → Content) : Type 0 where
  pub lengths : AreSizes live contents
  pub bad : (number size : ℕ) → size_of live number ≡ Some size → is_bad_content (contents number) ≡ is_bad_size size

-- ---- what each plan says of the node's row

-- another name alone, which stands for this clear name. The root gets none
pub record IsRename (number : ℕ) (row : Row) (c : PlainChange) (name : List ℕ) : Type 0 where
  pub below : number ≢ root
  pub asked : List ℕ
  pub named : new_name row c ≡ Some asked
  pub clear : clear_name asked ≡ Ok name
  pub long : new_length row c ≡ None

-- another length alone, which the node can have
pub record IsResize (row : Row) (c : PlainChange) (n : ℕ) : Type 0 where
  pub named : new_name row c ≡ None
  pub long : new_length row c ≡ Some n
  pub allowed : length_refusal row.kind row.content n ≡ None

-- neither
pub record IsDate (row : Row) (c : PlainChange) : Type 0 where
  pub named : new_name row c ≡ None
  pub long : new_length row c ≡ None

abbrev pub IsPlan : ℕ → Row → PlainChange → Plan → Type 0
IsPlan number row c (Rename name) = IsRename number row c name
IsPlan number row c (Resize n) = IsResize row c n
IsPlan number row c Date = IsDate row c

-- ---- of a tree

-- the node of a number is there, nothing refuses its change before the work, and this is what the change comes to
pub record IsPlannedIn (rows : Rows) (number : ℕ) (c : PlainChange) (plan : Plan) : Type 0 where
  pub row : Row
  pub there : row_of rows number ≡ Some row
  pub early : early_refusal rows (change number c) ≡ None
  pub fits : IsPlan number row c plan

-- the same whatever the tree's files hold at their sizes
abbrev pub IsPlanned : HeldTree → ℕ → PlainChange → Plan → Type 0
IsPlanned live number c plan = (contents : ℕ → Content) → HaveSizes live contents → IsPlannedIn (live_rows contents live) number c plan

-- the step answers a change by this refusal, whatever the tree's files hold at their sizes, and whenever it is asked
abbrev pub IsRefused : HeldTree → ℕ → PlainChange → Refusal → Type 0
IsRefused live number c refusal =
    (contents : ℕ → Content) → HaveSizes live contents → (second : ℕ) → (step (live_rows contents live) (change number c) second).answer ≡ refuses refusal

-- another length is one that the node, a file, can have
abbrev pub CanResize : HeldTree → ℕ → Plan → Type 0
CanResize live number (Resize n) = IsResizable live number n
CanResize live number (Rename name) = ⊤
CanResize live number Date = ⊤

-- ---- before a content is looked at

-- what refuses a write of so many bytes at a place early, if anything does, whatever the tree's files hold at their sizes
abbrev pub IsWriteRefusal : HeldTree → ℕ → ℕ → ℕ → Option Refusal → Type 0
IsWriteRefusal live number at len refusal =
    (contents : ℕ → Content) → HaveSizes live contents → (bytes : List ℕ) → length bytes ≡ len → early_refusal (live_rows contents live) (write number at bytes) ≡ refusal

-- what refuses early that a node is opened in a mode, if anything does, whatever the tree's files hold at their sizes
abbrev pub IsOpenRefusal : HeldTree → ℕ → ℕ → Option Refusal → Type 0
IsOpenRefusal live number mode refusal =
    (contents : ℕ → Content) → HaveSizes live contents → early_refusal (live_rows contents live) (open_node number mode) ≡ refusal

-- ---- before a name's form NFC is needed

-- what refuses early that a node of a name is made in a directory, if anything does, whatever the tree's files hold
abbrev pub IsCreationRefusal : HeldTree → ℕ → List ℕ → Option Refusal → Type 0
IsCreationRefusal live number name refusal =
    (contents : ℕ → Content) (is_dir : Bool) (mode : ℕ) → early_refusal (live_rows contents live) (create number name is_dir mode) ≡ refusal
