-- How a change, a write and a truncation are decided by what is held of their node.
use Rattle.std.specs.Prelude.{ℕ, ◌+◌, ◌-◌, ◌==◌, List, Bool, Option, Some, None, Result, Ok, Err, nat_lt, if◌then◌else◌}
use Rattle.std.specs.Option.{option_map_or}
use Rattle.std.specs.Str.{bytes_eq}
use Rattle.nfc_text.specs.Nfc.{nfc_of}
use Rattle.tree_model.specs.declared.refusal.Refusal.{Refusal}
use Rattle.tree_model.specs.declared.refusal.Refusal.TheVariants as refusals
use Rattle.tree_model.specs.Names.{NameFault, clear_name}
use Rattle.tree_model.specs.Rows.{Row, bad_size, root}
use Rattle.tree_model.specs.Asked.{PlainChange}
use Rattle.tree_model.specs.Step.{file_limit, gap_limit, is_bad, name_refusal, raw_name_refusal, touches_fixed}
use Rattle.clear_tree.specs.Kept.{What, KeptFile, KeptLink, KeptDir, KeptBad, kind_of}
use Rattle.live_tree.specs.Held.{HeldNode, live_row}
use Rattle.file_chunks.specs.File.{is_bad_size}
use Rattle.tree_answers.specs.Answers.{length_by, shown_length}
use Rattle.request_checks.specs.declared.planning.Plan.{Plan}
use Rattle.request_checks.specs.declared.planning.Plan.TheVariants.{Rename, Resize, Date}

-- the row of a node, of no content
abbrev pub bare_row : ℕ → HeldNode → Row
bare_row number node = live_row (λ n. bad_size) (number, node)

-- ---- lengths

-- the length that is asked for, if it isn't the one that is shown
abbrev pub other_length : ℕ → Option ℕ → Option ℕ
other_length shown asked = option_map_or (λ n. if n == shown then None else Some n) asked None

-- what keeps a file from being changed up to an end, after a gap from its own end up to `at`, by the size of its host file
abbrev pub growth_fault : ℕ → ℕ → ℕ → Option Refusal
growth_fault size at end =
    if is_bad_size size then Some refusals.Damaged
    else if nat_lt file_limit end then Some refusals.FileTooLarge
    else if nat_lt gap_limit (at - length_by size) then Some refusals.GapTooLarge
    else None

-- what keeps a node from having another length
abbrev pub length_fault : What → ℕ → Option Refusal
length_fault (KeptFile size) n = growth_fault size n n
length_fault (KeptLink size) n = Some refusals.NotPermitted
length_fault (KeptDir identifier folder) n = Some refusals.IsADirectory
length_fault (KeptBad text) n = Some refusals.Damaged

-- what keeps a node from being written so many bytes at a place
abbrev pub write_fault : What → ℕ → ℕ → Option Refusal
write_fault (KeptFile size) at len = if len == 0 then None else growth_fault size at (at + len)
write_fault (KeptLink size) at len = Some refusals.NotPermitted
write_fault (KeptDir identifier folder) at len = Some refusals.IsADirectory
write_fault (KeptBad text) at len = Some refusals.Damaged

-- a plan, unless something refuses it
abbrev pub plan_or : Option Refusal → Result Plan Refusal → Result Plan Refusal
plan_or None plan = plan
plan_or (Some refusal) plan = Err refusal

-- what another length comes to
abbrev pub resize_plan : What → ℕ → Result Plan Refusal
resize_plan what n = plan_or (length_fault what n) (Ok (Resize n))

-- what keeps a node from having another one of a name made in it, before the name's form NFC is needed
abbrev pub creation_fault : What → List ℕ → Option Refusal
creation_fault (KeptDir identifier folder) name = raw_name_refusal name
creation_fault (KeptFile size) name = Some refusals.NotADirectory
creation_fault (KeptLink size) name = Some refusals.NotADirectory
creation_fault (KeptBad text) name = Some refusals.NotADirectory

-- ---- names

-- the name that is asked for is the node's own in its form NFC
abbrev pub has_name : HeldNode → List ℕ → Bool
has_name node name = bytes_eq (nfc_of name) node.kept.name

-- a clear name, or what refuses the bytes that are none
abbrev pub name_or_refusal : Result (List ℕ) NameFault → Result (List ℕ) Refusal
name_or_refusal (Ok name) = Ok name
name_or_refusal (Err fault) = Err (name_refusal fault)

-- a clear name as the new one
abbrev pub named_plan : Result (List ℕ) Refusal → Result Plan Refusal
named_plan (Ok name) = Ok (Rename name)
named_plan (Err refusal) = Err refusal

-- what a name alone comes to for the root, which keeps its own
abbrev pub root_plan : HeldNode → List ℕ → Result Plan Refusal
root_plan node name = if has_name node name then Ok Date else Err refusals.NotPermitted

-- and for a node below it: what the bytes alone refuse is refused even if the form NFC is the node's own name
abbrev pub inner_plan : HeldNode → List ℕ → Result Plan Refusal
inner_plan node name = plan_or (raw_name_refusal name) (if has_name node name then Ok Date else named_plan (name_or_refusal (clear_name name)))

-- and for any node
abbrev pub rename_plan : ℕ → HeldNode → List ℕ → Result Plan Refusal
rename_plan number node name = if number == root then root_plan node name else inner_plan node name

-- ---- both

-- what a name and another length come to, which may each be missing
abbrev pub place_plan : ℕ → HeldNode → Option (List ℕ) → Option ℕ → Result Plan Refusal
place_plan number node None None = Ok Date
place_plan number node None (Some n) = resize_plan node.kept.what n
place_plan number node (Some name) None = rename_plan number node name
place_plan number node (Some name) (Some n) = if has_name node name then resize_plan node.kept.what n else Err refusals.OneChangeAtATime

-- what a change comes to
abbrev pub plan_of : ℕ → HeldNode → PlainChange → Result Plan Refusal
plan_of number node c =
    if is_bad (kind_of node.kept.what) then Err refusals.Damaged
    else if touches_fixed (bare_row number node) c then Err refusals.NotPermitted
    else place_plan number node c.name (other_length (shown_length node.kept.what) c.length)
