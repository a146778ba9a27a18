-- A write of at least one byte is a change of a file's content.
use Rattle.std.proofs.Common.{◌≡◌, ◌==◌, ◌≤◌, ◌<◌, ◌+◌, ◌-◌, ℕ, Bool, false, cond, List, length, Option, Some, None, nat_lt, ap, ◌∙◌, arith, ne_eqb}
use Rattle.std.specs.Option.{option_map_or}
use Rattle.outside.specs.Disk.{Disk}
use Rattle.vault_keys.specs.Keys.{KeyPair}
use Rattle.tree_model.specs.declared.refusal.Refusal.TheVariants as refusals
use Rattle.tree_model.specs.Rows.{Content, Row, Rows, row_of, content_length}
use Rattle.tree_model.specs.Contents.{written}
use Rattle.tree_model.specs.Asked.{write, count}
use Rattle.tree_model.specs.Step.{Stepped, early, file_limit, gap_limit, growth_refusal, is_bad_size, refuses, says, set_row, step, stepped, with_content, write_refusal, write_step}
use Rattle.tree_model.proofs.Steps.{step_worked}
use Rattle.clear_tree.specs.Kept.{What, kind_of}
use Rattle.tree_loading.specs.Format.{sealing_of}
use Rattle.file_chunks.specs.File.{content_of, clear_length, IsKey}
use Rattle.file_chunks.proofs.Contents.{good_content, length-content}
use Rattle.live_tree.specs.Held.{HeldTree, live_row, live_rows}
use Rattle.live_tree_laws.proofs.Numbers.{nodes_have_rows}
use Rattle.node_changes.specs.Changed.{StandsOn}
use Rattle.request_checks.specs.Files.{IsWritable}
use Rattle.file_changes.specs.Steps.{IsContentStep, ChangesContent}
use Rattle.file_changes.proofs.Standing.{HeldFile, old, old_long, content_of_row}
use Rattle.file_changes.proofs.Telling.{ContentAsked}

not_above : (limit n : ℕ) → n ≤ limit → nat_lt limit n ≡ false
not_above limit n h = grind arith

-- nothing keeps a content of so many bytes from growing
grows : (content : Content) (clear at end : ℕ) → is_bad_size content ≡ false → content_length content ≡ clear → at ≤ clear + gap_limit → end ≤ file_limit → growth_refusal content at end ≡ None
grows content clear at end good long gap limit =
    ap (λ (b : Bool). cond b (Some refusals.Damaged) (cond (nat_lt file_limit end) (Some refusals.FileTooLarge) (cond (nat_lt gap_limit (at - content_length content)) (Some refusals.GapTooLarge) None))) good
    ∙ ap (λ (b : Bool). cond b (Some refusals.FileTooLarge) (cond (nat_lt gap_limit (at - content_length content)) (Some refusals.GapTooLarge) None)) (not_above file_limit end limit)
    ∙ ap (λ (b : Bool). cond b (Some refusals.GapTooLarge) None) (not_above gap_limit (at - content_length content) (omega arith))

good_size : (keys : KeyPair) (bytes : List ℕ) (clear : ℕ) → clear_length (length bytes) ≡ Some clear → is_bad_size (content_of keys bytes) ≡ false
good_size keys bytes clear sized = ap is_bad_size (good_content keys bytes clear sized).1

some_bytes : (n : ℕ) → 0 < n → (n == 0) ≡ false
some_bytes n some = ne_eqb n 0 (λ e. omega arith)

module _ (keys : KeyPair) (key : IsKey keys.enc) (live : HeldTree) (claims : List (List ℕ × ℕ)) (number at : ℕ) (bytes : List ℕ) (some : 0 < length bytes) (can : IsWritable live number at (length bytes)) (second : ℕ) where
  module _ (d : Disk) (contents : ℕ → Content) (stands : StandsOn (sealing_of keys) d live claims contents) where
    abbrev file : HeldFile
    file = record {
      keys = keys;
      live = live;
      claims = claims;
      number = number;
      size = can.size;
      clear = can.clear;
      is = can.is;
    }

    abbrev rows : Rows
    rows = live_rows contents live

    abbrev row : Row
    row = live_row contents (number, can.is.held)

    found : row_of (live_rows contents live) number ≡ Some (live_row contents (number, can.is.held))
    found = nodes_have_rows live contents number can.is.held can.is.there

    abbrev before : List ℕ
    before = old file d contents stands

    content_is : (live_row contents (number, can.is.held)).content ≡ content_of keys before
    content_is = content_of_row file d contents stands (live_row contents (number, can.is.held)) found

    sized : clear_length (length before) ≡ Some can.clear
    sized = ap clear_length (old_long file d contents stands) ∙ can.is.sized

    good : is_bad_size (live_row contents (number, can.is.held)).content ≡ false
    good = ap is_bad_size content_is ∙ good_size keys before can.clear sized

    long : content_length (live_row contents (number, can.is.held)).content ≡ can.clear
    long = ap content_length content_is ∙ length-content keys before can.clear key sized

    free : early (live_rows contents live) (live_row contents (number, can.is.held)) (write number at bytes) ≡ None
    free =
        ap (λ (what : What). write_refusal (kind_of what) (live_row contents (number, can.is.held)).content at (length bytes)) can.is.file
        ∙ ap (λ (b : Bool). cond b None (growth_refusal (live_row contents (number, can.is.held)).content at (at + length bytes))) (some_bytes (length bytes) some)
        ∙ grows (live_row contents (number, can.is.held)).content can.clear at (at + length bytes) good long can.gap can.limit

    worked : step (live_rows contents live) (write number at bytes) second ≡ write_step (live_rows contents live) (live_row contents (number, can.is.held)) at bytes second
    worked = step_worked (live_rows contents live) (write number at bytes) second (live_row contents (number, can.is.held)) found free

    -- what the step makes of the new content, if there is one
    abbrev made_of : Option Content → Stepped
    made_of content =
        option_map_or (λ content. stepped (set_row rows (with_content row content second)) (says (count (length bytes)))) content (stepped rows (refuses refusals.Damaged))

    step_is : step (live_rows contents live) (write number at bytes) second ≡ made_of (written (live_row contents (number, can.is.held)).content at bytes)
    step_is = worked ∙ ap (λ (b : Bool). cond b (stepped rows (says (count 0))) (made_of (written row.content at bytes))) (some_bytes (length bytes) some)

    writes : IsContentStep live number (λ (content : Content). written content at bytes) None second (write number at bytes) (says (count (length bytes))) contents
    writes = record {
      row = live_row contents (number, can.is.held);
      there = found;
      late =
          ap (λ (o : Option Row). option_map_or (λ row. early (live_rows contents live) row (write number at bytes)) o (Some refusals.Removed)) found
          ∙ free;
      made = λ content e. step_is ∙ ap made_of e;
      damaged = λ e. ap (λ (w : Stepped). w.answer) (step_is ∙ ap made_of e);
    }

  pub writes_content : ChangesContent (sealing_of keys) live claims number (λ (content : Content). written content at bytes) None second (write number at bytes) (says (count (length bytes)))
  writes_content d contents stands = writes d contents stands

-- a write, of a file's tree
abbrev pub writing_of : (file : HeldFile) → IsKey file.keys.enc → (at : ℕ) (bytes : List ℕ) → 0 < length bytes → IsWritable file.live file.number at (length bytes) → ℕ → ContentAsked file
writing_of file key at bytes some can second = record {
  change = λ content. written content at bytes;
  modified = None;
  second = second;
  request = write file.number at bytes;
  answer = says (count (length bytes));
  its = writes_content file.keys key file.live file.claims file.number at bytes some can second;
}
