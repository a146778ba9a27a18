-- What a read of a node answers, and what the sizes of host files say.
use Rattle.std.proofs.Common.{◌≡◌, ℕ, ◌≤◌, Bool, true, false, cond, List, length, take, drop, Option, Some, None, IsNone, is_some, Result, map, Ok, Err, IfOk, IfSome, refl, sym, ap, subst, ◌∙◌, arith, inl, inr, length-take}
use Rattle.std.specs.List.{range_with_len}
use Rattle.std.specs.Option.{option_map, option_map_or, option_and_then}
use Rattle.std.specs.Result.{result_map_both}
use Rattle.std.proofs.lemmas.Option.{same_Some}
use Rattle.vault_keys.specs.Keys.{KeyPair}
use Rattle.outside.specs.Disk.{Disk}
use Rattle.outside.specs.Calls.{Rose, Told}
use Rattle.outside.specs.Images.{Log, disk_in, now}
use Rattle.outside.specs.Views.{FolderView}
use Rattle.outside.proofs.Told.{told_always, told_then}
use Rattle.tree_model.specs.declared.refusal.Refusal.{Refusal}
use Rattle.tree_model.specs.declared.refusal.Refusal.TheVariants as refusals
use Rattle.tree_model.specs.declared.reply.Reply.TheVariants as replies
use Rattle.tree_model.specs.Rows.{Cell, Content, bad_size, chunks, content_length, Row, Rows, row_of, slice_of}
use Rattle.tree_model.specs.Asked.{PlainRequest, PlainReply, read, count, refused}
use Rattle.tree_model.specs.Step.{Stepped, refuses, bytes_answer, read_refusal, early, early_refusal, step, node_of, is_bad_size as is_bad_content}
use Rattle.tree_model.proofs.Steps.{step_removed, step_worked, step_refused}
use Rattle.file_chunks.specs.File.{is_bad_size, chunk_count, content_of, cell_of, sealed_at}
use Rattle.file_chunks.specs.Header.{header_opens}
use Rattle.clear_tree.specs.Walk.{Sealing}
use Rattle.clear_tree.specs.Kept.{What, KeptFile, KeptLink, KeptDir, KeptBad, kind_of, content_of as kept_content, size_in}
use Rattle.tree_loading.specs.Format.{sealing_of}
use Rattle.live_tree.specs.Held.{HeldNode, HeldTree, live_row, live_rows, node_of as node_in, path_of, size_of}
use Rattle.live_tree_laws.specs.Found.{AreLiveContents}
use Rattle.live_tree_laws.proofs.Files.{contents_are_held}
use Rattle.tree_answers.specs.Answers.{answer_in, is_own, length_by}
use Rattle.tree_answers.proofs.Rows.{row_there, row_absent}
use Rattle.tree_answers.proofs.Sizes.{path_there, sizes_from}
use Rattle.content_reader.specs.Reading.{Ends, RoseUntold, IsFileOf, read_of}
use Rattle.content_reader.specs.declared.error.ReadErr.{ReadErr}
use Rattle.content_reader.specs.declared.error.ReadErr.TheVariants.{Device, Damaged}
use Rattle.content_reader.specs.declared.reader.SealedFile.{SealedFile}
use Rattle.deeds.specs.Deeds.{PlainDeed}
use Rattle.pending_files.specs.Laid.{laid, laid_log}
use Rattle.file_changes.specs.Waiting.{IsAtRestOver}
use Rattle.node_changes.specs.Changed.{StandsOn}
use Rattle.vault_store.specs.Reading.{HasContents, IsHostOf, read_fault, read_fault_of}
use Rattle.vault_store.specs.Sizes.{SizesAreHeld}
use Rattle.vault_store.proofs.Replies.{own_cause}
use Rattle.vault_store.proofs.Lookups.{IsAnswerIn, IsRead, IsUnplaced}

pub answer_of : {a b : Stepped} → a ≡ b → a.answer ≡ b.answer
answer_of e = ap (λ (s : Stepped). s.answer) e

-- ---- contents

good_content : (keys : KeyPair) (bytes : List ℕ) → is_bad_size (length bytes) ≡ false → (opens : Bool) × (cells : List Cell) × (content_of keys bytes ≡ chunks opens cells)
unfolding content_of
good_content keys bytes good = (
  is_some (header_opens keys (take 68 bytes)),
  map (λ i. cell_of (header_opens keys (take 68 bytes)) i (sealed_at bytes i)) (range_with_len 0 (chunk_count (length bytes))),
  rw good refl,
)

bad_where : (b opens : Bool) (cells : List Cell) → is_bad_content (cond b bad_size (chunks opens cells)) ≡ b
bad_where true opens cells = refl
bad_where false opens cells = refl

-- a content has no size just if its host file's is bad
bad_content : (keys : KeyPair) (bytes : List ℕ) → is_bad_content (content_of keys bytes) ≡ is_bad_size (length bytes)
unfolding content_of
bad_content keys bytes =
    bad_where (is_bad_size (length bytes)) (is_some (header_opens keys (take 68 bytes)))
    (map (λ i. cell_of (header_opens keys (take 68 bytes)) i (sealed_at bytes i)) (range_with_len 0 (chunk_count (length bytes))))

-- of a good size a read gives the slice
read_slice : (content : Content) (opens : Bool) (cells : List Cell) (at most : ℕ) → content ≡ chunks opens cells → read_of content at most ≡ slice_of content at most
read_slice content opens cells at most is = ap (λ (c : Content). read_of c at most) is ∙ ap (λ (c : Content). slice_of c at most) (sym is)

-- ---- host files

-- the bytes of a node's host file
pub record HasBytes (keys : KeyPair) (disk : Disk) (contents : ℕ → Content) (number size : ℕ) (path : List (List ℕ)) : Type 0 where
  pub bytes : List ℕ
  pub file : IsFileOf disk path size bytes
  pub content : contents number ≡ content_of keys bytes

bytes_at : (keys : KeyPair) (disk : Disk) (live : HeldTree) (contents : ℕ → Content) (number size : ℕ) (path : List (List ℕ)) → AreLiveContents (sealing_of keys) disk live contents
    → size_of live number ≡ Some size → path_of live number ≡ Some path → HasBytes keys disk contents number size path
bytes_at keys disk live contents number size path are sized at =
    let host = are.files number path at in record {
      bytes = host.bytes;
      file = record { there = host.there; long = are.sizes number size path host.bytes at sized host.there };
      content = host.content;
    }

-- the contents of a tree on a disk are those of its host files
pub live_contents : (s : Sealing) (d : Disk) (live : HeldTree) (claims : List (List ℕ × ℕ)) (contents : ℕ → Content) → StandsOn s d live claims contents → AreLiveContents s d live contents
live_contents s d live claims contents stands = (contents_are_held s d stands.tree live contents stands.is stands.holds).0 stands.are

-- and are there if a vault is at rest, once what waits is done
pub rest_contents : (log : Option Log) (waiting : List PlainDeed) (keys : KeyPair) (live : HeldTree) (claims : List (List ℕ × ℕ)) → Told log (IsAtRestOver (sealing_of keys) live claims waiting)
    → Told (disk_in (option_map (laid_log waiting) log)) (HasContents (sealing_of keys) live)
rest_contents None waiting keys live claims rest = tt
rest_contents (Some log) waiting keys live claims rest =
    record { contents = rest.contents; are = live_contents (sealing_of keys) (laid waiting (now log)) live claims rest.contents rest.stands }

-- ---- sizes

pub sizes_are_held : (keys : KeyPair) → ((bytes : List ℕ) → content_length (content_of keys bytes) ≡ length_by (length bytes)) → SizesAreHeld (sealing_of keys)
sizes_are_held keys long d live claims contents stands =
    let are = live_contents (sealing_of keys) d live claims contents stands in
    record {
      lengths = sizes_from (sealing_of keys) d live contents stands.holds.is_tree are.files are.sizes long;
      bad = λ number size sized.
          let path = path_there live number size stands.holds.is_tree sized in
          let has = bytes_at keys d live contents number size path.0 are sized path.1 in
          ap is_bad_content has.content ∙ bad_content keys has.bytes ∙ ap is_bad_size has.file.long;
    }

-- ---- a file or a link has its content, and is refused only if that has a bad size

sized_content : (what : What) (content : Content) (size : ℕ) → size_in what ≡ Some size → kept_content what content ≡ content
sized_content (KeptFile n) content size is = refl
sized_content (KeptLink n) content size is = refl
sized_content (KeptDir identifier folder) content size is = absurd cc
sized_content (KeptBad text) content size is = absurd cc

sized_refusal : (what : What) (content : Content) (size : ℕ) → size_in what ≡ Some size → read_refusal (kind_of what) content ≡ cond (is_bad_content content) (Some refusals.Damaged) None
sized_refusal (KeptFile n) content size is = refl
sized_refusal (KeptLink n) content size is = refl
sized_refusal (KeptDir identifier folder) content size is = absurd cc
sized_refusal (KeptBad text) content size is = absurd cc

-- ---- the answers

abbrev pub reply_of : Result ℕ ReadErr → PlainReply
reply_of (Ok n) = count n
reply_of (Err Damaged) = refused refusals.Damaged
reply_of (Err Device) = refused refusals.DeviceFault

early_at : (rows : Rows) (request : PlainRequest) (row : Row) → row_of rows (node_of request) ≡ Some row → early_refusal rows request ≡ early rows row request
early_at rows request row is = ap (λ (o : Option Row). option_map_or (λ row. early rows row request) o (Some refusals.Removed)) is

read_step : (rows : Rows) (node at most second : ℕ) (row : Row) (content : Content) → row_of rows node ≡ Some row → row.content ≡ content → read_refusal row.kind row.content ≡ None
    → ((step rows (read node at most) second).answer ≡ bytes_answer (slice_of content at most)) × IsNone (early_refusal rows (read node at most))
read_step rows node at most second row content is content_is free = (
  answer_of (step_worked rows (read node at most) second row is free) ∙ ap (λ (c : Content). bytes_answer (slice_of c at most)) content_is,
  ap is_some (early_at rows (read node at most) row is ∙ free),
)

may_answer : (rows : Rows) (node at most second before now : ℕ) (found : Option (List ℕ)) (buffer : List ℕ) (r : Result ℕ ReadErr)
    → (step rows (read node at most) second).answer ≡ bytes_answer found → IsNone (early_refusal rows (read node at most)) → IfOk r (λ n. n ≤ length buffer)
    → Ends found before now (result_map_both (λ n. take n buffer) (λ e. e) r) → IsAnswerIn rows (read node at most) second (answer_in (read node at most) (reply_of r) buffer)
may_answer rows node at most second before now found buffer (Ok n) step free room ends =
    let len : length (take n buffer) ≡ n = omega (arith, length-take n buffer) in
    inl (ap (λ (m : ℕ). record { reply = count m; bytes = take n buffer }) (sym len) ∙ sym (step ∙ ap bytes_answer ends))
may_answer rows node at most second before now found buffer (Err Damaged) step free room ends = inl (sym (step ∙ ap bytes_answer ends))
may_answer rows node at most second before now found buffer (Err Device) step free room ends = inr (inl (refl, free))

-- what a read of a host file ends with
abbrev pub HasEnded : Option Disk → KeyPair → SealedFile → ℕ → ℕ → ℕ → ℕ → Result ℕ ReadErr → List ℕ → Type 0
HasEnded told keys host at most before now r buffer =
    Told told (λ d. (bytes : List ℕ) → IsFileOf d host.path host.size bytes → Ends (read_of (content_of keys bytes) at most) before now (result_map_both (λ n. take n buffer) (λ e. e) r))

pub read_unplaced : (number at most : ℕ) → IsUnplaced (read number at most)
read_unplaced number at most = record { never = λ may. may; path = λ s d live. refl }

module _ (keys : KeyPair) (live : HeldTree) (claims : List (List ℕ × ℕ)) (before after : FolderView) (number at most : ℕ) (host : SealedFile) (is : IsHostOf live number host) where
  abbrev Ended : Result ℕ ReadErr → List ℕ → Type 0
  Ended r buffer = HasEnded (disk_in before.log) keys host at most before.faults after.faults r buffer

  sized_node : size_in is.node.kept.what ≡ Some host.size
  sized_node = sym (ap (option_and_then (λ (node : HeldNode). size_in node.kept.what)) is.there) ∙ is.size

  -- is the answer of its node's row
  read_answer : (r : Result ℕ ReadErr) (buffer : List ℕ) → IfOk r (λ n. n ≤ length buffer) → Ended r buffer → (second : ℕ)
      → Told (disk_in before.log) (λ d. (contents : ℕ → Content) → StandsOn (sealing_of keys) d live claims contents → IsAnswerIn (live_rows contents live) (read number at most) second (answer_in (read number at most) (reply_of r) buffer))
  read_answer r buffer room ended second =
      told_then (disk_in before.log)
      (λ d. (bytes : List ℕ) → IsFileOf d host.path host.size bytes → Ends (read_of (content_of keys bytes) at most) before.faults after.faults (result_map_both (λ n. take n buffer) (λ e. e) r))
      (λ d. (contents : ℕ → Content) → StandsOn (sealing_of keys) d live claims contents → IsAnswerIn (live_rows contents live) (read number at most) second (answer_in (read number at most) (reply_of r) buffer))
      ended (λ d ends contents stands.
      let are = live_contents (sealing_of keys) d live claims contents stands in
      let has = bytes_at keys d live contents number host.size host.path are is.size is.path in
      let content = good_content keys has.bytes (ap is_bad_size has.file.long ∙ is.good) in
      let rows : Rows = live_rows contents live in
      let here : row_of (live_rows contents live) number ≡ Some (live_row contents (number, is.node)) = row_there contents live number is.node is.there in
      let shown : kept_content is.node.kept.what (contents number) ≡ content_of keys has.bytes = sized_content is.node.kept.what (contents number) host.size sized_node ∙ has.content in
      let free : read_refusal (kind_of is.node.kept.what) (kept_content is.node.kept.what (contents number)) ≡ None =
      sized_refusal is.node.kept.what (kept_content is.node.kept.what (contents number)) host.size sized_node
      ∙ ap (λ (c : Content). cond (is_bad_content c) (Some refusals.Damaged) None) (shown ∙ content.2) in
      let answer = read_step rows number at most second (live_row contents (number, is.node)) (content_of keys has.bytes) here shown free in
      let slice : read_of (content_of keys has.bytes) at most ≡ slice_of (content_of keys has.bytes) at most = read_slice (content_of keys has.bytes) content.0 content.1 at most content.2 in
      may_answer rows number at most second before.faults after.faults (slice_of (content_of keys has.bytes) at most) buffer r answer.0 answer.1 room
      (subst (λ (o : Option (List ℕ)). Ends o before.faults after.faults (result_map_both (λ n. take n buffer) (λ e. e) r)) slice (ends has.bytes has.file)))

  pub read_bytes : (n : ℕ) (old new : List ℕ) → n ≤ most → most ≤ length new → drop n new ≡ drop n old → Ended (Ok n) new
      → IsRead keys live claims before after (read number at most) (replies.Count n) old new
  read_bytes n old new few room rest ended =
      let len : length (take n new) ≡ n = omega (arith, length-take n new) in record {
        answer = read_answer (Ok n) new (omega arith) ended;
        caused = tt;
        rows = tt;
        form = (few, len);
        count = tt;
        rest = ap (λ (k : ℕ). drop k new) len ∙ rest ∙ ap (λ (k : ℕ). drop k old) (sym len);
      }

  pub read_damaged : (old new : List ℕ) → new ≡ old → Ended (Err Damaged) new → IsRead keys live claims before after (read number at most) (replies.Refused refusals.Damaged) old new
  read_damaged old new same ended = record {
    answer = read_answer (Err Damaged) new tt ended;
    caused = tt;
    rows = tt;
    form = tt;
    count = tt;
    rest = same;
  }

  -- a fault of a read is answered only if the count rose
  read_cause : (told : Option Disk) (buffer : List ℕ) → Told told (HasContents (sealing_of keys) live) → RoseUntold told before.faults after.faults
      → HasEnded told keys host at most before.faults after.faults (Err Device) buffer → Rose before.faults after.faults
  read_cause None buffer has rose ended = rose
  read_cause (Some d) buffer has rose ended = let bytes = bytes_at keys d live has.contents number host.size host.path has.are is.size is.path in ended bytes.bytes bytes.file

  pub read_device : (old new : List ℕ) → new ≡ old → Told (disk_in before.log) (HasContents (sealing_of keys) live) → RoseUntold (disk_in before.log) before.faults after.faults → Ended (Err Device) new
      → IsRead keys live claims before after (read number at most) (replies.Refused refusals.DeviceFault) old new
  read_device old new same has rose ended = record {
    answer = read_answer (Err Device) new tt ended;
    caused = read_cause (disk_in before.log) new has rose ended;
    rows = tt;
    form = tt;
    count = tt;
    rest = same;
  }

-- ---- refusals

early_by : (what : What) (content : Content) (refusal : Refusal) → ((size : ℕ) → size_in what ≡ Some size → is_bad_content content ≡ is_bad_size size) → read_fault_of what ≡ Some refusal
    → read_refusal (kind_of what) (kept_content what content) ≡ Some refusal
early_by (KeptFile size) content refusal same is = ap (λ (b : Bool). cond b (Some refusals.Damaged) None) (same size refl) ∙ is
early_by (KeptLink size) content refusal same is = ap (λ (b : Bool). cond b (Some refusals.Damaged) None) (same size refl) ∙ is
early_by (KeptDir identifier folder) content refusal same is = is
early_by (KeptBad text) content refusal same is = is

abbrev Own : Option Refusal → Type 0
Own o = IfSome o (λ refusal. is_own refusal ≡ true)

own_if : (b : Bool) (x y : Option Refusal) → Own x → Own y → Own (cond b x y)
own_if true x y p q = p
own_if false x y p q = q

own_what : (what : What) → Own (read_fault_of what)
own_what (KeptFile size) = own_if (is_bad_size size) (Some refusals.Damaged) None refl tt
own_what (KeptLink size) = own_if (is_bad_size size) (Some refusals.Damaged) None refl tt
own_what (KeptDir identifier folder) = refl
own_what (KeptBad text) = refl

fault_own : (o : Option HeldNode) → Own (read_fault o)
fault_own None = refl
fault_own (Some node) = own_what node.kept.what

module _ (keys : KeyPair) (live : HeldTree) (claims : List (List ℕ × ℕ)) (before after : FolderView) (number at most : ℕ) where
  -- what refuses a read before the host file is looked at is the step's refusal
  refused_in : (d : Disk) (refusal : Refusal) (o : Option HeldNode) → node_in live number ≡ o → read_fault o ≡ Some refusal → (contents : ℕ → Content) → StandsOn (sealing_of keys) d live claims contents → (second : ℕ)
      → IsAnswerIn (live_rows contents live) (read number at most) second (refuses refusal)
  refused_in d refusal None none is contents stands second =
      let rows : Rows = live_rows contents live in
      let absent : row_of (live_rows contents live) number ≡ None = row_absent contents live number none in
      subst (λ (r : Refusal). IsAnswerIn (live_rows contents live) (read number at most) second (refuses r)) (same_Some refusals.Removed refusal is)
      (past rows second absent)
    where
      past : (rows : Rows) (second : ℕ) → row_of rows number ≡ None → IsAnswerIn rows (read number at most) second (refuses refusals.Removed)
      past rows second absent = inl (sym (answer_of (step_removed rows (read number at most) second absent)))
  refused_in d refusal (Some node) there is contents stands second =
      let rows : Rows = live_rows contents live in
      let are = live_contents (sealing_of keys) d live claims contents stands in
      let here : row_of (live_rows contents live) number ≡ Some (live_row contents (number, node)) = row_there contents live number node there in
      let early : read_refusal (kind_of node.kept.what) (kept_content node.kept.what (contents number)) ≡ Some refusal =
      early_by node.kept.what (contents number) refusal (λ size sized.
      let long : size_of live number ≡ Some size = ap (option_and_then (λ (node : HeldNode). size_in node.kept.what)) there ∙ sized in
      let path = path_there live number size stands.holds.is_tree long in
      let has = bytes_at keys d live contents number size path.0 are long path.1 in
      ap is_bad_content has.content ∙ bad_content keys has.bytes ∙ ap is_bad_size has.file.long) is in
      inl (sym (answer_of (step_refused rows (read number at most) second (live_row contents (number, node)) refusal here early)))

  pub read_refused : (refusal : Refusal) (buffer : List ℕ) → read_fault (node_in live number) ≡ Some refusal → IsRead keys live claims before after (read number at most) (replies.Refused refusal) buffer buffer
  read_refused refusal buffer is =
      let own : is_own refusal ≡ true = subst (λ (o : Option Refusal). IfSome o (λ r. is_own r ≡ true)) is (fault_own (node_in live number)) in record {
        answer = λ second. told_always (disk_in before.log)
            (λ d. (contents : ℕ → Content) → StandsOn (sealing_of keys) d live claims contents → IsAnswerIn (live_rows contents live) (read number at most) second (refuses refusal))
            (λ d contents stands. refused_in d refusal (node_in live number) refl is contents stands second);
        caused = own_cause (read number at most) (Rose before.faults after.faults) ⊥ refusal own;
        rows = tt;
        form = tt;
        count = tt;
        rest = refl;
      }
