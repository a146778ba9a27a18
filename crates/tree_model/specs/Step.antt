-- What a tree of rows answers to a request that is made at a second, and what the rows are after it.
use Rattle.std.specs.Prelude.{◌≡◌, ⊤, ℕ, ◌+◌, ◌-◌, ◌/◌, ◌%◌, ◌^◌, suc, List, [], ◌∷◌, ◌++◌, length, map, filter, Bool, true, false, ◌&&◌, ◌||◌, not, Option, Some, None, is_some, unwrap_or, Result, Ok, Err, nat_lt, nat_le, ◌==◌, if◌then◌else◌}
use Rattle.std.specs.List.{list_any, concat}
use Rattle.std.specs.Option.{option_map, option_map_or}
use Rattle.std.specs.Ordering.{is_gt, nat_cmp}
use Rattle.std.specs.Cmp.Lexicographic.{slice_cmp}
use Rattle.std.specs.FinMap as finmap
use Rattle.std.specs.Str.{bytes_eq, is_utf8}
use Rattle.nfc_text.specs.Nfc.{nfc_of}
use Rattle.tree_model.specs.declared.refusal.Refusal.{Refusal}
use Rattle.tree_model.specs.declared.refusal.Refusal.TheVariants as refusals
use Rattle.tree_model.specs.declared.stat.Qid.{Qid}
use Rattle.tree_model.specs.Wire.{spelled_stat}
use Rattle.tree_model.specs.Names.{NameFault, not_utf8, empty, dots, forbidden, too_long, form_fault, clear_name}
use Rattle.tree_model.specs.Rows.{Kind, dir, file, link, bad, Content, bad_size, chunks, Row, Rows, root, is_dir, row_of, is_child, child_of, named_children, qid_of, mode_of, owner, shown_length, content_length, slice_of, stat_at}
use Rattle.tree_model.specs.Contents.{written, resized}
use Rattle.tree_model.specs.Asked.{PlainChange, PlainRequest, look, walk, open_node, create, read, list, write, remove, stat_of, change, sync, PlainReply, qid, walked, count, stat, done, refused}

-- an answer: the reply, and the bytes that it puts into the buffer
pub record Answer : Type 0 where
  pub reply : PlainReply
  pub bytes : List ℕ

abbrev pub says : PlainReply → Answer
says reply = record { reply = reply; bytes = [] }

abbrev pub refuses : Refusal → Answer
refuses refusal = says (refused refusal)

-- what a request leads to: the rows after it, and its answer
pub record Stepped : Type 0 where
  pub rows : Rows
  pub answer : Answer

abbrev pub stepped : Rows → Answer → Stepped
stepped rows answer = record { rows = rows; answer = answer }

abbrev pub node_of : PlainRequest → ℕ
node_of (look n) = n
node_of (walk n names) = n
node_of (open_node n mode) = n
node_of (create n name is_dir mode) = n
node_of (read n at most) = n
node_of (list n after most) = n
node_of (write n at bytes) = n
node_of (remove n) = n
node_of (stat_of n) = n
node_of (change n c) = n
node_of (sync n) = n

-- ---- rows that change

abbrev pub with_nodes : Rows → List Row → Rows
with_nodes rows nodes = record { nodes = nodes; next = rows.next; named_twice = rows.named_twice }

-- the rows with this in place of the row of its number
abbrev pub set_row : Rows → Row → Rows
set_row rows new = with_nodes rows (map (λ row. if row.number == new.number then new else row) rows.nodes)

-- a node that changed at a second
abbrev pub changed_at : ℕ → Row → Row
changed_at now row = record row { version = suc row.version; modified = now }

-- the rows after a directory changed at a second
abbrev pub change_dir : Rows → ℕ → ℕ → Rows
change_dir rows number now = with_nodes rows (map (λ row. if row.number == number then changed_at now row else row) rows.nodes)

-- ---- names

abbrev pub name_refusal : NameFault → Refusal
name_refusal not_utf8 = refusals.BadName
name_refusal empty = refusals.BadName
name_refusal dots = refusals.BadName
name_refusal forbidden = refusals.BadName
name_refusal (too_long n) = refusals.NameTooLong

-- what keeps bytes from being a name before their form NFC is needed
abbrev pub raw_name_refusal : List ℕ → Option Refusal
raw_name_refusal name = if is_utf8 name then option_map name_refusal (form_fault name) else Some refusals.BadName

-- ---- walking

abbrev pub dot_dot : List ℕ
dot_dot = 46 ∷ 46 ∷ []

abbrev pub found : Option Row → Result Row Refusal
found (Some row) = Ok row
found None = Err refusals.FileDoesNotExist

abbrev pub found_by_name : Rows → ℕ → Result (List ℕ) NameFault → Result Row Refusal
found_by_name rows n (Ok name) = found (child_of rows n name)
found_by_name rows n (Err fault) = Err (name_refusal fault)

-- from a node by one name: `..` leads to the parent, the root's being the root
abbrev pub walked_by : Rows → Row → List ℕ → Result Row Refusal
walked_by rows from name =
    if not (is_dir from.kind) then Err refusals.NotADirectory
    else if bytes_eq name dot_dot then found (row_of rows from.parent)
    else found_by_name rows from.number (clear_name name)

-- the qids of the nodes on the way along names, up to the first that is refused, and that refusal
abbrev pub walk_on : (Row → List Qid × Option Refusal) → Result Row Refusal → List Qid × Option Refusal
walk_on rest (Err refusal) = ([], Some refusal)
walk_on rest (Ok row) = (qid_of row ∷ (rest row).0, (rest row).1)

unfoldable pub walk_from : Rows → Row → List (List ℕ) → List Qid × Option Refusal
walk_from rows from [] = ([], None)
walk_from rows from (name ∷ names) = walk_on (λ row. walk_from rows row names) (walked_by rows from name)

-- a refusal at the first name is the answer, at a later one the qids so far
abbrev pub walk_answer : List Qid × Option Refusal → Answer
walk_answer ([], Some refusal) = refuses refusal
walk_answer (qids, refusal) = says (walked qids)

-- what keeps a node from being walked from, before a name's form NFC is needed
abbrev pub walk_refusal : Kind → List ℕ → Option Refusal
walk_refusal kind name =
    if not (is_dir kind) then Some refusals.NotADirectory
    else if bytes_eq name dot_dot then None
    else raw_name_refusal name

-- ---- opening

abbrev pub writes : ℕ → Bool
writes mode = (mode % 4 == 1) || (mode % 4 == 2)

abbrev pub truncates : ℕ → Bool
truncates mode = (mode / 16) % 2 == 1

abbrev pub is_bad_size : Content → Bool
is_bad_size bad_size = true
is_bad_size (chunks opens cells) = false

-- what keeps a node from being opened, before its content is looked at
abbrev pub open_refusal : Kind → Content → ℕ → Option Refusal
open_refusal bad content mode = Some refusals.Damaged
open_refusal dir content mode = if mode == 0 then None else Some refusals.IsADirectory
open_refusal link content mode = if writes mode || truncates mode then Some refusals.NotPermitted else None
open_refusal file content mode = if truncates mode && is_bad_size content then Some refusals.Damaged else None

-- a file of another content, at a second
abbrev pub with_content : Row → Content → ℕ → Row
with_content row content now = changed_at now (record row { content = content })

-- truncation makes the length 0, and counts as a change whatever the length was
abbrev pub open_step : Rows → Row → ℕ → ℕ → Stepped
open_step rows row mode now =
    if truncates mode then
    option_map_or
    (λ content. stepped (set_row rows (with_content row content now)) (says (qid (qid_of (with_content row content now)))))
    (resized row.content 0) (stepped rows (refuses refusals.Damaged))
    else stepped rows (says (qid (qid_of row)))

-- ---- creating

-- the most nodes that a tree has
abbrev pub node_limit : ℕ
node_limit = 1048576

abbrev pub is_full : Rows → Bool
is_full rows = nat_le node_limit (length rows.nodes) || nat_le (2 ^ 64 - 1) rows.next

abbrev pub create_refusal : Kind → List ℕ → Option Refusal
create_refusal kind name = if is_dir kind then raw_name_refusal name else Some refusals.NotADirectory

-- a new node: an empty file, or a directory without entries
abbrev pub new_row : Rows → Row → List ℕ → Bool → ℕ → Row
new_row rows parent name is_dir now = record {
  number = rows.next;
  parent = parent.number;
  name = name;
  kind = if is_dir then dir else file;
  content = chunks true [];
  foreign = false;
  shadowed = false;
  version = 0;
  modified = now;
}

abbrev pub with_new : Rows → Row → ℕ → Rows
with_new rows new now = record {
  nodes = (change_dir rows new.parent now).nodes ++ new ∷ [];
  next = suc rows.next;
  named_twice = rows.named_twice;
}

abbrev pub create_named : Rows → Row → Result (List ℕ) NameFault → Bool → ℕ → Stepped
create_named rows parent (Err fault) is_dir now = stepped rows (refuses (name_refusal fault))
create_named rows parent (Ok name) is_dir now =
    if is_some (child_of rows parent.number name) then stepped rows (refuses refusals.FileExists)
    else if is_full rows then stepped rows (refuses refusals.VaultFull)
    else stepped (with_new rows (new_row rows parent name is_dir now) now) (says (qid (qid_of (new_row rows parent name is_dir now))))

-- ---- reading

-- what keeps a node from being read, before its chunks are looked at
abbrev pub read_refusal : Kind → Content → Option Refusal
read_refusal dir content = Some refusals.IsADirectory
read_refusal bad content = Some refusals.Damaged
read_refusal file content = if is_bad_size content then Some refusals.Damaged else None
read_refusal link content = if is_bad_size content then Some refusals.Damaged else None

abbrev pub bytes_answer : Option (List ℕ) → Answer
bytes_answer None = refuses refusals.Damaged
bytes_answer (Some bytes) = record { reply = count (length bytes); bytes = bytes }

-- ---- listing

-- the name follows the last one that was given
abbrev pub is_behind : Option (List ℕ) → List ℕ → Bool
is_behind after name = option_map_or (λ last. is_gt (slice_cmp nat_cmp name last)) after true

-- the stats of a directory's nodes whose names follow this one, in the order of the names' bytes
abbrev pub stats_behind : Rows → ℕ → Option (List ℕ) → List (List ℕ)
stats_behind rows parent after =
    map (λ named. spelled_stat (stat_at named.1)) (filter (λ named. is_behind after named.0) (finmap.entries (named_children rows parent)))

-- as many of the stats, from the first on, as fit
unfoldable pub fitting : ℕ → List (List ℕ) → List (List ℕ)
fitting room [] = []
fitting room (s ∷ stats) = if nat_le (length s) room then s ∷ fitting (room - length s) stats else []

-- there is a stat to be given, and it doesn't fit
abbrev pub is_too_small : ℕ → List (List ℕ) → Bool
is_too_small room [] = false
is_too_small room (s ∷ stats) = nat_lt room (length s)

abbrev pub list_refusal : Rows → Row → Option (List ℕ) → ℕ → Option Refusal
list_refusal rows row after most =
    if not (is_dir row.kind) then Some refusals.NotADirectory
    else if is_too_small most (stats_behind rows row.number after) then Some refusals.CountTooSmall
    else None

abbrev pub list_answer : Rows → Row → Option (List ℕ) → ℕ → Answer
list_answer rows row after most = bytes_answer (Some (concat (fitting most (stats_behind rows row.number after))))

-- ---- writing

-- the largest file, and the largest gap past its end, in bytes
abbrev pub file_limit : ℕ
file_limit = 2 ^ 40

abbrev pub gap_limit : ℕ
gap_limit = 1048576

-- what keeps a content from being changed up to an end, after a gap from its own end up to `at`, before its chunks are looked at
abbrev pub growth_refusal : Content → ℕ → ℕ → Option Refusal
growth_refusal content at end =
    if is_bad_size content then Some refusals.Damaged
    else if nat_lt file_limit end then Some refusals.FileTooLarge
    else if nat_lt gap_limit (at - content_length content) then Some refusals.GapTooLarge
    else None

abbrev pub write_refusal : Kind → Content → ℕ → ℕ → Option Refusal
write_refusal dir content at len = Some refusals.IsADirectory
write_refusal bad content at len = Some refusals.Damaged
write_refusal link content at len = Some refusals.NotPermitted
write_refusal file content at len = if len == 0 then None else growth_refusal content at (at + len)

abbrev pub write_step : Rows → Row → ℕ → List ℕ → ℕ → Stepped
write_step rows row at bytes now =
    if length bytes == 0 then stepped rows (says (count 0))
    else
    option_map_or
    (λ content. stepped (set_row rows (with_content row content now)) (says (count (length bytes))))
    (written row.content at bytes) (stepped rows (refuses refusals.Damaged))

-- ---- removing

-- what keeps a node from being moved away: another entry of its name, further entries of its own folder, or, of a directory, an
-- identifier that is named twice
abbrev pub is_held : Rows → Row → Bool
is_held rows row = row.shadowed || (is_dir row.kind && rows.named_twice)

abbrev pub has_children : Rows → ℕ → Bool
has_children rows number = list_any (is_child number) rows.nodes

-- what keeps a node below the root from being removed
abbrev pub removal_refusal : Rows → Row → Kind → Option Refusal
removal_refusal rows row bad = Some refusals.Damaged
removal_refusal rows row dir =
    if has_children rows row.number then Some refusals.DirectoryNotEmpty
    else if row.foreign || is_held rows row then Some refusals.Foreign
    else None
removal_refusal rows row file = if is_held rows row then Some refusals.Foreign else None
removal_refusal rows row link = if is_held rows row then Some refusals.Foreign else None

abbrev pub remove_refusal : Rows → Row → Option Refusal
remove_refusal rows row = if row.number == root then Some refusals.NotPermitted else removal_refusal rows row row.kind

abbrev pub without_row : Rows → Row → ℕ → Rows
without_row rows old now = with_nodes rows (filter (λ row. not (row.number == old.number)) (change_dir rows old.parent now).nodes)

-- ---- changing

-- a field that is touched, and isn't as it is
abbrev pub is_other : Option ℕ → ℕ → Bool
is_other None is = false
is_other (Some x) is = not (x == is)

abbrev pub is_other_text : Option (List ℕ) → List ℕ → Bool
is_other_text None is = false
is_other_text (Some x) is = not (bytes_eq x is)

abbrev pub is_other_qid : Option Qid → Qid → Bool
is_other_qid None is = false
is_other_qid (Some q) is = not ((q.kind == is.kind) && (q.version == is.version) && (q.path == is.path))

-- a field other than name, length and mtime is touched and not as it is
abbrev pub touches_fixed : Row → PlainChange → Bool
touches_fixed row c =
    is_other c.kind 0 || is_other c.device 0 || is_other_qid c.qid (qid_of row) || is_other c.mode (mode_of row.kind)
    || is_other c.accessed row.modified || is_other_text c.owner owner || is_other_text c.group owner
    || is_other_text c.modifier owner

-- the name that is asked for, if its form NFC isn't the node's own
abbrev pub new_name : Row → PlainChange → Option (List ℕ)
new_name row c = option_map_or (λ name. if bytes_eq (nfc_of name) row.name then None else Some name) c.name None

-- the length that is asked for, if it isn't the node's own
abbrev pub new_length : Row → PlainChange → Option ℕ
new_length row c = option_map_or (λ n. if n == shown_length row then None else Some n) c.length None

-- what keeps a node from having another length, before its chunks are looked at
abbrev pub length_refusal : Kind → Content → ℕ → Option Refusal
length_refusal dir content n = Some refusals.IsADirectory
length_refusal bad content n = Some refusals.Damaged
length_refusal link content n = Some refusals.NotPermitted
length_refusal file content n = growth_refusal content n n

-- what keeps a node from having another name, before its form NFC is needed. Of the root any other name is refused, once it is known
-- to be another
abbrev pub rename_refusal : Row → List ℕ → Option Refusal
rename_refusal row name = if row.number == root then None else raw_name_refusal name

-- what keeps name and length from being changed, by the name that is asked for and the new length. If both are given, whether there
-- are two changes at a time needs the name's form NFC
abbrev pub place_refusal : Row → Option (List ℕ) → Option ℕ → Option Refusal
place_refusal row None None = None
place_refusal row None (Some n) = length_refusal row.kind row.content n
place_refusal row (Some name) None = rename_refusal row name
place_refusal row (Some name) (Some n) = None

abbrev pub is_bad : Kind → Bool
is_bad bad = true
is_bad dir = false
is_bad file = false
is_bad link = false

abbrev pub change_refusal : Row → PlainChange → Option Refusal
change_refusal row c =
    if is_bad row.kind then Some refusals.Damaged
    else if touches_fixed row c then Some refusals.NotPermitted
    else place_refusal row c.name (new_length row c)

-- the node after a change at a second; the mtime that is asked for is kept
abbrev pub with_mtime : PlainChange → Row → Row
with_mtime c row = record row { modified = unwrap_or c.modified row.modified }

abbrev pub rename_step : Rows → Row → PlainChange → Result (List ℕ) NameFault → ℕ → Stepped
rename_step rows row c (Err fault) now = stepped rows (refuses (name_refusal fault))
rename_step rows row c (Ok name) now =
    if is_some (child_of rows row.parent name) then stepped rows (refuses refusals.FileExists)
    else if is_held rows row then stepped rows (refuses refusals.Foreign)
    else stepped (set_row (change_dir rows row.parent now) (with_mtime c (record row { name = name }))) (says done)

abbrev pub resize_step : Rows → Row → PlainChange → ℕ → ℕ → Stepped
resize_step rows row c n now =
    option_map_or (λ refusal. stepped rows (refuses refusal))
    (length_refusal row.kind row.content n)
    (option_map_or (λ content. stepped (set_row rows (with_mtime c (with_content row content now))) (says done))
    (resized row.content n) (stepped rows (refuses refusals.Damaged)))

-- by the new name and the new length, of which there is one at most
abbrev pub place_step : Rows → Row → PlainChange → Option (List ℕ) → Option ℕ → ℕ → Stepped
place_step rows row c None None now = stepped (set_row rows (with_mtime c row)) (says done)
place_step rows row c None (Some n) now = resize_step rows row c n now
place_step rows row c (Some name) None now =
    if row.number == root then stepped rows (refuses refusals.NotPermitted) else rename_step rows row c (clear_name name) now
place_step rows row c (Some name) (Some n) now = stepped rows (refuses refusals.OneChangeAtATime)

abbrev pub change_step : Rows → Row → PlainChange → ℕ → Stepped
change_step rows row c now = place_step rows row c (new_name row c) (new_length row c) now

-- ---- the step

-- the refusals that come before the work on a request begins: before a name's form NFC, the folder's bytes or a drawn byte are needed
abbrev pub early : Rows → Row → PlainRequest → Option Refusal
early rows row (look n) = None
early rows row (walk n []) = None
early rows row (walk n (name ∷ names)) = walk_refusal row.kind name
early rows row (open_node n mode) = open_refusal row.kind row.content mode
early rows row (create n name is_dir mode) = create_refusal row.kind name
early rows row (read n at most) = read_refusal row.kind row.content
early rows row (list n after most) = list_refusal rows row after most
early rows row (write n at bytes) = write_refusal row.kind row.content at (length bytes)
early rows row (remove n) = remove_refusal rows row
early rows row (stat_of n) = None
early rows row (change n c) = change_refusal row c
early rows row (sync n) = None

-- what a request leads to if no refusal comes before the work
abbrev pub work : Rows → Row → PlainRequest → ℕ → Stepped
work rows row (look n) now = stepped rows (says (qid (qid_of row)))
work rows row (walk n names) now = stepped rows (walk_answer (walk_from rows row names))
work rows row (open_node n mode) now = open_step rows row mode now
work rows row (create n name is_dir mode) now = create_named rows row (clear_name name) is_dir now
work rows row (read n at most) now = stepped rows (bytes_answer (slice_of row.content at most))
work rows row (list n after most) now = stepped rows (list_answer rows row after most)
work rows row (write n at bytes) now = write_step rows row at bytes now
work rows row (remove n) now = stepped (without_row rows row now) (says done)
work rows row (stat_of n) now = stepped rows (record { reply = stat (length (spelled_stat (stat_at row))); bytes = spelled_stat (stat_at row) })
work rows row (change n c) now = change_step rows row c now
work rows row (sync n) now = stepped rows (says done)

-- the refusal of a request before the work, if there is one: a number without a row is removed
abbrev pub early_refusal : Rows → PlainRequest → Option Refusal
early_refusal rows request = option_map_or (λ row. early rows row request) (row_of rows (node_of request)) (Some refusals.Removed)

-- what a request leads to, which is made at a second. A refusal leaves the rows
unfoldable pub step : Rows → PlainRequest → ℕ → Stepped
step rows request now =
    option_map_or (λ refusal. stepped rows (refuses refusal)) (early_refusal rows request)
    (option_map_or (λ row. work rows row request now) (row_of rows (node_of request)) (stepped rows (refuses refusals.Removed)))

-- ---- requests that change no rows

abbrev pub IsReading : PlainRequest → Type 0
IsReading (look n) = ⊤
IsReading (walk n names) = ⊤
IsReading (open_node n mode) = truncates mode ≡ false
IsReading (create n name is_dir mode) = ⊥
IsReading (read n at most) = ⊤
IsReading (list n after most) = ⊤
IsReading (write n at bytes) = ⊥
IsReading (remove n) = ⊥
IsReading (stat_of n) = ⊤
IsReading (change n c) = ⊥
IsReading (sync n) = ⊤
