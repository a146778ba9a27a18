-- Legal histories: which entries a store may answer, in order, from given rows on.
use Rattle.std.specs.Prelude.{◌≡◌, ◌⊎◌, ◌≢◌, ℕ, zero, suc, ◌≤◌, ◌^◌, ◌-◌, min, List, [], ◌∷◌, filter, Bool, true, false, ◌&&◌, ◌||◌, not, ◌==◌, Option, Some, None, is_some, IsNone, IsSome, ⊤, if◌then◌else◌}
use Rattle.std.specs.Option.{option_map_or}
use Rattle.outside.specs.Disk.{Path}
use Rattle.outside.specs.Calls.{Rose}
use Rattle.tree_model.specs.declared.refusal.Refusal.TheVariants as refusals
use Rattle.tree_model.specs.Rows.{Rows, row_of}
use Rattle.tree_model.specs.Asked.{PlainRequest, look, walk, open_node, create, read, list, write, remove, stat_of, change, sync, PlainReply, qid, walked, count, stat, done, refused, Asked}
use Rattle.tree_model.specs.Step.{Answer, refuses, step, early_refusal, new_name, truncates}

-- ---- entries

-- a count of faults before and after an entry
pub record Faults : Type 0 where
  pub before : ℕ
  pub after : ℕ

-- What a store makes of a request: what was asked and answered; the identifier that was drawn for it, if any; the counts of faults of
-- the folder and of the caller's random source; whether a commit failed in it; the new node's place, if it is taken; how many entries
-- no stop undoes once this one has ended; and the folder's moment at its end.
pub record Made : Type 0 where
  pub asked : Asked
  pub drawn : Option (List ℕ)
  pub folder : Faults
  pub entropy : Faults
  pub commit_failed : Bool
  pub taken : Option Path
  pub stable : ℕ
  pub moment : ℕ

-- an entry of a history: who asked, and what was made of it
pub record Entry : Type 0 where
  pub caller : ℕ
  pub made : Made

abbrev pub entry_of : ℕ → Made → Entry
entry_of caller made = record { caller = caller; made = made }

abbrev pub answer_of : Made → Answer
answer_of made = record { reply = made.asked.reply; bytes = made.asked.bytes }

-- the entries of a caller
abbrev pub entries_of : ℕ → List Entry → List Entry
entries_of caller entries = filter (λ entry. entry.caller == caller) entries

-- the entry of a number
abbrev pub entry_at : List Entry → ℕ → Option Entry
entry_at [] i = None
entry_at (entry ∷ entries) zero = Some entry
entry_at (entry ∷ entries) (suc i) = entry_at entries i

-- ---- which requests may do what

-- the requests on which memory may run out
abbrev pub MayLackMemory : PlainRequest → Type 0
MayLackMemory (look n) = ⊤
MayLackMemory (walk n names) = ⊤
MayLackMemory (open_node n mode) = ⊤
MayLackMemory (create n name is_dir mode) = ⊤
MayLackMemory (read n at most) = ⊥
MayLackMemory (list n after most) = ⊤
MayLackMemory (write n at bytes) = ⊥
MayLackMemory (remove n) = ⊤
MayLackMemory (stat_of n) = ⊤
MayLackMemory (change n c) = ⊤
MayLackMemory (sync n) = ⊥

-- the requests in which a commit may fail
abbrev pub MayCommit : PlainRequest → Type 0
MayCommit (look n) = ⊥
MayCommit (walk n names) = ⊥
MayCommit (open_node n mode) = truncates mode ≡ true
MayCommit (create n name is_dir mode) = ⊤
MayCommit (read n at most) = ⊥
MayCommit (list n after most) = ⊥
MayCommit (write n at bytes) = ⊤
MayCommit (remove n) = ⊤
MayCommit (stat_of n) = ⊥
MayCommit (change n c) = ⊤
MayCommit (sync n) = ⊤

-- the requests for which an identifier may be drawn: the making of a directory
abbrev pub MayDraw : PlainRequest → Type 0
MayDraw (look n) = ⊥
MayDraw (walk n names) = ⊥
MayDraw (open_node n mode) = ⊥
MayDraw (create n name is_dir mode) = is_dir ≡ true
MayDraw (read n at most) = ⊥
MayDraw (list n after most) = ⊥
MayDraw (write n at bytes) = ⊥
MayDraw (remove n) = ⊥
MayDraw (stat_of n) = ⊥
MayDraw (change n c) = ⊥
MayDraw (sync n) = ⊥

-- the requests that may put a node at a new place
abbrev pub MayPlace : PlainRequest → Type 0
MayPlace (look n) = ⊥
MayPlace (walk n names) = ⊥
MayPlace (open_node n mode) = ⊥
MayPlace (create n name is_dir mode) = ⊤
MayPlace (read n at most) = ⊥
MayPlace (list n after most) = ⊥
MayPlace (write n at bytes) = ⊥
MayPlace (remove n) = ⊥
MayPlace (stat_of n) = ⊥
MayPlace (change n c) = IsSome c.name
MayPlace (sync n) = ⊥

abbrev pub is_refusal : PlainReply → Bool
is_refusal (refused refusal) = true
is_refusal (qid q) = false
is_refusal (walked qids) = false
is_refusal (count n) = false
is_refusal (stat n) = false
is_refusal done = false

-- the requests that no stop undoes once they are answered: a sync, and each change of the tree's shape or of a length
abbrev pub is_stable : PlainRequest → Bool
is_stable (look n) = false
is_stable (walk n names) = false
is_stable (open_node n mode) = false
is_stable (create n name is_dir mode) = true
is_stable (read n at most) = false
is_stable (list n after most) = false
is_stable (write n at bytes) = false
is_stable (remove n) = true
is_stable (stat_of n) = false
is_stable (change n c) = is_some c.name || is_some c.length
is_stable (sync n) = true

-- ---- causes, which are counts and flags alone

-- what has to be so for a refusal that isn't the tree's own
abbrev pub HasCause : Made → PlainReply → Type 0
HasCause made (refused refusals.DeviceFault) = Rose made.folder.before made.folder.after
HasCause made (refused refusals.RandomFault) = Rose made.entropy.before made.entropy.after
HasCause made (refused refusals.OutOfMemory) = MayLackMemory made.asked.request
HasCause made (refused (refusals.PlaceTaken path)) = MayPlace made.asked.request × (made.taken ≡ Some path)
HasCause made (refused (refusals.Exhausted ticket)) = ⊥
HasCause made reply = ⊤

-- a store that stopped at an entry answers just that, with the entry's number as far as 64 bits go; another never does
abbrev pub stopped_reply : ℕ → PlainReply
stopped_reply f = refused (refusals.Stopped (min f (2 ^ 64 - 1)))

abbrev pub is_stopped : PlainReply → Bool
is_stopped (refused (refusals.Stopped f)) = true
is_stopped reply = false

-- what the entries so far leave but for the rows: how many there are, whose commit failed, the counts of faults of the folder and of
-- each caller's random source, how many no stop undoes, and the folder's moment
pub record Tally : Type 0 where
  pub count : ℕ
  pub stopped : Option ℕ
  pub folder_faults : ℕ
  pub entropy_faults : ℕ → ℕ
  pub stable : ℕ
  pub moment : ℕ

abbrev pub next : Tally → Entry → Tally
next tally entry = record {
  count = suc tally.count;
  stopped = if entry.made.commit_failed then Some tally.count else tally.stopped;
  folder_faults = entry.made.folder.after;
  entropy_faults = λ caller. if caller == entry.caller then entry.made.entropy.after else tally.entropy_faults caller;
  stable = entry.made.stable;
  moment = entry.made.moment;
}

abbrev pub after : Tally → List Entry → Tally
after tally [] = tally
after tally (entry ∷ entries) = after (next tally entry) entries

-- An entry that may come next as far as its counts, flags and causes go: no count falls, a fault is answered for its cause, a commit
-- that failed is answered as the folder's fault and stops the store for good, and what was answered as stable is held.
pub record IsCaused (tally : Tally) (entry : Entry) : Type 0 where
  pub running : IsNone tally.stopped → HasCause entry.made entry.made.asked.reply × (is_stopped entry.made.asked.reply ≡ false)
  pub stopped : (f : ℕ) → tally.stopped ≡ Some f → entry.made.asked.reply ≡ stopped_reply f
  pub flag : entry.made.commit_failed ≡ true →
      (entry.made.asked.reply ≡ refused refusals.DeviceFault) × MayCommit entry.made.asked.request
  pub drawn : IsSome entry.made.drawn → MayDraw entry.made.asked.request
  pub folder_since : tally.folder_faults ≤ entry.made.folder.before
  pub folder : entry.made.folder.before ≤ entry.made.folder.after
  pub entropy_since : tally.entropy_faults entry.caller ≤ entry.made.entropy.before
  pub entropy : entry.made.entropy.before ≤ entry.made.entropy.after
  pub stable_since : tally.stable ≤ entry.made.stable
  pub stable_within : entry.made.stable ≤ suc tally.count
  pub kept : is_stable entry.made.asked.request ≡ true → is_refusal entry.made.asked.reply ≡ false → entry.made.stable ≡ suc tally.count
  pub moment_since : tally.moment ≤ entry.made.moment

abbrev pub AreCaused : Tally → List Entry → Type 0
AreCaused tally [] = ⊤
AreCaused tally (entry ∷ entries) = IsCaused tally entry × AreCaused (next tally entry) entries

-- ---- answers

-- the request puts a node at a new place, if the step answers it
abbrev pub places : Rows → PlainRequest → Bool
places rows (look n) = false
places rows (walk n names) = false
places rows (open_node n mode) = false
places rows (create n name is_dir mode) = true
places rows (read n at most) = false
places rows (list n after most) = false
places rows (write n at bytes) = false
places rows (remove n) = false
places rows (stat_of n) = false
places rows (change n c) = option_map_or (λ row. is_some (new_name row c)) (row_of rows n) false
places rows (sync n) = false

-- what the step answers; but if a node would be put at a place that is taken, that it is taken
abbrev pub answer_where : Rows → PlainRequest → Option Path → Answer → Answer
answer_where rows request taken said =
    if places rows request && not (is_refusal said.reply)
    then option_map_or (λ path. refuses (refusals.PlaceTaken path)) taken said
    else said

abbrev pub answer_in : Rows → Made → Answer
answer_in rows made = answer_where rows made.asked.request made.taken (step rows made.asked.request made.asked.second).answer

-- The answer of a store that hasn't stopped: the tree's, or a fault. A fault never masks a refusal that comes before the work begins.
abbrev pub IsAnswered : Rows → Made → Type 0
IsAnswered rows made =
    (answer_of made ≡ answer_in rows made)
    ⊎ ((answer_of made ≡ refuses refusals.DeviceFault) × IsNone (early_refusal rows made.asked.request))
    ⊎ ((answer_of made ≡ refuses refusals.RandomFault) × IsNone (early_refusal rows made.asked.request))
    ⊎ ((answer_of made ≡ refuses refusals.OutOfMemory)
    × ((step rows made.asked.request made.asked.second).answer ≢ refuses refusals.Removed))

-- the rows after an entry, which counts if its reply is no refusal
abbrev pub rows_then : Rows → Made → Rows
rows_then rows made = if is_refusal made.asked.reply then rows else (step rows made.asked.request made.asked.second).rows

-- the rows after the entries, taken in turn
abbrev pub rows_after : Rows → List Entry → Rows
rows_after rows [] = rows
rows_after rows (entry ∷ entries) = rows_after (rows_then rows entry.made) entries

-- the rows after the first k entries
abbrev pub rows_at : Rows → List Entry → ℕ → Rows
rows_at rows [] k = rows
rows_at rows (entry ∷ entries) zero = rows
rows_at rows (entry ∷ entries) (suc k) = rows_at (rows_then rows entry.made) entries k

-- each entry is answered in the rows before it, until the store stops
abbrev pub AreAnswered : Rows → Tally → List Entry → Type 0
AreAnswered rows tally [] = ⊤
AreAnswered rows tally (entry ∷ entries) =
    (IsNone tally.stopped → IsAnswered rows entry.made) × AreAnswered (rows_then rows entry.made) (next tally entry) entries

-- ---- legal histories

-- what a history begins with: the counts of faults of the folder and of each caller's random source, and the folder's
-- moment
pub record Origin : Type 0 where
  pub folder_faults : ℕ
  pub entropy_faults : ℕ → ℕ
  pub moment : ℕ

abbrev pub tally_at : Origin → Tally
tally_at origin = record {
  count = 0;
  stopped = None;
  folder_faults = origin.folder_faults;
  entropy_faults = origin.entropy_faults;
  stable = 0;
  moment = origin.moment;
}

abbrev pub tally_of : Origin → List Entry → Tally
tally_of origin entries = after (tally_at origin) entries

-- A legal history: its entries are numbered 0, 1, .., each is answered in the rows before it and for its cause, and no count that has
-- to grow falls. From an entry on whose commit failed each answer is that the store stopped there.
pub record IsLegal (rows : Rows) (origin : Origin) (entries : List Entry) : Type 0 where
  pub caused : AreCaused (tally_at origin) entries
  pub answered : AreAnswered rows (tally_at origin) entries

-- no count of a history is above these
pub record IsUpTo (end : Origin) (tally : Tally) : Type 0 where
  pub folder : tally.folder_faults ≤ end.folder_faults
  pub entropy : (caller : ℕ) → tally.entropy_faults caller ≤ end.entropy_faults caller
  pub moment : tally.moment ≤ end.moment
