-- What waits before and after a change of a file's content that waits too.
use Rattle.std.proofs.Common.{◌≡◌, ◌≤◌, ℕ, List, [], length, map, Option, Some, None, IsSome, Result, Ok, Err, OnOk, refl, sym, ap, ◌∙◌, subst, inl, inr, arith}
use Rattle.std.specs.Int.{div_ceil}
use Rattle.std.specs.Option.{option_map}
use Rattle.std.specs.List.{range_with_len}
use Rattle.std.specs.Fork.{slice_chunk}
use Rattle.std.proofs.lemmas.List.{length-map}
use Rattle.std.proofs.lemmas.List.FromFn.{length-range_with_len}
use Rattle.outside.specs.Calls.{Told, Changes, Extends}
use Rattle.outside.specs.Disk.{Disk, Path as HostPath, node_at as thing_at, file as host_file}
use Rattle.outside.specs.Images.{Log, now}
use Rattle.outside.proofs.Told.{told_then, told_both, told_from, told_new, changed_by, both_changed, changed_from, unchanged}
use Rattle.deeds.specs.Deeds.{PlainDeed}
use Rattle.deeds.specs.Repeatable.{journal_file, new_file}
use Rattle.pending_files.specs.Pending.{IsInside, HasRoom}
use Rattle.pending_files.specs.Laid.{CanWait, laid, laid_log}
use Rattle.pending_files.proofs.Laying.{none_waits, same_told}
use Rattle.chunk_journal.specs.Journal.{AnyMoment, HasCommitted, IsAlike, IsQuiet}
use Rattle.vault_keys.specs.Keys.{KeyPair}
use Rattle.tree_model.specs.Rows.{Content}
use Rattle.tree_model.specs.Asked.{PlainRequest}
use Rattle.tree_model.specs.Step.{Answer}
use Rattle.clear_tree.specs.Walk.{Sealing}
use Rattle.tree_loading.specs.Format.{sealing_of}
use Rattle.live_tree.specs.Held.{HeldTree, path_of}
use Rattle.live_tree_laws.specs.Writing.{IsRewritten}
use Rattle.content_laws.specs.Rewriting.{Rewriting, rewritten}
use Rattle.write_back.specs.Deeds.{rewriting_in}
use Rattle.content_writer.specs.Sealed.{nonces_of}
use Rattle.write_back.specs.Shown.{HasFile}
use Rattle.node_changes.specs.Changed.{StandsOn, IsStepAnswer, IsLate}
use Rattle.node_changes.specs.Within.{AreWithin}
use Rattle.node_changes.proofs.Beside.{stands_beside}
use Rattle.file_changes.specs.Held.{RowsAreRewritten}
use Rattle.file_changes.specs.Steps.{ChangesContent}
use Rattle.file_changes.specs.Files.{IsSealedFor, IsSealedIn}
use Rattle.file_changes.specs.Waiting.{HasPut, HasWritten, IsAtRestOver, IsFlush, IsNotFlushed, MayBeFlushed}
use Rattle.file_changes.proofs.Within.{path_within, rewriting_within}
use Rattle.file_changes.proofs.Standing.{HeldFile, TreeAfter, there, old, old_long, answered, shows, spares, still_stands}
use Rattle.file_changes.proofs.Telling.{ToldFile, Stands}

-- ---- a change that waits

-- the journal is quiet, what waits can be done, and a host file at a path has so many bytes once it is
pub record IsReadyOver (waiting : List PlainDeed) (path : HostPath) (len : ℕ) (log : Log) : Type 0 where
  pub quiet : IsQuiet log
  pub waits : CanWait waiting (now log)
  pub there : HasFile waiting path len (now log)

-- A change of such a host file waits besides: what waited before may have been committed, and over what waited after that the file is
-- rewritten, and nothing else.
pub record IsPutBehind (path : HostPath) (len : ℕ) (rewriting : Rewriting) (waiting waiting' : List PlainDeed) (old new : Log) : Type 0 where
  pub middle : List PlainDeed
  pub flushed : MayBeFlushed waiting middle old new
  pub are : waiting' ≡ rewriting_in path len rewriting middle
  pub waits : CanWait waiting' (now new)
  pub is : (bytes : List ℕ) → thing_at (laid middle (now new)) path ≡ Some (host_file bytes)
      → IsRewritten (laid middle (now new)) (laid waiting' (now new)) path (rewritten bytes rewriting)

-- ---- what is laid over a log tells the log, and what waits

pub kept_log : (waiting waiting' : List PlainDeed) (log log' : Option Log) → option_map (laid_log waiting') log' ≡ option_map (laid_log waiting) log → log' ≡ log
kept_log waiting waiting' log log' same = (same_told waiting' waiting log' log same).0

pub kept_waiting : (waiting waiting' : List PlainDeed) (log log' : Option Log) → option_map (laid_log waiting') log' ≡ option_map (laid_log waiting) log
    → Told log (λ (l : Log). waiting' ≡ waiting)
kept_waiting waiting waiting' log log' same =
    told_from log (λ (l : Log). waiting' ≡ waiting)
    (λ l is. (same_told waiting' waiting log' log same).1 (subst (λ (o : Option Log). IsSome o) (sym (kept_log waiting waiting' log log' same ∙ is)) refl))

-- and if both stayed, so does what is laid
pub laid_still : (waiting waiting' : List PlainDeed) (log log' : Option Log) → waiting' ≡ waiting → log' ≡ log → option_map (laid_log waiting') log' ≡ option_map (laid_log waiting) log
laid_still waiting waiting' log log' same still = ap (λ (w : List PlainDeed). option_map (laid_log w) log') same ∙ ap (λ (o : Option Log). option_map (laid_log waiting) o) still

-- what is told of a log with what waits is told of it as it is laid
told_laid : (waiting : List PlainDeed) (log : Option Log) (P : Log → Type 0) → Told log (λ (l : Log). P (laid_log waiting l)) → Told (option_map (laid_log waiting) log) P
told_laid waiting None P p = tt
told_laid waiting (Some l) P p = p

pub stands_laid : (s : Sealing) (live : HeldTree) (claims : List (List ℕ × ℕ)) (waiting : List PlainDeed) (log : Option Log) → Told log (IsAtRestOver s live claims waiting)
    → Told (option_map (laid_log waiting) log) (Stands s live claims)
stands_laid s live claims waiting log rest =
    told_laid waiting log (Stands s live claims)
    (told_then log (IsAtRestOver s live claims waiting) (λ (l : Log). Stands s live claims (laid_log waiting l)) rest (λ l r. (r.contents, r.stands)))

-- reads keep the log, and what waits
module _ (waiting between : List PlainDeed) (log log_between : Option Log) (kept : option_map (laid_log between) log_between ≡ option_map (laid_log waiting) log) where
  -- what was told before them is told still
  pub told_still : (P : List PlainDeed → Log → Type 0) → Told log (P waiting) → Told log_between (P between)
  told_still P told =
      subst (λ (o : Option Log). Told o (P between)) (sym (kept_log waiting between log log_between kept))
      (told_both log (P waiting) (λ (l : Log). between ≡ waiting) (P between) told (kept_waiting waiting between log log_between kept)
      (λ l p e. subst (λ (w : List PlainDeed). P w l) (sym e) p))

  -- what was sealed by them is sealed still
  pub sealed_still : (keys read : KeyPair) (path : HostPath) (size : ℕ) (r : Rewriting) (change : Content → Option Content) → read ≡ keys
      → IsSealedIn read path size r change (option_map (laid_log waiting) log) → IsSealedIn keys path size r change (option_map (laid_log between) log_between)
  sealed_still keys read path size r change same sealed =
      subst (λ (o : Option Log). IsSealedIn keys path size r change o) (sym kept)
      (subst (λ (k : KeyPair). IsSealedIn k path size r change (option_map (laid_log waiting) log)) same sealed)

  -- a change since is one from before them on
  pub changed_since : (P : List PlainDeed → Log → Log → Type 0) (log' : Option Log) → Changes log_between log' (P between) → Changes log log' (P waiting)
  changed_since P log' changed =
      changed_from log log' (λ (l : Log). between ≡ waiting) (P between) (P waiting) (λ x y e p. subst (λ (w : List PlainDeed). P w x y) e p) (kept_waiting waiting between log log_between kept)
      (subst (λ (o : Option Log). Changes o log' (P between)) (kept_log waiting between log log_between kept) changed)

  -- and so is a commit of what waits that failed
  pub not_flushed : (s : Sealing) (request : PlainRequest) (live : HeldTree) (claims : List (List ℕ × ℕ)) → ((d : Disk) → IsLate s request d live claims)
      → (log' : Option Log) → Changes log_between log' (AnyMoment between) → Changes log log' (IsNotFlushed s request live claims waiting)
  not_flushed s request live claims late log' any =
      changed_by log log' (AnyMoment waiting) (IsNotFlushed s request live claims waiting) (λ x y h. record { late = late (laid waiting (now x)); any_moment = h }) (changed_since AnyMoment log' any)

-- ---- what was committed, or waits still

-- a file that isn't in the folder itself is none of the journal's
same_file : (path : HostPath) → IsInside path → (a b : Disk) → IsAlike a b → thing_at b path ≡ thing_at a path
same_file path inside a b same = same path (λ e. apart journal_file refl e) (λ e. apart new_file refl e)
  where
    apart : (p : HostPath) → length p ≡ 1 → path ≡ p → ⊥
    apart p one e = omega (arith, inside.deep, ap length e)

module _ (waiting middle : List PlainDeed) (old new : Log) (flushed : MayBeFlushed waiting middle old new) where
  -- P of what waits still over a log
  by_flush : (P : List PlainDeed → Log → Type 0) → P waiting old → (IsFlush waiting old new → P [] new) → P middle new
  by_flush P still done = elim flushed [
    | inl kept ↦ subst (λ (l : Log). P middle l) (sym kept.1) (subst (λ (m : List PlainDeed). P m old) (sym kept.0) still)
    | inr flush ↦ subst (λ (m : List PlainDeed). P m new) (sym flush.0) (done flush.1)
  ]

  pub quiet_after : IsQuiet old → IsQuiet new
  quiet_after quiet = by_flush (λ m l. IsQuiet l) quiet (λ flush. flush.committed.at_rest)

  pub waits_after : CanWait waiting (now old) → CanWait middle (now new)
  waits_after waits = by_flush (λ m l. CanWait m (now l)) waits (λ flush. none_waits (now new))

  module _ (waits : CanWait waiting (now old)) where
    alike : IsFlush waiting old new → IsAlike (laid waiting (now old)) (now new)
    alike flush = flush.committed.after (laid waiting (now old)) waits.does

    pub stands_after : (s : Sealing) (live : HeldTree) (claims : List (List ℕ × ℕ)) (contents : ℕ → Content) → StandsOn s (laid waiting (now old)) live claims contents
        → StandsOn s (laid middle (now new)) live claims contents
    stands_after s live claims contents stands =
        by_flush (λ m l. StandsOn s (laid m (now l)) live claims contents) stands
        (λ flush. stands_beside s (laid waiting (now old)) (now new) live claims contents stands flush.committed.at_rest.steady.tree (alike flush))

    pub file_after : (path : HostPath) → IsInside path → thing_at (laid middle (now new)) path ≡ thing_at (laid waiting (now old)) path
    file_after path inside =
        by_flush (λ m l. thing_at (laid m (now l)) path ≡ thing_at (laid waiting (now old)) path) refl
        (λ flush. same_file path inside (laid waiting (now old)) (now new) (alike flush))

pub ready_after : (waiting middle : List PlainDeed) (path : HostPath) (len : ℕ) → IsInside path → (old new : Log) → MayBeFlushed waiting middle old new → IsReadyOver waiting path len old
    → IsReadyOver middle path len new
ready_after waiting middle path len inside old new flushed ready =
    let quiet = quiet_after waiting middle old new flushed ready.quiet in
    record {
      quiet = quiet;
      waits = waits_after waiting middle old new flushed ready.waits;
      there = record {
        tree = quiet.steady.tree;
        bytes = ready.there.bytes;
        here = file_after waiting middle old new flushed ready.waits path inside ∙ ready.there.here;
        long = ready.there.long;
      };
    }

-- such a host file, once what waits is done after a flush
pub told_file_behind : (waiting middle : List PlainDeed) (path : HostPath) (len : ℕ) → IsInside path → (old new : Option Log) → Told old (IsReadyOver waiting path len)
    → Changes old new (MayBeFlushed waiting middle) → Told new (λ (l : Log). HasFile middle path len (now l))
told_file_behind waiting middle path len inside old new ready flushed =
    told_new old new (λ x y. IsReadyOver waiting path len x × MayBeFlushed waiting middle x y) (λ (l : Log). HasFile middle path len (now l))
    (λ x y p. (ready_after waiting middle path len inside x y p.1 p.0).there)
    (changed_from old new (IsReadyOver waiting path len) (MayBeFlushed waiting middle) (λ x y. IsReadyOver waiting path len x × MayBeFlushed waiting middle x y) (λ x y r f. (r, f)) ready flushed)

-- ---- room

pub never_flushed : (waiting : List PlainDeed) (log : Option Log) → Changes log log (MayBeFlushed waiting waiting)
never_flushed waiting log = unchanged log log (MayBeFlushed waiting waiting) refl (λ l. inl (refl, refl))

-- once nothing waits there is room
pub room_after : {X E : Type 0} (result : Result X E) (waiting : List PlainDeed) (path : HostPath) (chunks : ℕ) → waiting ≡ [] → IsInside path → chunks ≤ 64
    → OnOk result (HasRoom waiting path chunks)
room_after (Err error) waiting path chunks none inside few = tt
room_after (Ok x) waiting path chunks none inside few =
    subst (λ (w : List PlainDeed). HasRoom w path chunks) (sym none) (record { inside = inside; fits = omega arith; files = λ no. omega arith })

pub flushed_after : {X E : Type 0} (result : Result X E) (waiting waiting' : List PlainDeed) (old new : Option Log) → waiting' ≡ [] → OnOk result (Changes old new (HasCommitted waiting))
    → Changes old new (AnyMoment waiting) → OnOk result (Changes old new (MayBeFlushed waiting waiting'))
flushed_after (Err error) waiting waiting' before after none committed any = tt
flushed_after (Ok x) waiting waiting' before after none committed any =
    changed_by before after (λ x y. HasCommitted waiting x y × AnyMoment waiting x y) (MayBeFlushed waiting waiting') (λ x y h. inr (none, record { committed = h.0; any_moment = h.1 }))
    (both_changed before after (HasCommitted waiting) (AnyMoment waiting) committed any)

-- ---- the number of chunks

pub chunk_count_is : (bytes : List ℕ) (size : ℕ) → length (map (slice_chunk bytes size) (range_with_len 0 (div_ceil (length bytes) size))) ≡ div_ceil (length bytes) size
chunk_count_is bytes size = length-map (range_with_len 0 (div_ceil (length bytes) size)) (slice_chunk bytes size) ∙ length-range_with_len 0 (div_ceil (length bytes) size)

-- ---- a change is put after it

-- what is known of a put, by what is told of the calls before and after it
pub put_behind : (path : HostPath) (len : ℕ) (r r' : Rewriting) (waiting middle waiting' : List PlainDeed) (old new new' : Option Log) → r' ≡ r → new' ≡ new
    → Changes old new (MayBeFlushed waiting middle) → waiting' ≡ rewriting_in path len r' middle → Told new' (λ (l : Log). CanWait waiting' (now l))
    → Told new (λ (l : Log). (bytes : List ℕ) → thing_at (laid middle (now l)) path ≡ Some (host_file bytes) → IsRewritten (laid middle (now l)) (laid waiting' (now l)) path (rewritten bytes r'))
    → Changes old new' (IsPutBehind path len r waiting waiting')
put_behind path len r r' waiting middle waiting' old new new' same_r same_log flushed are waits is =
    subst (λ (o : Option Log). Changes old o (IsPutBehind path len r waiting waiting')) (sym same_log)
    (subst (λ (x : Rewriting). Changes old new (IsPutBehind path len x waiting waiting')) same_r
    (go old new flushed (subst (λ (o : Option Log). Told o (λ (l : Log). CanWait waiting' (now l))) same_log waits) is))
  where
    go : (o n : Option Log) → Changes o n (MayBeFlushed waiting middle) → Told n (λ (l : Log). CanWait waiting' (now l))
        → Told n (λ (l : Log). (bytes : List ℕ) → thing_at (laid middle (now l)) path ≡ Some (host_file bytes) → IsRewritten (laid middle (now l)) (laid waiting' (now l)) path (rewritten bytes r'))
        → Changes o n (IsPutBehind path len r' waiting waiting')
    go None None f w i = tt
    go None (Some y) f w i = absurd f
    go (Some x) None f w i = absurd f
    go (Some x) (Some y) f w i = record { middle = middle; flushed = f; are = are; waits = w; is = i }

-- what is read of a file in it
abbrev pub behind_read : (file : HeldFile) (path : HostPath) → path_of file.live file.number ≡ Some path → (read : KeyPair) → read ≡ file.keys → (waiting : List PlainDeed) (log : Option Log) → Told log (IsAtRestOver (sealing_of file.keys) file.live file.claims waiting) → ToldFile
behind_read file path path_is read same waiting log rest = record {
  file = file;
  path = path;
  path_is = path_is;
  read = read;
  same = same;
  log = option_map (laid_log waiting) log;
  rest = stands_laid (sealing_of file.keys) file.live file.claims waiting log rest;
}

-- a file of a tree that stands on the folder with what waits laid over it
pub record FileBehind : Type 0 where
  pub file : HeldFile
  pub path : HostPath
  pub path_is : path_of file.live file.number ≡ Some path
  pub inside : IsInside path
  pub waiting : List PlainDeed
  pub log : Option Log
  pub rest : Told log (IsAtRestOver (sealing_of file.keys) file.live file.claims waiting)

module _ (at : FileBehind) where
  open at use {file, path, path_is, inside, waiting, log, rest, file.{keys, live, claims, number, size}}

  abbrev s : Sealing
  s = sealing_of keys

  -- ---- before it

  ready_here : (l : Log) → IsAtRestOver s live claims waiting l → IsReadyOver waiting path size l
  ready_here l r = record {
    quiet = r.quiet;
    waits = r.waits;
    there = record {
      tree = r.quiet.steady.tree;
      bytes = old file (laid waiting (now l)) r.contents r.stands;
      here = there file (laid waiting (now l)) r.contents r.stands path path_is;
      long = old_long file (laid waiting (now l)) r.contents r.stands;
    };
  }

  pub ready : Told log (IsReadyOver waiting path size)
  ready = told_then log (IsAtRestOver s live claims waiting) (IsReadyOver waiting path size) rest ready_here

  -- ---- it waits
  module _ (r : Rewriting) (change : Content → Option Content) (sealed : IsSealedIn keys path size r change (option_map (laid_log waiting) log)) (second : ℕ) (tree_after : TreeAfter file r None second)
      (waiting' : List PlainDeed) where
    open tree_after use {live as live', claims as claims'}

    module _ (x y : Log) (at_rest : IsAtRestOver (sealing_of keys) live claims waiting x) (can : IsSealedFor keys path size r change (laid waiting (now x))) (put : IsPutBehind path size r waiting waiting' x y) where
      abbrev over : Disk
      over = laid put.middle (now y)

      same_here : thing_at (laid put.middle (now y)) path ≡ thing_at (laid waiting (now x)) path
      same_here = file_after waiting put.middle x y put.flushed at_rest.waits path inside

      can_here : IsSealedFor keys path size r change (laid put.middle (now y))
      can_here bytes file = can bytes (record { there = sym same_here ∙ file.there; long = file.long })

      is_here : (contents : ℕ → Content) (stands : StandsOn (sealing_of keys) (laid put.middle (now y)) live claims contents)
          → IsRewritten (laid put.middle (now y)) (laid waiting' (now y)) path (rewritten (old file (laid put.middle (now y)) contents stands) r)
      is_here contents stands = put.is (old file over contents stands) (there file over contents stands path path_is)

      rests : IsAtRestOver (sealing_of keys) live' claims' waiting' y
      rests =
          let stands = stands_after waiting put.middle x y put.flushed at_rest.waits s live claims at_rest.contents at_rest.stands in
          let still = still_stands file over at_rest.contents stands path path_is r change can_here (laid waiting' (now y)) (is_here at_rest.contents stands) second None tree_after in
          record { quiet = quiet_after waiting put.middle x y put.flushed at_rest.quiet; waits = put.waits; contents = still.0; stands = still.1 }

      module _ (request : PlainRequest) (answer : Answer) (its : ChangesContent (sealing_of keys) live claims number change None second request answer) (rows : RowsAreRewritten live live' number None second) where
        step_answers : IsStepAnswer (sealing_of keys) request second answer (laid put.middle (now y)) live claims
        step_answers contents stands = answered file over contents stands path path_is r change can_here second None request answer (its over contents stands)

        has_put : HasPut (sealing_of keys) request second answer live live' claims claims' waiting waiting' x y
        has_put = record {
          middle = put.middle;
          flushed = put.flushed;
          path = path;
          len = size;
          rewriting = r;
          are = put.are;
          within = λ all. subst AreWithin (sym put.are) (rewriting_within path (path_within live number path path_is) size r put.middle all);
          strays = λ contents stands. spares file over contents stands path path_is r change can_here (laid waiting' (now y)) (is_here contents stands);
          waits = put.waits;
          answer_is = step_answers;
          stepped = λ contents stands.
              shows file over contents stands path path_is r change can_here (laid waiting' (now y)) (is_here contents stands) second None tree_after request answer
              (its over contents stands) rows;
        }

    abbrev All : Log → Log → Type 0
    All x y = IsAtRestOver s live claims waiting x × IsSealedFor keys path size r change (laid waiting (now x)) × IsPutBehind path size r waiting waiting' x y

    told_sealed : (o : Option Log) → IsSealedIn keys path size r change (option_map (laid_log waiting) o) → Told o (λ (l : Log). IsSealedFor keys path size r change (laid waiting (now l)))
    told_sealed None p = tt
    told_sealed (Some l) p = p

    module _ (log' : Option Log) (put : Changes log log' (IsPutBehind path size r waiting waiting')) where
      all : Changes log log' All
      all =
          changed_from log log' (λ (l : Log). IsAtRestOver s live claims waiting l × IsSealedFor keys path size r change (laid waiting (now l))) (IsPutBehind path size r waiting waiting') All (λ x y c h. (c.0, c.1, h))
          (told_both log (IsAtRestOver s live claims waiting) (λ (l : Log). IsSealedFor keys path size r change (laid waiting (now l)))
          (λ (l : Log). IsAtRestOver s live claims waiting l × IsSealedFor keys path size r change (laid waiting (now l))) rest (told_sealed log sealed) (λ l a b. (a, b))) put

      pub rests_after : Told log' (IsAtRestOver (sealing_of keys) live' claims' waiting')
      rests_after = told_new log log' All (IsAtRestOver s live' claims' waiting') (λ x y h. rests x y h.0 h.1 h.2) all

      pub writes_put : (request : PlainRequest) (answer : Answer) (drew drew' : Option (List ℕ)) → ChangesContent (sealing_of keys) live claims number change None second request answer → RowsAreRewritten live live' number None second
          → Extends drew drew' (nonces_of r.sealed) → Changes log log' (HasWritten (sealing_of keys) request second answer live live' claims claims' waiting waiting' drew drew')
      unfolding has_put
      writes_put request answer drew drew' its rows drawn =
          changed_by log log' All (HasWritten s request second answer live live' claims claims' waiting waiting' drew drew')
          (λ x y h. record { put = has_put x y h.0 h.1 h.2 request answer its rows; nonces = drawn }) all

-- of what was written it is known that it was put
pub put_of : (s : Sealing) (request : PlainRequest) (second : ℕ) (answer : Answer) (live live' : HeldTree) (claims claims' : List (List ℕ × ℕ)) (waiting waiting' : List PlainDeed) (drew drew' : Option (List ℕ)) (log log' : Option Log)
    → Changes log log' (HasWritten s request second answer live live' claims claims' waiting waiting' drew drew') → Changes log log' (HasPut s request second answer live live' claims claims' waiting waiting')
put_of s request second answer live live' claims claims' waiting waiting' drew drew' log log' written =
    changed_by log log' (HasWritten s request second answer live live' claims claims' waiting waiting' drew drew') (HasPut s request second answer live live' claims claims' waiting waiting') (λ x y h. h.put) written
