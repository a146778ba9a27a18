-- What a change answers and keeps, by the paths that it has flushed, what the host's call did and what the diary got.
use Rattle.std.proofs.Common.{◌≡◌, ℕ, List, Option, Result, Ok, Err, OnOk, OnErr, IsErrOf, Contains, sym, ap, subst, ◌∙◌, string_bytes}
use Rattle.outside.specs.declared.folder.FolderErr.{FolderErr}
use Rattle.outside.specs.declared.folder.FolderErr.TheVariants.{Failed, Unfit, Memory}
use Rattle.outside.specs.Calls.{Told, Changes}
use Rattle.outside.specs.Disk.{Path}
use Rattle.outside.specs.Changes.{Change, CanDo, done}
use Rattle.outside.specs.Images.{Did}
use Rattle.outside.proofs.Told.{changed_by, changed_from, through, told_new}
use Rattle.host_calls.specs.Story.{Story, disk_now}
use Rattle.host_calls.specs.Calls.{IsTextOf, AtPath, HasNoted}
use Rattle.host_folder.specs.Held.{IsHeld}
use Rattle.host_folder.specs.Answers.{IsAnswer, IsNoted}
use Rattle.host_folder.specs.Telling.{told_if}
use Rattle.host_folder.specs.Behind.{story_of, IsKept, IsComposed}
use Rattle.host_folder.specs.declared.host.Host.{Host}
use Rattle.host_folder.specs.declared.touched.Touched.{Touched}
use Rattle.host_folder.proofs.Keeping.{held_more}
use Rattle.host_folder.proofs.Answering.{Took, took, IsDone, found_done}
use Rattle.host_folder.proofs.Shown.{changes_too}
use Rattle.host_folder.proofs.Telling.{told_again}

-- ---- more paths that the next sync flushes

-- more paths are kept than before, and all else is as it was
pub record IsTouched {H : Type 0} (old new : Host H) : Type 0 where
  pub touched : (other : Path) → Contains old.touched.paths.items other → Contains new.touched.paths.items other
  pub moved : (other : Path) → Contains old.moved.paths.items other → Contains new.moved.paths.items other
  pub rest : new ≡ record old { touched = new.touched; moved = new.moved }

-- none is kept apart
pub touched_alone : {H : Type 0} (old new : Host H) → ((other : Path) → Contains old.touched.paths.items other → Contains new.touched.paths.items other)
    → new ≡ record old { touched = new.touched } → IsTouched old new
touched_alone {H = H} old new more rest =
    let same : new.moved ≡ old.moved = ap (λ (h : Host H). h.moved) rest in
    record {
      touched = more;
      moved = λ other has. subst (λ (m : Touched). Contains m.paths.items other) (sym same) has;
      rest = rest ∙ ap (λ (m : Touched). let h : Host H = record old { touched = new.touched; moved = m } in h) (sym same);
    }

-- where files were moved to is kept as it was
pub unmoved_still : {H : Type 0} (old new : Host H) (path : Path) → new ≡ record old { touched = new.touched } → ¬ Contains old.moved.paths.items path → Contains new.moved.paths.items path → ⊥
unmoved_still {H = H} old new path rest unmoved has =
    unmoved (subst (λ (m : Touched). Contains m.paths.items path) (ap (λ (h : Host H). h.moved) rest) has)

-- the text of a rename's target, too
pub target_still : {H : Type 0} (top : H → List ℕ) (old new : Host H) (path : Path) → IsTouched old new
    → IsTextOf (top old.host) (string_bytes old.target.room) path → IsTextOf (top new.host) (string_bytes new.target.room) path
target_still {H = H} top old new path is text = subst (λ (h : Host H). IsTextOf (top h.host) (string_bytes h.target.room) path) (sym is.rest) text

pub story_still : {H : Type 0} (tell : H → Option Story) (old new : Host H) → IsTouched old new → story_of tell new ≡ story_of tell old
story_still {H = H} tell old new is = ap (λ (h : Host H). story_of tell h) is.rest

kept_touched : {H : Type 0} (top : H → List ℕ) (old : Host H) (touched moved : Touched) (s : Story)
    → ((other : Path) → Contains old.touched.paths.items other → Contains touched.paths.items other)
    → ((other : Path) → Contains old.moved.paths.items other → Contains moved.paths.items other)
    → IsKept top old s → IsKept top (record old { touched = touched; moved = moved }) s
kept_touched top old touched moved s more too kept = record {
  texts = record { base = kept.texts.base; target = kept.texts.target };
  held = held_more s old.touched.paths.items old.moved.paths.items touched.paths.items moved.paths.items old.flush_failed more too kept.held;
}

kept_still : {H : Type 0} (top : H → List ℕ) (old new : Host H) (s : Story) → IsTouched old new → IsKept top old s → IsKept top new s
kept_still {H = H} top old new s is kept =
    subst (λ (h : Host H). IsKept top h s) (sym is.rest) (kept_touched top old new.touched new.moved s is.touched is.moved kept)

composed_still : {H : Type 0} (top : H → List ℕ) (old new : Host H) (path : Path) (s : Story) → IsTouched old new → IsComposed top old path s → IsComposed top new path s
composed_still {H = H} top old new path s is composed = record {
  kept = kept_still top old new s is composed.kept;
  text = subst (λ (h : Host H). IsTextOf (top h.host) (string_bytes h.paths.room) path) (sym is.rest) composed.text;
}

-- all is kept still, whatever else holds of the story
pub told_composed : {H : Type 0} (tell : H → Option Story) (top : H → List ℕ) (old new : Host H) (path : Path) (E : Story → Type 0) → IsTouched old new
    → Told (story_of tell old) (λ s. IsComposed top old path s × E s) → Told (story_of tell new) (IsKept top new)
told_composed tell top old new path E is told =
    told_again (story_of tell old) (story_of tell new) (λ s. IsComposed top old path s × E s) (IsKept top new) (story_still tell old new is) (λ s p. kept_still top old new s is p.0.kept) told

-- and if none is kept apart
pub composed_alone : {H : Type 0} (tell : H → Option Story) (top : H → List ℕ) (old new : Host H) (path : Path) (E : Story → Type 0)
    → ((other : Path) → Contains old.touched.paths.items other → Contains new.touched.paths.items other) → new ≡ record old { touched = new.touched }
    → Told (story_of tell old) (λ s. IsComposed top old path s × E s) → Told (story_of tell new) (IsKept top new)
composed_alone tell top old new path E more rest told = told_composed tell top old new path E (touched_alone old new more rest) told

pub kept_alone : {H : Type 0} (tell : H → Option Story) (top : H → List ℕ) (old new : Host H) (E : Story → Type 0)
    → ((other : Path) → Contains old.touched.paths.items other → Contains new.touched.paths.items other) → new ≡ record old { touched = new.touched }
    → Told (story_of tell old) (λ s. IsKept top old s × E s) → Told (story_of tell new) (IsKept top new)
kept_alone tell top old new E more rest told =
    let is = touched_alone old new more rest in
    told_again (story_of tell old) (story_of tell new) (λ s. IsKept top old s × E s) (IsKept top new) (story_still tell old new is) (λ s p. kept_still top old new s is p.0) told

-- ---- what a change answers and keeps

pub record IsAnswered {H T : Type 0} (top : H → List ℕ) (change : Change) (r : Result T FolderErr) (new : Host H) (old last : Story) : Type 0 where
  pub kept : IsKept top new last
  pub answer : IsAnswer change r old last

-- the same of what is told: what each change of a host owes
abbrev pub HasAnswered : {H T : Type 0} → (H → Option Story) → (H → List ℕ) → Change → Result T FolderErr → Host H → Host H → Type 0
HasAnswered tell top change r old new = record {
  kept : Told (story_of tell new) (IsKept top new);
  answer : Changes (story_of tell old) (story_of tell new) (IsAnswer change r);
  no_memory : IsErrOf r Memory → ⊥;
}

answered_by : {H T : Type 0} (tell : H → Option Story) (top : H → List ℕ) (change : Change) (r : Result T FolderErr) (old new : Host H) → (IsErrOf r Memory → ⊥)
    → Changes (story_of tell old) (story_of tell new) (IsAnswered top change r new) → HasAnswered tell top change r old new
answered_by tell top change r old new never changed = record {
  kept = told_new (story_of tell old) (story_of tell new) (IsAnswered top change r new) (IsKept top new) (λ s t is. is.kept) changed;
  answer = changed_by (story_of tell old) (story_of tell new) (IsAnswered top change r new) (IsAnswer change r) (λ s t is. is.answer) changed;
  no_memory = never;
}

answered_at : {H T : Type 0} (top : H → List ℕ) (change : Change) (r : Result T FolderErr) (host : Host H) (last : H) (s t : Story) → top last ≡ top host.host → IsKept top host s
    → IsDone change r host.touched.paths.items host.moved.paths.items host.flush_failed s t → IsAnswered top change r (record host { host = last }) s t
answered_at top change r host last s t same kept is = record {
  kept = record { texts = record { base = kept.texts.base ∙ sym same; target = kept.texts.target ∙ sym same }; held = is.held };
  answer = is.answer;
}

-- one change of the host's own story, by what was told before it
changed_told : {H T : Type 0} (tell : H → Option Story) (top : H → List ℕ) (old host : Host H) (last : H) (change : Change) (r : Result T FolderErr) (P : Story → Type 0) → (IsErrOf r Memory → ⊥) → IsTouched old host
    → Told (story_of tell host) P → Changes (tell host.host) (tell last) (λ s t. P s → IsAnswered top change r (record host { host = last }) s t)
    → HasAnswered tell top change r old (record host { host = last })
changed_told tell top old host last change r P never is told changed =
    answered_by tell top change r old (record host { host = last }) never
    (subst (λ (o : Option Story). Changes o (told_if host.tells (tell last)) (IsAnswered top change r (record host { host = last }))) (story_still tell old host is)
    (changed_from (story_of tell host) (told_if host.tells (tell last)) P (λ s t. P s → IsAnswered top change r (record host { host = last }) s t) (IsAnswered top change r (record host { host = last }))
    (λ s t p f. f p) told
    (changes_too host.tells (tell host.host) (tell last) (λ s t. P s → IsAnswered top change r (record host { host = last }) s t) changed)))

-- ---- a call of the host at the path that was composed

pub took_at : {T : Type 0} (r : Result T FolderErr) (base text : List ℕ) (path : Path) (Whole No Part : Path → Story → Story → Type 0) (s t : Story) → IsTextOf base text path
    → Took r (λ a b. AtPath base text (λ p. Whole p a b)) (λ a b. AtPath base text (λ p. No p a b)) (λ a b. AtPath base text (λ p. Part p a b)) s t → Took r (Whole path) (No path) (Part path) s t
took_at (Ok x) base text path Whole No Part s t is at = at path is
took_at (Err Unfit) base text path Whole No Part s t is at = at path is
took_at (Err Failed) base text path Whole No Part s t is at = at path is
took_at (Err Memory) base text path Whole No Part s t is at = absurd at

-- what the call answers of the host before and after it
abbrev pub HasCalled : {H T : Type 0} → (H → Option Story) → (H → List ℕ) → Result T FolderErr → List ℕ → H → H → (Path → Story → Story → Type 0) → (Path → Story → Story → Type 0) → (Path → Story → Story → Type 0) → Type 0
HasCalled tell top r text old new Whole No Part = record {
  done : OnOk r (Changes (tell old) (tell new) (λ s t. AtPath (top old) text (λ p. Whole p s t)));
  unfit : IsErrOf r Unfit → Changes (tell old) (tell new) (λ s t. AtPath (top old) text (λ p. No p s t));
  broken : OnErr r (Changes (tell old) (tell new) (λ s t. AtPath (top old) text (λ p. Part p s t)));
  no_memory : IsErrOf r Memory → ⊥;
  top : top new ≡ top old;
}

-- what its diary gets
abbrev pub HasNotes : {H : Type 0} → (H → Option Story) → (H → List ℕ) → H → H → (Story → Story → Type 0) → Type 0
HasNotes tell top old new P = record { noted : Changes (tell old) (tell new) P; top : top new ≡ top old }

-- a change of a folder whose path was composed: what the host's call did, what the diary got, and why the change is done
pub record IsChanged {H T : Type 0} (tell : H → Option Story) (top : H → List ℕ) (change : Change) (r : Result T FolderErr)
    (old host : Host H) (last : H) (path : Path) (E : Story → Type 0) (Whole No Part : Path → Story → Story → Type 0) : Type 0 where
  pub next : H
  pub text : List ℕ
  pub touched : IsTouched old host
  pub composed : text ≡ string_bytes host.paths.room
  pub told : Told (story_of tell old) (λ s. IsComposed top old path s × E s)
  pub called : HasCalled tell top r text host.host next Whole No Part
  pub noted : HasNotes tell top next last (IsNoted change r)
  pub done : (s t u : Story) → IsHeld s host.touched.paths.items host.moved.paths.items host.flush_failed → E s
      → Took r (Whole path) (No path) (Part path) s t → IsNoted change r t u
      → IsDone change r host.touched.paths.items host.moved.paths.items host.flush_failed s u

pub changed_at : {H T : Type 0} (tell : H → Option Story) (top : H → List ℕ) (change : Change) (r : Result T FolderErr) (old host : Host H)
    (last : H) (path : Path) (E : Story → Type 0) (Whole No Part : Path → Story → Story → Type 0)
    → IsChanged tell top change r old host last path E Whole No Part → HasAnswered tell top change r old (record host { host = last })
changed_at tell top change r old host last path E Whole No Part is =
    let text = is.text in
    let called = is.called in
    changed_told tell top old host last change r (λ s. IsComposed top host path s × E s) called.no_memory is.touched
    (told_again (story_of tell old) (story_of tell host) (λ s. IsComposed top old path s × E s) (λ s. IsComposed top host path s × E s)
    (story_still tell old host is.touched) (λ s p. (composed_still top old host path s is.touched p.0, p.1)) is.told)
    (through (tell host.host) (tell is.next) (tell last)
    (Took r (λ s t. AtPath (top host.host) text (λ p. Whole p s t)) (λ s t. AtPath (top host.host) text (λ p. No p s t))
    (λ s t. AtPath (top host.host) text (λ p. Part p s t)))
    (IsNoted change r)
    (λ s u. IsComposed top host path s × E s → IsAnswered top change r (record host { host = last }) s u)
    (λ s t u taken noted p. answered_at top change r host last s u (is.noted.top ∙ called.top) p.0.kept
    (is.done s t u p.0.kept.held p.1
    (took_at r (top host.host) text path Whole No Part s t
    (subst (λ (l : List ℕ). IsTextOf (top host.host) l path) (sym is.composed) p.0.text) taken) noted))
    (took r (tell host.host) (tell is.next) (λ s t. AtPath (top host.host) text (λ p. Whole p s t))
    (λ s t. AtPath (top host.host) text (λ p. No p s t)) (λ s t. AtPath (top host.host) text (λ p. Part p s t))
    called.done called.unfit called.broken called.no_memory)
    is.noted.noted)

-- ---- a change that finds itself done

pub found_at : {H : Type 0} (tell : H → Option Story) (top : H → List ℕ) (old host : Host H) (last : H) (change : Change) (E : Story → Type 0)
    → ((other : Path) → Contains old.touched.paths.items other → Contains host.touched.paths.items other) → host ≡ record old { touched = host.touched }
    → Told (story_of tell old) (λ s. IsKept top old s × E s) → HasNotes tell top host.host last (HasNoted (Did change))
    → ((s : Story) → IsHeld s host.touched.paths.items host.moved.paths.items host.flush_failed → E s → CanDo change (disk_now s) × (disk_now s ≡ done change (disk_now s)))
    → HasAnswered tell top change (Ok (tt {0})) old (record host { host = last })
found_at tell top old host last change E more rest told note law =
    let is = touched_alone old host more rest in
    let none : Result (Unit {0}) FolderErr = Ok tt in
    changed_told tell top old host last change none (λ s. IsKept top host s × E s) (λ e. cc) is
    (told_again (story_of tell old) (story_of tell host) (λ s. IsKept top old s × E s) (λ s. IsKept top host s × E s) (story_still tell old host is)
    (λ s p. (kept_still top old host s is p.0, p.1)) told)
    (changed_by (tell host.host) (tell last) (HasNoted (Did change)) (λ s t. IsKept top host s × E s → IsAnswered top change none (record host { host = last }) s t)
    (λ s t noted p.
    let there = law s p.0.held p.1 in
    answered_at top change none host last s t note.top p.0
    (found_done tt change s t host.touched.paths.items host.moved.paths.items host.flush_failed p.0.held there.0 there.1 noted)) note.noted)
