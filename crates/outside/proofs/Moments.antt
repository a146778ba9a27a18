-- How the images of a folder go on from call to call.
use Rattle.std.proofs.Common.{◌≡◌, ⊎_elim, ℕ, suc, ◌-◌, ◌≤◌, ◌<◌, List, [], ◌∷◌, ◌++◌, length, drop, refl, sym, ap, subst, ◌∙◌, arith, append_assoc, length-append}
use Rattle.std.proofs.lemmas.Bool.{cases_lt}
use Rattle.outside.specs.Disk.{Disk}
use Rattle.outside.specs.Images.{Call, Log, IsImage, moment, log_at, adds, LeavesOnly}

drop_later : (call : Call) (calls : List Call) (m : ℕ) → m ≤ length calls → drop (length (call ∷ calls) - m) (call ∷ calls) ≡ drop (length calls - m) calls
drop_later call calls m le = let e : length (call ∷ calls) - m ≡ suc (length calls - m) = omega arith in ap (λ (k : ℕ). drop k (call ∷ calls)) e

drop_none : (calls : List Call) (m : ℕ) → length calls ≤ m → drop (length calls - m) calls ≡ calls
drop_none calls m le = let e : length calls - m ≡ 0 = omega arith in ap (λ (k : ℕ). drop k calls) e

at_end : (log : Log) (m : ℕ) → moment log ≤ m → log_at log m ≡ log
at_end log m le = λ i. record { start = log.start; calls = drop_none log.calls m le i }

at_earlier : (log : Log) (call : Call) (m : ℕ) → m ≤ moment log → log_at (adds log call) m ≡ log_at log m
at_earlier log call m le = λ i. record { start = log.start; calls = drop_later call log.calls m le i }

-- before the first call since
pub started : (log : Log) (P : Disk → Type 0) → ((c : Disk) → IsImage log c → P c) → LeavesOnly log log P
started log P here = record {
  start = refl;
  later = ([], refl);
  each = λ m from to c image. here c (subst (λ (l : Log). IsImage l c) (at_end log m from) image);
}

-- one call more
pub goes_on : (old mid : Log) (call : Call) (P : Disk → Type 0) → LeavesOnly old mid P → ((c : Disk) → IsImage (adds mid call) c → P c) → LeavesOnly old (adds mid call) P
goes_on old mid call P so_far here = record {
  start = so_far.start;
  later = (call ∷ so_far.later.0, λ i. call ∷ so_far.later.1 i);
  each = λ m from to c image. ⊎_elim
      (λ (past : m < suc (moment mid)). let le : m ≤ moment mid = omega arith in so_far.each m from le c (subst (λ (l : Log). IsImage l c) (at_earlier mid call m le) image))
      (λ (end : suc (moment mid) ≤ m). here c (subst (λ (l : Log). IsImage l c) (at_end (adds mid call) m (omega arith)) image))
      (cases_lt m (suc (moment mid)));
}

-- moments only rise
pub moment_later : (old new : Log) (P : Disk → Type 0) → LeavesOnly old new P → moment old ≤ moment new
moment_later old new P all = omega (arith, ap length all.later.1, length-append all.later.0 old.calls)

drop_since : (since calls : List Call) (m : ℕ) → m ≤ length calls → drop (length (since ++ calls) - m) (since ++ calls) ≡ drop (length calls - m) calls
drop_since [] calls m le = refl
drop_since (call ∷ since) calls m le = drop_later call (since ++ calls) m (omega (arith, length-append since calls)) ∙ drop_since since calls m le

-- an earlier moment is what it was
pub at_since : (old new : Log) (since : List Call) (m : ℕ) → new.start ≡ old.start → new.calls ≡ since ++ old.calls → m ≤ moment old → log_at new m ≡ log_at old m
at_since old new since m start is le =
    let e : drop (length new.calls - m) new.calls ≡ drop (length old.calls - m) old.calls = ap (λ (l : List Call). drop (length l - m) l) is ∙ drop_since since old.calls m le in
    λ i. record { start = start i; calls = e i }

-- one run after another
pub joined : (a b c : Log) (P : Disk → Type 0) → LeavesOnly a b P → LeavesOnly b c P → LeavesOnly a c P
joined a b c P first second = record {
  start = second.start ∙ first.start;
  later = (second.later.0 ++ first.later.0, second.later.1 ∙ ap (λ (l : List Call). second.later.0 ++ l) first.later.1 ∙ sym (append_assoc second.later.0 first.later.0 a.calls));
  each = λ m from to image is. ⊎_elim
      (λ (past : m < suc (moment b)). let le : m ≤ moment b = omega arith in first.each m from le image (subst (λ (l : Log). IsImage l image) (at_since b c second.later.0 m second.start second.later.1 le) is))
      (λ (end : suc (moment b) ≤ m). second.each m (omega arith) to image is)
      (cases_lt m (suc (moment b)));
}

-- one call more, if the log with it has a name
pub goes_to : (old mid new : Log) (call : Call) (P : Disk → Type 0) → LeavesOnly old mid P → new ≡ adds mid call → ((c : Disk) → IsImage new c → P c) → LeavesOnly old new P
goes_to old mid new call P so_far is here =
    subst (λ (l : Log). LeavesOnly old l P) (sym is) (goes_on old mid call P so_far (λ c image. here c (subst (λ (l : Log). IsImage l c) (sym is) image)))

-- the image at the last moment
pub ends : (old new : Log) (P : Disk → Type 0) → LeavesOnly old new P → (c : Disk) → IsImage new c → P c
ends old new P all c image = all.each (moment new) (moment_later old new P all) (omega arith) c (subst (λ (l : Log). IsImage l c) (sym (at_end new (moment new) (omega arith))) image)

-- what follows from what is said of the images
pub weaker : (old new : Log) (P Q : Disk → Type 0) → ((c : Disk) → P c → Q c) → LeavesOnly old new P → LeavesOnly old new Q
weaker old new P Q f all = record { start = all.start; later = all.later; each = λ m from to c image. f c (all.each m from to c image) }
