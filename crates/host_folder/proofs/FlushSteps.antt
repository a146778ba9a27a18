-- What a flush of one path after another brings to the disk.
use Rattle.std.proofs.Common.{suc, Result, Ok, Err, OnOk, OnErr, ◌≡◌, ◌⊎◌, ◌<◌, ◌≤◌, ◌+◌, ℕ, List, [], ◌∷◌, length, get_or, drop, Option, refl, sym, ap, subst, ◌∙◌, inl, inr, drop-cons, add-one}
use Rattle.std.proofs.lemmas.List.{drop_all}
use Rattle.outside.specs.declared.folder.FolderErr.{FolderErr}
use Rattle.outside.specs.Calls.{Changes}
use Rattle.outside.proofs.Told.{unchanged, changed_by, both_changed, through}
use Rattle.outside.specs.Disk.{Path}
use Rattle.host_calls.specs.declared.found.Found.{Found}
use Rattle.host_calls.specs.declared.found.Found.TheVariants.{Nothing, Other}
use Rattle.host_calls.specs.Story.{Story, IsSoundStory}
use Rattle.host_calls.specs.Calls.{IsTextOf, AtPath, IsFound, HasFlushed, HasDoubt}
use Rattle.host_folder.specs.Held.{IsSure, IsLater, HasCome}
use Rattle.host_folder.specs.Ready.{IsReady, IfReady}
use Rattle.host_folder.proofs.Keeping.{come_none, come_flushed, later_itself, later_flushed, later_then, later_doubt}

-- a path's text in a folder whose text is the host's own
pub named_by : (base top room : List ℕ) (path : Path) (story : Story) → IsReady base top story → IsTextOf base room path → IsTextOf top room path
named_by base top room path story ready text = subst (λ (b : List ℕ). IsTextOf b room path) ready.text text

-- nothing is there that could be flushed
pub come_nothing : (found : Found) (path : Path) (story : Story) → (found ≡ Nothing) ⊎ (found ≡ Other) → IsSoundStory story → IsFound found story path → HasCome path story story
come_nothing found path story (inl is) sound at = come_none path story sound (subst (λ (f : Found). IsFound f story path) is at)
come_nothing found path story (inr is) sound at = absurd (subst (λ (f : Found). IsFound f story path) is at)

pub later_here : (path : Path) (old new : Story) → IsSoundStory old → HasFlushed path old new → IsLater old new
later_here path old new sound is = subst (IsLater old) (sym is) (later_flushed path old.doubt old sound)

pub come_here : (path : Path) (old new : Story) → IsSoundStory old → HasFlushed path old new → HasCome path old new
come_here path old new sound is = subst (HasCome path old) (sym is) (come_flushed path old.doubt old sound refl)

-- the text of a path in a folder, when the host has the same one
there_by : (base top there shown : List ℕ) (path : Path) (s : Story) → there ≡ top → IsReady base top s → IsTextOf base shown path → IsTextOf there shown path
there_by base top there shown path s same ready named = subst (λ (t : List ℕ). IsTextOf t shown path) (sym same) (named_by base top shown path s ready named)

-- what a flush answers of what it leaves, and of what has come
left_by : {T : Type 0} (r : Result T FolderErr) (a b : Option Story) (base top there shown : List ℕ) (path : Path) → there ≡ top → IsTextOf base shown path
    → OnOk r (Changes a b (λ s t. AtPath there shown (λ p. HasFlushed p s t))) → OnErr r (Changes a b HasDoubt) → Changes a b (IfReady base top IsLater)
left_by (Ok x) a b base top there shown path same named done doubt =
    changed_by a b (λ s t. AtPath there shown (λ p. HasFlushed p s t)) (IfReady base top IsLater)
    (λ s t is ready. later_here path s t ready.sound (is path (there_by base top there shown path s same ready named))) done
left_by (Err e) a b base top there shown path same named done doubt =
    changed_by a b HasDoubt (IfReady base top IsLater) (λ s t is ready. subst (IsLater s) (sym is) (later_doubt s ready.sound)) doubt

come_by : {T : Type 0} (r : Result T FolderErr) (a b : Option Story) (base top there shown : List ℕ) (path : Path) → there ≡ top → IsTextOf base shown path
    → OnOk r (Changes a b (λ s t. AtPath there shown (λ p. HasFlushed p s t))) → OnOk r (Changes a b (IfReady base top (HasCome path)))
come_by (Ok x) a b base top there shown path same named done =
    changed_by a b (λ s t. AtPath there shown (λ p. HasFlushed p s t)) (IfReady base top (HasCome path))
    (λ s t is ready. come_here path s t ready.sound (is path (there_by base top there shown path s same ready named))) done
come_by (Err e) a b base top there shown path same named done = tt

-- the same after a look at the host, of a path whose text was composed
pub answers_later : {T : Type 0} (r : Result T FolderErr) (o a b : Option Story) (base top there room shown : List ℕ) (path : Path) → a ≡ o → there ≡ top → shown ≡ room → IsTextOf base room path
    → OnOk r (Changes a b (λ s t. AtPath there shown (λ p. HasFlushed p s t))) → OnErr r (Changes a b HasDoubt) → Changes o b (IfReady base top IsLater)
answers_later r o a b base top there room shown path seen same is named done doubt =
    subst (λ (s : Option Story). Changes s b (IfReady base top IsLater)) seen
    (left_by r a b base top there shown path same (subst (λ (t : List ℕ). IsTextOf base t path) (sym is) named) done doubt)

pub answers_come : {T : Type 0} (r : Result T FolderErr) (o a b : Option Story) (base top there room shown : List ℕ) (path : Path) → a ≡ o → there ≡ top → shown ≡ room → IsTextOf base room path
    → OnOk r (Changes a b (λ s t. AtPath there shown (λ p. HasFlushed p s t))) → OnOk r (Changes o b (IfReady base top (HasCome path)))
answers_come r o a b base top there room shown path seen same is named done =
    subst (λ (s : Option Story). OnOk r (Changes s b (IfReady base top (HasCome path)))) seen
    (come_by r a b base top there shown path same (subst (λ (t : List ℕ). IsTextOf base t path) (sym is) named) done)

-- the first of the paths that are left has come
pub sure_next : (old new : Story) (path : Path) (paths : List Path) → HasCome path old new → IsSure old (path ∷ paths) → IsSure new paths
sure_next old new path paths come is = record { sure = come.sure ∙ is.sure; loose = come.rest is.sure paths is.loose }

pub sure_more : (old new : Story) (paths : List Path) (index : ℕ) (path : Path) → index < length paths → path ≡ get_or paths index path → HasCome path old new → IsSure old (drop index paths) → IsSure new (drop (index + 1) paths)
sure_more old new paths index path within at come is =
    let first : drop index paths ≡ path ∷ drop (index + 1) paths = rw add-one (drop-cons paths index path within ∙ ap (λ (p : Path). p ∷ drop (suc index) paths) (sym at)) in
    sure_next old new path (drop (index + 1) paths) come (subst (IsSure old) first is)

pub sure_end : (story : Story) (paths : List Path) (index : ℕ) → length paths ≤ index → IsSure story (drop index paths) → IsSure story []
sure_end story paths index all is = subst (IsSure story) (drop_all index paths all) is

-- ---- one flush after another

pub ready_then : (base top here there : List ℕ) (s t : Story) → here ≡ base → there ≡ top → IsReady base top s → IsLater s t → IsReady here there t
ready_then base top here there s t same_base same_top ready later = record { sound = later.sound; text = same_base ∙ ready.text ∙ sym same_top }

pub later_more : (base top here there : List ℕ) (s t u : Story) → here ≡ base → there ≡ top → IfReady base top IsLater s t → IfReady here there IsLater t u → IfReady base top IsLater s u
later_more base top here there s t u same_base same_top first next ready =
    let later = first ready in
    later_then s t u later (next (ready_then base top here there s t same_base same_top ready later))

pub later_through : (a b c : Option Story) (base top here there : List ℕ) → here ≡ base → there ≡ top → Changes a b (IfReady base top IsLater) → Changes b c (IfReady here there IsLater) → Changes a c (IfReady base top IsLater)
later_through a b c base top here there same_base same_top first second =
    through a b c (IfReady base top IsLater) (IfReady here there IsLater) (IfReady base top IsLater) (λ s t u. later_more base top here there s t u same_base same_top) first second

-- what flushes of one path after another keep: the texts, what they leave, and what has come
pub record IsFlushing (own above here there : List ℕ) (a b : Option Story) (Come : Story → Story → Type 0) : Type 0 where
  pub base : here ≡ own
  pub top : there ≡ above
  pub later : Changes a b (IfReady own above IsLater)
  pub come : Changes a b (IfReady own above Come)

pub begins_flushing : (base top : List ℕ) (a : Option Story) (Come : Story → Story → Type 0) → ((s : Story) → IsReady base top s → Come s s) → IsFlushing base top base top a a Come
begins_flushing base top a Come come = record {
  base = refl;
  top = refl;
  later = unchanged a a (IfReady base top IsLater) refl (λ s ready. later_itself s ready.sound);
  come = unchanged a a (IfReady base top Come) refl come;
}

-- flushes, and then others: what has come by both
pub flushing_then : {own above here there beyond over : List ℕ} {a b c : Option Story} {P Q R : Story → Story → Type 0}
    → IsFlushing own above here there a b P → IsFlushing here there beyond over b c Q → ((s t u : Story) → P s t → Q t u → R s u)
    → IsFlushing own above beyond over a c R
flushing_then {own = own} {above = above} {here = here} {there = there} {a = a} {b = b} {c = c} {P = P} {Q = Q} {R = R} first next both =
    record {
      base = next.base ∙ first.base;
      top = next.top ∙ first.top;
      later = later_through a b c own above here there first.base first.top first.later next.later;
      come = through a b c
          (λ s t. IfReady own above IsLater s t × IfReady own above P s t)
          (IfReady here there Q)
          (IfReady own above R)
          (λ s t u so_far come ready.
          both s t u (so_far.1 ready) (come (ready_then own above here there s t first.base first.top ready (so_far.0 ready))))
          (both_changed a b (IfReady own above IsLater) (IfReady own above P) first.later first.come)
          next.come;
    }
