-- How flushes of a folder that is opened bring all to the disk that an earlier run left off it.
use Rattle.std.proofs.Common.{◌≡◌, ◌<◌, ◌≤◌, ◌+◌, ℕ, suc, false, List, [], ◌∷◌, ◌++◌, length, get_or, drop, Option, sym, ap, subst, ◌∙◌, string_bytes, drop-cons, add-one}
use Rattle.std.specs.List.{flat_map}
use Rattle.std.proofs.lemmas.List.{drop_all}
use Rattle.outside.specs.Calls.{Told, Changes}
use Rattle.outside.proofs.Told.{told_then, told_both, changed_from, both_changed}
use Rattle.outside.specs.Disk.{Path, parent}
use Rattle.host_calls.specs.Story.{Story}
use Rattle.host_folder.specs.First.{first_paths, with_folder, to_settle}
use Rattle.host_folder.specs.Held.{IsSure, IsLater, HasCome, HaveCome, HaveComeFirst}
use Rattle.host_folder.specs.Opened.{IsOpened}
use Rattle.host_folder.specs.Ready.{IsReady, IfReady}
use Rattle.host_folder.specs.Behind.{story_of, HasTexts, IsKept}
use Rattle.host_folder.specs.declared.host.Host.{Host}
use Rattle.host_folder.proofs.Telling.{told_after}
use Rattle.host_folder.proofs.Keeping.{held_opened}
use Rattle.host_folder.proofs.FlushSteps.{IsFlushing, sure_next, later_through}
use Rattle.host_folder.proofs.Shown.{told_too}
use Rattle.host_folder.proofs.HostSteps.{kept_as}

-- ---- paths with their folders, one after another

-- what is at the paths before an index, and in their folders, has come, whatever others there are
abbrev pub ComesTo : List Path → ℕ → Story → Story → Type 0
ComesTo paths index old new =
    (others : List Path) → IsSure old (flat_map with_folder paths ++ others)
    → IsSure new (flat_map with_folder (drop index paths) ++ others)

-- a path and then its folder
pub pair_comes : (path folder : Path) (old mid new : Story) → folder ≡ parent path → HasCome path old mid → HasCome folder mid new
    → HaveComeFirst (with_folder path) old new
pair_comes path folder old mid new is first second others sure =
    sure_next mid new (parent path) others (subst (λ (p : Path). HasCome p mid new) is second)
    (sure_next old mid path (parent path ∷ others) first sure)

pub next_comes : (paths : List Path) (index : ℕ) (path : Path) (start old new : Story) → index < length paths
    → path ≡ get_or paths index path → ComesTo paths index start old → HaveComeFirst (with_folder path) old new
    → ComesTo paths (index + 1) start new
next_comes paths index path start old new within at so_far come others sure =
    let front : drop index paths ≡ path ∷ drop (index + 1) paths =
    rw add-one (drop-cons paths index path within ∙ ap (λ (p : Path). p ∷ drop (suc index) paths) (sym at)) in
    come (flat_map with_folder (drop (index + 1) paths) ++ others)
    (subst (λ (l : List Path). IsSure old (flat_map with_folder l ++ others)) front (so_far others sure))

pub come_all : (paths : List Path) (index : ℕ) (old new : Story) → length paths ≤ index → ComesTo paths index old new → HaveComeFirst (flat_map with_folder paths) old new
come_all paths index old new all so_far others sure =
    subst (λ (l : List Path). IsSure new (flat_map with_folder l ++ others)) (drop_all index paths all) (so_far others sure)

-- ---- an opening

opened_ready : (base top : List ℕ) (paths : List Path) (s : Story) → base ≡ top → IsOpened paths s → IsReady base top s
opened_ready base top paths s is opened = record { sound = opened.begun.sound; text = is }

-- what flushes leave of a folder that is opened
pub later_opened : (a b : Option Story) (base top : List ℕ) (paths : List Path) → Told a (λ _. base ≡ top) → Told a (IsOpened paths) → Changes a b (IfReady base top IsLater) → Changes a b IsLater
later_opened a b base top paths texts opened later =
    changed_from a b (IsReady base top) (IfReady base top IsLater) IsLater (λ s t ready is. is ready)
    (told_both a (λ _. base ≡ top) (IsOpened paths) (IsReady base top) texts opened (λ s is opening. opened_ready base top paths s is opening)) later

-- the same of flushes of its own paths
pub later_first : {H : Type 0} (tell : H → Option Story) (text : H → List ℕ) (old : Host H) (b : Option Story) (paths : List Path) → Told (tell old.host) (λ _. HasTexts text old)
    → Told (tell old.host) (IsOpened paths) → Changes (tell old.host) b (IfReady (string_bytes old.paths.base) (text old.host) IsLater) → Changes (tell old.host) b IsLater
later_first tell text old b paths texts opened later =
    later_opened (tell old.host) b (string_bytes old.paths.base) (text old.host) paths
    (told_then (tell old.host) (λ _. HasTexts text old) (λ _. string_bytes old.paths.base ≡ text old.host) texts (λ s is. is.base)) opened later

-- and of those that come after them
pub later_both : {H : Type 0} (tell : H → Option Story) (text : H → List ℕ) (old : Host H) (mid new : H) (here : List ℕ) (paths : List Path) → here ≡ string_bytes old.paths.base → text mid ≡ text old.host
    → Told (tell old.host) (λ _. HasTexts text old) → Told (tell old.host) (IsOpened paths)
    → Changes (tell old.host) (tell mid) (IfReady (string_bytes old.paths.base) (text old.host) IsLater) → Changes (tell mid) (tell new) (IfReady here (text mid) IsLater)
    → Changes (tell old.host) (tell new) IsLater
later_both tell text old mid new here paths same_base same_top texts opened first second =
    later_first tell text old (tell new) paths texts opened
    (later_through (tell old.host) (tell mid) (tell new) (string_bytes old.paths.base) (text old.host) here (text mid) same_base same_top first second)

-- all that an earlier run may have left off the disk has come there
abbrev pub HaveAllCome : List Path → Story → Story → Type 0
HaveAllCome paths old new = IsSure old (to_settle paths) → IsSure new []

-- these paths and their folders, and then the first ones
pub all_come : (paths touched : List Path) (old mid new : Story) → touched ≡ first_paths
    → HaveComeFirst (flat_map with_folder paths) old mid → HaveCome touched mid new → HaveAllCome paths old new
all_come paths touched old mid new is first next sure = next (subst (IsSure mid) (sym is) (first first_paths sure))

-- a folder after these flushes: no path is kept that the next sync flushes
pub record IsSettled {H : Type 0} (tell : H → Option Story) (text : H → List ℕ) (old new : Host H) (paths : List Path) : Type 0 where
  pub flushed : IsFlushing (string_bytes old.paths.base) (text old.host) (string_bytes new.paths.base) (text new.host) (tell old.host)
      (tell new.host) (HaveAllCome paths)
  pub target : string_bytes new.target.base ≡ string_bytes old.target.base
  pub touched : new.touched.paths.items ≡ []
  pub moved : new.moved.paths.items ≡ []
  pub failed : new.flush_failed ≡ false

pub kept_opened : {H : Type 0} (tell : H → Option Story) (text : H → List ℕ) (old new : Host H) (paths : List Path)
    → Told (tell old.host) (λ _. HasTexts text old) → Told (tell old.host) (IsOpened paths) → IsSettled tell text old new paths
    → Told (story_of tell new) (IsKept text new)
kept_opened tell text old new paths texts opened settled =
    let own = string_bytes old.paths.base in
    let above = text old.host in
    let flushed = settled.flushed in
    told_too new.tells (tell new.host) (IsKept text new)
    (told_after (tell old.host) (tell new.host) (λ s. HasTexts text old × IsOpened paths s)
    (λ s t. IfReady own above IsLater s t × IfReady own above (HaveAllCome paths) s t) (IsKept text new)
    (λ s t is now.
    let ready = opened_ready own above paths s is.0.base is.1 in
    kept_as text new t [] [] false
    (record { base = flushed.base ∙ is.0.base ∙ sym flushed.top; target = settled.target ∙ is.0.target ∙ sym flushed.top })
    settled.touched settled.moved settled.failed (held_opened paths s t is.1 (now.0 ready) (now.1 ready is.1.sure)))
    (told_both (tell old.host) (λ _. HasTexts text old) (IsOpened paths) (λ s. HasTexts text old × IsOpened paths s) texts opened (λ s is opening. (is, opening)))
    (both_changed (tell old.host) (tell new.host) (IfReady own above IsLater) (IfReady own above (HaveAllCome paths)) flushed.later
    flushed.come))
