-- What clauses see of a folder over a host.
use Rattle.std.specs.Prelude.{◌≡◌, ℕ, Bool, List, Option, refl}
use Rattle.std.specs.Option.{option_map}
use Rattle.std.specs.Coded.{Coded, code_by, coded×, coded_ℕ, coded_bool, coded_list}
use Rattle.outside.specs.Disk.{Path}
use Rattle.outside.specs.Images.{Log}
use Rattle.host_calls.specs.Story.{Story}
use Rattle.host_folder.specs.Telling.{told_if, diary_of}

-- The host, the folder's own text, the paths that the next sync flushes, whether a flush failed, whether the folder tells what its
-- host does, how often it failed, and how many changing calls there were.
pub record Holding (H : Type 0) : Type 0 where
  pub host : H
  pub base : List ℕ
  pub touched : List Path
  pub failed : Bool
  pub tells : Bool
  pub faults : ℕ
  pub changes : ℕ

abbrev pub coded_holding : {H : Type 0} → Coded H → Coded (Holding H)
coded_holding {H = H} coded =
    code_by (H × (List ℕ × (List Path × (Bool × (Bool × (ℕ × ℕ))))))
    (coded× coded (coded× (coded_list coded_ℕ) (coded× (coded_list (coded_list (coded_list coded_ℕ))) (coded× coded_bool (coded× coded_bool (coded× coded_ℕ coded_ℕ))))))
    (λ h. (h.host, (h.base, (h.touched, (h.failed, (h.tells, (h.faults, h.changes)))))))
    (λ t. record { host = t.0; base = t.1.0; touched = t.1.1.0; failed = t.1.1.1.0; tells = t.1.1.1.1.0; faults = t.1.1.1.1.1.0; changes = t.1.1.1.1.1.1 })
    (λ _. refl)

-- the host's story, if the folder tells it
abbrev pub story_in : {H : Type 0} → (H → Option Story) → Holding H → Option Story
story_in story holding = told_if holding.tells (story holding.host)

-- its log
abbrev pub log_in : {H : Type 0} → (H → Option Story) → Holding H → Option Log
log_in story holding = option_map diary_of (story_in story holding)

-- What clauses see of a folder that is read before it is settled.
pub record Reading (H : Type 0) : Type 0 where
  pub host : H
  pub base : List ℕ
  pub faults : ℕ

abbrev pub coded_reading : {H : Type 0} → Coded H → Coded (Reading H)
coded_reading {H = H} coded =
    code_by (H × (List ℕ × ℕ)) (coded× coded (coded× (coded_list coded_ℕ) coded_ℕ))
    (λ h. (h.host, (h.base, h.faults))) (λ t. record { host = t.0; base = t.1.0; faults = t.1.1 }) (λ _. refl)
