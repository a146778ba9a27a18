-- How models store what a host holds.
use Rattle.std.specs.Prelude.{◌≡◌, ℕ, ◌==◌, Bool, List, [], Option, Some, None, if◌then◌else◌, refl}
use Rattle.std.specs.Coded.{Coded, code_by, coded_option, coded_list, coded×, coded_ℕ, coded_bool}
use Rattle.std.specs.FinMap as map
use Rattle.outside.specs.Disk.{Path}
use Rattle.outside.specs.Images.{Log}
use Rattle.outside_mem.specs.Held.{coded_path, coded_log}
use Rattle.host_calls.specs.declared.found.Inode.{Inode}
use Rattle.host_calls.specs.Volume.{Names, Entry, Folder, File}
use Rattle.host_calls.specs.Names.{NameStep, MadeFolder, MadeFile, Moved, Dropped, Pending}
use Rattle.host_calls.specs.Bytes.{FileStep, Wrote, Cut, Filed}
use Rattle.host_calls.specs.Story.{Files, Story}

abbrev pub coded_inode : Coded Inode
coded_inode = code_by (ℕ × ℕ) (coded× coded_ℕ coded_ℕ) (λ i. (i.dev, i.ino)) (λ t. record { dev = t.0; ino = t.1 }) (λ _. refl)

-- an entry is stored as its inode, if it is a file
abbrev pub inode_of : Entry → Option Inode
inode_of Folder = None
inode_of (File inode) = Some inode

abbrev pub of_inode : Option Inode → Entry
of_inode None = Folder
of_inode (Some inode) = File inode

pub of_inode_of : (entry : Entry) → of_inode (inode_of entry) ≡ entry
of_inode_of Folder = refl
of_inode_of (File inode) = refl

abbrev pub coded_entry : Coded Entry
coded_entry = code_by (Option Inode) (coded_option coded_inode) inode_of of_inode of_inode_of

abbrev pub coded_names : Coded Names
coded_names = map.code coded_path coded_entry

-- a step is stored as the number of its kind, two paths and an inode
abbrev pub StepCode : Type 0
StepCode = ℕ × (Path × (Path × (ℕ × ℕ)))

abbrev pub step_code_of : NameStep → StepCode
step_code_of (MadeFolder path) = (1, (path, ([], (0, 0))))
step_code_of (MadeFile path inode) = (2, (path, ([], (inode.dev, inode.ino))))
step_code_of (Moved from to) = (3, (from, (to, (0, 0))))
step_code_of (Dropped path) = (4, (path, ([], (0, 0))))

abbrev pub of_step_code : StepCode → NameStep
of_step_code c =
    if c.0 == 1 then MadeFolder c.1.0
    else if c.0 == 2 then MadeFile c.1.0 (record { dev = c.1.1.1.0; ino = c.1.1.1.1 })
    else if c.0 == 3 then Moved c.1.0 c.1.1.0
    else Dropped c.1.0

pub of_step_code_of : (step : NameStep) → of_step_code (step_code_of step) ≡ step
of_step_code_of (MadeFolder path) = refl
of_step_code_of (MadeFile path inode) = refl
of_step_code_of (Moved from to) = refl
of_step_code_of (Dropped path) = refl

abbrev pub coded_step : Coded NameStep
coded_step = code_by StepCode (coded× coded_ℕ (coded× coded_path (coded× coded_path (coded× coded_ℕ coded_ℕ)))) step_code_of of_step_code of_step_code_of

abbrev pub coded_pending : Coded Pending
coded_pending = code_by (NameStep × List Path) (coded× coded_step (coded_list coded_path)) (λ p. (p.step, p.to_flush)) (λ t. record { step = t.0; to_flush = t.1 }) (λ _. refl)

-- a step of a file is stored as its number, and its bytes if it writes any
abbrev pub FileStepCode : Type 0
FileStepCode = ℕ × Option (List ℕ)

abbrev pub file_step_code_of : FileStep → FileStepCode
file_step_code_of (Wrote at bytes) = (at, Some bytes)
file_step_code_of (Cut n) = (n, None)

abbrev pub of_file_step_code : FileStepCode → FileStep
of_file_step_code (n, None) = Cut n
of_file_step_code (n, Some bytes) = Wrote n bytes

pub of_file_step_code_of : (step : FileStep) → of_file_step_code (file_step_code_of step) ≡ step
of_file_step_code_of (Wrote at bytes) = refl
of_file_step_code_of (Cut n) = refl

abbrev pub coded_file_step : Coded FileStep
coded_file_step = code_by FileStepCode (coded× coded_ℕ (coded_option (coded_list coded_ℕ))) file_step_code_of of_file_step_code of_file_step_code_of

abbrev pub coded_filed : Coded Filed
coded_filed = code_by (List ℕ × List FileStep) (coded× (coded_list coded_ℕ) (coded_list coded_file_step)) (λ f. (f.lasting, f.steps)) (λ t. record { lasting = t.0; steps = t.1 }) (λ _. refl)

abbrev pub coded_files : Coded Files
coded_files = map.code coded_inode coded_filed

abbrev pub coded_story : Coded Story
coded_story =
    code_by (Names × (List Pending × (Files × (Bool × (Log × Bool)))))
    (coded× coded_names (coded× (coded_list coded_pending) (coded× coded_files (coded× coded_bool (coded× coded_log coded_bool)))))
    (λ s. (s.base, (s.naming, (s.files, (s.doubt, (s.diary, s.unnoted))))))
    (λ t. record { base = t.0; naming = t.1.0; files = t.1.1.0; doubt = t.1.1.1.0; diary = t.1.1.1.1.0; unnoted = t.1.1.1.1.1 }) (λ _. refl)
