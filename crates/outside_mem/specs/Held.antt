-- What a folder in memory holds.
use Rattle.std.specs.Prelude.{◌≡◌, ℕ, ◌==◌, List, [], Option, Some, None, if◌then◌else◌, refl}
use Rattle.std.specs.Coded.{Coded, code_by, coded_option, coded_list, coded×, coded_ℕ}
use Rattle.std.specs.FinMap as map
use Rattle.outside.specs.Disk.{Disk, Path, Node, folder, file}
use Rattle.outside.specs.Changes.{Change, MakeDir, Put, Write, SetLen, Move, RemoveFile, RemoveDir}
use Rattle.outside.specs.Images.{Call, Did, Broke, Synced, Log}
use Rattle.outside_mem.specs.Plan.{Plan}

-- its log, its count of changing calls, and its counts of calls and faults
pub record Holding : Type 0 where
  pub log : Log
  pub changes : ℕ
  pub plan : Plan

-- the folder itself alone
abbrev pub bare : Disk
bare = map.insert map.empty [] folder

-- ---- how models store it

abbrev pub bytes_of : Node → Option (List ℕ)
bytes_of folder = None
bytes_of (file bytes) = Some bytes

abbrev pub of_bytes : Option (List ℕ) → Node
of_bytes None = folder
of_bytes (Some bytes) = file bytes

pub of_bytes_of : (node : Node) → of_bytes (bytes_of node) ≡ node
of_bytes_of folder = refl
of_bytes_of (file bytes) = refl

-- a node is stored as its bytes, if it has any
abbrev pub coded_node : Coded Node
coded_node = code_by (Option (List ℕ)) (coded_option (coded_list coded_ℕ)) bytes_of of_bytes of_bytes_of

abbrev pub coded_path : Coded Path
coded_path = coded_list (coded_list coded_ℕ)

abbrev pub coded_disk : Coded Disk
coded_disk = map.code coded_path coded_node

-- a change is stored as the number of its kind, two paths, a number and bytes
abbrev pub ChangeCode : Type 0
ChangeCode = ℕ × (Path × (Path × (ℕ × List ℕ)))

abbrev pub code_of : Change → ChangeCode
code_of (MakeDir p) = (1, (p, ([], (0, []))))
code_of (Put p bytes) = (2, (p, ([], (0, bytes))))
code_of (Write p at bytes) = (3, (p, ([], (at, bytes))))
code_of (SetLen p n) = (4, (p, ([], (n, []))))
code_of (Move from to) = (5, (from, (to, (0, []))))
code_of (RemoveFile p) = (6, (p, ([], (0, []))))
code_of (RemoveDir p) = (7, (p, ([], (0, []))))

abbrev pub of_code : ChangeCode → Change
of_code c =
    if c.0 == 1 then MakeDir c.1.0
    else if c.0 == 2 then Put c.1.0 c.1.1.1.1
    else if c.0 == 3 then Write c.1.0 c.1.1.1.0 c.1.1.1.1
    else if c.0 == 4 then SetLen c.1.0 c.1.1.1.0
    else if c.0 == 5 then Move c.1.0 c.1.1.0
    else if c.0 == 6 then RemoveFile c.1.0
    else RemoveDir c.1.0

pub of_code_of : (change : Change) → of_code (code_of change) ≡ change
of_code_of (MakeDir p) = refl
of_code_of (Put p bytes) = refl
of_code_of (Write p at bytes) = refl
of_code_of (SetLen p n) = refl
of_code_of (Move from to) = refl
of_code_of (RemoveFile p) = refl
of_code_of (RemoveDir p) = refl

abbrev pub coded_change : Coded Change
coded_change =
    code_by ChangeCode (coded× coded_ℕ (coded× coded_path (coded× coded_path (coded× coded_ℕ (coded_list coded_ℕ)))))
    code_of of_code of_code_of

-- a call is stored as its change, if it is one, and what it left if it failed
abbrev pub CallCode : Type 0
CallCode = Option (Change × Option Disk)

abbrev pub call_code_of : Call → CallCode
call_code_of (Did change) = Some (change, None)
call_code_of (Broke change left) = Some (change, Some left)
call_code_of Synced = None

abbrev pub of_call_code : CallCode → Call
of_call_code None = Synced
of_call_code (Some (change, None)) = Did change
of_call_code (Some (change, Some left)) = Broke change left

pub of_call_code_of : (call : Call) → of_call_code (call_code_of call) ≡ call
of_call_code_of (Did change) = refl
of_call_code_of (Broke change left) = refl
of_call_code_of Synced = refl

abbrev pub coded_call : Coded Call
coded_call =
    code_by CallCode (coded_option (coded× coded_change (coded_option coded_disk)))
    call_code_of of_call_code of_call_code_of

abbrev pub coded_log : Coded Log
coded_log =
    code_by (Disk × List Call) (coded× coded_disk (coded_list coded_call))
    (λ l. (l.start, l.calls)) (λ t. record { start = t.0; calls = t.1 }) (λ _. refl)

abbrev pub coded_plan : Coded Plan
coded_plan =
    code_by (ℕ × (ℕ × (List ℕ × List ℕ)))
    (coded× coded_ℕ (coded× coded_ℕ (coded× (coded_list coded_ℕ) (coded_list coded_ℕ))))
    (λ p. (p.calls, (p.faults, (p.failing, p.breaking))))
    (λ t. record { calls = t.0; faults = t.1.0; failing = t.1.1.0; breaking = t.1.1.1 }) (λ _. refl)

abbrev pub coded_holding : Coded Holding
coded_holding =
    code_by (Log × (ℕ × Plan)) (coded× coded_log (coded× coded_ℕ coded_plan))
    (λ h. (h.log, (h.changes, h.plan))) (λ t. record { log = t.0; changes = t.1.0; plan = t.1.1 }) (λ _. refl)
