-- Which calls of an object shall fail, and what it has counted.
use Rattle.std.specs.Prelude.{ℕ, ◌==◌, ◌||◌, Bool, true, false, List, [], if◌then◌else◌, Result, Ok, Err}
use Rattle.std.specs.List.{list_any}
use Rattle.outside.specs.Calls.{risen}
use Rattle.outside.specs.declared.folder.FolderErr.{FolderErr}
use Rattle.outside.specs.declared.folder.FolderErr.TheVariants.{Failed, Unfit, Memory}

-- The calls so far, the faults so far, and the numbers, from 0, of the calls that shall fail: before they do anything, or, if
-- they change a folder, after a part of the change.
pub record Plan : Type 0 where
  pub calls : ℕ
  pub faults : ℕ
  pub failing : List ℕ
  pub breaking : List ℕ

-- nothing was called, and nothing shall fail
abbrev pub no_faults : Plan
no_faults = record { calls = 0; faults = 0; failing = []; breaking = [] }

-- whether the next call shall fail before it does anything
abbrev pub fails_before : Plan → Bool
fails_before plan = list_any (λ call. call == plan.calls) plan.failing

-- whether the next call is one that shall fail after a part
abbrev pub breaks_next : Plan → Bool
breaks_next plan = list_any (λ call. call == plan.calls) plan.breaking

-- whether the next call shall fail
abbrev pub fails_next : Plan → Bool
fails_next plan = fails_before plan || breaks_next plan

-- after a call, which failed or not
abbrev pub after : Plan → Bool → Plan
after plan failed = record {
  calls = risen plan.calls;
  faults = if failed then risen plan.faults else plan.faults;
  failing = plan.failing;
  breaking = plan.breaking;
}

-- the same counts, with other calls that shall fail
abbrev pub failing_at : Plan → List ℕ → Plan
failing_at plan calls = record plan { failing = calls }

abbrev pub breaking_at : Plan → List ℕ → Plan
breaking_at plan calls = record plan { breaking = calls }

-- whether a folder answered that it failed
abbrev pub is_failed : {T : Type 0} → Result T FolderErr → Bool
is_failed (Ok x) = false
is_failed (Err Failed) = true
is_failed (Err Unfit) = false
is_failed (Err Memory) = false
