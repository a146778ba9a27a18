-- Which calls of a host shall fail, and how much of them is done.
use Rattle.std.specs.Prelude.{ℕ, ◌==◌, List, [], ◌∷◌, Option, Some, None, if◌then◌else◌}
use Rattle.outside.specs.Calls.{risen}
use Rattle.mem_host.specs.declared.plan.Extent.{Extent}
use Rattle.mem_host.specs.declared.plan.Fault.{Fault}

-- the calls so far, and those that shall fail
pub record Plan : Type 0 where
  pub calls : ℕ
  pub faults : List Fault

-- nothing was called, and nothing shall fail
abbrev pub no_faults : Plan
no_faults = record { calls = 0; faults = [] }

-- how much is done of the call of this number, if it shall fail: the first fault that names it says
abbrev pub fault_at : List Fault → ℕ → Option Extent
fault_at [] call = None
fault_at (fault ∷ more) call = if fault.call == call then Some fault.done else fault_at more call

-- the same of the next call
abbrev pub next_fault : Plan → Option Extent
next_fault plan = fault_at plan.faults plan.calls

-- after a call
abbrev pub after : Plan → Plan
after plan = record { calls = risen plan.calls; faults = plan.faults }
