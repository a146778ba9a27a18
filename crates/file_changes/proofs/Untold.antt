-- A folder that tells nothing: in it alone a change that waited can be dropped.
use Rattle.std.proofs.Common.{◌≡◌, Option, Some, None, Result, Err, refl}
use Rattle.outside.specs.Calls.{Changes, Told}
use Rattle.write_back.specs.declared.fault.FlushErr.{FlushErr}
use Rattle.write_back.specs.declared.fault.FlushErr.TheVariants.{Device, Dropped}

pub untold : {X : Type 0} (contents : Option X) (P : X → Type 0) → contents ≡ None → Told contents P
untold None P none = tt
untold (Some x) P none = absurd cc

-- it goes on so
pub still_untold : {X : Type 0} (old new : Option X) (P : X → X → Type 0) → old ≡ None → Changes old new P → new ≡ None
still_untold None None P none changed = refl
still_untold None (Some y) P none changed = absurd changed
still_untold (Some x) new P none changed = absurd cc

-- a commit that failed has dropped nothing
pub device_not_dropped : {X : Type 0} (error : FlushErr) → error ≡ Device → ◌≡◌ {A = Result X FlushErr} (Err error) (Err Dropped) → ⊥
device_not_dropped Device is dropped = absurd cc
device_not_dropped Dropped is dropped = absurd cc
