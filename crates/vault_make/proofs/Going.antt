-- What is told of a folder after a change.
use Rattle.std.proofs.Common.{Option, Some, None, Result, Ok, Err}
use Rattle.std.specs.Result.{OnErr}
use Rattle.outside.specs.Calls.{Told, Changes}

-- what follows from what was told before and from the change is told after it
pub told_after : {X : Type 0} (a b : Option X) (P : X → Type 0) (Q : X → X → Type 0) (R : X → Type 0) → ((x y : X) → P x → Q x y → R y) → Told a P → Changes a b Q → Told b R
told_after None None P Q R f p q = tt
told_after None (Some y) P Q R f p q = absurd q
told_after (Some x) None P Q R f p q = absurd q
told_after (Some x) (Some y) P Q R f p q = f x y p q

-- what holds anyway holds of an error
pub on_err : {T E : Type 0} (result : Result T E) (P : Type 0) → P → OnErr result P
on_err (Ok value) P h = tt
on_err (Err error) P h = h
