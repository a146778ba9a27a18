-- Tests that are made one after the other.
use Rattle.std.specs.Prelude.{Result, Ok, Err}

-- what follows a step that went well
abbrev pub result_and_then : {T U E : Type 0} → (T → Result U E) → Result T E → Result U E
result_and_then f (Ok x) = f x
result_and_then f (Err e) = Err e
