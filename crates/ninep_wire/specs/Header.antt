-- What each message of 9P2000 opens with (intro(5)).
use Rattle.std.specs.Prelude.{ℕ, ◌+◌, List, ◌++◌, length}
use Rattle.tree_model.specs.Wire.{number}

-- the whole message: size[4] with itself, type[1], tag[2], then the fields
abbrev pub message : ℕ → ℕ → List ℕ → List ℕ
message kind tag fields = number 4 (length fields + 7) ++ number 1 kind ++ number 2 tag ++ fields
