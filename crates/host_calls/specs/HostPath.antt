-- How the host's text of a path is made up.
use Rattle.std.specs.Prelude.{ℕ, List, [], ◌∷◌, ◌++◌, length, ◌==◌, if◌then◌else◌}
use Rattle.std.specs.List.{flat_map}

-- a text, and then each part after a slash
abbrev pub joined : List ℕ → List (List ℕ) → List ℕ
joined base parts = base ++ flat_map (λ part. 47 ∷ part) parts

-- The folder's own text and the parts after it. In a folder that the empty text names there is nothing, and so there is no
-- text but the empty one, at which a host finds nothing: else a path in it would be one from the root of the host on.
abbrev pub host_path : List ℕ → List (List ℕ) → List ℕ
host_path base parts = if length base == 0 then [] else joined base parts
