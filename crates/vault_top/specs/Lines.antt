-- A line of the report in its pieces.
use Rattle.std.specs.Prelude.{ℕ, List, ◌++◌}
use Rattle.vault_top.specs.declared.line.Line.{Line}

-- the line, without its LF
abbrev pub line_text : Line → List ℕ
line_text line = line.head.now ++ line.detail.now
