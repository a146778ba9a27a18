-- What a demonstration leaves, and the line that sums it up.
use Rattle.std.specs.Prelude.{ℕ, List, ◌++◌, sum_by, codes, decimal, if◌then◌else◌}
use Rattle.std.specs.List.{flat_map}
use Rattle.sha2.specs.Sha256.{sha256}
use Rattle.hex.specs.Hex.{encode_lower}
use Rattle.demonstration.specs.declared.rows.DemoRow.{DemoRow}

-- a node that is left, by its path; a file with its length and the SHA-256 of its bytes
pub data PlainRow : Type 0 where
  directory : List ℕ → PlainRow
  file : List ℕ → ℕ → List ℕ → PlainRow

abbrev pub plain_row : DemoRow → PlainRow
plain_row row = if row.is_dir then directory row.path.items else file row.path.items row.len row.hash

-- `d PATH` or `f PATH LENGTH SHA256`, with LF
abbrev pub row_line : PlainRow → List ℕ
row_line (directory path) = codes "d " ++ path ++ codes "\n"
row_line (file path len hash) = codes "f " ++ path ++ codes " " ++ decimal len ++ codes " " ++ encode_lower hash ++ codes "\n"

-- the bytes in a file
abbrev pub bytes_in : PlainRow → ℕ
bytes_in (directory path) = 0
bytes_in (file path len hash) = len

-- `clients M requests R entries E bytes B rows H`, without LF: B is the sum of the files' lengths, and H the SHA-256 of the rows' lines
abbrev pub summary_line : ℕ → ℕ → ℕ → List PlainRow → List ℕ
summary_line clients requests entries rows =
    codes "clients " ++ decimal clients
    ++ codes " requests " ++ decimal requests
    ++ codes " entries " ++ decimal entries
    ++ codes " bytes " ++ decimal (sum_by bytes_in rows)
    ++ codes " rows " ++ encode_lower (sha256 (flat_map row_line rows))
