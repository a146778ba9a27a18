-- How many bytes a path's spelling has at most.
use Rattle.std.proofs.Common.{◌≡◌, ℕ, ◌*◌, ◌≤◌, List, [], ◌∷◌, length, true, arith, length-append}
use Rattle.std.specs.Prelude.{◌&&◌, nat_le, not}
use Rattle.std.specs.Str.{bytes_eq}
use Rattle.std.specs.List.{list_all}
use Rattle.std.proofs.lemmas.Bool.{leb-true}
use Rattle.vault_path.specs.Parts.{is_part_byte, is_part, is_path}
use Rattle.outside.specs.Disk.{Path}
use Rattle.deeds.specs.Grammar.{spelled_all, spelled_path, spelled_part}
use Rattle.deeds.proofs.Fields.{both_true}

part_short : (part : List ℕ) → is_part part ≡ true → length part ≤ 255
part_short part good =
    let one = both_true (nat_le 1 (length part) && nat_le (length part) 255 && list_all is_part_byte part && not (bytes_eq part (46 ∷ []))) (not (bytes_eq part (46 ∷ 46 ∷ []))) good in
    let two = both_true (nat_le 1 (length part) && nat_le (length part) 255 && list_all is_part_byte part) (not (bytes_eq part (46 ∷ []))) one.0 in
    let three = both_true (nat_le 1 (length part) && nat_le (length part) 255) (list_all is_part_byte part) two.0 in
    let four = both_true (nat_le 1 (length part)) (nat_le (length part) 255) three.0 in
    leb-true (length part) 255 four.1

parts_long : (parts : Path) → list_all is_part parts ≡ true → length (spelled_all spelled_part parts) ≤ 256 * length parts
parts_long [] good = omega arith
parts_long (part ∷ parts) good =
    let both = both_true (is_part part) (list_all is_part parts) good in
    omega (arith, part_short part both.0, parts_long parts both.1, length-append (spelled_part part) (spelled_all spelled_part parts))

pub path_long : (path : Path) → is_path path ≡ true → length (spelled_path path) ≤ 1537
path_long path good =
    let both = both_true (nat_le (length path) 6) (list_all is_part path) good in
    omega (arith, leb-true (length path) 6 both.0, parts_long path both.1)
