-- Ranges that can be written in order, by the file's length.
use Rattle.std.proofs.Common.{◌≡◌, ℕ, ◌+◌, ◌≤◌, max, Bool, true, false, leb, List, [], ◌∷◌, length, Option, Some, None, refl, sym, ap, subst, ◌∙◌}
use Rattle.std.specs.Prelude.{◌&&◌, ◌↔◌, IsTrue}
use Rattle.std.specs.Option.{option_map}
use Rattle.std.proofs.lemmas.Bool.{leb-true, false≢true, le-leb}
use Rattle.outside.specs.Changes.{overwritten}
use Rattle.outside.specs.Disk.{Disk, Path, Node, file, folder, node_at, kind_of, kind_at}
use Rattle.outside.specs.declared.folder.Kind.{Kind}
use Rattle.outside.specs.declared.folder.Kind.TheVariants.{Dir, File}
use Rattle.deeds.specs.Reshape.{Ranges, written, CanWrite, EndWithin}
use Rattle.deeds.specs.Deeds.{Reshapes, CanDeed}
use Rattle.deeds.proofs.Fields.{both_true}
use Rattle.deeds.proofs.Overwritten.{long_over}
use Rattle.journal_mending.specs.Lengths.{fits_len}

-- ---- one range more

pub range_fits : (len have : ℕ) (r : ℕ × List ℕ) (rs : Ranges) (b : Bool) → (leb r.0 have && leb (r.0 + length r.1) len) ≡ b → fits_len len (r ∷ rs) have ≡ (b && fits_len len rs (max have (r.0 + length r.1)))
range_fits len have r rs b e = ap (λ (t : Bool). t && fits_len len rs (max have (r.0 + length r.1))) e

-- ---- on the bytes

pub fits_within : (len : ℕ) (rs : Ranges) (have : ℕ) → fits_len len rs have ≡ true → EndWithin len rs
fits_within len [] have e = tt
fits_within len (r ∷ rs) have e =
    let b = both_true (leb r.0 have && leb (r.0 + length r.1) len) (fits_len len rs (max have (r.0 + length r.1))) e in
    let ends = both_true (leb r.0 have) (leb (r.0 + length r.1) len) b.0 in
    (leb-true _ _ ends.1, fits_within len rs (max have (r.0 + length r.1)) b.1)

pub fits_writes : (len : ℕ) (rs : Ranges) (was : List ℕ) → fits_len len rs (length was) ≡ true → CanWrite rs was × (len ≤ length (written rs was))
fits_writes len [] was e = (tt, leb-true _ _ e)
fits_writes len (r ∷ rs) was e =
    let b = both_true (leb r.0 (length was) && leb (r.0 + length r.1) len) (fits_len len rs (max (length was) (r.0 + length r.1))) e in
    let ends = both_true (leb r.0 (length was)) (leb (r.0 + length r.1) len) b.0 in
    let at : r.0 ≤ length was = leb-true _ _ ends.0 in
    let more = fits_writes len rs (overwritten was r.0 r.1) (subst (λ (n : ℕ). fits_len len rs n ≡ true) (sym (long_over was r.0 r.1 at)) b.1) in
    ((at, more.0), more.1)

both : (a b : Bool) → a ≡ true → b ≡ true → (a && b) ≡ true
both true b e f = f
both false b e f = absurd (false≢true e)

pub writes_fit : (len : ℕ) (rs : Ranges) (was : List ℕ) → EndWithin len rs → CanWrite rs was → len ≤ length (written rs was) → fits_len len rs (length was) ≡ true
writes_fit len [] was within can long = le-leb _ _ long
writes_fit len (r ∷ rs) was within can long =
    both _ _ (both _ _ (le-leb _ _ can.0) (le-leb _ _ within.0))
    (subst (λ (n : ℕ). fits_len len rs n ≡ true) (long_over was r.0 r.1 can.0) (writes_fit len rs (overwritten was r.0 r.1) within.1 can.1 long))

-- ---- on a disk

file_of : (o : Option Node) (n : ℕ) → option_map kind_of o ≡ Some (File n) → (bytes : List ℕ) × (o ≡ Some (file bytes)) × (length bytes ≡ n)
file_of None n e = absurd cc
file_of (Some folder) n e = absurd cc
file_of (Some (file bytes)) n e = (bytes, refl, (let f : File (length bytes) ≡ File n = cc in cc))

pub dir_of : (o : Option Node) → option_map kind_of o ≡ Some Dir → o ≡ Some folder
dir_of None e = absurd cc
dir_of (Some folder) e = refl
dir_of (Some (file bytes)) e = absurd cc

pub none_of : (o : Option Node) → option_map kind_of o ≡ None → o ≡ None
none_of None e = refl
none_of (Some node) e = absurd cc

pub some_of : (o : Option Node) (k : Kind) → option_map kind_of o ≡ Some k → (node : Node) × (o ≡ Some node)
some_of None k e = absurd cc
some_of (Some node) k e = (node, refl)

pub file_at : (d : Disk) (path : Path) (n : ℕ) → kind_at d path ≡ Some (File n) → (bytes : List ℕ) × (node_at d path ≡ Some (file bytes)) × (length bytes ≡ n)
file_at d path n e = file_of (node_at d path) n e

pub reshape_can : (path : Path) (len : ℕ) (rs : Ranges) (have : ℕ) (d : Disk) → kind_at d path ≡ Some (File have) → IsTrue (fits_len len rs have) ↔ CanDeed (Reshapes path len rs) d
reshape_can path len rs have d e =
    let f = file_at d path have e in (
      λ t.
          let w = fits_writes len rs f.0 (subst (λ (n : ℕ). fits_len len rs n ≡ true) (sym f.2) t) in
          (f.0, f.1, fits_within len rs have t, w.0, w.1),
      λ can.
          let same : can.0 ≡ f.0 = (let s : Some (file can.0) ≡ Some (file f.0) = sym can.1 ∙ f.1 in cc) in
          subst (λ (n : ℕ). fits_len len rs n ≡ true) (ap (λ (l : List ℕ). length l) same ∙ f.2) (writes_fit len rs can.0 can.2 can.3 can.4),
    )

-- what isn't a file can't be reshaped
pub dir_cannot : (path : Path) (len : ℕ) (rs : Ranges) (d : Disk) → kind_at d path ≡ Some Dir → IsTrue false ↔ CanDeed (Reshapes path len rs) d
dir_cannot path len rs d e = (λ t. absurd (false≢true t), λ can. let f : option_map kind_of (node_at d path) ≡ Some (File (length can.0)) = ap (option_map kind_of) can.1 in absurd cc)

pub none_cannot : (path : Path) (len : ℕ) (rs : Ranges) (d : Disk) → kind_at d path ≡ None → IsTrue false ↔ CanDeed (Reshapes path len rs) d
none_cannot path len rs d e = (λ t. absurd (false≢true t), λ can. let f : option_map kind_of (node_at d path) ≡ Some (File (length can.0)) = ap (option_map kind_of) can.1 in absurd cc)
