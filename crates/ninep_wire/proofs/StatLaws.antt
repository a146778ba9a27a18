-- No spelling of a stat begins another.
use Rattle.std.proofs.Common.{◌≡◌, ℕ, ◌+◌, ◌^◌, ◌<◌, List, [], ◌++◌, length, Result, Ok, refl, sym, ap, ◌∙◌, arith}
use Rattle.std.proofs.lemmas.List.{append-nil}
use Rattle.byteorder.specs.Endian.{little_number}
use Rattle.byteorder.specs.Numbers.{little_number-reads_back}
use Rattle.tree_model.specs.Wire.{number, string, qid, PlainStat, stat_fields, spelled_stat}
use Rattle.ninep_wire.specs.declared.fault.WireErr.{WireErr}
use Rattle.ninep_wire.specs.Stat.{IsStat}
use Rattle.ninep_wire.specs.Reading.{◌>>=◌, number_at, qid_at, string_at}
use Rattle.ninep_wire.proofs.FieldLaws.{ok_is, number_field, qid_field, string_field}
use Rattle.ninep_wire.proofs.ChangeLaws.{right, length_two}
use Rattle.ninep_wire.proofs.FrameLaws.{split_front}

-- the fields of a stat, read in their order
unfoldable fields_at : List ℕ → Result (PlainStat × List ℕ) WireErr
fields_at bytes = do
  kind ← number_at 2 bytes
  device ← number_at 4 kind.1
  q ← qid_at device.1
  mode ← number_at 4 q.1
  accessed ← number_at 4 mode.1
  modified ← number_at 4 accessed.1
  long ← number_at 8 modified.1
  name ← string_at long.1
  owner ← string_at name.1
  group ← string_at owner.1
  modifier ← string_at group.1
  Ok (
    record {
      kind = kind.0;
      device = device.0;
      qid = q.0;
      mode = mode.0;
      accessed = accessed.0;
      modified = modified.0;
      length = long.0;
      name = name.0;
      owner = owner.0;
      group = group.0;
      modifier = modifier.0;
    },
    modifier.1,
  )

fields_again : (s : PlainStat) → IsStat s → fields_at (stat_fields s) ≡ Ok (s, [])
unfolding fields_at
fields_again s fits =
    let r10 = string s.modifier ++ [] in
    let r9 = string s.group ++ r10 in
    let r8 = string s.owner ++ r9 in
    let r7 = string s.name ++ r8 in
    let r6 = number 8 s.length ++ r7 in
    let r5 = number 4 s.modified ++ r6 in
    let r4 = number 4 s.accessed ++ r5 in
    let r3 = number 4 s.mode ++ r4 in
    let r2 = qid s.qid ++ r3 in
    let r1 = number 4 s.device ++ r2 in
    let parts = sym (append-nil (stat_fields s)) ∙ right (number 2 s.kind) (number 4 s.device) (qid s.qid) (number 4 s.mode)
    (number 4 s.accessed) (number 4 s.modified) (number 8 s.length) (string s.name) (string s.owner) (string s.group) (string s.modifier) [] in
    let kind : s.kind < 256 ^ 2 = omega (arith, fits.kind) in
    let device : s.device < 256 ^ 4 = omega (arith, fits.device) in
    let mode : s.mode < 256 ^ 4 = omega (arith, fits.mode) in
    let accessed : s.accessed < 256 ^ 4 = omega (arith, fits.accessed) in
    let modified : s.modified < 256 ^ 4 = omega (arith, fits.modified) in
    let long : s.length < 256 ^ 8 = omega (arith, fits.long) in
    ap fields_at parts ∙ rw (
      (number_field 2).again s.kind r1 kind,
      (number_field 4).again s.device r2 device,
      qid_field.again s.qid r3 fits.qid,
      (number_field 4).again s.mode r4 mode,
      (number_field 4).again s.accessed r5 accessed,
      (number_field 4).again s.modified r6 modified,
      (number_field 8).again s.length r7 long,
      string_field.again s.name r8 fits.name,
      string_field.again s.owner r9 fits.owner,
      string_field.again s.group r10 fits.group,
      string_field.again s.modifier [] fits.modifier,
    ) refl

-- a spelling's first two bytes are how many follow them
size_of : (s : PlainStat) (x : List ℕ) → IsStat s → little_number 2 (spelled_stat s ++ x) ≡ length (stat_fields s)
size_of s x fits =
    let size : length (stat_fields s) < 256 ^ 2 = omega (arith, fits.size) in
    little_number-reads_back 2 (length (stat_fields s)) (stat_fields s ++ x) size

-- no spelling of a stat begins another
pub apart : (s t : PlainStat) (x y : List ℕ) → IsStat s → IsStat t → spelled_stat s ++ x ≡ spelled_stat t ++ y → (s ≡ t) × (x ≡ y)
apart s t x y fits others e =
    let len : length (stat_fields s) ≡ length (stat_fields t) = sym (size_of s x fits) ∙ ap (little_number 2) e ∙ size_of t y others in
    let long : length (spelled_stat s) ≡ length (spelled_stat t) = length_two (length (stat_fields s)) (stat_fields s) ∙ ap (λ (n : ℕ). 2 + n) len ∙ sym (length_two (length (stat_fields t)) (stat_fields t)) in
    let parts = split_front (spelled_stat s) x (spelled_stat t) y long e in
    let inner = split_front (number 2 (length (stat_fields s))) (stat_fields s) (number 2 (length (stat_fields t))) (stat_fields t) refl parts.0 in
    let same = ok_is (s, []) (t, []) (sym (fields_again s fits) ∙ ap fields_at inner.1 ∙ fields_again t others) in
    (ap (λ (x : PlainStat × List ℕ). x.0) same, parts.1)
