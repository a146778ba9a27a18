-- No spelling of an R-message begins another.
use Rattle.std.proofs.Common.{◌≡◌, ℕ, zero, suc, ◌+◌, ◌^◌, ◌<◌, List, [], ◌∷◌, ◌++◌, length, Result, Ok, Err, refl, sym, ap, ◌∙◌, append_assoc, arith, ◌==◌, if◌then◌else◌}
use Rattle.std.specs.List.{flat_map, AllByRecursion}
use Rattle.std.proofs.lemmas.List.{append-nil}
use Rattle.std.proofs.lemmas.List.Concat.{flat_map-cons}
use Rattle.byteorder.specs.Endian.{little_number}
use Rattle.byteorder.specs.Numbers.{little_number-reads_back}
use Rattle.tree_model.specs.declared.stat.Qid.{Qid}
use Rattle.tree_model.specs.Wire.{number, string, qid, IsQid}
use Rattle.ninep_wire.specs.declared.fault.WireErr.{WireErr}
use Rattle.ninep_wire.specs.declared.fault.WireErr.TheVariants.{Kind}
use Rattle.ninep_wire.specs.RMessage.{PlainRMessage, version, attach, error, flush, walk, open_fid, create, read, write, clunk, remove, stat, wstat, r_kind, r_fields, spelled_r, HasRFields, IsRMessage}
use Rattle.ninep_wire.specs.Reading.{◌>>=◌, bytes_at, number_at, qid_at, string_at, data_at}
use Rattle.ninep_wire.proofs.FieldLaws.{ok_is, bytes_field, number_field, qid_field, string_field, data_field}
use Rattle.ninep_wire.proofs.MessageLaws.{right2}
use Rattle.ninep_wire.proofs.FrameLaws.{split_front, seven}

-- ---- reading an R-message, which the laws alone do

unfoldable qids_at : ℕ → List ℕ → Result (List Qid × List ℕ) WireErr
qids_at zero bytes = Ok ([], bytes)
qids_at (suc n) bytes = do
  first ← qid_at bytes
  others ← qids_at n first.1
  Ok (first.0 ∷ others.0, others.1)

unfoldable r_at : ℕ → List ℕ → Result (PlainRMessage × List ℕ) WireErr
r_at kind bytes =
    if kind == 101 then (number_at 4 bytes >>= λ a. string_at a.1 >>= λ b. Ok (version a.0 b.0, b.1))
    else if kind == 105 then (qid_at bytes >>= λ a. Ok (attach a.0, a.1))
    else if kind == 107 then (string_at bytes >>= λ a. Ok (error a.0, a.1))
    else if kind == 109 then Ok (flush, bytes)
    else if kind == 111 then (number_at 2 bytes >>= λ a. qids_at a.0 a.1 >>= λ b. Ok (walk b.0, b.1))
    else if kind == 113 then (qid_at bytes >>= λ a. number_at 4 a.1 >>= λ b. Ok (open_fid a.0 b.0, b.1))
    else if kind == 115 then (qid_at bytes >>= λ a. number_at 4 a.1 >>= λ b. Ok (create a.0 b.0, b.1))
    else if kind == 117 then (data_at bytes >>= λ a. Ok (read a.0, a.1))
    else if kind == 119 then (number_at 4 bytes >>= λ a. Ok (write a.0, a.1))
    else if kind == 121 then Ok (clunk, bytes)
    else if kind == 123 then Ok (remove, bytes)
    else if kind == 125 then (number_at 2 bytes >>= λ a. bytes_at a.0 a.1 >>= λ b. Ok (stat b.0, b.1))
    else if kind == 127 then Ok (wstat, bytes)
    else Err (Kind kind)

qids_again : (qs : List Qid) (rest : List ℕ) → AllByRecursion IsQid qs → qids_at (length qs) (flat_map qid qs ++ rest) ≡ Ok (qs, rest)
unfolding qids_at
qids_again [] rest fits = refl
qids_again (q ∷ qs) rest fits =
    let regrouped : flat_map qid (q ∷ qs) ++ rest ≡ qid q ++ (flat_map qid qs ++ rest) =
    ap (λ (x : List ℕ). x ++ rest) (flat_map-cons qid q qs) ∙ append_assoc (qid q) (flat_map qid qs) rest in
    ap (qids_at (suc (length qs))) regrouped ∙ rw (qid_field.again q (flat_map qid qs ++ rest) fits.0, qids_again qs rest fits.1) refl

-- what was written is read again
r_again : (m : PlainRMessage) (rest : List ℕ) → HasRFields m → r_at (r_kind m) (r_fields m ++ rest) ≡ Ok (m, rest)
unfolding r_at
r_again (version msize text) rest fits =
    let low : msize < 256 ^ 4 = omega (arith, fits.0) in
    ap (r_at 101) (right2 (number 4 msize) (string text) rest)
    ∙ rw ((number_field 4).again msize (string text ++ rest) low, string_field.again text rest fits.1) refl
r_again (attach q) rest fits = rw (qid_field.again q rest fits) refl
r_again (error text) rest fits = rw (string_field.again text rest fits) refl
r_again flush rest fits = refl
r_again (walk qids) rest fits =
    let low : length qids < 256 ^ 2 = omega (arith, fits.0) in
    ap (r_at 111) (right2 (number 2 (length qids)) (flat_map qid qids) rest)
    ∙ rw ((number_field 2).again (length qids) (flat_map qid qids ++ rest) low, qids_again qids rest fits.1) refl
r_again (open_fid q iounit) rest fits =
    let low : iounit < 256 ^ 4 = omega (arith, fits.1) in
    ap (r_at 113) (right2 (qid q) (number 4 iounit) rest)
    ∙ rw (qid_field.again q (number 4 iounit ++ rest) fits.0, (number_field 4).again iounit rest low) refl
r_again (create q iounit) rest fits =
    let low : iounit < 256 ^ 4 = omega (arith, fits.1) in
    ap (r_at 115) (right2 (qid q) (number 4 iounit) rest)
    ∙ rw (qid_field.again q (number 4 iounit ++ rest) fits.0, (number_field 4).again iounit rest low) refl
r_again (read bytes) rest fits = rw (data_field.again bytes rest fits) refl
r_again (write count) rest fits =
    let low : count < 256 ^ 4 = omega (arith, fits) in
    rw ((number_field 4).again count rest low) refl
r_again clunk rest fits = refl
r_again remove rest fits = refl
r_again (stat bytes) rest fits =
    let low : length bytes < 256 ^ 2 = omega (arith, fits) in
    ap (r_at 125) (right2 (number 2 (length bytes)) bytes rest)
    ∙ rw ((number_field 2).again (length bytes) (bytes ++ rest) low, (bytes_field (length bytes)).again bytes rest refl) refl
r_again wstat rest fits = refl

-- each type fits a byte
kind_fits : (m : PlainRMessage) → r_kind m < 256 ^ 1
kind_fits (version msize text) = omega arith
kind_fits (attach q) = omega arith
kind_fits (error text) = omega arith
kind_fits flush = omega arith
kind_fits (walk qids) = omega arith
kind_fits (open_fid q iounit) = omega arith
kind_fits (create q iounit) = omega arith
kind_fits (read bytes) = omega arith
kind_fits (write count) = omega arith
kind_fits clunk = omega arith
kind_fits remove = omega arith
kind_fits (stat bytes) = omega arith
kind_fits wstat = omega arith

-- a tag and a message in all the bytes of a spelling
unfoldable all_at : List ℕ → Result (ℕ × PlainRMessage) WireErr
all_at bytes = do
  size ← number_at 4 bytes
  kind ← number_at 1 size.1
  tag ← number_at 2 kind.1
  m ← r_at kind.0 tag.1
  Ok (tag.0, m.0)

all_again : (tag : ℕ) (m : PlainRMessage) → IsRMessage tag m → all_at (spelled_r tag m) ≡ Ok (tag, m)
unfolding all_at
all_again tag m fits =
    let fields = r_fields m in
    let size : length fields + 7 < 256 ^ 4 = omega (arith, fits.size) in
    let low : tag < 256 ^ 2 = omega (arith, fits.tag_fits) in
    let whole : r_at (r_kind m) fields ≡ Ok (m, []) = ap (r_at (r_kind m)) (sym (append-nil fields)) ∙ r_again m [] fits.fields in
    rw (
      (number_field 4).again (length fields + 7) (number 1 (r_kind m) ++ (number 2 tag ++ fields)) size,
      (number_field 1).again (r_kind m) (number 2 tag ++ fields) (kind_fits m),
      (number_field 2).again tag fields low,
      whole,
    ) refl

-- a spelling's first four bytes are its length
size_of : (tag : ℕ) (m : PlainRMessage) (x : List ℕ) → IsRMessage tag m → little_number 4 (spelled_r tag m ++ x) ≡ length (spelled_r tag m)
size_of tag m x fits =
    let fields = r_fields m in
    let size : length fields + 7 < 256 ^ 4 = omega (arith, fits.size) in
    little_number-reads_back 4 (length fields + 7) (number 1 (r_kind m) ++ (number 2 tag ++ (fields ++ x))) size
    ∙ sym (seven (length fields + 7) (r_kind m) tag fields)

-- no spelling of an R-message begins another
pub apart : (s t : ℕ) (m n : PlainRMessage) (x y : List ℕ) → IsRMessage s m → IsRMessage t n → spelled_r s m ++ x ≡ spelled_r t n ++ y → (s ≡ t) × (m ≡ n) × (x ≡ y)
apart s t m n x y fits others e =
    let len : length (spelled_r s m) ≡ length (spelled_r t n) = sym (size_of s m x fits) ∙ ap (little_number 4) e ∙ size_of t n y others in
    let parts = split_front (spelled_r s m) x (spelled_r t n) y len e in
    let same = ok_is (s, m) (t, n) (sym (all_again s m fits) ∙ ap all_at parts.0 ∙ all_again t n others) in
    (ap (λ (x : ℕ × PlainRMessage). x.0) same, ap (λ (x : ℕ × PlainRMessage). x.1) same, parts.1)
