-- A frame's header and fields.
use Rattle.std.proofs.Common.{◌≡◌, ℕ, ◌+◌, ◌≤◌, List, [], ◌++◌, length, get_or, take, drop, sym, ap, ◌∙◌, arith}
use Rattle.std.proofs.lemmas.List.{take-append-drop, drop-drop, drop_all, get_or-drop, length-take, length-drop, append-nil}
use Rattle.byteorder.specs.Endian.{little_number}
use Rattle.byteorder.specs.Numbers.{little_from-take, little_from-lt}
use Rattle.tree_model.specs.declared.stat.Qid.{Qid}
use Rattle.tree_model.specs.Wire.{number, qid, IsQid}
use Rattle.ninep_wire.specs.Header.{message}
use Rattle.ninep_wire.specs.Reading.{IsFrame}
use Rattle.sync_client.specs.Replies.{qid_size}
use Rattle.ninep_wire.proofs.FieldLaws.{IsBytes, IsBytes-take, IsBytes-drop, number-little_number}

-- bytes begin with the number that is read from them
pub front_number : (n : ℕ) (bytes : List ℕ) → IsBytes bytes → n ≤ length bytes → bytes ≡ number n (little_number n bytes) ++ drop n bytes
front_number n bytes fits le =
    let len : length (take n bytes) ≡ n = omega (arith, length-take n bytes) in
    let spelled : number n (little_number n (take n bytes)) ≡ take n bytes = number-little_number n (take n bytes) len (IsBytes-take n bytes fits) in
    let same : little_number n (take n bytes) ≡ little_number n bytes = little_from-take 0 n n bytes (omega arith) in
    sym (take-append-drop n bytes) ∙ ap (λ (w : List ℕ). w ++ drop n bytes) (sym spelled ∙ ap (number n) same)

-- ---- headers

-- what a frame is, if its type and tag are these
pub header_is : (frame : List ℕ) (kind tag : ℕ) → IsBytes frame → IsFrame frame → get_or frame 4 0 ≡ kind → little_number 2 (drop 5 frame) ≡ tag
    → frame ≡ message kind tag (drop 7 frame)
header_is frame kind tag fits framed kind_is tag_is =
    let size : little_number 4 frame ≡ length (drop 7 frame) + 7 = omega (arith, framed.size, framed.long, length-drop 7 frame) in
    let e0 = front_number 4 frame fits (omega (arith, framed.long)) in
    let e1 = front_number 1 (drop 4 frame) (IsBytes-drop 4 frame fits) (omega (arith, framed.long, length-drop 4 frame)) in
    let e2 = front_number 2 (drop 5 frame) (IsBytes-drop 5 frame fits) (omega (arith, framed.long, length-drop 5 frame)) in
    let kind_read : little_number 1 (drop 4 frame) ≡ kind = omega (arith, get_or-drop 4 frame 0 0, kind_is) in
    let five : drop 1 (drop 4 frame) ≡ drop 5 frame = drop-drop 1 4 frame in
    let seven : drop 2 (drop 5 frame) ≡ drop 7 frame = drop-drop 2 5 frame in
    let last : drop 5 frame ≡ number 2 tag ++ drop 7 frame = e2 ∙ ap (λ (w : List ℕ). number 2 (little_number 2 (drop 5 frame)) ++ w) seven ∙ ap (λ (k : ℕ). number 2 k ++ drop 7 frame) tag_is in
    let middle : drop 4 frame ≡ number 1 kind ++ (number 2 tag ++ drop 7 frame) =
    e1 ∙ ap (λ (w : List ℕ). number 1 (little_number 1 (drop 4 frame)) ++ w) (five ∙ last) ∙ ap (λ (k : ℕ). number 1 k ++ (number 2 tag ++ drop 7 frame)) kind_read in
    e0 ∙ ap (λ (k : ℕ). number 4 k ++ drop 4 frame) size ∙ ap (λ (w : List ℕ). number 4 (length (drop 7 frame) + 7) ++ w) middle

-- the fields of a message are what follows its header
pub fields_are : (kind tag : ℕ) (fields others : List ℕ) → message kind tag fields ≡ message kind tag others → fields ≡ others
fields_are kind tag fields others e = ap (drop 7) e

-- ---- a qid

-- 13 bytes are a qid's
pub qid_in : (bytes : List ℕ) → IsBytes bytes → length bytes ≡ qid_size → (q : Qid) × IsQid q × (bytes ≡ qid q)
qid_in bytes fits len =
    let kind = little_number 1 bytes in
    let revision = little_number 4 (drop 1 bytes) in
    let path = little_number 8 (drop 5 bytes) in
    let q : Qid = record { kind = kind; version = revision; path = path } in
    let f1 = IsBytes-drop 1 bytes fits in
    let f5 = IsBytes-drop 5 bytes fits in
    let e0 : bytes ≡ number 1 kind ++ drop 1 bytes = front_number 1 bytes fits (omega arith) in
    let e1 : drop 1 bytes ≡ number 4 revision ++ drop 4 (drop 1 bytes) = front_number 4 (drop 1 bytes) f1 (omega (arith, length-drop 1 bytes)) in
    let e2 : drop 5 bytes ≡ number 8 path ++ drop 8 (drop 5 bytes) = front_number 8 (drop 5 bytes) f5 (omega (arith, length-drop 5 bytes)) in
    let none : drop 8 (drop 5 bytes) ≡ [] = drop_all 8 (drop 5 bytes) (omega (arith, length-drop 5 bytes)) in
    let last : drop 5 bytes ≡ number 8 path = e2 ∙ ap (λ (w : List ℕ). number 8 path ++ w) none ∙ append-nil (number 8 path) in
    let rest : drop 1 bytes ≡ number 4 revision ++ number 8 path = e1 ∙ ap (λ (w : List ℕ). number 4 revision ++ w) (drop-drop 4 1 bytes ∙ last) in
    let whole : bytes ≡ number 1 kind ++ (number 4 revision ++ number 8 path) = e0 ∙ ap (λ (w : List ℕ). number 1 kind ++ w) rest in
    let low = little_from-lt 0 1 bytes fits in
    let mid = little_from-lt 0 4 (drop 1 bytes) f1 in
    let high = little_from-lt 0 8 (drop 5 bytes) f5 in
    (q, record { kind = omega (arith, low); version = omega (arith, mid); path = omega (arith, high) }, whole)
