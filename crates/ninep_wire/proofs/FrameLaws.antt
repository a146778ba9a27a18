-- A frame that is read is the message that was written, what was written is read again, and no spelling begins another.
use Rattle.std.proofs.Common.{◌≡◌, ℕ, ◌+◌, ◌^◌, ◌<◌, List, [], ◌++◌, length, take, drop, Result, Ok, Err, refl, sym, ap, subst, ◌∙◌, arith}
use Rattle.std.specs.Prelude.{IfOk, IsOkAnd}
use Rattle.std.proofs.lemmas.List.{take_at, drop_at, append-nil}
use Rattle.byteorder.specs.Endian.{little_number}
use Rattle.byteorder.specs.Numbers.{little_number-reads_back}
use Rattle.ninep_wire.specs.declared.fault.WireErr.{WireErr}
use Rattle.ninep_wire.specs.declared.t_message.Message.{Message}
use Rattle.tree_model.specs.Wire.{number}
use Rattle.ninep_wire.specs.TMessage.{PlainTMessage, version, auth, attach, flush, walk, open_fid, create, read, write, clunk, remove, stat, wstat, t_kind, t_fields, IsTMessage, PlainMessage, IsMessage, spelled_t}
use Rattle.ninep_wire.specs.Plain.{plain_message}
use Rattle.ninep_wire.specs.Reading.{◌>>=◌, Gives, IsFrame, number_at, t_message_at, ended, message_in}
use Rattle.ninep_wire.proofs.FieldLaws.{IsBytes, bind_ok, ok_is, step, number_field}
use Rattle.ninep_wire.proofs.ChangeLaws.{ended_ok}
use Rattle.ninep_wire.proofs.MessageLaws.{t_message_takes, t_message_again}

-- a header has seven bytes
pub seven : (size kind tag : ℕ) (fields : List ℕ) → length (number 4 size ++ (number 1 kind ++ (number 2 tag ++ fields))) ≡ length fields + 7
seven size kind tag fields = omega arith

-- a frame of these parts is a message's spelling
whole_frame : (frame r0 r1 r2 rest : List ℕ) (size tag : ℕ) (c : PlainTMessage) → IsFrame frame → size < 256 ^ 4 → tag < 256 ^ 2 → IsTMessage c
    → frame ≡ number 4 size ++ r0 → r0 ≡ number 1 (t_kind c) ++ r1 → r1 ≡ number 2 tag ++ r2 → r2 ≡ t_fields c ++ rest → rest ≡ []
    → IsMessage (record { tag = tag; body = c }) × (frame ≡ spelled_t (record { tag = tag; body = c }))
whole_frame frame r0 r1 r2 rest size tag c framed size_fits tag_fits fits e0 e1 e2 e3 e4 =
    let last : r2 ≡ t_fields c = e3 ∙ ap (λ (w : List ℕ). t_fields c ++ w) e4 ∙ append-nil (t_fields c) in
    let inner : r0 ≡ number 1 (t_kind c) ++ (number 2 tag ++ t_fields c) = e1 ∙ ap (λ (w : List ℕ). number 1 (t_kind c) ++ w) (e2 ∙ ap (λ (w : List ℕ). number 2 tag ++ w) last) in
    let parts : frame ≡ number 4 size ++ (number 1 (t_kind c) ++ (number 2 tag ++ t_fields c)) = e0 ∙ ap (λ (w : List ℕ). number 4 size ++ w) inner in
    let len : length frame ≡ length (t_fields c) + 7 = ap (λ (w : List ℕ). length w) parts ∙ seven size (t_kind c) tag (t_fields c) in
    let read : little_number 4 frame ≡ size = ap (little_number 4) e0 ∙ little_number-reads_back 4 size r0 size_fits in
    let sized : size ≡ length (t_fields c) + 7 = sym read ∙ framed.size ∙ len in (
      record { tag = omega (arith, tag_fits); body = fits; size = omega (arith, sized, size_fits) },
      subst (λ (k : ℕ). frame ≡ number 4 k ++ (number 1 (t_kind c) ++ (number 2 tag ++ t_fields c))) sized parts,
    )

pub message_takes : (frame : List ℕ) (m : PlainMessage) → IsBytes frame → IsFrame frame → message_in frame ≡ Ok m → IsMessage m × (frame ≡ spelled_t m)
unfolding message_in
message_takes frame m fits framed e =
    step (number_field 4)
    (λ size. number_at 1 size.1 >>= λ kind. number_at 2 kind.1 >>= λ tag. t_message_at kind.0 tag.1 >>= λ call. ended call >>= λ whole. Ok (record { tag = tag.0; body = whole }))
    frame m fits e (IsMessage m × (frame ≡ spelled_t m)) (λ size r0 t0 f0 e0.
    step (number_field 1)
    (λ kind. number_at 2 kind.1 >>= λ tag. t_message_at kind.0 tag.1 >>= λ call. ended call >>= λ whole. Ok (record { tag = tag.0; body = whole }))
    r0 m t0.rest_fits e0 (IsMessage m × (frame ≡ spelled_t m)) (λ kind r1 t1 f1 e1.
    step (number_field 2)
    (λ tag. t_message_at kind tag.1 >>= λ call. ended call >>= λ whole. Ok (record { tag = tag.0; body = whole }))
    r1 m t1.rest_fits e1 (IsMessage m × (frame ≡ spelled_t m)) (λ tag r2 t2 f2 e2.
    let a = bind_ok (t_message_at kind r2) (λ call. ended call >>= λ whole. Ok (record { tag = tag; body = whole })) m e2 in
    let called = t_message_takes kind r2 a.0 t2.rest_fits a.1 in
    let b = bind_ok (ended a.0) (λ whole. Ok (record { tag = tag; body = whole })) m a.2 in
    let over = ended_ok a.0 b.0 b.1 in
    let made : PlainMessage = record { tag = tag; body = b.0 } in
    let is : made ≡ m = ok_is made m b.2 in
    let kinds : r0 ≡ number 1 (t_kind a.0.0) ++ r1 = subst (λ (k : ℕ). r0 ≡ number 1 k ++ r1) (sym called.kind_is) t1.parts in
    let found = whole_frame frame r0 r1 r2 a.0.1 size tag a.0.0 framed f0 f2 called.fits t0.parts kinds t2.parts called.takes.parts over.0 in
    let other = subst (λ (c : PlainTMessage). IsMessage (record { tag = tag; body = c }) × (frame ≡ spelled_t (record { tag = tag; body = c }))) over.1 found in
    subst (λ (n : PlainMessage). IsMessage n × (frame ≡ spelled_t n)) is other)))

-- each type fits a byte
kind_fits : (c : PlainTMessage) → t_kind c < 256 ^ 1
kind_fits (version msize text) = omega arith
kind_fits (auth afid uname aname) = omega arith
kind_fits (attach fid afid uname aname) = omega arith
kind_fits (flush oldtag) = omega arith
kind_fits (walk fid newfid names) = omega arith
kind_fits (open_fid fid mode) = omega arith
kind_fits (create fid name perm mode) = omega arith
kind_fits (read fid offset count) = omega arith
kind_fits (write fid offset bytes) = omega arith
kind_fits (clunk fid) = omega arith
kind_fits (remove fid) = omega arith
kind_fits (stat fid) = omega arith
kind_fits (wstat fid change) = omega arith

pub message_again : (m : PlainMessage) → IsMessage m → message_in (spelled_t m) ≡ Ok m
unfolding message_in
message_again m fits =
    let fields = t_fields m.body in
    let size : length fields + 7 < 256 ^ 4 = omega (arith, fits.size) in
    let tag : m.tag < 256 ^ 2 = omega (arith, fits.tag) in
    let call : t_message_at (t_kind m.body) fields ≡ Ok (m.body, []) = ap (t_message_at (t_kind m.body)) (sym (append-nil fields)) ∙ t_message_again m.body [] fits.body in
    rw (
      (number_field 4).again (length fields + 7) (number 1 (t_kind m.body) ++ (number 2 m.tag ++ fields)) size,
      (number_field 1).again (t_kind m.body) (number 2 m.tag ++ fields) (kind_fits m.body),
      (number_field 2).again m.tag fields tag,
      call,
    ) refl

-- ---- no spelling begins another

-- equal lists have equal fronts of one length, and equal rests
pub split_front : (a x b y : List ℕ) → length a ≡ length b → a ++ x ≡ b ++ y → (a ≡ b) × (x ≡ y)
split_front a x b y len e = (
  sym (take_at a x (length a) refl) ∙ ap (take (length a)) e ∙ take_at b y (length a) (sym len),
  sym (drop_at a x (length a) refl) ∙ ap (drop (length a)) e ∙ drop_at b y (length a) (sym len),
)

-- a spelling's first four bytes are its length
size_of : (m : PlainMessage) (x : List ℕ) → IsMessage m → little_number 4 (spelled_t m ++ x) ≡ length (spelled_t m)
size_of m x fits =
    let fields = t_fields m.body in
    let size : length fields + 7 < 256 ^ 4 = omega (arith, fits.size) in
    little_number-reads_back 4 (length fields + 7) (number 1 (t_kind m.body) ++ (number 2 m.tag ++ (fields ++ x))) size ∙ sym (seven (length fields + 7) (t_kind m.body) m.tag fields)

-- no spelling of a T-message begins another
pub apart : (m n : PlainMessage) (x y : List ℕ) → IsMessage m → IsMessage n → spelled_t m ++ x ≡ spelled_t n ++ y → (m ≡ n) × (x ≡ y)
apart m n x y fits others e =
    let len : length (spelled_t m) ≡ length (spelled_t n) = sym (size_of m x fits) ∙ ap (little_number 4) e ∙ size_of n y others in
    let parts = split_front (spelled_t m) x (spelled_t n) y len e in
    (ok_is m n (sym (message_again m fits) ∙ ap message_in parts.0 ∙ message_again n others), parts.1)

-- ---- what a reader of frames ensures

abbrev failed : WireErr → Result PlainMessage WireErr
failed d = Err d

pub is_read : (frame : List ℕ) (r : Result Message WireErr) → IsBytes frame → IsFrame frame → Gives plain_message r (message_in frame)
    → IfOk r (λ m. IsMessage (plain_message m) × (frame ≡ spelled_t (plain_message m)))
is_read frame (Ok m) fits framed given = message_takes frame (plain_message m) fits framed given
is_read frame (Err e) fits framed given = tt

pub is_only : (frame : List ℕ) (r : Result Message WireErr) → Gives plain_message r (message_in frame)
    → (m : PlainMessage) → IsMessage m → frame ≡ spelled_t m → IsOkAnd r (λ found. plain_message found ≡ m)
is_only frame (Ok found) given m fits e = ok_is (plain_message found) m (sym given ∙ ap message_in e ∙ message_again m fits)
is_only frame (Err d) given m fits e = let no : failed d ≡ Ok m = sym given ∙ ap message_in e ∙ message_again m fits in absurd cc
