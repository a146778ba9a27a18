-- Each message that is read is the one that was written, and what was written is read again.
use Rattle.std.proofs.Common.{◌≡◌, ℕ, Bool, true, false, cond, eqb, List, ◌++◌, Ok, refl, sym, ap, subst, ◌∙◌, append_assoc}
use Rattle.std.proofs.lemmas.Bool.{eqb-true}
use Rattle.tree_model.specs.Wire.{number, string}
use Rattle.ninep_wire.specs.TMessage.{PlainTMessage, version, auth, attach, flush, walk, open_fid, create, read, write, clunk, remove, stat, wstat, t_kind, t_fields, IsTMessage}
use Rattle.ninep_wire.specs.Reading.{version_at, auth_at, attach_at, flush_at, walk_at, open_at, create_at, read_at, write_at, clunk_at, remove_at, fstat_at, wstat_at, t_message_at}
use Rattle.ninep_wire.proofs.FieldLaws.{IsBytes, Takes, takes1, takes2, takes3, takes4, number_field, string_field, counted, data_field, names, names_field}
use Rattle.ninep_wire.proofs.ChangeLaws.{sized_stat, stat_field}

-- what was read as the fields of a message of this type
pub record Called (kind : ℕ) (bytes : List ℕ) (y : PlainTMessage × List ℕ) : Type 0 where
  pub kind_is : t_kind y.0 ≡ kind
  pub takes : Takes bytes (t_fields y.0) y.1
  pub fits : IsTMessage y.0

version_takes : (bytes : List ℕ) (y : PlainTMessage × List ℕ) → IsBytes bytes → version_at bytes ≡ Ok y → Called 100 bytes y
unfolding version_at
version_takes bytes y fits e =
    takes2 (number_field 4) string_field version bytes y fits e (Called 100 bytes)
    (λ p q rest t f g. record { kind_is = refl; takes = t; fits = (f, g) })

auth_takes : (bytes : List ℕ) (y : PlainTMessage × List ℕ) → IsBytes bytes → auth_at bytes ≡ Ok y → Called 102 bytes y
unfolding auth_at
auth_takes bytes y fits e =
    takes3 (number_field 4) string_field string_field auth bytes y fits e (Called 102 bytes)
    (λ p q r rest t f g h. record { kind_is = refl; takes = t; fits = (f, g, h) })

attach_takes : (bytes : List ℕ) (y : PlainTMessage × List ℕ) → IsBytes bytes → attach_at bytes ≡ Ok y → Called 104 bytes y
unfolding attach_at
attach_takes bytes y fits e =
    takes4 (number_field 4) (number_field 4) string_field string_field attach bytes y fits e (Called 104 bytes)
    (λ p q r s rest t f g h k. record { kind_is = refl; takes = t; fits = (f, g, h, k) })

flush_takes : (bytes : List ℕ) (y : PlainTMessage × List ℕ) → IsBytes bytes → flush_at bytes ≡ Ok y → Called 108 bytes y
unfolding flush_at
flush_takes bytes y fits e =
    takes1 (number_field 2) flush bytes y fits e (Called 108 bytes)
    (λ p rest t f. record { kind_is = refl; takes = t; fits = f })

walk_takes : (bytes : List ℕ) (y : PlainTMessage × List ℕ) → IsBytes bytes → walk_at bytes ≡ Ok y → Called 110 bytes y
unfolding walk_at
walk_takes bytes y fits e =
    takes3 (number_field 4) (number_field 4) names_field walk bytes y fits e (Called 110 bytes)
    (λ p q r rest t f g h. record { kind_is = refl; takes = t; fits = (f, g, h.0, h.1) })

open_takes : (bytes : List ℕ) (y : PlainTMessage × List ℕ) → IsBytes bytes → open_at bytes ≡ Ok y → Called 112 bytes y
unfolding open_at
open_takes bytes y fits e =
    takes2 (number_field 4) (number_field 1) open_fid bytes y fits e (Called 112 bytes)
    (λ p q rest t f g. record { kind_is = refl; takes = t; fits = (f, g) })

create_takes : (bytes : List ℕ) (y : PlainTMessage × List ℕ) → IsBytes bytes → create_at bytes ≡ Ok y → Called 114 bytes y
unfolding create_at
create_takes bytes y fits e =
    takes4 (number_field 4) string_field (number_field 4) (number_field 1) create bytes y fits e (Called 114 bytes)
    (λ p q r s rest t f g h k. record { kind_is = refl; takes = t; fits = (f, g, h, k) })

read_takes : (bytes : List ℕ) (y : PlainTMessage × List ℕ) → IsBytes bytes → read_at bytes ≡ Ok y → Called 116 bytes y
unfolding read_at
read_takes bytes y fits e =
    takes3 (number_field 4) (number_field 8) (number_field 4) read bytes y fits e (Called 116 bytes)
    (λ p q r rest t f g h. record { kind_is = refl; takes = t; fits = (f, g, h) })

write_takes : (bytes : List ℕ) (y : PlainTMessage × List ℕ) → IsBytes bytes → write_at bytes ≡ Ok y → Called 118 bytes y
unfolding write_at
write_takes bytes y fits e =
    takes3 (number_field 4) (number_field 8) data_field write bytes y fits e (Called 118 bytes)
    (λ p q r rest t f g h. record { kind_is = refl; takes = t; fits = (f, g, h) })

clunk_takes : (bytes : List ℕ) (y : PlainTMessage × List ℕ) → IsBytes bytes → clunk_at bytes ≡ Ok y → Called 120 bytes y
unfolding clunk_at
clunk_takes bytes y fits e =
    takes1 (number_field 4) clunk bytes y fits e (Called 120 bytes)
    (λ p rest t f. record { kind_is = refl; takes = t; fits = f })

remove_takes : (bytes : List ℕ) (y : PlainTMessage × List ℕ) → IsBytes bytes → remove_at bytes ≡ Ok y → Called 122 bytes y
unfolding remove_at
remove_takes bytes y fits e =
    takes1 (number_field 4) remove bytes y fits e (Called 122 bytes)
    (λ p rest t f. record { kind_is = refl; takes = t; fits = f })

fstat_takes : (bytes : List ℕ) (y : PlainTMessage × List ℕ) → IsBytes bytes → fstat_at bytes ≡ Ok y → Called 124 bytes y
unfolding fstat_at
fstat_takes bytes y fits e =
    takes1 (number_field 4) stat bytes y fits e (Called 124 bytes)
    (λ p rest t f. record { kind_is = refl; takes = t; fits = f })

wstat_takes : (bytes : List ℕ) (y : PlainTMessage × List ℕ) → IsBytes bytes → wstat_at bytes ≡ Ok y → Called 126 bytes y
unfolding wstat_at
wstat_takes bytes y fits e =
    takes2 (number_field 4) stat_field wstat bytes y fits e (Called 126 bytes)
    (λ p q rest t f g. record { kind_is = refl; takes = t; fits = (f, g) })

split : {A : Type 0} (b : Bool) (x y z : A) (P : Type 0) → cond b x y ≡ z → (b ≡ true → x ≡ z → P) → (b ≡ false → y ≡ z → P) → P
split true x y z P e f g = f refl e
split false x y z P e f g = g refl e

is_kind : (kind n : ℕ) (bytes : List ℕ) (y : PlainTMessage × List ℕ) → eqb kind n ≡ true → Called n bytes y → Called kind bytes y
is_kind kind n bytes y t called = subst (λ (k : ℕ). Called k bytes y) (sym (eqb-true kind n t)) called

pub t_message_takes : (kind : ℕ) (bytes : List ℕ) (y : PlainTMessage × List ℕ) → IsBytes bytes → t_message_at kind bytes ≡ Ok y → Called kind bytes y
unfolding t_message_at
t_message_takes kind bytes y fits e =
    split (eqb kind 100) (version_at bytes) _ (Ok y) (Called kind bytes y) e (λ t e. is_kind kind 100 bytes y t (version_takes bytes y fits e)) (λ _ e.
    split (eqb kind 102) (auth_at bytes) _ (Ok y) (Called kind bytes y) e (λ t e. is_kind kind 102 bytes y t (auth_takes bytes y fits e)) (λ _ e.
    split (eqb kind 104) (attach_at bytes) _ (Ok y) (Called kind bytes y) e (λ t e. is_kind kind 104 bytes y t (attach_takes bytes y fits e)) (λ _ e.
    split (eqb kind 108) (flush_at bytes) _ (Ok y) (Called kind bytes y) e (λ t e. is_kind kind 108 bytes y t (flush_takes bytes y fits e)) (λ _ e.
    split (eqb kind 110) (walk_at bytes) _ (Ok y) (Called kind bytes y) e (λ t e. is_kind kind 110 bytes y t (walk_takes bytes y fits e)) (λ _ e.
    split (eqb kind 112) (open_at bytes) _ (Ok y) (Called kind bytes y) e (λ t e. is_kind kind 112 bytes y t (open_takes bytes y fits e)) (λ _ e.
    split (eqb kind 114) (create_at bytes) _ (Ok y) (Called kind bytes y) e (λ t e. is_kind kind 114 bytes y t (create_takes bytes y fits e)) (λ _ e.
    split (eqb kind 116) (read_at bytes) _ (Ok y) (Called kind bytes y) e (λ t e. is_kind kind 116 bytes y t (read_takes bytes y fits e)) (λ _ e.
    split (eqb kind 118) (write_at bytes) _ (Ok y) (Called kind bytes y) e (λ t e. is_kind kind 118 bytes y t (write_takes bytes y fits e)) (λ _ e.
    split (eqb kind 120) (clunk_at bytes) _ (Ok y) (Called kind bytes y) e (λ t e. is_kind kind 120 bytes y t (clunk_takes bytes y fits e)) (λ _ e.
    split (eqb kind 122) (remove_at bytes) _ (Ok y) (Called kind bytes y) e (λ t e. is_kind kind 122 bytes y t (remove_takes bytes y fits e)) (λ _ e.
    split (eqb kind 124) (fstat_at bytes) _ (Ok y) (Called kind bytes y) e (λ t e. is_kind kind 124 bytes y t (fstat_takes bytes y fits e)) (λ _ e.
    split (eqb kind 126) (wstat_at bytes) _ (Ok y) (Called kind bytes y) e (λ t e. is_kind kind 126 bytes y t (wstat_takes bytes y fits e)) (λ _ e.
    absurd cc)))))))))))))

-- two texts before a rest, grouped to the right
pub right2 : (a b rest : List ℕ) → (a ++ b) ++ rest ≡ a ++ (b ++ rest)
right2 a b rest = append_assoc a b rest

right3 : (a b c rest : List ℕ) → (a ++ b ++ c) ++ rest ≡ a ++ (b ++ (c ++ rest))
right3 a b c rest = simp append_assoc

right4 : (a b c d rest : List ℕ) → (a ++ b ++ c ++ d) ++ rest ≡ a ++ (b ++ (c ++ (d ++ rest)))
right4 a b c d rest = simp append_assoc

pub t_message_again : (c : PlainTMessage) (rest : List ℕ) → IsTMessage c → t_message_at (t_kind c) (t_fields c ++ rest) ≡ Ok (c, rest)
unfolding t_message_at version_at auth_at attach_at flush_at walk_at open_at create_at read_at write_at clunk_at remove_at fstat_at wstat_at
t_message_again (version msize text) rest fits =
    ap (t_message_at 100) (right2 (number 4 msize) (string text) rest)
    ∙ rw ((number_field 4).again msize (string text ++ rest) fits.0, string_field.again text rest fits.1) refl
t_message_again (auth afid uname aname) rest fits =
    ap (t_message_at 102) (right3 (number 4 afid) (string uname) (string aname) rest)
    ∙ rw ((number_field 4).again afid (string uname ++ (string aname ++ rest)) fits.0, string_field.again uname (string aname ++ rest) fits.1, string_field.again aname rest fits.2) refl
t_message_again (attach fid afid uname aname) rest fits =
    ap (t_message_at 104) (right4 (number 4 fid) (number 4 afid) (string uname) (string aname) rest)
    ∙
    rw ((number_field 4).again fid (number 4 afid ++ (string uname ++ (string aname ++ rest))) fits.0, (number_field 4).again afid (string uname ++ (string aname ++ rest)) fits.1, string_field.again uname (string aname ++ rest) fits.2, string_field.again aname rest fits.3) refl
t_message_again (flush oldtag) rest fits = rw ((number_field 2).again oldtag rest fits) refl
t_message_again (walk fid newfid ns) rest fits =
    ap (t_message_at 110) (right3 (number 4 fid) (number 4 newfid) (names ns) rest)
    ∙ rw ((number_field 4).again fid (number 4 newfid ++ (names ns ++ rest)) fits.0, (number_field 4).again newfid (names ns ++ rest) fits.1, names_field.again ns rest (fits.2, fits.3)) refl
t_message_again (open_fid fid mode) rest fits =
    ap (t_message_at 112) (right2 (number 4 fid) (number 1 mode) rest)
    ∙ rw ((number_field 4).again fid (number 1 mode ++ rest) fits.0, (number_field 1).again mode rest fits.1) refl
t_message_again (create fid name perm mode) rest fits =
    ap (t_message_at 114) (right4 (number 4 fid) (string name) (number 4 perm) (number 1 mode) rest)
    ∙
    rw ((number_field 4).again fid (string name ++ (number 4 perm ++ (number 1 mode ++ rest))) fits.0, string_field.again name (number 4 perm ++ (number 1 mode ++ rest)) fits.1, (number_field 4).again perm (number 1 mode ++ rest) fits.2, (number_field 1).again mode rest fits.3) refl
t_message_again (read fid offset count) rest fits =
    ap (t_message_at 116) (right3 (number 4 fid) (number 8 offset) (number 4 count) rest)
    ∙ rw ((number_field 4).again fid (number 8 offset ++ (number 4 count ++ rest)) fits.0, (number_field 8).again offset (number 4 count ++ rest) fits.1, (number_field 4).again count rest fits.2) refl
t_message_again (write fid offset bytes) rest fits =
    ap (t_message_at 118) (right3 (number 4 fid) (number 8 offset) (counted bytes) rest)
    ∙ rw ((number_field 4).again fid (number 8 offset ++ (counted bytes ++ rest)) fits.0, (number_field 8).again offset (counted bytes ++ rest) fits.1, data_field.again bytes rest fits.2) refl
t_message_again (clunk fid) rest fits = rw ((number_field 4).again fid rest fits) refl
t_message_again (remove fid) rest fits = rw ((number_field 4).again fid rest fits) refl
t_message_again (stat fid) rest fits = rw ((number_field 4).again fid rest fits) refl
t_message_again (wstat fid change) rest fits =
    ap (t_message_at 126) (right2 (number 4 fid) (sized_stat change) rest)
    ∙ rw ((number_field 4).again fid (sized_stat change ++ rest) fits.0, stat_field.again change rest fits.1) refl
