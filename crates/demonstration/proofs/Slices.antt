-- Slices of a content, one after the other.
use Rattle.std.proofs.Common.{◌≡◌, ℕ, zero, suc, ◌+◌, ◌<◌, ◌≤◌, List, [], ◌∷◌, ◌++◌, length, take, drop, Option, Some, None, refl, sym, ap, subst, ◌∙◌, inl, inr, arith}
use Rattle.std.specs.Prelude.{option_map}
use Rattle.std.proofs.Math.Seq.{take-add}
use Rattle.std.proofs.lemmas.List.{length-take, length-drop}
use Rattle.std.specs.Prelude.{Result, Err}
use Rattle.outside.specs.Calls.{Told}
use Rattle.outside.specs.Disk.{Disk}
use Rattle.outside.proofs.Told.{told_both, told_then}
use Rattle.vault_keys.specs.Keys.{KeyPair}
use Rattle.tree_model.specs.Rows.{Content, bad_size, chunks, all_there, joined, joined_cells, slice_of}
use Rattle.file_chunks.specs.File.{IsKey, clear_length, content_of}
use Rattle.file_chunks.proofs.Contents.{bad_content, length-content, sized}
use Rattle.content_reader.specs.Reading.{Ends, read_of}
use Rattle.content_reader.specs.declared.error.ReadErr.{ReadErr}
use Rattle.content_reader.specs.declared.error.ReadErr.TheVariants as read_errs
use Rattle.demonstration.specs.declared.error.LeftErr.{LeftErr}
use Rattle.demonstration.specs.declared.error.LeftErr.TheVariants as left_errs
use Rattle.demonstration.specs.Errors.{of_reading}
use Rattle.demonstration.specs.Left.{IsDamaged}

-- ---- lists

pub take-whole : {X : Type 0} (n : ℕ) (xs : List X) → length xs ≤ n → take n xs ≡ xs
take-whole zero [] all = refl
take-whole zero (x ∷ xs) all = absurd (omega arith)
take-whole (suc n) [] all = refl
take-whole (suc n) (x ∷ xs) all = ap (λ ys. x ∷ ys) (take-whole n xs (omega arith))

-- ---- what is all there

-- the head and the rest of what is there
pub record HasHead {X : Type 0} (x : X) (rest : Option (List X)) (all : List X) : Type 0 where
  pub others : List X
  pub rest_is : rest ≡ Some others
  pub all_is : all ≡ x ∷ others

with_head : {X : Type 0} (x : X) (rest : Option (List X)) (all : List X) → option_map (λ others. x ∷ others) rest ≡ Some all → HasHead x rest all
with_head x None all h = absurd cc
with_head x (Some others) all h = record { others = others; rest_is = refl; all_is = cc }

pub all_there-append : {X : Type 0} (a b : List (Option X)) (xs ys : List X) → all_there a ≡ Some xs → all_there b ≡ Some ys → all_there (a ++ b) ≡ Some (xs ++ ys)
all_there-append [] b xs ys h k = let e : [] ≡ xs = cc in k ∙ ap (λ zs. Some (zs ++ ys)) e
all_there-append (None ∷ a) b xs ys h k = absurd cc
all_there-append (Some x ∷ a) b xs ys h k =
    let head = with_head x (all_there a) xs h in
    ap (option_map (λ rest. x ∷ rest)) (all_there-append a b head.others ys head.rest_is k) ∙ ap (λ zs. Some (zs ++ ys)) (sym head.all_is)

pub all_there-length : {X : Type 0} (a : List (Option X)) (xs : List X) → all_there a ≡ Some xs → length xs ≡ length a
all_there-length [] xs h = let e : [] ≡ xs = cc in ap length (sym e)
all_there-length (None ∷ a) xs h = absurd cc
all_there-length (Some x ∷ a) xs h =
    let head = with_head x (all_there a) xs h in ap length head.all_is ∙ ap suc (all_there-length a head.others head.rest_is)

map_none : {X : Type 0} (x : X) (rest : Option (List X)) → option_map (λ others. x ∷ others) rest ≡ None → rest ≡ None
map_none x None h = refl
map_none x (Some others) h = absurd cc

-- what isn't there in a part isn't there in the whole
take_lost : {X : Type 0} (n : ℕ) (a : List (Option X)) → all_there (take n a) ≡ None → all_there a ≡ None
take_lost zero a h = absurd cc
take_lost (suc n) [] h = h
take_lost (suc n) (None ∷ a) h = refl
take_lost (suc n) (Some x ∷ a) h = ap (option_map (λ rest. x ∷ rest)) (take_lost n a (map_none x (all_there (take n a)) h))

drop_lost : {X : Type 0} (n : ℕ) (a : List (Option X)) → all_there (drop n a) ≡ None → all_there a ≡ None
drop_lost zero a h = h
drop_lost (suc n) [] h = h
drop_lost (suc n) (None ∷ a) h = refl
drop_lost (suc n) (Some x ∷ a) h = ap (option_map (λ rest. x ∷ rest)) (drop_lost n a h)

-- ---- contents

-- a content of which some read fails can't be read whole
pub read-damaged : (content : Content) (at n : ℕ) → read_of content at n ≡ None → IsDamaged content
read-damaged bad_size at n h = inl refl
read-damaged (chunks opens cells) at n h = inr (drop_lost at (joined_cells cells) (take_lost n (drop at (joined_cells cells)) h))

-- the clear bytes are no more than the sealed ones
no_longer : (keys : KeyPair) (sealed : List ℕ) → IsKey keys.enc → length (joined (content_of keys sealed)) ≤ length sealed
no_longer keys sealed key = by_size (clear_length (length sealed)) refl
  where
    by_size : (size : Option ℕ) → clear_length (length sealed) ≡ size → length (joined (content_of keys sealed)) ≤ length sealed
    by_size None is =
        let empty : length (joined (content_of keys sealed)) ≡ 0 = ap (λ (c : Content). length (joined c)) ((bad_content keys sealed).0 is) in
        omega arith
    by_size (Some n) is =
        let many : length (joined (content_of keys sealed)) ≡ n = length-content keys sealed n key is in
        omega (arith, many, (sized (length sealed) n is).len)

-- so there is no slice of more bytes than the host file has
pub slice-within : (keys : KeyPair) (sealed : List ℕ) (count : ℕ) (bytes : List ℕ) → IsKey keys.enc
    → slice_of (content_of keys sealed) 0 count ≡ Some bytes → length bytes ≤ length sealed
slice-within keys sealed count bytes key h =
    let cells = joined (content_of keys sealed) in
    let many : length bytes ≡ length (take count (drop 0 cells)) = all_there-length (take count (drop 0 cells)) bytes h in
    omega (arith, many, length-take count (drop 0 cells), length-drop 0 cells, no_longer keys sealed key)

-- a read of a good size is a slice
pub read-slice : (content : Content) (at most : ℕ) (bytes : List ℕ) → read_of content at most ≡ Some bytes → slice_of content at most ≡ Some bytes
read-slice bad_size at most bytes h = absurd cc
read-slice (chunks opens cells) at most bytes h = h

-- a slice after what was read so far
pub slices-join : (content : Content) (at n : ℕ) (before bytes : List ℕ) → slice_of content 0 at ≡ Some before → read_of content at n ≡ Some bytes
    → slice_of content 0 (at + n) ≡ Some (before ++ bytes)
slices-join content at n before bytes h k =
    ap all_there (take-add at n (joined content))
    ∙ all_there-append (take at (joined content)) (take n (drop at (joined content))) before bytes h (read-slice content at n bytes k)

-- a short one is the last
pub slices-end : (content : Content) (at n : ℕ) (before bytes : List ℕ) → slice_of content 0 at ≡ Some before → read_of content at n ≡ Some bytes → length bytes < n
    → all_there (joined content) ≡ Some (before ++ bytes)
slices-end content at n before bytes h k short =
    let cells = joined content in
    let many : length bytes ≡ length (take n (drop at cells)) = all_there-length (take n (drop at cells)) bytes (read-slice content at n bytes k) in
    let last : length cells ≤ at + n = omega (arith, many, short, length-take n (drop at cells), length-drop at cells) in
    ap all_there (sym (take-whole (at + n) cells last)) ∙ slices-join content at n before bytes h k

-- ---- of whatever sealed bytes a disk has

module _ (disk : Option Disk) (P : Disk → List ℕ → Type 0) (content : List ℕ → Content) (at n : ℕ) (before more now : List ℕ) (joins : now ≡ before ++ more)
    (so_far : Told disk (λ d. (sealed : List ℕ) → P d sealed → slice_of (content sealed) 0 at ≡ Some before))
    (read : Told disk (λ d. (sealed : List ℕ) → P d sealed → read_of (content sealed) at n ≡ Some more)) where
  -- the slices so far, with one more
  pub told_more : (next : ℕ) → next ≡ at + n → Told disk (λ d. (sealed : List ℕ) → P d sealed → slice_of (content sealed) 0 next ≡ Some now)
  told_more next is =
      told_both disk (λ d. (sealed : List ℕ) → P d sealed → slice_of (content sealed) 0 at ≡ Some before) (λ d. (sealed : List ℕ) → P d sealed → read_of (content sealed) at n ≡ Some more)
      (λ d. (sealed : List ℕ) → P d sealed → slice_of (content sealed) 0 next ≡ Some now) so_far read
      (λ d a b sealed p. ap (slice_of (content sealed) 0) is ∙ slices-join (content sealed) at n before more (a sealed p) (b sealed p) ∙ ap (λ (xs : List ℕ). Some xs) (sym joins))

  -- all of them, if the last is short
  pub told_last : length more < n → Told disk (λ d. (sealed : List ℕ) → P d sealed → all_there (joined (content sealed)) ≡ Some now)
  told_last short =
      told_both disk (λ d. (sealed : List ℕ) → P d sealed → slice_of (content sealed) 0 at ≡ Some before) (λ d. (sealed : List ℕ) → P d sealed → read_of (content sealed) at n ≡ Some more)
      (λ d. (sealed : List ℕ) → P d sealed → all_there (joined (content sealed)) ≡ Some now) so_far read
      (λ d a b sealed p. slices-end (content sealed) at n before more (a sealed p) (b sealed p) short ∙ ap (λ (xs : List ℕ). Some xs) (sym joins))

-- ---- damage

-- a read that is answered as damage found damage
pub read_errs-damaged : {A : Type 0} (result : Result A LeftErr) (e : ReadErr) (f : LeftErr) → result ≡ Err f → f ≡ of_reading e
    → result ≡ Err left_errs.Damaged → e ≡ read_errs.Damaged
read_errs-damaged result read_errs.Device f is from damaged = absurd cc
read_errs-damaged result read_errs.Damaged f is from damaged = refl

pub told_damaged : (disk : Option Disk) (P : Disk → List ℕ → Type 0) (content : List ℕ → Content) (at n before now : ℕ) (e : ReadErr)
    → e ≡ read_errs.Damaged → Told disk (λ d. (sealed : List ℕ) → P d sealed → Ends {A = List ℕ} (read_of (content sealed) at n) before now (Err e))
    → Told disk (λ d. (sealed : List ℕ) → P d sealed → IsDamaged (content sealed))
told_damaged disk P content at n before now e same told =
    told_then disk (λ d. (sealed : List ℕ) → P d sealed → Ends {A = List ℕ} (read_of (content sealed) at n) before now (Err e))
    (λ d. (sealed : List ℕ) → P d sealed → IsDamaged (content sealed)) told
    (λ d ends sealed p.
    read-damaged (content sealed) at n (subst (λ (x : ReadErr). Ends {A = List ℕ} (read_of (content sealed) at n) before now (Err x)) same (ends sealed p)))

-- so many slices aren't all there are
pub told_past : (disk : Option Disk) (P : Disk → List ℕ → Type 0) (keys : KeyPair) (count size : ℕ) (bytes : List ℕ)
    → IsKey keys.enc → size < length bytes → ((d : Disk) (sealed : List ℕ) → P d sealed → length sealed ≡ size)
    → Told disk (λ d. (sealed : List ℕ) → P d sealed → slice_of (content_of keys sealed) 0 count ≡ Some bytes)
    → Told disk (λ d. (sealed : List ℕ) → P d sealed → IsDamaged (content_of keys sealed))
told_past disk P keys count size bytes key past long told =
    told_then disk (λ d. (sealed : List ℕ) → P d sealed → slice_of (content_of keys sealed) 0 count ≡ Some bytes)
    (λ d. (sealed : List ℕ) → P d sealed → IsDamaged (content_of keys sealed)) told
    (λ d so_far sealed p. absurd (omega (arith, past, long d sealed p, slice-within keys sealed count bytes key (so_far sealed p))))
