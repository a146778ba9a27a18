-- What a link's bytes are after one call and then another.
use Rattle.std.proofs.Common.{◌≡◌, ℕ, ◌+◌, ◌-◌, ◌<◌, ◌≤◌, List, ◌++◌, length, take, drop, Option, Some, None, sym, ap, subst, ◌∙◌, append_assoc, arith, inl, inr}
use Rattle.std.proofs.lemmas.List.{take_all, take-append-le, length-take, length-drop, length-append, take_at}
use Rattle.std.proofs.lemmas.Slice.{take-put_mid}
use Rattle.byteorder.specs.Numbers.{little_from-append}
use Rattle.std.proofs.Math.Seq.{take-add, take-append-add}
use borrow.Rule.Slice.PartMut.{put_mid, post_of}
use Rattle.outside.specs.Calls.{Rose, Changes, Extends, TakesFront}
use Rattle.sync_client.specs.declared.sync_err.SyncErr.{SyncErr}
use Rattle.sync_client.specs.declared.sync_err.SyncErr.TheVariants.{Refused, NotNinep, Ended, Fault}
use Rattle.sync_client.specs.Talk.{IsSize, size_of, IsPart, IsReadUp}
use Rattle.sync_client.specs.Steps.{IsShort, IsNoReply, StopsReading}

-- ---- reads

pub reads_more : (a b c : Option (List ℕ)) (x y : List ℕ) → TakesFront a b x → TakesFront b c y → TakesFront a c (x ++ y)
reads_more None None None x y h k = tt
reads_more None None (Some n) x y h k = absurd k
reads_more None (Some m) c x y h k = absurd h
reads_more (Some o) None c x y h k = absurd h
reads_more (Some o) (Some m) None x y h k = absurd k
reads_more (Some o) (Some m) (Some n) x y h k = h ∙ ap (λ (w : List ℕ). x ++ w) k ∙ sym (append_assoc x y n)

-- bytes were read, and then others, of which and of what is left then P holds
pub reads_then : (P : List ℕ → Type 0) (a b c : Option (List ℕ)) (x y : List ℕ) → TakesFront a b x → Changes b c (λ old new. (old ≡ y ++ new) × P new)
    → Changes a c (λ old new. (old ≡ (x ++ y) ++ new) × P new)
reads_then P None None None x y h k = tt
reads_then P None None (Some n) x y h k = absurd k
reads_then P None (Some m) c x y h k = absurd h
reads_then P (Some o) None c x y h k = absurd h
reads_then P (Some o) (Some m) None x y h k = absurd k
reads_then P (Some o) (Some m) (Some n) x y h k = (h ∙ ap (λ (w : List ℕ). x ++ w) k.0 ∙ sym (append_assoc x y n), k.1)

-- the front of a buffer, after a part after it was written
front_put : (a n k : ℕ) (xs ys : List ℕ) → a ≤ length xs → n ≤ length ys → take (a + n) (put_mid a k xs ys) ≡ take a xs ++ take n ys
front_put a n k xs ys le fits =
    let front : length (take a xs) ≡ a = omega (arith, length-take a xs) in
    let rest : List ℕ = ys ++ post_of a k xs in
    let whole : take (length (take a xs) + n) (take a xs ++ rest) ≡ take a xs ++ take n rest = take-append-add (take a xs) rest n in
    ap (λ (m : ℕ). take (m + n) (take a xs ++ rest)) (sym front) ∙ whole ∙ ap (λ (w : List ℕ). take a xs ++ w) (take-append-le n ys (post_of a k xs) fits)

pub put_long : (a n k : ℕ) (xs ys : List ℕ) → a ≤ length xs → n ≤ length ys → a + n ≤ length (put_mid a k xs ys)
put_long a n k xs ys le fits =
    omega (arith, length-take a xs, length-append (take a xs) (ys ++ post_of a k xs), length-append ys (post_of a k xs))

pub reads_behind : (a b c : Option (List ℕ)) (at n k : ℕ) (xs ys : List ℕ) → at ≤ length xs → n ≤ length ys → TakesFront a b (take at xs) → TakesFront b c (take n ys)
    → TakesFront a c (take (at + n) (put_mid at k xs ys))
reads_behind a b c at n k xs ys le fits h j =
    subst (λ (w : List ℕ). TakesFront a c w) (sym (front_put at n k xs ys le fits)) (reads_more a b c (take at xs) (take n ys) h j)

-- ---- where they stop

-- a part of a reply, from its size on
part_of : (head part : List ℕ) (n : ℕ) → length head ≡ 4 → IsSize (size_of head) → n + 4 ≡ size_of head → length part < n → IsPart (head ++ part)
part_of head part n four good all few =
    let size : size_of (head ++ part) ≡ size_of head = little_from-append 4 head part (omega arith) in
    let len : length (head ++ part) ≡ 4 + length part = omega (arith, length-append head part) in
    inr (omega arith, subst IsSize (sym size) good, omega arith)

no_more : (head part : List ℕ) (n : ℕ) (err : SyncErr) → length head ≡ 4 → IsSize (size_of head) → n + 4 ≡ size_of head → IsShort n part err → IsNoReply (head ++ part) err
no_more head part n Refused four good all short = absurd short
no_more head part n NotNinep four good all short = absurd short
no_more head part n Ended four good all short = part_of head part n four good all short
no_more head part n Fault four good all short = part_of head part n four good all short

-- the reading of a reply stops after its size
pub stops_behind : (a b c : Option (List ℕ)) (head : List ℕ) (n : ℕ) (err : SyncErr) → length head ≡ 4 → IsSize (size_of head) → n + 4 ≡ size_of head
    → TakesFront a b head → StopsReading (IsShort n) b c err → StopsReading IsNoReply a c err
stops_behind a b c head n err four good all h stops = record {
  part = head ++ stops.part;
  read = reads_then (IsReadUp err) a b c head stops.part h stops.read;
  stop = no_more head stops.part n err four good all stops.stop;
}

-- a reply in a buffer, its size and then the rest
pub reads_both : (a b c : Option (List ℕ)) (size k : ℕ) (head behind rest : List ℕ) → length head ≡ 4 → size ≡ 4 + length rest → TakesFront a b head → TakesFront b c rest
    → TakesFront a c (take size (put_mid 4 k (head ++ behind) rest))
reads_both a b c size k head behind rest four all h j =
    let front : take 4 (head ++ behind) ≡ head = take_at head behind 4 four in
    let long : 4 ≤ length (head ++ behind) = omega (arith, length-append head behind) in
    let whole : take size (put_mid 4 k (head ++ behind) rest) ≡ head ++ rest = take-put_mid 4 k (head ++ behind) rest size all long ∙ ap (λ (w : List ℕ). w ++ rest) front in
    subst (λ (w : List ℕ). TakesFront a c w) (sym whole) (reads_more a b c head rest h j)

-- ---- writes

pub writes_more : (a b c : Option (List ℕ)) (x y : List ℕ) → Extends a b x → Extends b c y → Extends a c (x ++ y)
writes_more None None None x y h k = tt
writes_more None None (Some n) x y h k = absurd k
writes_more None (Some m) c x y h k = absurd h
writes_more (Some o) None c x y h k = absurd h
writes_more (Some o) (Some m) None x y h k = absurd k
writes_more (Some o) (Some m) (Some n) x y h k = k ∙ ap (λ (w : List ℕ). w ++ y) h ∙ append_assoc o x y

-- a part of a message was written, and then its next bytes
pub writes_behind : (a b c : Option (List ℕ)) (at n : ℕ) (xs : List ℕ) → n ≤ length xs - at → Extends a b (take at xs)
    → Extends b c (take n (take (length xs - at) (drop at xs))) → Extends a c (take (at + n) xs)
writes_behind a b c at n xs fits h j =
    let whole : take (length xs - at) (drop at xs) ≡ drop at xs = take_all (length xs - at) (drop at xs) (omega (arith, length-drop at xs)) in
    let next : Extends b c (take n (drop at xs)) = subst (λ (w : List ℕ). Extends b c (take n w)) whole j in
    subst (λ (w : List ℕ). Extends a c w) (sym (take-add at n xs)) (writes_more a b c (take at xs) (take n (drop at xs)) h next)

-- ---- counts

-- a count that rose in the last call rose
pub rose_later : (a b c : ℕ) → a ≤ b → Rose b c → Rose a c
rose_later a b c le (inl h) = inl (omega arith)
rose_later a b c le (inr h) = inr h
