-- Where the reading of a message stops.
use Rattle.std.proofs.Common.{◌≡◌, ℕ, ◌+◌, ◌-◌, ◌<◌, ◌≤◌, List, [], ◌++◌, length, take, drop, Option, refl, sym, ap, subst, ◌∙◌, arith, inl, inr}
use Rattle.std.proofs.lemmas.List.{take-append-drop, length-take, length-drop, length-append}
use Rattle.byteorder.specs.Numbers.{little_from-append}
use borrow.Rule.Slice.PartMut.{put_mid}
use Rattle.outside.specs.Calls.{Told}
use Rattle.outside.proofs.Told.{told_always}
use Rattle.session_core.specs.State.{State}
use Rattle.session_server.specs.declared.ending.SessionEnd.{SessionEnd}
use Rattle.session_server.specs.declared.ending.SessionEnd.TheVariants.{Cut, BadFrame, ReadFault}
use Rattle.session_server.specs.Talk.{size_of, IsSize, IsPart, IsReadUp}
use Rattle.session_server.specs.Steps.{Reads, StopsAt, Completes}
use Rattle.session_server.proofs.Links.{reads_then, reads_with, front_put}

-- the size is in the first four bytes
size_front : (xs rest : List ℕ) → 4 ≤ length xs → size_of (take 4 xs ++ rest) ≡ size_of xs
size_front xs rest le =
    let long : 4 ≤ length (take 4 xs) = omega (arith, length-take 4 xs) in
    little_from-append 4 (take 4 xs) rest long ∙ sym (little_from-append 4 (take 4 xs) (drop 4 xs) long) ∙ ap size_of (take-append-drop 4 xs)

pub stop_after : (head : List ℕ) (stage : State) (a b c : Option (List ℕ)) (end : SessionEnd) → Reads a b head → StopsAt head stage b c end → StopsAt [] stage a c end
stop_after head stage a b c end h stop = record {
  more = head ++ stop.more;
  read = reads_then (IsReadUp end) a b c head stop.more h stop.read;
  ends = stop.ends;
  kind = stop.kind;
}

pub cut_size : (stage : State) (a b : Option (List ℕ)) (k : ℕ) (ys : List ℕ) → 0 < k → k < 4 → k ≤ length ys → Reads a b (take k ys) → Told b (λ x. x ≡ [])
    → StopsAt [] stage a b (Cut k 4)
cut_size stage a b k ys some few fits h over =
    let len : length (take k ys) ≡ k = omega (arith, length-take k ys) in record {
      more = take k ys;
      read = reads_with (λ x. x ≡ []) a b (take k ys) h over;
      ends = (omega (arith, len), sym len, inl (omega (arith, len), refl));
      kind = tt;
    }

pub fault_size : (stage : State) (a b : Option (List ℕ)) (k : ℕ) (ys : List ℕ) → k < 4 → k ≤ length ys → Reads a b (take k ys) → StopsAt [] stage a b ReadFault
fault_size stage a b k ys few fits h =
    let len : length (take k ys) ≡ k = omega (arith, length-take k ys) in record {
      more = take k ys;
      read = reads_with (IsReadUp ReadFault) a b (take k ys) h (told_always b (IsReadUp ReadFault) (λ x. tt));
      ends = (4, inl (omega (arith, len), refl));
      kind = tt;
    }

-- a part of a message, from its size on
part_of : (stage : State) (size : ℕ) (xs ys : List ℕ) (k : ℕ) → IsSize stage size → size ≡ size_of xs → 4 ≤ length xs → k < size - 4 → k ≤ length ys
    → (length (take 4 xs ++ take k ys) ≡ 4 + k) × IsPart stage (take 4 xs ++ take k ys) size
part_of stage size xs ys k good is long few fits =
    let len : length (take 4 xs ++ take k ys) ≡ 4 + k = omega (arith, length-append (take 4 xs) (take k ys), length-take 4 xs, length-take k ys) in
    let same : size ≡ size_of (take 4 xs ++ take k ys) = is ∙ sym (size_front xs (take k ys) long) in
    let fit : IsSize stage (size_of (take 4 xs ++ take k ys)) = subst (λ (n : ℕ). IsSize stage n) same good in
    let less : length (take 4 xs ++ take k ys) < size_of (take 4 xs ++ take k ys) =
    subst (λ (n : ℕ). length (take 4 xs ++ take k ys) < n) same (omega (arith, len, few))
    in
    (len, inr (omega (arith, len), fit, less, same))

pub cut_rest : (stage : State) (a b : Option (List ℕ)) (size : ℕ) (xs ys : List ℕ) (k : ℕ) → IsSize stage size → size ≡ size_of xs → 4 ≤ length xs → k < size - 4 → k ≤ length ys
    → Reads a b (take k ys) → Told b (λ x. x ≡ []) → StopsAt (take 4 xs) stage a b (Cut (4 + k) size)
cut_rest stage a b size xs ys k good is long few fits h over =
    let part = part_of stage size xs ys k good is long few fits in record {
      more = take k ys;
      read = reads_with (λ x. x ≡ []) a b (take k ys) h over;
      ends = (omega (arith, part.0), sym part.0, part.1);
      kind = tt;
    }

pub fault_rest : (stage : State) (a b : Option (List ℕ)) (size : ℕ) (xs ys : List ℕ) (k : ℕ) → IsSize stage size → size ≡ size_of xs → 4 ≤ length xs → k < size - 4 → k ≤ length ys
    → Reads a b (take k ys) → StopsAt (take 4 xs) stage a b ReadFault
fault_rest stage a b size xs ys k good is long few fits h =
    let part = part_of stage size xs ys k good is long few fits in record {
      more = take k ys;
      read = reads_with (IsReadUp ReadFault) a b (take k ys) h (told_always b (IsReadUp ReadFault) (λ x. tt));
      ends = (size, part.1);
      kind = tt;
    }

pub bad_frame : (stage : State) (a b : Option (List ℕ)) (size : ℕ) (xs : List ℕ) → 4 ≤ length xs → size ≡ size_of xs → (IsSize stage size → ⊥) → Reads a b (take 4 xs)
    → StopsAt [] stage a b (BadFrame size)
bad_frame stage a b size xs long is bad h =
    let front : size_of (take 4 xs) ≡ size_of xs =
    sym (little_from-append 4 (take 4 xs) (drop 4 xs) (omega (arith, length-take 4 xs))) ∙ ap size_of (take-append-drop 4 xs)
    in record {
      more = take 4 xs;
      read = reads_with (IsReadUp (BadFrame size)) a b (take 4 xs) h (told_always b (IsReadUp (BadFrame size)) (λ x. tt));
      ends = (omega (arith, length-take 4 xs), front ∙ sym is, bad);
      kind = tt;
    }

pub completes : (a b : Option (List ℕ)) (size : ℕ) (xs ys : List ℕ) → 7 ≤ size → size ≤ length xs → length ys ≡ length (take (size - 4) (drop 4 xs))
    → Reads a b (take (length (take (size - 4) (drop 4 xs))) ys) → Completes (take 4 xs) a b (take size (put_mid 4 (size - 4) xs ys))
completes a b size xs ys low high len h =
    let count : ℕ = length (take (size - 4) (drop 4 xs)) in
    let same : size ≡ 4 + count = omega (arith, length-take (size - 4) (drop 4 xs), length-drop 4 xs) in (
      take count ys,
      ap (λ (n : ℕ). take n (put_mid 4 (size - 4) xs ys)) same ∙ front_put 4 count (size - 4) xs ys (omega arith) (omega (arith, len)),
      h,
    )
