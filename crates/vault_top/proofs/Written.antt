-- A report that is written in two parts.
use Rattle.std.proofs.Common.{◌≡◌, ℕ, ◌≤◌, List, [], ◌∷◌, ◌++◌, Option, Some, None, sym, ap, subst, ◌∙◌, inl, inr, append_assoc, arith}
use Rattle.std.proofs.lemmas.List.{length-append}
use Rattle.outside.specs.Calls.{Rose, Changes}
use Rattle.session_server.proofs.Links.{rose_later}
use Rattle.vault_top.specs.Report.{line, TakesPart}
use Rattle.vault_top.specs.Writing.{IsWritten}
use Rattle.outside.proofs.Told.{changed_by}

abbrev Contents : Type 0
Contents = Option (List ℕ)

pub whole_then : (a b c : Contents) (x y : List ℕ) → Changes a b (λ old new. new ≡ old ++ x) → Changes b c (λ old new. new ≡ old ++ y) → Changes a c (λ old new. new ≡ old ++ (x ++ y))
whole_then None None None x y h k = tt
whole_then None None (Some n) x y h k = absurd k
whole_then None (Some m) c x y h k = absurd h
whole_then (Some o) None c x y h k = absurd h
whole_then (Some o) (Some m) None x y h k = absurd k
whole_then (Some o) (Some m) (Some n) x y h k = k ∙ ap (λ (w : List ℕ). w ++ y) h ∙ append_assoc o x y

part_more : (o m n x y : List ℕ) → m ≡ o ++ x → TakesPart y m n → TakesPart (x ++ y) o n
part_more o m n x y h k = record {
  part = x ++ k.part;
  lost = k.lost;
  some_lost = k.some_lost;
  text_is = ap (λ (w : List ℕ). x ++ w) k.text_is ∙ sym (append_assoc x k.part k.lost);
  new_is = k.new_is ∙ ap (λ (w : List ℕ). w ++ k.part) h ∙ append_assoc o x k.part;
}

pub part_then : (a b c : Contents) (x y : List ℕ) → Changes a b (λ old new. new ≡ old ++ x) → Changes b c (TakesPart y) → Changes a c (TakesPart (x ++ y))
part_then None None None x y h k = tt
part_then None None (Some n) x y h k = absurd k
part_then None (Some m) c x y h k = absurd h
part_then (Some o) None c x y h k = absurd h
part_then (Some o) (Some m) None x y h k = absurd k
part_then (Some o) (Some m) (Some n) x y h k = part_more o m n x y h k

-- a first part was taken, and then a second was written
pub written_then : (before middle after : ℕ) (a b c : Contents) (x y : List ℕ) (whole cut status : ℕ) → before ≤ middle → Changes a b (λ old new. new ≡ old ++ x)
    → IsWritten (Rose middle after) b c y whole cut status → IsWritten (Rose before after) a c (x ++ y) whole cut status
written_then before middle after a b c x y whole cut status le first (inl h) = inl (h.0, whole_then a b c x y first h.1)
written_then before middle after a b c x y whole cut status le first (inr h) = inr (rose_later before middle after le h.0, h.1, part_then a b c x y first h.2)

-- a part of a front is a part of the whole
pub part_front : (a b : Contents) (x y : List ℕ) → Changes a b (TakesPart x) → Changes a b (TakesPart (x ++ y))
part_front a b x y h =
    changed_by a b (TakesPart x) (TakesPart (x ++ y)) (λ old new k. record {
      part = k.part;
      lost = k.lost ++ y;
      some_lost = omega (arith, k.some_lost, length-append k.lost y);
      text_is = ap (λ (w : List ℕ). w ++ y) k.text_is ∙ append_assoc k.part k.lost y;
      new_is = k.new_is;
    }) h

-- the first part wasn't taken whole
pub written_not : (before after : ℕ) (a b : Contents) (x y : List ℕ) (whole cut status : ℕ) → Rose before after → status ≡ cut → Changes a b (TakesPart x)
    → IsWritten (Rose before after) a b (x ++ y) whole cut status
written_not before after a b x y whole cut status failed same h = inr (failed, same, part_front a b x y h)

-- the same of the same text
pub written_as : (F : Type 0) (a b : Contents) (x y : List ℕ) (whole cut status : ℕ) → x ≡ y → IsWritten F a b x whole cut status → IsWritten F a b y whole cut status
written_as F a b x y whole cut status e h = subst (λ (w : List ℕ). IsWritten F a b w whole cut status) e h

-- ---- a line in pieces

abbrev line_end : List ℕ
line_end = 10 ∷ []

pub part_of_first : (a b : Contents) (x y : List ℕ) → Changes a b (TakesPart x) → Changes a b (TakesPart (line (x ++ y)))
part_of_first a b x y h = part_front a b (x ++ y) line_end (part_front a b x y h)

pub part_of_second : (a b c : Contents) (x y : List ℕ) → Changes a b (λ old new. new ≡ old ++ x) → Changes b c (TakesPart y) → Changes a c (TakesPart (line (x ++ y)))
part_of_second a b c x y h k = part_front a c (x ++ y) line_end (part_then a b c x y h k)

pub part_of_third : (a b c d : Contents) (x y : List ℕ) → Changes a b (λ old new. new ≡ old ++ x) → Changes b c (λ old new. new ≡ old ++ y) → Changes c d (TakesPart line_end)
    → Changes a d (TakesPart (line (x ++ y)))
part_of_third a b c d x y h k l = part_then a c d (x ++ y) line_end (whole_then a b c x y h k) l
