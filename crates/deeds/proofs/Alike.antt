-- Two files that are compared piece by piece.
use Rattle.std.proofs.Common.{◌≡◌, ⊎_elim, ℕ, ◌+◌, ◌-◌, ◌<◌, ◌≤◌, min, List, ◌++◌, length, take, drop, Bool, true, false, nat_eq, Some, refl, sym, ap, ◌∙◌, arith, length-drop}
use Rattle.std.specs.Prelude.{IsTrue, MatchBool, ◌↔◌, ◌≢◌}
use Rattle.std.specs.Cmp.Lexicographic.{pointwise, told_text}
use Rattle.std.proofs.lemmas.Bool.{cases_lt}
use Rattle.std.proofs.lemmas.List.{take-append-drop, take_all, take-take, drop-take}
use Rattle.outside.specs.Disk.{Disk, Path, file, node_at}

-- what a read gave of a file
abbrev pub HasRead : Path → List ℕ → ℕ → ℕ → ℕ → Disk → Type 0
HasRead path out room at n disk = (bytes : List ℕ) × (node_at disk path ≡ Some (file bytes)) × (n ≡ min room (length bytes - at)) × (take n out ≡ take n (drop at bytes))

-- a piece that is cut to what there is
piece_whole : (at room n : ℕ) (bs : List ℕ) → n ≡ min room (length bs - at) → take n (drop at bs) ≡ take room (drop at bs)
piece_whole at room n bs is =
    let rest = drop at bs in
    let long : length rest ≡ length bs - at = length-drop at bs in
    ⊎_elim
    (λ (more : length rest < room). take_all n rest (omega (arith, long, is)) ∙ sym (take_all room rest (omega arith)))
    (λ (full : room ≤ length rest). let e : n ≡ room = omega (arith, long, is) in ap (λ (k : ℕ). take k rest) e)
    (cases_lt (length rest) room)

same_file : (d : Disk) (p : Path) (a b : List ℕ) → node_at d p ≡ Some (file a) → node_at d p ≡ Some (file b) → a ≡ b
same_file d p a b one two = (let e : Some (file a) ≡ Some (file b) = sym one ∙ two in cc)

-- what was read of it is its piece
piece_read : (d : Disk) (p : Path) (out : List ℕ) (room at n : ℕ) (a : List ℕ) → HasRead p out room at n d → node_at d p ≡ Some (file a) → take n out ≡ take room (drop at a)
piece_read d p out room at n a read is =
    read.3 ∙ piece_whole at room n read.0 read.2 ∙ ap (λ (l : List ℕ). take room (drop at l)) (same_file d p read.0 a read.1 is)

same_exactly : (held : Bool) (xs ys : List ℕ) → MatchBool held (xs ≡ ys) (xs ≢ ys) → IsTrue held ↔ (xs ≡ ys)
same_exactly true xs ys is = (λ h. is, λ e. refl)
same_exactly false xs ys is = (λ h. absurd cc, λ e. absurd (is e))

pub pieces_alike : (d : Disk) (p q : Path) (first second : List ℕ) (room at n m : ℕ) (held : Bool) → held ≡ pointwise nat_eq (take n first) (take m second) → HasRead p first room at n d → HasRead q second room at m d
    → (a b : List ℕ) → node_at d p ≡ Some (file a) → node_at d q ≡ Some (file b) → IsTrue held ↔ (take room (drop at a) ≡ take room (drop at b))
pieces_alike d p q first second room at n m held tested one two a b ia ib =
    let is = same_exactly held (take n first) (take m second) (told_text (take n first) (take m second) held tested) in
    let ea = piece_read d p first room at n a one ia in
    let eb = piece_read d q second room at m b two ib in
    (λ h. sym ea ∙ is.0 h ∙ eb, λ e. is.1 (ea ∙ e ∙ sym eb))

-- the front and the piece after it
front_and_piece : (at k : ℕ) (l : List ℕ) → take (at + k) l ≡ take at l ++ take k (drop at l)
front_and_piece at k l =
    sym (take-append-drop at (take (at + k) l)) ∙ ap (λ (f : List ℕ). f ++ drop at (take (at + k) l)) (take-take at (at + k) l (omega arith))
    ∙ ap (λ (t : List ℕ). take at l ++ t) (drop-take at k l)

-- a longer front is alike, too
pub longer_front : (at room k : ℕ) (a b : List ℕ) → k ≤ room → take at a ≡ take at b → take room (drop at a) ≡ take room (drop at b) → take (at + k) a ≡ take (at + k) b
longer_front at room k a b le front piece =
    let short : (l : List ℕ) → take k (take room l) ≡ take k l = λ l. take-take k room l le in
    let same : take k (drop at a) ≡ take k (drop at b) = sym (short (drop at a)) ∙ ap (take k) piece ∙ short (drop at b) in
    front_and_piece at k a ∙ ap (λ (f : List ℕ). f ++ take k (drop at a)) front ∙ ap (λ (t : List ℕ). take at b ++ t) same ∙ sym (front_and_piece at k b)

-- the fronts as long as both files are the files
pub whole_alike : (at len : ℕ) (a b : List ℕ) → len ≤ at → length a ≡ len → length b ≡ len → take at a ≡ take at b → a ≡ b
whole_alike at len a b past la lb front = sym (take_all at a (omega (arith, past, la))) ∙ front ∙ take_all at b (omega (arith, past, lb))

-- files that aren't alike in a piece differ
pub other_piece : (at room : ℕ) (a b : List ℕ) (held : Bool) → held ≡ false → (IsTrue held ↔ (take room (drop at a) ≡ take room (drop at b))) → IsTrue false ↔ (a ≡ b)
other_piece at room a b held differs is = (
  λ h. absurd cc,
  λ e. absurd (let t : true ≡ false = sym (is.1 (ap (λ (l : List ℕ). take room (drop at l)) e)) ∙ differs in cc),
)
