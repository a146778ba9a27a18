-- The chunks that wait, and one more after them.
use Rattle.std.proofs.Common.{◌≡◌, ℕ, suc, ◌+◌, ◌-◌, ◌≤◌, ◌<◌, min, max, List, [], ◌∷◌, ◌++◌, length, take, Bool, Option, refl, sym, ap, ◌∙◌, subst, arith, length-append}
use Rattle.std.specs.Prelude.{◌==◌, if◌then◌else◌}
use Rattle.std.specs.List.{AllByRecursion}
use Rattle.std.proofs.lemmas.Bool.{lt-ltb}
use Rattle.std.proofs.lemmas.List.{take_all, append-nil}
use Rattle.outside.specs.Disk.{Path}
use Rattle.deeds.specs.Reshape.{Ranges, EndWithin}
use Rattle.deeds.specs.Deeds.{PlainDeed, Reshapes}
use Rattle.pending_files.specs.Pending.{ranges_of, ranges_or_none, cut_to, with_chunk, put_in, cut_in, chunk_count, IsInside, HasRoom}
use Rattle.pending_files.proofs.Files.{same_path, file_here, without_here}
use Rattle.content_laws.specs.Rewriting.{place_of_chunk, CanPutChunks}
use Rattle.write_back.specs.Deeds.{ranges_in}
use Rattle.write_back.specs.Sealed.{chunks_of, HasBytes}
use Rattle.write_back.proofs.Cutting.{cut_first}

-- each chunk ends within the host file
pub ends_within : (size : ℕ) (sealed : List (List ℕ)) (first len : ℕ) → CanPutChunks size len first sealed → EndWithin size (ranges_in first sealed)
ends_within size [] first len can = tt
ends_within size (s ∷ more) first len can = (can.0.ends, ends_within size more (first + 1) (max len (place_of_chunk first + length s)) can.1)

pub ranges_long : (first : ℕ) (sealed : List (List ℕ)) → length (ranges_in first sealed) ≡ length sealed
ranges_long first [] = refl
ranges_long first (s ∷ more) = ap suc (ranges_long (first + 1) more)

-- those in front, and the one after them
within_front : (size first : ℕ) (front rest : List (List ℕ)) → EndWithin size (ranges_in first (front ++ rest)) → EndWithin size (ranges_in first front)
within_front size first [] rest ends = tt
within_front size first (s ∷ front) rest ends = (ends.0, within_front size (first + 1) front rest ends.1)

within_next : (size first index : ℕ) (front : List (List ℕ)) (x : List ℕ) (rest : List (List ℕ)) → index ≡ first + length front → EndWithin size (ranges_in first (front ++ x ∷ rest))
    → place_of_chunk index + length x ≤ size
within_next size first index [] x rest is ends = omega (arith, is, ends.0)
within_next size first index (s ∷ front) x rest is ends = within_next size (first + 1) index front x rest (omega arith) ends.1

-- ---- one more

abbrev Cut : Bool → ℕ → ℕ × List ℕ → Ranges → Ranges
Cut b len r more = if b then (r.0, take (len - r.0) r.1) ∷ more else []

abbrev With : Bool → ℕ → List ℕ → ℕ × List ℕ → Ranges → Ranges
With b at bytes r more = if b then r ∷ with_chunk at bytes more else if r.0 == at then (at, bytes) ∷ more else (at, bytes) ∷ r ∷ more

-- ranges within the size stay, and the chunk after them comes last
one_more : (size first index : ℕ) (front : List (List ℕ)) (x : List ℕ) → index ≡ first + length front → EndWithin size (ranges_in first front) → AllByRecursion HasBytes front
    → with_chunk (place_of_chunk index) x (cut_to size (ranges_in first front)) ≡ ranges_in first (front ++ x ∷ [])
one_more size first index [] x is ends some = let same : index ≡ first = omega arith in ap (λ (i : ℕ). (place_of_chunk i, x) ∷ []) same
one_more size first index (s ∷ front) x is ends some =
    let at : ℕ = place_of_chunk index in
    let r : ℕ × List ℕ = (place_of_chunk first, s) in
    let more : Ranges = cut_to size (ranges_in (first + 1) front) in
    let inside : place_of_chunk first < size = omega (arith, ends.0, some.0) in
    let before : place_of_chunk first < place_of_chunk index = omega (arith, is) in
    let whole : take (size - place_of_chunk first) s ≡ s = take_all (size - place_of_chunk first) s (omega (arith, ends.0)) in
    ap (λ (b : Bool). with_chunk at x (Cut b size r more)) (lt-ltb (place_of_chunk first) size inside)
    ∙ ap (λ (l : List ℕ). with_chunk at x ((place_of_chunk first, l) ∷ more)) whole
    ∙ ap (λ (b : Bool). With b at x r more) (lt-ltb (place_of_chunk first) (place_of_chunk index) before)
    ∙ ap (λ (l : Ranges). r ∷ l) (one_more size (first + 1) index front x (omega arith) ends.1 some.1)

-- a file's deed with one chunk more
put_behind : (path : Path) (size at : ℕ) (x : List ℕ) (rs : Ranges) → put_in path size at x (Reshapes path size rs ∷ []) ≡ Reshapes path size (with_chunk at x (cut_to size rs)) ∷ []
put_behind path size at x rs =
    let here = (same_path path path).1 refl in
    ap (λ (l : List PlainDeed). l ++ Reshapes path size (with_chunk at x (cut_to size (ranges_of path (Reshapes path size rs ∷ [])))) ∷ []) (without_here path (Reshapes path size rs) [] here)
    ∙ ap (λ (o : Option (ℕ × Ranges)). Reshapes path size (with_chunk at x (cut_to size (ranges_or_none o))) ∷ []) (file_here path (Reshapes path size rs) [] here)

-- ---- chunk by chunk

nothing : (bytes : List ℕ) → length bytes ≡ 0 → bytes ≡ []
nothing [] none = refl
nothing (b ∷ bytes) none = absurd (omega arith)

-- the first of them wait, as many as the count says, and these bytes are left
pub record IsPutSoFar (path : Path) (size first : ℕ) (sealed : List (List ℕ)) (left : List ℕ) (count : ℕ) (deeds : List PlainDeed) : Type 0 where
  pub front : List (List ℕ)
  pub all : front ++ chunks_of 32796 left ≡ sealed
  pub counted : length front ≡ count
  pub some : AllByRecursion HasBytes front
  pub waits : deeds ≡ Reshapes path size (ranges_in first front) ∷ []

some_pushed : (front : List (List ℕ)) (x : List ℕ) → AllByRecursion HasBytes front → 0 < length x → AllByRecursion HasBytes (front ++ x ∷ [])
some_pushed [] x some one = (one, tt)
some_pushed (s ∷ front) x some one = (some.0, some_pushed front x some.1 one)

push_first : (front : List (List ℕ)) (x : List ℕ) (rest : List (List ℕ)) → (front ++ x ∷ []) ++ rest ≡ front ++ x ∷ rest
push_first [] x rest = refl
push_first (s ∷ front) x rest = ap (λ (l : List (List ℕ)). s ∷ l) (push_first front x rest)

pub nothing_yet : (path : Path) (size first : ℕ) (bytes left : List ℕ) (count : ℕ) (old new : List PlainDeed) → old ≡ [] → new ≡ cut_in path size old → left ≡ bytes → count ≡ 0
    → IsPutSoFar path size first (chunks_of 32796 bytes) left count new
nothing_yet path size first bytes left count old new none is all zero = record {
  front = [];
  all = ap (chunks_of 32796) all;
  counted = sym zero;
  some = tt;
  waits = is ∙ ap (cut_in path size) none;
}

module _ (path : Path) (size first old_size : ℕ) (sealed : List (List ℕ)) (left : List ℕ) (count : ℕ) (deeds : List PlainDeed)
    (can : CanPutChunks size old_size first sealed) (so_far : IsPutSoFar path size first sealed left count deeds) where
  -- all of them, once nothing is left
  pub all_put : length left ≡ 0 → deeds ≡ Reshapes path size (ranges_in first sealed) ∷ []
  all_put none =
      let no_more : left ≡ [] = nothing left none in
      let is : so_far.front ≡ sealed = sym (append-nil so_far.front) ∙ ap (λ (l : List ℕ). so_far.front ++ chunks_of 32796 l) (sym no_more) ∙ so_far.all in
      so_far.waits ∙ ap (λ (l : List (List ℕ)). Reshapes path size (ranges_in first l) ∷ []) is

  module _ (piece : ℕ) (x rest : List ℕ) (full : piece ≡ 32796) (parts : left ≡ x ++ rest) (long : length x ≡ min piece (length left)) (some : 0 < length left) where
    some_x : 0 < length x
    some_x = omega arith

    is_next : so_far.front ++ x ∷ chunks_of 32796 rest ≡ sealed
    is_next =
        let sum : length left ≡ length x + length rest = ap length parts ∙ length-append x rest in
        sym (ap (λ (l : List (List ℕ)). so_far.front ++ l) (ap (chunks_of 32796) parts ∙ cut_first x rest some_x (long ∙ ap (λ (n : ℕ). min n (length left)) full ∙ ap (min 32796) sum))) ∙ so_far.all

    ends : EndWithin size (ranges_in first (so_far.front ++ x ∷ chunks_of 32796 rest))
    ends = subst (λ (l : List (List ℕ)). EndWithin size (ranges_in first l)) (sym is_next) (ends_within size sealed first old_size can)

    pub next_within : place_of_chunk (first + count) + length x ≤ size
    next_within = within_next size first (first + count) so_far.front x (chunks_of 32796 rest) (omega (arith, so_far.counted)) ends

    pub next_room : IsInside path → length sealed ≤ 64 → HasRoom deeds path 1
    next_room inside few =
        let counts = length-append so_far.front (x ∷ chunks_of 32796 rest) in
        let all = ap length is_next in
        let wait = ap chunk_count so_far.waits in
        let one = ap length so_far.waits in
        record { inside = inside; fits = omega (arith, counts, all, few, wait, ranges_long first so_far.front); files = λ none. omega (arith, one) }

    pub next_put : (new : List PlainDeed) → new ≡ put_in path size (place_of_chunk (first + count)) x deeds → IsPutSoFar path size first sealed rest (count + 1) new
    next_put new is = record {
      front = so_far.front ++ x ∷ [];
      all = push_first so_far.front x (chunks_of 32796 rest) ∙ is_next;
      counted = omega (arith, length-append so_far.front (x ∷ []), so_far.counted);
      some = some_pushed so_far.front x so_far.some some_x;
      waits = is ∙ ap (put_in path size (place_of_chunk (first + count)) x) so_far.waits ∙ put_behind path size (place_of_chunk (first + count)) x (ranges_in first so_far.front)
          ∙ ap (λ (l : Ranges). Reshapes path size l ∷ [])
          (one_more size first (first + count) so_far.front x (omega (arith, so_far.counted)) (within_front size first so_far.front (x ∷ chunks_of 32796 rest) ends) so_far.some);
    }
