-- The walk with a queue, as a loader does it.
use Rattle.std.specs.Prelude.{◌≡◌, ◌≢◌, ℕ, Bool, false, cond, not, ◌&&◌, List, [], ◌∷◌, ◌++◌, Option, Some, None, bytes_eq, is_some, ◌⊎◌}
use Rattle.std.specs.declared.cmp.Ordering.{Ordering}
use Rattle.std.specs.declared.cmp.Ordering.TheVariants.{Less}
use Rattle.std.specs.Ordering.{nat_cmp}
use Rattle.std.specs.Cmp.Lexicographic.{slice_cmp}
use Rattle.clear_tree.specs.Walk.{Path, Sealing, Folders, Kind, Plain, Named, Linked, Bare, Node, File, Link, Dir, Bad, look, claimed}

abbrev pub Row : Type 0
Row = Path × Node

abbrev pub claims : Option (List ℕ) → List ℕ → Bool
claims None f = false
claims (Some g) f = bytes_eq g f

-- the path of the first row that names the folder
abbrev pub first_claim : Sealing → List ℕ → List Row → Option Path
first_claim s f [] = None
first_claim s f (r ∷ rows) = cond (claims (claimed s (Some r.1)) f) (Some r.0) (first_claim s f rows)

-- the row of an entry, by the rows before it
abbrev pub row_of : Sealing → Folders → List Row → Path → Kind → List Row
row_of s v rows p (Plain b) = (p, File b) ∷ []
row_of s v rows p (Linked b) = (p, Link b) ∷ []
row_of s v rows p (Named t) =
    (p, cond (s.valid_id t && (v.present (s.folder_of t) && not (is_some (first_claim s (s.folder_of t) rows)))) (Dir t) (Bad t)) ∷ []
row_of s v rows p Bare = []

-- the rows of a directory's entries, in order, by the rows before them
abbrev pub kids : Sealing → Folders → List Row → Path → List (List ℕ × Kind) → List Row
kids s v rows q [] = []
kids s v rows q (e ∷ es) = row_of s v rows (e.0 ∷ q) e.1 ++ kids s v (rows ++ row_of s v rows (e.0 ∷ q) e.1) q es

abbrev pub In : {A : Type 0} → A → List A → Type 0
In x [] = ⊥
In x (y ∷ ys) = (x ≡ y) ⊎ In x ys

abbrev pub Ascending : {A : Type 0} → (A → A → Ordering) → List A → Type 0
Ascending R [] = Unit {0}
Ascending {A} R (x ∷ xs) = ((y : A) → In y xs → R x y ≡ Less) × Ascending R xs

-- a directory's entries by name, in order of the names' bytes. Those without a known file may be left out
pub record AreEntries (s : Sealing) (v : Folders) (i : List ℕ) (es : List (List ℕ × Kind)) : Type 0 where
  pub sound : (e : List ℕ × Kind) → In e es → look s v i e.0 ≡ Some e.1
  pub complete : (m : List ℕ) (k : Kind) → look s v i m ≡ Some k → k ≢ Bare → In (m, k) es
  pub ascending : Ascending (λ (a b : List ℕ × Kind). slice_cmp nat_cmp a.0 b.0) es

-- the entries of a node: none but a directory has any
abbrev pub AreEntriesOf : Sealing → Folders → Node → List (List ℕ × Kind) → Type 0
AreEntriesOf s v (Dir i) es = AreEntries s v i es
AreEntriesOf s v (File c) es = es ≡ []
AreEntriesOf s v (Link c) es = es ≡ []
AreEntriesOf s v (Bad t) es = es ≡ []

-- A walk with a queue, from the root on: the rows that are done, and those that wait. A turn takes the first row that waits, and the rows of
-- its entries wait after the others.
pub data IsWalk (s : Sealing) (v : Folders) : List Row → List Row → Type 0 where
  Begun : IsWalk s v [] (([], Dir []) ∷ [])
  Turned : (done todo : List Row) (r : Row) (es : List (List ℕ × Kind)) → AreEntriesOf s v r.1 es → IsWalk s v done (r ∷ todo) →
      IsWalk s v (done ++ r ∷ []) (todo ++ kids s v (done ++ r ∷ todo) r.0 es)
