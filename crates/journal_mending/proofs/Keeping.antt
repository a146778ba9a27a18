-- The first name that is free, and a journal that is moved there.
use Rattle.std.proofs.Common.{◌≡◌, ◌≢◌, ⊎_elim, ℕ, ◌+◌, ◌<◌, ◌≤◌, true, false, is_some, Option, Some, None, refl, sym, ap, subst, ◌∙◌, arith}
use Rattle.std.specs.Option.{option_map}
use Rattle.std.proofs.lemmas.Bool.{cases_lt, false≢true}
use Rattle.outside.specs.Calls.{Told, Changes}
use Rattle.outside.specs.Disk.{Path, Node, node_at, kind_of, kind_at}
use Rattle.outside.specs.declared.folder.Kind.{Kind}
use Rattle.outside.specs.Changes.{Move}
use Rattle.outside.specs.Images.{Log, now, disk_in, HasDone}
use Rattle.outside.proofs.Told.{told_through}
use Rattle.chunk_journal.specs.Journal.{journal_file}
use Rattle.journal_mending.specs.Kept.{kept_file, IsFirstFree, HasDiscarded}
use Rattle.journal_mending.proofs.Closing.{Settles}

-- something is at each number below this one
abbrev pub AllTaken : ℕ → Log → Type 0
AllTaken n l = (m : ℕ) → 0 < m → m < n → node_at (now l) (kept_file m) ≢ None

pub none_taken : (a : Option Log) → Told a (AllTaken 1)
none_taken None = tt
none_taken (Some l) = λ m low high. absurd (omega (arith, low, high))

one_taken : (n : ℕ) (l : Log) → AllTaken n l → node_at (now l) (kept_file n) ≢ None → AllTaken (n + 1) l
one_taken n l all one m low high = ⊎_elim (λ (lt : m < n). all m low lt)
    (λ (le : n ≤ m). let e : n ≡ m = omega (arith, le, high) in subst (λ (k : ℕ). node_at (now l) (kept_file k) ≢ None) e one) (cases_lt m n)

there : (o : Option Node) (here : Option Kind) → here ≡ option_map kind_of o → is_some here ≡ true → o ≢ None
there None None e some = λ none. false≢true some
there None (Some k) e some = absurd cc
there (Some node) here e some = λ none. absurd cc

nothing : (o : Option Node) (here : Option Kind) → here ≡ option_map kind_of o → is_some here ≡ false → o ≡ None
nothing None here e none = refl
nothing (Some node) None e none = absurd cc
nothing (Some node) (Some k) e none = absurd (false≢true (sym none))

taken_at : (a : Option Log) (n : ℕ) (path : Path) (here : Option Kind) → path ≡ kept_file n → is_some here ≡ true → Told a (AllTaken n) → Told (disk_in a) (λ d. here ≡ kind_at d path) → Told a (AllTaken (n + 1))
taken_at None n path here is some all kind = tt
taken_at (Some l) n path here is some all kind = one_taken n l all (there (node_at (now l) (kept_file n)) here (kind ∙ ap (kind_at (now l)) is) some)

pub told_taken : (a b : Option Log) (n : ℕ) (path : Path) (here : Option Kind) → b ≡ a → path ≡ kept_file n → is_some here ≡ true → Told a (AllTaken n) → Told (disk_in b) (λ d. here ≡ kind_at d path) → Told a (AllTaken (n + 1))
told_taken a b n path here same is some all kind = taken_at a n path here is some all (subst (λ (o : Option Log). Told (disk_in o) (λ d. here ≡ kind_at d path)) same kind)

free_at : (a : Option Log) (n : ℕ) (path : Path) (here : Option Kind) → path ≡ kept_file n → is_some here ≡ false → Told a (AllTaken n) → Told (disk_in a) (λ d. here ≡ kind_at d path) → Told a (λ l. IsFirstFree n (now l))
free_at None n path here is none all kind = tt
free_at (Some l) n path here is none all kind = record { free = nothing (node_at (now l) (kept_file n)) here (kind ∙ ap (kind_at (now l)) is) none; first = all }

pub told_free : (a b : Option Log) (n : ℕ) (path : Path) (here : Option Kind) → b ≡ a → path ≡ kept_file n → is_some here ≡ false → Told a (AllTaken n) → Told (disk_in b) (λ d. here ≡ kind_at d path) → Told a (λ l. IsFirstFree n (now l))
told_free a b n path here same is none all kind = free_at a n path here is none all (subst (λ (o : Option Log). Told (disk_in o) (λ d. here ≡ kind_at d path)) same kind)

moved : (n : ℕ) (x y z : Log) → IsFirstFree n (now x) → HasDone (Move journal_file (kept_file n)) x y → Settles y z → HasDiscarded n (now x) z
moved n x y z name did settles = record { can = did.0; is = ap now settles.0 ∙ ap now did.1; steady = settles.1; name = name }

pub told_moved : (n : ℕ) (a b c : Option Log) → Told a (λ l. IsFirstFree n (now l)) → Changes a b (HasDone (Move journal_file (kept_file n))) → Changes b c Settles → Changes a c (λ old new. HasDiscarded n (now old) new)
told_moved n a b c name did settles = told_through a b c (λ l. IsFirstFree n (now l)) (HasDone (Move journal_file (kept_file n))) Settles (λ old new. HasDiscarded n (now old) new) (moved n) name did settles
