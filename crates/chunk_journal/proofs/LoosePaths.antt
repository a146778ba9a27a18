-- The paths that are loose, as a list.
use Rattle.std.proofs.Common.{◌≡◌, ◌↔◌, ◌⊎◌, ℕ, zero, suc, ◌+◌, List, [], ◌∷◌, ◌++◌, take, drop, Contains, sym, ap, subst, ◌∙◌, inl, inr, arith, add-one, append_assoc, append-nil}
use Rattle.std.proofs.lemmas.List.Elements.{Contains-append_cases, Contains-append_left, Contains-append_right}
use Rattle.outside.specs.Disk.{Disk, Path}
use Rattle.deeds.specs.Deeds.{PlainDeed, named, names}
use Rattle.deeds.proofs.Windows.{take_next}
use Rattle.chunk_journal.specs.Journal.{journal_file, new_file, HoldsBatch, IsClosed, IsLoose}
use Rattle.chunk_journal.proofs.Gate.{closed_not_held, one_held}

-- ---- what one deed more names

named_end : (ds : List PlainDeed) (d : PlainDeed) → named (ds ++ d ∷ []) ≡ named ds ++ names d
named_end [] d = append-nil (names d)
named_end (x ∷ ds) d = ap (λ (l : List Path). names x ++ l) (named_end ds d) ∙ sym (append_assoc (names x) (named ds) (names d))

pub named_more : (ds : List PlainDeed) (i : ℕ) (d : PlainDeed) → drop i ds ≡ d ∷ drop (i + 1) ds → named (take (i + 1) ds) ≡ named (take i ds) ++ names d
named_more ds i d e = ap (λ (k : ℕ). named (take k ds)) (add-one i) ∙ ap named (take_next i ds d (drop (i + 1) ds) e) ∙ named_end (take i ds) d

-- ---- the list of all

abbrev pub two_files : List Path
two_files = journal_file ∷ new_file ∷ []

in_files : (path : Path) → Contains two_files path → (path ≡ journal_file) ⊎ (path ≡ new_file)
in_files path there = elim (Contains-append_cases (journal_file ∷ []) (new_file ∷ []) path there) [ inl first ↦ inl (lone journal_file path first) | inr second ↦ inr (lone new_file path second) ]
  where
    lone : (x q : Path) → Contains (x ∷ []) q → q ≡ x
    lone x q (zero, within, is) = sym is
    lone x q (suc k, within, is) = absurd (omega (arith, within))

files_in : (path : Path) → (path ≡ journal_file) ⊎ (path ≡ new_file) → Contains two_files path
files_in path (inl is) = (0, omega arith, sym is)
files_in path (inr is) = (1, omega arith, sym is)

pub closed_loose : (d : Disk) → IsClosed d → (path : Path) → Contains two_files path ↔ IsLoose d path
closed_loose d closed path = (
  (λ there. elim (in_files path there) [ inl is ↦ inl is | inr is ↦ inr (inl is) ]),
  (λ loose. elim loose [ inl is ↦ files_in path (inl is) | inr (inl is) ↦ files_in path (inr is) | inr (inr batch) ↦ absurd (closed_not_held d batch.0 closed batch.1) ]),
)

pub held_loose : (ds : List PlainDeed) (d : Disk) → HoldsBatch d ds → (path : Path) → Contains (two_files ++ named ds) path ↔ IsLoose d path
held_loose ds d held path = (
  (λ there. elim (Contains-append_cases two_files (named ds) path there) [
    | inl file ↦ elim (in_files path file) [ inl is ↦ inl is | inr is ↦ inr (inl is) ]
    | inr name ↦ inr (inr (ds, held, name))
  ]),
  (λ loose. elim loose [
    | inl is ↦ Contains-append_left two_files (named ds) path (files_in path (inl is))
    | inr (inl is) ↦ Contains-append_left two_files (named ds) path (files_in path (inr is))
    | inr (inr batch) ↦ Contains-append_right two_files (named ds) path (subst (λ (l : List PlainDeed). Contains (named l) path) (one_held d batch.0 ds batch.1 held) batch.2)
  ]),
)
