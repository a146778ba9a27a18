-- The first journal: a file beside it, and then moved to its place.
use Rattle.std.proofs.Common.{◌≡◌, ◌≢◌, ℕ, List, [], ◌∷◌, get_or, Option, Some, None, refl, sym, ap, subst, ◌∙◌, inl, inr, arith}
use Rattle.outside.specs.Disk.{Disk, Path, Node, folder, file, node_at, IsFolder}
use Rattle.outside.specs.Calls.{Told, Changes}
use Rattle.chunk_journal.proofs.Faults.{closed_free}
use Rattle.outside.specs.Changes.{Put, Move, CanDo, IsPartOf, done, set_at}
use Rattle.outside.specs.Images.{Log, now}
use Rattle.outside.proofs.Paths.{set_here, set_there}
use Rattle.outside.proofs.Moments.{weaker, joined}
use Rattle.outside.proofs.Told.{through}
use Rattle.outside.proofs.Told.{both_changed, changed_from}
use Rattle.outside.specs.Unsynced.{IsSynced}
use Rattle.deeds.proofs.Again.{at_disk}
use Rattle.chunk_journal.specs.Journal.{journal_file, new_file, IsClosed, IsAlike, IsReady, RecoversLike, IsQuiet, StaysShut}
use Rattle.chunk_journal.specs.Stages.{IsKept, LeavesParts}
use Rattle.chunk_journal.proofs.Gate.{files_apart, shut_reopens}
use Rattle.chunk_journal.proofs.Tidy.{move_tidy, put_rest, put_tidy, tidy_joined}

pub record HasNew (old new : Log) : Type 0 where
  pub at_start : IsQuiet old
  pub stays : StaysShut old new
  pub steady : IsSynced new
  pub here : node_at (now new) new_file ≡ Some (file (0 ∷ []))
  pub rest : (q : Path) → q ≢ new_file → node_at (now new) q ≡ node_at (now old) q

journal_apart : journal_file ≢ new_file
journal_apart e = files_apart (sym e)

no_folder_file : (o : Option Node) (bytes : List ℕ) → o ≡ Some (file bytes) → o ≡ Some folder → ⊥
no_folder_file o bytes f is = let e : Some (file bytes) ≡ Some folder = sym f ∙ is in cc

put_no_folder : (bytes : List ℕ) (d c : Disk) → (IsFolder d new_file → ⊥) → IsPartOf (Put new_file bytes) d c → IsFolder c new_file → ⊥
put_no_folder bytes d c none (inl same) is = none (sym (at_disk new_file same) ∙ is)
put_no_folder bytes d c none (inr (inl never)) is = absurd never
put_no_folder bytes d c none (inr (inr set)) is = no_folder_file _ set.1.0 (at_disk new_file set.2 ∙ set_here d new_file set.0 new_file refl ∙ set.1.1) is

-- what isn't open recovers to itself
still_shut : (d c : Disk) → IsClosed c → IsAlike d c → (IsFolder c new_file → ⊥) → RecoversLike d c
still_shut d c closed alike none = (c, inl (closed, refl), alike, shut_reopens c closed none)

same_closed : (d c : Disk) → node_at c journal_file ≡ node_at d journal_file → IsClosed d → IsClosed c
same_closed d c e (inl none) = inl (e ∙ none)
same_closed d c e (inr f) = inr (f.0, e ∙ f.1, f.2)

part_new : (old : Log) (c : Disk) → IsQuiet old → IsPartOf (Put new_file (0 ∷ [])) (now old) c → RecoversLike (now old) c
part_new old c shut part =
    let rest = put_rest (0 ∷ []) (now old) c part in
    still_shut (now old) c (same_closed (now old) c (rest journal_file journal_apart) shut.closed) (λ q ne nm. rest q nm) (put_no_folder (0 ∷ []) (now old) c shut.no_folder part)

pub new_leaves : (old new : Log) → IsQuiet old → LeavesParts (Put new_file (0 ∷ [])) old new → StaysShut old new
new_leaves old new shut all = record {
  recovers = weaker old new _ (RecoversLike (now old)) (λ c part. part_new old c shut part) all.images;
  tidy = put_tidy (0 ∷ []) old new shut.steady all;
}

pub has_new : (old new : Log) → IsQuiet old → IsKept (Put new_file (0 ∷ [])) old new → LeavesParts (Put new_file (0 ∷ [])) old new → HasNew old new
has_new old new shut kept all = record {
  at_start = shut;
  stays = new_leaves old new shut all;
  steady = kept.steady;
  here = at_disk new_file kept.is ∙ set_here (now old) new_file (Some (file (0 ∷ []))) new_file refl;
  rest = λ q ne. at_disk q kept.is ∙ set_there (now old) new_file (Some (file (0 ∷ []))) q ne;
}

moved_rest : (d c : Disk) → c ≡ done (Move new_file journal_file) d → (q : Path) → q ≢ journal_file → q ≢ new_file → node_at c q ≡ node_at d q
moved_rest d c is q ne nm = at_disk q is ∙ set_there (set_at d new_file None) journal_file (node_at d new_file) q ne ∙ set_there d new_file None q nm

moved_here : (d c : Disk) → c ≡ done (Move new_file journal_file) d → node_at c journal_file ≡ node_at d new_file
moved_here d c is = at_disk journal_file is ∙ set_here (set_at d new_file None) journal_file (node_at d new_file) journal_file refl

gate_shut : (bytes : List ℕ) → bytes ≡ 0 ∷ [] → get_or bytes 0 0 ≡ 1 → ⊥
gate_shut bytes is open_gate = let e : get_or bytes 0 0 ≡ 0 = ap (λ (l : List ℕ). get_or l 0 0) is in absurd (omega (arith, e, open_gate))

moved_away : (d c : Disk) → c ≡ done (Move new_file journal_file) d → IsFolder c new_file → ⊥
moved_away d c is folder_is =
    let e : None ≡ Some folder = sym (at_disk new_file is ∙ set_there (set_at d new_file None) journal_file (node_at d new_file) new_file files_apart ∙ set_here d new_file None new_file refl) ∙ folder_is in cc

part_moved : (old mid : Log) (c : Disk) → HasNew old mid → IsPartOf (Move new_file journal_file) (now mid) c → RecoversLike (now old) c
part_moved old mid c has (inl same) =
    still_shut (now old) c (same_closed (now old) c (at_disk journal_file same ∙ has.rest journal_file journal_apart) has.at_start.closed) (λ q ne nm. at_disk q same ∙ has.rest q nm) (λ is. no_folder_file _ (0 ∷ []) has.here (sym (at_disk new_file same) ∙ is))
part_moved old mid c has (inr (inl moved)) =
    still_shut (now old) c (inr (0 ∷ [], moved_here (now mid) c moved.2 ∙ has.here, gate_shut (0 ∷ []) refl)) (λ q ne nm. moved_rest (now mid) c moved.2 q ne nm ∙ has.rest q nm) (λ is. moved_away (now mid) c moved.2 is)
part_moved old mid c has (inr (inr set)) = absurd set.1

pub move_leaves : (old mid new : Log) → HasNew old mid → LeavesParts (Move new_file journal_file) mid new → StaysShut old new
move_leaves old mid new has all = record {
  recovers = joined old mid new (RecoversLike (now old)) has.stays.recovers (weaker mid new _ (RecoversLike (now old)) (λ c part. part_moved old mid c has part) all.images);
  tidy = tidy_joined old mid new has.stays.tidy (move_tidy mid new has.steady all);
}

pub at_rest : (old mid new : Log) → HasNew old mid → IsKept (Move new_file journal_file) mid new → IsReady new × IsAlike (now old) (now new)
at_rest old mid new has kept = (
  record {
    steady = kept.steady;
    gate = 0;
    rest = [];
    here = moved_here (now mid) (now new) kept.is ∙ has.here;
    shut = λ e. (cc);
    no_folder = moved_away (now mid) (now new) kept.is;
  },
  λ q ne nm. moved_rest (now mid) (now new) kept.is q ne nm ∙ has.rest q nm,
)

-- what was put can be moved to its place
pub can_move : (old mid : Log) → HasNew old mid → CanDo (Move new_file journal_file) (now mid)
can_move old mid has = record {
  there = (0 ∷ [], has.here);
  inside = has.steady.tree.top;
  free = closed_free (now mid) (same_closed (now old) (now mid) (has.rest journal_file journal_apart) has.at_start.closed);
}

-- ---- the same of logs that are told

abbrev PutParts : Path → Log → Log → Type 0
PutParts beside old new = LeavesParts (Put beside (0 ∷ [])) old new

abbrev MoveParts : Path → Path → Log → Log → Type 0
MoveParts beside path old new = LeavesParts (Move beside path) old new

module _ (beside : Path) (is_new : beside ≡ new_file) where
  pub told_new_leaves : (a b : Option Log) → Told a IsQuiet → Changes a b (PutParts beside) → Changes a b StaysShut
  told_new_leaves a b shut parts = changed_from a b IsQuiet (PutParts new_file) StaysShut (λ x y s p. new_leaves x y s p) shut (subst (λ (n : Path). Changes a b (PutParts n)) is_new parts)

  pub told_has_new : (a b : Option Log) → Told a IsQuiet → Changes a b (IsKept (Put beside (0 ∷ []))) → Changes a b (PutParts beside) → Changes a b HasNew
  told_has_new a b shut kept parts = changed_from a b IsQuiet (λ x y. IsKept (Put new_file (0 ∷ [])) x y × PutParts new_file x y) HasNew (λ x y s p. has_new x y s p.0 p.1) shut
      (both_changed a b (IsKept (Put new_file (0 ∷ []))) (PutParts new_file) (subst (λ (n : Path). Changes a b (IsKept (Put n (0 ∷ [])))) is_new kept) (subst (λ (n : Path). Changes a b (PutParts n)) is_new parts))

  module _ (path : Path) (is_path : path ≡ journal_file) where
    pub told_move_leaves : (a b c : Option Log) → Changes a b HasNew → Changes b c (MoveParts beside path) → Changes a c StaysShut
    told_move_leaves a b c has parts = through a b c HasNew (MoveParts new_file journal_file) StaysShut move_leaves has
        (subst (λ (n : Path). Changes b c (MoveParts n journal_file)) is_new (subst (λ (p : Path). Changes b c (MoveParts beside p)) is_path parts))

    pub told_at_rest : (a b c : Option Log) → Changes a b HasNew → Changes b c (IsKept (Move beside path)) → Changes a c (λ x y. IsReady y × IsAlike (now x) (now y))
    told_at_rest a b c has kept = through a b c HasNew (IsKept (Move new_file journal_file)) (λ x y. IsReady y × IsAlike (now x) (now y)) at_rest has
        (subst (λ (n : Path). Changes b c (IsKept (Move n journal_file))) is_new (subst (λ (p : Path). Changes b c (IsKept (Move beside p))) is_path kept))
