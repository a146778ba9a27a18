-- The journal's file, emptied.
use Rattle.std.proofs.Common.{◌≡◌, ◌≢◌, ◌≤◌, ◌<◌, ℕ, zero, suc, List, [], ◌∷◌, length, take, get_or, Option, Some, None, refl, sym, ap, subst, ◌∙◌, inl, inr, arith}
use Rattle.std.specs.Option.{option_map}
use Rattle.outside.specs.Disk.{Disk, Path, Node, folder, file, kind_at, kind_of, node_at}
use Rattle.outside.specs.declared.folder.Kind.{Kind}
use Rattle.outside.specs.declared.folder.Kind.TheVariants.{File}
use Rattle.outside.specs.Changes.{SetLen, CanDo, IsCut, IsPartOf, done, in_file}
use Rattle.outside.specs.Images.{Log, now}
use Rattle.outside.proofs.Paths.{set_here, set_there}
use Rattle.outside.proofs.Moments.{weaker}
use Rattle.outside.proofs.Told.{changed_from, told_new}
use Rattle.outside.specs.Calls.{Told, Changes}
use Rattle.deeds.proofs.Again.{at_disk}
use Rattle.chunk_journal.specs.Journal.{journal_file, new_file, HasGateAlone, IsClosed, IsAlike, RecoversLike, IsQuiet, StaysShut}
use Rattle.chunk_journal.specs.Stages.{IsKept, LeavesParts}
use Rattle.chunk_journal.proofs.Gate.{files_apart, shut_reopens}
use Rattle.chunk_journal.proofs.Tidy.{cut_tidy}

same_bytes : (o : Option Node) (a b : List ℕ) → o ≡ Some (file a) → o ≡ Some (file b) → a ≡ b
same_bytes o a b ea eb = let e : Some (file a) ≡ Some (file b) = sym ea ∙ eb in cc

-- a file of the length that is told
len_of : (o : Option Node) (len : ℕ) → Some (File len) ≡ option_map kind_of o → (bytes : List ℕ) × (o ≡ Some (file bytes)) × (length bytes ≡ len)
len_of None len is = let e : Some (File len) ≡ None = is in cc
len_of (Some folder) len is = let e : Some (File len) ≡ option_map kind_of (Some folder) = is in cc
len_of (Some (file bytes)) len is = let e : Some (File len) ≡ Some (File (length bytes)) = is in (bytes, refl, cc)

pub can_cut : (d : Disk) (len : ℕ) → Some (File len) ≡ kind_at d journal_file → 1 < len → CanDo (SetLen journal_file 0) d
can_cut d len is more = let found = len_of (node_at d journal_file) len is in (found.0, found.1, omega arith)

pub short_file : (d : Disk) (len : ℕ) → Some (File len) ≡ kind_at d journal_file → len ≤ 1 → HasGateAlone d
short_file d len is few bytes here = let found = len_of (node_at d journal_file) len is in omega (arith, ap length (same_bytes (node_at d journal_file) bytes found.0 here found.1), found.2, few)

pub no_file : (d : Disk) (kind : Option Kind) → kind ≡ kind_at d journal_file → ((len : ℕ) → kind ≡ Some (File len) → ⊥) → HasGateAlone d
no_file d kind is none bytes here = absurd (none (length bytes) (is ∙ ap (option_map kind_of) here))

take_gate : (k : ℕ) (was : List ℕ) → get_or (take (suc k) was) 0 0 ≡ get_or was 0 0
take_gate k [] = refl
take_gate k (x ∷ xs) = refl

no_gate : (n : ℕ) → n ≡ 0 → n ≡ 1 → ⊥
no_gate n none one = absurd (omega (arith, none, one))

-- what is left of a cut has the gate that was there, or none
cut_shut : (n : ℕ) (was bytes : List ℕ) → IsCut n was bytes → get_or was 0 0 ≢ 1 → get_or bytes 0 0 ≢ 1
cut_shut n was [] cut shut is = no_gate 0 refl is
cut_shut n was (x ∷ xs) cut shut is = shut (sym (take_gate (length xs) was) ∙ sym (ap (λ (l : List ℕ). get_or l 0 0) cut.front) ∙ is)

cut_rest : (n : ℕ) (d c : Disk) → IsPartOf (SetLen journal_file n) d c → (q : Path) → q ≢ journal_file → node_at c q ≡ node_at d q
cut_rest n d c (inl same) q ne = at_disk q same
cut_rest n d c (inr (inl never)) q ne = absurd never
cut_rest n d c (inr (inr set)) q ne = at_disk q set.2 ∙ set_there d journal_file set.0 q ne

none_file : (o : Option Node) (bytes : List ℕ) → o ≡ None → o ≡ Some (file bytes) → ⊥
none_file o bytes none is = let e : None ≡ Some (file bytes) = sym none ∙ is in cc

part_closed : (n : ℕ) (d c : Disk) → IsPartOf (SetLen journal_file n) d c → IsClosed d → IsClosed c
part_closed n d c (inl same) closed = subst IsClosed (sym same) closed
part_closed n d c (inr (inl never)) closed = absurd never
part_closed n d c (inr (inr set)) (inl none) = absurd (none_file (node_at d journal_file) set.1.0 none set.1.2)
part_closed n d c (inr (inr set)) (inr shut) =
    let was = same_bytes (node_at d journal_file) set.1.0 shut.0 set.1.2 shut.1 in
    inr (set.1.1, at_disk journal_file set.2 ∙ set_here d journal_file set.0 journal_file refl ∙ set.1.3, cut_shut n shut.0 set.1.1 (subst (λ (l : List ℕ). IsCut n l set.1.1) was set.1.4) shut.2)

part_cut : (n : ℕ) (old : Log) (c : Disk) → IsQuiet old → IsPartOf (SetLen journal_file n) (now old) c → RecoversLike (now old) c
part_cut n old c quiet part =
    let closed = part_closed n (now old) c part quiet.closed in
    let rest = cut_rest n (now old) c part in
    (c, inl (closed, refl), (λ q ne nm. rest q ne), shut_reopens c closed (λ is. quiet.no_folder (sym (rest new_file files_apart) ∙ is)))

pub cut_leaves : (n : ℕ) (old new : Log) → IsQuiet old → LeavesParts (SetLen journal_file n) old new → StaysShut old new
cut_leaves n old new quiet all = record {
  recovers = weaker old new _ (RecoversLike (now old)) (λ c part. part_cut n old c quiet part) all.images;
  tidy = cut_tidy n old new quiet.steady all;
}

done_part : (n : ℕ) (d : Disk) → CanDo (SetLen journal_file n) d → (node_at (done (SetLen journal_file n) d) journal_file ≡ in_file (take n) (node_at d journal_file))
done_part n d can = set_here d journal_file (in_file (take n) (node_at d journal_file)) journal_file refl

-- it is quiet after the cut
pub cut_quiet : (n : ℕ) (old new : Log) → IsQuiet old → IsKept (SetLen journal_file n) old new → IsQuiet new × IsAlike (now old) (now new)
cut_quiet n old new quiet kept =
    let there = λ (q : Path) (ne : q ≢ journal_file). at_disk q kept.is ∙ set_there (now old) journal_file (in_file (take n) (node_at (now old) journal_file)) q ne in
    let here = at_disk journal_file kept.is ∙ done_part n (now old) kept.can in (
      record {
        steady = kept.steady;
        closed = shut_by (now old) (now new) here quiet.closed;
        no_folder = λ is. quiet.no_folder (sym (there new_file files_apart) ∙ is);
      },
      λ q ne nm. there q ne,
    )
  where
    head_shut : (k : ℕ) (was : List ℕ) → get_or was 0 0 ≢ 1 → get_or (take k was) 0 0 ≢ 1
    head_shut zero was shut is = no_gate 0 refl is
    head_shut (suc k) was shut is = shut (sym (take_gate k was) ∙ is)

    shut_by : (d c : Disk) → node_at c journal_file ≡ in_file (take n) (node_at d journal_file) → IsClosed d → IsClosed c
    shut_by d c is (inl none) = inl (is ∙ ap (in_file (take n)) none)
    shut_by d c is (inr shut) = inr (take n shut.0, is ∙ ap (in_file (take n)) shut.1, head_shut n shut.0 shut.2)

-- and no bytes are left
pub cut_short : (old new : Log) → IsKept (SetLen journal_file 0) old new → HasGateAlone (now new)
cut_short old new kept bytes is =
    let here = at_disk journal_file kept.is ∙ done_part 0 (now old) kept.can ∙ ap (in_file (take 0)) kept.can.1 in
    omega (arith, ap length (same_bytes (node_at (now new) journal_file) bytes [] is here))

-- the same of logs that may be told
module _ (path : Path) (at : path ≡ journal_file) (a b c : Option Log) (quiet : Told a IsQuiet) (same : b ≡ a) where
  pub told_leaves : Changes b c (LeavesParts (SetLen path 0)) → Changes a c StaysShut
  told_leaves all = changed_from a c IsQuiet (LeavesParts (SetLen path 0)) StaysShut
      (λ old new is parts. cut_leaves 0 old new is (subst (λ (p : Path). LeavesParts (SetLen p 0) old new) at parts)) quiet
      (subst (λ (o : Option Log). Changes o c (LeavesParts (SetLen path 0))) same all)

  pub told_quiet : Changes b c (IsKept (SetLen path 0)) → Changes a c (λ old new. IsQuiet new × IsAlike (now old) (now new))
  told_quiet kept = changed_from a c IsQuiet (IsKept (SetLen path 0)) _
      (λ old new is all. cut_quiet 0 old new is (subst (λ (p : Path). IsKept (SetLen p 0) old new) at all)) quiet
      (subst (λ (o : Option Log). Changes o c (IsKept (SetLen path 0))) same kept)

pub told_alone : (path : Path) (b c : Option Log) → path ≡ journal_file → Changes b c (IsKept (SetLen path 0)) → Told c (λ log. HasGateAlone (now log))
told_alone path b c at kept = told_new b c (IsKept (SetLen path 0)) (λ log. HasGateAlone (now log))
    (λ old new all. cut_short old new (subst (λ (p : Path). IsKept (SetLen p 0) old new) at all)) kept
