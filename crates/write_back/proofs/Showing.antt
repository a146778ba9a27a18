-- What reads give of a disk, and of the same disk under what waits.
use Rattle.std.proofs.Common.{◌≡◌, ℕ, List, [], ◌∷◌, ◌++◌, length, take, Option, Some, None, refl, sym, ap, subst, ◌∙◌, arith, length-take}
use Rattle.std.specs.Prelude.{IsSome, Result, Ok, Err, IfOk}
use Rattle.std.specs.Option.{option_map}
use Rattle.std.proofs.lemmas.Bool.{false≢true}
use Rattle.outside.specs.Calls.{Told, IsUnfit}
use Rattle.outside.specs.Disk.{Disk, Path, Node, folder, file, node_at, kind_at, kind_of, IsFolder, IsFile, IsListing, IsTree}
use Rattle.outside.specs.Images.{Log, now, disk_in}
use Rattle.outside.specs.declared.folder.Kind.{Kind}
use Rattle.outside.specs.declared.folder.Kind.TheVariants.{File}
use Rattle.deeds.specs.Reshape.{Ranges, written}
use Rattle.deeds.specs.Deeds.{PlainDeed, DoesAll, in_order}
use Rattle.pending_files.specs.Pending.{file_of}
use Rattle.pending_files.specs.Later.{IsReshaped}
use Rattle.pending_files.specs.Laid.{laid, laid_log, CanWait, outline}
use Rattle.pending_files.proofs.Doing.{later_file, later_other}
use Rattle.pending_files.proofs.Laying.{laid_tree, same_kinds, none_waits}
use Rattle.write_back.specs.View.{WriteBackView}
use Rattle.write_back.specs.Headers.{AreHeaders}
use Rattle.write_back.specs.Shown.{kind_with}

-- of what clauses see
pub at_view : {D : Type 0} (P : D → List PlainDeed → Type 0) (d : D) (ds : List PlainDeed) (view : WriteBackView D)
    → ◌≡◌ {A = WriteBackView D} (record { folder = d; waiting = ds }) view → P d ds → P view.folder view.waiting
at_view P d ds view is holds = subst (λ (v : WriteBackView _). P v.folder v.waiting) is holds

pub if_ok : {A E : Type 0} (P Q : A → Type 0) (r : Result A E) → ((a : A) → P a → Q a) → IfOk r P → IfOk r Q
if_ok P Q (Ok a) more is = more a is
if_ok P Q (Err e) more is = is

-- what holds of what waits, and of the headers that are kept
pub can_of : (log : Option Log) (ds : List PlainDeed) (headers : List (Path × List ℕ)) → Told log (λ l. CanWait ds (now l) × AreHeaders headers (now l)) → Told log (λ l. CanWait ds (now l))
can_of None ds headers both = tt
can_of (Some l) ds headers both = both.0

pub headers_of : (log : Option Log) (ds : List PlainDeed) (headers : List (Path × List ℕ)) → Told log (λ l. CanWait ds (now l) × AreHeaders headers (now l)) → Told log (λ l. AreHeaders headers (now l))
headers_of None ds headers both = tt
headers_of (Some l) ds headers both = both.1

pub both_of : (log : Option Log) (ds : List PlainDeed) (headers : List (Path × List ℕ)) → Told log (λ l. CanWait ds (now l)) → Told log (λ l. AreHeaders headers (now l)) → Told log (λ l. CanWait ds (now l) × AreHeaders headers (now l))
both_of None ds headers can are = tt
both_of (Some l) ds headers can are = (can, are)

pub none_of : (log : Option Log) (ds : List PlainDeed) (headers : List (Path × List ℕ)) → ds ≡ [] → headers ≡ [] → Told log (λ l. CanWait ds (now l) × AreHeaders headers (now l))
none_of None ds headers none empty = tt
none_of (Some l) ds headers none empty =
    (subst (λ (x : List PlainDeed). CanWait x (now l)) (sym none) (none_waits (now l)), subst (λ (h : List (Path × List ℕ)). AreHeaders h (now l)) (sym empty) tt)

-- ---- kinds

reshaped_kind : (path : Path) (len : ℕ) (ranges : Ranges) (d later : Disk) → IsReshaped path len ranges d later → kind_at later path ≡ kind_with (Some len) (kind_at d path)
reshaped_kind path len ranges d later is =
    let long : length (take len (written ranges is.was)) ≡ len = omega (arith, length-take len (written ranges is.was), is.long) in
    ap (option_map kind_of) is.is ∙ ap (λ (n : ℕ). Some (File n)) long ∙ sym (ap (λ (o : Option Node). kind_with (Some len) (option_map kind_of o)) is.there)

laid_kind : (ds : List PlainDeed) (d : Disk) (path : Path) → CanWait ds d → kind_at (laid ds d) path ≡ kind_with (option_map (λ found. found.0) (file_of path ds)) (kind_at d path)
laid_kind ds d path can = step (file_of path ds) refl
  where
    step : (o : Option (ℕ × Ranges)) → file_of path ds ≡ o → kind_at (laid ds d) path ≡ kind_with (option_map (λ found. found.0) (file_of path ds)) (kind_at d path)
    step None none = ap (option_map kind_of) (later_other path ds d (laid ds d) can.pending.each none can.does)
        ∙ sym (ap (λ (o : Option (ℕ × Ranges)). kind_with (option_map (λ found. found.0) o) (kind_at d path)) none)
    step (Some f) some = reshaped_kind path f.0 f.1 d (laid ds d) (later_file path ds f.0 f.1 d (laid ds d) can.pending.each can.pending.apart some can.does)
        ∙ sym (ap (λ (o : Option (ℕ × Ranges)). kind_with (option_map (λ found. found.0) o) (kind_at d path)) some)

-- ---- folders

folder_of : (o : Option Node) → outline o ≡ Some folder → o ≡ Some folder
folder_of None is = absurd cc
folder_of (Some folder) is = refl
folder_of (Some (file bytes)) is = absurd cc

same_folder : (a b : Option Node) → outline a ≡ outline b → a ≡ Some folder → b ≡ Some folder
same_folder a b same is = folder_of b (sym same ∙ ap outline is)

outlined : (o : Option Node) → IsSome o → IsSome (outline o)
outlined None is = absurd (false≢true is)
outlined (Some folder) is = refl
outlined (Some (file bytes)) is = refl

of_outline : (o : Option Node) → IsSome (outline o) → IsSome o
of_outline None is = absurd (false≢true is)
of_outline (Some folder) is = refl
of_outline (Some (file bytes)) is = refl

same_some : (a b : Option Node) → outline a ≡ outline b → IsSome a → IsSome b
same_some a b same is = of_outline b (subst IsSome same (outlined a is))

laid_folder : (ds : List PlainDeed) (d : Disk) (path : Path) → CanWait ds d → IsFolder d path → IsFolder (laid ds d) path
laid_folder ds d path can is = same_folder (node_at d path) (node_at (laid ds d) path) (sym (same_kinds ds d path can)) is

was_folder : (ds : List PlainDeed) (d : Disk) (path : Path) → CanWait ds d → IsFolder (laid ds d) path → IsFolder d path
was_folder ds d path can is = same_folder (node_at (laid ds d) path) (node_at d path) (same_kinds ds d path can) is

laid_listing : (ds : List PlainDeed) (d : Disk) (path : Path) (names : List (List ℕ)) → CanWait ds d → IsListing d path names → IsListing (laid ds d) path names
laid_listing ds d path names can is = record {
  distinct = is.distinct;
  exact = λ name.
      let same = same_kinds ds d (path ++ name ∷ []) can in (
        λ has. same_some (node_at d (path ++ name ∷ [])) (node_at (laid ds d) (path ++ name ∷ [])) (sym same) ((is.exact name).0 has),
        λ some. (is.exact name).1 (same_some (node_at (laid ds d) (path ++ name ∷ [])) (node_at d (path ++ name ∷ [])) same some),
      );
}

-- ---- if the log is told

pub told_tree : (log : Option Log) (ds : List PlainDeed) → Told log (λ l. CanWait ds (now l)) → Told (disk_in log) IsTree → Told (disk_in (option_map (laid_log ds) log)) IsTree
told_tree None ds can tree = tt
told_tree (Some l) ds can tree = laid_tree ds (now l) can tree

pub told_kind : (log : Option Log) (ds : List PlainDeed) (path : Path) (found shown : Option Kind) → Told log (λ l. CanWait ds (now l)) → shown ≡ kind_with (option_map (λ found. found.0) (file_of path ds)) found
    → Told (disk_in log) (λ d. found ≡ kind_at d path) → Told (disk_in (option_map (laid_log ds) log)) (λ d. shown ≡ kind_at d path)
told_kind None ds path found shown can is kind = tt
told_kind (Some l) ds path found shown can is kind =
    is ∙ ap (kind_with (option_map (λ found. found.0) (file_of path ds))) kind ∙ sym (laid_kind ds (now l) path can)

pub told_names : (log : Option Log) (ds : List PlainDeed) (path : Path) (names : List (List ℕ)) → Told log (λ l. CanWait ds (now l)) → Told (disk_in log) (λ d. IsFolder d path × IsListing d path names)
    → Told (disk_in (option_map (laid_log ds) log)) (λ d. IsFolder d path × IsListing d path names)
told_names None ds path names can is = tt
told_names (Some l) ds path names can is = (laid_folder ds (now l) path can is.0, laid_listing ds (now l) path names can is.1)

pub told_no_folder : (log : Option Log) (ds : List PlainDeed) (path : Path) (before after : ℕ) → Told log (λ l. CanWait ds (now l)) → IsUnfit (disk_in log) before after (λ d. IsFolder d path)
    → IsUnfit (disk_in (option_map (laid_log ds) log)) before after (λ d. IsFolder d path)
told_no_folder None ds path before after can unfit = unfit
told_no_folder (Some l) ds path before after can unfit = λ is. unfit (was_folder ds (now l) path can is)

pub told_no_file : (log : Option Log) (ds : List PlainDeed) (path : Path) (before after : ℕ) → Told log (λ l. CanWait ds (now l))
    → IsUnfit (disk_in log) before after (λ d. (later : Disk) × DoesAll (in_order ds) d later × IsFile later path)
    → IsUnfit (disk_in (option_map (laid_log ds) log)) before after (λ d. IsFile d path)
told_no_file None ds path before after can unfit = unfit
told_no_file (Some l) ds path before after can unfit = λ is. unfit (laid ds (now l), can.does, is)
