-- What the reads of a header and of chunks give.
use Rattle.std.proofs.Common.{◌≡◌, ℕ, ◌+◌, ◌-◌, ◌*◌, ◌/◌, ◌<◌, ◌≤◌, min, List, length, take, drop, Option, Some, None, Err, IsErrOf, refl, sym, ap, ap₂, subst, ◌∙◌, arith}
use Rattle.tree_model.specs.Rows.{slice_of}
use Rattle.file_chunks.specs.File.{IsKey, content_of}
use Rattle.content_reader.specs.declared.error.ReadErr.{ReadErr}
use Rattle.content_reader.specs.declared.error.ReadErr.TheVariants.{Device, Damaged}
use Rattle.content_reader.proofs.Spans.{chunks_read, header_within}
use Rattle.std.proofs.lemmas.List.{take_all}
use Rattle.vault_keys.specs.Keys.{KeyPair}
use Rattle.outside.specs.Disk.{Disk, Path, node_at, file}
use Rattle.outside.specs.Calls.{HasCause, IsUnfit, Told}
use Rattle.outside.specs.declared.folder.FolderErr.{FolderErr}
use Rattle.outside.specs.declared.folder.FolderErr.TheVariants as folder_errs
use Rattle.file_chunks.specs.Header.{Head, header_opens}
use Rattle.content_reader.specs.Reading.{Ends, HasHeader, IsSpan, IsWithin, Meets, RoseUntold}
use Rattle.outside.proofs.Told.{told_then}

-- a read of a file into this room gave n bytes from a place on
abbrev pub Gives : Option Disk → Path → ℕ → ℕ → List ℕ → ℕ → Type 0
Gives contents path at room new n = Told contents (λ d. (bytes : List ℕ) × (node_at d path ≡ Some (file bytes)) × (n ≡ min room (length bytes - at)) × (take n new ≡ take n (drop at bytes)))

header_read : (contents : Option Disk) (path : Path) (n room : ℕ) (new : List ℕ) → room ≡ 68 → length new ≡ 68 → 68 ≤ n → Gives contents path 0 room new n
    → Told contents (λ d. (bytes : List ℕ) → HasHeader d path bytes → take 68 bytes ≡ new)
header_read contents path n room new is_room whole all gives =
    told_then contents (λ d. (bytes : List ℕ) × (node_at d path ≡ Some (file bytes)) × (n ≡ min room (length bytes - 0)) × (take n new ≡ take n (drop 0 bytes)))
    (λ d. (bytes : List ℕ) → HasHeader d path bytes → take 68 bytes ≡ new) gives (λ d read bytes is.
    let there : node_at d path ≡ Some (file bytes) = is.there in
    let same : read.0 ≡ bytes = cc (read.1, there) in
    let count : n ≡ 68 = omega (arith, read.2) in
    sym (ap (take 68) same) ∙ ap (λ (m : ℕ). take m read.0) (sym count) ∙ sym read.3 ∙ take_all n new (omega arith))

pub header_told : (contents : Option Disk) (path : Path) (keys : KeyPair) (n room : ℕ) (new : List ℕ) (head : Option Head) → room ≡ 68 → length new ≡ 68 → 68 ≤ n
    → Gives contents path 0 room new n → header_opens keys new ≡ head → Told contents (λ d. (bytes : List ℕ) → HasHeader d path bytes → header_opens keys (take 68 bytes) ≡ head)
header_told contents path keys n room new head is_room whole all gives e =
    told_then contents (λ d. (bytes : List ℕ) → HasHeader d path bytes → take 68 bytes ≡ new) (λ d. (bytes : List ℕ) → HasHeader d path bytes → header_opens keys (take 68 bytes) ≡ head)
    (header_read contents path n room new is_room whole all gives) (λ d same bytes is. ap (header_opens keys) (same bytes is) ∙ e)

-- the error of a read of a host file, if nothing is told
pub untold_fault : {T : Type 0} (contents : Option Disk) (e : FolderErr) (before now : ℕ) (P : Disk → Type 0) → HasCause before now (IsErrOf {T = T} (Err e) folder_errs.Failed)
    → (IsErrOf {T = T} (Err e) folder_errs.Unfit → IsUnfit contents before now P) → (IsErrOf {T = T} (Err e) folder_errs.Memory → ⊥) → RoseUntold contents before now
untold_fault (Some disk) e before now P cause unfit memory = tt
untold_fault None folder_errs.Failed before now P cause unfit memory = cause.rose refl
untold_fault None folder_errs.Unfit before now P cause unfit memory = unfit refl
untold_fault None folder_errs.Memory before now P cause unfit memory = absurd (memory refl)

-- ---- ends

-- a header that wasn't had is an end of the slice
pub header_ends : (header : Option Head) (slice : Option (List ℕ)) (before now : ℕ) (e : ReadErr) → (header ≡ None → slice ≡ None) → Ends {A = Head} header before now (Err e)
    → Ends {A = List ℕ} slice before now (Err e)
header_ends header slice before now Device closed ends = ends
header_ends header slice before now Damaged closed ends = closed ends

-- the chunks that a slice meets were read from a host file whose header, if it has one, opens to this head: n bytes
pub record HasReadChunks (keys : KeyPair) (head : Head) (d : Disk) (path : Path) (at count n : ℕ) (new : List ℕ) : Type 0 where
  pub first : ℕ
  pub many : ℕ
  pub room : ℕ
  pub key : IsKey keys.enc
  pub some : 0 < count
  pub opens : (bytes : List ℕ) → HasHeader d path bytes → header_opens keys (take 68 bytes) ≡ Some head
  pub is_first : first ≡ at / 32768
  pub meets : Meets at count first many
  pub is_room : room ≡ 32796 * many
  pub gave : (bytes : List ℕ) × (node_at d path ≡ Some (file bytes)) × (n ≡ min room (length bytes - (68 + 32796 * first)))
      × (take n new ≡ take n (drop (68 + 32796 * first) bytes))

-- what was read of a slice that is within a content
pub span_is : {keys : KeyPair} {head : Head} {d : Disk} {path : Path} {at count n : ℕ} {new bytes : List ℕ}
    → HasReadChunks keys head d path at count n new → IsWithin d path at count bytes → IsSpan keys head at count (take n new) bytes
span_is {d = d} {path = path} {at = at} {count = count} {n = n} {new = new} {bytes = bytes} read is =
    let there : node_at d path ≡ Some (file bytes) = is.there in
    let same : read.gave.0 ≡ bytes = cc (read.gave.1, there) in
    let counted : n ≡ min (32796 * read.many) (length bytes - (68 + 32796 * read.first)) =
    read.gave.2 ∙ ap₂ (λ (r : ℕ) (bs : List ℕ). min r (length bs - (68 + 32796 * read.first))) read.is_room same in
    let front : take n new ≡ take n (drop (68 + 32796 * read.first) bytes) =
    read.gave.3 ∙ ap (λ (bs : List ℕ). take n (drop (68 + 32796 * read.first) bs)) same in
    let within : at + count ≤ is.size = is.inside in
    let some : 0 < count = read.some in
    record {
      key = read.key;
      size = is.size;
      sized = is.sized;
      inside = is.inside;
      header = read.opens bytes (record { there = is.there; long = header_within (length bytes) is.size at is.sized (omega arith) });
      chunks = chunks_read at count read.first read.many n bytes (take n new) some read.is_first read.meets counted front;
    }

-- what was gathered into the front of a list
pub front_filled : (keys : KeyPair) (head : Head) (at count n : ℕ) (sealed bytes front new : List ℕ) → n ≡ count → IsSpan keys head at count sealed bytes
    → (IsSpan keys head at n sealed bytes → slice_of (content_of keys bytes) at n ≡ Some front) → take count new ≡ front → slice_of (content_of keys bytes) at count ≡ Some (take count new)
front_filled keys head at count n sealed bytes front new same span gathered put =
    subst (λ (k : ℕ). slice_of (content_of keys bytes) at k ≡ Some front) same (gathered (subst (λ (k : ℕ). IsSpan keys head at k sealed bytes) (sym same) span)) ∙ ap Some (sym put)

pub none_filled : (keys : KeyPair) (head : Head) (at count n : ℕ) (sealed bytes : List ℕ) → n ≡ count → IsSpan keys head at count sealed bytes
    → (IsSpan keys head at n sealed bytes → slice_of (content_of keys bytes) at n ≡ None) → slice_of (content_of keys bytes) at count ≡ None
none_filled keys head at count n sealed bytes same span gathered =
    subst (λ (k : ℕ). slice_of (content_of keys bytes) at k ≡ None) same (gathered (subst (λ (k : ℕ). IsSpan keys head at k sealed bytes) (sym same) span))
