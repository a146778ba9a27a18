-- Files that are made, changed or taken back.
use Rattle.std.proofs.Common.{◌≡◌, ◌+◌, ◌-◌, ℕ, Bool, true, List, [], ◌∷◌, ◌++◌, length, set, get_or, Option, Some, None, IsSome, refl, sym, ap, subst, ◌∙◌, arith, length-append, length-set, true≢false}
use Rattle.std.specs.Option.{option_to_list}
use Rattle.std.specs.FinMap as map
use Rattle.outside.specs.Disk.{Path}
use Rattle.outside.specs.Images.{Log}
use Rattle.host_calls.specs.declared.found.Inode.{Inode}
use Rattle.host_calls.specs.Names.{MadeFile, CanMake, begun, names_after}
use Rattle.host_calls.specs.Bytes.{Filed, Wrote}
use Rattle.host_calls.specs.Story.{Files, creates}
use Rattle.host_calls.specs.Calls.{HasCreated}
use Rattle.mem_host.specs.Filing.{Filing, numbered, files_from, IsFiling}
use Rattle.mem_host.specs.Holding.{Naming, IsHolding}
use Rattle.mem_host.proofs.Files.{IsHere, files_changed, files_pushed, files_popped, removed_again}
use Rattle.mem_host.proofs.Numbers.{next_unknown}
use Rattle.mem_host.proofs.Keeping.{story_of, filing_with, has_created, created_files, kept_created}

-- a list of files, the first of the number 0
abbrev pub filing_of : List Filed → Filing
filing_of fs = record { count = length fs; held = files_from 0 fs }

from_start : (m : Files) (n : ℕ) (f : Filed) → map.insert m (numbered (0 + n)) f ≡ map.insert m (numbered n) f
from_start m n f = let e : 0 + n ≡ n = omega arith in ap (λ (k : ℕ). map.insert m (numbered k) f) e

-- a file more
pub filing_pushed : (fs more : List Filed) (f new : Filed) (now : Filing) → more ≡ fs ++ f ∷ [] → f ≡ new → filing_of fs ≡ now
    → filing_of more ≡ record { count = now.count + 1; held = map.insert now.held (numbered now.count) new }
filing_pushed fs more f new now is same seen =
    let count : length more ≡ length fs + 1 = ap length is ∙ length-append fs (f ∷ []) in
    let held : files_from 0 more ≡ map.insert (files_from 0 fs) (numbered (length fs)) new =
    ap (files_from 0) is ∙ files_pushed 0 fs f ∙ from_start (files_from 0 fs) (length fs) f ∙ ap (map.insert (files_from 0 fs) (numbered (length fs))) same in
    let both : filing_of more ≡ record { count = length fs + 1; held = map.insert (files_from 0 fs) (numbered (length fs)) new } = λ i. record { count = count i; held = held i } in
    both ∙ ap (λ (n : Filing). record { count = n.count + 1; held = map.insert n.held (numbered n.count) new }) seen

-- a file fewer
pub filing_popped : (fs more : List Filed) (o : Option Filed) (now : Filing) → more ≡ fs ++ option_to_list o → filing_of more ≡ now → IsSome o
    → filing_of fs ≡ record { count = now.count - 1; held = map.remove now.held (numbered (now.count - 1)) }
filing_popped fs more None now is seen some = absurd (true≢false (sym some))
filing_popped fs more (Some f) now is seen some =
    let count : length fs ≡ length more - 1 = omega (arith, ap length is ∙ length-append fs (f ∷ [])) in
    let held : files_from 0 fs ≡ map.remove (files_from 0 more) (numbered (length more - 1)) = files_popped fs more f is ∙ ap (λ (n : ℕ). map.remove (files_from 0 more) (numbered n)) count in
    let both : filing_of fs ≡ record { count = length more - 1; held = map.remove (files_from 0 more) (numbered (length more - 1)) } = λ i. record { count = count i; held = held i } in
    both ∙ ap (λ (n : Filing). record { count = n.count - 1; held = map.remove n.held (numbered (n.count - 1)) }) seen

-- a file that changed
pub filing_set : (fs : List Filed) (i : Inode) (d x : Filed) (by : Option Filed → Filed) (now : Filing) → IsHere fs i d → filing_of fs ≡ now → x ≡ by (Some (get_or fs i.ino d))
    → filing_of (set fs i.ino x) ≡ record { count = now.count; held = map.insert now.held i (by (map.get now.held i)) }
filing_set fs i d x by now here seen is =
    let count : length (set fs i.ino x) ≡ length fs = length-set fs i.ino x in
    let held : files_from 0 (set fs i.ino x) ≡ map.insert (files_from 0 fs) i (by (map.get (files_from 0 fs) i)) =
    files_changed fs i d x here ∙ ap (map.insert (files_from 0 fs) i) (is ∙ ap by (sym here.there)) in
    let both : filing_of (set fs i.ino x) ≡ record { count = length fs; held = map.insert (files_from 0 fs) i (by (map.get (files_from 0 fs) i)) } = λ j. record { count = count j; held = held j } in
    both ∙ ap (λ (n : Filing). record { count = n.count; held = map.insert n.held i (by (map.get n.held i)) }) seen

abbrev with_file : Filing → Filed → Filing
with_file filing x = record { count = filing.count + 1; held = map.insert filing.held (numbered filing.count) x }

abbrev with_fewer : Filing → Filing
with_fewer filing = record { count = filing.count - 1; held = map.remove filing.held (numbered (filing.count - 1)) }

fewer_again : (filing : Filing) (x : Filed) → IsFiling filing → with_fewer (with_file filing x) ≡ filing
fewer_again filing x files =
    let count : (filing.count + 1) - 1 ≡ filing.count = omega arith in
    let held : map.remove (map.insert filing.held (numbered filing.count) x) (numbered ((filing.count + 1) - 1)) ≡ filing.held =
    ap (λ (n : ℕ). map.remove (map.insert filing.held (numbered filing.count) x) (numbered n)) count ∙ removed_again filing.held (numbered filing.count) x (next_unknown filing files) in
    λ i. record { count = count i; held = held i }

-- one that was made and taken back
pub taken_back : (filing made left : Filing) (x : Filed) → IsFiling filing → made ≡ record { count = filing.count + 1; held = map.insert filing.held (numbered filing.count) x }
    → left ≡ record { count = made.count - 1; held = map.remove made.held (numbered (made.count - 1)) } → left ≡ filing
taken_back filing made left x files is then = then ∙ ap with_fewer is ∙ fewer_again filing x files

-- ---- a host with a file more

-- what the host had, and what it has
pub record IsMade (filing made : Filing) (naming taken : Naming) (path : Path) (bytes : List ℕ) (inode : Inode) : Type 0 where
  pub number : inode ≡ numbered filing.count
  pub files : made ≡ filing_with filing bytes
  pub names : taken ≡ record { base = naming.base; steps = begun (MadeFile path inode) ∷ naming.steps }

abbrev with_name : Naming → Path → Inode → Naming
with_name naming path inode = record { base = naming.base; steps = begun (MadeFile path inode) ∷ naming.steps }

story_made : (filing made : Filing) (naming taken : Naming) (doubt : Bool) (diary : Log) (unnoted : Bool) (path : Path) (bytes : List ℕ) (inode : Inode)
    → IsFiling filing → IsMade filing made naming taken path bytes inode
    → creates path (numbered filing.count) (Wrote 0 bytes ∷ []) (story_of naming filing doubt diary unnoted) ≡ story_of taken made doubt diary true
story_made filing made naming taken doubt diary unnoted path bytes inode files is =
    let names : with_name naming path (numbered filing.count) ≡ taken = sym (is.names ∙ ap (with_name naming path) is.number) in
    ap (λ (f : Files). record { base = naming.base; naming = begun (MadeFile path (numbered filing.count)) ∷ naming.steps; files = f; doubt = doubt; diary = diary; unnoted = true }) (created_files filing bytes files)
    ∙ (λ i. story_of (names i) (sym is.files i) doubt diary true)

pub holds_made : (text : List ℕ) (filing made : Filing) (naming taken : Naming) (doubt : Bool) (diary : Log) (unnoted : Bool) (path : Path) (bytes : List ℕ) (inode : Inode)
    → IsHolding text filing (story_of naming filing doubt diary unnoted) → CanMake (names_after naming.base naming.steps) path → IsMade filing made naming taken path bytes inode
    → IsHolding text made (story_of taken made doubt diary true)
holds_made text filing made naming taken doubt diary unnoted path bytes inode holds can is =
    let story = story_of naming filing doubt diary unnoted in
    subst (IsHolding text made) (story_made filing made naming taken doubt diary unnoted path bytes inode holds.files is)
    (subst (λ (f : Filing). IsHolding text f (creates path (numbered filing.count) (Wrote 0 bytes ∷ []) story)) (sym is.files) (kept_created text filing story path bytes refl can holds))

pub created_made : (text : List ℕ) (filing made : Filing) (naming taken : Naming) (doubt : Bool) (diary : Log) (unnoted : Bool) (path : Path) (bytes : List ℕ) (inode : Inode)
    → IsHolding text filing (story_of naming filing doubt diary unnoted) → CanMake (names_after naming.base naming.steps) path → IsMade filing made naming taken path bytes inode
    → HasCreated path bytes (story_of naming filing doubt diary unnoted) (story_of taken made doubt diary true)
created_made text filing made naming taken doubt diary unnoted path bytes inode holds can is =
    subst (HasCreated path bytes (story_of naming filing doubt diary unnoted)) (story_made filing made naming taken doubt diary unnoted path bytes inode holds.files is)
    (has_created filing naming doubt diary unnoted text path bytes holds can)
