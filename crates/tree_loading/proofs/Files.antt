-- What is read of host files.
use Rattle.std.proofs.Common.{◌≡◌, ℕ, ◌-◌, ◌≤◌, min, List, ◌++◌, length, take, Option, Some, None, MatchOption, IfSome, refl, sym, ap, subst, ◌∙◌, inl, inr, arith}
use Rattle.std.proofs.lemmas.Bool.{cases_lt}
use Rattle.std.proofs.lemmas.List.{take_all, take-take, take-append-le}
use Rattle.std.specs.Option.{option_map}
use Rattle.std.specs.FinMap.{get}
use Rattle.outside.specs.Disk.{Disk, Path, Node as Thing, folder as Folder, file as Bytes}
use Rattle.outside.specs.Calls.{Told}
use Rattle.outside.specs.Images.{Log, disk_in}
use Rattle.outside.proofs.Told.{told_then, told_both}
use Rattle.clear_tree.specs.Walk.{Bare}
use Rattle.clear_tree.specs.Places.{bytes_of, folder_kind}
use Rattle.tree_loading.specs.declared.found.Shown.{Shown}
use Rattle.tree_loading.specs.declared.found.Shown.TheVariants.{File, Link, Directory}
use Rattle.tree_loading.specs.Reading.{file_at, Shows}

-- ---- what was told while the log stayed

pub told_kept : (begun now : Option Log) (P Q : Disk → Type 0) → now ≡ begun → Told (disk_in now) P → ((d : Disk) → P d → Q d) → Told (disk_in begun) Q
told_kept begun now P Q stayed told step = told_then (disk_in begun) P Q (subst (λ l. Told (disk_in l) P) stayed told) step

pub told_kept2 : (begun one two : Option Log) (P Q R : Disk → Type 0) → one ≡ begun → two ≡ begun → Told (disk_in one) P → Told (disk_in two) Q → ((d : Disk) → P d → Q d → R d)
    → Told (disk_in begun) R
told_kept2 begun one two P Q R stays stayed p q step =
    told_both (disk_in begun) P Q R (subst (λ l. Told (disk_in l) P) stays p) (subst (λ l. Told (disk_in l) Q) stayed q) step

pub told_kept3 : (begun one two three : Option Log) (P Q R S : Disk → Type 0) → one ≡ begun → two ≡ begun → three ≡ begun → Told (disk_in one) P → Told (disk_in two) Q → Told (disk_in three) R
    → ((d : Disk) → P d → Q d → R d → S d) → Told (disk_in begun) S
told_kept3 begun one two three P Q R S a b c p q r step =
    told_both (disk_in begun) P (λ d. Q d × R d) S (subst (λ l. Told (disk_in l) P) a p)
    (told_both (disk_in begun) Q R (λ d. Q d × R d) (subst (λ l. Told (disk_in l) Q) b q) (subst (λ l. Told (disk_in l) R) c r) (λ d x y. (x, y)))
    (λ d x y. step d x y.0 y.1)

-- ---- what is known of an option, once it is known which

pub match_none : {T : Type 0} (o : Option T) (A : Type 0) (B : T → Type 0) → o ≡ None → MatchOption o A B → A
match_none None A B e h = h
match_none (Some x) A B e h = absurd cc

pub match_some : {T : Type 0} (o : Option T) (A : Type 0) (B : T → Type 0) (x : T) → o ≡ Some x → MatchOption o A B → B x
match_some None A B x e h = absurd cc
match_some (Some y) A B x e h = let same : y ≡ x = cc in subst B same h

pub some_fact : {T : Type 0} (o : Option T) (B : T → Type 0) (x : T) → o ≡ Some x → IfSome o B → B x
some_fact None B x e h = absurd cc
some_fact (Some y) B x e h = let same : y ≡ x = cc in subst B same h

pub none_of : {T : Type 0} (o : Option T) → ((x : T) → o ≡ Some x → ⊥) → o ≡ None
none_of None h = refl
none_of (Some x) h = absurd (h x refl)

-- ---- the bytes of a host file

take_min : (size limit : ℕ) (bytes : List ℕ) → length bytes ≡ size → take (min (min size limit) (length bytes - 0)) bytes ≡ take limit bytes
take_min size limit bytes len = elim (cases_lt limit (length bytes)) [
  | inl less ↦ (let n : min (min size limit) (length bytes - 0) ≡ limit = omega arith in ap (λ (k : ℕ). take k bytes) n)
  | inr all ↦
      let n : min (min size limit) (length bytes - 0) ≡ length bytes = omega arith in
      ap (λ (k : ℕ). take k bytes) n ∙ take_all (length bytes) bytes (omega arith) ∙ sym (take_all limit bytes all)
]

sized : (thing : Option Thing) (size limit count : ℕ) (bytes text : List ℕ) → Some size ≡ option_map length (bytes_of thing) → thing ≡ Some (Bytes bytes)
    → count ≡ min (min size limit) (length bytes - 0) → text ≡ take count bytes → Some text ≡ option_map (take limit) (bytes_of thing)
sized None size limit count bytes text s is n t = absurd cc
sized (Some Folder) size limit count bytes text s is n t = absurd cc
sized (Some (Bytes b)) size limit count bytes text s is n t =
    let same : b ≡ bytes = cc in
    let len : length b ≡ size = cc in
    let len' : length bytes ≡ size = ap length (sym same) ∙ len in
    ap Some (t ∙ ap (λ (k : ℕ). take k bytes) n ∙ take_min size limit bytes len' ∙ ap (take limit) (sym same))

-- of a buffer that was read into and cut to the count stays what was read
cut : (count room : ℕ) (out rest : List ℕ) → count ≤ room → count ≤ length out → take count (take room (out ++ rest)) ≡ take count out
cut count room out rest fits within = take-take count room (out ++ rest) fits ∙ take-append-le count out rest within

-- what a read of as much as there is, up to a limit, gives
pub text_read : (d : Disk) (path : Path) (size limit room count : ℕ) (old out rest text : List ℕ) → room ≡ min size limit → length old ≡ room → length out ≡ length old
    → text ≡ take count (take room (out ++ rest)) → Some size ≡ option_map length (file_at d path)
    → (bytes : List ℕ) × (get d path ≡ Some (Bytes bytes)) × (count ≡ min (length old) (length bytes - 0)) × (take count out ≡ take count bytes)
    → Some text ≡ option_map (take limit) (file_at d path)
text_read d path size limit room count old out rest text r o same t s read =
    let fits : count ≤ room = omega (arith, read.2) in
    let within : count ≤ length out = omega arith in
    let n : count ≡ min (min size limit) (length read.0 - 0) = omega (arith, read.2) in
    sized (get d path) size limit count read.0 text s read.1 n (t ∙ cut count room out rest fits within ∙ read.3)

-- ---- what a node folder shows, by its known files

no_bytes : (limit : ℕ) (o : Option (List ℕ)) → None ≡ option_map (take limit) o → o ≡ None
no_bytes limit None e = refl
no_bytes limit (Some t) e = absurd cc

no_length : (o : Option (List ℕ)) → None ≡ option_map length o → o ≡ None
no_length None e = refl
no_length (Some t) e = absurd cc

link_shown : (size : ℕ) (link contents : Option (List ℕ)) → Some size ≡ option_map length link → Shows (folder_kind None link contents) (Some (Link size))
link_shown size None contents e = absurd cc
link_shown size (Some t) contents e = cc

file_shown : (size : ℕ) (contents : Option (List ℕ)) → Some size ≡ option_map length contents → Shows (folder_kind None None contents) (Some (File size))
file_shown size None e = absurd cc
file_shown size (Some t) e = cc

pub shows_link : (limit size : ℕ) (dir link contents : Option (List ℕ)) → None ≡ option_map (take limit) dir → Some size ≡ option_map length link → Shows (folder_kind dir link contents) (Some (Link size))
shows_link limit size dir link contents none e =
    subst (λ (o : Option (List ℕ)). Shows (folder_kind o link contents) (Some (Link size))) (sym (no_bytes limit dir none)) (link_shown size link contents e)

pub shows_nothing : (limit : ℕ) (dir link : Option (List ℕ)) → None ≡ option_map (take limit) dir → None ≡ option_map length link → folder_kind dir link None ≡ Bare
shows_nothing limit dir link none unlinked = λ i. folder_kind (no_bytes limit dir none i) (no_length link unlinked i) None

-- a node folder that is bare without a content has neither of the other files
bare_files : (dir link : Option (List ℕ)) → folder_kind dir link None ≡ Bare → (dir ≡ None) × (link ≡ None)
bare_files (Some t) link e = absurd cc
bare_files None (Some t) e = absurd cc
bare_files None None e = (refl, refl)

-- and one that isn't is the same with any content
shown_still : (shown : Shown) (dir link contents : Option (List ℕ)) → Shows (folder_kind dir link None) (Some shown) → Shows (folder_kind dir link contents) (Some shown)
shown_still shown (Some t) link contents h = h
shown_still shown None (Some t) contents h = h
shown_still (File size) None None contents h = absurd h
shown_still (Link size) None None contents h = absurd h
shown_still (Directory text) None None contents h = absurd h

pub shows_file : (size : ℕ) (dir link contents : Option (List ℕ)) → folder_kind dir link None ≡ Bare → Some size ≡ option_map length contents → Shows (folder_kind dir link contents) (Some (File size))
shows_file size dir link contents bare e =
    let none = bare_files dir link bare in
    subst (λ (o : Option (List ℕ)). Shows (folder_kind o link contents) (Some (File size))) (sym none.0)
    (subst (λ (o : Option (List ℕ)). Shows (folder_kind None o contents) (Some (File size))) (sym none.1) (file_shown size contents e))

pub shows_none : (dir link contents : Option (List ℕ)) → folder_kind dir link None ≡ Bare → None ≡ option_map length contents → folder_kind dir link contents ≡ Bare
shows_none dir link contents bare empty =
    let none = bare_files dir link bare in
    λ i. folder_kind (none.0 i) (none.1 i) (no_length contents empty i)
