-- A vault's folder from stage to stage, if the folder tells.
use Rattle.std.proofs.Common.{◌≡◌, ℕ, List, Option, sym, ap, subst, ◌∙◌}
use Rattle.outside.specs.Calls.{Told, Changes}
use Rattle.outside.specs.Disk.{Disk, Path, parent}
use Rattle.outside.specs.Changes.{Change, MakeDir, Move, Put, CanDo, done}
use Rattle.outside.specs.Images.{Log, now, IsSteady}
use Rattle.outside.proofs.Told.{through, told_through}
use Rattle.unlocking.specs.Files.{masterkey_place, config_place, new_config_place}
use Rattle.vault_make.specs.Vault.{IsEmpty}
use Rattle.vault_make.specs.Stages.{IsRootPath, HasRoot, HasKeyFiles, IsLaidOut, HasSynced}
use Rattle.vault_make.proofs.Going.{told_after}
use Rattle.vault_make.proofs.Stages.{top, middle, with_top, with_middle, with_bottom, can_middle, can_bottom, has_root, can_put_config, has_key_files, is_laid_out}

-- a change of the disk was done
abbrev pub Does : Option Log → Option Log → Change → Type 0
Does a b change = Changes a b (λ old new. now new ≡ done change (now old))

-- it was flushed, and nothing else
abbrev pub Syncs : Option Log → Option Log → Type 0
Syncs a b = Changes a b HasSynced

two : (a b c : Option Log) (x y : Change) → Does a b x → Does b c y → Changes a c (λ old new. now new ≡ done y (done x (now old)))
two a b c x y p q = through a b c (λ old new. now new ≡ done x (now old)) (λ old new. now new ≡ done y (now old)) (λ old new. now new ≡ done y (done x (now old)))
    (λ l m n e f. f ∙ ap (done y) e) p q

pub middle_is : (place mid : Path) (root : IsRootPath place) → mid ≡ parent place → mid ≡ middle root.0
middle_is place mid root e = e ∙ ap parent root.2

pub top_is : (place mid up : Path) (root : IsRootPath place) → mid ≡ parent place → up ≡ parent mid → up ≡ top
top_is place mid up root e f = f ∙ ap parent (middle_is place mid root e)

pub can_second : (a b : Option Log) (place mid up : Path) → IsRootPath place → mid ≡ parent place → up ≡ parent mid → Told a (λ log. IsEmpty (now log)) → Does a b (MakeDir up)
    → Told b (λ log. CanDo (MakeDir mid) (now log))
can_second a b place mid up root e f empty first =
    told_after a b (λ log. IsEmpty (now log)) (λ old new. now new ≡ done (MakeDir up) (now old)) (λ log. CanDo (MakeDir mid) (now log))
    (λ old new is made.
    let at = made ∙ ap (λ (p : Path). done (MakeDir p) (now old)) (top_is place mid up root e f) in
    subst (λ (d : Disk). CanDo (MakeDir mid) d) (sym at)
    (subst (λ (p : Path). CanDo (MakeDir p) (with_top (now old))) (sym (middle_is place mid root e)) (can_middle (now old) root.0 is)))
    empty first

pub can_third : (a b c : Option Log) (place mid up : Path) → IsRootPath place → mid ≡ parent place → up ≡ parent mid → Told a (λ log. IsEmpty (now log)) → Does a b (MakeDir up)
    → Does b c (MakeDir mid) → Told c (λ log. CanDo (MakeDir place) (now log))
can_third a b c place mid up root e f empty first second =
    told_after a c (λ log. IsEmpty (now log)) (λ old new. now new ≡ done (MakeDir mid) (done (MakeDir up) (now old))) (λ log. CanDo (MakeDir place) (now log))
    (λ old new is made.
    let at = made ∙ ap (λ (p : Path). done (MakeDir p) (done (MakeDir up) (now old))) (middle_is place mid root e)
    ∙ ap (λ (p : Path). done (MakeDir (middle root.0)) (done (MakeDir p) (now old))) (top_is place mid up root e f) in
    subst (λ (d : Disk). CanDo (MakeDir place) d) (sym at)
    (subst (λ (p : Path). CanDo (MakeDir p) (with_middle root.0 (now old))) (sym root.2) (can_bottom (now old) root.0 root.1 is)))
    empty (two a b c (MakeDir up) (MakeDir mid) first second)

pub root_made : (a b c d : Option Log) (place mid up : Path) → IsRootPath place → mid ≡ parent place → up ≡ parent mid → Told a (λ log. IsEmpty (now log)) → Does a b (MakeDir up)
    → Does b c (MakeDir mid) → Does c d (MakeDir place) → Changes a d (λ old new. HasRoot place (now new))
root_made a b c d place mid up root e f empty first second third =
    told_through a c d (λ log. IsEmpty (now log)) (λ old new. now new ≡ done (MakeDir mid) (done (MakeDir up) (now old))) (λ old new. now new ≡ done (MakeDir place) (now old))
    (λ old new. HasRoot place (now new))
    (λ old at new is made last.
    let disk = made ∙ ap (λ (p : Path). done (MakeDir p) (done (MakeDir up) (now old))) (middle_is place mid root e)
    ∙ ap (λ (p : Path). done (MakeDir (middle root.0)) (done (MakeDir p) (now old))) (top_is place mid up root e f) in
    let end = last ∙ ap (done (MakeDir place)) disk ∙ ap (λ (p : Path). done (MakeDir p) (with_middle root.0 (now old))) root.2 in
    subst (HasRoot place) (sym end)
    (subst (λ (p : Path). HasRoot p (with_bottom root.0 root.1 (now old))) (sym root.2) (has_root (now old) root.0 root.1 is)))
    empty (two a b c (MakeDir up) (MakeDir mid) first second) third

-- ---- the key files

pub can_put_second : (a b : Option Log) (place p q : Path) (x y : List ℕ) → p ≡ masterkey_place → q ≡ new_config_place → Told a (λ log. HasRoot place (now log)) → Does a b (Put p x)
    → Told b (λ log. CanDo (Put q y) (now log))
can_put_second a b place p q x y e f has first =
    told_after a b (λ log. HasRoot place (now log)) (λ old new. now new ≡ done (Put p x) (now old)) (λ log. CanDo (Put q y) (now log))
    (λ old new is put.
    let at = put ∙ ap (λ (r : Path). done (Put r x) (now old)) e in
    subst (λ (d : Disk). CanDo (Put q y) d) (sym at)
    (subst (λ (r : Path). CanDo (Put r y) (done (Put masterkey_place x) (now old))) (sym f) (can_put_config (now old) place x y is)))
    has first

pub files_put : (a b c : Option Log) (place p q : Path) (x y masterkey config : List ℕ) → p ≡ masterkey_place → q ≡ new_config_place → x ≡ masterkey → y ≡ config
    → Told a (λ log. HasRoot place (now log)) → Does a b (Put p x) → Does b c (Put q y) → Changes a c (λ old new. HasKeyFiles place masterkey config (now new))
files_put a b c place p q x y masterkey config e f g h has first second =
    told_through a b c (λ log. HasRoot place (now log)) (λ old new. now new ≡ done (Put p x) (now old)) (λ old new. now new ≡ done (Put q y) (now old))
    (λ old new. HasKeyFiles place masterkey config (now new))
    (λ old at new is put last.
    let one = put ∙ ap (λ (r : Path). done (Put r x) (now old)) e ∙ ap (λ (w : List ℕ). done (Put masterkey_place w) (now old)) g in
    let end = last ∙ ap (done (Put q y)) one ∙ ap (λ (r : Path). done (Put r y) (done (Put masterkey_place masterkey) (now old))) f
    ∙ ap (λ (w : List ℕ). done (Put new_config_place w) (done (Put masterkey_place masterkey) (now old))) h in
    subst (HasKeyFiles place masterkey config) (sym end) (has_key_files (now old) place masterkey config is))
    has first second

-- ---- the vault file at its place

pub moved : (a b c : Option Log) (place p q : Path) (masterkey config : List ℕ) → p ≡ new_config_place → q ≡ config_place → Told a (λ log. HasKeyFiles place masterkey config (now log))
    → Syncs a b → Does b c (Move p q) → Changes a c (λ old new. IsLaidOut place masterkey config (now new))
moved a b c place p q masterkey config e f has synced move =
    told_through a b c (λ log. HasKeyFiles place masterkey config (now log)) HasSynced (λ old new. now new ≡ done (Move p q) (now old))
    (λ old new. IsLaidOut place masterkey config (now new))
    (λ old at new is sync last.
    let end = last ∙ ap (done (Move p q)) sync.same ∙ ap (λ (r : Path). done (Move r q) (now old)) e ∙ ap (λ (r : Path). done (Move new_config_place r) (now old)) f in
    subst (IsLaidOut place masterkey config) (sym end) (is_laid_out (now old) place masterkey config is))
    has synced move

pub installed : (a b c d : Option Log) (place p q : Path) (masterkey config : List ℕ) → p ≡ new_config_place → q ≡ config_place → Told a (λ log. HasKeyFiles place masterkey config (now log))
    → Syncs a b → Does b c (Move p q) → Syncs c d → Changes a d (λ old new. IsLaidOut place masterkey config (now new) × IsSteady new)
installed a b c d place p q masterkey config e f has synced move last =
    through a c d (λ old new. IsLaidOut place masterkey config (now new)) HasSynced (λ old new. IsLaidOut place masterkey config (now new) × IsSteady new)
    (λ old at new is sync. (subst (IsLaidOut place masterkey config) (sym sync.same) is, sync.steady)) (moved a b c place p q masterkey config e f has synced move) last

-- ---- after one another

pub last_of : (a b c : Option Log) (P : Log → Log → Type 0) (R : Log → Type 0) → Changes a b P → Changes b c (λ old new. R new) → Changes a c (λ old new. R new)
last_of a b c P R first second = through a b c P (λ old new. R new) (λ old new. R new) (λ x y z p q. q) first second
