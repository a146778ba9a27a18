-- What a stop leaves of a vault's folder from call to call.
use Rattle.std.proofs.Common.{◌≡◌, ◌≢◌, ℕ, List, Option, Some, None, refl, sym, ap, subst, ◌∙◌, inl, inr}
use Rattle.vault_layout.specs.Names.{vault_file}
use Rattle.outside.specs.Calls.{Told, Changes}
use Rattle.outside.specs.Disk.{Disk, Path, parent, node_at}
use Rattle.outside.specs.Changes.{Change, MakeDir, Move, Put, IsPartOf, IsMoved, done, path_of}
use Rattle.outside.specs.Images.{Log, Did, Broke, Synced, now, adds, IsImage, LeavesOnly}
use Rattle.outside.proofs.Paths.{set_there}
use Rattle.outside.proofs.Moments.{started, goes_to, joined, ends, weaker}
use Rattle.outside.proofs.Told.{changed_by, through, told_through, unchanged}
use Rattle.unlocking.specs.Files.{masterkey_place, config_place, new_config_place}
use Rattle.vault_make.specs.Vault.{IsEmpty, IsNoVault}
use Rattle.vault_make.specs.Stages.{IsRootPath, HasKeyFiles, IsLaidOut, HasCalled, HasSynced, LeavesFromNone, IsNoneOrLaidOut}
use Rattle.vault_make.proofs.Stages.{top, middle, masterkey_beside_config, new_beside_config, config_below, is_laid_out}
use Rattle.vault_make.proofs.Laying.{Does, Syncs, middle_is, top_is, moved}

-- ---- a change beside the vault file's place

stays_none : (change : Change) (old new : Disk) → (IsMoved change old new → ⊥) → path_of change ≢ config_place → IsPartOf change old new → IsNoVault old → IsNoVault new
stays_none change old new unmoved apart (inl same) none = ap (λ (d : Disk). node_at d config_place) same ∙ none
stays_none change old new unmoved apart (inr (inl moved)) none = absurd (unmoved moved)
stays_none change old new unmoved apart (inr (inr part)) none =
    ap (λ (d : Disk). node_at d config_place) part.2 ∙ set_there old (path_of change) part.0 config_place (λ e. apart (sym e)) ∙ none

beside : (change : Change) (old new : Log) → ((a b : Disk) → IsMoved change a b → ⊥) → path_of change ≢ config_place → HasCalled change old new → LeavesFromNone IsNoVault old new
beside change old new unmoved apart (inl did) none =
    goes_to old old new (Did change) IsNoVault (started old IsNoVault none) did.1 (λ c image.
    let i = subst (λ (l : Log). IsImage l c) did.1 image in
    stays_none change i.0 c (unmoved i.0 c) apart i.2 (none i.0 i.1))
beside change old new unmoved apart (inr (inl same)) none = subst (λ (l : Log). LeavesOnly old l IsNoVault) (sym same) (started old IsNoVault none)
beside change old new unmoved apart (inr (inr broke)) none =
    goes_to old old new (Broke change broke.0) IsNoVault (started old IsNoVault none) broke.2 (λ c image.
    let i = subst (λ (l : Log). IsImage l c) broke.2 image in
    stays_none change i.0 c (unmoved i.0 c) apart i.2 (none i.0 i.1))

pub dir_beside : (a b : Option Log) (p : Path) → p ≢ config_place → Changes a b (HasCalled (MakeDir p)) → Changes a b (LeavesFromNone IsNoVault)
dir_beside a b p apart called =
    changed_by a b (HasCalled (MakeDir p)) (LeavesFromNone IsNoVault) (λ old new h. beside (MakeDir p) old new (λ x y moved. moved) apart h) called

pub put_beside : (a b : Option Log) (p : Path) (bytes : List ℕ) → p ≢ config_place → Changes a b (HasCalled (Put p bytes)) → Changes a b (LeavesFromNone IsNoVault)
put_beside a b p bytes apart called =
    changed_by a b (HasCalled (Put p bytes)) (LeavesFromNone IsNoVault) (λ old new h. beside (Put p bytes) old new (λ x y moved. moved) apart h) called

-- ---- after one another

after_none : (P : Disk → Type 0) (a b c : Log) → ((d : Disk) → IsNoVault d → P d) → LeavesFromNone IsNoVault a b → LeavesFromNone P b c → LeavesFromNone P a c
after_none P a b c f first second none =
    let begun = first none in
    joined a b c P (weaker a b IsNoVault P f begun) (second (ends a b IsNoVault begun))

pub both : (a b c : Option Log) → Changes a b (LeavesFromNone IsNoVault) → Changes b c (LeavesFromNone IsNoVault) → Changes a c (LeavesFromNone IsNoVault)
both a b c first second =
    through a b c (LeavesFromNone IsNoVault) (LeavesFromNone IsNoVault) (LeavesFromNone IsNoVault)
    (λ x y z p q. after_none IsNoVault x y z (λ d h. h) p q) first second

pub then_laid : (a b c : Option Log) (place : Path) (masterkey config : List ℕ) → Changes a b (LeavesFromNone IsNoVault) → Changes b c (LeavesFromNone (IsNoneOrLaidOut place masterkey config))
    → Changes a c (LeavesFromNone (IsNoneOrLaidOut place masterkey config))
then_laid a b c place masterkey config first second =
    through a b c (LeavesFromNone IsNoVault) (LeavesFromNone (IsNoneOrLaidOut place masterkey config)) (LeavesFromNone (IsNoneOrLaidOut place masterkey config))
    (λ x y z p q. after_none (IsNoneOrLaidOut place masterkey config) x y z (λ d h. inl h) p q) first second

pub none_yet : (a b : Option Log) (place : Path) (masterkey config : List ℕ) → Changes a b (LeavesFromNone IsNoVault) → Changes a b (LeavesFromNone (IsNoneOrLaidOut place masterkey config))
none_yet a b place masterkey config first =
    changed_by a b (LeavesFromNone IsNoVault) (LeavesFromNone (IsNoneOrLaidOut place masterkey config))
    (λ x y p none. weaker x y IsNoVault (IsNoneOrLaidOut place masterkey config) (λ d h. inl h) (p none)) first

-- ---- the paths

pub top_beside : (place mid up : Path) → IsRootPath place → mid ≡ parent place → up ≡ parent mid → up ≢ config_place
top_beside place mid up root e f g =
    let h : top ≡ config_place = sym (top_is place mid up root e f) ∙ g in
    config_below cc

pub middle_beside : (place mid : Path) → IsRootPath place → mid ≡ parent place → mid ≢ config_place
middle_beside place mid root e g = let h : middle root.0 ≡ config_place = sym (middle_is place mid root e) ∙ g in cc

pub root_beside : (place : Path) → IsRootPath place → place ≢ config_place
root_beside place root g = let h = sym root.2 ∙ g in cc

pub masterkey_apart : (p : Path) → p ≡ masterkey_place → p ≢ config_place
masterkey_apart p e g = masterkey_beside_config (sym e ∙ g)

pub new_apart : (p : Path) → p ≡ new_config_place → p ≢ config_place
new_apart p e g = new_beside_config (sym e ∙ g)

-- ---- the vault file is moved to its place

-- the first sync there leaves the key files beside it
synced_none : (old mid : Log) (place : Path) (masterkey config : List ℕ) → HasKeyFiles place masterkey config (now old) → HasSynced old mid → LeavesFromNone IsNoVault old mid
synced_none old mid place masterkey config has synced none =
    goes_to old old mid Synced IsNoVault (started old IsNoVault none) synced.call (λ c image.
    ap (λ (d : Disk). node_at d config_place) (synced.steady.durable c image ∙ synced.same) ∙ has.free)

-- a part of the move is none of it, or all
part_of_move : (place p q : Path) (masterkey config : List ℕ) (old image : Disk) → p ≡ new_config_place → q ≡ config_place → HasKeyFiles place masterkey config old
    → IsPartOf (Move p q) old image → IsNoneOrLaidOut place masterkey config image
part_of_move place p q masterkey config old image e f has (inl same) = inl (ap (λ (d : Disk). node_at d config_place) same ∙ has.free)
part_of_move place p q masterkey config old image e f has (inr (inl whole)) =
    let is = whole.2 ∙ ap (λ (r : Path). done (Move r q) old) e ∙ ap (λ (r : Path). done (Move new_config_place r) old) f in
    inr (subst (IsLaidOut place masterkey config) (sym is) (is_laid_out old place masterkey config has))
part_of_move place p q masterkey config old image e f has (inr (inr part)) = absurd part.1

-- one call more of the move, from where all is on the disk
move_leaves : (place p q : Path) (masterkey config : List ℕ) (old mid new : Log) → p ≡ new_config_place → q ≡ config_place → HasKeyFiles place masterkey config (now old)
    → HasSynced old mid → HasCalled (Move p q) mid new → LeavesFromNone (IsNoneOrLaidOut place masterkey config) old new
move_leaves place p q masterkey config old mid new e f has synced called none = by_case called
  where
    P : Disk → Type 0
    P = IsNoneOrLaidOut place masterkey config

    so_far : LeavesOnly old mid P
    so_far = weaker old mid IsNoVault P (λ d h. inl h) (synced_none old mid place masterkey config has synced none)

    part : (before image : Disk) → IsImage mid before → IsPartOf (Move p q) before image → P image
    part before image is of = part_of_move place p q masterkey config before image e f (subst (HasKeyFiles place masterkey config) (sym (synced.steady.durable before is ∙ synced.same)) has) of

    by_case : HasCalled (Move p q) mid new → LeavesOnly old new P
    by_case (inl did) = goes_to old mid new (Did (Move p q)) P so_far did.1 (λ c image. let i = subst (λ (l : Log). IsImage l c) did.1 image in part i.0 c i.1 i.2)
    by_case (inr (inl same)) = subst (λ (l : Log). LeavesOnly old l P) (sym same) so_far
    by_case (inr (inr broke)) = goes_to old mid new (Broke (Move p q) broke.0) P so_far broke.2 (λ c image. let i = subst (λ (l : Log). IsImage l c) broke.2 image in part i.0 c i.1 i.2)

-- if the first sync failed
pub not_begun : (a b : Option Log) (place : Path) (masterkey config : List ℕ) → b ≡ a → Changes a b (LeavesFromNone (IsNoneOrLaidOut place masterkey config))
not_begun a b place masterkey config same =
    unchanged a b (LeavesFromNone (IsNoneOrLaidOut place masterkey config)) same (λ x none. started x (IsNoneOrLaidOut place masterkey config) (λ c image. inl (none c image)))

-- if the last sync wasn't made, or failed
pub moved_leaves : (a b c d : Option Log) (place p q : Path) (masterkey config : List ℕ) → p ≡ new_config_place → q ≡ config_place → Told a (λ log. HasKeyFiles place masterkey config (now log))
    → Syncs a b → Changes b c (HasCalled (Move p q)) → d ≡ c → Changes a d (LeavesFromNone (IsNoneOrLaidOut place masterkey config))
moved_leaves a b c d place p q masterkey config e f has synced called same =
    subst (λ (o : Option Log). Changes a o (LeavesFromNone (IsNoneOrLaidOut place masterkey config))) (sym same)
    (told_through a b c (λ log. HasKeyFiles place masterkey config (now log)) HasSynced (HasCalled (Move p q)) (LeavesFromNone (IsNoneOrLaidOut place masterkey config))
    (λ x y z is s h. move_leaves place p q masterkey config x y z e f is s h) has synced called)

both_changes : (a b : Option Log) (P Q : Log → Log → Type 0) → Changes a b P → Changes a b Q → Changes a b (λ x y. P x y × Q x y)
both_changes None None P Q p q = tt
both_changes None (Some y) P Q p q = absurd p
both_changes (Some x) None P Q p q = absurd p
both_changes (Some x) (Some y) P Q p q = (p, q)

-- and after it
pub installed_leaves : (a b c d : Option Log) (place p q : Path) (masterkey config : List ℕ) → p ≡ new_config_place → q ≡ config_place → Told a (λ log. HasKeyFiles place masterkey config (now log))
    → Syncs a b → Changes b c (HasCalled (Move p q)) → Does b c (Move p q) → Syncs c d → Changes a d (LeavesFromNone (IsNoneOrLaidOut place masterkey config))
installed_leaves a b c d place p q masterkey config e f has synced called move last =
    let P = IsNoneOrLaidOut place masterkey config in
    through a c d (λ x y. LeavesFromNone P x y × IsLaidOut place masterkey config (now y)) HasSynced (LeavesFromNone P)
    (λ x y z h s none. goes_to x y z Synced P (h.0 none) s.call
    (λ w image. inr (subst (IsLaidOut place masterkey config) (sym (s.steady.durable w image ∙ s.same)) h.1)))
    (both_changes a c (LeavesFromNone P) (λ x y. IsLaidOut place masterkey config (now y))
    (moved_leaves a b c c place p q masterkey config e f has synced called refl) (moved a b c place p q masterkey config e f has synced move)) last

-- ---- from the first sync on

pub leaves_whole : (a b c : Option Log) (place : Path) (masterkey config : List ℕ) → Told a (λ log. IsEmpty (now log)) → Syncs a b
    → Changes b c (LeavesFromNone (IsNoneOrLaidOut place masterkey config)) → Changes a c (λ old new. LeavesOnly (adds old Synced) new (IsNoneOrLaidOut place masterkey config))
leaves_whole a b c place masterkey config empty synced filled =
    let P = IsNoneOrLaidOut place masterkey config in
    told_through a b c (λ log. IsEmpty (now log)) HasSynced (LeavesFromNone P) (λ old new. LeavesOnly (adds old Synced) new P)
    (λ x y z is s leaves. subst (λ (l : Log). LeavesOnly l z P) s.call
    (leaves (λ w image. ap (λ (d : Disk). node_at d config_place) (s.steady.durable w image ∙ s.same) ∙ is.bare vault_file)))
    empty synced filled
