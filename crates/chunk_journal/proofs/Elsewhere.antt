-- What calls leave at the paths that none of their changes names.
use Rattle.std.proofs.Common.{◌≡◌, ◌⊎◌, ⊎_elim, List, [], ◌∷◌, ◌++◌, Contains, Option, None, refl, sym, subst, ◌∙◌, inl, inr, arith}
use Rattle.std.proofs.lemmas.List.Elements.{Contains-append_cases, Contains-append_left, Contains-append_right}
use Rattle.outside.specs.Disk.{Disk, Path, Node, node_at}
use Rattle.outside.specs.Changes.{Change, MakeDir, Put, Write, SetLen, Move, RemoveFile, RemoveDir, IsPartOf, MayStand, done, set_at}
use Rattle.outside.specs.Images.{Call, Did, Broke, Synced, MayLeave, IsSound, disk_after}
use Rattle.outside.proofs.Paths.{set_there}
use Rattle.outside.proofs.Steady.{whole_part}
use Rattle.deeds.specs.Deeds.{AreSound}
use Rattle.outside.specs.Unsynced.{IsSoundSinceSync, changes_in, paths_of, touched, unsynced}
use Rattle.deeds.proofs.Again.{at_disk}

-- ---- one change

one_there : (p q : Path) (Stands : Option Node → Type 0) (old new : Disk) → (new ≡ old) ⊎ (⊥ ⊎ ((node : Option Node) × Stands node × (new ≡ set_at old p node))) → (Contains (p ∷ []) q → ⊥) → node_at new q ≡ node_at old q
one_there p q Stands old new (inl same) apart = at_disk q same
one_there p q Stands old new (inr (inl never)) apart = absurd never
one_there p q Stands old new (inr (inr set)) apart = at_disk q set.2 ∙ set_there old p set.0 q (λ e. apart (0, omega arith, sym e))

moved_there : (from to q : Path) (old new : Disk) → IsPartOf (Move from to) old new → (Contains (from ∷ to ∷ []) q → ⊥) → node_at new q ≡ node_at old q
moved_there from to q old new (inl same) apart = at_disk q same
moved_there from to q old new (inr (inl moved)) apart =
    at_disk q moved.2 ∙ set_there (set_at old from None) to (node_at old from) q (λ e. apart (1, omega arith, sym e)) ∙ set_there old from None q (λ e. apart (0, omega arith, sym e))
moved_there from to q old new (inr (inr set)) apart = absurd set.1

-- a part of a change leaves all else as it was
part_there : (change : Change) (old new : Disk) → IsPartOf change old new → (q : Path) → (Contains (paths_of change) q → ⊥) → node_at new q ≡ node_at old q
part_there (MakeDir p) old new part q apart = one_there p q (MayStand (MakeDir p) (node_at old p)) old new part apart
part_there (Put p bytes) old new part q apart = one_there p q (MayStand (Put p bytes) (node_at old p)) old new part apart
part_there (Write p at bytes) old new part q apart = one_there p q (MayStand (Write p at bytes) (node_at old p)) old new part apart
part_there (SetLen p n) old new part q apart = one_there p q (MayStand (SetLen p n) (node_at old p)) old new part apart
part_there (Move from to) old new part q apart = moved_there from to q old new part apart
part_there (RemoveFile p) old new part q apart = one_there p q (MayStand (RemoveFile p) (node_at old p)) old new part apart
part_there (RemoveDir p) old new part q apart = one_there p q (MayStand (RemoveDir p) (node_at old p)) old new part apart

-- a path that neither a change nor others name
apart_own : (change : Change) (others : List Path) (q : Path) → (Contains (paths_of change ++ others) q → ⊥) → Contains (paths_of change) q → ⊥
apart_own change others q apart own = apart (Contains-append_left (paths_of change) others q own)

apart_rest : (change : Change) (others : List Path) (q : Path) → (Contains (paths_of change ++ others) q → ⊥) → Contains others q → ⊥
apart_rest change others q apart rest = apart (Contains-append_right (paths_of change) others q rest)

-- ---- calls since others

module _ (start : Disk) (older : List Call) where
  -- what reads give there is what they gave
  pub since_there : (since : List Call) → AreSound start older since → (q : Path) → (Contains (touched (changes_in since)) q → ⊥) → node_at (disk_after start (since ++ older)) q ≡ node_at (disk_after start older) q
  since_there [] sound q apart = refl
  since_there (Did change ∷ since) sound q apart =
      let before = disk_after start (since ++ older) in
      let others = touched (changes_in since) in
      part_there change before (done change before) (whole_part change before sound.1) q (apart_own change others q apart) ∙ since_there since sound.0 q (apart_rest change others q apart)
  since_there (Broke change left ∷ since) sound q apart =
      let others = touched (changes_in since) in
      part_there change (disk_after start (since ++ older)) left sound.1.part q (apart_own change others q apart) ∙ since_there since sound.0 q (apart_rest change others q apart)
  since_there (Synced ∷ since) sound q apart = since_there since sound q apart

  pub sound_before : (since : List Call) (call : Call) → AreSound start older (call ∷ since) → AreSound start older since
  sound_before since (Did change) sound = sound.0
  sound_before since (Broke change left) sound = sound.0
  sound_before since Synced sound = sound

  module _ (none : unsynced older ≡ []) where
    synced_sound : (calls : List Call) → unsynced calls ≡ [] → IsSoundSinceSync start calls
    synced_sound [] none = tt
    synced_sound (Did change ∷ calls) none = absurd cc
    synced_sound (Broke change left ∷ calls) none = absurd cc
    synced_sound (Synced ∷ calls) none = tt

    -- after calls none of which is unsynced, those that are so are among these
    pub sound_since : (since : List Call) → AreSound start older since → IsSoundSinceSync start (since ++ older)
    sound_since [] sound = synced_sound older none
    sound_since (Did change ∷ since) sound = (sound_since since sound.0, sound.1)
    sound_since (Broke change left ∷ since) sound = (sound_since since sound.0, sound.1)
    sound_since (Synced ∷ since) sound = tt

    more_among : (change : Change) (some all : List Path) (q : Path) → (Contains some q → Contains all q) → Contains (paths_of change ++ some) q → Contains (paths_of change ++ all) q
    more_among change some all q more there =
        ⊎_elim (Contains-append_left (paths_of change) all q) (λ rest. Contains-append_right (paths_of change) all q (more rest)) (Contains-append_cases (paths_of change) some q there)

    pub unsynced_among : (since : List Call) (q : Path) → Contains (touched (unsynced (since ++ older))) q → Contains (touched (changes_in since)) q
    unsynced_among [] q there = subst (λ changes. Contains (touched changes) q) none there
    unsynced_among (Did change ∷ since) q there = more_among change (touched (unsynced (since ++ older))) (touched (changes_in since)) q (unsynced_among since q) there
    unsynced_among (Broke change left ∷ since) q there = more_among change (touched (unsynced (since ++ older))) (touched (changes_in since)) q (unsynced_among since q) there
    unsynced_among (Synced ∷ since) q there = absurd (omega (arith, there.1))

-- a call more names more
pub earlier_among : (call : Call) (since : List Call) (q : Path) → Contains (touched (changes_in since)) q → Contains (touched (changes_in (call ∷ since))) q
earlier_among (Did change) since q there = Contains-append_right (paths_of change) (touched (changes_in since)) q there
earlier_among (Broke change left) since q there = Contains-append_right (paths_of change) (touched (changes_in since)) q there
earlier_among Synced since q there = there

-- ---- what a stop leaves

-- elsewhere than at what is unsynced it is what reads give
pub image_there : (start : Disk) (calls : List Call) → IsSoundSinceSync start calls → (image : Disk) → MayLeave start calls image → (q : Path) → (Contains (touched (unsynced calls)) q → ⊥) → node_at image q ≡ node_at (disk_after start calls) q
image_there start [] sound image is q apart = at_disk q is
image_there start (Did change ∷ older) sound image is q apart =
    let before = disk_after start older in
    let own = apart_own change (touched (unsynced older)) q apart in
    part_there change is.0 image is.2 q own
    ∙ image_there start older sound.0 is.0 is.1 q (apart_rest change (touched (unsynced older)) q apart)
    ∙ sym (part_there change before (done change before) (whole_part change before sound.1) q own)
image_there start (Broke change left ∷ older) sound image is q apart =
    let own = apart_own change (touched (unsynced older)) q apart in
    part_there change is.0 image is.2 q own
    ∙ image_there start older sound.0 is.0 is.1 q (apart_rest change (touched (unsynced older)) q apart)
    ∙ sym (part_there change (disk_after start older) left sound.1.part q own)
image_there start (Synced ∷ older) sound image is q apart = at_disk q is

-- of calls that all were as they can be, those since the last sync were
pub sound_whole : (start : Disk) (calls : List Call) → IsSound start calls → IsSoundSinceSync start calls
sound_whole start [] sound = tt
sound_whole start (Did change ∷ older) sound = (sound_whole start older sound.0, sound.1)
sound_whole start (Broke change left ∷ older) sound = (sound_whole start older sound.0, sound.1)
sound_whole start (Synced ∷ older) sound = tt
