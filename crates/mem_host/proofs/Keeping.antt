-- What holds of a host stays so from call to call.
use Rattle.std.proofs.Common.{◌≡◌, ◌≢◌, ◌+◌, ◌<◌, ℕ, Bool, false, List, [], ◌∷◌, length, Option, Some, None, IsSome, option_map, refl, sym, ap, subst, ◌∙◌, arith, true≢false}
use Rattle.std.specs.FinMap as map
use Rattle.outside.specs.Disk.{Path, IsTree}
use Rattle.outside.specs.Images.{Log}
use Rattle.host_calls.specs.declared.found.Inode.{Inode}
use Rattle.host_calls.specs.Volume.{Names, Contents, File, entry_at, inode_cmp, each_value, disk_of}
use Rattle.host_calls.specs.Names.{NameStep, MadeFolder, MadeFile, Moved, Dropped, Fits, CanMake, names_after, MayName, without}
use Rattle.host_calls.specs.Bytes.{Filed, FileStep, Wrote, AreWithin}
use Rattle.host_calls.specs.Story.{Story, Files, IsLeft, MayBe, names_now, bytes_of, bytes_now, volume_now, disk_now, takes, writes, creates, filed_after, flushes_folder, flushes_file, settled_file}
use Rattle.host_calls.specs.Calls.{HasCreated}
use Rattle.host_calls.proofs.Volumes.{inodes_total, by_inode, filed_here, filed_there, get_each}
use Rattle.host_calls.proofs.Steps.{same_names}
use Rattle.host_calls.proofs.Stories.{bytes_known}
use Rattle.host_calls.proofs.Sound.{sound_taken, sound_written, sound_created, sound_flushed_folder, sound_flushed_file, now_after}
use Rattle.mem_host.specs.Filing.{Filing, numbered, IsBelow, IsFiling}
use Rattle.mem_host.specs.Cuts.{AreLeft, AreSettled}
use Rattle.mem_host.specs.Holding.{Naming, AreBelow, IsHolding, IsNameStep, CanHold, IsBegun}
use Rattle.mem_host.specs.Entries.{bare}
use Rattle.mem_host.proofs.Files.{is_filing}
use Rattle.mem_host.proofs.Trees.{with_bytes, tree_other, tree_stepped, tree_left, bare_tree, bare_no_file}
use Rattle.mem_host.proofs.Numbers.{below_relabelled, below_taken, below_created, below_left, apart_left, next_unknown, next_new}

-- the story of what a host has
abbrev pub story_of : Naming → Filing → Bool → Log → Bool → Story
story_of naming filing doubt diary unnoted = record {
  base = naming.base;
  naming = naming.steps;
  files = filing.held;
  doubt = doubt;
  diary = diary;
  unnoted = unnoted;
}

-- ---- files

filing_given : (filing : Filing) (i : Inode) (x : Filed) → IsFiling filing → (n : ℕ) → n < filing.count → (filed : Filed) × (map.get (map.insert filing.held i x) (numbered n) ≡ Some filed)
filing_given filing i x files n few = by_inode (numbered n) i
    (λ e. (x, ap (map.get (map.insert filing.held i x)) e ∙ filed_here filing.held i x))
    (λ ne. let f = files.given n few in (f.0, filed_there filing.held i x (numbered n) ne ∙ f.1))

-- a file that changed
pub filing_changed : (filing : Filing) (i : Inode) (x : Filed) → IsSome (map.get filing.held i) → IsFiling filing → IsFiling (record { count = filing.count; held = map.insert filing.held i x })
filing_changed filing i x known files = record {
  given = filing_given filing i x files;
  below = λ j filed h. by_inode j i
      (λ e. there (map.get filing.held i) refl j e)
      (λ ne. files.below j filed (sym (filed_there filing.held i x j ne) ∙ h));
}
  where
    there : (o : Option Filed) → map.get filing.held i ≡ o → (j : Inode) → j ≡ i → IsBelow filing.count j
    there None e j is = absurd (true≢false (sym (subst IsSome e known)))
    there (Some filed) e j is = subst (IsBelow filing.count) (sym is) (files.below i filed e)

-- a file more
pub filing_more : (filing : Filing) (x : Filed) → IsFiling filing → IsFiling (record { count = filing.count + 1; held = map.insert filing.held (numbered filing.count) x })
filing_more filing x files = record {
  given = λ n few. by_inode (numbered n) (numbered filing.count)
      (λ e. (x, ap (map.get (map.insert filing.held (numbered filing.count) x)) e ∙ filed_here filing.held (numbered filing.count) x))
      (λ ne. let f = files.given n (fewer n few ne) in (f.0, filed_there filing.held (numbered filing.count) x (numbered n) ne ∙ f.1));
  below = λ j filed h. by_inode j (numbered filing.count)
      (λ e. (filing.count, omega arith, e))
      (λ ne. let b = files.below j filed (sym (filed_there filing.held (numbered filing.count) x j ne) ∙ h) in (b.0, omega (arith, b.1), b.2));
}
  where
    fewer : (n : ℕ) → n < filing.count + 1 → numbered n ≢ numbered filing.count → n < filing.count
    fewer n few ne = let other : n ≢ filing.count = λ e. ne (ap numbered e) in omega (arith, few, other)

-- ---- steps

names_step : (step : NameStep) → IsNameStep step → (p : Path) (i : Inode) → step ≢ MadeFile p i
names_step (MadeFolder q) is p i e = cc
names_step (MadeFile q j) is p i e = absurd is
names_step (Moved from to) is p i e = cc
names_step (Dropped q) is p i e = cc

tree_taken : (step : NameStep) (story : Story) (c : Contents) → Fits step (names_now story) → IsTree (disk_now story) → IsTree (disk_of (with_bytes (names_now (takes step story)) c))
tree_taken step story c fits tree =
    subst (λ (n : Names). IsTree (disk_of (with_bytes n c))) (sym (now_after step story))
    (tree_stepped step (names_now story) c fits (tree_other (names_now story) (each_value bytes_of story.files) c tree))

pub kept_taken : (text : List ℕ) (filing : Filing) (story : Story) (step : NameStep) → IsNameStep step → Fits step (names_now story) → IsHolding text filing story → IsHolding text filing (takes step story)
kept_taken text filing story step is fits holds = record {
  named = holds.named;
  files = holds.files;
  sound = sound_taken step story (names_step step is) holds.sound holds.tree fits;
  tree = tree_taken step story (each_value bytes_of story.files) fits holds.tree;
  below = below_taken filing.count story.base step story.naming is holds.below;
  apart = holds.apart;
  start = holds.start;
}

-- ---- a new file

-- what a new file of these bytes is
abbrev pub new_filed : List ℕ → Filed
new_filed bytes = record { lasting = []; steps = Wrote 0 bytes ∷ [] }

abbrev pub filing_with : Filing → List ℕ → Filing
filing_with filing bytes = record { count = filing.count + 1; held = map.insert filing.held (numbered filing.count) (new_filed bytes) }

new_within : (bytes : List ℕ) → AreWithin [] (Wrote 0 bytes ∷ [])
new_within bytes = (tt, omega arith)

pub has_created : (filing : Filing) (naming : Naming) (doubt : Bool) (diary : Log) (unnoted : Bool) (text : List ℕ) (path : Path) (bytes : List ℕ)
    → IsHolding text filing (story_of naming filing doubt diary unnoted) → CanMake (names_after naming.base naming.steps) path
    → HasCreated path bytes (story_of naming filing doubt diary unnoted) (creates path (numbered filing.count) (Wrote 0 bytes ∷ []) (story_of naming filing doubt diary unnoted))
has_created filing naming doubt diary unnoted text path bytes holds can = record {
  fits = can;
  inode = numbered filing.count;
  fresh = next_new filing (story_of naming filing doubt diary unnoted) refl holds.files holds.below holds.sound.fitting;
  is = refl;
}

-- the files after it
pub created_files : (filing : Filing) (bytes : List ℕ) → IsFiling filing
    → map.insert filing.held (numbered filing.count) (filed_after (Wrote 0 bytes ∷ []) (map.get filing.held (numbered filing.count))) ≡ (filing_with filing bytes).held
created_files filing bytes files = ap (λ (o : Option Filed). map.insert filing.held (numbered filing.count) (filed_after (Wrote 0 bytes ∷ []) o)) (next_unknown filing files)

pub kept_created : (text : List ℕ) (filing : Filing) (story : Story) (path : Path) (bytes : List ℕ) → story.files ≡ filing.held → CanMake (names_now story) path → IsHolding text filing story
    → IsHolding text (filing_with filing bytes) (creates path (numbered filing.count) (Wrote 0 bytes ∷ []) story)
kept_created text filing story path bytes held can holds =
    let fresh = next_new filing story held holds.files holds.below holds.sound.fitting in
    record {
      named = holds.named;
      files = filing_more filing (new_filed bytes) holds.files;
      sound = sound_created path (numbered filing.count) (Wrote 0 bytes ∷ []) story holds.sound holds.tree can fresh (new_within bytes);
      tree = tree_taken (MadeFile path (numbered filing.count)) story (each_value bytes_of (creates path (numbered filing.count) (Wrote 0 bytes ∷ []) story).files) can holds.tree;
      below = below_created filing.count story.base path story.naming holds.below;
      apart = holds.apart;
      start = holds.start;
    }

-- ---- bytes

-- the file at a path is one of these
pub known_at : (text : List ℕ) (filing : Filing) (story : Story) (path : Path) (inode : Inode) → IsHolding text filing story → entry_at (names_now story) path ≡ Some (File inode) → IsSome (map.get story.files inode)
known_at text filing story path inode holds is = subst IsSome (sym (holds.sound.known path inode is).1) refl

pub kept_written : (text : List ℕ) (filing : Filing) (story : Story) (path : Path) (inode : Inode) (steps : List FileStep) → story.files ≡ filing.held → entry_at (names_now story) path ≡ Some (File inode)
    → AreWithin (bytes_now story inode) steps → IsHolding text filing story
    → IsHolding text (record { count = filing.count; held = map.insert filing.held inode (filed_after steps (map.get filing.held inode)) }) (writes inode steps story)
kept_written text filing story path inode steps held is within holds =
    let known = holds.sound.known path inode is in
    record {
      named = holds.named;
      files = filing_changed filing inode (filed_after steps (map.get filing.held inode)) (subst (λ (f : Files). IsSome (map.get f inode)) held (known_at text filing story path inode holds is)) holds.files;
      sound = sound_written inode steps known.0 story holds.sound known.1 (subst (λ (l : List ℕ). AreWithin l steps) (bytes_known story inode known.0 known.1) within);
      tree = tree_other (names_now story) (each_value bytes_of story.files) (each_value bytes_of (writes inode steps story).files) holds.tree;
      below = holds.below;
      apart = holds.apart;
      start = holds.start;
    }

-- ---- flushes

pub kept_flushed_folder : (text : List ℕ) (filing : Filing) (story : Story) (path : Path) → IsHolding text filing story → IsHolding text filing (flushes_folder path story)
kept_flushed_folder text filing story path holds = record {
  named = holds.named;
  files = holds.files;
  sound = sound_flushed_folder path story holds.sound;
  tree = subst (λ (n : Names). IsTree (disk_of (with_bytes n (each_value bytes_of story.files)))) (sym (same_names story.base (without path) story.naming)) holds.tree;
  below = below_relabelled filing.count story.base (without path) story.naming holds.below;
  apart = holds.apart;
  start = holds.start;
}

pub kept_flushed_file : (text : List ℕ) (filing : Filing) (story : Story) (inode : Inode) → IsSome (map.get filing.held inode) → IsHolding text filing story
    → IsHolding text (record { count = filing.count; held = map.insert filing.held inode (settled_file (map.get filing.held inode)) }) (flushes_file inode story)
kept_flushed_file text filing story inode known holds = record {
  named = holds.named;
  files = filing_changed filing inode (settled_file (map.get filing.held inode)) known holds.files;
  sound = sound_flushed_file inode story holds.sound;
  tree = tree_other (names_now story) (each_value bytes_of story.files) (each_value bytes_of (flushes_file inode story).files) holds.tree;
  below = holds.below;
  apart = holds.apart;
  start = holds.start;
}

-- ---- doubt and diary

-- nothing of it hangs on them
pub kept_noted : (text : List ℕ) (filing : Filing) (story : Story) (doubt : Bool) (diary : Log) (unnoted : Bool) → IsHolding text filing story
    → IsHolding text filing (record { base = story.base; naming = story.naming; files = story.files; doubt = doubt; diary = diary; unnoted = unnoted })
kept_noted text filing story doubt diary unnoted holds = record {
  named = holds.named;
  files = holds.files;
  sound = record { fitting = holds.sound.fitting; within = holds.sound.within; folders = holds.sound.folders; apart = holds.sound.apart; known = holds.sound.known };
  tree = holds.tree;
  below = holds.below;
  apart = holds.apart;
  start = holds.start;
}

-- ---- beginnings

settled_within : (lasting : List ℕ) (steps : List FileStep) → steps ≡ [] → AreWithin lasting steps
settled_within lasting steps none = subst (AreWithin lasting) (sym none) tt

pub holds_first : (text : List ℕ) (names : Names) (filing : Filing) (doubt : Bool) (diary : Log) (unnoted : Bool) → 0 < length text → CanHold names filing
    → IsHolding text filing (story_of (record { base = names; steps = [] }) filing doubt diary unnoted)
holds_first text names filing doubt diary unnoted named can = record {
  named = named;
  files = can.files;
  sound = record {
    fitting = tt;
    within = λ i filed is. settled_within filed.lasting filed.steps (can.settled i filed is);
    folders = tt;
    apart = can.apart;
    known = λ p i is. let b = can.below p i is in let f = can.files.given b.0 b.1 in (f.0, ap (map.get filing.held) b.2 ∙ f.1);
  };
  tree = can.tree;
  below = can.below;
  apart = can.apart;
  start = tree_other names (each_value bytes_of filing.held) map.empty can.tree;
}

pub begun_from : (text : List ℕ) (filing : Filing) (story : Story) → IsHolding text filing story → story.diary ≡ record { start = disk_now story; calls = [] } → story.unnoted ≡ false → IsBegun story
begun_from text filing story holds diary noted = record { sound = holds.sound; tree = holds.tree; diary = diary; noted = noted }

-- ---- power cuts

pub can_hold_left : (text : List ℕ) (filing left : Filing) (story : Story) (names : Names) → IsHolding text filing story → MayName story.base story.naming names → AreSettled left.held → IsFiling left → left.count ≡ filing.count
    → CanHold names left
can_hold_left text filing left story names holds may settled files count = record {
  files = files;
  settled = settled;
  below = subst (λ (n : ℕ). AreBelow n names []) (sym count) (below_left filing.count story.base story.naming names may holds.below);
  apart = apart_left filing.count story.base story.naming names may holds.below holds.apart;
  tree = tree_other names map.empty (each_value bytes_of left.held) (tree_left story.base story.naming names map.empty may holds.start);
}

-- the volume that is left
pub is_left : (story left : Story) (names : Names) (files : Files) → MayName story.base story.naming names → AreLeft story.files files → left.base ≡ names → left.naming ≡ [] → left.files ≡ files → IsLeft story (volume_now left)
is_left story left names files may bytes base none held = record {
  names = subst (MayName story.base story.naming) (sym (ap (names_after left.base) none ∙ base)) may;
  bytes = λ i. subst (MayBe (map.get story.files i)) (sym (get_each inodes_total bytes_of left.files i ∙ ap (λ (f : Files). option_map bytes_of (map.get f i)) held)) (bytes i);
}

-- the folder itself alone, and no file
abbrev pub no_files : Filing
no_files = record { count = 0; held = map.empty }

pub can_hold_bare : CanHold bare no_files
can_hold_bare = record {
  files = is_filing [];
  settled = λ i filed h. absurd (let e : None ≡ Some filed = sym (map.get-empty inode_cmp i) ∙ h in cc);
  below = λ p i h. absurd (bare_no_file p i h);
  apart = λ p q i h k. absurd (bare_no_file p i h);
  tree = bare_tree (each_value bytes_of map.empty);
}
