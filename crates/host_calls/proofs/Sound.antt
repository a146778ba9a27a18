-- Stories stay sound from call to call.
use Rattle.std.proofs.Common.{◌≡◌, ◌≢◌, ◌⊎◌, ◌-◌, ℕ, Bool, true, false, cond, List, [], ◌∷◌, ◌++◌, length, take, Option, Some, None, IsSome, option_map, map as each_of, refl, sym, ap, subst, ◌∙◌, inl, inr, arith, length-take}
use Rattle.std.specs.List.{AllByRecursion}
use Rattle.std.specs.Ordering.{eq_by_cmp}
use Rattle.std.specs.FinMap as map
use Rattle.outside.specs.Disk.{Path, path_cmp, parent, IsTree}
use Rattle.outside.proofs.Paths.{by_path, path_decides}
use Rattle.host_calls.specs.declared.found.Inode.{Inode}
use Rattle.host_calls.specs.Volume.{Names, Volume, Entry, Folder, File, entry_at, node_of, disk_of}
use Rattle.host_calls.specs.Names.{NameStep, MadeFolder, MadeFile, Moved, Dropped, HasFolder, HasFile, CanMake, CanMoveTo, IsEmptyFolder, Fits, named, after_step, folders_of, Pending, begun, before_step, instead, without, flushed, without_folder, names_after}
use Rattle.host_calls.specs.Bytes.{Filed, FileStep, AreWithin}
use Rattle.host_calls.specs.Story.{Story, Files, IsNew, IsSoundStory, AreApart, AreKnown, AreThere, names_now, disk_now, volume_now, bytes_of, takes, writes, creates, filed_after, flushes_folder, flushes_file, settled_file}
use Rattle.host_calls.proofs.Volumes.{by_inode, filed_here, filed_there, named_here, named_there, folder_from, folder_in, node_in}
use Rattle.host_calls.proofs.Steps.{fitting_more, names_before, same_names, still_fitting, relabelled}
use Rattle.host_calls.proofs.Written.{within_more}

-- ---- lists

pub all_then : {X : Type 0} (P Q : X → Type 0) → ((x : X) → P x → Q x) → (xs : List X) → AllByRecursion P xs → AllByRecursion Q xs
all_then P Q f [] all = tt
all_then P Q f (x ∷ xs) all = (f x all.0, all_then P Q f xs all.1)

-- of each element's image
pub all_mapped : {X : Type 0} (P Q : X → Type 0) (g : X → X) → ((x : X) → P x → Q (g x)) → (xs : List X) → AllByRecursion P xs → AllByRecursion Q (each_of g xs)
all_mapped P Q g f [] all = tt
all_mapped P Q g f (x ∷ xs) all = (f x all.0, all_mapped P Q g f xs all.1)

-- of those that aren't this path
pub all_without : (P : Path → Type 0) (Q : Path → Type 0) (path : Path) → ((q : Path) → q ≢ path → P q → Q q) → (qs : List Path) → AllByRecursion P qs → AllByRecursion Q (without path qs)
all_without P Q path f [] all = tt
all_without P Q path f (q ∷ qs) all = kept (all_without P Q path f qs all.1) (eq_by_cmp path_cmp q path) refl
  where
    kept : AllByRecursion Q (without path qs) → (b : Bool) → eq_by_cmp path_cmp q path ≡ b → AllByRecursion Q (cond b (without path qs) (q ∷ without path qs))
    kept rest true is = rest
    kept rest false is = (f q (λ e. let h : true ≡ false = sym ((path_decides q path).1 e) ∙ is in cc) all.0, rest)

-- ---- entries after a name more or less

-- a file that is there is the one that was named, or was there before
pub where_file : (names : Names) (p : Path) (entry : Option Entry) (q : Path) (i : Inode) → entry_at (named names p entry) q ≡ Some (File i)
    → ((q ≡ p) × (entry ≡ Some (File i))) ⊎ ((q ≢ p) × (entry_at names q ≡ Some (File i)))
where_file names p entry q i h = by_path q p
    (λ is. inl (is, sym (named_here names p entry q is) ∙ h))
    (λ ne. inr (ne, sym (named_there names p entry q ne) ∙ h))

apart_named : (names : Names) (p : Path) (entry : Option Entry) → AreApart names
    → ((q : Path) (i : Inode) → entry ≡ Some (File i) → entry_at names q ≡ Some (File i) → q ≡ p) → AreApart (named names p entry)
apart_named names p entry apart new q r i at_q at_r = both (where_file names p entry q i at_q) (where_file names p entry r i at_r)
  where
    both : ((q ≡ p) × (entry ≡ Some (File i))) ⊎ ((q ≢ p) × (entry_at names q ≡ Some (File i)))
        → ((r ≡ p) × (entry ≡ Some (File i))) ⊎ ((r ≢ p) × (entry_at names r ≡ Some (File i))) → q ≡ r
    both (inl (a, x)) (inl (b, y)) = a ∙ sym b
    both (inl (a, x)) (inr (b, y)) = a ∙ sym (new r i x y)
    both (inr (a, x)) (inl (b, y)) = new q i y x ∙ sym b
    both (inr (a, x)) (inr (b, y)) = apart q r i x y

pub no_file : (i : Inode) → Some Folder ≡ Some (File i) → ⊥
no_file i h = cc

pub not_file : (i : Inode) → None ≡ Some (File i) → ⊥
not_file i h = cc

same_inode : (i j : Inode) → Some (File i) ≡ Some (File j) → i ≡ j
same_inode i j h = cc

pub apart_moved : (names : Names) (from to : Path) → AreApart names → AreApart (after_step (Moved from to) names)
apart_moved names from to apart =
    apart_named (named names from None) to (entry_at names from)
    (apart_named names from None apart (λ q i h there. absurd (not_file i h)))
    (λ q i h there. gone q i h (where_file names from None q i there))
  where
    gone : (q : Path) (i : Inode) → entry_at names from ≡ Some (File i) → ((q ≡ from) × (None ≡ Some (File i))) ⊎ ((q ≢ from) × (entry_at names q ≡ Some (File i))) → q ≡ to
    gone q i h (inl (is, never)) = absurd (not_file i never)
    gone q i h (inr (ne, there)) = absurd (ne (apart q from i there h))

-- a file that has a name after a step had one before, unless the step made it
pub named_before : (step : NameStep) (names : Names) (q : Path) (i : Inode) → entry_at (after_step step names) q ≡ Some (File i)
    → ((p : Path) × (entry_at names p ≡ Some (File i))) ⊎ ((p : Path) × (step ≡ MadeFile p i))
named_before (MadeFolder p) names q i h = old (where_file names p (Some Folder) q i h)
  where
    old : ((q ≡ p) × (Some Folder ≡ Some (File i))) ⊎ ((q ≢ p) × (entry_at names q ≡ Some (File i))) → ((r : Path) × (entry_at names r ≡ Some (File i))) ⊎ ((r : Path) × (MadeFolder p ≡ MadeFile r i))
    old (inl (is, never)) = absurd (no_file i never)
    old (inr (ne, there)) = inl (q, there)
named_before (MadeFile p j) names q i h = old (where_file names p (Some (File j)) q i h)
  where
    old : ((q ≡ p) × (Some (File j) ≡ Some (File i))) ⊎ ((q ≢ p) × (entry_at names q ≡ Some (File i))) → ((r : Path) × (entry_at names r ≡ Some (File i))) ⊎ ((r : Path) × (MadeFile p j ≡ MadeFile r i))
    old (inl (is, same)) = inr (p, ap (MadeFile p) (same_inode j i same))
    old (inr (ne, there)) = inl (q, there)
named_before (Moved from to) names q i h = old (where_file (named names from None) to (entry_at names from) q i h)
  where
    older : ((q ≡ from) × (None ≡ Some (File i))) ⊎ ((q ≢ from) × (entry_at names q ≡ Some (File i))) → ((r : Path) × (entry_at names r ≡ Some (File i))) ⊎ ((r : Path) × (Moved from to ≡ MadeFile r i))
    older (inl (is, never)) = absurd (not_file i never)
    older (inr (ne, there)) = inl (q, there)

    old : ((q ≡ to) × (entry_at names from ≡ Some (File i))) ⊎ ((q ≢ to) × (entry_at (named names from None) q ≡ Some (File i))) → ((r : Path) × (entry_at names r ≡ Some (File i))) ⊎ ((r : Path) × (Moved from to ≡ MadeFile r i))
    old (inl (is, there)) = inl (from, there)
    old (inr (ne, there)) = older (where_file names from None q i there)
named_before (Dropped p) names q i h = old (where_file names p None q i h)
  where
    old : ((q ≡ p) × (None ≡ Some (File i))) ⊎ ((q ≢ p) × (entry_at names q ≡ Some (File i))) → ((r : Path) × (entry_at names r ≡ Some (File i))) ⊎ ((r : Path) × (Dropped p ≡ MadeFile r i))
    old (inl (is, never)) = absurd (not_file i never)
    old (inr (ne, there)) = inl (q, there)

-- ---- folders after a step

-- a folder isn't where there was a file, or nothing
pub folder_apart : (names : Names) (q p : Path) → HasFolder names q → (entry_at names p ≡ None) ⊎ HasFile names p → q ≢ p
folder_apart names q p is (inl none) e = let h : Some Folder ≡ None = sym is ∙ ap (entry_at names) e ∙ none in cc
folder_apart names q p is (inr f) e = let h : Some Folder ≡ Some (File f.0) = sym is ∙ ap (entry_at names) e ∙ f.1 in cc

kept_folder : (names : Names) (p : Path) (entry : Option Entry) (q : Path) → HasFolder names q → q ≢ p → HasFolder (named names p entry) q
kept_folder names p entry q is ne = named_there names p entry q ne ∙ is

pub made_keeps : (names : Names) (p : Path) (entry : Option Entry) → entry_at names p ≡ None → (q : Path) → HasFolder names q → HasFolder (named names p entry) q
made_keeps names p entry free q is = kept_folder names p entry q is (folder_apart names q p is (inl free))

pub moved_keeps : (names : Names) (from to : Path) → CanMoveTo names from to → (q : Path) → HasFolder names q → HasFolder (after_step (Moved from to) names) q
moved_keeps names from to can q is =
    kept_folder (named names from None) to (entry_at names from) q
    (kept_folder names from None q is (folder_apart names q from is (inr can.there)))
    (folder_apart names q to is can.free)

short : (path : Path) → parent path ≡ path → path ≡ []
short [] e = refl
short (part ∷ more) e = let h : length (take (length (part ∷ more) - 1) (part ∷ more)) ≡ length (part ∷ more) = ap length e in absurd (omega (arith, h, length-take (length (part ∷ more) - 1) (part ∷ more)))

-- the folder above what goes
pub above_stays : (names : Names) (p : Path) → HasFolder names (parent p) → HasFile names p ⊎ IsEmptyFolder names p → HasFolder (after_step (Dropped p) names) (parent p)
above_stays names p above (inl f) = kept_folder names p None (parent p) above (folder_apart names (parent p) p above (inr f))
above_stays names p above (inr folder) = kept_folder names p None (parent p) above (λ e. folder.below (short p e))

-- what is to be flushed in place of a folder that goes
pub dropped_keeps : (names : Names) (p : Path) → HasFolder names (parent p) → HasFile names p ⊎ IsEmptyFolder names p → (q : Path) → HasFolder names q → HasFolder (after_step (Dropped p) names) (instead p q)
dropped_keeps names p above can q is = one (eq_by_cmp path_cmp q p) refl
  where
    one : (b : Bool) → eq_by_cmp path_cmp q p ≡ b → HasFolder (after_step (Dropped p) names) (cond b (parent p) q)
    one true same = above_stays names p above can
    one false other = kept_folder names p None q is (λ e. let h : true ≡ false = sym ((path_decides q p).1 e) ∙ other in cc)

-- the folder of what is there is there
pub above_is : (v : Volume) (p : Path) (entry : Entry) → IsTree (disk_of v) → entry_at v.names p ≡ Some entry → HasFolder v.names (parent p)
above_is v p entry tree is = folder_from v (parent p) (tree.parents p (subst IsSome (sym (node_in v p ∙ ap (option_map (node_of v.contents)) is)) refl))

-- ---- steps

there_more : (step : NameStep) (names : Names) (naming : List Pending) → ((q : Path) → HasFolder names q → HasFolder (after_step step names) q)
    → AllByRecursion (HasFolder names) (folders_of step) → AreThere names naming → AllByRecursion (HasFolder (after_step step names)) (folders_of step) × AreThere (after_step step names) naming
there_more step names naming keeps new old = (
  all_then (HasFolder names) (HasFolder (after_step step names)) keeps (folders_of step) new,
  all_then (λ (pending : Pending). AllByRecursion (HasFolder names) pending.to_flush) (λ (pending : Pending). AllByRecursion (HasFolder (after_step step names)) pending.to_flush)
      (λ pending all. all_then (HasFolder names) (HasFolder (after_step step names)) keeps pending.to_flush all) naming old,
)

-- the folders to flush after a step
there_after : (step : NameStep) (v : Volume) (naming : List Pending) → IsTree (disk_of v) → Fits step v.names → AreThere v.names naming → AreThere (after_step step v.names) (begun step ∷ before_step step naming)
there_after (MadeFolder p) v naming tree can old = there_more (MadeFolder p) v.names naming (made_keeps v.names p (Some Folder) can.free) (can.inside, tt) old
there_after (MadeFile p i) v naming tree can old = there_more (MadeFile p i) v.names naming (made_keeps v.names p (Some (File i)) can.free) (can.inside, tt) old
there_after (Moved from to) v naming tree can old =
    there_more (Moved from to) v.names naming (moved_keeps v.names from to can) (can.inside, (above_is v from (File can.there.0) tree can.there.1, tt)) old
there_after (Dropped p) v naming tree can old = (
  (above_stays v.names p above can, tt),
  all_mapped (λ (pending : Pending). AllByRecursion (HasFolder v.names) pending.to_flush) (λ (pending : Pending). AllByRecursion (HasFolder (after_step (Dropped p) v.names)) pending.to_flush)
      (without_folder p) (λ pending all. all_mapped (HasFolder v.names) (HasFolder (after_step (Dropped p) v.names)) (instead p) (dropped_keeps v.names p above can) pending.to_flush all) naming old,
)
  where
    there : HasFile v.names p ⊎ IsEmptyFolder v.names p → HasFolder v.names (parent p)
    there (inl f) = above_is v p (File f.0) tree f.1
    there (inr folder) = above_is v p Folder tree folder.there

    above : HasFolder v.names (parent p)
    above = there can

pub now_after : (step : NameStep) (story : Story) → names_now (takes step story) ≡ after_step step (names_now story)
now_after step story = ap (after_step step) (names_before story.base step story.naming)

apart_after : (step : NameStep) (names : Names) → AreApart names → ((p q : Path) (i : Inode) → step ≡ MadeFile p i → entry_at names q ≢ Some (File i)) → AreApart (after_step step names)
apart_after (MadeFolder p) names apart new = apart_named names p (Some Folder) apart (λ q i h there. absurd (no_file i h))
apart_after (MadeFile p j) names apart new = apart_named names p (Some (File j)) apart (λ q i h there. absurd (new p q i (ap (MadeFile p) (same_inode j i h)) there))
apart_after (Moved from to) names apart new = apart_moved names from to apart
apart_after (Dropped p) names apart new = apart_named names p None apart (λ q i h there. absurd (not_file i h))

-- a story with a step more, if each file that it makes is new and known to these
stepped : (step : NameStep) (story : Story) (files : Files) → IsSoundStory story → IsTree (disk_now story) → Fits step (names_now story)
    → ((p q : Path) (i : Inode) → step ≡ MadeFile p i → entry_at (names_now story) q ≢ Some (File i))
    → ((i : Inode) (filed : Filed) → map.get files i ≡ Some filed → AreWithin filed.lasting filed.steps)
    → ((p : Path) (i : Inode) → entry_at (after_step step (names_now story)) p ≡ Some (File i) → (filed : Filed) × (map.get files i ≡ Some filed))
    → IsSoundStory (record { base = story.base; naming = begun step ∷ before_step step story.naming; files = files; doubt = story.doubt; diary = story.diary; unnoted = true })
stepped step story files sound tree fits new within known =
    let is = now_after step story in
    record {
      fitting = fitting_more story.base step story.naming sound.fitting fits;
      within = within;
      folders = subst (λ (names : Names). AreThere names (begun step ∷ before_step step story.naming)) (sym is) (there_after step (volume_now story) story.naming tree fits sound.folders);
      apart = subst AreApart (sym is) (apart_after step (names_now story) sound.apart new);
      known = subst (λ (names : Names). AreKnown names files) (sym is) known;
    }

-- a step that makes no file
pub sound_taken : (step : NameStep) (story : Story) → ((p : Path) (i : Inode) → step ≢ MadeFile p i) → IsSoundStory story → IsTree (disk_now story) → Fits step (names_now story) → IsSoundStory (takes step story)
sound_taken step story old sound tree fits =
    stepped step story story.files sound tree fits (λ p q i e. absurd (old p i e)) sound.within (λ q i h. known q i (named_before step (names_now story) q i h))
  where
    known : (q : Path) (i : Inode) → ((p : Path) × (entry_at (names_now story) p ≡ Some (File i))) ⊎ ((p : Path) × (step ≡ MadeFile p i)) → (filed : Filed) × (map.get story.files i ≡ Some filed)
    known q i (inl (p, there)) = sound.known p i there
    known q i (inr (p, made)) = absurd (old p i made)

-- ---- bytes

within_written : (files : Files) (inode : Inode) (new : Filed) → ((i : Inode) (filed : Filed) → map.get files i ≡ Some filed → AreWithin filed.lasting filed.steps) → AreWithin new.lasting new.steps
    → (i : Inode) (filed : Filed) → map.get (map.insert files inode new) i ≡ Some filed → AreWithin filed.lasting filed.steps
within_written files inode new all here i filed is = by_inode i inode
    (λ e. same (sym (ap (map.get (map.insert files inode new)) e ∙ filed_here files inode new) ∙ is))
    (λ ne. all i filed (sym (filed_there files inode new i ne) ∙ is))
  where
    same : Some new ≡ Some filed → AreWithin filed.lasting filed.steps
    same e = let h : new ≡ filed = cc in subst (λ (f : Filed). AreWithin f.lasting f.steps) h here

-- each file stays known
known_written : (files : Files) (inode : Inode) (new : Filed) (i : Inode) → (filed : Filed) × (map.get files i ≡ Some filed) → (filed : Filed) × (map.get (map.insert files inode new) i ≡ Some filed)
known_written files inode new i old = by_inode i inode
    (λ e. (new, ap (map.get (map.insert files inode new)) e ∙ filed_here files inode new))
    (λ ne. (old.0, filed_there files inode new i ne ∙ old.1))

pub sound_written : (inode : Inode) (steps : List FileStep) (filed : Filed) (story : Story) → IsSoundStory story → map.get story.files inode ≡ Some filed → AreWithin (bytes_of filed) steps → IsSoundStory (writes inode steps story)
sound_written inode steps filed story sound known within = record {
  fitting = sound.fitting;
  within = within_written story.files inode (filed_after steps (map.get story.files inode)) sound.within
      (subst (λ (o : Option Filed). AreWithin (filed_after steps o).lasting (filed_after steps o).steps) (sym known) (within_more filed.lasting steps filed.steps (sound.within inode filed known) within));
  folders = sound.folders;
  apart = sound.apart;
  known = λ p i is. known_written story.files inode (filed_after steps (map.get story.files inode)) i (sound.known p i is);
}

pub sound_created : (path : Path) (inode : Inode) (steps : List FileStep) (story : Story) → IsSoundStory story → IsTree (disk_now story) → CanMake (names_now story) path → IsNew story inode → AreWithin [] steps → IsSoundStory (creates path inode steps story)
sound_created path inode steps story sound tree can new within =
    let filed = filed_after steps (map.get story.files inode) in
    stepped (MadeFile path inode) story (map.insert story.files inode filed) sound tree can
    (λ p q i e there. new.unnamed q (there ∙ ap (λ (j : Inode). Some (File j)) (sym (made_same path p inode i e))))
    (within_written story.files inode filed sound.within (subst (λ (o : Option Filed). AreWithin (filed_after steps o).lasting (filed_after steps o).steps) (sym new.unknown) within))
    (λ q i h. known i (named_before (MadeFile path inode) (names_now story) q i h))
  where
    made_same : (a b : Path) (i j : Inode) → MadeFile a i ≡ MadeFile b j → i ≡ j
    made_same a b i j e = cc

    known : (i : Inode) → ((p : Path) × (entry_at (names_now story) p ≡ Some (File i))) ⊎ ((p : Path) × (MadeFile path inode ≡ MadeFile p i))
        → (filed : Filed) × (map.get (map.insert story.files inode (filed_after steps (map.get story.files inode))) i ≡ Some filed)
    known i (inl (p, there)) = known_written story.files inode (filed_after steps (map.get story.files inode)) i (sound.known p i there)
    known i (inr (p, made)) = (
      filed_after steps (map.get story.files inode),
      ap (map.get (map.insert story.files inode (filed_after steps (map.get story.files inode)))) (sym (made_same path p inode i made)) ∙ filed_here story.files inode (filed_after steps (map.get story.files inode)),
    )

-- ---- flushes

pub sound_flushed_folder : (path : Path) (story : Story) → IsSoundStory story → IsSoundStory (flushes_folder path story)
sound_flushed_folder path story sound =
    let is : names_now (flushes_folder path story) ≡ names_now story = same_names story.base (without path) story.naming in
    record {
      fitting = still_fitting story.base (without path) story.naming sound.fitting;
      within = sound.within;
      folders = subst (λ (names : Names). AreThere names (each_of (flushed path) story.naming)) (sym is)
          (all_mapped (λ (pending : Pending). AllByRecursion (HasFolder (names_now story)) pending.to_flush) (λ (pending : Pending). AllByRecursion (HasFolder (names_now story)) pending.to_flush)
          (flushed path) (λ pending all. all_without (HasFolder (names_now story)) (HasFolder (names_now story)) path (λ q ne there. there) pending.to_flush all) story.naming sound.folders);
      apart = subst AreApart (sym is) sound.apart;
      known = subst (λ (names : Names). AreKnown names story.files) (sym is) sound.known;
    }

pub sound_flushed_file : (inode : Inode) (story : Story) → IsSoundStory story → IsSoundStory (flushes_file inode story)
sound_flushed_file inode story sound = record {
  fitting = sound.fitting;
  within = within_written story.files inode (settled_file (map.get story.files inode)) sound.within (settled (map.get story.files inode));
  folders = sound.folders;
  apart = sound.apart;
  known = λ p i is. known_written story.files inode (settled_file (map.get story.files inode)) i (sound.known p i is);
}
  where
    settled : (o : Option Filed) → AreWithin (settled_file o).lasting (settled_file o).steps
    settled None = tt
    settled (Some filed) = tt
