-- What isn't on the disk yet, from call to call.
use Rattle.std.proofs.Common.{◌≡◌, ◌≢◌, ◌⊎◌, ◌<◌, ℕ, zero, suc, Bool, true, false, cond, List, [], ◌∷◌, ◌++◌, length, slice_index_or, Option, Some, None, Contains, map as each_of, refl, sym, ap, subst, ◌∙◌, inl, inr, arith}
use Rattle.std.specs.List.{AllByRecursion}
use Rattle.std.specs.Ordering.{eq_by_cmp}
use Rattle.std.specs.FinMap as map
use Rattle.outside.specs.Disk.{Path, path_cmp, parent}
use Rattle.outside.proofs.Paths.{by_path}
use Rattle.host_calls.specs.declared.found.Inode.{Inode}
use Rattle.host_calls.specs.Volume.{Names, Entry, Folder, File, entry_at}
use Rattle.host_calls.specs.Names.{NameStep, MadeFolder, MadeFile, Moved, Dropped, HasFolder, named, after_step, folders_of, Pending, before_step, instead, without, flushed, without_folder}
use Rattle.host_calls.specs.Bytes.{Filed, FileStep}
use Rattle.host_calls.specs.Story.{Story, IsNew, IsSoundStory, IsLooseAt, names_now, takes, writes, creates, filed_after, flushes_entry, flushes_folder, flushes_file, settled_file}
use Rattle.host_calls.proofs.Volumes.{by_inode, filed_here, filed_there}
use Rattle.host_calls.proofs.Steps.{same_names}
use Rattle.host_calls.proofs.Sound.{all_then, all_mapped, all_without, where_file, not_file, no_file, now_after}

-- ---- lists

-- the first of a list, or one of the rest
pub first_or_rest : {X : Type 0} (x : X) (xs : List X) (y : X) → Contains (x ∷ xs) y → (y ≡ x) ⊎ Contains xs y
first_or_rest x xs y (zero, within, is) = inl (sym is)
first_or_rest x xs y (suc k, within, is) = inr (k, omega arith, is)

pub is_first : {X : Type 0} (x : X) (xs : List X) → Contains (x ∷ xs) x
is_first x xs = (0, omega arith, refl)

pub is_later : {X : Type 0} (x : X) (xs : List X) (y : X) → Contains xs y → Contains (x ∷ xs) y
is_later x xs y (k, within, is) = (suc k, omega arith, is)

all_both : {X : Type 0} (P Q R : X → Type 0) → ((x : X) → P x → Q x → R x) → (xs : List X) → AllByRecursion P xs → AllByRecursion Q xs → AllByRecursion R xs
all_both P Q R f [] ps qs = tt
all_both P Q R f (x ∷ xs) ps qs = (f x ps.0 qs.0, all_both P Q R f xs ps.1 qs.1)

-- ---- more paths

pub loose_more : (story : Story) (paths others : List Path) → ((q : Path) → Contains paths q → Contains others q) → IsLooseAt story paths → IsLooseAt story others
loose_more story paths others more loose = record {
  names = all_then (λ (pending : Pending). AllByRecursion (Contains paths) pending.to_flush) (λ (pending : Pending). AllByRecursion (Contains others) pending.to_flush)
      (λ pending all. all_then (Contains paths) (Contains others) more pending.to_flush all) story.naming loose.names;
  bytes = λ p i filed is known. either p filed (loose.bytes p i filed is known);
}
  where
    either : (p : Path) (filed : Filed) → (filed.steps ≡ []) ⊎ Contains paths p → (filed.steps ≡ []) ⊎ Contains others p
    either p filed (inl none) = inl none
    either p filed (inr there) = inr (more p there)

-- ---- a step more

-- the name that a step gives to a file
abbrev pub given_by : NameStep → List Path
given_by (MadeFolder path) = []
given_by (MadeFile path inode) = path ∷ []
given_by (Moved from to) = to ∷ []
given_by (Dropped path) = []

-- a file's name after a step is that of before, or the one that the step gave
pub stayed : (step : NameStep) (names : Names) (q : Path) (i : Inode) → entry_at (after_step step names) q ≡ Some (File i) → (entry_at names q ≡ Some (File i)) ⊎ Contains (given_by step) q
stayed (MadeFolder p) names q i h = old (where_file names p (Some Folder) q i h)
  where
    old : ((q ≡ p) × (Some Folder ≡ Some (File i))) ⊎ ((q ≢ p) × (entry_at names q ≡ Some (File i))) → (entry_at names q ≡ Some (File i)) ⊎ Contains [] q
    old (inl (is, never)) = absurd (no_file i never)
    old (inr (ne, there)) = inl there
stayed (MadeFile p j) names q i h = old (where_file names p (Some (File j)) q i h)
  where
    old : ((q ≡ p) × (Some (File j) ≡ Some (File i))) ⊎ ((q ≢ p) × (entry_at names q ≡ Some (File i))) → (entry_at names q ≡ Some (File i)) ⊎ Contains (p ∷ []) q
    old (inl (is, same)) = inr (subst (Contains (p ∷ [])) (sym is) (is_first p []))
    old (inr (ne, there)) = inl there
stayed (Moved from to) names q i h = old (where_file (named names from None) to (entry_at names from) q i h)
  where
    older : ((q ≡ from) × (None ≡ Some (File i))) ⊎ ((q ≢ from) × (entry_at names q ≡ Some (File i))) → (entry_at names q ≡ Some (File i)) ⊎ Contains (to ∷ []) q
    older (inl (is, never)) = absurd (not_file i never)
    older (inr (ne, there)) = inl there

    old : ((q ≡ to) × (entry_at names from ≡ Some (File i))) ⊎ ((q ≢ to) × (entry_at (named names from None) q ≡ Some (File i))) → (entry_at names q ≡ Some (File i)) ⊎ Contains (to ∷ []) q
    old (inl (is, there)) = inr (subst (Contains (to ∷ [])) (sym is) (is_first to []))
    old (inr (ne, there)) = older (where_file names from None q i there)
stayed (Dropped p) names q i h = old (where_file names p None q i h)
  where
    old : ((q ≡ p) × (None ≡ Some (File i))) ⊎ ((q ≢ p) × (entry_at names q ≡ Some (File i))) → (entry_at names q ≡ Some (File i)) ⊎ Contains [] q
    old (inl (is, never)) = absurd (not_file i never)
    old (inr (ne, there)) = inl there

loose_before : (step : NameStep) (paths : List Path) (naming : List Pending) → AllByRecursion (Contains paths) (folders_of step)
    → AllByRecursion (λ (pending : Pending). AllByRecursion (Contains paths) pending.to_flush) naming → AllByRecursion (λ (pending : Pending). AllByRecursion (Contains paths) pending.to_flush) (before_step step naming)
loose_before (MadeFolder p) paths naming folders all = all
loose_before (MadeFile p i) paths naming folders all = all
loose_before (Moved from to) paths naming folders all = all
loose_before (Dropped p) paths naming folders all =
    all_mapped (λ (pending : Pending). AllByRecursion (Contains paths) pending.to_flush) (λ (pending : Pending). AllByRecursion (Contains paths) pending.to_flush) (without_folder p)
    (λ pending each. all_mapped (Contains paths) (Contains paths) (instead p) one pending.to_flush each) naming all
  where
    pick : (q : Path) (b : Bool) → Contains paths q → Contains paths (cond b (parent p) q)
    pick q true there = folders.0
    pick q false there = there

    one : (q : Path) → Contains paths q → Contains paths (instead p q)
    one q there = pick q (eq_by_cmp path_cmp q p) there

given_there : (paths given : List Path) (q : Path) → AllByRecursion (Contains paths) given → Contains given q → Contains paths q
given_there paths [] q all h = absurd (omega (arith, h.1))
given_there paths (one ∷ more) q all h = either (first_or_rest one more q h) (given_there paths more q all.1)
  where
    either : (q ≡ one) ⊎ Contains more q → (Contains more q → Contains paths q) → Contains paths q
    either (inl is) rest = subst (Contains paths) (sym is) all.0
    either (inr later) rest = rest later

pub loose_taken : (step : NameStep) (story : Story) (paths : List Path) → AllByRecursion (Contains paths) (folders_of step) → AllByRecursion (Contains paths) (given_by step) → IsLooseAt story paths → IsLooseAt (takes step story) paths
loose_taken step story paths folders given loose = record {
  names = (folders, loose_before step paths story.naming folders loose.names);
  bytes = λ q i filed is known. either q i filed known (stayed step (names_now story) q i (subst (λ (names : Names). entry_at names q ≡ Some (File i)) (now_after step story) is));
}
  where
    either : (q : Path) (i : Inode) (filed : Filed) → map.get story.files i ≡ Some filed → (entry_at (names_now story) q ≡ Some (File i)) ⊎ Contains (given_by step) q → (filed.steps ≡ []) ⊎ Contains paths q
    either q i filed known (inl there) = loose.bytes q i filed there known
    either q i filed known (inr named) = inr (given_there paths (given_by step) q given named)

-- ---- bytes more

pub loose_written : (path : Path) (inode : Inode) (steps : List FileStep) (story : Story) (paths : List Path) → IsSoundStory story → entry_at (names_now story) path ≡ Some (File inode) → Contains paths path
    → IsLooseAt story paths → IsLooseAt (writes inode steps story) paths
loose_written path inode steps story paths sound at has loose = record {
  names = loose.names;
  bytes = λ q i filed is known. by_inode i inode
      (λ e. inr (subst (Contains paths) (sound.apart path q i (at ∙ ap (λ (j : Inode). Some (File j)) (sym e)) is) has))
      (λ ne. loose.bytes q i filed is (sym (filed_there story.files inode (filed_after steps (map.get story.files inode)) i ne) ∙ known));
}

pub loose_created : (path : Path) (inode : Inode) (steps : List FileStep) (story : Story) (paths : List Path) → IsNew story inode → Contains paths path → Contains paths (parent path)
    → IsLooseAt story paths → IsLooseAt (creates path inode steps story) paths
loose_created path inode steps story paths new here above loose = record {
  names = ((above, tt), loose.names);
  bytes = λ q i filed is known. either q i filed known (stayed (MadeFile path inode) (names_now story) q i is);
}
  where
    either : (q : Path) (i : Inode) (filed : Filed) → map.get (map.insert story.files inode (filed_after steps (map.get story.files inode))) i ≡ Some filed
        → (entry_at (names_now story) q ≡ Some (File i)) ⊎ Contains (path ∷ []) q → (filed.steps ≡ []) ⊎ Contains paths q
    either q i filed known (inl there) =
        loose.bytes q i filed there (sym (filed_there story.files inode (filed_after steps (map.get story.files inode)) i (λ e. new.unnamed q (there ∙ ap (λ (j : Inode). Some (File j)) e))) ∙ known)
    either q i filed known (inr named) = inr (given_there paths (path ∷ []) q (here, tt) named)

-- ---- flushes: what is at the first of these paths comes to the disk

other_than : (path : Path) (rest : List Path) (q : Path) → q ≢ path → Contains (path ∷ rest) q → Contains rest q
other_than path rest q ne h = either (first_or_rest path rest q h)
  where
    either : (q ≡ path) ⊎ Contains rest q → Contains rest q
    either (inl is) = absurd (ne is)
    either (inr later) = later

-- a file that isn't at the path
bytes_later : (path : Path) (rest : List Path) (q : Path) (filed : Filed) → q ≢ path → (filed.steps ≡ []) ⊎ Contains (path ∷ rest) q → (filed.steps ≡ []) ⊎ Contains rest q
bytes_later path rest q filed ne (inl none) = inl none
bytes_later path rest q filed ne (inr there) = inr (other_than path rest q ne there)

loose_folder : (path : Path) (rest : List Path) (story : Story) → entry_at (names_now story) path ≡ Some Folder → IsLooseAt story (path ∷ rest) → IsLooseAt (flushes_folder path story) rest
loose_folder path rest story folder loose = record {
  names = all_mapped (λ (pending : Pending). AllByRecursion (Contains (path ∷ rest)) pending.to_flush) (λ (pending : Pending). AllByRecursion (Contains rest) pending.to_flush) (flushed path)
      (λ pending all. all_without (Contains (path ∷ rest)) (Contains rest) path (λ q ne there. other_than path rest q ne there) pending.to_flush all) story.naming loose.names;
  bytes = λ q i filed is known.
      let there = subst (λ (names : Names). entry_at names q ≡ Some (File i)) (same_names story.base (without path) story.naming) is in
      bytes_later path rest q filed (λ e. no_file i (sym folder ∙ ap (entry_at (names_now story)) (sym e) ∙ there)) (loose.bytes q i filed there known);
}

-- a path that is no folder isn't among those whose entries are to be flushed
names_later : (path : Path) (rest : List Path) (story : Story) → IsSoundStory story → (HasFolder (names_now story) path → ⊥) → IsLooseAt story (path ∷ rest)
    → AllByRecursion (λ (pending : Pending). AllByRecursion (Contains rest) pending.to_flush) story.naming
names_later path rest story sound no_folder loose =
    all_both (λ (pending : Pending). AllByRecursion (HasFolder (names_now story)) pending.to_flush) (λ (pending : Pending). AllByRecursion (Contains (path ∷ rest)) pending.to_flush) (λ (pending : Pending). AllByRecursion (Contains rest) pending.to_flush)
    (λ pending folders all. all_both (HasFolder (names_now story)) (Contains (path ∷ rest)) (Contains rest)
    (λ q folder there. other_than path rest q (λ e. no_folder (subst (HasFolder (names_now story)) e folder)) there) pending.to_flush folders all)
    story.naming sound.folders loose.names

loose_file : (path : Path) (rest : List Path) (inode : Inode) (story : Story) → IsSoundStory story → entry_at (names_now story) path ≡ Some (File inode) → IsLooseAt story (path ∷ rest) → IsLooseAt (flushes_file inode story) rest
loose_file path rest inode story sound at loose = record {
  names = names_later path rest story sound (λ folder. no_file inode (sym folder ∙ at)) loose;
  bytes = λ q i filed is known. by_inode i inode
      (λ e. inl (settled filed (sym (ap (map.get (map.insert story.files inode (settled_file (map.get story.files inode)))) e ∙ filed_here story.files inode (settled_file (map.get story.files inode))) ∙ known)))
      (λ ne. bytes_later path rest q filed (λ e. ne (same i (sym is ∙ ap (entry_at (names_now story)) e ∙ at)))
      (loose.bytes q i filed is (sym (filed_there story.files inode (settled_file (map.get story.files inode)) i ne) ∙ known)));
}
  where
    same : (i : Inode) → Some (File i) ≡ Some (File inode) → i ≡ inode
    same i h = cc

    none_left : (o : Option Filed) → (settled_file o).steps ≡ []
    none_left None = refl
    none_left (Some filed) = refl

    settled : (filed : Filed) → Some (settled_file (map.get story.files inode)) ≡ Some filed → filed.steps ≡ []
    settled filed h = let e : settled_file (map.get story.files inode) ≡ filed = cc in ap (λ (f : Filed). f.steps) (sym e) ∙ none_left (map.get story.files inode)

loose_none : (path : Path) (rest : List Path) (story : Story) → IsSoundStory story → entry_at (names_now story) path ≡ None → IsLooseAt story (path ∷ rest) → IsLooseAt story rest
loose_none path rest story sound none loose = record {
  names = names_later path rest story sound (λ folder. let h : None ≡ Some Folder = sym none ∙ folder in cc) loose;
  bytes = λ q i filed is known. bytes_later path rest q filed (λ e. not_file i (sym none ∙ ap (entry_at (names_now story)) (sym e) ∙ is)) (loose.bytes q i filed is known);
}

pub loose_flushed : (path : Path) (rest : List Path) (entry : Option Entry) (story : Story) → IsSoundStory story → entry_at (names_now story) path ≡ entry → IsLooseAt story (path ∷ rest) → IsLooseAt (flushes_entry path entry story) rest
loose_flushed path rest None story sound at loose = loose_none path rest story sound at loose
loose_flushed path rest (Some Folder) story sound at loose = loose_folder path rest story at loose
loose_flushed path rest (Some (File inode)) story sound at loose = loose_file path rest inode story sound at loose
