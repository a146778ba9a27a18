-- What is left of a story with one step more, and of one whose steps all last.
use Rattle.std.proofs.Common.{◌≡◌, ◌≢◌, ◌⊎◌, ◌<◌, ℕ, List, [], ◌∷◌, ◌++◌, Option, Some, None, option_map, unwrap_or, Contains, refl, sym, ap, subst, ◌∙◌, inl, inr, arith}
use Rattle.std.specs.List.{AllByRecursion}
use Rattle.std.specs.FinMap as map
use Rattle.outside.specs.Disk.{Disk, Path}
use Rattle.host_calls.specs.declared.found.Inode.{Inode}
use Rattle.host_calls.specs.Volume.{Names, Contents, Volume, Entry, File, entry_at, bytes_in, inode_cmp, each_value, disk_of}
use Rattle.host_calls.specs.Names.{NameStep, MadeFile, Pending, Fits, after_step, begun, IsTaken, without}
use Rattle.host_calls.specs.Bytes.{Filed, FileStep, MayHold, AreWithin}
use Rattle.host_calls.specs.Story.{Story, Files, IsLeft, MayBe, IsNew, IsSoundStory, IsLooseAt, names_now, volume_now, disk_now, bytes_of, bytes_now, takes, writes, creates, filed_after, flushes_folder, flushes_file, settled_file}
use Rattle.host_calls.proofs.Volumes.{inodes_total, inodes_apart, by_inode, filed_here, filed_there, gone_here, gone_there, get_each, unseen}
use Rattle.host_calls.proofs.Steps.{left_before, left_too, all_taken}
use Rattle.host_calls.proofs.Written.{hold_back, hold_whole}

-- ---- a name more

pub record IsStepBack (step : NameStep) (story : Story) (v : Volume) : Type 0 where
  pub before : Names
  pub left : IsLeft story (record { names = before; contents = v.contents })
  pub either : (Fits step before × (v.names ≡ after_step step before)) ⊎ (v.names ≡ before)

step_or_not : (step : NameStep) (before names : Names) → IsTaken (begun step) before names → (Fits step before × (names ≡ after_step step before)) ⊎ (names ≡ before)
step_or_not step before names (inl is) = inl is
step_or_not step before names (inr (same, unless)) = inr same

pub step_back : (step : NameStep) (story : Story) (v : Volume) → IsLeft (takes step story) v → IsStepBack step story v
step_back step story v left = record {
  before = left.names.0;
  left = record { names = left_before story.base step story.naming left.names.0 left.names.1; bytes = left.bytes };
  either = step_or_not step left.names.0 v.names left.names.2;
}

-- ---- bytes more

-- the same contents but for one file, whose bytes were others
contents_again : (c : Contents) (i : Inode) (before held : List ℕ) → map.get c i ≡ Some held → c ≡ map.insert (map.insert c i before) i held
contents_again c i before held is = map.same_map inodes_total inodes_apart c (map.insert (map.insert c i before) i held) (λ j. by_inode j i
    (λ e. ap (map.get c) e ∙ is ∙ sym (ap (map.get (map.insert (map.insert c i before) i held)) e ∙ filed_here (map.insert c i before) i held))
    (λ ne. sym (filed_there (map.insert c i before) i held j ne ∙ filed_there c i before j ne)))

-- where one file of the story and of the volume is exchanged
exchanged : (files : Files) (c : Contents) (i : Inode) (filed other : Filed) (bytes : List ℕ) → map.get files i ≡ Some filed
    → ((j : Inode) → MayBe (map.get (map.insert files i other) j) (map.get c j)) → MayHold filed.lasting filed.steps bytes
    → (j : Inode) → MayBe (map.get files j) (map.get (map.insert c i bytes) j)
exchanged files c i filed other bytes known all holds j = by_inode j i
    (λ e. subst (λ (k : Inode). MayBe (map.get files k) (map.get (map.insert c i bytes) k)) (sym e)
    (subst (λ (o : Option Filed). MayBe o (map.get (map.insert c i bytes) i)) (sym known)
    (subst (λ (o : Option (List ℕ)). MayBe (Some filed) o) (sym (filed_here c i bytes)) holds)))
    (λ ne. subst (λ (o : Option Filed). MayBe o (map.get (map.insert c i bytes) j)) (filed_there files i other j ne)
    (subst (λ (o : Option (List ℕ)). MayBe (map.get (map.insert files i other) j) o) (sym (filed_there c i bytes j ne)) (all j)))

pub record IsWriteBack (inode : Inode) (steps : List FileStep) (story : Story) (v : Volume) : Type 0 where
  pub before : List ℕ
  pub held : List ℕ
  pub left : IsLeft story (record { names = v.names; contents = map.insert v.contents inode before })
  pub holds : MayHold before steps held
  pub is : v.contents ≡ map.insert (map.insert v.contents inode before) inode held

held_back : (inode : Inode) (steps : List FileStep) (story : Story) (filed : Filed) (v : Volume) (o : Option (List ℕ)) → map.get story.files inode ≡ Some filed
    → IsLeft (writes inode steps story) v → map.get v.contents inode ≡ o → MayBe (Some (filed_after steps (Some filed))) o → IsWriteBack inode steps story v
held_back inode steps story filed v None known left is may = absurd may
held_back inode steps story filed v (Some held) known left is may =
    let b = hold_back filed.lasting steps filed.steps held may in
    record {
      before = b.0;
      held = held;
      left = record {
        names = left.names;
        bytes = exchanged story.files v.contents inode filed (filed_after steps (map.get story.files inode)) b.0 known left.bytes b.1;
      };
      holds = b.2;
      is = contents_again v.contents inode b.0 held is;
    }

pub write_back : (inode : Inode) (steps : List FileStep) (story : Story) (filed : Filed) (v : Volume) → map.get story.files inode ≡ Some filed → IsLeft (writes inode steps story) v → IsWriteBack inode steps story v
write_back inode steps story filed v known left =
    let here : map.get (map.insert story.files inode (filed_after steps (map.get story.files inode))) inode ≡ Some (filed_after steps (Some filed)) =
    filed_here story.files inode (filed_after steps (map.get story.files inode)) ∙ ap (λ (o : Option Filed). Some (filed_after steps o)) known in
    held_back inode steps story filed v (map.get v.contents inode) known left refl
    (subst (λ (o : Option Filed). MayBe o (map.get v.contents inode)) here (left.bytes inode))

-- ---- a new file

pub record IsCreateBack (path : Path) (inode : Inode) (steps : List FileStep) (story : Story) (v : Volume) : Type 0 where
  pub before : Names
  pub held : List ℕ
  pub left : IsLeft story (record { names = before; contents = map.remove v.contents inode })
  pub holds : MayHold [] steps held
  pub there : map.get v.contents inode ≡ Some held
  pub either : (Fits (MadeFile path inode) before × (v.names ≡ after_step (MadeFile path inode) before)) ⊎ (v.names ≡ before)

removed : (files : Files) (c : Contents) (i : Inode) (other : Filed) → map.get files i ≡ None
    → ((j : Inode) → MayBe (map.get (map.insert files i other) j) (map.get c j))
    → (j : Inode) → MayBe (map.get files j) (map.get (map.remove c i) j)
removed files c i other unknown all j = by_inode j i
    (λ e. subst (λ (k : Inode). MayBe (map.get files k) (map.get (map.remove c i) k)) (sym e)
    (subst (λ (o : Option Filed). MayBe o (map.get (map.remove c i) i)) (sym unknown)
    (subst (λ (o : Option (List ℕ)). MayBe None o) (sym (gone_here c i)) tt)))
    (λ ne. subst (λ (o : Option Filed). MayBe o (map.get (map.remove c i) j)) (filed_there files i other j ne)
    (subst (λ (o : Option (List ℕ)). MayBe (map.get (map.insert files i other) j) o) (sym (gone_there c i j ne)) (all j)))

new_back : (path : Path) (inode : Inode) (steps : List FileStep) (story : Story) (v : Volume) (o : Option (List ℕ)) → map.get story.files inode ≡ None
    → IsLeft (creates path inode steps story) v → map.get v.contents inode ≡ o → MayBe (Some (filed_after steps None)) o → IsCreateBack path inode steps story v
new_back path inode steps story v None unknown left is may = absurd may
new_back path inode steps story v (Some held) unknown left is may = record {
  before = left.names.0;
  held = held;
  left = record {
    names = left.names.1;
    bytes = removed story.files v.contents inode (filed_after steps (map.get story.files inode)) unknown left.bytes;
  };
  holds = may;
  there = is;
  either = step_or_not (MadeFile path inode) left.names.0 v.names left.names.2;
}

pub create_back : (path : Path) (inode : Inode) (steps : List FileStep) (story : Story) (v : Volume) → map.get story.files inode ≡ None → IsLeft (creates path inode steps story) v → IsCreateBack path inode steps story v
create_back path inode steps story v unknown left =
    let here : map.get (map.insert story.files inode (filed_after steps (map.get story.files inode))) inode ≡ Some (filed_after steps None) =
    filed_here story.files inode (filed_after steps (map.get story.files inode)) ∙ ap (λ (o : Option Filed). Some (filed_after steps o)) unknown in
    new_back path inode steps story v (map.get v.contents inode) unknown left refl
    (subst (λ (o : Option Filed). MayBe o (map.get v.contents inode)) here (left.bytes inode))

-- ---- flushes: no other volume is left

pub folder_flush_back : (path : Path) (story : Story) (v : Volume) → IsLeft (flushes_folder path story) v → IsLeft story v
folder_flush_back path story v left = record { names = left_too story.base (without path) refl story.naming v.names left.names; bytes = left.bytes }

flushed_bytes : (story : Story) (inode : Inode) (filed : Filed) (c : Contents) → map.get story.files inode ≡ Some filed → AreWithin filed.lasting filed.steps
    → ((j : Inode) → MayBe (map.get (map.insert story.files inode (settled_file (map.get story.files inode))) j) (map.get c j)) → (j : Inode) → MayBe (map.get story.files j) (map.get c j)
flushed_bytes story inode filed c known within all j = by_inode j inode
    (λ e. subst (λ (k : Inode). MayBe (map.get story.files k) (map.get c k)) (sym e)
    (subst (λ (o : Option Filed). MayBe o (map.get c inode)) (sym known)
    (whole (map.get c inode) (subst (λ (o : Option Filed). MayBe o (map.get c inode))
    (filed_here story.files inode (settled_file (map.get story.files inode)) ∙ ap (λ (o : Option Filed). Some (settled_file o)) known) (all inode)))))
    (λ ne. subst (λ (o : Option Filed). MayBe o (map.get c j)) (filed_there story.files inode (settled_file (map.get story.files inode)) j ne) (all j))
  where
    whole : (o : Option (List ℕ)) → MayBe (Some (settled_file (Some filed))) o → MayBe (Some filed) o
    whole None may = absurd may
    whole (Some held) may = subst (MayHold filed.lasting filed.steps) (sym may) (hold_whole filed.lasting filed.steps within)

pub file_flush_back : (inode : Inode) (story : Story) (filed : Filed) (v : Volume) → map.get story.files inode ≡ Some filed → AreWithin filed.lasting filed.steps → IsLeft (flushes_file inode story) v → IsLeft story v
file_flush_back inode story filed v known within left = record { names = left.names; bytes = flushed_bytes story inode filed v.contents known within left.bytes }

-- ---- what reads give of a file

pub bytes_known : (story : Story) (inode : Inode) (filed : Filed) → map.get story.files inode ≡ Some filed → bytes_now story inode ≡ bytes_of filed
bytes_known story inode filed known =
    ap (λ (o : Option (List ℕ)). unwrap_or o []) (get_each inodes_total bytes_of story.files inode ∙ ap (option_map bytes_of) known)

-- ---- all steps last

pub in_nothing : {X : Type 0} (x : X) → Contains [] x → ⊥
in_nothing x h = absurd (omega (arith, h.1))

nothing_left : (paths : List Path) → AllByRecursion (Contains []) paths → paths ≡ []
nothing_left [] all = refl
nothing_left (path ∷ more) all = absurd (in_nothing path all.0)

none_to_flush : (naming : List Pending) → AllByRecursion (λ (pending : Pending). AllByRecursion (Contains []) pending.to_flush) naming → AllByRecursion (λ (pending : Pending). pending.to_flush ≡ []) naming
none_to_flush [] all = tt
none_to_flush (pending ∷ more) all = (nothing_left pending.to_flush all.0, none_to_flush more all.1)

pub settled_names : (story : Story) (v : Volume) → IsSoundStory story → IsLooseAt story [] → IsLeft story v → v.names ≡ names_now story
settled_names story v sound loose left = all_taken story.base story.naming v.names sound.fitting (none_to_flush story.naming loose.names) left.names

held_is : (filed : Filed) (o : Option (List ℕ)) → filed.steps ≡ [] → MayBe (Some filed) o → unwrap_or o [] ≡ bytes_of filed
held_is filed None none may = absurd may
held_is filed (Some held) none may =
    subst (λ (steps : List FileStep). MayHold filed.lasting steps held → held ≡ bytes_of (record { lasting = filed.lasting; steps = steps })) (sym none) (λ is. is) may

-- a power cut leaves what reads give
pub settled_disk : (story : Story) (v : Volume) → IsSoundStory story → IsLooseAt story [] → IsLeft story v → disk_of v ≡ disk_now story
settled_disk story v sound loose left =
    ap (λ (names : Names). disk_of (record { names = names; contents = v.contents })) (settled_names story v sound loose left)
    ∙ unseen (names_now story) v.contents (each_value bytes_of story.files) (λ p i is.
    let known = sound.known p i is in
    held_is known.0 (map.get v.contents i) (settled_file_steps (loose.bytes p i known.0 is known.1)) (subst (λ (o : Option Filed). MayBe o (map.get v.contents i)) known.1 (left.bytes i))
    ∙ sym (bytes_known story i known.0 known.1))
  where
    settled_file_steps : {p : Path} {steps : List FileStep} → (steps ≡ []) ⊎ Contains [] p → steps ≡ []
    settled_file_steps (inl none) = none
    settled_file_steps {p = p} (inr there) = absurd (in_nothing p there)
