-- After the deeds of a removal, and of another name, nothing is where the node's entry was.
use Rattle.std.proofs.Common.{◌≡◌, ℕ, Bool, true, false, List, [], ◌∷◌, ◌++◌, Option, None, Some, refl, sym, ap, ◌∙◌, inl, inr}
use Rattle.outside.specs.Disk.{Disk, Node as Thing, IsTree, node_at, file as Bytes, Path as HostPath}
use Rattle.outside.specs.Changes.{set_at}
use Rattle.outside.proofs.Paths.{by_path, set_here, set_there}
use Rattle.deeds.specs.Deeds.{PlainDeed, Removes, RemovesDir, Renames, MakesDir, Puts, Does, DoesAll}
use Rattle.deeds.proofs.Again.{stays}
use Rattle.clear_tree.specs.Places.{host_folder, host_entry, host_inner, text_contents, text_dirid, text_name}
use Rattle.tree_deed_laws.specs.Deeds.{remove_file_at, remove_node_at, remove_dir_at, rename_file_at, rename_node_at}
use Rattle.tree_deed_laws.proofs.Seeing.{none_below}

-- a file that is removed is gone, and so is a folder
file_gone : (q : HostPath) (old new : Disk) → Does (Removes q) old new → node_at new q ≡ None
file_gone q old new (inl done) = absurd done.0
file_gone q old new (inr (can, is)) = ap (λ (d : Disk). node_at d q) is ∙ set_here old q None q refl

folder_gone : (q : HostPath) (old new : Disk) → Does (RemovesDir q) old new → node_at new q ≡ None
folder_gone q old new (inl done) = absurd done.0
folder_gone q old new (inr (can, is)) = ap (λ (d : Disk). node_at d q) is ∙ set_here old q None q refl

-- and one that was moved to where nothing was
moved_gone : (q to : HostPath) (old new : Disk) → node_at old to ≡ None → Does (Renames q to) old new → node_at new q ≡ None
moved_gone q to old new free (inl (done, is)) = ap (λ (d : Disk). node_at d q) is ∙ done.0
moved_gone q to old new free (inr (can, is)) =
    ap (λ (d : Disk). node_at d q) is
    ∙ by_path q to
    (λ e. let w : ◌≡◌ {A = Option Thing} None (Some (Bytes can.0.there.0)) = sym free ∙ ap (node_at old) (sym e) ∙ can.0.there.1 in absurd cc)
    (λ ne. set_there (set_at old q None) to (node_at old q) q ne ∙ set_here old q None q refl)

-- what is gone isn't made by a removal
still_gone : (p q : HostPath) (old new : Disk) → Does (Removes p) old new → node_at old q ≡ None → node_at new q ≡ None
still_gone p q old new (inl done) none = absurd done.0
still_gone p q old new (inr (can, is)) none = ap (λ (d : Disk). node_at d q) is ∙ by_path q p (λ e. set_here old p None q e) (λ ne. set_there old p None q ne ∙ none)

still_gone_folder : (p q : HostPath) (old new : Disk) → Does (RemovesDir p) old new → node_at old q ≡ None → node_at new q ≡ None
still_gone_folder p q old new (inl done) none = absurd done.0
still_gone_folder p q old new (inr (can, is)) none = ap (λ (d : Disk). node_at d q) is ∙ by_path q p (λ e. set_here old p None q e) (λ ne. set_there old p None q ne ∙ none)

-- the folder that is removed last
last_gone : (deeds : List PlainDeed) (q : HostPath) (d after : Disk) → DoesAll (deeds ++ RemovesDir q ∷ []) d after → node_at after q ≡ None
last_gone [] q d after (between, one, is) = ap (λ (x : Disk). node_at x q) is ∙ folder_gone q d between one
last_gone (deed ∷ deeds) q d after (between, one, more) = last_gone deeds q between after more

module _ (d after : Disk) (F E : List ℕ) where
  pub removed_gone : (long : Bool) (known : List ℕ) → DoesAll (remove_node_at long F E known) d after → node_at after (host_entry F E) ≡ None
  removed_gone false known does = last_gone (Removes (host_inner F E known) ∷ []) (host_entry F E) d after does
  removed_gone true known does = last_gone (Removes (host_inner F E known) ∷ Removes (host_inner F E text_name) ∷ []) (host_entry F E) d after does

  pub removed_file_gone : (long : Bool) → DoesAll (remove_file_at long F E) d after → node_at after (host_entry F E) ≡ None
  removed_file_gone false (between, one, is) = ap (λ (x : Disk). node_at x (host_entry F E)) is ∙ file_gone (host_entry F E) d between one
  removed_file_gone true does = removed_gone true text_contents does

  module _ (own : List ℕ) where
    -- the two deeds on a directory's own folder come last
    own_gone : (between : Disk) → DoesAll (Removes (host_entry own text_dirid) ∷ RemovesDir (host_folder own) ∷ []) between after → node_at between (host_entry F E) ≡ None
        → (node_at after (host_entry F E) ≡ None) × (node_at after (host_folder own) ≡ None)
    own_gone between (amid, one, (last, two, is)) none = (
      ap (λ (x : Disk). node_at x (host_entry F E)) is
          ∙ still_gone_folder (host_folder own) (host_entry F E) amid last two (still_gone (host_entry own text_dirid) (host_entry F E) between amid one none),
      ap (λ (x : Disk). node_at x (host_folder own)) is ∙ folder_gone (host_folder own) amid last two,
    )

    pub removed_directory_gone : (long : Bool) → DoesAll (remove_dir_at long F E own) d after → (node_at after (host_entry F E) ≡ None) × (node_at after (host_folder own) ≡ None)
    removed_directory_gone false (a, one, (b, two, more)) = own_gone b more (folder_gone (host_entry F E) a b two)
    removed_directory_gone true (a, one, (b, two, (c, three, more))) = own_gone c more (folder_gone (host_entry F E) b c three)

  module _ (E' text : List ℕ) where
    pub renamed_gone : (long long' : Bool) (known : List ℕ) → DoesAll (rename_node_at long long' F E E' text known) d after → node_at after (host_entry F E) ≡ None
    renamed_gone false false known does =
        last_gone (MakesDir (host_entry F E') ∷ Renames (host_inner F E known) (host_inner F E' known) ∷ []) (host_entry F E) d after does
    renamed_gone true false known does =
        last_gone (MakesDir (host_entry F E') ∷ Renames (host_inner F E known) (host_inner F E' known) ∷ Removes (host_inner F E text_name) ∷ []) (host_entry F E) d after does
    renamed_gone false true known does =
        last_gone (MakesDir (host_entry F E') ∷ Puts (host_inner F E' text_name) text ∷ Renames (host_inner F E known) (host_inner F E' known) ∷ []) (host_entry F E) d after does
    renamed_gone true true known does =
        last_gone (MakesDir (host_entry F E') ∷ Puts (host_inner F E' text_name) text ∷ Renames (host_inner F E known) (host_inner F E' known) ∷ Removes (host_inner F E text_name) ∷ []) (host_entry F E) d after
        does

    pub renamed_file_gone : (long long' : Bool) → IsTree d → node_at d (host_entry F E') ≡ None → DoesAll (rename_file_at long long' F E E' text) d after → node_at after (host_entry F E) ≡ None
    renamed_file_gone false false host free (between, one, is) = ap (λ (x : Disk). node_at x (host_entry F E)) is ∙ moved_gone (host_entry F E) (host_entry F E') d between free one
    renamed_file_gone false true host free (a, one, (b, two, (c, three, is))) =
        ap (λ (x : Disk). node_at x (host_entry F E)) is
        ∙ moved_gone (host_entry F E) (host_inner F E' text_contents) b c
        (stays (MakesDir (host_entry F E') ∷ Puts (host_inner F E' text_name) text ∷ []) d b (host_inner F E' text_contents) (a, one, (b, two, refl)) (((λ e. cc), tt), (((λ e. cc), tt), tt))
        ∙ none_below d host F E' text_contents free) three
    renamed_file_gone true false host free does =
        last_gone (Renames (host_inner F E text_contents) (host_entry F E') ∷ Removes (host_inner F E text_name) ∷ []) (host_entry F E) d after does
    renamed_file_gone true true host free does = renamed_gone true true text_contents does
