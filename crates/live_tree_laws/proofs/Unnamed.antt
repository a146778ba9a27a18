-- Deeds name no path but those of the node that they change.
use Rattle.std.proofs.Common.{◌≡◌, ◌≢◌, ℕ, Bool, true, false, List, [], ◌∷◌, ◌++◌, None, refl, ap, ◌∙◌, inl, inr}
use Rattle.std.specs.FinMap.{get}
use Rattle.outside.specs.Disk.{Disk, IsTree, Path as HostPath}
use Rattle.deeds.specs.Deeds.{Puts, Unnamed}
use Rattle.clear_tree.specs.Queue.{In}
use Rattle.clear_tree.specs.Places.{host_folder, host_entry, host_inner, text_contents, text_dir, text_dirid, text_name}
use Rattle.tree_deed_laws.specs.Deeds.{make_node, clear_node, create_file_at, remove_file_at, remove_node_at, remove_dir_at, rename_file_at, rename_node_at}
use Rattle.tree_deed_laws.proofs.Seeing.{none_below}
use Rattle.live_tree_laws.specs.Strays.{node_paths}

-- a path that is none of a node's at a place
pub record IsOff (path : HostPath) (long : Bool) (F E known : List ℕ) : Type 0 where
  pub entry : path ≢ host_entry F E
  pub inner : path ≢ host_inner F E known
  pub name : long ≡ true → path ≢ host_inner F E text_name

pub off_by : (path : HostPath) (long : Bool) (F E known : List ℕ) → (In path (node_paths long F E known) → ⊥) → IsOff path long F E known
off_by path false F E known none = record { entry = λ e. none (inl e); inner = λ e. none (inr (inl e)); name = λ t. cc }
off_by path true F E known none = record { entry = λ e. none (inl e); inner = λ e. none (inr (inl e)); name = λ t e. none (inr (inr (inl e))) }

-- at a place where nothing is, no node has a path of something
pub none_at : (d : Disk) → IsTree d → (path : HostPath) (long : Bool) (F E known : List ℕ) → get d (host_entry F E) ≡ None → In path (node_paths long F E known) → get d path ≡ None
none_at d tree path false F E known none (inl e) = ap (get d) e ∙ none
none_at d tree path false F E known none (inr (inl e)) = ap (get d) e ∙ none_below d tree F E known none
none_at d tree path false F E known none (inr (inr e)) = absurd e
none_at d tree path true F E known none (inl e) = ap (get d) e ∙ none
none_at d tree path true F E known none (inr (inl e)) = ap (get d) e ∙ none_below d tree F E known none
none_at d tree path true F E known none (inr (inr (inl e))) = ap (get d) e ∙ none_below d tree F E text_name none
none_at d tree path true F E known none (inr (inr (inr e))) = absurd e

module _ (path : HostPath) (F E : List ℕ) where
  cleared : (long : Bool) (known : List ℕ) → IsOff path long F E known → Unnamed path (clear_node long F E)
  cleared false known off = ((off.entry, tt), tt)
  cleared true known off = ((off.name refl, tt), ((off.entry, tt), tt))

  pub created : (long : Bool) (text header : List ℕ) → IsOff path long F E text_contents → Unnamed path (create_file_at long F E text header)
  created false text header off = ((off.entry, tt), tt)
  created true text header off = ((off.entry, tt), ((off.name refl, tt), ((off.inner, tt), tt)))

  -- a directory's, but for the two folders that are made first
  pub filled : (long : Bool) (text identifier : List ℕ) → IsOff path long F E text_dir → Unnamed path (make_node long F E text ++ Puts (host_inner F E text_dir) identifier ∷ [])
  filled false text identifier off = ((off.entry, tt), ((off.inner, tt), tt))
  filled true text identifier off = ((off.entry, tt), ((off.name refl, tt), ((off.inner, tt), tt)))

  pub removed : (long : Bool) (known : List ℕ) → IsOff path long F E known → Unnamed path (remove_node_at long F E known)
  removed long known off = ((off.inner, tt), cleared long known off)

  pub removed_file : (long : Bool) → IsOff path long F E text_contents → Unnamed path (remove_file_at long F E)
  removed_file false off = ((off.entry, tt), tt)
  removed_file true off = removed true text_contents off

  pub removed_directory : (long : Bool) (own : List ℕ) → IsOff path long F E text_dir → path ≢ host_folder own → path ≢ host_entry own text_dirid → Unnamed path (remove_dir_at long F E own)
  removed_directory false own off no_folder no_copy = ((off.inner, tt), ((off.entry, tt), ((no_copy, tt), ((no_folder, tt), tt))))
  removed_directory true own off no_folder no_copy = ((off.inner, tt), ((off.name refl, tt), ((off.entry, tt), ((no_copy, tt), ((no_folder, tt), tt)))))

  module _ (E' text : List ℕ) where
    pub renamed : (long long' : Bool) (known : List ℕ) → IsOff path long F E known → IsOff path long' F E' known → Unnamed path (rename_node_at long long' F E E' text known)
    renamed long false known off off' = ((off'.entry, tt), ((off.inner, (off'.inner, tt)), cleared long known off))
    renamed long true known off off' = ((off'.entry, tt), ((off'.name refl, tt), ((off.inner, (off'.inner, tt)), cleared long known off)))

    pub renamed_file : (long long' : Bool) → IsOff path long F E text_contents → IsOff path long' F E' text_contents → Unnamed path (rename_file_at long long' F E E' text)
    renamed_file false false off off' = ((off.entry, (off'.entry, tt)), tt)
    renamed_file false true off off' = ((off'.entry, tt), ((off'.name refl, tt), ((off.entry, (off'.inner, tt)), tt)))
    renamed_file true false off off' = ((off.inner, (off'.entry, tt)), cleared true text_contents off)
    renamed_file true true off off' = renamed true true text_contents off off'
