-- The host file of a node, and what waits for one, are the vault's data.
use Rattle.std.proofs.Common.{◌≡◌, ◌+◌, ℕ, min, Bool, true, false, if◌then◌else◌, List, [], ◌∷◌, Option, Some, None, subst}
use Rattle.std.specs.Option.{option_and_then}
use Rattle.outside.specs.Disk.{Path as HostPath}
use Rattle.deeds.specs.Deeds.{PlainDeed}
use Rattle.pending_files.specs.Pending.{cut_in, is_at, put_in, without}
use Rattle.clear_tree.specs.Places.{host_inner, text_symlink}
use Rattle.clear_tree.specs.Kept.{KeptNode, What, KeptFile, KeptLink, KeptDir, KeptBad, file_path, path_in}
use Rattle.live_tree.specs.Held.{HeldNode, HeldTree, node_of, parent_folder, path_of}
use Rattle.content_laws.specs.Rewriting.{Rewriting, place_of_chunk}
use Rattle.write_back.specs.Deeds.{chunks_in, longer, puts_or_cut, rewriting_in}
use Rattle.node_changes.specs.Within.{IsWithin, AreWithin}
use Rattle.node_changes.proofs.Within.{in_data, within_both}

at_place : (long : Bool) (folder entry : List ℕ) → IsWithin (file_path long folder entry)
at_place false folder entry = in_data
at_place true folder entry = in_data

pub path_within : (live : HeldTree) (number : ℕ) (path : HostPath) → path_of live number ≡ Some path → IsWithin path
path_within live number path is = by_node (node_of live number) is
  where
    same_path : (other : HostPath) → IsWithin other → ◌≡◌ {A = Option HostPath} (Some other) (Some path) → IsWithin path
    same_path other within e = let same : other ≡ path = cc in subst IsWithin same within

    by_what : (node : KeptNode) (what : What) (folder : Option (List ℕ)) → option_and_then (path_in node what) folder ≡ Some path → IsWithin path
    by_what node what None e = absurd cc
    by_what node (KeptFile size) (Some folder) e = same_path (file_path node.long folder node.entry) (at_place node.long folder node.entry) e
    by_what node (KeptLink size) (Some folder) e = same_path (host_inner folder node.entry text_symlink) in_data e
    by_what node (KeptDir identifier own) (Some folder) e = absurd cc
    by_what node (KeptBad text) (Some folder) e = absurd cc

    by_node : (o : Option HeldNode) → option_and_then (λ (node : HeldNode). option_and_then (path_in node.kept node.kept.what) (parent_folder live node.kept)) o ≡ Some path → IsWithin path
    by_node None e = absurd cc
    by_node (Some node) e = by_what node.kept node.kept.what (parent_folder live node.kept) e

-- ---- what waits

module _ (path : HostPath) (within : IsWithin path) where
  others : (deeds : List PlainDeed) → AreWithin deeds → AreWithin (without path deeds)
  others [] all = tt
  others (deed ∷ deeds) all = by_first (is_at path deed) (others deeds all.1)
    where
      by_first : (b : Bool) → AreWithin (without path deeds) → AreWithin (if b then deeds else deed ∷ without path deeds)
      by_first true more = all.1
      by_first false more = (all.0, more)

  put : (len at : ℕ) (sealed : List ℕ) (deeds : List PlainDeed) → AreWithin deeds → AreWithin (put_in path len at sealed deeds)
  put len at sealed deeds all = within_both (without path deeds) _ (others deeds all) ((within, tt), tt)

  cut : (len : ℕ) (deeds : List PlainDeed) → AreWithin deeds → AreWithin (cut_in path len deeds)
  cut len deeds all = within_both (without path deeds) _ (others deeds all) ((within, tt), tt)

  chunks : (size len first : ℕ) (sealed : List (List ℕ)) (deeds : List PlainDeed) → AreWithin deeds → AreWithin (chunks_in path size len first sealed deeds)
  chunks size len first [] deeds all = all
  chunks size len first (x ∷ more) deeds all = chunks size (longer len first x) (first + 1) more _ (put (min size (longer len first x)) (place_of_chunk first) x deeds all)

  any : (size len first : ℕ) (sealed : List (List ℕ)) (deeds : List PlainDeed) → AreWithin deeds → AreWithin (puts_or_cut path size len first sealed deeds)
  any size len first [] deeds all = cut size deeds all
  any size len first (x ∷ more) deeds all = chunks size len first (x ∷ more) deeds all

  -- a change of the file that waits after others
  pub rewriting_within : (len : ℕ) (r : Rewriting) (deeds : List PlainDeed) → AreWithin deeds → AreWithin (rewriting_in path len r deeds)
  rewriting_within len r deeds all = any r.size len r.first r.sealed deeds all
