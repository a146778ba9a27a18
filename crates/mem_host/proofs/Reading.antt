-- What reads give of a host's names and files.
use Rattle.std.proofs.Common.{◌++◌, ℕ, List, [], ◌∷◌, IsSome, sym, subst}
use Rattle.outside.specs.Disk.{Path, IsListing}
use Rattle.host_calls.specs.Volume.{entry_at}
use Rattle.host_calls.specs.Story.{Story, names_now, disk_now, volume_now}
use Rattle.host_calls.proofs.Volumes.{node_in}
use Rattle.mem_host.specs.Entries.{AreNamesIn}
use Rattle.mem_host.proofs.Trees.{some_there, some_node}

-- the names in a folder are its listing
pub listing_now : (story : Story) (path : Path) (names : List (List ℕ)) → AreNamesIn (names_now story) path names → IsListing (disk_now story) path names
listing_now story path names are =
    let v = volume_now story in
    record {
      distinct = are.distinct;
      exact = λ name. (
        λ has. subst IsSome (sym (node_in v (path ++ name ∷ []))) (some_node v.contents (entry_at v.names (path ++ name ∷ [])) ((are.exact name).0 has)),
        λ there. (are.exact name).1 (some_there v.contents (entry_at v.names (path ++ name ∷ [])) (subst IsSome (node_in v (path ++ name ∷ [])) there)),
      );
    }
