-- The first entry of a folder, by its listing.
use Rattle.std.proofs.Common.{◌≡◌, ℕ, List, [], ◌∷◌, Option, Some, None, IsSome, MatchOption, refl, subst, arith}
use Rattle.std.specs.List.{Contains}
use Rattle.outside.specs.Calls.{Told}
use Rattle.outside.specs.Disk.{Disk, Path, Node, node_at, IsFolder, IsTree, IsListing}
use Rattle.outside.specs.Images.{Log, now, disk_in}
use Rattle.vault_make.specs.Vault.{IsLeast}
use Rattle.vault_make.specs.Entries.{IsFirstIn}

contains_none : (name : List ℕ) → Contains [] name → ⊥
contains_none name h = omega (arith, h.1)

none_where : (o : Option Node) → (IsSome o → ⊥) → o ≡ None
none_where None h = refl
none_where (Some node) h = absurd (h (cc))

first_on : (d : Disk) (names : List (List ℕ)) (first : Option (List ℕ)) → IsTree d → IsListing d [] names → MatchOption first (names ≡ []) (IsLeast names) → IsFirstIn d first
first_on d names None tree listing empty =
    record { tree = tree; bare = λ name. none_where (node_at d (name ∷ [])) (λ some. contains_none name (subst (λ l. Contains l name) empty ((listing.exact name).1 some))) }
first_on d names (Some name) tree listing least = (names, listing, least)

pub first_in : (log later : Option Log) (path : Path) (names : List (List ℕ)) (first : Option (List ℕ)) → later ≡ log → path ≡ [] → Told (disk_in log) IsTree
    → Told (disk_in later) (λ d. IsFolder d path × IsListing d path names) → MatchOption first (names ≡ []) (IsLeast names) → Told log (λ l. IsFirstIn (now l) first)
first_in None later path names first same top tree listing least = tt
first_in (Some log) later path names first same top tree listing least =
    let here : IsFolder (now log) path × IsListing (now log) path names = subst (λ (o : Option Log). Told (disk_in o) (λ d. IsFolder d path × IsListing d path names)) same listing in
    first_on (now log) names first tree (subst (λ (p : Path). IsListing (now log) p names) top here.1) least
