-- The paths of changes, and the folders that these are in, among those of more changes.
use Rattle.std.proofs.Common.{◌≡◌, ◌⊎◌, ℕ, List, [], ◌∷◌, ◌++◌, Contains, refl, sym, subst, inl, inr, arith}
use Rattle.std.specs.List.{flat_map}
use Rattle.outside.specs.Disk.{Path, parent}
use Rattle.host_calls.proofs.Loose.{first_or_rest, is_first, is_later}
use Rattle.host_folder.specs.First.{with_folder}

pub at_each : (paths : List Path) (p : Path) → Contains paths p → Contains (flat_map with_folder paths) p
at_each [] p (k, within, is) = absurd (omega arith)
at_each (q ∷ paths) p has = either (first_or_rest q paths p has) (at_each paths p)
  where
    either : (p ≡ q) ⊎ Contains paths p → (Contains paths p → Contains (flat_map with_folder paths) p) → Contains (flat_map with_folder (q ∷ paths)) p
    either (inl is) rest = subst (Contains (flat_map with_folder (q ∷ paths))) (sym is) (is_first q (parent q ∷ flat_map with_folder paths))
    either (inr later) rest = is_later q (parent q ∷ flat_map with_folder paths) p (is_later (parent q) (flat_map with_folder paths) p (rest later))

pub above_each : (paths : List Path) (p : Path) → Contains paths p → Contains (flat_map with_folder paths) (parent p)
above_each [] p (k, within, is) = absurd (omega arith)
above_each (q ∷ paths) p has = either (first_or_rest q paths p has) (above_each paths p)
  where
    either : (p ≡ q) ⊎ Contains paths p → (Contains paths p → Contains (flat_map with_folder paths) (parent p)) → Contains (flat_map with_folder (q ∷ paths)) (parent p)
    either (inl is) rest = subst (λ (r : Path). Contains (flat_map with_folder (q ∷ paths)) (parent r)) (sym is)
        (is_later q (parent q ∷ flat_map with_folder paths) (parent q) (is_first (parent q) (flat_map with_folder paths)))
    either (inr later) rest = is_later q (parent q ∷ flat_map with_folder paths) (parent p) (is_later (parent q) (flat_map with_folder paths) (parent p) (rest later))

-- a list's first
pub changed_at : (p : Path) (others paths : List Path) → Contains (p ∷ (others ++ paths)) p
changed_at p others paths = is_first p (others ++ paths)

-- one of the first list
pub in_front : (front paths : List Path) (p : Path) → Contains front p → Contains (front ++ paths) p
in_front [] paths p (k, within, is) = absurd (omega arith)
in_front (q ∷ front) paths p has = either (first_or_rest q front p has) (in_front front paths p)
  where
    either : (p ≡ q) ⊎ Contains front p → (Contains front p → Contains (front ++ paths) p) → Contains (q ∷ (front ++ paths)) p
    either (inl is) rest = subst (Contains (q ∷ (front ++ paths))) (sym is) (is_first q (front ++ paths))
    either (inr later) rest = is_later q (front ++ paths) p (rest later)

-- more paths before them
pub later_paths : (front paths : List Path) (p : Path) → Contains (flat_map with_folder paths) p → Contains (flat_map with_folder (front ++ paths)) p
later_paths [] paths p has = has
later_paths (q ∷ front) paths p has =
    is_later q (parent q ∷ flat_map with_folder (front ++ paths)) p (is_later (parent q) (flat_map with_folder (front ++ paths)) p (later_paths front paths p has))
