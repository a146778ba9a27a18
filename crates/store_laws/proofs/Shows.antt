-- Which rows a disk shows, and that the journal's two files don't matter to it.
use Rattle.std.proofs.Common.{◌≡◌, ℕ, List, [], ◌∷◌, Option, map, sym, subst, ◌∙◌, inl, inr}
use Rattle.std.proofs.lemmas.Cmp.{tied_itself, nat_cmp_total}
use Rattle.std.specs.Ordering.{nat_cmp}
use Rattle.std.specs.declared.cmp.Ordering.TheVariants.{Less, Equal}
use Rattle.std.specs.List.{AllByRecursion}
use Rattle.std.specs.List.Sorted.{IsStrictlySortedBy}
use Rattle.std.specs.Map.{keys_of}
use Rattle.outside.specs.Disk.{Disk}
use Rattle.outside.specs.Images.{Log}
use Rattle.vault_keys.specs.Keys.{KeyPair}
use Rattle.tree_model.specs.Rows.{Content, Row, Rows}
use Rattle.clear_tree.specs.Walk.{Sealing}
use Rattle.clear_tree.specs.Queue.{In}
use Rattle.tree_loading.specs.Format.{sealing_of}
use Rattle.tree_deed_laws.specs.Shapes.{HasTree}
use Rattle.tree_deed_laws.proofs.Beside.{stays_beside}
use Rattle.version_laws.specs.RowVersions.{wrapped}
use Rattle.version_laws.specs.ShapeVersions.{AreDistinct, AreApart}
use Rattle.version_laws.proofs.Shapes.{have_shape_too, distinct_are_apart}
use Rattle.live_tree.specs.Held.{HeldNode, HeldTree, live_row, live_rows}
use Rattle.live_tree_laws.proofs.Numbers.{held_rows_have_shape}
use Rattle.node_changes.specs.Changed.{StandsOn}
use Rattle.crash_laws.specs.Crash.{IsBlind}
use Rattle.store_laws.specs.Store.{shows_under}
use Rattle.store_laws.proofs.Others.{keeps_alike}

-- ---- beside the journal's two files

pub shows_blind : (found : Option Log) (keys : KeyPair) → IsBlind (shows_under found keys)
shows_blind found keys a b rows shows host same = record {
  tree = record {
    tree = shows.tree.tree;
    is = stays_beside (sealing_of keys) a b shows.tree.tree shows.tree.is host same;
    shape = shows.tree.shape;
  };
  others = keeps_alike found keys a b shows.tree.is.host host same shows.others;
}

-- ---- the rows of a tree in memory

number_in : (P : ℕ → Type 0) (contents : ℕ → Content) (es : List (ℕ × HeldNode)) (n : ℕ) → AllByRecursion P (keys_of es)
    → In n (map (λ (row : Row). row.number) (map (live_row contents) es)) → P n
number_in P contents [] n all there = absurd there
number_in P contents (e ∷ es) n all (inl same) = subst P (sym same) all.0
number_in P contents (e ∷ es) n all (inr there) = number_in P contents es n all.1 there

-- their numbers rise, so none occurs twice
distinct_numbers : (contents : ℕ → Content) (es : List (ℕ × HeldNode)) → IsStrictlySortedBy nat_cmp (keys_of es) → AreDistinct (map (λ (row : Row). row.number) (map (live_row contents) es))
unfolding IsStrictlySortedBy
distinct_numbers contents [] sorted = tt
distinct_numbers contents (e ∷ es) sorted = (
  λ there.
      let less : nat_cmp e.0 e.0 ≡ Less = number_in (λ (n : ℕ). nat_cmp e.0 n ≡ Less) contents es e.0 sorted.0 there in
      let both : Less ≡ Equal = sym less ∙ tied_itself nat_cmp_total e.0 in absurd cc,
  distinct_numbers contents es sorted.1,
)

-- what the tree in memory stands for on a disk is shown by the disk, whatever the versions are past 2^32
pub stands_shows : (s : Sealing) (d : Disk) (live : HeldTree) (claims : List (List ℕ × ℕ)) (contents : ℕ → Content) (rows : Rows) → StandsOn s d live claims contents
    → wrapped rows ≡ wrapped (live_rows contents live) → HasTree s d rows
stands_shows s d live claims contents rows stands same =
    let apart : AreApart rows = distinct_are_apart (live_rows contents live) rows (sym same) (distinct_numbers contents live.nodes stands.holds.is_tree.ordered) in
    record {
      tree = stands.tree;
      is = stands.is;
      shape = have_shape_too s stands.tree (live_rows contents live) rows (sym same) apart (held_rows_have_shape s stands.tree live contents stands.holds stands.are);
    }
