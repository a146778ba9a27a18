use Rattle.tree_loading.specs.Format.{sealing_of}
use Rattle.name_places.specs.Index.{AreClaimsBelow}
use Rattle.name_places.proofs.claims.Claims.from_tree.Given as goal

abbrev pub invariant-loop-number : goal.invariant-loop-number
invariant-loop-number l = AreClaimsBelow (sealing_of l.keys) l.live l.number l.claims
