use Rattle.std.proofs.Common.{ap, sym, ◌∙◌, arith}
use Rattle.std.specs.FinMap as map
use Rattle.std.specs.Ordering.{nat_cmp}
use Rattle.std.proofs.lemmas.Bool.Decides.{nat_tests}
use Rattle.session_core.specs.State.{Fid}
use Rattle.session_core.proofs.Maps.{len_is}
use Rattle.session_core.proofs.fids.FidTable.is_full.Goals as goal

pub returns : goal.returns
returns c =
    let len = ap (λ (m : map.FinMap nat_cmp Fid). map.len m) (sym c.self.view_is) ∙ len_is c.self.inside.used.items c.self.invariant.sorted in
    grind (arith, nat_tests, len, c.self.inside.used.ok, c.self.invariant.all, c.is_empty.ensures)
