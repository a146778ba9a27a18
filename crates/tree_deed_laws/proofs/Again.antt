-- Deeds done again after a stop.
use Rattle.std.proofs.Common.{sym, subst}
use Rattle.outside.specs.Disk.{Disk}
use Rattle.outside.proofs.Paths.{same_disk}
use Rattle.deeds.proofs.Again.{again_amid}
use Rattle.tree_deed_laws.specs.Trees.{IsTreeOf}
use Rattle.tree_deed_laws.specs.Changes.{DoesAgain}

pub does_again : DoesAgain
does_again s d deeds tree leads image amid =
    let again = again_amid deeds d leads.after image leads.does leads.clear.host leads.repeatable.apart amid in
    record {
      after = again.0;
      does = again.1;
      clear = subst (λ (z : Disk). IsTreeOf s z tree) (sym (same_disk again.0 leads.after again.2)) leads.clear;
    }
