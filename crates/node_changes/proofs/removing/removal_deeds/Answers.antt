use Rattle.std.proofs.Common.{sym, ap, ◌∙◌, subst, true≢false}
use Rattle.deeds.specs.Plain.{plains}
use Rattle.clear_tree.specs.Kept.{folder_in}
use Rattle.clear_tree.specs.Built.{HasHostFolder, kept_what}
use Rattle.node_changes.proofs.Removals.{are_repeatable}
use Rattle.node_changes.proofs.removing.removal_deeds.Goals as goal

pub remove_deeds-requires-clause-own : goal.remove_deeds-requires-clause-own
remove_deeds-requires-clause-own c = subst HasHostFolder (sym c.what.ensures) c.is_own_folder.ensures.path

pub returns-in-Ok-clause-repeatable : goal.returns-in-Ok-clause-repeatable
returns-in-Ok-clause-repeatable c =
    are_repeatable (plains c.in-Ok.deeds.items) (record { folder = c.folder_above-folder.result.now; entry = c.entry-2.result.now; long = c.is_long.result }) (kept_what c.what.result.now) c.in-Ok.ensures.deeds
    (λ e. true≢false (sym (c.is_own_folder.ensures.own.1 (ap folder_in (sym c.what.ensures) ∙ e)) ∙ c.if-is_own_folder.false))
