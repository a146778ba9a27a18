use Rattle.std.proofs.Common.{sym, ◌∙◌, true≢false}
use Rattle.std.proofs.lemmas.Slice.Eq.{bytes_eq-Decides}
use Rattle.deeds.specs.Plain.{plains}
use Rattle.clear_tree.specs.Built.{kept_what}
use Rattle.node_changes.proofs.Named.{naming_repeatable}
use Rattle.node_changes.proofs.renaming.naming_deeds.Goals as goal

pub returns-in-Ok-clause-repeatable : goal.returns-in-Ok-clause-repeatable
returns-in-Ok-clause-repeatable c =
    naming_repeatable (plains c.in-Ok.deeds.items)
    (record { folder = c.args.new.now.folder; entry = c.entry-2.result.now; long = c.is_long.result })
    (record { folder = c.args.new.now.folder; entry = c.as_bytes-entry.result.now; long = c.args.new.now.place.long })
    c.as_bytes-text.result.now (kept_what c.what.result.now) c.in-Ok.ensures.deeds
    (λ e. true≢false (sym ((bytes_eq-Decides c.entry-else-not-is_host_part.result.now c.as_bytes-entry.result.now).1 (c.entry-else-not-is_host_part.ensures.bytes ∙ sym c.entry-2.ensures.bytes ∙ e)) ∙ sym c.eq.ensures ∙ c.if-eq.false))
