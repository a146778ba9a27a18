use Rattle.std.proofs.Common.{sym, ap, ◌∙◌, ℕ}
use Rattle.std.specs.BTreeMap.{BTreeMap}
use Rattle.live_tree.specs.Held.{HeldNode}
use Rattle.live_tree.specs.Changes.{renamed_node}
use Rattle.live_tree.proofs.Entries.{edited_in, edit_none}
use Rattle.live_tree.proofs.changing.rename_node.Goals as goal

pub returns-in-Some : goal.returns-in-Some
returns-in-Some c =
    (c.get_mut.follows.holds c.rename.new.self).0
    ∙ edited_in c.args.number (renamed_node c.args.name c.args.entry c.args.long) c.in-Some.node.now c.rename.new.self c.args.nodes.now.entries c.get_mut.ensures.ordered (sym c.in-Some.ensures.value) c.rename.ensures

pub returns-in_default : goal.returns-in_default
returns-in_default c =
    ap (λ (m : BTreeMap ℕ HeldNode). m.entries) c.get_mut.follows.holds-at-none ∙ sym (edit_none c.args.number (renamed_node c.args.name c.args.entry c.args.long) c.args.nodes.now.entries (sym c.in_default.ensures.value))
