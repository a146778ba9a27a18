use Rattle.std.proofs.Common.{◌≡◌, Some, None, sym, ap, ◌∙◌, inl, inr}
use Rattle.std.specs.Option.{option_and_then}
use Rattle.clear_tree.specs.Kept.{size_in}
use Rattle.clear_tree.specs.Built.{kept_what}
use Rattle.clear_tree.specs.declared.node.What.{What}
use Rattle.live_tree.specs.Held.{HeldNode, path_of, size_of}
use Rattle.tree_answers.proofs.Sizes.{path_there}
use Rattle.vault_store.proofs.reading.sealed_file.Goals as goal

pub unreachable-requires : goal.unreachable-requires
unreachable-requires c =
    let sized : size_in c.in-Some.node.now.kept.what ≡ Some c.in-File.size = ap size_in (sym c.what.ensures) ∙ elim c.in-File.is [
      | inl file ↦ ap (λ (w : What). size_in (kept_what w)) file
      | inr link ↦ ap (λ (w : What). size_in (kept_what w)) link
    ] in
    let long : size_of c.args.tree.now c.args.number ≡ Some c.in-File.size = ap (option_and_then (λ (node : HeldNode). size_in node.kept.what)) (sym c.in-Some.ensures) ∙ sized in
    let path = path_there c.args.tree.now c.args.number c.in-File.size c.len-count.ensures.tree long in
    let none : path_of c.args.tree.now c.args.number ≡ None = sym c.path.ensures ∙ c.in-None.is in
    let some : path_of c.args.tree.now c.args.number ≡ Some path.0 = path.1 in
    absurd (cc (none, some))
