use Rattle.std.proofs.Common.{◌≡◌, true, List, ℕ, sym, ap, subst, ◌∙◌}
use Rattle.vault_path.specs.Parts.{is_part}
use Rattle.tree_loading.specs.Reading.{CanHoldParts}
use Rattle.tree_loading.proofs.Sealings.{is_part-long_folder}
use Rattle.tree_loading.proofs.reading.has_twin.Goals as goal

pub inner-node-requires : goal.inner-node-requires
inner-node-requires g c =
    let part : is_part c.long_folder.result ≡ true = ap is_part c.long_folder.ensures ∙ is_part-long_folder c.args.text.now in
    c.requires.entries c.long_folder.result part

pub name_in-requires : goal.name_in-requires
name_in-requires g c =
    let part : is_part c.long_folder.result ≡ true = ap is_part c.long_folder.ensures ∙ is_part-long_folder c.args.text.now in
    subst (λ (x : List (List ℕ)). CanHoldParts x) (sym c.inner-node.ensures) (c.requires.inner c.long_folder.result part)
