use Rattle.std.proofs.Common.{◌≡◌, true, ◌++◌, ◌∷◌, [], List, ℕ, refl, sym, subst}
use mathlib.Core.Bool.{false≢true}
use Rattle.vault_path.specs.Parts.{is_part, is_path}
use Rattle.outside.specs.Images.{disk_in}
use Rattle.outside.proofs.Told.{told_always}
use Rattle.tree_loading.specs.declared.entry.Entry.TheVariants.{Foreign}
use Rattle.tree_loading.specs.Format.{sealing_of}
use Rattle.tree_loading.specs.Entries.{IsReadable}
use Rattle.tree_loading.proofs.Cases.{foreign_no_part}
use Rattle.tree_loading.proofs.Paths.{CanHoldNodes-host_folder, is_part-last}
use Rattle.tree_loading.proofs.entry.entry_of.Goals as goal

-- a name that is no part
pub returns-in_default-clause-entry : goal.returns-in_default-clause-entry
returns-in_default-clause-entry g c =
    let no_part : is_part c.args.entry ≡ true → ⊥ =
    λ part. let path : is_path (c.args.folder.now ++ c.args.entry ∷ []) ≡ true = rw c.requires ((CanHoldNodes-host_folder c.args.keys.now c.args.identifier.now).entries c.args.entry part) in
    false≢true (c.in_default.ensures.exact.1 (subst (λ (n : List ℕ). is_path (c.args.folder.now ++ n ∷ []) ≡ true) (sym c.as_bytes.ensures) path)) in
    told_always (disk_in (g.R.Reads.log c.args.from.now)) (λ d. IsReadable (sealing_of c.args.keys.now) d c.args.identifier.now c.args.entry Foreign)
    (λ d there. foreign_no_part (sealing_of c.args.keys.now) c.are_ciphers.ensures d c.args.identifier.now c.args.entry refl no_part there)

pub short_entry-requires-clause-part : goal.short_entry-requires-clause-part
short_entry-requires-clause-part g c =
    is_part-last c.args.folder.now c.args.entry (subst (λ (n : List ℕ). is_path (c.args.folder.now ++ n ∷ []) ≡ true) c.as_bytes.ensures (c.in-Ok.ensures.exact.0 refl))
