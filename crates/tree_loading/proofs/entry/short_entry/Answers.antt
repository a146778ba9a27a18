use Rattle.std.proofs.Common.{◌≡◌, ◌↔◌, ◌++◌, ◌∷◌, [], false, List, ℕ, Option, Some, None, IsTrue, refl, sym, ap, subst, ◌∙◌}
use Rattle.vault_names.specs.Folder.{base32, hash_of}
use Rattle.outside.specs.Disk.{IsTree}
use Rattle.clear_tree.specs.Places.{host_folder}
use Rattle.clear_tree.specs.Marks.{IsForeign}
use Rattle.vault_names.specs.Places.{long_folder}
use Rattle.vault_names.specs.Sealed.{IsSealedName, opened_name}
use Rattle.tree_loading.specs.declared.found.FoundNode.{FoundNode}
use Rattle.tree_loading.specs.declared.place.Showing.{Showing}
use Rattle.tree_loading.specs.declared.entry.Entry.TheVariants.{Node, Taken}
use Rattle.tree_loading.specs.Format.{sealing_of}
use Rattle.tree_loading.specs.Reading.{CanHoldParts, CanHoldNodes, name_in, short_at}
use Rattle.tree_loading.specs.Showing.{IsPlace}
use Rattle.tree_loading.specs.Entries.{IsOpened, IsReadable}
use Rattle.tree_loading.proofs.Files.{told_kept, told_kept2, some_fact, none_of}
use Rattle.tree_loading.proofs.Cases.{short_bare, short_found, taken_none}
use Rattle.tree_loading.proofs.Paths.{CanHoldNodes-host_folder}
use Rattle.tree_loading.proofs.entry.short_entry.Goals as goal

pub short_place-requires : goal.short_place-requires
short_place-requires g c =
    subst (λ (x : List (List ℕ)). CanHoldParts x) (sym c.requires.node) ((CanHoldNodes-host_folder c.args.keys.now c.args.identifier.now).inner c.args.entry c.requires.part)

pub returns-in_default-2-clause-entry : goal.returns-in_default-2-clause-entry
returns-in_default-2-clause-entry g c =
    let none : ◌≡◌ {A = Option Showing} c.in_ok-place.field-0 None = none_of c.in_ok-place.field-0 c.in_default-2.not-Some in
    let found : IsSealedName c.args.keys.now c.args.identifier.now c.as_bytes.result.now c.in-Some.name =
    some_fact c.in_ok-name.field-0 (λ (n : List ℕ). IsSealedName c.args.keys.now c.args.identifier.now c.as_bytes.result.now n) c.in-Some.name c.in-Some.is c.in_ok-name.ensures.found in
    let opens : ◌≡◌ {A = Option (List ℕ)} (opened_name c.args.keys.now c.args.identifier.now c.args.entry) (Some c.in-Some.name) =
    ap (opened_name c.args.keys.now c.args.identifier.now) (sym c.as_bytes.ensures) ∙ sym c.in_ok-name.ensures.value ∙ c.in-Some.is in
    let opened : IsOpened (sealing_of c.args.keys.now) c.args.identifier.now c.args.entry c.in-Some.name = record { opens = opens; sealed = sym c.as_bytes.ensures ∙ found.sealed } in
    told_kept (g.R.Reads.log c.args.from.now) (g.R.Reads.log c.args.from.now)
    (λ d. IsTree d → IsPlace d c.args.node.now false (short_at d c.args.node.now) c.in_ok-place.field-0)
    (λ d. IsReadable (sealing_of c.args.keys.now) d c.args.identifier.now c.args.entry (Taken c.in-Some.name)) refl c.in_ok-place.ensures.place
    (λ d p there.
    let foreign : IsForeign (sealing_of c.args.keys.now) d c.args.identifier.now c.args.entry =
    short_bare (sealing_of c.args.keys.now) c.are_ciphers.ensures d c.args.identifier.now c.args.entry c.requires.short c.requires.no_copy there c.requires.part
    (subst (λ (x : List (List ℕ)). IsPlace d x false (short_at d x) None) c.requires.node
    (subst (λ (o : Option Showing). IsPlace d c.args.node.now false (short_at d c.args.node.now) o) none (p there.tree))) in
    (foreign, taken_none (sealing_of c.args.keys.now) c.are_ciphers.ensures d c.args.identifier.now c.args.entry c.in-Some.name opened c.requires.part there foreign))

pub has_twin-requires : goal.has_twin-requires
has_twin-requires g c = subst (λ (x : List (List ℕ)). CanHoldNodes x) (sym c.requires.folder) (CanHoldNodes-host_folder c.args.keys.now c.args.identifier.now)

pub returns-clause-entry : goal.returns-clause-entry
returns-clause-entry g c =
    let node : FoundNode = record { entry = c.args.entry; long = false; shown = c.in-Some-2.place.shown; shadowed = c.is_shadowed-shadowed.result; part = c.requires.part } in
    let found : IsSealedName c.args.keys.now c.args.identifier.now c.as_bytes.result.now c.in-Some.name =
    some_fact c.in_ok-name.field-0 (λ (n : List ℕ). IsSealedName c.args.keys.now c.args.identifier.now c.as_bytes.result.now n) c.in-Some.name c.in-Some.is c.in_ok-name.ensures.found in
    let opens : ◌≡◌ {A = Option (List ℕ)} (opened_name c.args.keys.now c.args.identifier.now c.args.entry) (Some c.in-Some.name) =
    ap (opened_name c.args.keys.now c.args.identifier.now) (sym c.as_bytes.ensures) ∙ sym c.in_ok-name.ensures.value ∙ c.in-Some.is in
    let opened : IsOpened (sealing_of c.args.keys.now) c.args.identifier.now c.args.entry c.in-Some.name = record { opens = opens; sealed = sym c.as_bytes.ensures ∙ found.sealed } in
    told_kept2 (g.R.Reads.log c.args.from.now) (g.R.Reads.log c.args.from.now) (g.R.Reads.log c.short_place.new.from)
    (λ d. IsTree d → IsPlace d c.args.node.now false (short_at d c.args.node.now) c.in_ok-place.field-0)
    (λ d. IsTrue c.in_ok-twin.twin ↔ (name_in d (c.args.folder.now ++ long_folder c.as_bytes-2.result.now ∷ []) ≡ Some c.as_bytes-2.result.now))
    (λ d. IsReadable (sealing_of c.args.keys.now) d c.args.identifier.now c.args.entry (Node c.in-Some.name node)) refl c.in_ok-place.ensures.log
    c.in_ok-place.ensures.place c.in_ok-twin.ensures.twin
    (λ d p t there. short_found (sealing_of c.args.keys.now) c.are_ciphers.ensures d c.args.identifier.now c.args.entry c.in-Some.name c.in-Some-2.place c.in_ok-twin.twin node opened c.requires.part
    (subst (λ (x : List (List ℕ)). IsPlace d x false (short_at d x) (Some c.in-Some-2.place)) c.requires.node
    (subst (λ (o : Option Showing). IsPlace d c.args.node.now false (short_at d c.args.node.now) o) c.in-Some-2.is (p there.tree)))
    (subst (λ (x : List ℕ). IsTrue c.in_ok-twin.twin ↔ (name_in d (host_folder (base32 (hash_of c.args.keys.now c.args.identifier.now)) ++ long_folder x ∷ []) ≡ Some x)) c.as_bytes-2.ensures
    (subst (λ (x : List (List ℕ)). IsTrue c.in_ok-twin.twin ↔ (name_in d (x ++ long_folder c.as_bytes-2.result.now ∷ []) ≡ Some c.as_bytes-2.result.now)) c.requires.folder t))
    refl refl refl c.is_shadowed-shadowed.ensures there)
