use Rattle.std.proofs.Common.{◌≡◌, true, false, List, ℕ, Option, Some, None, refl, sym, ap, subst, ◌∙◌}
use Rattle.vault_names.specs.Places.{ReadsLong}
use Rattle.vault_names.specs.Sealed.{IsSealedName, opened_name}
use Rattle.tree_loading.specs.Format.{sealing_of}
use Rattle.tree_loading.specs.Reading.{CanHoldParts, name_in}
use Rattle.tree_loading.specs.Entries.{IsLongName, IsNoLongName}
use Rattle.tree_loading.proofs.Files.{told_kept, some_fact}
use Rattle.tree_loading.proofs.Names.{unread, unopened, long_named}
use Rattle.tree_loading.proofs.Paths.{CanHoldNodes-host_folder}
use Rattle.tree_loading.proofs.entry.long_name.Goals as goal

pub name_in-requires : goal.name_in-requires
name_in-requires g c =
    subst (λ (x : List (List ℕ)). CanHoldParts x) (sym c.requires.node) ((CanHoldNodes-host_folder c.args.keys.now c.args.identifier.now).inner c.args.entry.now c.requires.part)

pub returns-then-not-reads_long-clause-name : goal.returns-then-not-reads_long-clause-name
returns-then-not-reads_long-clause-name g c =
    let some : Some c.in-Some.text ≡ c.in_ok-text.field-0 = sym c.in-Some.is in
    let other : ReadsLong c.args.entry.now c.in-Some.text → ⊥ = λ r.
    (let yes : c.reads_long.result ≡ true = c.reads_long.ensures.1 (subst (λ (x : List ℕ). ReadsLong c.args.entry.now x) (sym c.as_bytes.ensures) r) in
    let bad : true ≡ false = sym yes ∙ c.if-not-reads_long.true in cc bad) in
    told_kept (g.R.Reads.log c.args.from.now) (g.R.Reads.log c.args.from.now) (λ d. c.in_ok-text.field-0 ≡ name_in d c.args.node.now)
    (λ d. IsNoLongName (sealing_of c.args.keys.now) d c.args.identifier.now c.args.entry.now) refl c.in_ok-text.ensures.text
    (λ d read. unread c.args.keys.now d c.args.identifier.now c.args.entry.now c.args.node.now c.requires.node c.in-Some.text (some ∙ read) other)

pub returns-in-Some-2-clause-name : goal.returns-in-Some-2-clause-name
returns-in-Some-2-clause-name g c =
    let some : Some c.in-Some.text ≡ c.in_ok-text.field-0 = sym c.in-Some.is in
    let reads : ReadsLong c.args.entry.now c.in-Some.text = subst (λ (x : List ℕ). ReadsLong c.args.entry.now x) c.as_bytes.ensures (c.reads_long.ensures.0 c.if-not-reads_long.false) in
    let found : IsSealedName c.args.keys.now c.args.identifier.now c.as_bytes-2.result.now c.in-Some-2.name =
    some_fact c.in_ok-name.field-0 (λ (n : List ℕ). IsSealedName c.args.keys.now c.args.identifier.now c.as_bytes-2.result.now n) c.in-Some-2.name c.in-Some-2.is c.in_ok-name.ensures.found in
    let sealed : IsSealedName c.args.keys.now c.args.identifier.now c.in-Some.text c.in-Some-2.name =
    subst (λ (x : List ℕ). IsSealedName c.args.keys.now c.args.identifier.now x c.in-Some-2.name) c.as_bytes-2.ensures found in
    let opens : ◌≡◌ {A = Option (List ℕ)} (Some c.in-Some-2.name) (opened_name c.args.keys.now c.args.identifier.now c.in-Some.text) =
    sym c.in-Some-2.is ∙ c.in_ok-name.ensures.value ∙ ap (opened_name c.args.keys.now c.args.identifier.now) c.as_bytes-2.ensures in
    told_kept (g.R.Reads.log c.args.from.now) (g.R.Reads.log c.args.from.now) (λ d. c.in_ok-text.field-0 ≡ name_in d c.args.node.now)
    (λ d. IsLongName (sealing_of c.args.keys.now) d c.args.identifier.now c.args.entry.now c.in-Some-2.name c.in-Some.text) refl c.in_ok-text.ensures.text
    (λ d read. long_named c.args.keys.now d c.args.identifier.now c.args.entry.now c.args.node.now c.requires.node c.in-Some.text (some ∙ read) c.in-Some-2.name reads sealed opens)

pub returns-in-None-clause-name : goal.returns-in-None-clause-name
returns-in-None-clause-name g c =
    let some : Some c.in-Some.text ≡ c.in_ok-text.field-0 = sym c.in-Some.is in
    let none : ◌≡◌ {A = Option (List ℕ)} None (opened_name c.args.keys.now c.args.identifier.now c.in-Some.text) =
    sym c.in-None.is ∙ c.in_ok-name.ensures.value ∙ ap (opened_name c.args.keys.now c.args.identifier.now) c.as_bytes-2.ensures in
    told_kept (g.R.Reads.log c.args.from.now) (g.R.Reads.log c.args.from.now) (λ d. c.in_ok-text.field-0 ≡ name_in d c.args.node.now)
    (λ d. IsNoLongName (sealing_of c.args.keys.now) d c.args.identifier.now c.args.entry.now) refl c.in_ok-text.ensures.text
    (λ d read. unopened c.args.keys.now d c.args.identifier.now c.args.entry.now c.args.node.now c.requires.node c.in-Some.text (some ∙ read) none)
