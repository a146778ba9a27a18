use Rattle.std.proofs.Common.{◌≡◌, ◌≢◌, ◌↔◌, true, false, List, ℕ, Option, Some, None, IsTrue, MatchOption, refl, sym, subst, ◌∙◌}
use Rattle.vault_names.specs.Folder.{base32, hash_of}
use Rattle.outside.specs.Disk.{IsFolder, IsListing}
use Rattle.clear_tree.specs.Places.{entry_at}
use Rattle.tree_loading.specs.declared.found.FoundNode.{FoundNode}
use Rattle.tree_loading.specs.declared.place.Showing.{Showing}
use Rattle.tree_loading.specs.declared.entry.Entry.TheVariants.{Node, Foreign}
use Rattle.tree_loading.specs.Format.{sealing_of}
use Rattle.tree_loading.specs.Reading.{CanHoldParts, entry_in, long_kind}
use Rattle.tree_loading.specs.Showing.{IsPlace}
use Rattle.tree_loading.specs.Entries.{IsLongName, IsNoLongName, IsReadable}
use Rattle.tree_loading.proofs.Files.{told_kept, told_kept2, told_kept3, match_none, match_some, none_of}
use Rattle.tree_loading.proofs.Cases.{long_no_folder, long_unnamed, long_twin, long_bare, long_found}
use Rattle.tree_loading.proofs.Paths.{CanHoldNodes-host_folder}
use Rattle.tree_loading.proofs.entry.long_entry.Goals as goal

pub returns-in_default-clause-entry : goal.returns-in_default-clause-entry
returns-in_default-clause-entry g c =
    told_kept (g.R.Reads.log c.args.from.now) (g.R.Reads.log c.args.from.now)
    (λ d. MatchOption c.in_ok-names.field-0 (¬ IsFolder d c.args.node.now) (λ listed. IsFolder d c.args.node.now × IsListing d c.args.node.now listed.items))
    (λ d. IsReadable (sealing_of c.args.keys.now) d c.args.identifier.now c.args.entry Foreign) refl c.in_ok-names.ensures.names
    (λ d m there. long_no_folder (sealing_of c.args.keys.now) c.are_ciphers.ensures d c.args.identifier.now c.args.entry c.requires.long there
    (subst (λ (x : List (List ℕ)). ¬ IsFolder d x) c.requires.node
    (match_none c.in_ok-names.field-0 (¬ IsFolder d c.args.node.now) (λ listed. IsFolder d c.args.node.now × IsListing d c.args.node.now listed.items) c.in_default.is m)))

pub returns-in_default-2-clause-entry : goal.returns-in_default-2-clause-entry
returns-in_default-2-clause-entry g c =
    told_kept (g.R.Reads.log c.args.from.now) (g.R.Reads.log c.names_in.new.from)
    (λ d. MatchOption c.in_ok-name.field-0 (IsNoLongName (sealing_of c.args.keys.now) d c.args.identifier.now c.as_bytes.result.now)
    (λ f. IsLongName (sealing_of c.args.keys.now) d c.args.identifier.now c.as_bytes.result.now f.0 f.1))
    (λ d. IsReadable (sealing_of c.args.keys.now) d c.args.identifier.now c.args.entry Foreign) c.in_ok-names.ensures.log c.in_ok-name.ensures.name
    (λ d m there. long_unnamed (sealing_of c.args.keys.now) c.are_ciphers.ensures d c.args.identifier.now c.args.entry c.requires.long there
    (subst (λ (x : List ℕ). IsNoLongName (sealing_of c.args.keys.now) d c.args.identifier.now x) c.as_bytes.ensures
    (match_none c.in_ok-name.field-0 (IsNoLongName (sealing_of c.args.keys.now) d c.args.identifier.now c.as_bytes.result.now)
    (λ f. IsLongName (sealing_of c.args.keys.now) d c.args.identifier.now c.as_bytes.result.now f.0 f.1) c.in_default-2.is m)))

pub is_there-requires : goal.is_there-requires
is_there-requires g c = subst (λ (x : List (List ℕ)). CanHoldParts x) (sym c.requires.folder) (CanHoldNodes-host_folder c.args.keys.now c.args.identifier.now).entries

pub returns-then-branch-clause-entry : goal.returns-then-branch-clause-entry
returns-then-branch-clause-entry g c =
    told_kept2 (g.R.Reads.log c.args.from.now) (g.R.Reads.log c.names_in.new.from) (g.R.Reads.log c.long_name.new.from)
    (λ d. MatchOption c.in_ok-name.field-0 (IsNoLongName (sealing_of c.args.keys.now) d c.args.identifier.now c.as_bytes.result.now)
    (λ f. IsLongName (sealing_of c.args.keys.now) d c.args.identifier.now c.as_bytes.result.now f.0 f.1))
    (λ d. IsTrue c.in_ok-is_there.field-0 ↔ (entry_in d c.args.folder.now c.as_bytes-2.result.now ≢ None))
    (λ d. IsReadable (sealing_of c.args.keys.now) d c.args.identifier.now c.args.entry Foreign) c.in_ok-names.ensures.log (c.in_ok-name.ensures.log ∙ c.in_ok-names.ensures.log) c.in_ok-name.ensures.name c.in_ok-is_there.ensures.there
    (λ d m t there.
    let name : IsLongName (sealing_of c.args.keys.now) d c.args.identifier.now c.args.entry c.in-Some-2.name c.in-Some-2.text =
    subst (λ (x : List ℕ). IsLongName (sealing_of c.args.keys.now) d c.args.identifier.now x c.in-Some-2.name c.in-Some-2.text) c.as_bytes.ensures
    (match_some c.in_ok-name.field-0 (IsNoLongName (sealing_of c.args.keys.now) d c.args.identifier.now c.as_bytes.result.now)
    (λ f. IsLongName (sealing_of c.args.keys.now) d c.args.identifier.now c.as_bytes.result.now f.0 f.1) (c.in-Some-2.name, c.in-Some-2.text) c.in-Some-2.is m) in
    let at : entry_in d c.args.folder.now c.as_bytes-2.result.now ≡ entry_at (sealing_of c.args.keys.now) d (base32 (hash_of c.args.keys.now c.args.identifier.now)) c.in-Some-2.text =
    λ j. entry_in d (c.requires.folder j) (c.as_bytes-2.ensures j) in
    long_twin (sealing_of c.args.keys.now) c.are_ciphers.ensures d c.args.identifier.now c.args.entry c.requires.long there c.in-Some-2.name c.in-Some-2.text name
    (λ none. t.0 c.if-branch.true (at ∙ none)))

pub long_place-requires-clause-parts : goal.long_place-requires-clause-parts
long_place-requires-clause-parts g c =
    subst (λ (x : List (List ℕ)). CanHoldParts x) (sym c.requires.node) ((CanHoldNodes-host_folder c.args.keys.now c.args.identifier.now).inner c.args.entry c.requires.part)

pub long_place-requires-clause-listed : goal.long_place-requires-clause-listed
long_place-requires-clause-listed g c =
    told_kept (g.R.Reads.log c.is_there.new.from) (g.R.Reads.log c.args.from.now)
    (λ d. MatchOption c.in_ok-names.field-0 (¬ IsFolder d c.args.node.now) (λ listed. IsFolder d c.args.node.now × IsListing d c.args.node.now listed.items))
    (λ d. IsListing d c.args.node.now c.deref.result.now) (sym (c.in_ok-is_there.ensures.log ∙ c.in_ok-name.ensures.log ∙ c.in_ok-names.ensures.log)) c.in_ok-names.ensures.names
    (λ d m. subst (λ (ns : List (List ℕ)). IsListing d c.args.node.now ns) (sym c.deref.ensures.value)
    (match_some c.in_ok-names.field-0 (¬ IsFolder d c.args.node.now) (λ listed. IsFolder d c.args.node.now × IsListing d c.args.node.now listed.items) c.in-Some.names c.in-Some.is m).1)

pub returns-in_default-3-clause-entry : goal.returns-in_default-3-clause-entry
returns-in_default-3-clause-entry g c =
    let none : ◌≡◌ {A = Option Showing} c.in_ok-place.field-0 None = none_of c.in_ok-place.field-0 c.in_default-3.not-Some in
    told_kept (g.R.Reads.log c.args.from.now) (g.R.Reads.log c.is_there.new.from)
    (λ d. IsPlace d c.args.node.now true (Some (long_kind d c.args.node.now)) c.in_ok-place.field-0)
    (λ d. IsReadable (sealing_of c.args.keys.now) d c.args.identifier.now c.args.entry Foreign) (c.in_ok-is_there.ensures.log ∙ c.in_ok-name.ensures.log ∙ c.in_ok-names.ensures.log) c.in_ok-place.ensures.place
    (λ d p there. long_bare (sealing_of c.args.keys.now) c.are_ciphers.ensures d c.args.identifier.now c.args.entry c.requires.long there
    (subst (λ (x : List (List ℕ)). IsPlace d x true (Some (long_kind d x)) None) c.requires.node
    (subst (λ (o : Option Showing). IsPlace d c.args.node.now true (Some (long_kind d c.args.node.now)) o) none p)))

pub returns-clause-entry : goal.returns-clause-entry
returns-clause-entry g c =
    let node : FoundNode = record { entry = c.args.entry; long = true; shown = c.in-Some-3.place.shown; shadowed = c.in-Some-3.place.further; part = c.requires.part } in
    told_kept3 (g.R.Reads.log c.args.from.now) (g.R.Reads.log c.names_in.new.from) (g.R.Reads.log c.long_name.new.from) (g.R.Reads.log c.is_there.new.from)
    (λ d. MatchOption c.in_ok-name.field-0 (IsNoLongName (sealing_of c.args.keys.now) d c.args.identifier.now c.as_bytes.result.now)
    (λ f. IsLongName (sealing_of c.args.keys.now) d c.args.identifier.now c.as_bytes.result.now f.0 f.1))
    (λ d. IsTrue c.in_ok-is_there.field-0 ↔ (entry_in d c.args.folder.now c.as_bytes-2.result.now ≢ None))
    (λ d. IsPlace d c.args.node.now true (Some (long_kind d c.args.node.now)) c.in_ok-place.field-0)
    (λ d. IsReadable (sealing_of c.args.keys.now) d c.args.identifier.now c.args.entry (Node c.in-Some-2.name node)) c.in_ok-names.ensures.log (c.in_ok-name.ensures.log ∙ c.in_ok-names.ensures.log) (c.in_ok-is_there.ensures.log ∙ c.in_ok-name.ensures.log ∙ c.in_ok-names.ensures.log)
    c.in_ok-name.ensures.name c.in_ok-is_there.ensures.there c.in_ok-place.ensures.place
    (λ d m t p there.
    let name : IsLongName (sealing_of c.args.keys.now) d c.args.identifier.now c.args.entry c.in-Some-2.name c.in-Some-2.text =
    subst (λ (x : List ℕ). IsLongName (sealing_of c.args.keys.now) d c.args.identifier.now x c.in-Some-2.name c.in-Some-2.text) c.as_bytes.ensures
    (match_some c.in_ok-name.field-0 (IsNoLongName (sealing_of c.args.keys.now) d c.args.identifier.now c.as_bytes.result.now)
    (λ f. IsLongName (sealing_of c.args.keys.now) d c.args.identifier.now c.as_bytes.result.now f.0 f.1) (c.in-Some-2.name, c.in-Some-2.text) c.in-Some-2.is m) in
    let at : entry_in d c.args.folder.now c.as_bytes-2.result.now ≡ entry_at (sealing_of c.args.keys.now) d (base32 (hash_of c.args.keys.now c.args.identifier.now)) c.in-Some-2.text =
    λ j. entry_in d (c.requires.folder j) (c.as_bytes-2.ensures j) in
    long_found (sealing_of c.args.keys.now) c.are_ciphers.ensures d c.args.identifier.now c.args.entry c.in-Some-2.text c.in-Some-2.name c.in-Some-3.place node name
    (λ some. let yes : c.in_ok-is_there.field-0 ≡ true = t.1 (λ none. some (sym at ∙ none)) in let bad : true ≡ false = sym yes ∙ c.if-branch.false in cc bad)
    (subst (λ (x : List (List ℕ)). IsPlace d x true (Some (long_kind d x)) (Some c.in-Some-3.place)) c.requires.node
    (subst (λ (o : Option Showing). IsPlace d c.args.node.now true (Some (long_kind d c.args.node.now)) o) c.in-Some-3.is p))
    refl refl refl refl)
