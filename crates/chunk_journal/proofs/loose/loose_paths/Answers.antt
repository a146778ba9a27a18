use Rattle.std.proofs.Common.{◌≡◌, ◌↔◌, ◌++◌, Contains, List, Option, None, Some, sym, ap, subst, ◌∙◌}
use Rattle.std.specs.Prelude.{MatchOption}
use Rattle.std.specs.declared.vec.Vec.{Vec}
use Rattle.std.specs.declared.alloc.Global.{Global}
use Rattle.outside.specs.Calls.{Told}
use Rattle.outside.specs.Disk.{Path}
use Rattle.outside.specs.Images.{Log, now}
use Rattle.outside.proofs.Told.{told_then}
use Rattle.deeds.specs.Deeds.{named}
use Rattle.deeds.specs.Plain.{plains}
use Rattle.deeds.specs.declared.deed.Deed.{Deed}
use Rattle.chunk_journal.specs.Journal.{HoldsBatch, IsClosed, IsLoose}
use Rattle.chunk_journal.specs.Opening.{HasFolder}
use Rattle.chunk_journal.proofs.LoosePaths.{closed_loose, held_loose, two_files}
use Rattle.chunk_journal.proofs.loose.loose_paths.Goals as goal
use Rattle.chunk_journal.proofs.loose.loose_paths.Goals.{in-Some+in_ok-add_named, in_default}

-- what follows the gate, if anything
abbrev Looks : Option (Vec Deed Global) → Log → Type 0
Looks found log = (HasFolder (now log) → ⊥) × MatchOption found (IsClosed (now log)) (λ deeds. HoldsBatch (now log) (plains deeds.items))

-- these are all that are loose
abbrev Lists : List Path → Log → Type 0
Lists items log = (path : Path) → Contains items path ↔ IsLoose (now log) path

pub returns-clause-exact : goal.returns-clause-exact
returns-clause-exact g c =
    let log = g.D.Reads.log c.args.folder.now in
    elim c.match-found-2.branch [
      | in-Some+in_ok-add_named w ↦
          let found : Told log (Looks (Some w.in-Some.deeds)) = subst (λ (o : Option (Vec Deed Global)). Told log (Looks o)) w.in-Some.is c.in_ok-found.ensures.found in
          let items : c.match-found-2.paths.items ≡ two_files ++ named (plains w.in-Some.deeds.items) =
          ap (λ (v : Vec Path Global). v.items) w.paths-is ∙ w.in_ok-add_named.ensures ∙ ap (λ (l : List Path). l ++ named (plains w.deref.result.now)) c.in_ok-paths.ensures
          ∙ ap (λ (ds : List Deed). two_files ++ named (plains ds)) w.deref.ensures.value in
          told_then log (Looks (Some w.in-Some.deeds)) (Lists c.match-found-2.paths.items) found
          (λ l p. subst (λ (ps : List Path). Lists ps l) (sym items) (held_loose (plains w.in-Some.deeds.items) (now l) p.1))
      | in_default w ↦
          let found : Told log (Looks None) = subst (λ (o : Option (Vec Deed Global)). Told log (Looks o)) w.in_default.is c.in_ok-found.ensures.found in
          let items : c.match-found-2.paths.items ≡ two_files = ap (λ (v : Vec Path Global). v.items) w.paths-is ∙ c.in_ok-paths.ensures in
          told_then log (Looks None) (Lists c.match-found-2.paths.items) found (λ l p. subst (λ (ps : List Path). Lists ps l) (sym items) (closed_loose (now l) p.1))
    ]
