use Rattle.std.proofs.Common.{List, ℕ, false, Some, Option, MatchOption, refl, sym, subst}
use Rattle.outside.specs.Disk.{IsFolder, IsListing}
use Rattle.tree_loading.specs.declared.found.Shown.{Shown}
use Rattle.tree_loading.specs.Reading.{Shows, known_file, short_kind}
use Rattle.tree_loading.specs.Showing.{IsPlace}
use Rattle.tree_loading.proofs.Files.{told_kept2, match_some}
use Rattle.tree_loading.proofs.Names.{further_listed}
use Rattle.tree_loading.proofs.place.short_folder.Goals as goal

pub returns-clause-place : goal.returns-clause-place
returns-clause-place g c =
    told_kept2 (g.R.Reads.log c.args.from.now) (g.R.Reads.log c.args.from.now) (g.R.Reads.log c.listing.new.from)
    (λ d. MatchOption c.in_ok-names.field-0 (¬ IsFolder d c.args.node.now) (λ listed. IsFolder d c.args.node.now × IsListing d c.args.node.now listed.items))
    (λ d. Shows (short_kind d c.args.node.now) c.in_ok-shown.field-0)
    (λ d. IsPlace d c.args.node.now false (Some (short_kind d c.args.node.now)) (Some (record { shown = c.in-Some-2.shown; further = c.has_further-further.result })))
    refl c.in_ok-names.ensures.log c.in_ok-names.ensures.names c.in_ok-shown.ensures.shown
    (λ d m shows. (
      short_kind d c.args.node.now,
      refl,
      record {
        shows = subst (λ (o : Option Shown). Shows (short_kind d c.args.node.now) o) c.in-Some-2.is shows;
        further = further_listed d c.args.node.now c.deref.result.now (known_file c.in-Some-2.shown) false c.has_further-further.result
            (subst (λ (ns : List (List ℕ)). IsListing d c.args.node.now ns) (sym c.deref.ensures.value)
            (match_some c.in_ok-names.field-0 (¬ IsFolder d c.args.node.now) (λ listed. IsFolder d c.args.node.now × IsListing d c.args.node.now listed.items) c.in-Some.names c.in-Some.is m).1)
            c.has_further-further.ensures;
      },
    ))
