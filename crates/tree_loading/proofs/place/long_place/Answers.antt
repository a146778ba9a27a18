use Rattle.std.proofs.Common.{true, Some, Option, refl, subst}
use Rattle.outside.specs.Disk.{IsListing}
use Rattle.tree_loading.specs.declared.found.Shown.{Shown}
use Rattle.tree_loading.specs.Reading.{Shows, known_file, long_kind}
use Rattle.tree_loading.specs.Showing.{IsPlace}
use Rattle.tree_loading.proofs.Files.{told_kept2}
use Rattle.tree_loading.proofs.Names.{further_listed}
use Rattle.tree_loading.proofs.place.long_place.Goals as goal

pub returns-clause-place : goal.returns-clause-place
returns-clause-place g c =
    told_kept2 (g.R.Reads.log c.args.from.now) (g.R.Reads.log c.args.from.now) (g.R.Reads.log c.args.from.now)
    (λ d. IsListing d c.args.node.now c.args.names.now)
    (λ d. Shows (long_kind d c.args.node.now) c.in_ok-shown.field-0)
    (λ d. IsPlace d c.args.node.now true (Some (long_kind d c.args.node.now)) (Some (record { shown = c.in-Some.shown; further = c.has_further-further.result })))
    refl refl c.requires.listed c.in_ok-shown.ensures.shown
    (λ d listing shows. (
      long_kind d c.args.node.now,
      refl,
      record {
        shows = subst (λ (o : Option Shown). Shows (long_kind d c.args.node.now) o) c.in-Some.is shows;
        further = further_listed d c.args.node.now c.args.names.now (known_file c.in-Some.shown) true c.has_further-further.result listing c.has_further-further.ensures;
      },
    ))
