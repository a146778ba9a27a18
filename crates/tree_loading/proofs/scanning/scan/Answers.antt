use Rattle.std.proofs.Common.{MatchOption, refl, ap}
use Rattle.outside.specs.Disk.{IsFolder, IsListing, IsTree}
use Rattle.clear_tree.specs.Scan.{IsScanned}
use Rattle.tree_loading.specs.Format.{sealing_of}
use Rattle.tree_loading.specs.Scanned.{all_found}
use Rattle.tree_loading.specs.Entries.{AreThere, IsGathered}
use Rattle.tree_loading.proofs.Files.{told_kept3, match_some}
use Rattle.tree_loading.proofs.Listing.{is_scanned, found_sorted, none_sorted}
use Rattle.tree_loading.proofs.scanning.scan.Goals as goal

-- the folder's log stayed the same from call to call
pub returns-clause-scanned : goal.returns-clause-scanned
returns-clause-scanned g c =
    rw c.new-scanned.ensures
    (told_kept3 (g.R.Reads.log c.args.from.now) (g.R.Reads.log c.args.from.now) (g.R.Reads.log c.args.from.now) (g.R.Reads.log c.names_in.new.from)
    IsTree
    (λ d. MatchOption c.in_ok-entries.field-0 (¬ IsFolder d c.args.folder.now) (λ listed. IsFolder d c.args.folder.now × IsListing d c.args.folder.now listed.items))
    (λ d. AreThere (sealing_of c.args.keys.now) d c.args.identifier.now c.in-Some.entries.items
    → IsGathered (sealing_of c.args.keys.now) d c.args.identifier.now c.in-Some.entries.items c.in_ok-gathered.gathered.nodes.entries c.in_ok-gathered.gathered.foreign)
    (λ d. IsFolder d c.args.folder.now → IsScanned (sealing_of c.args.keys.now) d c.args.identifier.now (all_found c.in_ok-nodes.nodes.items) c.in_ok-gathered.gathered.foreign)
    refl refl c.in_ok-entries.ensures.log
    c.in_ok-entries.ensures.tree c.in_ok-entries.ensures.names c.in_ok-gathered.ensures.gathered
    (λ d tree m all folder. is_scanned (sealing_of c.args.keys.now) c.are_ciphers.ensures d c.args.identifier.now c.args.folder.now c.in-Some.entries.items
    c.in_ok-gathered.gathered.nodes.entries c.in_ok-nodes.nodes.items c.in_ok-gathered.gathered.foreign c.requires c.in_ok-nodes.ensures.same c.in_ok-nodes.ensures.sorted tree
    (match_some c.in_ok-entries.field-0 (¬ IsFolder d c.args.folder.now) (λ listed. IsFolder d c.args.folder.now × IsListing d c.args.folder.now listed.items) c.in-Some.entries c.in-Some.is m).1 all))

pub returns-in_default-clause-sorted : goal.returns-in_default-clause-sorted
returns-in_default-clause-sorted g c = none_sorted c.new-in_default.result.found c.new.result.items c.new.ensures.items (ap (λ s. s.found) c.new-in_default.ensures)

pub returns-clause-sorted : goal.returns-clause-sorted
returns-clause-sorted g c = found_sorted c.in_ok-nodes.nodes.items c.new-scanned.result.found (ap (λ s. s.found) c.new-scanned.ensures) c.in_ok-nodes.ensures.sorted
