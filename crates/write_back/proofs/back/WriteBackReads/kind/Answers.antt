use Rattle.std.proofs.Common.{◌≡◌, ℕ, Option, ap, ◌∙◌}
use Rattle.std.specs.Option.{option_map}
use Rattle.outside.specs.Calls.{Told}
use Rattle.outside.specs.Disk.{IsTree, kind_at}
use Rattle.outside.specs.Images.{disk_in}
use Rattle.pending_files.specs.Laid.{laid_log}
use Rattle.write_back.specs.Shown.{kind_with}
use Rattle.write_back.proofs.Showing.{can_of, at_view, told_tree, told_kind}
use Rattle.write_back.proofs.back.WriteBackReads.kind.Goals as goal

pub returns-in_err-found-clause-tree : goal.returns-in_err-found-clause-tree
returns-in_err-found-clause-tree g c =
    at_view (λ f w. Told (disk_in (option_map (laid_log w) (g.D.Reads.log f))) IsTree) _ _ _ c.self.view_is
    (told_tree (g.D.Reads.log c.self.inside.journal) c.self.inside.pending (can_of (g.D.Reads.log c.self.inside.journal) c.self.inside.pending c.self.inside.headers c.self.invariant) c.kind.ensures.tree)

pub returns-clause-tree : goal.returns-clause-tree
returns-clause-tree g c =
    at_view (λ f w. Told (disk_in (option_map (laid_log w) (g.D.Reads.log f))) IsTree) _ _ _ c.self.view_is
    (told_tree (g.D.Reads.log c.self.inside.journal) c.self.inside.pending (can_of (g.D.Reads.log c.self.inside.journal) c.self.inside.pending c.self.inside.headers c.self.invariant) c.kind.ensures.tree)

pub returns-clause-kind : goal.returns-clause-kind
returns-clause-kind g c =
    let found = c.in_ok-found.found in
    at_view (λ f w. Told (disk_in (option_map (laid_log w) (g.D.Reads.log f))) (λ d. c.shown_kind.result ≡ kind_at d c.args.path.now)) _ _ _ c.self.view_is
    (told_kind (g.D.Reads.log c.self.inside.journal) c.self.inside.pending c.args.path.now found c.shown_kind.result (can_of (g.D.Reads.log c.self.inside.journal) c.self.inside.pending c.self.inside.headers c.self.invariant)
    (c.shown_kind.ensures ∙ ap (λ (o : Option ℕ). kind_with o found) c.len_of.ensures) c.in_ok-found.ensures.kind)
