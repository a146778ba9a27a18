use Rattle.std.proofs.Common.{◌≡◌, ℕ, ◌<◌, ◌^◌, List, Some, sym, ap, subst, ◌∙◌, arith}
use Rattle.outside.specs.Calls.{Told}
use Rattle.outside.specs.Disk.{node_at, file}
use Rattle.outside.specs.Images.{now}
use Rattle.deeds.specs.Deeds.{PlainDeed}
use Rattle.pending_files.specs.Laid.{laid, CanWait}
use Rattle.live_tree_laws.specs.Writing.{IsRewritten}
use Rattle.content_laws.specs.Rewriting.{rewritten}
use Rattle.write_back.specs.Deeds.{rewriting_in}
use Rattle.write_back.specs.Sealed.{rewriting_of}
use Rattle.write_back.specs.View.{WriteBackView}
use Rattle.write_back.proofs.Showing.{can_of, headers_of, both_of, at_view}
use Rattle.write_back.proofs.WaitingLogs.{put_waits, put_rewrites}
use Rattle.write_back.proofs.back.WriteBack.put.Goals as goal

pub returns-clause-waits : goal.returns-clause-waits
returns-clause-waits g c =
    let back = c.args.self.now in
    let path = c.args.path.now in
    let r = rewriting_of c.args.change.now in
    let fits : r.size < 2 ^ 64 = omega arith in
    let can = at_view (λ f w. Told (g.D.Reads.log f) (λ l. CanWait w (now l))) _ _ _ c.self.view_is (can_of (g.D.Reads.log c.self.inside.journal) c.self.inside.pending c.self.inside.headers c.self.invariant) in
    let waits = put_waits back.waiting path c.args.len r c.requires.room c.requires.can fits (g.D.Reads.log back.folder) can c.requires.file in
    let here = subst (λ (v : WriteBackView _). Told (g.D.Reads.log v.folder) (λ l. CanWait (rewriting_in path c.args.len r v.waiting) (now l))) (sym c.self.view_is) waits in
    subst (λ (l : List PlainDeed). Told (g.D.Reads.log c.self.inside.journal) (λ log. CanWait l (now log))) (sym c.put_behind.ensures.deeds) here

pub invariant_of-self : goal.invariant_of-self
invariant_of-self g c =
    both_of (g.D.Reads.log c.self.inside.journal) c.put_behind.new.pending c.self.inside.headers (returns-clause-waits g c)
    (headers_of (g.D.Reads.log c.self.inside.journal) c.self.inside.pending c.self.inside.headers c.self.invariant)

pub returns-clause-rewritten : goal.returns-clause-rewritten
returns-clause-rewritten g c =
    let back = c.args.self.now in
    let path = c.args.path.now in
    let r = rewriting_of c.args.change.now in
    let fits : r.size < 2 ^ 64 = omega arith in
    let can = at_view (λ f w. Told (g.D.Reads.log f) (λ l. CanWait w (now l))) _ _ _ c.self.view_is (can_of (g.D.Reads.log c.self.inside.journal) c.self.inside.pending c.self.inside.headers c.self.invariant) in
    let new = c.put_behind.ensures.deeds ∙ ap (λ (v : WriteBackView _). rewriting_in path c.args.len r v.waiting) c.self.view_is in
    subst (λ (l : List PlainDeed). Told (g.D.Reads.log back.folder) (λ log. (bytes : List ℕ) → node_at (laid back.waiting (now log)) path ≡ Some (file bytes)
    → IsRewritten (laid back.waiting (now log)) (laid l (now log)) path (rewritten bytes r))) (sym new)
    (put_rewrites back.waiting path c.args.len r c.requires.room c.requires.can fits (g.D.Reads.log back.folder) can c.requires.file)
