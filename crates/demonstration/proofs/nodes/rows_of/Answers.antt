use Rattle.std.proofs.Common.{◌≡◌, ◌<◌, ◌∙◌, ◌∷◌, [], suc, List, Option, length, sym, ap, subst, arith}
use Rattle.std.proofs.lemmas.List.{length-append}
use Rattle.outside.specs.Disk.{Disk}
use Rattle.std.proofs.lemmas.Result.{err_from_is_err_and}
use Rattle.outside.specs.Images.{Log, disk_in}
use Rattle.file_chunks.specs.File.{content_of}
use Rattle.demonstration.specs.declared.rows.DemoRow.{DemoRow}
use Rattle.demonstration.specs.declared.error.LeftErr.TheVariants.{Damaged}
use Rattle.demonstration.specs.Left.{IsDamaged}
use Rattle.demonstration.specs.Nodes.{AreRowsOf, HasHost, IsRowOf}
use Rattle.demonstration.proofs.Places.{rows_pushed}
use Rattle.demonstration.proofs.Unread.{passed_on}
use Rattle.demonstration.proofs.nodes.rows_of.Goals as goal

pub loop-number-preserved : goal.loop-number-preserved
loop-number-preserved g c =
    let so_far = c.loop-number.invariant in
    let keys = c.args.keys.now in
    let tree = c.args.tree.now in
    let first = disk_in (g.R.Reads.log c.args.folder.now) in
    let now = disk_in (g.R.Reads.log c.loop-number.folder) in
    let same : now ≡ first = ap disk_in so_far.log in
    let rows = c.loop-number.rows.items in
    let row = c.in_ok-row.row in
    let all : AreRowsOf keys now tree c.deref.result.now =
    subst (λ (l : List DemoRow). AreRowsOf keys now tree l) (sym c.deref.ensures.value) (subst (λ (d : Option Disk). AreRowsOf keys d tree rows) (sym same) so_far.rows)
    in
    let is : IsRowOf keys first tree c.loop-number.number row = subst (λ (d : Option Disk). IsRowOf keys d tree c.loop-number.number row) same (c.in_ok-row.ensures.row all) in
    record {
      log = c.in_ok-row.ensures.log ∙ so_far.log;
      count = omega (arith, ap length c.in_ok-push.ensures.items, length-append rows (row ∷ []), so_far.count);
      rows = subst (λ (l : List DemoRow). AreRowsOf keys first tree l) (sym c.in_ok-push.ensures.items) (rows_pushed keys first tree rows row c.loop-number.number so_far.count so_far.rows is);
    }

pub returns-in_err-row-clause-damaged : goal.returns-in_err-row-clause-damaged
returns-in_err-row-clause-damaged g c = λ is.
    let so_far = c.loop-number.invariant in
    let keys = c.args.keys.now in
    let tree = c.args.tree.now in
    let number = c.loop-number.number in
    let p = err_from_is_err_and c.from_residual-in_err-row.result c.from_residual-in_err-row.ensures.1 in
    let many : suc (length c.deref.result.now) ≡ number = omega (arith, ap length c.deref.ensures.value, so_far.count) in
    let within : number < length tree.nodes = omega (arith, c.loop-number-test.true, c.len-number-end.ensures.count) in
    let host = c.in_err-row.ensures.damaged (passed_on c.from_residual-in_err-row.result p.0 c.in_err-row.field-0.0 Damaged p.1 p.2 is) c.len-number-end.ensures.tree many within in
    record {
      number = number;
      host = subst (λ (o : Option Log). HasHost (disk_in o) tree number (λ sealed. IsDamaged (content_of keys sealed))) so_far.log host;
    }
