use Rattle.std.proofs.Common.{◌*◌, ◌<◌, ◌≡◌, ◌∙◌, ℕ, List, Some, Option, ap, length, subst, arith}
use Rattle.std.proofs.lemmas.List.{length-append}
use Rattle.std.proofs.lemmas.Result.{err_from_is_err_and}
use Rattle.outside.specs.Calls.{Told}
use Rattle.outside.specs.Disk.{Disk}
use Rattle.outside.specs.Images.{Log, disk_in}
use Rattle.file_chunks.specs.File.{content_of}
use Rattle.content_reader.specs.Reading.{IsFileOf, read_of}
use Rattle.demonstration.specs.Reading.{IsUnread}
use Rattle.demonstration.specs.declared.error.LeftErr.TheVariants.{Damaged}
use Rattle.demonstration.proofs.Slices.{told_more, told_last, told_past}
use Rattle.demonstration.proofs.Unread.{passed_on}
use Rattle.demonstration.proofs.contents.read_whole.Goals as goal

pub loop-index-preserved : goal.loop-index-preserved
loop-index-preserved g c =
    let so_far = c.loop-index.invariant in
    let read = c.in_ok-count.ensures.read in
    let told = subst (λ (o : Option Log). Told (disk_in o) (λ d. (sealed : List ℕ) → IsFileOf d c.args.file.now.path c.args.file.now.size sealed → read_of (content_of c.args.keys.now sealed) (c.loop-index.index * 65536) 65536 ≡ Some read.more))
    so_far.log read.bytes in
    record {
      log = c.in_ok-count.ensures.log ∙ so_far.log;
      room = c.in_ok-count.ensures.room;
      many = omega (arith, ap length read.joins, length-append c.loop-index.bytes.items read.more, read.long, c.if-count-lt-PIECE.false, read.few, so_far.many);
      bytes = told_more (disk_in (g.R.Reads.log c.args.folder.now)) (λ d sealed. IsFileOf d c.args.file.now.path c.args.file.now.size sealed) (content_of c.args.keys.now)
          (c.loop-index.index * 65536) 65536 c.loop-index.bytes.items read.more c.read_piece.new.bytes.items read.joins so_far.bytes told _ (omega arith);
    }

pub returns-then-count-lt-PIECE-clause-bytes : goal.returns-then-count-lt-PIECE-clause-bytes
returns-then-count-lt-PIECE-clause-bytes g c =
    let so_far = c.loop-index.invariant in
    let read = c.in_ok-count.ensures.read in
    let told = subst (λ (o : Option Log). Told (disk_in o) (λ d. (sealed : List ℕ) → IsFileOf d c.args.file.now.path c.args.file.now.size sealed → read_of (content_of c.args.keys.now sealed) (c.loop-index.index * 65536) 65536 ≡ Some read.more))
    so_far.log read.bytes in
    told_last (disk_in (g.R.Reads.log c.args.folder.now)) (λ d sealed. IsFileOf d c.args.file.now.path c.args.file.now.size sealed) (content_of c.args.keys.now)
    (c.loop-index.index * 65536) 65536 c.loop-index.bytes.items read.more c.read_piece.new.bytes.items read.joins so_far.bytes told (omega (arith, read.long, c.if-count-lt-PIECE.true))

pub returns-in_err-count-clause-damaged : goal.returns-in_err-count-clause-damaged
returns-in_err-count-clause-damaged g c = λ is.
    let p = err_from_is_err_and c.from_residual-in_err-count.result c.from_residual-in_err-count.ensures.1 in
    subst (λ (o : Option Log). IsUnread (disk_in o) c.args.keys.now c.args.file.now) c.loop-index.invariant.log
    (c.in_err-count.ensures.damaged (passed_on c.from_residual-in_err-count.result p.0 c.in_err-count.field-0.0 Damaged p.1 p.2 is))

pub returns-clause-damaged : goal.returns-clause-damaged
returns-clause-damaged g c = λ is.
    let so_far = c.loop-index.invariant in
    let past : c.args.file.now.size < length c.loop-index.bytes.items = omega (arith, so_far.many, c.loop-index-test.false) in
    told_past (disk_in (g.R.Reads.log c.args.folder.now)) (λ (d : Disk) (sealed : List ℕ). IsFileOf d c.args.file.now.path c.args.file.now.size sealed) c.args.keys.now
    (c.loop-index.index * 65536) c.args.file.now.size c.loop-index.bytes.items c.have_32_bytes.ensures.enc past (λ d sealed p. p.long) so_far.bytes
