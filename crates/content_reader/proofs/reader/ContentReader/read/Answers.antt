use Rattle.std.proofs.Common.{◌≡◌, ◌≤◌, ◌-◌, length, min, Some, Ok, Err, sym, ap, ◌∙◌, arith}
use Rattle.std.proofs.lemmas.Result.{err_from_is_err_and}
use Rattle.outside.specs.Images.{disk_in}
use Rattle.outside.proofs.Told.{told_always, told_then}
use Rattle.file_chunks.specs.File.{clear_length, content_of}
use Rattle.content_reader.proofs.ReaderLemmas.{within_none, read_of_good, read_ends, copied_is}
use Rattle.content_reader.proofs.reader.ContentReader.read.Goals as goal

pub returns-then-count-eq0-clause-bytes : goal.returns-then-count-eq0-clause-bytes
returns-then-count-eq0-clause-bytes g c =
    let law = c.reads_are_slices.ensures in
    told_always (disk_in (g.R.Reads.log c.args.folder.now)) _ (λ d bytes is.
    let known : clear_length (length bytes) ≡ Some c.in-Some.length = ap clear_length is.long ∙ sym c.clear_len.ensures ∙ c.in-Some.is in
    read_of_good (content_of c.args.keys.now bytes) c.args.slice.at c.args.slice.count _ (law.good c.args.keys.now bytes c.in-Some.length known)
    ∙ law.empty c.args.keys.now bytes c.in-Some.length c.args.slice.at c.args.slice.count c.have_32_bytes.ensures.enc known
    (within_none c.in-Some.length c.args.slice.at c.args.slice.count (sym c.bytes_within-count.ensures ∙ c.if-count-eq0.true)))

pub returns-in_err-fill-clause-bytes : goal.returns-in_err-fill-clause-bytes
returns-in_err-fill-clause-bytes g c =
    let law = c.reads_are_slices.ensures in
    let p = err_from_is_err_and c.from_residual.result c.from_residual.ensures.1 in
    let has : c.bytes_within-count.result ≡ 0 → ⊥ = c.if-count-eq0.false in
    let some : c.bytes_within-count.result ≡ min (c.in-Some.length - c.args.slice.at) c.args.slice.count = c.bytes_within-count.ensures in
    rw (p.1, p.2) (told_then (disk_in (g.R.Reads.log c.args.folder.now)) _ _ c.in_err-fill.ensures.bytes (λ d ends bytes is.
    let known : clear_length (length bytes) ≡ Some c.in-Some.length = ap clear_length is.long ∙ sym c.clear_len.ensures ∙ c.in-Some.is in
    read_ends (content_of c.args.keys.now bytes) c.in-Some.length c.args.slice.at c.args.slice.count c.bytes_within-count.result _ _ _ (Err c.in_err-fill.field-0.0)
    (law.len c.args.keys.now bytes c.in-Some.length c.have_32_bytes.ensures.enc known) some (law.good c.args.keys.now bytes c.in-Some.length known)
    (ends bytes (record { there = is.there; size = c.in-Some.length; sized = known; inside = omega arith }))))

pub returns-clause-bytes : goal.returns-clause-bytes
returns-clause-bytes g c =
    let law = c.reads_are_slices.ensures in
    let has : c.bytes_within-count.result ≡ 0 → ⊥ = c.if-count-eq0.false in
    let some : c.bytes_within-count.result ≡ min (c.in-Some.length - c.args.slice.at) c.args.slice.count = c.bytes_within-count.ensures in
    told_then (disk_in (g.R.Reads.log c.args.folder.now)) _ _ c.in_ok-fill.ensures.bytes (λ d ends bytes is.
    let known : clear_length (length bytes) ≡ Some c.in-Some.length = ap clear_length is.long ∙ sym c.clear_len.ensures ∙ c.in-Some.is in
    let whole : length c.fill.new.out ≡ c.self.inside.gathered.len = omega (arith, c.fill.auto.out, c.deref_mut-3.ensures.len) in
    let room : c.bytes_within-count.result ≤ length c.fill.new.out = omega (arith, whole, c.requires.few, c.self.invariant) in
    read_ends (content_of c.args.keys.now bytes) c.in-Some.length c.args.slice.at c.args.slice.count c.bytes_within-count.result _ 0 0 (Ok _)
    (law.len c.args.keys.now bytes c.in-Some.length c.have_32_bytes.ensures.enc known) some (law.good c.args.keys.now bytes c.in-Some.length known)
    (ends bytes (record { there = is.there; size = c.in-Some.length; sized = known; inside = omega arith }) ∙ ap Some
    (copied_is c.bytes_within-count.result c.self.inside.gathered.len c.fill.new.out _ _ c.copy_from_slice.new.self c.deref.result.now room whole c.deref.ensures.value c.copy_from_slice.ensures.after)))
