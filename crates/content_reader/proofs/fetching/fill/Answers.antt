use Rattle.std.proofs.Common.{◌≡◌, ◌≤◌, ◌<◌, ◌+◌, ◌*◌, length, take, arith, length-take, ◌∙◌}
use Rattle.std.proofs.lemmas.List.{take_at}
use Rattle.std.proofs.lemmas.Result.{err_from_is_err_and}
use Rattle.outside.specs.Images.{disk_in}
use Rattle.outside.proofs.Told.{told_then, told_both}
use Rattle.content_reader.proofs.ReadLemmas.{header_ends, span_is, front_filled, none_filled}
use Rattle.content_reader.proofs.Spans.{header_within}
use Rattle.content_reader.proofs.fetching.fill.Goals as goal

pub returns-in_err-header-clause-bytes : goal.returns-in_err-header-clause-bytes
returns-in_err-header-clause-bytes g c =
    let law = c.reads_are_slices.ensures in
    let p = err_from_is_err_and c.from_residual.result c.from_residual.ensures.1 in
    rw (p.1, p.2) (told_then (disk_in (g.R.Reads.log c.args.folder.now)) _ _ c.in_err-header.ensures.opened (λ d opened bytes is.
    let within : c.args.slice.at + c.args.slice.count ≤ is.size = is.inside in
    let some : 0 < c.args.slice.count = c.requires.some in
    header_ends _ _ _ _ c.in_err-header.field-0.0
    (law.closed c.args.keys.now bytes is.size c.args.slice.at c.args.slice.count c.have_32_bytes.ensures.enc is.sized (omega arith) c.requires.some)
    (opened bytes (record { there = is.there; long = header_within (length bytes) is.size c.args.slice.at is.sized (omega arith) }))))

pub returns-in_err-gather-clause-bytes : goal.returns-in_err-gather-clause-bytes
returns-in_err-gather-clause-bytes g c =
    let p = err_from_is_err_and c.from_residual-in_err-gather.result c.from_residual-in_err-gather.ensures.1 in
    rw (p.1, p.2, c.in_err-gather.ensures.error) (told_both (disk_in (g.R.Reads.log c.args.folder.now)) _ _ _ c.in_ok-header.ensures.opened (rw c.in_ok-header.ensures.log at c.in_ok-read.ensures.bytes) (λ d opened read bytes is.
    let room : length (take (32796 * c.few_chunks-first.result.1) c.args.sealed.now) ≡ 32796 * c.few_chunks-first.result.1 =
    omega (arith, length-take (32796 * c.few_chunks-first.result.1) c.args.sealed.now, c.few_chunks-first.ensures.few, c.requires.sealed) in
    let span = span_is (record {
      first = _;
      many = c.few_chunks-first.result.1;
      room = _;
      key = c.have_32_bytes.ensures.enc;
      some = c.requires.some;
      opens = opened;
      is_first = c.few_chunks-first.ensures.first;
      meets = rw c.from.ensures at c.few_chunks-first.ensures.chunks;
      is_room = room;
      gave = read;
    }) is in
    let front : length (take c.args.slice.count c.args.out.now) ≡ c.args.slice.count = omega (arith, length-take c.args.slice.count c.args.out.now, c.requires.room) in
    none_filled c.args.keys.now c.in_ok-header.header c.args.slice.at c.args.slice.count _ _ bytes front span (c.in_err-gather.ensures.damaged c.args.keys.now bytes)))

pub returns-clause-bytes : goal.returns-clause-bytes
returns-clause-bytes g c =
    told_both (disk_in (g.R.Reads.log c.args.folder.now)) _ _ _ c.in_ok-header.ensures.opened (rw c.in_ok-header.ensures.log at c.in_ok-read.ensures.bytes) (λ d opened read bytes is.
    let room : length (take (32796 * c.few_chunks-first.result.1) c.args.sealed.now) ≡ 32796 * c.few_chunks-first.result.1 =
    omega (arith, length-take (32796 * c.few_chunks-first.result.1) c.args.sealed.now, c.few_chunks-first.ensures.few, c.requires.sealed) in
    let span = span_is (record {
      first = _;
      many = c.few_chunks-first.result.1;
      room = _;
      key = c.have_32_bytes.ensures.enc;
      some = c.requires.some;
      opens = opened;
      is_first = c.few_chunks-first.ensures.first;
      meets = rw c.from.ensures at c.few_chunks-first.ensures.chunks;
      is_room = room;
      gave = read;
    }) is in
    let front : length (take c.args.slice.count c.args.out.now) ≡ c.args.slice.count = omega (arith, length-take c.args.slice.count c.args.out.now, c.requires.room) in
    front_filled c.args.keys.now c.in_ok-header.header c.args.slice.at c.args.slice.count _ _ bytes c.gather.new.out _ front span (c.in_ok-gather.ensures.opened c.args.keys.now bytes)
    (take_at c.gather.new.out _ c.args.slice.count (c.gather.auto.out ∙ front)))
