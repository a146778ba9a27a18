use Rattle.std.proofs.Common.{◌≡◌, ◌+◌, ◌≤◌, length, take, drop, None, ap, ◌∙◌, arith, length-take}
use Rattle.std.proofs.lemmas.List.{take_at}
use Rattle.outside.specs.Images.{disk_in}
use Rattle.content_writer.proofs.ReadChunks.{chunk_told, opened_told}
use Rattle.content_writer.proofs.plaintext.Plaintext.open.Goals as goal

pub returns-in_err-self-inside-clause-damaged : goal.returns-in_err-self-inside-clause-damaged
returns-in_err-self-inside-clause-damaged g c = λ _.
    let same : c.deref.result.now ≡ c.read.new.out =
    c.deref.ensures.value ∙ take_at c.read.new.out (drop (length c.read.new.out) c.self.inside.sealed.items) c.self.inside.sealed.len (c.read.auto.out ∙ c.deref_mut.ensures.len) in
    chunk_told (disk_in (g.R.Reads.log c.args.folder.now)) c.args.path.now c.args.index c.in_ok-count.count (length c.deref_mut.result.now) c.read.new.out (c.deref_mut.ensures.len ∙ c.self.invariant.0)
    c.in_ok-count.ensures.bytes c.args.header.now None c.deref.result.now same c.in_err-self-inside.ensures.damaged

pub returns-clause-opened : goal.returns-clause-opened
returns-clause-opened g c =
    let same : c.deref.result.now ≡ c.read.new.out =
    c.deref.ensures.value ∙ take_at c.read.new.out (drop (length c.read.new.out) c.self.inside.sealed.items) c.self.inside.sealed.len (c.read.auto.out ∙ c.deref_mut.ensures.len) in
    let room : length c.open_chunk.new.out ≡ 32768 = c.open_chunk.auto.out ∙ c.deref_mut-2.ensures.len ∙ c.self.invariant.1 in
    let held = ap (take c.in_ok-self-inside.field-0)
    (take_at c.open_chunk.new.out (drop (length c.open_chunk.new.out) c.self.inside.clear.items) c.self.inside.clear.len (c.open_chunk.auto.out ∙ c.deref_mut-2.ensures.len)) in
    let few : c.in_ok-count.count ≤ 32796 = omega (arith, c.in_ok-count.ensures.count, c.deref_mut.ensures.len, c.self.invariant.0) in
    let counted : c.in_ok-self-inside.field-0 + 28 ≡ length (take c.in_ok-count.count c.deref.result.now) = c.in_ok-self-inside.ensures.count in
    let long : length (take c.in_ok-self-inside.field-0 c.open_chunk.new.out) + 28 ≡ length (take c.in_ok-count.count c.deref.result.now) =
    omega (arith, counted, few, room, length-take c.in_ok-self-inside.field-0 c.open_chunk.new.out, length-take c.in_ok-count.count c.deref.result.now) in
    opened_told (disk_in (g.R.Reads.log c.args.folder.now)) c.args.path.now c.args.index c.in_ok-count.count (length c.deref_mut.result.now) c.read.new.out (c.deref_mut.ensures.len ∙ c.self.invariant.0)
    c.in_ok-count.ensures.bytes c.args.header.now c.deref.result.now (take c.in_ok-self-inside.field-0 c.open_chunk.new.out) _ same held c.in_ok-self-inside.ensures.opened long
