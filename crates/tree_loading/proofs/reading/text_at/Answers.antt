use Rattle.std.proofs.Common.{◌≡◌, ℕ, List, ◌-◌, min, take, drop, length, Option, Some, refl, ◌∙◌, arith}
use Rattle.std.specs.Option.{option_map}
use Rattle.outside.specs.Disk.{node_at, file}
use Rattle.tree_loading.specs.Reading.{file_at}
use Rattle.tree_loading.proofs.Files.{told_kept2, text_read}
use Rattle.tree_loading.proofs.reading.text_at.Goals as goal

pub returns-clause-text : goal.returns-clause-text
returns-clause-text g c =
    let path = c.args.path.now in
    let size = c.in-Some.size in
    let count = c.in_ok-count.count in
    let old = c.deref_mut.result.now in
    let out = c.read.new.out in
    let rest = drop (length c.read.new.out) c.in_ok-bytes.bytes.items in
    let sized : Some c.in-Some.size ≡ c.in_ok-size.field-0 = cc in
    told_kept2 (g.R.Reads.log c.args.from.now) (g.R.Reads.log c.args.from.now) (g.R.Reads.log c.size_at.new.from)
    (λ d. c.in_ok-size.field-0 ≡ option_map length (file_at d c.args.path.now))
    (λ d. (bytes : List ℕ) × (node_at d c.args.path.now ≡ Some (file bytes)) × (c.in_ok-count.count ≡ min (length c.deref_mut.result.now) (length bytes - 0)) × (take c.in_ok-count.count c.read.new.out ≡ take c.in_ok-count.count bytes))
    (λ d. ◌≡◌ {A = Option (List ℕ)} (Some c.from_vec.result) (option_map (take c.args.limit) (file_at d c.args.path.now)))
    refl c.in_ok-size.ensures.log c.in_ok-size.ensures.size c.in_ok-count.ensures.bytes
    (λ d s read. text_read d c.args.path.now c.in-Some.size c.args.limit c.in_ok-bytes.bytes.len c.in_ok-count.count c.deref_mut.result.now c.read.new.out
    (drop (length c.read.new.out) c.in_ok-bytes.bytes.items) c.from_vec.result
    (omega (arith, c.in_ok-bytes.ensures.len, c.min-room.ensures)) (omega (arith, c.deref_mut.ensures.len)) (omega arith) (c.from_vec.ensures ∙ c.truncate.ensures.items) (sized ∙ s) read)
