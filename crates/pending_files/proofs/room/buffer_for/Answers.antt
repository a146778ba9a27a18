use Rattle.std.proofs.Common.{◌≡◌, ◌+◌, ◌∷◌, drop, sym, subst, ap, ◌∙◌, arith}
use Rattle.std.specs.Prelude.{insert}
use Rattle.std.proofs.lemmas.List.{drop_all}
use Rattle.deeds.specs.Reshape.{Ranges}
use Rattle.deeds.specs.Plain.{plain_ranges}
use Rattle.deeds.proofs.Doing.{split_at}
use Rattle.std.specs.List.{AllByRecursion}
use Rattle.pending_files.specs.Kept.{IsBuffer}
use Rattle.pending_files.proofs.Files.{each_last}
use Rattle.pending_files.proofs.Ranges.{chunk_over, chunk_between, plain_removed, plain_dropped, plain_long, gap_within, head_place, none_there}
use Rattle.pending_files.proofs.room.buffer_for.Goals as goal
use Rattle.pending_files.proofs.room.buffer_for.Goals.{else-index-len-via-then-index-len+else-index-at, else-index-len-via-else-index-len}

pub returns-then-index-at-clause-others : goal.returns-then-index-at-clause-others
returns-then-index-at-clause-others c = λ bytes.
    let s = c.args.ranges.now.items in
    let i = c.args.index in
    let x = c.index.result.now in
    let split : drop i s ≡ x ∷ drop (i + 1) s = split_at s i x (omega (arith, c.if-index-len.true, c.len.ensures, c.args.ranges.now.ok)) c.index.ensures in
    chunk_over c.args.at bytes (plain_ranges s) i (x.at, x.bytes.items) (plain_ranges (drop (i + 1) s)) c.requires.gap (plain_dropped s i x (drop (i + 1) s) split) c.if-index-at.true
    ∙ ap (λ (l : Ranges). insert l i (c.args.at, bytes)) (sym (plain_removed s i) ∙ ap plain_ranges (sym c.remove.ensures.items))

pub returns-clause-others : goal.returns-clause-others
returns-clause-others c = λ bytes.
    let s = c.args.ranges.now.items in
    let i = c.args.index in
    chunk_between c.args.at bytes (plain_ranges s) i c.requires.gap (λ r rest here e. elim c.else-index-len.branch [
      | else-index-len-via-then-index-len+else-index-at w ↦
          let x = w.index.result.now in
          let split : drop i s ≡ x ∷ drop (i + 1) s = split_at s i x (omega (arith, w.if-index-len.true, c.len.ensures, c.args.ranges.now.ok)) w.index.ensures in
          w.if-index-at.false (head_place (drop i (plain_ranges s)) (x.at, x.bytes.items) r (plain_ranges (drop (i + 1) s)) rest (plain_dropped s i x (drop (i + 1) s) split) here ∙ e)
      | else-index-len-via-else-index-len w ↦
          none_there (drop i (plain_ranges s)) r rest (drop_all i (plain_ranges s) (omega (arith, w.if-index-len.false, c.len.ensures, c.args.ranges.now.ok, plain_long s))) here
    ])

pub returns-clause-within : goal.returns-clause-within
returns-clause-within c = omega (arith, gap_within c.args.at (plain_ranges c.args.ranges.now.items) c.args.index c.requires.gap, plain_long c.args.ranges.now.items, c.args.ranges.now.ok)

pub returns-clause-buffer : goal.returns-clause-buffer
returns-clause-buffer c = each_last IsBuffer c.pop.new.self.items c.in-Some.buffer (subst (AllByRecursion IsBuffer) c.in-Some.ensures.items c.requires.buffers.each)
