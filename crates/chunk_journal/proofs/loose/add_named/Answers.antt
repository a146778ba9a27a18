use Rattle.std.proofs.Common.{List, ◌++◌, take, sym, ap, ◌∙◌, append_assoc, append-nil, arith}
use Rattle.outside.specs.Disk.{Path}
use Rattle.deeds.specs.Deeds.{PlainDeed, named, names}
use Rattle.deeds.specs.Plain.{plain, plains}
use Rattle.deeds.proofs.Doing.{split_at}
use Rattle.deeds.proofs.Phases.{plains_next, plains_all}
use Rattle.chunk_journal.proofs.LoosePaths.{named_more}
use Rattle.chunk_journal.proofs.loose.add_named.Goals as goal

pub loop-deed-init : goal.loop-deed-init
loop-deed-init c = sym (append-nil c.args.paths.now.items)

pub loop-deed-preserved : goal.loop-deed-preserved
loop-deed-preserved c =
    let s = c.args.deeds.now in
    let i = c.loop-deed.deed-index in
    let x = c.deed-item.result in
    let first = c.args.paths.now.items in
    c.in_ok-add_names.ensures ∙ ap (λ (l : List Path). l ++ names (plain x)) c.loop-deed.invariant ∙ append_assoc first (named (take i (plains s))) (names (plain x))
    ∙ ap (λ (l : List Path). first ++ l) (sym (named_more (plains s) i (plain x) (plains_next s i x (split_at s i x (omega arith) c.deed-item.is))))

pub returns : goal.returns
returns c =
    let s = c.args.deeds.now in
    c.loop-deed.invariant ∙ ap (λ (l : List PlainDeed). c.args.paths.now.items ++ named l) (plains_all s c.loop-deed.deed-index (omega arith))
