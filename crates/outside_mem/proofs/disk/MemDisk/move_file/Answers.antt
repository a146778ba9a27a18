use Rattle.std.proofs.Common.{◌≢◌, Some, sym, ap, ◌∙◌, true≢false}
use Rattle.std.specs.FinMap as map
use Rattle.outside.specs.Disk.{file}
use Rattle.vault_path.proofs.Joined.{same_parts}
use Rattle.outside_mem.proofs.Moving.{moved_nowhere, moved_away}
use Rattle.outside_mem.proofs.disk.MemDisk.move_file.Goals as goal

pub returns-then-eq-clause-ok : goal.returns-then-eq-clause-ok
returns-then-eq-clause-ok c = moved_nowhere c.args.self.now c.args.from.now c.args.to.now ((same_parts c.args.from.now c.args.to.now).0 (sym c.eq.ensures ∙ c.if-eq.true))

pub returns-in_ok-set-in-Some-clause-ok : goal.returns-in_ok-set-in-Some-clause-ok
returns-in_ok-set-in-Some-clause-ok c =
    let apart : c.args.from.now ≢ c.args.to.now = λ same. true≢false (sym ((same_parts c.args.from.now c.args.to.now).1 same) ∙ sym c.eq.ensures ∙ c.if-eq.false) in
    c.unset.ensures ∙ ap (λ d. map.remove d c.args.from.now) c.in_ok-set-in-Some.ensures.ok
    ∙ moved_away c.args.self.now c.args.from.now c.args.to.now (file c.in_ok-bytes-in-Some.bytes.items) apart (c.in-Some.ensures ∙ ap (λ bytes. Some (file bytes)) (sym c.in_ok-bytes-in-Some.ensures.items))
