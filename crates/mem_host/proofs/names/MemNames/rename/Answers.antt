use Rattle.std.proofs.Common.{◌≢◌, None, sym, ap, ◌∙◌, true≢false}
use Rattle.vault_path.proofs.Joined.{same_parts}
use Rattle.host_calls.specs.Volume.{Names}
use Rattle.host_calls.specs.Names.{named}
use Rattle.mem_host.specs.Entries.{entry_of}
use Rattle.mem_host.proofs.Renames.{renamed_itself, renamed}
use Rattle.mem_host.proofs.names.MemNames.rename.Goals as goal

pub returns-then-eq-clause-ok : goal.returns-then-eq-clause-ok
returns-then-eq-clause-ok c = renamed_itself c.args.self.now c.args.from.now c.args.to.now ((same_parts c.args.from.now c.args.to.now).0 (sym c.eq.ensures ∙ c.if-eq.true))

pub returns-in_ok-set-in-Some-clause-ok : goal.returns-in_ok-set-in-Some-clause-ok
returns-in_ok-set-in-Some-clause-ok c =
    let apart : c.args.from.now ≢ c.args.to.now = λ same. true≢false (sym ((same_parts c.args.from.now c.args.to.now).1 same) ∙ sym c.eq.ensures ∙ c.if-eq.false) in
    c.unset.ensures ∙ ap (λ (n : Names). named n c.args.from.now None) c.in_ok-set-in-Some.ensures.ok
    ∙ renamed c.args.self.now c.args.from.now c.args.to.now (entry_of c.in-Some.entry) apart (sym c.in-Some.ensures)
