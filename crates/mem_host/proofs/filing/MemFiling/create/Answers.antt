use Rattle.std.proofs.Common.{[], ◌∷◌, ap, ◌∙◌}
use Rattle.host_calls.specs.Bytes.{Filed, Wrote}
use Rattle.mem_host.proofs.Creating.{filing_pushed}
use Rattle.mem_host.proofs.filing.MemFiling.create.Goals as goal

pub returns-clause-ok : goal.returns-clause-ok
returns-clause-ok c =
    filing_pushed c.self.inside.files.items c.push.new.self.items c.write.new.self (record { lasting = []; steps = Wrote 0 c.args.bytes.now ∷ [] }) c.args.self.now c.in_ok-push.ensures.items
    (c.in_ok-write.ensures.ok ∙ ap (λ (f : Filed). record { lasting = f.lasting; steps = Wrote 0 c.args.bytes.now ∷ f.steps }) c.empty-file.ensures) c.self.view_is
