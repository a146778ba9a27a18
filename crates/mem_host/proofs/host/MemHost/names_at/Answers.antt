use Rattle.std.proofs.Common.{◌∙◌, sym, subst, true≢false}
use Rattle.host_calls.specs.Volume.{Names}
use Rattle.host_calls.specs.Names.{HasFolder}
use Rattle.host_calls.specs.Story.{volume_now}
use Rattle.host_calls.proofs.Volumes.{folder_in, folder_from}
use Rattle.mem_host.specs.Entries.{AreNamesIn}
use Rattle.mem_host.proofs.Reading.{listing_now}
use Rattle.mem_host.proofs.host.MemHost.names_at.Goals as goal

pub returns-then-not-is_folder-clause-unfit : goal.returns-then-not-is_folder-clause-unfit
returns-then-not-is_folder-clause-unfit c = λ unfit folder.
    let there = folder_from (volume_now c.args.self.now.story) c.args.path.now folder in
    true≢false (sym (c.is_folder.ensures.1 (subst (λ (n : Names). HasFolder n c.args.path.now) (sym c.names.ensures) there)) ∙ c.if-not-is_folder.true)

pub returns-in-Ok-clause-names : goal.returns-in-Ok-clause-names
returns-in-Ok-clause-names c =
    let there = subst (λ (n : Names). HasFolder n c.args.path.now) c.names.ensures (c.is_folder.ensures.0 c.if-not-is_folder.false) in
    let names = subst (λ (n : Names). AreNamesIn n c.args.path.now c.in-Ok.names.items) c.names-2.ensures c.in-Ok.ensures in
    (folder_in (volume_now c.args.self.now.story) c.args.path.now there, listing_now c.args.self.now.story c.args.path.now c.in-Ok.names.items names)
