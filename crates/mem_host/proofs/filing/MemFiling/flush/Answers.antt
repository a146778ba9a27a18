use Rattle.std.proofs.Common.{[], IsSome, sym, ap, subst, ◌∙◌, arith}
use Rattle.std.proofs.lemmas.Result.{on_ok_weaker}
use Rattle.std.specs.FinMap as map
use Rattle.host_calls.specs.Bytes.{Filed}
use Rattle.host_calls.specs.Story.{bytes_of, settled_file}
use Rattle.mem_host.specs.Filing.{Filing}
use Rattle.mem_host.proofs.Files.{here}
use Rattle.mem_host.proofs.Creating.{filing_set}
use Rattle.mem_host.proofs.filing.MemFiling.flush.Goals as goal

pub index_mut-file-requires : goal.index_mut-file-requires
index_mut-file-requires c =
    let known = subst (λ (f : Filing). IsSome (map.get f.held c.args.inode)) (sym c.self.view_is) c.requires in
    let nothing : Filed = record { lasting = []; steps = [] } in
    let place = here c.self.inside.files.items c.args.inode nothing known in
    omega (arith, place.within, c.self.inside.files.ok.0)

pub returns-clause-ok : goal.returns-clause-ok
returns-clause-ok c =
    let known = subst (λ (f : Filing). IsSome (map.get f.held c.args.inode)) (sym c.self.view_is) c.requires in
    let d = c.index_mut-file.result.now in
    let place = here c.self.inside.files.items c.args.inode d known in
    on_ok_weaker c.flush.result (λ e. filing_set c.self.inside.files.items c.args.inode d c.flush.new.self (settled_file) c.args.self.now place c.self.view_is
    (e ∙ ap (λ (f : Filed). record { lasting = bytes_of f; steps = [] }) c.index_mut-file.ensures.value)) c.flush.ensures.ok
