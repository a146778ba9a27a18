use Rattle.std.proofs.Common.{◌≤◌, [], ◌∷◌, length, List, ℕ, IsSome, sym, ap, subst, ◌∙◌, arith}
use Rattle.std.proofs.lemmas.Result.{on_ok_weaker}
use Rattle.std.specs.FinMap as map
use Rattle.host_calls.specs.Volume.{bytes_in, each_value}
use Rattle.host_calls.specs.Bytes.{Filed, Wrote}
use Rattle.host_calls.specs.Story.{bytes_of, filed_after}
use Rattle.mem_host.specs.Filing.{Filing}
use Rattle.mem_host.proofs.Files.{here, bytes_of_here}
use Rattle.mem_host.proofs.Creating.{filing_set}
use Rattle.mem_host.proofs.filing.MemFiling.write.Goals as goal

pub index_mut-file-requires : goal.index_mut-file-requires
index_mut-file-requires c =
    let known = subst (λ (f : Filing). IsSome (map.get f.held c.args.inode)) (sym c.self.view_is) c.requires.known in
    let nothing : Filed = record { lasting = []; steps = [] } in
    let place = here c.self.inside.files.items c.args.inode nothing known in
    omega (arith, place.within, c.self.inside.files.ok.0)

pub write-requires : goal.write-requires
write-requires c =
    let known = subst (λ (f : Filing). IsSome (map.get f.held c.args.inode)) (sym c.self.view_is) c.requires.known in
    let within = subst (λ (f : Filing). c.args.at ≤ length (bytes_in (each_value bytes_of f.held) c.args.inode)) (sym c.self.view_is) c.requires.within in
    let d = c.index_mut-file.result.now in
    let place = here c.self.inside.files.items c.args.inode d known in
    subst (λ (l : List ℕ). c.args.at ≤ length l) (bytes_of_here c.self.inside.files.items c.args.inode d place ∙ ap bytes_of (sym c.index_mut-file.ensures.value)) within

pub returns-clause-ok : goal.returns-clause-ok
returns-clause-ok c =
    let known = subst (λ (f : Filing). IsSome (map.get f.held c.args.inode)) (sym c.self.view_is) c.requires.known in
    let d = c.index_mut-file.result.now in
    let place = here c.self.inside.files.items c.args.inode d known in
    on_ok_weaker c.write.result (λ e. filing_set c.self.inside.files.items c.args.inode d c.write.new.self (filed_after (Wrote c.args.at c.args.bytes.now ∷ [])) c.args.self.now place c.self.view_is
    (e ∙ ap (λ (f : Filed). record { lasting = f.lasting; steps = Wrote c.args.at c.args.bytes.now ∷ f.steps }) c.index_mut-file.ensures.value)) c.write.ensures.ok
