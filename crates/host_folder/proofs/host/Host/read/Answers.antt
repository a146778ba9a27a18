use Rattle.std.proofs.Common.{◌≡◌, ◌-◌, ℕ, List, [], Some, refl, subst, length, min, arith}
use Rattle.outside.specs.Disk.{node_at, file, IsFile}
use Rattle.host_calls.specs.declared.found.Found.{Found}
use Rattle.host_calls.specs.Story.{volume_now, bytes_now}
use Rattle.host_calls.proofs.Volumes.{file_in}
use Rattle.host_calls.specs.Calls.{IsFound}
use Rattle.host_folder.proofs.Seen.{not_file, seen_no_file, log_looked}
use Rattle.host_folder.proofs.host.Host.read.Goals as goal

pub returns-in-File-clause-bytes : goal.returns-in-File-clause-bytes
returns-in-File-clause-bytes g c =
    log_looked g.H.HostCalls.story g.H.HostCalls.top c.args.self.now c.find.new.self (λ s. IsFound c.in_ok-length.field-0 s c.args.path.now)
    (λ d. (bytes : List ℕ) × (node_at d c.args.path.now ≡ Some (file bytes)) × (0 ≡ min (length c.args.out.now) (length bytes - c.args.at)) × (◌≡◌ {A = List ℕ} [] []))
    c.find.ensures.looked c.requires c.in_ok-length.ensures.found
    (λ s seen.
    let at = subst (λ (what : Found). IsFound what s c.args.path.now) c.in-File.is seen in
    let past = c.if-length-at.true in
    (bytes_now s c.in-File.field-0, file_in (volume_now s) c.args.path.now c.in-File.field-0 at.0, omega (arith, at.1), refl))

pub returns-in-Nothing-clause-unfit : goal.returns-in-Nothing-clause-unfit
returns-in-Nothing-clause-unfit g c = λ unfit.
    log_looked g.H.HostCalls.story g.H.HostCalls.top c.args.self.now c.find.new.self (λ s. IsFound c.in_ok-length.field-0 s c.args.path.now)
    (λ d. IsFile d c.args.path.now → ⊥) c.find.ensures.looked c.requires c.in_ok-length.ensures.found
    (λ s at. seen_no_file c.in_ok-length.field-0 s c.args.path.now (not_file c.in_ok-length.field-0 c.in-Nothing.is) at)
