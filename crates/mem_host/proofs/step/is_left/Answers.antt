use Rattle.std.proofs.Common.{◌≡◌, Some, sym, ap, ◌∙◌}
use Rattle.outside.specs.Disk.{Path}
use Rattle.vault_path.proofs.Joined.{same_parts}
use Rattle.mem_host.proofs.step.is_left.Goals as goal

same_one : (p q : Path) → Some p ≡ Some q → p ≡ q
same_one p q e = cc

pub returns-in-Some : goal.returns-in-Some
returns-in-Some c =
    let d = same_parts c.in-Some.path c.args.folder.now in (
      λ h. c.in-Some.is ∙ ap Some (d.0 (sym c.eq.ensures ∙ h)),
      λ e. c.eq.ensures ∙ d.1 (same_one c.in-Some.path c.args.folder.now (sym c.in-Some.is ∙ e)),
    )
