-- A file that gets another name.
use Rattle.std.proofs.Common.{◌≡◌, ◌≢◌, Some, None, sym, ap, ◌∙◌}
use Rattle.std.specs.FinMap as map
use Rattle.outside.specs.Disk.{Path}
use Rattle.outside.proofs.Paths.{paths_total, paths_apart, by_path}
use Rattle.host_calls.specs.Volume.{Names, Entry, entry_at}
use Rattle.host_calls.specs.Names.{named}
use Rattle.host_calls.proofs.Volumes.{named_here, named_there}

-- the name that it has
pub renamed_itself : (names : Names) (p q : Path) → p ≡ q → names ≡ named (named names p None) q (entry_at names p)
renamed_itself names p q same = map.same_map paths_total paths_apart _ _ (λ r. by_path r q
    (λ e. ap (entry_at names) (e ∙ sym same) ∙ sym (named_here (named names p None) q (entry_at names p) r e))
    (λ ne. sym (named_there (named names p None) q (entry_at names p) r ne ∙ named_there names p None r (λ e. ne (e ∙ same)))))

-- the new name first, and then the old one less
pub renamed : (names : Names) (from to : Path) (entry : Entry) → from ≢ to → entry_at names from ≡ Some entry
    → named (named names to (Some entry)) from None ≡ named (named names from None) to (entry_at names from)
renamed names from to entry apart is = map.same_map paths_total paths_apart _ _ (λ q. by_path q to
    (λ e. named_there (named names to (Some entry)) from None q (λ f. apart (sym f ∙ e)) ∙ named_here names to (Some entry) q e
    ∙ sym (named_here (named names from None) to (entry_at names from) q e ∙ is))
    (λ other. by_path q from
    (λ f. named_here (named names to (Some entry)) from None q f ∙ sym (named_there (named names from None) to (entry_at names from) q other ∙ named_here names from None q f))
    (λ off. named_there (named names to (Some entry)) from None q off ∙ named_there names to (Some entry) q other
    ∙ sym (named_there (named names from None) to (entry_at names from) q other ∙ named_there names from None q off))))
