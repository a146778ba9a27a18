use Rattle.std.proofs.Common.{ℕ, List, ◌++◌, codes, sym, ap, ◌∙◌}
use Rattle.host_links.proofs.Texts.{after_front}
use Rattle.host_links.proofs.address.address_named.Goals as goal

pub returns-in_ok-from_str-in-Some : goal.returns-in_ok-from_str-in-Some
returns-in_ok-from_str-in-Some c =
    after_front (codes "unix:") c.args.text.now c.in-Some.path.now c.in-Some.ensures.cases ∙ ap (λ (path : List ℕ). codes "unix:" ++ path) (sym c.in_ok-from_str-in-Some.ensures.ok)

pub returns-in_ok-from_str-in-None : goal.returns-in_ok-from_str-in-None
returns-in_ok-from_str-in-None c = (c.in_ok-from_str-in-None.ensures.ok, λ path is. c.in-None.ensures.cases path is)
