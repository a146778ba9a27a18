use Rattle.host_links.proofs.Texts.{without_end}
use Rattle.host_links.proofs.address.host_at_port_0.Goals as goal

pub returns : goal.returns
returns c = without_end _ _ _ c.strip_suffix.ensures.cases
