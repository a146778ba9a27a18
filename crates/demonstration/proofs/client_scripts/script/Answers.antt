use Rattle.std.proofs.lemmas.List.Folds.{flat_map-map}
use Rattle.ninep_wire.specs.TMessage.{spelled_t}
use Rattle.demonstration.specs.Script.{requests_of, sent, tagged}
use Rattle.demonstration.proofs.client_scripts.script.Goals as goal

pub returns : goal.returns
unfolding sent
returns c =
    let a = c.args in
    rw (flat_map-map spelled_t (tagged 1) (requests_of a.seed a.client a.requests))
    (rw (c.in_ok-push_attach.ensures, c.in_ok-push_version.ensures, c.new-out.ensures.items) at c.in_ok-push_requests.ensures)
