use Rattle.std.proofs.Common.{sym, subst}
use Rattle.std.proofs.lemmas.Result.{IfOk-weaker}
use Rattle.host_links.specs.Addresses.{IsNamedBy}
use Rattle.vaultd.proofs.starting.serve_at.Goals as goal

pub returns : goal.returns
returns g c =
    let named = subst (IsNamedBy c.args.serving.now.address.now) (sym c.bind-socket.ensures) c.in_ok-address.ensures in
    IfOk-weaker c.serve_if_bound.result _ _ (λ started run. record { socket = c.bind-socket.result; named = named; run = run }) c.serve_if_bound.ensures
