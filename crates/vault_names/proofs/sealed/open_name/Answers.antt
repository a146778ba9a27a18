use Rattle.std.proofs.Common.{arith}
use Rattle.std.proofs.lemmas.Result.{IfOk-weaker}
use Rattle.vault_names.proofs.ByteLemmas.{AreBytes-from_get_or}
use Rattle.vault_names.proofs.Opening.{found_from, none_from_value}
use Rattle.vault_names.proofs.sealed.open_name.Goals as goal

pub returns-clause-found : goal.returns-clause-found
returns-clause-found c =
    let are = AreBytes-from_get_or c.args.text.now (λ i. omega (arith, c.type_inv.text i)) in
    IfOk-weaker c.opened_name.result _ _ (λ answer is. found_from c.args.keys.now c.args.parent.now c.args.text.now answer
    (λ name. c.opening_undoes_sealing.ensures c.args.parent.now c.args.text.now name are) is) c.opened_name.ensures

pub returns-clause-none : goal.returns-clause-none
returns-clause-none c =
    let are = AreBytes-from_get_or c.args.text.now (λ i. omega (arith, c.type_inv.text i)) in
    IfOk-weaker c.opened_name.result _ _ (λ answer is. none_from_value c.args.keys.now c.args.parent.now c.args.text.now answer
    (λ name. c.opening_undoes_sealing.ensures c.args.parent.now c.args.text.now name are) is) c.opened_name.ensures
