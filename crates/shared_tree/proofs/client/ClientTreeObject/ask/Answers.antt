use Rattle.std.proofs.Common.{◌∷◌, [], ◌++◌, refl, sym, subst}
use Rattle.outside.specs.Views.{EntropyView, entropy_in}
use Rattle.tree_model.specs.declared.reply.Reply.{Reply}
use Rattle.tree_model.specs.declared.reply.Reply.TheVariants as replies
use Rattle.tree_model.specs.declared.refusal.Refusal.TheVariants as refusals
use Rattle.tree_model.specs.Asked.{Asked, plain_request, plain_reply, asked_of}
use Rattle.shared_tree.specs.Clients.{ClientView, client_of, HasAsked}
use Rattle.shared_tree.proofs.Asking.{asked_more, refused_more}
use Rattle.shared_tree.proofs.client.ClientTreeObject.ask.Goals.{in-Ok, in-Err}
use Rattle.shared_tree.proofs.client.ClientTreeObject.ask.Goals as goal

pub returns-clause-stands : goal.returns-clause-stands
returns-clause-stands g c = λ start before h.
    let view : g.row.E.Denot → EntropyView = entropy_in g.E.Entropy in
    let draws = g.T.SharedTree.draws in
    let old : ClientView g.row.E.Denot = client_of c.self.inside.seat c.self.inside.entropy in
    let new : ClientView g.row.E.Denot = client_of c.ask_in_turn-answer.new.seat c.ask_in_turn-answer.new.entropy in
    let has : HasAsked draws view start old before = subst (λ (v : ClientView g.row.E.Denot). HasAsked draws view start v before) (sym c.self.view_is) h in
    let say : Reply → Asked = λ r. asked_of (plain_request c.args.request.now) c.args.now (plain_reply r) c.ask_in_turn-answer.new.buffer in
    elim c.match-answer.branch [
      | in-Ok w ↦
          subst (λ (r : Reply). HasAsked draws view start new (before ++ say r ∷ [])) (sym w.result-is)
          (asked_more draws view start old new before (say w.in-Ok.reply) has w.in-Ok.ensures.enters w.in-Ok.ensures.entry)
      | in-Err w ↦
          subst (λ (r : Reply). HasAsked draws view start new (before ++ say r ∷ [])) (sym w.result-is)
          (refused_more draws view start old new before (say (replies.Refused (refusals.Exhausted w.in-Err.spent.0))) w.in-Err.spent.0 has refl w.in-Err.ensures.late)
    ]
