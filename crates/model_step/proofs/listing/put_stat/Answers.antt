use Rattle.std.proofs.Common.{◌≡◌, ◌++◌, ◌∷◌, [], true, ap, ◌∙◌, rules}
use Rattle.std.specs.Option.{option_copied}
use Rattle.tree_model.specs.Step.{is_behind}
use Rattle.model_step.proofs.Fitting.{stat_put}
use Rattle.model_step.proofs.listing.put_stat.Goals as goal

pub returns-in_ok-push : goal.returns-in_ok-push
returns-in_ok-push c =
    let pushed : c.push.new.self.items ≡ c.args.stats.now.items ++ c.in_ok-spelled_stat.field-0 ∷ [] = search rules in
    let behind : true ≡ is_behind (option_copied c.args.after) c.args.row.now.name.items = c.if-is_behind.ensures ∙ ap (is_behind (option_copied c.args.after)) c.deref.ensures.value in
    stat_put (option_copied c.args.after) c.args.row.now c.args.stats.now.items c.push.new.self.items c.in_ok-spelled_stat.field-0 pushed c.in_ok-spelled_stat.ensures behind
