use Rattle.node_changes.proofs.Draws.{identifier_drawn}
use Rattle.node_changes.proofs.creating.draw_directory.Goals as goal

pub returns-clause-drawn : goal.returns-clause-drawn
returns-clause-drawn g c = (
  c.if-not-is_dir.false,
  record {
    bytes = c.fill.new.out;
    sixteen = c.fill.auto.out;
    drawn = c.in_ok-fill.ensures.drawn;
    is = c.new_directory.ensures;
    first = identifier_drawn (g.E.Entropy.drawn c.args.entropy.now) (g.E.Entropy.drawn c.fill.new.self) c.fill.new.out c.fill.auto.out c.in_ok-fill.ensures.drawn
        c.new_directory.result.identifier c.new_directory.ensures.identifier;
  },
)
