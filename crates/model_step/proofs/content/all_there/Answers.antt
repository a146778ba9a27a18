use Rattle.std.proofs.Common.{◌≡◌, ◌++◌, ◌∷◌, [], Some, sym, ap, ◌∙◌, rules, arith}
use Rattle.model_step.proofs.Gathered.{absent_at, there_at}
use Rattle.model_step.proofs.content.all_there.Goals as goal

pub returns-in-None : goal.returns-in-None
returns-in-None c = sym (absent_at c.args.bytes.now c.loop-byte.byte-index _ (omega arith) c.in-None.is)

pub loop-byte-preserved : goal.loop-byte-preserved
loop-byte-preserved c =
    let more : c.push.new.self.items ≡ c.loop-byte.all.items ++ c.in-Some.byte ∷ [] = search rules in
    there_at c.args.bytes.now c.loop-byte.byte-index _ c.loop-byte.all.items c.in-Some.byte (omega arith) c.in-Some.is c.loop-byte.invariant ∙ ap Some (sym more)
