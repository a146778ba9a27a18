use Rattle.std.proofs.Common.{◌<◌, ◌∙◌, ap, ◌++◌, ◌∷◌, length, arith}
use Rattle.host_folder.proofs.HostPathLemmas.{joined_more}
use Rattle.host_folder.proofs.path_buffer.compose.Goals as goal

pub loop-index-preserved : goal.loop-index-preserved
loop-index-preserved c =
    let within : c.loop-index.index < length c.args.path.now = omega arith in
    record {
      text = c.push_part.ensures.text ∙ ap (λ l. l ++ (47 ∷ c.part.result.now)) c.loop-index.invariant.text ∙ joined_more _ _ _ _ within c.part.ensures.at;
      len = omega arith;
      capacity = omega arith;
    }
