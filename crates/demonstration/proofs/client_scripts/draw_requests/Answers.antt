use Rattle.std.proofs.Common.{◌+◌, ◌++◌, ◌<◌, ◌^◌, sym, ap, ◌∙◌, append-nil, append_assoc, arith}
use Rattle.std.specs.List.{flat_map}
use Rattle.rand_chacha.specs.ChaCha.{of_seed}
use Rattle.demonstration.specs.Words.{stream_seed, stream_word}
use Rattle.demonstration.specs.Script.{sent, drawn_request}
use Rattle.demonstration.proofs.Drawn.{next_is_word, drawn_bytes, drawn_bytes-more}
use Rattle.demonstration.proofs.client_scripts.draw_requests.Goals as goal

pub loop-init : goal.loop-init
loop-init c = record {
  sent = sym (append-nil c.args.out.now.items);
  place = c.from_seed-words.ensures ∙ ap of_seed (c.stream_seed.ensures ∙ ap (λ n. stream_seed c.args.seed (1 + n)) c.from.ensures);
}

pub loop-preserved : goal.loop-preserved
loop-preserved c =
    let seed = c.args.seed in
    let client = c.args.client in
    let n = c.loop.counter in
    let few : n < 2 ^ 32 = omega arith in
    let step = next_is_word seed (1 + client) n _ _ _ few c.loop.invariant.place c.next_word.ensures in
    let before = drawn_bytes seed client n in
    let more = flat_map sent (drawn_request client (stream_word seed (1 + client) n)) in
    record {
      sent =
          c.in_ok-push_request.ensures
          ∙ ap (λ word. c.loop.out.items ++ flat_map sent (drawn_request client word)) step.word_is
          ∙ ap (λ xs. xs ++ more) c.loop.invariant.sent
          ∙ append_assoc c.args.out.now.items before more
          ∙ ap (λ xs. c.args.out.now.items ++ xs) (sym (drawn_bytes-more seed client n));
      place = step.new_is;
    }
