use Rattle.std.proofs.Common.{◌≡◌, ◌∙◌, ◌++◌, ap, subst, arith}
use Rattle.rand_chacha.specs.ChaCha.{key_of}
use Rattle.outside_mem.specs.Words.{Drawing, drawn_bytes}
use Rattle.demonstration.specs.Words.{stream_seed}
use Rattle.demonstration.proofs.Keys.{drawn_first}
use Rattle.demonstration.proofs.vault.draw_keys.Goals as goal

pub returns-in-Ok : goal.returns-in-Ok
returns-in-Ok c =
    let drawn = subst (λ (d : Drawing). drawn_bytes c.fill.new.self ≡ drawn_bytes d ++ c.fill.new.out) c.from_seed.ensures c.in-Ok.ensures.drawn in
    let key = c.in-Ok.ensures.key ∙ ap (λ (d : Drawing). d.key) c.from_seed.ensures ∙ ap key_of c.stream_seed.ensures in
    drawn_first (key_of (stream_seed c.args.seed 0)) c.fill.new.self.key c.fill.new.self.words 16 c.fill.new.out key drawn (omega (arith, c.fill.auto.out, c.requires))
