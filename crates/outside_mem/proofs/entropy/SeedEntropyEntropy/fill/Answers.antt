use Rattle.outside_mem.proofs.Drawn.{words_from-start}
use Rattle.outside_mem.proofs.entropy.SeedEntropyEntropy.fill.Goals as goal

pub returns-clause-drawn : goal.returns-clause-drawn
returns-clause-drawn c =
    rw (← c.self.view_is, c.fill_words.ensures.place, c.fill_words.ensures.words)
    (words_from-start c.self.inside.generator.key c.self.inside.generator.word_pos _)
