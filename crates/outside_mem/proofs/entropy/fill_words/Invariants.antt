use Rattle.std.proofs.Common.{◌≡◌, ◌+◌, ◌*◌, take}
use Rattle.outside_mem.specs.Words.{words_from}
use Rattle.outside_mem.proofs.entropy.fill_words.Given as goal

abbrev pub invariant-loop-index : goal.invariant-loop-index
invariant-loop-index l = record {
  drawn : take (4 * l.index) l.out ≡ words_from l.initial.generator.key l.initial.generator.word_pos l.index;
  place : l.generator ≡ record l.initial.generator { word_pos = l.initial.generator.word_pos + l.index };
}
