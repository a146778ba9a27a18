use Rattle.std.proofs.Common.{rules, [], ◌∷◌, refl}
use Rattle.std.proofs.lemmas.Str.{IsUtf8-from_ascii}
use Rattle.session_tests.proofs.Stats.{file_stat}
use Rattle.session_tests.proofs.one_file.put_stats.Goals as goal

pub returns-clause-stats : goal.returns-clause-stats
returns-clause-stats c = (
  record {
    fit = rw (c.write_stat.ensures.size, c.write_stat.ensures.bytes) c.if-count-lt-STAT_LEN.false;
    stats = file_stat ∷ [];
    spelled = rw (c.write_stat.ensures.size, c.write_stat.ensures.bytes) refl;
    each = (record { name = IsUtf8-from_ascii _ (search rules); short = search rules; size = search rules }, _);
  },
  rw (c.write_stat.ensures.size, c.write_stat.ensures.bytes) refl,
)
