use Rattle.std.proofs.Common.{rules, refl}
use Rattle.std.proofs.lemmas.Str.{IsUtf8-from_ascii}
use Rattle.session_tests.proofs.Stats.{file_stat}
use Rattle.session_tests.proofs.obliging.put_stat.Goals as goal

pub returns-clause-stat : goal.returns-clause-stat
returns-clause-stat c = (
  record {
    stat = file_stat;
    spelled = rw (c.write_stat.ensures.size, c.write_stat.ensures.bytes) refl;
    good = record { name = IsUtf8-from_ascii _ (search rules); short = search rules; size = search rules };
  },
  rw (c.write_stat.ensures.size, c.write_stat.ensures.bytes) refl,
)
