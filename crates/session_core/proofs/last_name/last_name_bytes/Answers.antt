use Rattle.std.proofs.Common.{ℕ, ◌≤◌, List, Some, length, sym, ◌∙◌, ap, subst}
use Rattle.std.specs.Option.{option_or, option_copied}
use Rattle.std.specs.Str.{IsUtf8}
use Rattle.tree_model.specs.Wire.{PlainStat}
use Rattle.session_core.proofs.Names.{next, all_read, some_left, none_left, name_read, rest_read, last_of, stats_bytes}
use Rattle.session_core.proofs.last_name.last_name_bytes.Goals as goal

pub loop-last-init : goal.loop-last-init
loop-last-init c = record {
  left = c.requires.stats;
  rest = c.requires.spelled;
  good = c.requires.each;
  last = λ given. all_read c.args.stats.now c.requires.stats given c.requires.spelled c.requires.each;
  named = tt;
}

pub first_name-requires : goal.first_name-requires
first_name-requires c =
    let n = next c.loop-last.invariant.left c.loop-last.rest.now c.loop-last.invariant.rest c.loop-last.invariant.good (some_left c.loop-last.rest.now c.loop-last-test.ensures) in
    record { stat = n.first; rest = stats_bytes n.others; is = n.is; good = n.good }

pub loop-last-preserved : goal.loop-last-preserved
loop-last-preserved c =
    let n = next c.loop-last.invariant.left c.loop-last.rest.now c.loop-last.invariant.rest c.loop-last.invariant.good (some_left c.loop-last.rest.now c.loop-last-test.ensures) in
    let name = name_read n.first c.loop-last.rest.now (stats_bytes n.others) n.read c.first_name.result.0.now c.first_name.ensures.name in
    record {
      left = n.others;
      rest = rest_read n.first c.loop-last.rest.now (stats_bytes n.others) n.read c.first_name.result.1.now c.first_name.ensures.rest;
      good = n.rest_good;
      last = λ given. c.loop-last.invariant.last given
          ∙ ap (λ (l : List PlainStat). last_of (option_or (option_copied c.loop-last.last) given) l) n.left_is
          ∙ ap (λ (w : List ℕ). last_of (Some w) n.others) (sym name);
      named = (subst IsUtf8 (sym name) n.good.name, subst (λ (w : List ℕ). length w ≤ 1024) (sym name) n.good.short);
    }

pub returns-clause-last : goal.returns-clause-last
returns-clause-last c given =
    c.loop-last.invariant.last given ∙ ap (λ (l : List PlainStat). last_of (option_or (option_copied c.loop-last.last) given) l)
    (none_left c.loop-last.invariant.left c.loop-last.rest.now c.loop-last.invariant.rest c.loop-last.invariant.good c.loop-last-test.ensures)
