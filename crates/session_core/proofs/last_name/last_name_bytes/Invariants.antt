use Rattle.std.proofs.Common.{◌≡◌, ℕ, ◌≤◌, List, length, Option}
use Rattle.std.specs.Prelude.{IfSome}
use Rattle.std.specs.List.{AllByRecursion}
use Rattle.std.specs.Option.{option_or, option_copied}
use Rattle.std.specs.Str.{IsUtf8}
use Rattle.tree_model.specs.Wire.{PlainStat, IsTreeStat}
use Rattle.session_core.specs.Outcome.{last_name}
use Rattle.session_core.proofs.Names.{stats_bytes, last_of}
use Rattle.session_core.proofs.last_name.last_name_bytes.Given as goal

abbrev pub invariant-loop-last : goal.invariant-loop-last
invariant-loop-last l = record {
  left : List PlainStat;
  rest : l.rest ≡ stats_bytes left;
  good : AllByRecursion IsTreeStat left;
  last : (given : Option (List ℕ)) → last_name (length l.stats) given l.stats ≡ last_of (option_or (option_copied l.last) given) left;
  named : IfSome l.last (λ name. IsUtf8 name.now × (length name.now ≤ 1024));
}

abbrev pub decreases-loop-last : goal.decreases-loop-last
decreases-loop-last l = length l.rest
