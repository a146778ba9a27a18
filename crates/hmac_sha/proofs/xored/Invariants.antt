use Rattle.std.proofs.Common.{◌≡◌, ◌++◌, length, take, drop}
use Rattle.hmac_sha.specs.Hmac.{xored}
use Rattle.hmac_sha.proofs.xored.Given as goal

abbrev pub invariant-loop-b : goal.invariant-loop-b
invariant-loop-b g l = record {
  long : length l.b-items ≡ length l.block;
  so_far : l.b-items ≡ xored l.byte (take l.b-index l.block) ++ drop l.b-index l.block;
}
