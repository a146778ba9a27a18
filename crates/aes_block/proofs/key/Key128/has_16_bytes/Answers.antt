use Rattle.std.proofs.Common.{length, sym, ap, subst, ◌∙◌, arith}
use Rattle.std.proofs.lemmas.List.{length-take-le}
use Rattle.aes_block.specs.Bytes.{AreBytes}
use Rattle.aes_block.proofs.ByteLemmas.{AreBytes-take}
use Rattle.aes_block.proofs.key.Key128.has_16_bytes.Goals as goal

pub returns-clause-long : goal.returns-clause-long
returns-clause-long c = ap length (sym c.self.view_is) ∙ length-take-le 16 c.self.inside.schedule (omega arith)

pub returns-clause-bytes : goal.returns-clause-bytes
returns-clause-bytes c = subst AreBytes c.self.view_is (AreBytes-take 16 c.self.inside.schedule c.each_is_a_byte.ensures)
