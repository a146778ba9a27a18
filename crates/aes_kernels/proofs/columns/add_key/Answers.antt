use Rattle.std.proofs.Common.{ℕ, List, ap, ap₂, sym, ◌∙◌}
use Rattle.aes_kernels.specs.Circuit.{byte_at}
use Rattle.aes_kernels.proofs.Elements.{eight-same}
use Rattle.aes_kernels.proofs.SBox.{eight-is}
use Rattle.aes_kernels.proofs.PlaneKeys.{keyed-at, sums}
use Rattle.aes_kernels.proofs.columns.add_key.Goals as goal

pub returns-clause-bytes : goal.returns-clause-bytes
returns-clause-bytes c = λ lane bit within small.
    ap (λ (z : List (List ℕ)). byte_at z lane bit)
    (eight-same c.sum.ensures c.sum-2.ensures c.sum-3.ensures c.sum-4.ensures c.sum-5.ensures c.sum-6.ensures c.sum-7.ensures c.sum-8.ensures ∙ sym (ap₂ sums (eight-is c.args.x c.requires.x.0) (eight-is c.args.key c.requires.key.0)))
    ∙ keyed-at lane bit c.args.x c.args.key within c.requires.x c.requires.key
