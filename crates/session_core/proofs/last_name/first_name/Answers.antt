use Rattle.std.proofs.Common.{List, ℕ, sym, subst, arith}
use Rattle.session_core.proofs.Names.{Front, front}
use Rattle.session_core.proofs.last_name.first_name.Goals as goal

pub read_u16-size-requires : goal.read_u16-size-requires
read_u16-size-requires c =
    let f = subst (λ (w : List ℕ). Front c.requires.stat w c.requires.rest) (sym c.requires.is) (front c.requires.stat c.requires.rest c.requires.good) in
    omega (arith, f.inside)
