use Rattle.std.proofs.Common.{◌≡◌, ℕ, ◌+◌, ◌<◌, ◌^◌, MatchOption, Option, Some, None, SomeIff, sym, ◌∙◌, arith}
use Rattle.std.specs.Prelude.{⊤}
use Rattle.deeds.specs.Plain.{plains}
use Rattle.chunk_journal.specs.Stages.{headers_at}
use Rattle.chunk_journal.proofs.Behind.{headers_long}
use Rattle.chunk_journal.proofs.headers.headers_place.Goals as goal

if_some : (o : Option ℕ) (C : Type 0) (n m : ℕ) → SomeIff o C n → n ≡ m → MatchOption o ⊤ (λ at. at ≡ m)
if_some None C n m is same = tt
if_some (Some k) C n m is same = is.1 ∙ same

pub returns : goal.returns
returns c =
    if_some c.checked_add.result _ _ (headers_at (plains c.args.deeds.now)) c.checked_add.ensures (omega (arith, c.spelled_len.ensures, headers_long (plains c.args.deeds.now)))
