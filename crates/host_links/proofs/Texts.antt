-- A text without what it begins or ends with.
use Rattle.std.proofs.Common.{◌≡◌, ℕ, List, ◌++◌, Option, Some, None, Bor, sym, ap, ◌∙◌}
use Rattle.std.specs.Prelude.{MatchOption}
use Rattle.std.specs.Str.Pattern.{FindsTextPrefix, FindsTextSuffix, StripsPrefix, StripsSuffix}

pub after_front : (front text rest : List ℕ) → StripsPrefix (FindsTextPrefix front) text rest → text ≡ front ++ rest
after_front front text rest h = h.1.1 ∙ ap (λ l. front ++ l) (sym h.2)

before_end : (end text rest : List ℕ) → StripsSuffix (FindsTextSuffix end) text rest → text ≡ rest ++ end
before_end end text rest h = h.1.1 ∙ ap (λ l. l ++ end) (sym h.2)

-- what is left before an end, or that the text hasn't that end
pub without_end : (end text : List ℕ) (r : Option (Bor (List ℕ))) → MatchOption r (FindsTextSuffix end text None) (λ rest. StripsSuffix (FindsTextSuffix end) text rest.now)
    → MatchOption r ((rest : List ℕ) → text ≡ rest ++ end → ⊥) (λ rest. text ≡ rest.now ++ end)
without_end end text None h = h
without_end end text (Some rest) h = before_end end text rest.now h
