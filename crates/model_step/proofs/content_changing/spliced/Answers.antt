use Rattle.std.proofs.Common.{◌≡◌, ℕ, ◌+◌, ◌-◌, List, ◌++◌, length, take, drop, map, replicate, min, Option, Some, refl, ap, ◌∙◌, rules, arith, length-drop}
use Rattle.std.proofs.lemmas.List.{drop_min, take_all}
use Rattle.model_step.proofs.content_changing.spliced.Goals as goal

pub returns : goal.returns
returns c =
    let old : List (Option ℕ) = c.args.old.now in
    let end : c.min-end.result ≡ min (c.args.at + length c.args.bytes.now) (length old) = omega arith in
    let rest : drop c.min-end.result old ≡ drop (c.args.at + length c.args.bytes.now) old =
    ap (λ (n : ℕ). drop n old) end ∙ drop_min (c.args.at + length c.args.bytes.now) old in
    let zeros : c.in_ok-zeros.zeros.items ≡ replicate (c.args.at - length old) (Some 0) = search rules in
    let first : c.extend_from_slice.new.self.items ≡ old ++ replicate (c.args.at - length old) (Some 0) = search (rules, zeros) in
    let front : c.truncate.new.self.items ≡ take c.args.at (old ++ replicate (c.args.at - length old) (Some 0)) = c.truncate.ensures.items ∙ ap (take c.args.at) first in
    let second : c.extend_from_slice-2.new.self.items ≡ c.truncate.new.self.items ++ map (λ b. Some b) c.args.bytes.now = search rules in
    let third : c.extend_from_slice-3.new.self.items ≡ c.extend_from_slice-2.new.self.items ++ take (length old - c.min-end.result) (drop c.min-end.result old) =
    c.in_ok-extend_from_slice-3.ensures.items in
    let whole : take (length old - c.min-end.result) (drop c.min-end.result old) ≡ drop c.min-end.result old =
    take_all (length old - c.min-end.result) (drop c.min-end.result old) (omega (arith, length-drop c.min-end.result old)) in
    rw (third, whole, second, front, rest) refl
