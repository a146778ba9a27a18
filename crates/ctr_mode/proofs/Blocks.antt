-- Blocks in place: the groups, and what is left behind them.
use Rattle.std.proofs.Common.{◌≡◌, ℕ, ◌-◌, ◌≤◌, List, [], ◌++◌, length, map, take, drop, sym, ap, ◌∙◌, arith}
use Rattle.std.proofs.lemmas.List.{append-nil, length-map, length-take-le, length-drop, map-append, take-append-drop, take_all, drop_all, take_at, drop_at}
use borrow.Rule.Slice.PartMut.{put_mid}

pub rest_done : (f : List ℕ → List ℕ) (xs ys made : List (List ℕ)) (n k : ℕ) → n ≤ length xs → k ≡ length xs - n
    → ys ≡ map f (take n xs) ++ drop n xs → made ≡ map f (take k (drop n ys)) → put_mid n k ys made ≡ map f xs
rest_done f xs ys made n k room size before is =
    let front : List (List ℕ) = map f (take n xs) in
    let rest : List (List ℕ) = drop n xs in
    let front_long : length front ≡ n = length-map (take n xs) f ∙ length-take-le n xs room in
    let all : length rest ≤ k = omega (arith, length-drop n xs) in
    let front_is : take n ys ≡ front = ap (take n) before ∙ take_at front rest n front_long in
    let rest_is : drop n ys ≡ rest = ap (drop n) before ∙ drop_at front rest n front_long in
    let made_is : made ≡ map f rest = is ∙ ap (λ (l : List (List ℕ)). map f (take k l)) rest_is ∙ ap (map f) (take_all k rest all) in
    let end_is : drop k (drop n ys) ≡ [] = ap (drop k) rest_is ∙ drop_all k rest all in
    (λ j. front_is j ++ (made_is j ++ end_is j)) ∙ ap (λ l. front ++ l) (append-nil (map f rest))
    ∙ sym (map-append f (take n xs) rest) ∙ ap (map f) (take-append-drop n xs)
