-- Groups of eight blocks in place.
use Rattle.std.proofs.Common.{◌≡◌, ℕ, suc, ◌+◌, ◌*◌, ◌<◌, ◌≤◌, List, [], ◌∷◌, length, map, set, get_or, refl, ap, sym, subst, ◌∙◌, arith}
use Rattle.std.proofs.lemmas.List.{get_or-set_other, length-set}
use Rattle.aes_kernels.proofs.LaneKeys.{Done, one_more}

plus : (i k : ℕ) → 8 * i + k + 1 ≡ 8 * i + suc k
plus i k = omega arith

plus0 : (i : ℕ) → 8 * i + 1 ≡ 8 * i + 1
plus0 i = refl

last : (i : ℕ) → 8 * i + 8 ≡ 8 * (i + 1)
last i = omega arith

pub eight_more : (f : List ℕ → List ℕ) (xs ys made : List (List ℕ)) (i : ℕ) → 8 * i + 8 ≤ length xs → length ys ≡ length xs → Done f xs (8 * i) ys
    → made ≡ map f (get_or ys (8 * i) [] ∷ get_or ys (8 * i + 1) [] ∷ get_or ys (8 * i + 2) [] ∷ get_or ys (8 * i + 3) [] ∷ get_or ys (8 * i + 4) [] ∷ get_or ys (8 * i + 5) [] ∷ get_or ys (8 * i + 6) [] ∷ get_or ys (8 * i + 7) [] ∷ [])
    → Done f xs (8 * (i + 1)) (set (set (set (set (set (set (set (set ys (8 * i) (get_or made 0 [])) (8 * i + 1) (get_or made 1 [])) (8 * i + 2) (get_or made 2 [])) (8 * i + 3) (get_or made 3 [])) (8 * i + 4) (get_or made 4 [])) (8 * i + 5) (get_or made 5 [])) (8 * i + 6) (get_or made 6 [])) (8 * i + 7) (get_or made 7 []))
eight_more f xs ys made i room same e m =
    let y0 : List (List ℕ) = ys in
    let l0 : length y0 ≡ length xs = same in
    let y1 : List (List ℕ) = set y0 (8 * i) (get_or made 0 []) in
    let l1 : length y1 ≡ length xs = length-set y0 (8 * i) (get_or made 0 []) ∙ l0 in
    let o1 = λ (k : ℕ) (h : 8 * i + 0 < k). get_or-set_other y0 (8 * i) k (get_or made 0 []) [] (λ z. absurd (omega arith)) in
    let e1 : Done f xs (8 * i + 1) y1 = subst (λ (k : ℕ). Done f xs k y1) (plus0 i) (one_more f xs y0 (8 * i) (get_or ys (8 * i) []) (get_or made 0 []) (omega arith) (omega (arith, l0)) e refl (ap (λ (l : List (List ℕ)). get_or l 0 []) m)) in
    let y2 : List (List ℕ) = set y1 (8 * i + 1) (get_or made 1 []) in
    let l2 : length y2 ≡ length xs = length-set y1 (8 * i + 1) (get_or made 1 []) ∙ l1 in
    let o2 = λ (k : ℕ) (h : 8 * i + 1 < k). get_or-set_other y1 (8 * i + 1) k (get_or made 1 []) [] (λ z. absurd (omega arith)) ∙ o1 k (omega arith) in
    let e2 : Done f xs (8 * i + 2) y2 = subst (λ (k : ℕ). Done f xs k y2) (plus i 1) (one_more f xs y1 (8 * i + 1) (get_or ys (8 * i + 1) []) (get_or made 1 []) (omega arith) (omega (arith, l1)) e1 (sym (o1 (8 * i + 1) (omega arith))) (ap (λ (l : List (List ℕ)). get_or l 1 []) m)) in
    let y3 : List (List ℕ) = set y2 (8 * i + 2) (get_or made 2 []) in
    let l3 : length y3 ≡ length xs = length-set y2 (8 * i + 2) (get_or made 2 []) ∙ l2 in
    let o3 = λ (k : ℕ) (h : 8 * i + 2 < k). get_or-set_other y2 (8 * i + 2) k (get_or made 2 []) [] (λ z. absurd (omega arith)) ∙ o2 k (omega arith) in
    let e3 : Done f xs (8 * i + 3) y3 = subst (λ (k : ℕ). Done f xs k y3) (plus i 2) (one_more f xs y2 (8 * i + 2) (get_or ys (8 * i + 2) []) (get_or made 2 []) (omega arith) (omega (arith, l2)) e2 (sym (o2 (8 * i + 2) (omega arith))) (ap (λ (l : List (List ℕ)). get_or l 2 []) m)) in
    let y4 : List (List ℕ) = set y3 (8 * i + 3) (get_or made 3 []) in
    let l4 : length y4 ≡ length xs = length-set y3 (8 * i + 3) (get_or made 3 []) ∙ l3 in
    let o4 = λ (k : ℕ) (h : 8 * i + 3 < k). get_or-set_other y3 (8 * i + 3) k (get_or made 3 []) [] (λ z. absurd (omega arith)) ∙ o3 k (omega arith) in
    let e4 : Done f xs (8 * i + 4) y4 = subst (λ (k : ℕ). Done f xs k y4) (plus i 3) (one_more f xs y3 (8 * i + 3) (get_or ys (8 * i + 3) []) (get_or made 3 []) (omega arith) (omega (arith, l3)) e3 (sym (o3 (8 * i + 3) (omega arith))) (ap (λ (l : List (List ℕ)). get_or l 3 []) m)) in
    let y5 : List (List ℕ) = set y4 (8 * i + 4) (get_or made 4 []) in
    let l5 : length y5 ≡ length xs = length-set y4 (8 * i + 4) (get_or made 4 []) ∙ l4 in
    let o5 = λ (k : ℕ) (h : 8 * i + 4 < k). get_or-set_other y4 (8 * i + 4) k (get_or made 4 []) [] (λ z. absurd (omega arith)) ∙ o4 k (omega arith) in
    let e5 : Done f xs (8 * i + 5) y5 = subst (λ (k : ℕ). Done f xs k y5) (plus i 4) (one_more f xs y4 (8 * i + 4) (get_or ys (8 * i + 4) []) (get_or made 4 []) (omega arith) (omega (arith, l4)) e4 (sym (o4 (8 * i + 4) (omega arith))) (ap (λ (l : List (List ℕ)). get_or l 4 []) m)) in
    let y6 : List (List ℕ) = set y5 (8 * i + 5) (get_or made 5 []) in
    let l6 : length y6 ≡ length xs = length-set y5 (8 * i + 5) (get_or made 5 []) ∙ l5 in
    let o6 = λ (k : ℕ) (h : 8 * i + 5 < k). get_or-set_other y5 (8 * i + 5) k (get_or made 5 []) [] (λ z. absurd (omega arith)) ∙ o5 k (omega arith) in
    let e6 : Done f xs (8 * i + 6) y6 = subst (λ (k : ℕ). Done f xs k y6) (plus i 5) (one_more f xs y5 (8 * i + 5) (get_or ys (8 * i + 5) []) (get_or made 5 []) (omega arith) (omega (arith, l5)) e5 (sym (o5 (8 * i + 5) (omega arith))) (ap (λ (l : List (List ℕ)). get_or l 5 []) m)) in
    let y7 : List (List ℕ) = set y6 (8 * i + 6) (get_or made 6 []) in
    let l7 : length y7 ≡ length xs = length-set y6 (8 * i + 6) (get_or made 6 []) ∙ l6 in
    let o7 = λ (k : ℕ) (h : 8 * i + 6 < k). get_or-set_other y6 (8 * i + 6) k (get_or made 6 []) [] (λ z. absurd (omega arith)) ∙ o6 k (omega arith) in
    let e7 : Done f xs (8 * i + 7) y7 = subst (λ (k : ℕ). Done f xs k y7) (plus i 6) (one_more f xs y6 (8 * i + 6) (get_or ys (8 * i + 6) []) (get_or made 6 []) (omega arith) (omega (arith, l6)) e6 (sym (o6 (8 * i + 6) (omega arith))) (ap (λ (l : List (List ℕ)). get_or l 6 []) m)) in
    let y8 : List (List ℕ) = set y7 (8 * i + 7) (get_or made 7 []) in
    let l8 : length y8 ≡ length xs = length-set y7 (8 * i + 7) (get_or made 7 []) ∙ l7 in
    let o8 = λ (k : ℕ) (h : 8 * i + 7 < k). get_or-set_other y7 (8 * i + 7) k (get_or made 7 []) [] (λ z. absurd (omega arith)) ∙ o7 k (omega arith) in
    let e8 : Done f xs (8 * i + 8) y8 = subst (λ (k : ℕ). Done f xs k y8) (plus i 7) (one_more f xs y7 (8 * i + 7) (get_or ys (8 * i + 7) []) (get_or made 7 []) (omega arith) (omega (arith, l7)) e7 (sym (o7 (8 * i + 7) (omega arith))) (ap (λ (l : List (List ℕ)). get_or l 7 []) m)) in
    subst (λ (k : ℕ). Done f xs k y8) (last i) e8
