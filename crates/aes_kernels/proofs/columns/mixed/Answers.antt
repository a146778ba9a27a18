use Rattle.std.proofs.Common.{◌≡◌, ℕ, ◌<◌, List, [], ◌∷◌, length, get_or, refl, ap, sym, ◌∙◌}
use Rattle.aes_kernels.specs.Circuit.{bit_of, byte_at, mixed, next_places, opposite_places, picked, shifted_places, source0, source1, source2, source3, sum}
use Rattle.aes_kernels.proofs.Elements.{eight}
use Rattle.aes_kernels.proofs.SBox.{eight-is}
use Rattle.aes_kernels.proofs.Mixing.{bit-picked, mixed-at, picked-sum, place-lt}
use Rattle.aes_kernels.proofs.columns.mixed.Goals as goal

opp : {a o : List ℕ} (y r : List ℕ) → length y ≡ length r → a ≡ sum y r → o ≡ picked a opposite_places → o ≡ sum (picked y opposite_places) (picked r opposite_places)
opp y r l e f = f ∙ ap (λ (v : List ℕ). picked v opposite_places) e ∙ picked-sum y r opposite_places l

pub returns-clause-bytes : goal.returns-clause-bytes
returns-clause-bytes c = λ lane bit within small.
    let x : List (List ℕ) = c.args.x in
    let whole = eight-is x c.requires.0 in
    let long-row_0 : length c.shifted-row_0.result ≡ 16 = ap length c.shifted-row_0.ensures in
    let long-next_0 : length c.next-next_0.result ≡ 16 = ap length c.next-next_0.ensures in
    let long-row_1 : length c.shifted-row_1.result ≡ 16 = ap length c.shifted-row_1.ensures in
    let long-next_1 : length c.next-next_1.result ≡ 16 = ap length c.next-next_1.ensures in
    let long-row_2 : length c.shifted-row_2.result ≡ 16 = ap length c.shifted-row_2.ensures in
    let long-next_2 : length c.next-next_2.result ≡ 16 = ap length c.next-next_2.ensures in
    let long-row_3 : length c.shifted-row_3.result ≡ 16 = ap length c.shifted-row_3.ensures in
    let long-next_3 : length c.next-next_3.result ≡ 16 = ap length c.next-next_3.ensures in
    let long-row_4 : length c.shifted-row_4.result ≡ 16 = ap length c.shifted-row_4.ensures in
    let long-next_4 : length c.next-next_4.result ≡ 16 = ap length c.next-next_4.ensures in
    let long-row_5 : length c.shifted-row_5.result ≡ 16 = ap length c.shifted-row_5.ensures in
    let long-next_5 : length c.next-next_5.result ≡ 16 = ap length c.next-next_5.ensures in
    let long-row_6 : length c.shifted-row_6.result ≡ 16 = ap length c.shifted-row_6.ensures in
    let long-next_6 : length c.next-next_6.result ≡ 16 = ap length c.next-next_6.ensures in
    let long-row_7 : length c.shifted-row_7.result ≡ 16 = ap length c.shifted-row_7.ensures in
    let long-next_7 : length c.next-next_7.result ≡ 16 = ap length c.next-next_7.ensures in
    let at-y = λ (l : ℕ) (h : l < 16) (v y : List ℕ) (e : y ≡ picked v shifted_places). ap (bit_of l bit) e ∙ bit-picked l bit v shifted_places h in
    let at-r = λ (l : ℕ) (h : l < 16) (v y r : List ℕ) (e : y ≡ picked v shifted_places) (f : r ≡ picked y next_places).
    ap (bit_of l bit) f ∙ bit-picked l bit y next_places h ∙ at-y (get_or next_places l 0) (place-lt next_places tt l) v y e in
    let over : get_or opposite_places lane 0 < 16 = place-lt opposite_places tt lane in
    mixed-at lane bit
    (c.shifted-row_0.result ∷ c.shifted-row_1.result ∷ c.shifted-row_2.result ∷ c.shifted-row_3.result ∷ c.shifted-row_4.result ∷ c.shifted-row_5.result ∷ c.shifted-row_6.result ∷ c.shifted-row_7.result ∷ [])
    (c.next-next_0.result ∷ c.next-next_1.result ∷ c.next-next_2.result ∷ c.next-next_3.result ∷ c.next-next_4.result ∷ c.next-next_5.result ∷ c.next-next_6.result ∷ c.next-next_7.result ∷ [])
    (picked c.shifted-row_0.result opposite_places ∷ picked c.shifted-row_1.result opposite_places ∷ picked c.shifted-row_2.result opposite_places ∷ picked c.shifted-row_3.result opposite_places ∷ picked c.shifted-row_4.result opposite_places ∷ picked c.shifted-row_5.result opposite_places ∷ picked c.shifted-row_6.result opposite_places ∷ picked c.shifted-row_7.result opposite_places ∷ [])
    (picked c.next-next_0.result opposite_places ∷ picked c.next-next_1.result opposite_places ∷ picked c.next-next_2.result opposite_places ∷ picked c.next-next_3.result opposite_places ∷ picked c.next-next_4.result opposite_places ∷ picked c.next-next_5.result opposite_places ∷ picked c.next-next_6.result opposite_places ∷ picked c.next-next_7.result opposite_places ∷ [])
    (c.sum-pair_0.result ∷ c.sum-pair_1.result ∷ c.sum-pair_2.result ∷ c.sum-pair_3.result ∷ c.sum-pair_4.result ∷ c.sum-pair_5.result ∷ c.sum-pair_6.result ∷ c.sum-pair_7.result ∷ c.opposite-opposite_0.result ∷ c.opposite-opposite_1.result ∷ c.opposite-opposite_2.result ∷ c.opposite-opposite_3.result ∷ c.opposite-opposite_4.result ∷ c.opposite-opposite_5.result ∷ c.opposite-opposite_6.result ∷ c.opposite-opposite_7.result ∷ c.sum-rest_0.result ∷ c.sum-rest_1.result ∷ c.sum-rest_2.result ∷ c.sum-rest_3.result ∷ c.sum-rest_4.result ∷ c.sum-rest_5.result ∷ c.sum-rest_6.result ∷ c.sum-rest_7.result ∷ c.sum-doubled_1.result ∷ c.sum-doubled_3.result ∷ c.sum-doubled_4.result ∷ c.sum-mixed_0.result ∷ c.sum-mixed_1.result ∷ c.sum-mixed_2.result ∷ c.sum-mixed_3.result ∷ c.sum-mixed_4.result ∷ c.sum-mixed_5.result ∷ c.sum-mixed_6.result ∷ c.sum-mixed_7.result ∷ [])
    within refl refl refl refl (long-row_0, (long-row_1, (long-row_2, (long-row_3, (long-row_4, (long-row_5, (long-row_6, (long-row_7, (long-next_0, (long-next_1, (long-next_2, (long-next_3, (long-next_4, (long-next_5, (long-next_6, (long-next_7, (refl, (refl, (refl, (refl, (refl, (refl, (refl, (refl, (refl, (refl, (refl, (refl, (refl, (refl, (refl, (refl, tt)))))))))))))))))))))))))))))))) refl
    (c.sum-pair_0.ensures, (c.sum-pair_1.ensures, (c.sum-pair_2.ensures, (c.sum-pair_3.ensures, (c.sum-pair_4.ensures, (c.sum-pair_5.ensures, (c.sum-pair_6.ensures, (c.sum-pair_7.ensures, (opp c.shifted-row_0.result c.next-next_0.result (long-row_0 ∙ sym long-next_0) c.sum-pair_0.ensures c.opposite-opposite_0.ensures, (opp c.shifted-row_1.result c.next-next_1.result (long-row_1 ∙ sym long-next_1) c.sum-pair_1.ensures c.opposite-opposite_1.ensures, (opp c.shifted-row_2.result c.next-next_2.result (long-row_2 ∙ sym long-next_2) c.sum-pair_2.ensures c.opposite-opposite_2.ensures, (opp c.shifted-row_3.result c.next-next_3.result (long-row_3 ∙ sym long-next_3) c.sum-pair_3.ensures c.opposite-opposite_3.ensures, (opp c.shifted-row_4.result c.next-next_4.result (long-row_4 ∙ sym long-next_4) c.sum-pair_4.ensures c.opposite-opposite_4.ensures, (opp c.shifted-row_5.result c.next-next_5.result (long-row_5 ∙ sym long-next_5) c.sum-pair_5.ensures c.opposite-opposite_5.ensures, (opp c.shifted-row_6.result c.next-next_6.result (long-row_6 ∙ sym long-next_6) c.sum-pair_6.ensures c.opposite-opposite_6.ensures, (opp c.shifted-row_7.result c.next-next_7.result (long-row_7 ∙ sym long-next_7) c.sum-pair_7.ensures c.opposite-opposite_7.ensures, (c.sum-rest_0.ensures, (c.sum-rest_1.ensures, (c.sum-rest_2.ensures, (c.sum-rest_3.ensures, (c.sum-rest_4.ensures, (c.sum-rest_5.ensures, (c.sum-rest_6.ensures, (c.sum-rest_7.ensures, (c.sum-doubled_1.ensures, (c.sum-doubled_3.ensures, (c.sum-doubled_4.ensures, (c.sum-mixed_0.ensures, (c.sum-mixed_1.ensures, (c.sum-mixed_2.ensures, (c.sum-mixed_3.ensures, (c.sum-mixed_4.ensures, (c.sum-mixed_5.ensures, (c.sum-mixed_6.ensures, (c.sum-mixed_7.ensures, tt)))))))))))))))))))))))))))))))))))
    ∙ four-of
    (eight (at-y lane within (get_or x 0 []) c.shifted-row_0.result c.shifted-row_0.ensures) (at-y lane within (get_or x 1 []) c.shifted-row_1.result c.shifted-row_1.ensures) (at-y lane within (get_or x 2 []) c.shifted-row_2.result c.shifted-row_2.ensures) (at-y lane within (get_or x 3 []) c.shifted-row_3.result c.shifted-row_3.ensures) (at-y lane within (get_or x 4 []) c.shifted-row_4.result c.shifted-row_4.ensures) (at-y lane within (get_or x 5 []) c.shifted-row_5.result c.shifted-row_5.ensures) (at-y lane within (get_or x 6 []) c.shifted-row_6.result c.shifted-row_6.ensures) (at-y lane within (get_or x 7 []) c.shifted-row_7.result c.shifted-row_7.ensures))
    (eight (at-r lane within (get_or x 0 []) c.shifted-row_0.result c.next-next_0.result c.shifted-row_0.ensures c.next-next_0.ensures) (at-r lane within (get_or x 1 []) c.shifted-row_1.result c.next-next_1.result c.shifted-row_1.ensures c.next-next_1.ensures) (at-r lane within (get_or x 2 []) c.shifted-row_2.result c.next-next_2.result c.shifted-row_2.ensures c.next-next_2.ensures) (at-r lane within (get_or x 3 []) c.shifted-row_3.result c.next-next_3.result c.shifted-row_3.ensures c.next-next_3.ensures) (at-r lane within (get_or x 4 []) c.shifted-row_4.result c.next-next_4.result c.shifted-row_4.ensures c.next-next_4.ensures) (at-r lane within (get_or x 5 []) c.shifted-row_5.result c.next-next_5.result c.shifted-row_5.ensures c.next-next_5.ensures) (at-r lane within (get_or x 6 []) c.shifted-row_6.result c.next-next_6.result c.shifted-row_6.ensures c.next-next_6.ensures) (at-r lane within (get_or x 7 []) c.shifted-row_7.result c.next-next_7.result c.shifted-row_7.ensures c.next-next_7.ensures))
    (eight (bit-picked lane bit c.shifted-row_0.result opposite_places within ∙ at-y (get_or opposite_places lane 0) over (get_or x 0 []) c.shifted-row_0.result c.shifted-row_0.ensures) (bit-picked lane bit c.shifted-row_1.result opposite_places within ∙ at-y (get_or opposite_places lane 0) over (get_or x 1 []) c.shifted-row_1.result c.shifted-row_1.ensures) (bit-picked lane bit c.shifted-row_2.result opposite_places within ∙ at-y (get_or opposite_places lane 0) over (get_or x 2 []) c.shifted-row_2.result c.shifted-row_2.ensures) (bit-picked lane bit c.shifted-row_3.result opposite_places within ∙ at-y (get_or opposite_places lane 0) over (get_or x 3 []) c.shifted-row_3.result c.shifted-row_3.ensures) (bit-picked lane bit c.shifted-row_4.result opposite_places within ∙ at-y (get_or opposite_places lane 0) over (get_or x 4 []) c.shifted-row_4.result c.shifted-row_4.ensures) (bit-picked lane bit c.shifted-row_5.result opposite_places within ∙ at-y (get_or opposite_places lane 0) over (get_or x 5 []) c.shifted-row_5.result c.shifted-row_5.ensures) (bit-picked lane bit c.shifted-row_6.result opposite_places within ∙ at-y (get_or opposite_places lane 0) over (get_or x 6 []) c.shifted-row_6.result c.shifted-row_6.ensures) (bit-picked lane bit c.shifted-row_7.result opposite_places within ∙ at-y (get_or opposite_places lane 0) over (get_or x 7 []) c.shifted-row_7.result c.shifted-row_7.ensures))
    (eight (bit-picked lane bit c.next-next_0.result opposite_places within ∙ at-r (get_or opposite_places lane 0) over (get_or x 0 []) c.shifted-row_0.result c.next-next_0.result c.shifted-row_0.ensures c.next-next_0.ensures) (bit-picked lane bit c.next-next_1.result opposite_places within ∙ at-r (get_or opposite_places lane 0) over (get_or x 1 []) c.shifted-row_1.result c.next-next_1.result c.shifted-row_1.ensures c.next-next_1.ensures) (bit-picked lane bit c.next-next_2.result opposite_places within ∙ at-r (get_or opposite_places lane 0) over (get_or x 2 []) c.shifted-row_2.result c.next-next_2.result c.shifted-row_2.ensures c.next-next_2.ensures) (bit-picked lane bit c.next-next_3.result opposite_places within ∙ at-r (get_or opposite_places lane 0) over (get_or x 3 []) c.shifted-row_3.result c.next-next_3.result c.shifted-row_3.ensures c.next-next_3.ensures) (bit-picked lane bit c.next-next_4.result opposite_places within ∙ at-r (get_or opposite_places lane 0) over (get_or x 4 []) c.shifted-row_4.result c.next-next_4.result c.shifted-row_4.ensures c.next-next_4.ensures) (bit-picked lane bit c.next-next_5.result opposite_places within ∙ at-r (get_or opposite_places lane 0) over (get_or x 5 []) c.shifted-row_5.result c.next-next_5.result c.shifted-row_5.ensures c.next-next_5.ensures) (bit-picked lane bit c.next-next_6.result opposite_places within ∙ at-r (get_or opposite_places lane 0) over (get_or x 6 []) c.shifted-row_6.result c.next-next_6.result c.shifted-row_6.ensures c.next-next_6.ensures) (bit-picked lane bit c.next-next_7.result opposite_places within ∙ at-r (get_or opposite_places lane 0) over (get_or x 7 []) c.shifted-row_7.result c.next-next_7.result c.shifted-row_7.ensures c.next-next_7.ensures))
    ∙ ap (λ (l : List (List ℕ)). mixed (byte_at l (source0 lane) bit) (byte_at l (source1 lane) bit) (byte_at l (source2 lane) bit) (byte_at l (source3 lane) bit)) (sym whole)
  where
    four-of : {p q r t p' q' r' t' : ℕ} → p ≡ p' → q ≡ q' → r ≡ r' → t ≡ t' → mixed p q r t ≡ mixed p' q' r' t'
    four-of a b c d = cc
