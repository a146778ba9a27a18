use Rattle.std.proofs.Common.{ℕ, List, [], ◌∷◌, get_or, refl, ap, sym, subst, ◌∙◌}
use Rattle.aes_kernels.specs.Circuit.{byte_at, substituted_at}
use Rattle.aes_kernels.proofs.Gates.{AreVectors}
use Rattle.aes_kernels.proofs.SBox.{eight-is, s_box-at}
use Rattle.aes_kernels.proofs.circuit.substituted.Goals as goal

pub returns-clause-bytes : goal.returns-clause-bytes
returns-clause-bytes c = λ lane bit within small.
    let x : List (List ℕ) = c.args.x in
    let whole = eight-is x c.requires.0 in
    let are : AreVectors (get_or x 0 [] ∷ get_or x 1 [] ∷ get_or x 2 [] ∷ get_or x 3 [] ∷ get_or x 4 [] ∷ get_or x 5 [] ∷ get_or x 6 [] ∷ get_or x 7 [] ∷ []) = subst AreVectors whole c.requires.1 in
    s_box-at lane bit (get_or x 0 []) (get_or x 1 []) (get_or x 2 []) (get_or x 3 []) (get_or x 4 []) (get_or x 5 []) (get_or x 6 []) (get_or x 7 [])
    (c.sum-y14.result ∷ c.sum-y13.result ∷ c.sum-y9.result ∷ c.sum-y8.result ∷ c.sum-t0.result ∷ c.sum-y1.result ∷ c.sum-y4.result ∷ c.sum-y12.result ∷ c.sum-y2.result ∷ c.sum-y5.result ∷ c.sum-y3.result ∷ c.sum-t1.result ∷ c.sum-y15.result ∷ c.sum-y20.result ∷ c.sum-y6.result ∷ c.sum-y10.result ∷ c.sum-y11.result ∷ c.sum-y7.result ∷ c.sum-y17.result ∷ c.sum-y19.result ∷ c.sum-y16.result ∷ c.sum-y21.result ∷ c.sum-y18.result ∷ c.both-t2.result ∷ c.both-t3.result ∷ c.sum-t4.result ∷ c.both-t5.result ∷ c.sum-t6.result ∷ c.both-t7.result ∷ c.both-t8.result ∷ c.sum-t9.result ∷ c.both-t10.result ∷ c.sum-t11.result ∷ c.both-t12.result ∷ c.both-t13.result ∷ c.sum-t14.result ∷ c.both-t15.result ∷ c.sum-t16.result ∷ c.sum-t17.result ∷ c.sum-t18.result ∷ c.sum-t19.result ∷ c.sum-t20.result ∷ c.sum-t21.result ∷ c.sum-t22.result ∷ c.sum-t23.result ∷ c.sum-t24.result ∷ c.sum-t25.result ∷ c.both-t26.result ∷ c.sum-t27.result ∷ c.both-t28.result ∷ c.sum-t29.result ∷ c.sum-t30.result ∷ c.sum-t31.result ∷ c.both-t32.result ∷ c.sum-t33.result ∷ c.sum-t34.result ∷ c.sum-t35.result ∷ c.both-t36.result ∷ c.sum-t37.result ∷ c.sum-t38.result ∷ c.both-t39.result ∷ c.sum-t40.result ∷ c.sum-t41.result ∷ c.sum-t42.result ∷ c.sum-t43.result ∷ c.sum-t44.result ∷ c.sum-t45.result ∷ c.both-z0.result ∷ c.both-z1.result ∷ c.both-z2.result ∷ c.both-z3.result ∷ c.both-z4.result ∷ c.both-z5.result ∷ c.both-z6.result ∷ c.both-z7.result ∷ c.both-z8.result ∷ c.both-z9.result ∷ c.both-z10.result ∷ c.both-z11.result ∷ c.both-z12.result ∷ c.both-z13.result ∷ c.both-z14.result ∷ c.both-z15.result ∷ c.both-z16.result ∷ c.both-z17.result ∷ c.sum-t46.result ∷ c.sum-t47.result ∷ c.sum-t48.result ∷ c.sum-t49.result ∷ c.sum-t50.result ∷ c.sum-t51.result ∷ c.sum-t52.result ∷ c.sum-t53.result ∷ c.sum-t54.result ∷ c.sum-t55.result ∷ c.sum-t56.result ∷ c.sum-t57.result ∷ c.sum-t58.result ∷ c.sum-t59.result ∷ c.sum-t60.result ∷ c.sum-t61.result ∷ c.sum-t62.result ∷ c.sum-t63.result ∷ c.sum-t64.result ∷ c.sum-t65.result ∷ c.sum-t66.result ∷ c.sum-s0.result ∷ c.sum-s6.result ∷ c.sum-s7.result ∷ c.sum-t67.result ∷ c.sum-s3.result ∷ c.sum-s4.result ∷ c.sum-s5.result ∷ c.sum-s1.result ∷ c.sum-s2.result ∷ [])
    within are refl
    (c.sum-y14.ensures, (c.sum-y13.ensures, (c.sum-y9.ensures, (c.sum-y8.ensures, (c.sum-t0.ensures, (c.sum-y1.ensures, (c.sum-y4.ensures, (c.sum-y12.ensures, (c.sum-y2.ensures, (c.sum-y5.ensures, (c.sum-y3.ensures, (c.sum-t1.ensures, (c.sum-y15.ensures, (c.sum-y20.ensures, (c.sum-y6.ensures, (c.sum-y10.ensures, (c.sum-y11.ensures, (c.sum-y7.ensures, (c.sum-y17.ensures, (c.sum-y19.ensures, (c.sum-y16.ensures, (c.sum-y21.ensures, (c.sum-y18.ensures, (c.both-t2.ensures, (c.both-t3.ensures, (c.sum-t4.ensures, (c.both-t5.ensures, (c.sum-t6.ensures, (c.both-t7.ensures, (c.both-t8.ensures, (c.sum-t9.ensures, (c.both-t10.ensures, (c.sum-t11.ensures, (c.both-t12.ensures, (c.both-t13.ensures, (c.sum-t14.ensures, (c.both-t15.ensures, (c.sum-t16.ensures, (c.sum-t17.ensures, (c.sum-t18.ensures, (c.sum-t19.ensures, (c.sum-t20.ensures, (c.sum-t21.ensures, (c.sum-t22.ensures, (c.sum-t23.ensures, (c.sum-t24.ensures, (c.sum-t25.ensures, (c.both-t26.ensures, (c.sum-t27.ensures, (c.both-t28.ensures, (c.sum-t29.ensures, (c.sum-t30.ensures, (c.sum-t31.ensures, (c.both-t32.ensures, (c.sum-t33.ensures, (c.sum-t34.ensures, (c.sum-t35.ensures, (c.both-t36.ensures, (c.sum-t37.ensures, (c.sum-t38.ensures, (c.both-t39.ensures, (c.sum-t40.ensures, (c.sum-t41.ensures, (c.sum-t42.ensures, (c.sum-t43.ensures, (c.sum-t44.ensures, (c.sum-t45.ensures, (c.both-z0.ensures, (c.both-z1.ensures, (c.both-z2.ensures, (c.both-z3.ensures, (c.both-z4.ensures, (c.both-z5.ensures, (c.both-z6.ensures, (c.both-z7.ensures, (c.both-z8.ensures, (c.both-z9.ensures, (c.both-z10.ensures, (c.both-z11.ensures, (c.both-z12.ensures, (c.both-z13.ensures, (c.both-z14.ensures, (c.both-z15.ensures, (c.both-z16.ensures, (c.both-z17.ensures, (c.sum-t46.ensures, (c.sum-t47.ensures, (c.sum-t48.ensures, (c.sum-t49.ensures, (c.sum-t50.ensures, (c.sum-t51.ensures, (c.sum-t52.ensures, (c.sum-t53.ensures, (c.sum-t54.ensures, (c.sum-t55.ensures, (c.sum-t56.ensures, (c.sum-t57.ensures, (c.sum-t58.ensures, (c.sum-t59.ensures, (c.sum-t60.ensures, (c.sum-t61.ensures, (c.sum-t62.ensures, (c.sum-t63.ensures, (c.sum-t64.ensures, (c.sum-t65.ensures, (c.sum-t66.ensures, (c.sum-s0.ensures, (c.sum-s6.ensures, (c.sum-s7.ensures, (c.sum-t67.ensures, (c.sum-s3.ensures, (c.sum-s4.ensures, (c.sum-s5.ensures, (c.sum-s1.ensures, (c.sum-s2.ensures, tt)))))))))))))))))))))))))))))))))))))))))))))))))))))))))))))))))))))))))))))))))))))))))))))))))))))))))))))))))))
    ∙ ap (λ (l : List (List ℕ)). substituted_at (byte_at l lane bit)) (sym whole)
