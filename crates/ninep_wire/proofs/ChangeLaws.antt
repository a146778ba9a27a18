-- The stat of a Twstat that is read is the one that was written, and what was written is read again.
use Rattle.std.proofs.Common.{◌≡◌, ◌≢◌, ℕ, ◌+◌, ◌-◌, ◌^◌, ◌<◌, ◌≤◌, Bool, true, false, cond, eqb, List, [], ◌++◌, ◌&&◌, length, Option, Some, None, Ok, refl, sym, ap, subst, ◌∙◌, append_assoc, arith}
use Rattle.std.specs.Prelude.{IfSome}
use Rattle.std.proofs.Math.Nat.{one-le-pow}
use Rattle.std.proofs.lemmas.Bool.{eqb-true, eqb-false, eq-eqb, ne_eqb, and_parts}
use Rattle.std.proofs.lemmas.List.{append-nil, nil_from_length}
use Rattle.std.proofs.lemmas.Str.{IsUtf8-nil}
use Rattle.tree_model.specs.declared.stat.Qid.{Qid}
use Rattle.tree_model.specs.Asked.{PlainChange}
use Rattle.ninep_wire.specs.declared.fault.WireErr.TheVariants.{Long}
use Rattle.tree_model.specs.Wire.{number, string, IsString, qid, IsQid}
use Rattle.ninep_wire.specs.TMessage.{optional_number, optional_qid, optional_string, change_fields, change_stat, IsTouchedNumber, IsTouchedString, IsChange}
use Rattle.ninep_wire.specs.Reading.{◌>>=◌, bytes_at, number_at, qid_at, touched_number, touched_qid, touched_string, optional_number_at, optional_qid_at, optional_string_at, change_at, ended, stat_in, stat_at}
use Rattle.ninep_wire.proofs.FieldLaws.{IsBytes, IsBytes-front, bind_ok, passed_ok, ok_is, Takes, Takes-then, IsField, step, takes1, bytes_field, number_field, string_field, qid_field}

-- ---- a field that may be untouched

-- the untouched number is spelled as all ones, and any other as itself
touched_number_is : (n x : ℕ) (b : Bool) → eqb x (256 ^ n - 1) ≡ b → x < 256 ^ n
    → (number n x ≡ optional_number n (cond b None (Some x))) × IsTouchedNumber n (cond b None (Some x))
touched_number_is n x true e lt = let same : x ≡ 256 ^ n - 1 = eqb-true _ _ e in (ap (number n) same, tt)
touched_number_is n x false e lt = let other : x ≡ 256 ^ n - 1 → ⊥ = eqb-false _ _ e in (refl, omega (arith, other))

optional_number_again : (n : ℕ) (x : Option ℕ) (rest : List ℕ) → IsTouchedNumber n x → optional_number_at n (optional_number n x ++ rest) ≡ Ok (x, rest)
unfolding optional_number_at
optional_number_again n None rest fits =
    let some : 1 ≤ 256 ^ n = one-le-pow n 256 (omega arith) in
    let lt : 256 ^ n - 1 < 256 ^ n = omega arith in
    let same : eqb (256 ^ n - 1) (256 ^ n - 1) ≡ true = eq-eqb _ _ refl in
    rw ((number_field n).again (256 ^ n - 1) rest lt, same) refl
optional_number_again n (Some x) rest fits =
    let lt : x < 256 ^ n = omega (arith, fits) in
    let other : eqb x (256 ^ n - 1) ≡ false = ne_eqb _ _ (omega (arith, fits)) in
    rw ((number_field n).again x rest lt, other) refl

pub optional_number_field : (n : ℕ) → IsField (Option ℕ) (optional_number_at n) (optional_number n) (IsTouchedNumber n)
unfolding optional_number_at
optional_number_field n = record {
  takes = λ bytes x fits e.
      takes1 (number_field n) (touched_number n) bytes x fits e (λ y. Takes bytes (optional_number n y.0) y.1 × IsTouchedNumber n y.0)
      (λ k rest t lt. let is = touched_number_is n k (eqb k (256 ^ n - 1)) refl lt in (subst (λ (w : List ℕ). Takes bytes w rest) is.0 t, is.1));
  again = optional_number_again n;
}

-- the qid that is all ones
abbrev ones : Qid
ones = record { kind = 255; version = 4294967295; path = 18446744073709551615 }

ones_fit : IsQid ones
ones_fit = record { kind = omega arith; version = omega arith; path = omega arith }

-- a qid that is spelled as all ones is the one of ones
spelled_ones : (q : Qid) → IsQid q → qid q ≡ optional_qid None → q ≡ ones
spelled_ones q fits e =
    let one = qid_field.again q [] fits in
    let other = qid_field.again ones [] ones_fit in
    let same : qid_at (qid q ++ []) ≡ qid_at (qid ones ++ []) = ap (λ (w : List ℕ). qid_at (w ++ [])) e in
    ap (λ (x : Qid × List ℕ). x.0) (ok_is (q, []) (ones, []) (sym one ∙ same ∙ other))

abbrev are_ones : Qid → Bool
are_ones q = (eqb q.kind 255 && eqb q.version 4294967295) && eqb q.path 18446744073709551615

three : (a b c d e f : ℕ) → a ≡ b → c ≡ d → e ≡ f → number 1 a ++ number 4 c ++ number 8 e ≡ number 1 b ++ number 4 d ++ number 8 f
three a b c d e f p q r = ap (λ (x : ℕ). number 1 x ++ number 4 c ++ number 8 e) p ∙ ap (λ (x : ℕ). number 1 b ++ number 4 x ++ number 8 e) q ∙ ap (λ (x : ℕ). number 1 b ++ number 4 d ++ number 8 x) r

are_ones-true : (q : Qid) → are_ones q ≡ true → qid q ≡ optional_qid None
are_ones-true q e =
    let outer = and_parts (eqb q.kind 255 && eqb q.version 4294967295) (eqb q.path 18446744073709551615) e in
    let inner = and_parts (eqb q.kind 255) (eqb q.version 4294967295) outer.0 in
    let kind : q.kind ≡ 255 = eqb-true _ _ inner.0 in
    let version : q.version ≡ 4294967295 = eqb-true _ _ inner.1 in
    let path : q.path ≡ 18446744073709551615 = eqb-true _ _ outer.1 in
    let parts : number 1 q.kind ++ number 4 q.version ++ number 8 q.path ≡ number 1 255 ++ number 4 4294967295 ++ number 8 18446744073709551615 = three q.kind 255 q.version 4294967295 q.path 18446744073709551615 kind version path in
    parts

touched_qid_is : (q : Qid) (b : Bool) → are_ones q ≡ b → IsQid q
    → (qid q ≡ optional_qid (cond b None (Some q))) × IfSome (cond b None (Some q)) (λ q. IsQid q × (qid q ≢ optional_qid None))
touched_qid_is q true e fits = (are_ones-true q e, tt)
touched_qid_is q false e fits =
    (refl, (fits, λ same. let is : true ≡ false = sym (ap are_ones (spelled_ones q fits same)) ∙ e in absurd cc))

ones_or_not : (q : Qid) (b : Bool) → are_ones q ≡ b → (qid q ≢ optional_qid None) → are_ones q ≡ false
ones_or_not q true e other = absurd (other (are_ones-true q e))
ones_or_not q false e other = e

not_ones : (q : Qid) → (qid q ≢ optional_qid None) → are_ones q ≡ false
not_ones q other = ones_or_not q (are_ones q) refl other

optional_qid_again : (x : Option Qid) (rest : List ℕ) → IfSome x (λ q. IsQid q × (qid q ≢ optional_qid None)) → optional_qid_at (optional_qid x ++ rest) ≡ Ok (x, rest)
unfolding optional_qid_at
optional_qid_again None rest fits = rw (qid_field.again ones rest ones_fit) refl
optional_qid_again (Some q) rest fits = rw (qid_field.again q rest fits.0, not_ones q fits.1) refl

pub optional_qid_field : IsField (Option Qid) optional_qid_at optional_qid (λ x. IfSome x (λ q. IsQid q × (qid q ≢ optional_qid None)))
unfolding optional_qid_at
optional_qid_field = record {
  takes = λ bytes x fits e.
      takes1 qid_field touched_qid bytes x fits e (λ y. Takes bytes (optional_qid y.0) y.1 × IfSome y.0 (λ q. IsQid q × (qid q ≢ optional_qid None)))
      (λ q rest t f. let is = touched_qid_is q (are_ones q) refl f in (subst (λ (w : List ℕ). Takes bytes w rest) is.0 t, is.1));
  again = optional_qid_again;
}

touched_string_is : (text : List ℕ) (b : Bool) → eqb (length text) 0 ≡ b → IsString text
    → (string text ≡ optional_string (cond b None (Some text))) × IsTouchedString (cond b None (Some text))
touched_string_is text true e fits = (ap string (nil_from_length text (eqb-true _ _ e)), tt)
touched_string_is text false e fits = let other : length text ≡ 0 → ⊥ = eqb-false _ _ e in (refl, (fits, omega (arith, other)))

nil_fits : IsString []
nil_fits = record { fits = omega arith; utf8 = IsUtf8-nil }

optional_string_again : (x : Option (List ℕ)) (rest : List ℕ) → IsTouchedString x → optional_string_at (optional_string x ++ rest) ≡ Ok (x, rest)
unfolding optional_string_at
optional_string_again None rest fits = rw (string_field.again [] rest nil_fits) refl
optional_string_again (Some text) rest fits =
    let other : eqb (length text) 0 ≡ false = ne_eqb _ _ (omega (arith, fits.1)) in
    rw (string_field.again text rest fits.0, other) refl

pub optional_string_field : IsField (Option (List ℕ)) optional_string_at optional_string IsTouchedString
unfolding optional_string_at
optional_string_field = record {
  takes = λ bytes x fits e.
      takes1 string_field touched_string bytes x fits e (λ y. Takes bytes (optional_string y.0) y.1 × IsTouchedString y.0)
      (λ text rest t f. let is = touched_string_is text (eqb (length text) 0) refl f in (subst (λ (w : List ℕ). Takes bytes w rest) is.0 t, is.1));
  again = optional_string_again;
}

-- ---- all of a stat's fields

pub record AreTouched (c : PlainChange) : Type 0 where
  pub kind : IsTouchedNumber 2 c.kind
  pub device : IsTouchedNumber 4 c.device
  pub qid : IfSome c.qid (λ q. IsQid q × (qid q ≢ optional_qid None))
  pub mode : IsTouchedNumber 4 c.mode
  pub accessed : IsTouchedNumber 4 c.accessed
  pub modified : IsTouchedNumber 4 c.modified
  pub long : IsTouchedNumber 8 c.length
  pub name : IsTouchedString c.name
  pub owner : IsTouchedString c.owner
  pub group : IsTouchedString c.group
  pub modifier : IsTouchedString c.modifier

abbrev made : Option ℕ → Option ℕ → Option Qid → Option ℕ → Option ℕ → Option ℕ → Option ℕ → Option (List ℕ) → Option (List ℕ) → Option (List ℕ) → Option (List ℕ) → PlainChange
made kind device qid mode accessed modified long name owner group modifier = record { kind = kind; device = device; qid = qid; mode = mode; accessed = accessed; modified = modified; length = long; name = name; owner = owner; group = group; modifier = modifier }

after : {a x b y c : List ℕ} → Takes a x b → Takes b y c → Takes a (x ++ y) c
after {a} {x} {b} {y} {c} p q = Takes-then a x b y c p q

pub change_takes : (bytes : List ℕ) (x : PlainChange × List ℕ) → IsBytes bytes → change_at bytes ≡ Ok x → Takes bytes (change_fields x.0) x.1 × AreTouched x.0
unfolding change_at
change_takes bytes x fits e =
    step (optional_number_field 2) (λ v0. optional_number_at 4 v0.1 >>=
    λ v1. optional_qid_at v1.1 >>= λ v2. optional_number_at 4 v2.1 >>= λ v3. optional_number_at 4 v3.1 >>= λ v4. optional_number_at 4 v4.1 >>=
    λ v5. optional_number_at 8 v5.1 >>= λ v6. optional_string_at v6.1 >>= λ v7. optional_string_at v7.1 >>= λ v8. optional_string_at v8.1 >>=
    λ v9. optional_string_at v9.1 >>= λ v10. Ok (made v0.0 v1.0 v2.0 v3.0 v4.0 v5.0 v6.0 v7.0 v8.0 v9.0 v10.0, v10.1)) bytes x fits e (Takes bytes (change_fields x.0) x.1 × AreTouched x.0) (λ p0 r0 t0 f0 e0.
    step (optional_number_field 4) (λ v1. optional_qid_at v1.1 >>=
    λ v2. optional_number_at 4 v2.1 >>= λ v3. optional_number_at 4 v3.1 >>= λ v4. optional_number_at 4 v4.1 >>= λ v5. optional_number_at 8 v5.1 >>=
    λ v6. optional_string_at v6.1 >>= λ v7. optional_string_at v7.1 >>= λ v8. optional_string_at v8.1 >>= λ v9. optional_string_at v9.1 >>=
    λ v10. Ok (made p0 v1.0 v2.0 v3.0 v4.0 v5.0 v6.0 v7.0 v8.0 v9.0 v10.0, v10.1)) r0 x t0.rest_fits e0 (Takes bytes (change_fields x.0) x.1 × AreTouched x.0)
    (λ p1 r1 t1 f1 e1.
    let u1 = after t0 t1 in
    step optional_qid_field (λ v2. optional_number_at 4 v2.1 >>=
    λ v3. optional_number_at 4 v3.1 >>= λ v4. optional_number_at 4 v4.1 >>= λ v5. optional_number_at 8 v5.1 >>= λ v6. optional_string_at v6.1 >>=
    λ v7. optional_string_at v7.1 >>= λ v8. optional_string_at v8.1 >>= λ v9. optional_string_at v9.1 >>= λ v10. Ok (made p0 p1 v2.0 v3.0 v4.0 v5.0 v6.0 v7.0 v8.0 v9.0 v10.0, v10.1)) r1 x t1.rest_fits e1 (Takes bytes (change_fields x.0) x.1 × AreTouched x.0) (λ p2 r2 t2 f2 e2.
    let u2 = after u1 t2 in
    step (optional_number_field 4) (λ v3. optional_number_at 4 v3.1 >>=
    λ v4. optional_number_at 4 v4.1 >>= λ v5. optional_number_at 8 v5.1 >>= λ v6. optional_string_at v6.1 >>= λ v7. optional_string_at v7.1 >>=
    λ v8. optional_string_at v8.1 >>= λ v9. optional_string_at v9.1 >>= λ v10. Ok (made p0 p1 p2 v3.0 v4.0 v5.0 v6.0 v7.0 v8.0 v9.0 v10.0, v10.1)) r2 x t2.rest_fits e2 (Takes bytes (change_fields x.0) x.1 × AreTouched x.0) (λ p3 r3 t3 f3 e3.
    let u3 = after u2 t3 in
    step (optional_number_field 4) (λ v4. optional_number_at 4 v4.1 >>=
    λ v5. optional_number_at 8 v5.1 >>= λ v6. optional_string_at v6.1 >>= λ v7. optional_string_at v7.1 >>= λ v8. optional_string_at v8.1 >>=
    λ v9. optional_string_at v9.1 >>= λ v10. Ok (made p0 p1 p2 p3 v4.0 v5.0 v6.0 v7.0 v8.0 v9.0 v10.0, v10.1)) r3 x t3.rest_fits e3 (Takes bytes (change_fields x.0) x.1 × AreTouched x.0) (λ p4 r4 t4 f4 e4.
    let u4 = after u3 t4 in
    step (optional_number_field 4) (λ v5. optional_number_at 8 v5.1 >>=
    λ v6. optional_string_at v6.1 >>= λ v7. optional_string_at v7.1 >>= λ v8. optional_string_at v8.1 >>= λ v9. optional_string_at v9.1 >>=
    λ v10. Ok (made p0 p1 p2 p3 p4 v5.0 v6.0 v7.0 v8.0 v9.0 v10.0, v10.1)) r4 x t4.rest_fits e4 (Takes bytes (change_fields x.0) x.1 × AreTouched x.0) (λ p5 r5 t5 f5 e5.
    let u5 = after u4 t5 in
    step (optional_number_field 8) (λ v6. optional_string_at v6.1 >>=
    λ v7. optional_string_at v7.1 >>= λ v8. optional_string_at v8.1 >>= λ v9. optional_string_at v9.1 >>= λ v10. Ok (made p0 p1 p2 p3 p4 p5 v6.0 v7.0 v8.0 v9.0 v10.0, v10.1)) r5 x t5.rest_fits e5 (Takes bytes (change_fields x.0) x.1 × AreTouched x.0) (λ p6 r6 t6 f6 e6.
    let u6 = after u5 t6 in
    step optional_string_field (λ v7. optional_string_at v7.1 >>=
    λ v8. optional_string_at v8.1 >>= λ v9. optional_string_at v9.1 >>= λ v10. Ok (made p0 p1 p2 p3 p4 p5 p6 v7.0 v8.0 v9.0 v10.0, v10.1)) r6 x t6.rest_fits e6 (Takes bytes (change_fields x.0) x.1 × AreTouched x.0) (λ p7 r7 t7 f7 e7.
    let u7 = after u6 t7 in
    step optional_string_field (λ v8. optional_string_at v8.1 >>=
    λ v9. optional_string_at v9.1 >>= λ v10. Ok (made p0 p1 p2 p3 p4 p5 p6 p7 v8.0 v9.0 v10.0, v10.1)) r7 x t7.rest_fits e7 (Takes bytes (change_fields x.0) x.1 × AreTouched x.0)
    (λ p8 r8 t8 f8 e8.
    let u8 = after u7 t8 in
    step optional_string_field (λ v9. optional_string_at v9.1 >>= λ v10. Ok (made p0 p1 p2 p3 p4 p5 p6 p7 p8 v9.0 v10.0, v10.1)) r8 x t8.rest_fits e8 (Takes bytes (change_fields x.0) x.1 × AreTouched x.0) (λ p9 r9 t9 f9 e9.
    let u9 = after u8 t9 in
    step optional_string_field (λ v10. Ok (made p0 p1 p2 p3 p4 p5 p6 p7 p8 p9 v10.0, v10.1)) r9 x t9.rest_fits e9 (Takes bytes (change_fields x.0) x.1 × AreTouched x.0) (λ p10 r10 t10 f10 e10.
    let u10 = after u9 t10 in
    let read : PlainChange × List ℕ = (made p0 p1 p2 p3 p4 p5 p6 p7 p8 p9 p10, r10) in
    subst (λ (y : PlainChange × List ℕ). Takes bytes (change_fields y.0) y.1 × AreTouched y.0) (ok_is read x e10)
    (u10, record { kind = f0; device = f1; qid = f2; mode = f3; accessed = f4; modified = f5; long = f6; name = f7; owner = f8; group = f9; modifier = f10 }))))))))))))

-- eleven texts in a row
pub right : (a b c d e f g h i j k rest : List ℕ) → (a ++ b ++ c ++ d ++ e ++ f ++ g ++ h ++ i ++ j ++ k) ++ rest ≡ a ++ (b ++ (c ++ (d ++ (e ++ (f ++ (g ++ (h ++ (i ++ (j ++ (k ++ rest))))))))))
right a b c d e f g h i j k rest = simp append_assoc

pub change_again : (c : PlainChange) (rest : List ℕ) → AreTouched c → change_at (change_fields c ++ rest) ≡ Ok (c, rest)
unfolding change_at
change_again c rest fits =
    let regrouped = right (optional_number 2 c.kind) (optional_number 4 c.device) (optional_qid c.qid) (optional_number 4 c.mode)
    (optional_number 4 c.accessed) (optional_number 4 c.modified) (optional_number 8 c.length) (optional_string c.name) (optional_string c.owner)
    (optional_string c.group) (optional_string c.modifier) rest in
    let e0 = (optional_number_field 2).again c.kind (optional_number 4 c.device ++ (optional_qid c.qid ++ (optional_number 4 c.mode ++ (optional_number 4 c.accessed ++ (optional_number 4 c.modified ++ (optional_number 8 c.length ++ (optional_string c.name ++ (optional_string c.owner ++ (optional_string c.group ++ (optional_string c.modifier ++ (rest))))))))))) fits.kind in
    let e1 = (optional_number_field 4).again c.device (optional_qid c.qid ++ (optional_number 4 c.mode ++ (optional_number 4 c.accessed ++ (optional_number 4 c.modified ++ (optional_number 8 c.length ++ (optional_string c.name ++ (optional_string c.owner ++ (optional_string c.group ++ (optional_string c.modifier ++ (rest)))))))))) fits.device in
    let e2 = optional_qid_field.again c.qid (optional_number 4 c.mode ++ (optional_number 4 c.accessed ++ (optional_number 4 c.modified ++ (optional_number 8 c.length ++ (optional_string c.name ++ (optional_string c.owner ++ (optional_string c.group ++ (optional_string c.modifier ++ (rest))))))))) fits.qid in
    let e3 = (optional_number_field 4).again c.mode (optional_number 4 c.accessed ++ (optional_number 4 c.modified ++ (optional_number 8 c.length ++ (optional_string c.name ++ (optional_string c.owner ++ (optional_string c.group ++ (optional_string c.modifier ++ (rest)))))))) fits.mode in
    let e4 = (optional_number_field 4).again c.accessed (optional_number 4 c.modified ++ (optional_number 8 c.length ++ (optional_string c.name ++ (optional_string c.owner ++ (optional_string c.group ++ (optional_string c.modifier ++ (rest))))))) fits.accessed in
    let e5 = (optional_number_field 4).again c.modified (optional_number 8 c.length ++ (optional_string c.name ++ (optional_string c.owner ++ (optional_string c.group ++ (optional_string c.modifier ++ (rest)))))) fits.modified in
    let e6 = (optional_number_field 8).again c.length (optional_string c.name ++ (optional_string c.owner ++ (optional_string c.group ++ (optional_string c.modifier ++ (rest))))) fits.long in
    let e7 = optional_string_field.again c.name (optional_string c.owner ++ (optional_string c.group ++ (optional_string c.modifier ++ (rest)))) fits.name in
    let e8 = optional_string_field.again c.owner (optional_string c.group ++ (optional_string c.modifier ++ (rest))) fits.owner in
    let e9 = optional_string_field.again c.group (optional_string c.modifier ++ (rest)) fits.group in
    let e10 = optional_string_field.again c.modifier (rest) fits.modifier in
    ap change_at regrouped ∙ rw (e0, e1, e2, e3, e4, e5, e6, e7, e8, e9, e10) refl

-- ---- the stat itself

-- if no bytes were left
pub ended_ok : {A : Type 0} (x : A × List ℕ) (y : A) → ended x ≡ Ok y → (x.1 ≡ []) × (x.0 ≡ y)
ended_ok x y e =
    let g = passed_ok (eqb (length x.1) 0) Long x.0 y e in
    (nil_from_length x.1 (eqb-true _ _ g.0), g.1)

-- a stat of these parts is a change's spelling
whole_stat : (bytes inner fields left after : List ℕ) (size : ℕ) (c : PlainChange) → bytes ≡ number 2 size ++ inner → inner ≡ fields ++ after → length fields ≡ size → fields ≡ change_fields c ++ left
    → left ≡ [] → after ≡ [] → bytes ≡ change_stat c
whole_stat bytes inner fields left after size c e0 e1 len e2 e3 e4 =
    let is : fields ≡ change_fields c = e2 ∙ ap (λ (w : List ℕ). change_fields c ++ w) e3 ∙ append-nil (change_fields c) in
    let rest : inner ≡ fields = e1 ∙ ap (λ (w : List ℕ). fields ++ w) e4 ∙ append-nil fields in
    let whole : bytes ≡ number 2 (length fields) ++ fields = e0 ∙ ap (λ (w : List ℕ). number 2 size ++ w) rest ∙ ap (λ (k : ℕ). number 2 k ++ fields) (sym len) in
    whole ∙ ap (λ (w : List ℕ). number 2 (length w) ++ w) is

stat_in_takes : (bytes : List ℕ) (c : PlainChange) → IsBytes bytes → stat_in bytes ≡ Ok c → (bytes ≡ change_stat c) × AreTouched c
unfolding stat_in
stat_in_takes bytes c fits e =
    step (number_field 2)
    (λ size. bytes_at size.0 size.1 >>= λ fields. change_at fields.0 >>= λ change. ended change >>= λ whole. ended (whole, fields.1))
    bytes c fits e ((bytes ≡ change_stat c) × AreTouched c) (λ size inner t0 f0 e0.
    step (bytes_field size)
    (λ fields. change_at fields.0 >>= λ change. ended change >>= λ whole. ended (whole, fields.1))
    inner c t0.rest_fits e0 ((bytes ≡ change_stat c) × AreTouched c) (λ fields after t1 f1 e1.
    let a = bind_ok (change_at fields) (λ change. ended change >>= λ whole. ended (whole, after)) c e1 in
    let b = bind_ok (ended a.0) (λ whole. ended (whole, after)) c a.2 in
    let left = ended_ok a.0 b.0 b.1 in
    let over = ended_ok (b.0, after) c b.2 in
    let taken = change_takes fields a.0 (IsBytes-front inner fields after t0.rest_fits t1.parts) a.1 in
    let is : a.0.0 ≡ c = left.1 ∙ over.1 in
    let found = whole_stat bytes inner fields a.0.1 after size a.0.0 t0.parts t1.parts f1 taken.0.parts left.0 over.0 in
    subst (λ (y : PlainChange). (bytes ≡ change_stat y) × AreTouched y) is (found, taken.1)))

pub length_two : (n : ℕ) (text : List ℕ) → length (number 2 n ++ text) ≡ 2 + length text
length_two n text = omega arith

stat_in_again : (c : PlainChange) → AreTouched c → length (change_stat c) < 2 ^ 16 → stat_in (change_stat c) ≡ Ok c
unfolding stat_in
stat_in_again c fits size =
    let len : length (change_stat c) ≡ 2 + length (change_fields c) = length_two (length (change_fields c)) (change_fields c) in
    let small : length (change_fields c) < 256 ^ 2 = omega (arith, len, size) in
    let all : bytes_at (length (change_fields c)) (change_fields c) ≡ Ok (change_fields c, []) = ap (bytes_at (length (change_fields c)))
    (sym (append-nil (change_fields c))) ∙ (bytes_field (length (change_fields c))).again (change_fields c) [] refl in
    let read : change_at (change_fields c) ≡ Ok (c, []) = ap change_at (sym (append-nil (change_fields c))) ∙ change_again c [] fits in
    rw ((number_field 2).again (length (change_fields c)) (change_fields c) small, all, read) refl

-- a stat after the number of its bytes
abbrev pub sized_stat : PlainChange → List ℕ
sized_stat c = number 2 (length (change_stat c)) ++ change_stat c

pub stat_field : IsField PlainChange stat_at sized_stat IsChange
unfolding stat_at
stat_field = record {
  takes = λ bytes x fits e.
      let a = bind_ok (number_at 2 bytes) (λ n. bytes_at n.0 n.1 >>= λ inner. stat_in inner.0 >>= λ change. Ok (change, inner.1)) x e in
      let b = bind_ok (bytes_at a.0.0 a.0.1) (λ inner. stat_in inner.0 >>= λ change. Ok (change, inner.1)) x a.2 in
      let d = bind_ok (stat_in b.0.0) (λ change. Ok (change, b.0.1)) x b.2 in
      let t0 = (number_field 2).takes bytes a.0 fits a.1 in
      let t1 = (bytes_field a.0.0).takes a.0.1 b.0 t0.0.rest_fits b.1 in
      let front = IsBytes-front a.0.1 b.0.0 b.0.1 t0.0.rest_fits t1.0.parts in
      let t2 = stat_in_takes b.0.0 d.0 front d.1 in
      let both = Takes-then bytes (number 2 a.0.0) a.0.1 b.0.0 b.0.1 t0.0 t1.0 in
      let sized : Takes bytes (number 2 (length b.0.0) ++ b.0.0) b.0.1 = subst (λ (k : ℕ). Takes bytes (number 2 k ++ b.0.0) b.0.1) (sym t1.1) both in
      let whole : Takes bytes (sized_stat d.0) b.0.1 = subst (λ (w : List ℕ). Takes bytes (number 2 (length w) ++ w) b.0.1) t2.0 sized in
      let small : length b.0.0 < 2 ^ 16 = omega (arith, t1.1, t0.1) in
      let size : length (change_stat d.0) < 2 ^ 16 = subst (λ (w : List ℕ). length w < 2 ^ 16) t2.0 small in
      let f = t2.1 in
      let made : PlainChange × List ℕ = (d.0, b.0.1) in
      subst (λ (y : PlainChange × List ℕ). Takes bytes (sized_stat y.0) y.1 × IsChange y.0) (ok_is made x d.2) (
        whole,
        record {
          kind = f.kind;
          device = f.device;
          qid = f.qid;
          mode = f.mode;
          accessed = f.accessed;
          modified = f.modified;
          long = f.long;
          name = f.name;
          owner = f.owner;
          group = f.group;
          modifier = f.modifier;
          size = size;
        },
      );
  again = λ c rest f.
      let fits : AreTouched c = record {
        kind = f.kind;
        device = f.device;
        qid = f.qid;
        mode = f.mode;
        accessed = f.accessed;
        modified = f.modified;
        long = f.long;
        name = f.name;
        owner = f.owner;
        group = f.group;
        modifier = f.modifier;
      } in
      let small : length (change_stat c) < 256 ^ 2 = omega (arith, f.size) in
      ap stat_at (append_assoc (number 2 (length (change_stat c))) (change_stat c) rest) ∙ rw (
        (number_field 2).again (length (change_stat c))
            (change_stat c ++ rest) small,
        (bytes_field (length (change_stat c))).again (change_stat c) rest refl,
        stat_in_again c fits f.size,
      ) refl;
}
