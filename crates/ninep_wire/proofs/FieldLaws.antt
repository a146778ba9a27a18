-- A field that is read is the field that was written, and what was written is read again.
use Rattle.std.proofs.Common.{◌≡◌, ℕ, zero, suc, ◌+◌, ◌*◌, ◌/◌, ◌%◌, ◌^◌, ◌<◌, ◌≤◌, Bool, true, false, cond, ltb, List, [], ◌∷◌, ◌++◌, length, get_or, take, drop, Result, Ok, Err, refl, sym, ap, subst, ◌∙◌, append_assoc, arith, inl, inr}
use Rattle.std.specs.Int.{byte_at, bytes_low_first}
use Rattle.std.specs.Str.{is_utf8}
use Rattle.std.specs.List.{flat_map, AllByRecursion}
use Rattle.std.proofs.Math.Nat.{div-div-eq-div-mul, pow-suc, mul_comm}
use Rattle.std.proofs.lemmas.Bool.{cases_lt, ltb-false, le-ltb}
use Rattle.std.proofs.lemmas.List.{take_at, drop_at, take-append-drop, length-append, length-take, get_or-drop, get_or-take, get_or_past, append-nil}
use Rattle.std.proofs.lemmas.List.Concat.{flat_map-cons}
use Rattle.std.proofs.lemmas.Str.{IsUtf8-from_is_utf8, is_utf8-from_IsUtf8}
use Rattle.byteorder.specs.Endian.{little_from, little_number}
use Rattle.byteorder.specs.Numbers.{little_from-cons, length-bytes_low_first, little_number-reads_back, little_from-lt}
use Rattle.tree_model.specs.declared.stat.Qid.{Qid}
use Rattle.ninep_wire.specs.declared.fault.WireErr.{WireErr}
use Rattle.ninep_wire.specs.declared.fault.WireErr.TheVariants.{Short, Text, Names}
use Rattle.tree_model.specs.Wire.{number, string, IsString, qid, IsQid}
use Rattle.ninep_wire.specs.Reading.{◌>>=◌, bytes_at, number_at, string_at, data_at, qid_at, strings_at, names_at}

abbrev pub IsBytes : List ℕ → Type 0
IsBytes bytes = (i : ℕ) → get_or bytes i 0 < 256

pub IsBytes-drop : (n : ℕ) (bytes : List ℕ) → IsBytes bytes → IsBytes (drop n bytes)
IsBytes-drop n bytes h i = rw get_or-drop (h (n + i))

pub IsBytes-take : (n : ℕ) (bytes : List ℕ) → IsBytes bytes → IsBytes (take n bytes)
IsBytes-take n bytes h i =
    elim (cases_lt i n) [
      | inl lt ↦ rw (get_or-take n bytes i 0 lt) (h i)
      | inr le ↦ rw (get_or_past (take n bytes) i 0 (omega (arith, length-take n bytes))) (omega arith)
    ]

IsBytes-rest : (b : ℕ) (bytes : List ℕ) → IsBytes (b ∷ bytes) → IsBytes bytes
IsBytes-rest b bytes h i = h (suc i)

-- the value of a step that did not fail
pub bind_ok : {A B : Type 0} (r : Result A WireErr) (f : A → Result B WireErr) (y : B) → (r >>= f) ≡ Ok y → (x : A) × (r ≡ Ok x) × (f x ≡ Ok y)
bind_ok (Ok x) f y e = (x, refl, e)
bind_ok (Err d) f y e = absurd cc

-- a test that did not fail
pub guard_ok : {A : Type 0} (b : Bool) (d : WireErr) (x y : A) → cond b (Err d) (Ok x) ≡ Ok y → (b ≡ false) × (x ≡ y)
guard_ok true d x y e = absurd cc
guard_ok false d x y e = (refl, cc)

pub passed_ok : {A : Type 0} (b : Bool) (d : WireErr) (x y : A) → cond b (Ok x) (Err d) ≡ Ok y → (b ≡ true) × (x ≡ y)
passed_ok true d x y e = (refl, cc)
passed_ok false d x y e = absurd cc

abbrev done : {A : Type 0} → A → Result A WireErr
done x = Ok x

pub ok_is : {A : Type 0} (x y : A) → done x ≡ done y → x ≡ y
ok_is x y e = cc

-- what a reader took from the front
pub record Takes (bytes text rest : List ℕ) : Type 0 where
  pub parts : bytes ≡ text ++ rest
  pub rest_fits : IsBytes rest

pub Takes-then : (a x b y c : List ℕ) → Takes a x b → Takes b y c → Takes a (x ++ y) c
Takes-then a x b y c p q = record { parts = p.parts ∙ ap (λ (t : List ℕ). x ++ t) q.parts ∙ sym (append_assoc x y c); rest_fits = q.rest_fits }

-- a reader of values that are spelled so
pub record IsField (A : Type 0) (at : List ℕ → Result (A × List ℕ) WireErr) (spell : A → List ℕ) (Fits : A → Type 0) : Type 0 where
  pub takes : (bytes : List ℕ) (x : A × List ℕ) → IsBytes bytes → at bytes ≡ Ok x → Takes bytes (spell x.0) x.1 × Fits x.0
  pub again : (a : A) (rest : List ℕ) → Fits a → at (spell a ++ rest) ≡ Ok (a, rest)

-- ---- bytes

pub bytes_field : (n : ℕ) → IsField (List ℕ) (bytes_at n) (λ text. text) (λ text. length text ≡ n)
unfolding bytes_at
bytes_field n = record {
  takes = λ bytes x fits e.
      let g = guard_ok (ltb (length bytes) n) Short (take n bytes, drop n bytes) x e in
      let long : n ≤ length bytes = ltb-false _ _ g.0 in
      subst (λ (y : List ℕ × List ℕ). Takes bytes y.0 y.1 × (length y.0 ≡ n)) g.1 (
        record {
          parts = sym (take-append-drop n bytes);
          rest_fits = IsBytes-drop n bytes fits;
        },
        omega (arith, length-take n bytes),
      );
  again = λ text rest len.
      let long : ltb (length (text ++ rest)) n ≡ false = le-ltb _ _ (omega (arith, length-append text rest)) in
      rw (long, take_at text rest n len, drop_at text rest n len) refl;
}

-- the bytes of a front of bytes are bytes
pub IsBytes-front : (bytes text rest : List ℕ) → IsBytes bytes → bytes ≡ text ++ rest → IsBytes text
IsBytes-front bytes text rest fits e =
    let front : take (length text) bytes ≡ text = rw (e, take_at text rest (length text) refl) refl in
    subst IsBytes front (IsBytes-take (length text) bytes fits)

-- ---- numbers

byte_at-shift : (i b r : ℕ) → b < 256 → byte_at (suc i) (b + 256 * r) ≡ byte_at i r
byte_at-shift zero b r lt = omega arith
byte_at-shift (suc i) b r lt =
    let low : (b + 256 * r) / 256 ≡ r = omega arith in
    let split : (b + 256 * r) / 256 ^ suc (suc i) ≡ (b + 256 * r) / 256 / 256 ^ suc i =
    ap (λ (p : ℕ). (b + 256 * r) / p) (pow-suc 256 (suc i) ∙ mul_comm (256 ^ suc i) 256) ∙ sym (div-div-eq-div-mul (b + 256 * r) 256 (256 ^ suc i)) in
    ap (λ (y : ℕ). y % 256) (split ∙ ap (λ (y : ℕ). y / 256 ^ suc i) low)

bytes_low_first-shift : (i n b r : ℕ) → b < 256 → bytes_low_first (suc i) n (b + 256 * r) ≡ bytes_low_first i n r
bytes_low_first-shift i zero b r lt = refl
bytes_low_first-shift i (suc n) b r lt = rw (byte_at-shift i b r lt, bytes_low_first-shift (suc i) n b r lt) refl

-- the bytes of the number in bytes are these bytes
pub number-little_number : (n : ℕ) (bytes : List ℕ) → length bytes ≡ n → IsBytes bytes → number n (little_number n bytes) ≡ bytes
number-little_number zero [] len fits = refl
number-little_number zero (b ∷ bytes) len fits = absurd (omega arith)
number-little_number (suc n) [] len fits = absurd (omega arith)
number-little_number (suc n) (b ∷ bytes) len fits =
    let low : b < 256 = fits 0 in
    let rest = number-little_number n bytes (omega arith) (IsBytes-rest b bytes fits) in
    let first : (b + 256 * little_from 0 n bytes) % 256 ≡ b = omega arith in
    rw (little_from-cons 0 n b bytes, first, bytes_low_first-shift 0 n b (little_from 0 n bytes) low, rest) refl

pub number_field : (n : ℕ) → IsField ℕ (number_at n) (number n) (λ x. x < 256 ^ n)
unfolding number_at
number_field n = record {
  takes = λ bytes x fits e.
      let b = bind_ok (bytes_at n bytes) (λ field. Ok (little_number n field.0, field.1)) x e in
      let t = (bytes_field n).takes bytes b.0 fits b.1 in
      let front = IsBytes-front bytes b.0.0 b.0.1 fits t.0.parts in
      let made : ℕ × List ℕ = (little_number n b.0.0, b.0.1) in
      subst (λ (y : ℕ × List ℕ). Takes bytes (number n y.0) y.1 × (y.0 < 256 ^ n)) (ok_is made x b.2) (rw (number-little_number n b.0.0 t.1 front) (t.0), little_from-lt 0 n b.0.0 front);
  again = λ x rest lt.
      let back : little_number n (number n x) ≡ x = ap (little_number n) (sym (append-nil (number n x))) ∙ little_number-reads_back n x [] lt in
      rw ((bytes_field n).again (number n x) rest (length-bytes_low_first 0 n x), back) refl;
}

-- ---- strings

pub string_field : IsField (List ℕ) string_at string IsString
unfolding string_at
string_field = record {
  takes = λ bytes x fits e.
      let a = bind_ok (number_at 2 bytes) (λ n. bytes_at n.0 n.1 >>= λ text. cond (is_utf8 text.0) (Ok text) (Err Text)) x e in
      let b = bind_ok (bytes_at a.0.0 a.0.1) (λ text. cond (is_utf8 text.0) (Ok text) (Err Text)) x a.2 in
      let g = passed_ok (is_utf8 b.0.0) Text b.0 x b.2 in
      let t0 = (number_field 2).takes bytes a.0 fits a.1 in
      let t1 = (bytes_field a.0.0).takes a.0.1 b.0 t0.0.rest_fits b.1 in
      let both = Takes-then bytes (number 2 a.0.0) a.0.1 b.0.0 b.0.1 t0.0 t1.0 in
      let whole : Takes bytes (string b.0.0) b.0.1 = subst (λ (k : ℕ). Takes bytes (number 2 k ++ b.0.0) b.0.1) (sym t1.1) both in
      subst (λ (y : List ℕ × List ℕ). Takes bytes (string y.0) y.1 × IsString y.0) g.1 (whole, record { fits = omega (arith, t0.1, t1.1); utf8 = IsUtf8-from_is_utf8 b.0.0 g.0 });
  again = λ text rest fits.
      let utf8 = is_utf8-from_IsUtf8 text fits.utf8 in
      let size : length text < 256 ^ 2 = omega (arith, fits.fits) in
      ap string_at (append_assoc (number 2 (length text)) text rest) ∙ rw ((number_field 2).again (length text) (text ++ rest) size, (bytes_field (length text)).again text rest refl, utf8) refl;
}

-- a count of bytes, and the bytes
abbrev pub counted : List ℕ → List ℕ
counted bytes = number 4 (length bytes) ++ bytes

pub data_field : IsField (List ℕ) data_at counted (λ bytes. length bytes < 2 ^ 32)
unfolding data_at
data_field = record {
  takes = λ bytes x fits e.
      let a = bind_ok (number_at 4 bytes) (λ n. bytes_at n.0 n.1) x e in
      let t0 = (number_field 4).takes bytes a.0 fits a.1 in
      let t1 = (bytes_field a.0.0).takes a.0.1 x t0.0.rest_fits a.2 in
      let both = Takes-then bytes (number 4 a.0.0) a.0.1 x.0 x.1 t0.0 t1.0 in
      (subst (λ (k : ℕ). Takes bytes (number 4 k ++ x.0) x.1) (sym t1.1) both, omega (arith, t0.1, t1.1));
  again = λ text rest lt.
      let size : length text < 256 ^ 4 = omega (arith, lt) in
      ap data_at (append_assoc (number 4 (length text)) text rest) ∙ rw ((number_field 4).again (length text) (text ++ rest) size, (bytes_field (length text)).again text rest refl) refl;
}

-- ---- several fields in a row

-- one step of a reader, and what follows it
pub step : {A D : Type 0} {a : List ℕ → Result (A × List ℕ) WireErr} {sa : A → List ℕ} {FA : A → Type 0} → IsField A a sa FA
    → (k : A × List ℕ → Result D WireErr) (bytes : List ℕ) (y : D) → IsBytes bytes → (a bytes >>= k) ≡ Ok y
    → (P : Type 0) → ((p : A) (rest : List ℕ) → Takes bytes (sa p) rest → FA p → k (p, rest) ≡ Ok y → P) → P
step {a = a} fa k bytes y fits e P h =
    let b = bind_ok (a bytes) k y e in
    let t = fa.takes bytes b.0 fits b.1 in
    h b.0.0 b.0.1 t.0 t.1 b.2

pub takes1 : {A D : Type 0} {a : List ℕ → Result (A × List ℕ) WireErr} {sa : A → List ℕ} {FA : A → Type 0} → IsField A a sa FA
    → (make : A → D) (bytes : List ℕ) (y : D × List ℕ) → IsBytes bytes → (a bytes >>= λ x. Ok (make x.0, x.1)) ≡ Ok y
    → (P : D × List ℕ → Type 0) → ((p : A) (rest : List ℕ) → Takes bytes (sa p) rest → FA p → P (make p, rest)) → P y
takes1 {D = D} {a = a} fa make bytes y fits e P h =
    let b = bind_ok (a bytes) (λ x. Ok (make x.0, x.1)) y e in
    let t = fa.takes bytes b.0 fits b.1 in
    let made : D × List ℕ = (make b.0.0, b.0.1) in
    subst P (ok_is made y b.2) (h b.0.0 b.0.1 t.0 t.1)

pub takes2 : {A B D : Type 0} {a : List ℕ → Result (A × List ℕ) WireErr} {sa : A → List ℕ} {FA : A → Type 0} {b : List ℕ → Result (B × List ℕ) WireErr} {sb : B → List ℕ} {FB : B → Type 0} → IsField A a sa FA → IsField B b sb FB
    → (make : A → B → D) (bytes : List ℕ) (y : D × List ℕ) → IsBytes bytes → (a bytes >>= λ x. b x.1 >>= λ z. Ok (make x.0 z.0, z.1)) ≡ Ok y
    → (P : D × List ℕ → Type 0) → ((p : A) (q : B) (rest : List ℕ) → Takes bytes (sa p ++ sb q) rest → FA p → FB q → P (make p q, rest)) → P y
takes2 {a = a} {sa = sa} {b = b} {sb = sb} fa fb make bytes y fits e P h =
    let s = bind_ok (a bytes) (λ x. b x.1 >>= λ z. Ok (make x.0 z.0, z.1)) y e in
    let t = fa.takes bytes s.0 fits s.1 in
    takes1 fb (make s.0.0) s.0.1 y t.0.rest_fits s.2 P (λ q rest u g. h s.0.0 q rest (Takes-then bytes (sa s.0.0) s.0.1 (sb q) rest t.0 u) t.1 g)

-- what comes before is grouped to the left
regroup : (x y z : List ℕ) (bytes rest : List ℕ) → Takes bytes (x ++ (y ++ z)) rest → Takes bytes ((x ++ y) ++ z) rest
regroup x y z bytes rest t = subst (λ (w : List ℕ). Takes bytes w rest) (sym (append_assoc x y z)) t

pub takes3 : {A B C D : Type 0} {a : List ℕ → Result (A × List ℕ) WireErr} {sa : A → List ℕ} {FA : A → Type 0} {b : List ℕ → Result (B × List ℕ) WireErr} {sb : B → List ℕ} {FB : B → Type 0}
    {c : List ℕ → Result (C × List ℕ) WireErr} {sc : C → List ℕ} {FC : C → Type 0} → IsField A a sa FA → IsField B b sb FB → IsField C c sc FC
    → (make : A → B → C → D) (bytes : List ℕ) (y : D × List ℕ) → IsBytes bytes
    → (a bytes >>= λ x. b x.1 >>= λ z. c z.1 >>= λ w. Ok (make x.0 z.0 w.0, w.1)) ≡ Ok y
    → (P : D × List ℕ → Type 0) → ((p : A) (q : B) (r : C) (rest : List ℕ) → Takes bytes ((sa p ++ sb q) ++ sc r) rest → FA p → FB q → FC r → P (make p q r, rest)) → P y
takes3 {a = a} {sa = sa} {b = b} {sb = sb} {c = c} {sc = sc} fa fb fc make bytes y fits e P h =
    let s = bind_ok (a bytes) (λ x. b x.1 >>= λ z. c z.1 >>= λ w. Ok (make x.0 z.0 w.0, w.1)) y e in
    let t = fa.takes bytes s.0 fits s.1 in
    takes2 fb fc (make s.0.0) s.0.1 y t.0.rest_fits s.2 P
    (λ q r rest u g k. h s.0.0 q r rest (regroup (sa s.0.0) (sb q) (sc r) bytes rest (Takes-then bytes (sa s.0.0) s.0.1 (sb q ++ sc r) rest t.0 u)) t.1 g k)

pub takes4 : {A B C D E : Type 0} {a : List ℕ → Result (A × List ℕ) WireErr} {sa : A → List ℕ} {FA : A → Type 0} {b : List ℕ → Result (B × List ℕ) WireErr} {sb : B → List ℕ} {FB : B → Type 0}
    {c : List ℕ → Result (C × List ℕ) WireErr} {sc : C → List ℕ} {FC : C → Type 0} {d : List ℕ → Result (D × List ℕ) WireErr} {sd : D → List ℕ} {FD : D → Type 0} → IsField A a sa FA → IsField B b sb FB → IsField C c sc FC → IsField D d sd FD
    → (make : A → B → C → D → E) (bytes : List ℕ) (y : E × List ℕ) → IsBytes bytes
    → (a bytes >>= λ x. b x.1 >>= λ z. c z.1 >>= λ w. d w.1 >>= λ v. Ok (make x.0 z.0 w.0 v.0, v.1)) ≡ Ok y
    → (P : E × List ℕ → Type 0)
    → ((p : A) (q : B) (r : C) (s : D) (rest : List ℕ) → Takes bytes (((sa p ++ sb q) ++ sc r) ++ sd s) rest → FA p → FB q → FC r → FD s → P (make p q r s, rest)) → P y
takes4 {a = a} {sa = sa} {b = b} {sb = sb} {c = c} {sc = sc} {d = d} {sd = sd} fa fb fc fd make bytes y fits e P h =
    let s = bind_ok (a bytes) (λ x. b x.1 >>= λ z. c z.1 >>= λ w. d w.1 >>= λ v. Ok (make x.0 z.0 w.0 v.0, v.1)) y e in
    let t = fa.takes bytes s.0 fits s.1 in
    takes3 fb fc fd (make s.0.0) s.0.1 y t.0.rest_fits s.2 P
    (λ q r o rest u g k l.
    let whole = Takes-then bytes (sa s.0.0) s.0.1 ((sb q ++ sc r) ++ sd o) rest t.0 u in
    let outer = regroup (sa s.0.0) (sb q ++ sc r) (sd o) bytes rest whole in
    h s.0.0 q r o rest (subst (λ (w : List ℕ). Takes bytes (w ++ sd o) rest) (sym (append_assoc (sa s.0.0) (sb q) (sc r))) outer) t.1 g k l)

-- ---- qids

pub qid_field : IsField Qid qid_at qid IsQid
unfolding qid_at
qid_field = record {
  takes = λ bytes x fits e.
      takes3 (number_field 1) (number_field 4) (number_field 8)
      (λ k v p. record { kind = k; version = v; path = p }) bytes x fits e (λ y. Takes bytes (qid y.0) y.1 × IsQid y.0)
      (λ k v p rest t f g h. (t, record { kind = omega (arith, f); version = omega (arith, g); path = omega (arith, h) }));
  again = λ q rest fits.
      let low : q.kind < 256 ^ 1 = omega (arith, fits.kind) in
      let mid : q.version < 256 ^ 4 = omega (arith, fits.version) in
      let high : q.path < 256 ^ 8 = omega (arith, fits.path) in
      let right : qid q ++ rest ≡ number 1 q.kind ++ (number 4 q.version ++ (number 8 q.path ++ rest)) = refl in
      ap qid_at right ∙
      rw ((number_field 1).again q.kind (number 4 q.version ++ (number 8 q.path ++ rest)) low, (number_field 4).again q.version (number 8 q.path ++ rest) mid, (number_field 8).again q.path rest high) refl;
}

-- ---- strings in a row

pub strings_take : (n : ℕ) (bytes : List ℕ) (x : List (List ℕ) × List ℕ) → IsBytes bytes → strings_at n bytes ≡ Ok x →
    Takes bytes (flat_map string x.0) x.1 × (length x.0 ≡ n) × AllByRecursion IsString x.0
unfolding strings_at
strings_take zero bytes x fits e =
    subst (λ (y : List (List ℕ) × List ℕ). Takes bytes (flat_map string y.0) y.1 × (length y.0 ≡ 0) × AllByRecursion IsString y.0)
    (ok_is ([], bytes) x e) (record { parts = refl; rest_fits = fits }, refl, tt)
strings_take (suc n) bytes x fits e =
    let a = bind_ok (string_at bytes) (λ first. strings_at n first.1 >>= λ others. Ok (first.0 ∷ others.0, others.1)) x e in
    let b = bind_ok (strings_at n a.0.1) (λ others. Ok (a.0.0 ∷ others.0, others.1)) x a.2 in
    let first = string_field.takes bytes a.0 fits a.1 in
    let second = strings_take n a.0.1 b.0 first.0.rest_fits b.1 in
    let both = Takes-then bytes (string a.0.0) a.0.1 (flat_map string b.0.0) b.0.1 first.0 second.0 in
    let made : List (List ℕ) × List ℕ = (a.0.0 ∷ b.0.0, b.0.1) in
    subst (λ (y : List (List ℕ) × List ℕ). Takes bytes (flat_map string y.0) y.1 × (length y.0 ≡ suc n) × AllByRecursion IsString y.0)
    (ok_is made x b.2) (rw flat_map-cons both, ap suc second.1, (first.1, second.2))

pub strings_again : (ns : List (List ℕ)) (rest : List ℕ) → AllByRecursion IsString ns → strings_at (length ns) (flat_map string ns ++ rest) ≡ Ok (ns, rest)
unfolding strings_at
strings_again [] rest fits = refl
strings_again (n ∷ ns) rest fits =
    let regrouped : flat_map string (n ∷ ns) ++ rest ≡ string n ++ (flat_map string ns ++ rest) = ap (λ (x : List ℕ). x ++ rest)
    (flat_map-cons string n ns) ∙ append_assoc (string n) (flat_map string ns) rest in
    ap (strings_at (suc (length ns))) regrouped ∙ rw (string_field.again n (flat_map string ns ++ rest) fits.0, strings_again ns rest fits.1) refl

abbrev pub names : List (List ℕ) → List ℕ
names ns = number 2 (length ns) ++ flat_map string ns

abbrev pub AreStrings : List (List ℕ) → Type 0
AreStrings ns = (length ns ≤ 16) × AllByRecursion IsString ns

-- a test that was not met
pub not_met : {A : Type 0} (b : Bool) (d : WireErr) (r : Result A WireErr) (y : A) → cond b (Err d) r ≡ Ok y → (b ≡ false) × (r ≡ Ok y)
not_met true d r y e = absurd cc
not_met false d r y e = (refl, e)

pub names_field : IsField (List (List ℕ)) names_at names AreStrings
unfolding names_at
names_field = record {
  takes = λ bytes x fits e.
      let a = bind_ok (number_at 2 bytes) (λ n. cond (ltb 16 n.0) (Err (Names n.0)) (strings_at n.0 n.1)) x e in
      let g = not_met (ltb 16 a.0.0) (Names a.0.0) (strings_at a.0.0 a.0.1) x a.2 in
      let few : a.0.0 ≤ 16 = ltb-false _ _ g.0 in
      let t0 = (number_field 2).takes bytes a.0 fits a.1 in
      let t1 = strings_take a.0.0 a.0.1 x t0.0.rest_fits g.1 in
      let both = Takes-then bytes (number 2 a.0.0) a.0.1 (flat_map string x.0) x.1 t0.0 t1.0 in
      (subst (λ (k : ℕ). Takes bytes (number 2 k ++ flat_map string x.0) x.1) (sym t1.1) both, (omega (arith, t1.1), t1.2));
  again = λ ns rest fits.
      let size : length ns < 256 ^ 2 = omega (arith, fits.0) in
      let few : ltb 16 (length ns) ≡ false = le-ltb _ _ (omega (arith, fits.0)) in
      ap names_at (append_assoc (number 2 (length ns)) (flat_map string ns) rest) ∙ rw ((number_field 2).again (length ns) (flat_map string ns ++ rest) size, few, strings_again ns rest fits.1) refl;
}
