-- One write after another, and a write before what was written.
use Rattle.std.proofs.Common.{◌≡◌, ℕ, ◌+◌, ◌<◌, ◌≤◌, List, [], ◌∷◌, ◌++◌, length, get_or, take, drop, sym, ap, subst, ◌∙◌, append_assoc, arith}
use Rattle.std.specs.List.{flat_map, AllByRecursion}
use Rattle.std.proofs.lemmas.List.{take_at, take-append-drop, length-append, length-take, length-drop, drop-drop, append-nil, take_more}
use Rattle.std.proofs.lemmas.List.Concat.{flat_map-cons, flat_map-append}
use Rattle.std.proofs.lemmas.Slice.{drop-append-drop}
use Rattle.tree_model.specs.declared.stat.Qid.{Qid}
use Rattle.tree_model.specs.Wire.{qid, IsQid}
use Rattle.ninep_wire.specs.Writing.{Wrote}

-- where a text ends
front_len : (old text : List ℕ) (from to : ℕ) → to ≡ from + length text → to ≤ length old → length (take from old ++ text) ≡ to
front_len old text from to e h = omega (arith, length-append (take from old) text, length-take from old)

-- a write keeps the length, and the bytes after it
same_length : {a b : List ℕ} {i j : ℕ} {s : List ℕ} → Wrote a b i j s → length b ≡ length a
same_length {a} {b} {i} {j} {s} p =
    let len = front_len a s i j p.end p.fits in
    ap (λ (w : List ℕ). length w) p.is ∙ omega (arith, length-append (take i a ++ s) (drop j a), length-drop j a, len, p.fits)

same_after : {a b : List ℕ} {i j : ℕ} {s : List ℕ} → Wrote a b i j s → (k : ℕ) → j ≤ k → drop k b ≡ drop k a
same_after {a} {b} {i} {j} {s} p k le = ap (drop k) p.is ∙ drop-append-drop j a (take i a ++ s) k le (front_len a s i j p.end p.fits)

pub Wrote-then : {a b c : List ℕ} {i j k : ℕ} {s t : List ℕ} → Wrote a b i j s → Wrote b c j k t → Wrote a c i k (s ++ t)
Wrote-then {a} {b} {c} {i} {j} {k} {s} {t} p q =
    let len = front_len a s i j p.end p.fits in
    let same = same_length p in
    let front : take j b ≡ take i a ++ s = ap (take j) p.is ∙ take_at (take i a ++ s) (drop j a) j len in
    let back : drop k b ≡ drop k a = same_after p k (omega (arith, q.end)) in
    record {
      end = omega (arith, p.end, q.end, length-append s t);
      fits = omega (arith, q.fits, same);
      is = q.is ∙ ap (λ (w : List ℕ). (w ++ t) ++ drop k b) front ∙ ap (λ (w : List ℕ). ((take i a ++ s) ++ t) ++ w) back ∙ ap (λ (w : List ℕ). w ++ drop k a) (append_assoc (take i a) s t);
    }

-- bytes that stay
pub Wrote-stays : (a : List ℕ) (i j n : ℕ) → j ≡ i + n → j ≤ length a → Wrote a a i j (take n (drop i a))
Wrote-stays a i j n e h =
    let len : length (take n (drop i a)) ≡ n = omega (arith, length-take n (drop i a), length-drop i a) in
    let back : drop j a ≡ drop n (drop i a) = ap (λ (k : ℕ). drop k a) e ∙ sym (drop-drop n i a) in
    record {
      end = omega (arith, len);
      fits = h;
      is = sym (append_assoc (take i a) (take n (drop i a)) (drop j a) ∙ ap (λ (w : List ℕ). take i a ++ (take n (drop i a) ++ w)) back ∙
          ap (λ (w : List ℕ). take i a ++ w) (take-append-drop n (drop i a)) ∙ take-append-drop i a);
    }

-- bytes that stay after what was written
pub Wrote-and_stays : {a b : List ℕ} {i j : ℕ} {s : List ℕ} → Wrote a b i j s → (k m n : ℕ) → m ≡ j → k ≡ j + n → k ≤ length a → Wrote a b i k (s ++ take n (drop m a))
Wrote-and_stays {a} {b} {i} {j} {s} p k m n e f h =
    let stays : Wrote b b j k (take n (drop j b)) = Wrote-stays b j k n f (omega (arith, h, same_length p)) in
    let after : drop j b ≡ drop m a = same_after p j (omega arith) ∙ ap (λ (x : ℕ). drop x a) (sym e) in
    subst (λ (w : List ℕ). Wrote a b i k (s ++ take n w)) after (Wrote-then p stays)

-- one more qid
pub Wrote-more : {a b c : List ℕ} {i j k : ℕ} (qids : List Qid) (n : ℕ) (d : Qid) → n < length qids → Wrote a b i j (flat_map qid (take n qids)) → Wrote b c j k (qid (get_or qids n d))
    → Wrote a c i k (flat_map qid (take (n + 1) qids))
Wrote-more {a} {b} {c} {i} {j} {k} qids n d lt p q =
    let one : flat_map qid (get_or qids n d ∷ []) ≡ qid (get_or qids n d) = flat_map-cons qid (get_or qids n d) [] ∙ append-nil (qid (get_or qids n d)) in
    let more : flat_map qid (take (n + 1) qids) ≡ flat_map qid (take n qids) ++ qid (get_or qids n d) = ap (flat_map qid) (take_more qids n d lt) ∙
    flat_map-append qid (take n qids) (get_or qids n d ∷ []) ∙ ap (λ (w : List ℕ). flat_map qid (take n qids) ++ w) one in
    subst (λ (w : List ℕ). Wrote a c i k w) (sym more) (Wrote-then p q)

all_snoc : (qids : List Qid) (q : Qid) → AllByRecursion IsQid qids → IsQid q → AllByRecursion IsQid (qids ++ q ∷ [])
all_snoc [] q all is = (is, tt)
all_snoc (p ∷ qids) q all is = (all.0, all_snoc qids q all.1 is)

pub all_more : (qids : List Qid) (n : ℕ) (d : Qid) → n < length qids → AllByRecursion IsQid (take n qids) → IsQid (get_or qids n d) → AllByRecursion IsQid (take (n + 1) qids)
all_more qids n d lt all is = subst (AllByRecursion IsQid) (sym (take_more qids n d lt)) (all_snoc (take n qids) (get_or qids n d) all is)
