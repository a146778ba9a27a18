-- What looking back finds, after one more exchange, and that it finds one thing.
use Rattle.std.proofs.Common.{◌≡◌, ℕ, List, [], ◌∷◌, ◌++◌, Option, Some, None, refl, sym, ap, subst, ◌∙◌}
use Rattle.std.specs.Option.{option_map}
use Rattle.std.proofs.lemmas.List.{append-nil, append_assoc}
use Rattle.std.proofs.lemmas.Grind.{flat_map-append}
use Rattle.tree_model.specs.declared.stat.Qid.{Qid}
use Rattle.session_core.specs.State.{Fid}
use Rattle.session_core.specs.LookBack.{Exchange, Effect, leaves, frees, puts, follows, effect, Given, given_in, reads_of, fid_put, not_open, IsLeftBy, LookedBack, FidIs, never_set, was_freed, was_put, has_followed}
use Rattle.session_core.proofs.ReadsOn.{read_by, put_read, closed_read}

abbrev pub given_of : ℕ → Exchange → List Given
given_of f e = given_in f e.given e.answer

-- ---- one more exchange

left_snoc : (f : ℕ) (exchanges : List Exchange) (e : Exchange) → IsLeftBy f exchanges → effect f e ≡ leaves → IsLeftBy f (exchanges ++ e ∷ [])
left_snoc f [] e left is = (is, tt)
left_snoc f (x ∷ exchanges) e left is = (left.0, left_snoc f exchanges e left.1 is)

abbrev back_on : (f : ℕ) (past : List Exchange) (e : Exchange) → LookedBack f past → effect f e ≡ leaves → LookedBack f (past ++ e ∷ [])
back_on f past e back is = record {
  before = back.before;
  last = back.last;
  after = back.after ++ e ∷ [];
  past_is = ap (λ (p : List Exchange). p ++ e ∷ []) back.past_is ∙ append_assoc back.before (back.last ∷ back.after) (e ∷ []);
  left = left_snoc f back.after e back.left is;
}

abbrev pub back_here : (f : ℕ) (past : List Exchange) (e : Exchange) → LookedBack f (past ++ e ∷ [])
back_here f past e = record { before = past; last = e; after = []; past_is = refl; left = tt }

reads_snoc : (f : ℕ) (exchanges : List Exchange) (e : Exchange) → reads_of f (exchanges ++ e ∷ []) ≡ reads_of f exchanges ++ given_of f e
reads_snoc f exchanges e =
    flat_map-append (given_of f) exchanges (e ∷ []) ∙ ap (λ (w : List Given). reads_of f exchanges ++ w) (append-nil (given_of f e))

pub stays : (past : List Exchange) (f : ℕ) (fid : Option Fid) (e : Exchange) → FidIs past f fid → effect f e ≡ leaves
    → FidIs (past ++ e ∷ []) f (option_map (read_by (given_of f e)) fid)
stays _ _ _ e (never_set past f left) is = never_set (past ++ e ∷ []) f (left_snoc f past e left is)
stays _ _ _ e (was_freed past f back freed) is = was_freed (past ++ e ∷ []) f (back_on f past e back is) freed
stays _ _ _ e (was_put past f back q mode put) is =
    subst (λ (fid : Fid). FidIs (past ++ e ∷ []) f (Some fid))
    (ap (fid_put q mode) (reads_snoc f back.after e) ∙ put_read q mode (reads_of f back.after) (given_of f e))
    (was_put (past ++ e ∷ []) f (back_on f past e back is) q mode put)
stays _ _ _ e (has_followed past f back g fid followed from) is =
    subst (λ (fid : Fid). FidIs (past ++ e ∷ []) f (Some fid)) (sym (closed_read (given_of f e) fid))
    (has_followed (past ++ e ∷ []) f (back_on f past e back is) g fid followed from)

-- ---- one thing alone is found

first_of_list : List Exchange → Exchange → Exchange
first_of_list [] d = d
first_of_list (x ∷ xs) d = x

rest_of : List Exchange → List Exchange
rest_of [] = []
rest_of (x ∷ xs) = xs

heads : (x y : Exchange) (xs ys : List Exchange) → x ∷ xs ≡ y ∷ ys → x ≡ y
unfolding first_of_list
heads x y xs ys e = ap (λ (l : List Exchange). first_of_list l x) e

tails : (x y : Exchange) (xs ys : List Exchange) → x ∷ xs ≡ y ∷ ys → xs ≡ ys
unfolding rest_of
tails x y xs ys e = ap rest_of e

-- an exchange in the middle is left, if all are
middle : (f : ℕ) (before after : List Exchange) (e : Exchange) → IsLeftBy f (before ++ e ∷ after) → effect f e ≡ leaves
middle f [] after e left = left.0
middle f (x ∷ before) after e left = middle f before after e left.1

record Same (f : ℕ) (past : List Exchange) (a b : LookedBack f past) : Type 0 where
  pub before : a.before ≡ b.before
  pub last : a.last ≡ b.last
  pub after : a.after ≡ b.after

parts : (f : ℕ) (xs ys : List Exchange) (x y : Exchange) (xs' ys' : List Exchange) → xs ++ x ∷ xs' ≡ ys ++ y ∷ ys' → IsLeftBy f xs' → IsLeftBy f ys'
    → (effect f x ≡ leaves → ⊥) → (effect f y ≡ leaves → ⊥) → (xs ≡ ys) × (x ≡ y) × (xs' ≡ ys')
parts f [] [] x y xs' ys' e left left' sets sets' = (refl, heads x y xs' ys' e, tails x y xs' ys' e)
parts f [] (w ∷ ys) x y xs' ys' e left left' sets sets' =
    absurd (sets' (middle f ys ys' y (subst (IsLeftBy f) (tails x w xs' (ys ++ y ∷ ys') e) left)))
parts f (v ∷ xs) [] x y xs' ys' e left left' sets sets' =
    absurd (sets (middle f xs xs' x (subst (IsLeftBy f) (sym (tails v y (xs ++ x ∷ xs') ys' e)) left')))
parts f (v ∷ xs) (w ∷ ys) x y xs' ys' e left left' sets sets' =
    let rest = parts f xs ys x y xs' ys' (tails v w (xs ++ x ∷ xs') (ys ++ y ∷ ys') e) left left' sets sets' in
    let front : v ≡ w = heads v w (xs ++ x ∷ xs') (ys ++ y ∷ ys') e in
    let fronts : ◌≡◌ {A = List Exchange} (v ∷ xs) (w ∷ ys) = (let first = rest.0 in cc) in
    (fronts, rest.1, rest.2)

-- looking back finds one place
one_back : (f : ℕ) (past : List Exchange) (a b : LookedBack f past) → (effect f a.last ≡ leaves → ⊥) → (effect f b.last ≡ leaves → ⊥) → Same f past a b
one_back f past a b sets sets' =
    let p = parts f a.before b.before a.last b.last a.after b.after (sym a.past_is ∙ b.past_is) a.left b.left sets sets' in
    record { before = p.0; last = p.1; after = p.2 }

-- what an effect at a place that was looked back to leaves
abbrev Found : (f : ℕ) (past : List Exchange) → LookedBack f past → Effect → Option Fid → Type 0
Found f past back leaves fid = ⊥
Found f past back frees fid = fid ≡ None
Found f past back (puts q mode) fid = fid ≡ Some (fid_put q mode (reads_of f back.after))
Found f past back (follows g) fid = (from : Fid) × FidIs back.before g (Some from) × (fid ≡ Some (not_open from))

freed_sets : (x : Effect) → x ≡ frees → x ≡ leaves → ⊥
freed_sets x is left = cc

put_sets : (x : Effect) (q : Qid) (mode : Option ℕ) → x ≡ puts q mode → x ≡ leaves → ⊥
put_sets x q mode is left = cc

followed_sets : (x : Effect) (g : ℕ) → x ≡ follows g → x ≡ leaves → ⊥
followed_sets x g is left = cc

found_at : (past : List Exchange) (f : ℕ) (fid : Option Fid) → FidIs past f fid → (back : LookedBack f past) → (effect f back.last ≡ leaves → ⊥)
    → Found f past back (effect f back.last) fid
found_at _ _ _ (never_set past f left) back sets =
    absurd (sets (middle f back.before back.after back.last (subst (IsLeftBy f) back.past_is left)))
found_at _ _ _ (was_freed past f b is) back sets =
    let same = one_back f past b back (freed_sets _ is) sets in
    subst (λ (e : Effect). Found f past back e None) (sym is ∙ ap (effect f) same.last) refl
found_at _ _ _ (was_put past f b q mode is) back sets =
    let same = one_back f past b back (put_sets _ q mode is) sets in
    subst (λ (e : Effect). Found f past back e (Some (fid_put q mode (reads_of f b.after)))) (sym is ∙ ap (effect f) same.last)
    (ap (λ (after : List Exchange). Some (fid_put q mode (reads_of f after))) same.after)
found_at _ _ _ (has_followed past f b g fid is from) back sets =
    let same = one_back f past b back (followed_sets _ g is) sets in
    subst (λ (e : Effect). Found f past back e (Some (not_open fid))) (sym is ∙ ap (effect f) same.last)
    (fid, subst (λ (before : List Exchange). FidIs before g (Some fid)) same.before from, refl)

-- a fid that nothing sets or frees is none
none_found : (past : List Exchange) (f : ℕ) (fid : Option Fid) → FidIs past f fid → IsLeftBy f past → fid ≡ None
none_found _ _ _ (never_set past f left) _ = refl
none_found _ _ _ (was_freed past f b is) _ = refl
none_found _ _ _ (was_put past f b q mode is) left =
    absurd (put_sets _ q mode is (middle f b.before b.after b.last (subst (IsLeftBy f) b.past_is left)))
none_found _ _ _ (has_followed past f b g fid is from) left =
    absurd (followed_sets _ g is (middle f b.before b.after b.last (subst (IsLeftBy f) b.past_is left)))

pub one_found : (past : List Exchange) (f : ℕ) (fid : Option Fid) → FidIs past f fid → (other : Option Fid) → FidIs past f other → fid ≡ other
one_found _ _ _ (never_set past f left) other h = sym (none_found past f other h left)
one_found _ _ _ (was_freed past f b is) other h =
    let got = found_at past f other h b (freed_sets _ is) in sym (subst (λ (e : Effect). Found f past b e other) is got)
one_found _ _ _ (was_put past f b q mode is) other h =
    let got = found_at past f other h b (put_sets _ q mode is) in sym (subst (λ (e : Effect). Found f past b e other) is got)
one_found _ _ _ (has_followed past f b g fid is from) other h =
    let got : Found f past b (follows g) other =
    subst (λ (e : Effect). Found f past b e other) is (found_at past f other h b (followed_sets _ g is))
    in
    ap (option_map not_open) (one_found b.before g (Some fid) from (Some got.0) got.1) ∙ sym got.2
