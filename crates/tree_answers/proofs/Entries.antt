-- The entries of a map of names: which they are, and those after a name.
use Rattle.std.proofs.Common.{◌≡◌, ◌⊎◌, ℕ, Bool, true, false, ◌&&◌, T, List, [], ◌∷◌, filter, Option, Some, None, is_lt, is_gt, nat_cmp, Ordering, Less, Equal, Greater, inl, inr, refl, sym, ap, subst, ◌∙◌}
use Rattle.std.specs.Cmp.Lexicographic.{slice_cmp, nat_list_cmp_total}
use Rattle.std.specs.Ordering.{ordering_reverse}
use Rattle.std.specs.FinMap as finmap
use Rattle.std.specs.FinMap.Entries.{put, by_order, below_all, is_sorted}
use Rattle.std.proofs.lemmas.Bool.{cond-true, cond-false}
use Rattle.std.proofs.lemmas.Cmp.{tied_itself}
use Rattle.std.proofs.lemmas.List.{nil_from_length}
use Rattle.std.proofs.lemmas.Map.Lookups.{exact_bytes}
use Rattle.tree_model.specs.Step.{is_behind}
use Rattle.clear_tree.specs.Queue.{In}

-- the order of the names' bytes
abbrev pub name_cmp : List ℕ → List ℕ → Ordering
name_cmp = slice_cmp nat_cmp

pub less_not_greater : (a b : List ℕ) → name_cmp a b ≡ Less → name_cmp b a ≡ Greater
less_not_greater a b less = nat_list_cmp_total.antisymm b a ∙ ap ordering_reverse less

pub greater_not_less : (a b : List ℕ) → name_cmp a b ≡ Greater → name_cmp b a ≡ Less
greater_not_less a b more = nat_list_cmp_total.antisymm b a ∙ ap ordering_reverse more

pub greater_from : (o : Ordering) → is_gt o ≡ true → o ≡ Greater
greater_from Less h = absurd cc
greater_from Equal h = absurd cc
greater_from Greater h = refl

-- what is after a name that is after another is after that
behind_on : (last : Option (List ℕ)) (a b : List ℕ) → name_cmp a b ≡ Less → is_behind last a ≡ true → is_behind last b ≡ true
behind_on None a b less behind = refl
behind_on (Some last) a b less behind =
    let below : name_cmp last a ≡ Less = greater_not_less a last (greater_from (name_cmp a last) behind) in
    ap is_gt (less_not_greater last b (nat_list_cmp_total.trans last a b below less))

left : (a b : Bool) → T (a && b) → T a
left true b h = tt
left false b h = absurd h

right : (a b : Bool) → T (a && b) → T b
right true b h = h
right false b h = absurd h

less_from : (o : Ordering) → T (is_lt o) → o ≡ Less
less_from Less h = refl
less_from Equal h = absurd h
less_from Greater h = absurd h

-- an entry of a map of names
abbrev pub Named : Type 0 → Type 0
Named X = List ℕ × X

module _ {X : Type 0} where
  abbrev pub behind : Option (List ℕ) → Named X → Bool
  behind last entry = is_behind last entry.0

  -- ---- which entries there are

  in_put : (k : List ℕ) (v : X) (f : Named X) (es : List (Named X)) → In f (put name_cmp k v es) → (f ≡ (k, v)) ⊎ In f es
  in_put k v f [] (inl same) = inl same
  in_put k v f [] (inr h) = absurd h
  in_put k v f (e ∷ es) h = by (name_cmp k e.0) refl (in_put k v f es) h
    where
      onward : (f ≡ (k, v)) ⊎ In f es → (f ≡ (k, v)) ⊎ In f (e ∷ es)
      onward (inl same) = inl same
      onward (inr h) = inr (inr h)

      by : (r : Ordering) → name_cmp k e.0 ≡ r → (In f (put name_cmp k v es) → (f ≡ (k, v)) ⊎ In f es)
          → In f (by_order r ((k, v) ∷ e ∷ es) ((e.0, v) ∷ es) (e ∷ put name_cmp k v es)) → (f ≡ (k, v)) ⊎ In f (e ∷ es)
      by Less is rest (inl same) = inl same
      by Less is rest (inr h) = inr h
      by Equal is rest (inl same) = inl (same ∙ ap (λ (n : List ℕ). (n, v)) (sym (exact_bytes k e.0 is)))
      by Equal is rest (inr h) = inr (inr h)
      by Greater is rest (inl same) = inr (inl same)
      by Greater is rest (inr h) = onward (rest h)

  put_in : (k : List ℕ) (v : X) (es : List (Named X)) → In (k, v) (put name_cmp k v es)
  put_in k v [] = inl refl
  put_in k v (e ∷ es) = by (name_cmp k e.0) refl (put_in k v es)
    where
      by : (r : Ordering) → name_cmp k e.0 ≡ r → In (k, v) (put name_cmp k v es) → In (k, v) (by_order r ((k, v) ∷ e ∷ es) ((e.0, v) ∷ es) (e ∷ put name_cmp k v es))
      by Less is rest = inl refl
      by Equal is rest = inl (ap (λ (n : List ℕ). (n, v)) (exact_bytes k e.0 is))
      by Greater is rest = inr rest

  -- an entry stays, unless it is another one of the same name
  stays_in : (k : List ℕ) (v : X) (f : Named X) (es : List (Named X)) → (f.0 ≡ k → f ≡ (k, v)) → In f es → In f (put name_cmp k v es)
  stays_in k v f [] same h = absurd h
  stays_in k v f (e ∷ es) same h = by (name_cmp k e.0) refl (stays_in k v f es same) h
    where
      by : (r : Ordering) → name_cmp k e.0 ≡ r → (In f es → In f (put name_cmp k v es)) → In f (e ∷ es)
          → In f (by_order r ((k, v) ∷ e ∷ es) ((e.0, v) ∷ es) (e ∷ put name_cmp k v es))
      by Less is rest h = inr h
      by Equal is rest (inl here) =
          let key : k ≡ e.0 = exact_bytes k e.0 is in
          inl (same (ap (λ (x : Named X). x.0) here ∙ sym key) ∙ ap (λ (n : List ℕ). (n, v)) key)
      by Equal is rest (inr h) = inr h
      by Greater is rest (inl here) = inl here
      by Greater is rest (inr h) = inr (rest h)

  abbrev map_of : List (Named X) → finmap.FinMap name_cmp X
  map_of es = finmap.from_entries es

  empty_entries : finmap.entries (map_of []) ≡ []
  empty_entries = nil_from_length (finmap.entries (map_of [])) (sym (finmap.len-entries (map_of [])) ∙ finmap.len-empty name_cmp X)

  -- what a map has was put into it
  pub in_entries : (f : Named X) (es : List (Named X)) → In f (finmap.entries (map_of es)) → In f es
  in_entries f [] h = subst (In f) empty_entries h
  in_entries f (e ∷ es) h =
      elim (in_put e.0 e.1 f (finmap.entries (map_of es)) (subst (In f) (finmap.entries-insert nat_list_cmp_total (map_of es) e.0 e.1) h)) [
        | inl same ↦ inl same
        | inr rest ↦ inr (in_entries f es rest)
      ]

  -- what was put into it is there, if nothing else of that name was
  pub entries_in : (f : Named X) (es : List (Named X)) → ((g : Named X) → In g es → f.0 ≡ g.0 → f ≡ g) → In f es → In f (finmap.entries (map_of es))
  entries_in f [] sole h = absurd h
  entries_in f (e ∷ es) sole (inl same) =
      subst (In f) (sym (finmap.entries-insert nat_list_cmp_total (map_of es) e.0 e.1))
      (subst (λ (x : Named X). In x (put name_cmp e.0 e.1 (finmap.entries (map_of es)))) (sym same) (put_in e.0 e.1 (finmap.entries (map_of es))))
  entries_in f (e ∷ es) sole (inr h) =
      subst (In f) (sym (finmap.entries-insert nat_list_cmp_total (map_of es) e.0 e.1))
      (stays_in e.0 e.1 f (finmap.entries (map_of es)) (sole e (inl refl)) (entries_in f es (λ g i. sole g (inr i)) h))

  -- ---- those after a name

  below_in : (name : List ℕ) (es : List (Named X)) → T (below_all name_cmp name es) → (f : Named X) → In f es → name_cmp name f.0 ≡ Less
  below_in name [] below f h = absurd h
  below_in name (e ∷ es) below f (inl same) = ap (λ (x : Named X). name_cmp name x.0) same ∙ less_from (name_cmp name e.0) (left _ _ below)
  below_in name (e ∷ es) below f (inr h) = below_in name es (right _ _ below) f h

  all_pass : (p : Named X → Bool) (es : List (Named X)) → ((f : Named X) → In f es → p f ≡ true) → filter p es ≡ es
  all_pass p [] pass = refl
  all_pass p (e ∷ es) pass = cond-true (p e) _ _ (pass e (inl refl)) ∙ ap (λ (rest : List (Named X)). e ∷ rest) (all_pass p es (λ f h. pass f (inr h)))

  pub none_pass : (p : Named X → Bool) (es : List (Named X)) → ((f : Named X) → In f es → p f ≡ true → ⊥) → filter p es ≡ []
  none_pass p [] fail = refl
  none_pass p (e ∷ es) fail = by (p e) refl (none_pass p es (λ f h. fail f (inr h)))
    where
      by : (b : Bool) → p e ≡ b → filter p es ≡ [] → filter p (e ∷ es) ≡ []
      by true is rest = absurd (fail e (inl refl) is)
      by false is rest = cond-false (p e) _ _ is ∙ rest

  -- after a name there is the first entry after it, and then those after that one
  pub first_behind : (last : Option (List ℕ)) (f : Named X) (es : List (Named X)) → T (is_sorted name_cmp es) → In f es → is_behind last f.0 ≡ true
      → ((g : Named X) → In g es → is_behind last g.0 ≡ true → name_cmp g.0 f.0 ≡ Less → ⊥) → filter (behind last) es ≡ f ∷ filter (behind (Some f.0)) es
  first_behind last f [] sorted h is first = absurd h
  first_behind last f (e ∷ es) sorted (inl same) is first =
      let below : (g : Named X) → In g es → name_cmp f.0 g.0 ≡ Less = λ g h. ap (λ (x : Named X). name_cmp x.0 g.0) same ∙ below_in e.0 es (left _ _ sorted) g h in
      let itself : is_behind (Some f.0) e.0 ≡ false = ap (λ (x : Named X). is_gt (name_cmp x.0 f.0)) (sym same) ∙ ap is_gt (tied_itself nat_list_cmp_total f.0) in
      let all : filter (behind last) es ≡ es = all_pass (behind last) es (λ g h. behind_on last f.0 g.0 (below g h) is) in
      let others : filter (behind (Some f.0)) es ≡ es = all_pass (behind (Some f.0)) es (λ g h. ap is_gt (less_not_greater f.0 g.0 (below g h))) in
      cond-true (is_behind last e.0) _ _ (ap (λ (x : Named X). is_behind last x.0) (sym same) ∙ is)
      ∙ ap (λ (x : Named X). x ∷ filter (behind last) es) (sym same)
      ∙ ap (λ (rest : List (Named X)). f ∷ rest) (all ∙ sym others ∙ sym (cond-false (is_behind (Some f.0) e.0) _ _ itself))
  first_behind last f (e ∷ es) sorted (inr h) is first = by (is_behind last e.0) refl (first_behind last f es (right _ _ sorted) h is (λ g i. first g (inr i)))
    where
      below : name_cmp e.0 f.0 ≡ Less
      below = below_in e.0 es (left _ _ sorted) f h

      by : (b : Bool) → is_behind last e.0 ≡ b → filter (behind last) es ≡ f ∷ filter (behind (Some f.0)) es → filter (behind last) (e ∷ es) ≡ f ∷ filter (behind (Some f.0)) (e ∷ es)
      by true past rest = absurd (first e (inl refl) past below)
      by false past rest =
          cond-false (is_behind last e.0) _ _ past ∙ rest
          ∙ ap (λ (rest : List (Named X)). f ∷ rest) (sym (cond-false (is_behind (Some f.0) e.0) _ _ (ap is_gt below)))
