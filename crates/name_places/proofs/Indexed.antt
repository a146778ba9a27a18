-- The index of claims as it is built, grows and shrinks.
use Rattle.std.proofs.Common.{◌≡◌, ◌≢◌, ℕ, suc, ◌<◌, ◌≤◌, Bool, true, false, cond, List, [], ◌∷◌, Option, Some, None, is_some, bytes_eq, ◌==◌, ◌↔◌, refl, sym, ap, ◌∙◌, subst, true≢false, inl, inr, ◌⊎◌, arith}
use Rattle.std.proofs.lemmas.Bool.{eqb-true, eq-eqb, ne_eqb, cases_lt}
use Rattle.std.proofs.lemmas.Slice.Eq.{bytes_eq-Decides}
use Rattle.std.specs.declared.cmp.Ordering.{Ordering}
use Rattle.std.specs.declared.cmp.Ordering.TheVariants.{Less, Equal, Greater}
use Rattle.std.specs.Ordering.{nat_cmp, is_eq, match_ordering}
use Rattle.std.specs.Cmp.Lexicographic.{slice_cmp}
use Rattle.std.specs.Map.{remove_entry}
use Rattle.std.specs.BTreeMap.{is_at, insert_entry}
use Rattle.tree_model.specs.Rows.{root}
use Rattle.clear_tree.specs.Walk.{Sealing}
use Rattle.live_tree.specs.Held.{HeldNode, HeldTree, IsTree}
use Rattle.live_tree.specs.Changes.{added, removed}
use Rattle.live_tree.proofs.Places.{at_name}
use Rattle.name_places.specs.Claims.{claimed_in, claimed_at, NamesFolder, IsFirst, number_in, AreClaimsOf}
use Rattle.name_places.specs.Index.{or_number, IsPut, IsFirstBelow, AreClaimsBelow}
use Rattle.name_places.specs.Laws.{Grows, Shrinks, IsNumbered, TakesBack}
use Rattle.name_places.proofs.Changed.{claimed_added, claimed_removed, claimer_below}
use Rattle.name_places.proofs.Lowest.{one_first, none_names}

abbrev Entries : Type 0
Entries = List (List ℕ × ℕ)

-- ---- one number more

module _ (s : Sealing) (tree : HeldTree) (next after : ℕ) (more : after ≡ suc next) where
  later : (f : List ℕ) (m : ℕ) → IsFirstBelow s tree next f m → IsFirstBelow s tree after f m
  later f m is = let low = is.below in record { is = is.is; below = omega (arith, low, more) }

  earlier : (named : Option (List ℕ)) → claimed_at s tree next ≡ named → (f : List ℕ) → (named ≡ Some f → ⊥) → (m : ℕ) → IsFirstBelow s tree after f m → IsFirstBelow s tree next f m
  earlier named claimed f other m is = record { is = is.is; below = go (cases_lt m next) }
    where
      go : (m < next) ⊎ (next ≤ m) → m < next
      go (inl less) = less
      go (inr past) =
          let low = is.below in
          let here : m ≡ next = omega (arith, low, more, past) in
          absurd (other (sym claimed ∙ ap (claimed_at s tree) (sym here) ∙ is.is.names.claimed))

  -- a node that names no folder
  pub below_none : (claims : Entries) → claimed_at s tree next ≡ None → AreClaimsBelow s tree next claims → AreClaimsBelow s tree after claims
  below_none claims none are f m = (
    λ found. later f m ((are f m).0 found),
    λ is. (are f m).1 (earlier None none f (λ e. cc) m is),
  )

  settled : (f : List ℕ) (o : Option ℕ) (k : ℕ) → o ≡ Some k → IsFirstBelow s tree after f k → (m : ℕ) → (o ≡ Some m) ↔ IsFirstBelow s tree after f m
  settled f o k e is m = (
    λ found. let same : k ≡ m = cc in subst (IsFirstBelow s tree after f) same is,
    λ other. e ∙ ap Some (one_first s tree f k m is.is other.is),
  )

  -- a node that names this one
  module _ (below : next ≢ root) (g : List ℕ) (claimed : claimed_at s tree next ≡ Some g) (old new : Entries) (put : IsPut old new g next) (are : AreClaimsBelow s tree next old) where
    first_here : (f : List ℕ) → g ≡ f → number_in old f ≡ None → IsFirstBelow s tree after f next
    first_here f same none = record {
      is = record {
        names = record { below = below; claimed = claimed ∙ ap Some same };
        first = λ other other_is. go other other_is (cases_lt other next);
      };
      below = omega (arith, more);
    }
      where
        go : (other : ℕ) → NamesFolder s tree f other → (other < next) ⊎ (next ≤ other) → next ≤ other
        go other other_is (inl less) =
            absurd (none_names s tree f next (λ m low is. let found = (are f m).1 (record { is = is; below = low }) in absurd (cc (found, none))) other less other_is)
        go other other_is (inr past) = past

    by_number : (f : List ℕ) → g ≡ f → (o : Option ℕ) → number_in old f ≡ o → number_in new f ≡ or_number o next → (m : ℕ) → (number_in new f ≡ Some m) ↔ IsFirstBelow s tree after f m
    by_number f same (Some k) was is m = settled f (number_in new f) k is (later f k ((are f k).0 was)) m
    by_number f same None was is m = settled f (number_in new f) next is (first_here f same was) m

    by_folder : (f : List ℕ) (b : Bool) → bytes_eq g f ≡ b → number_in new f ≡ cond b (or_number (number_in old f) next) (number_in old f) → (m : ℕ)
        → (number_in new f ≡ Some m) ↔ IsFirstBelow s tree after f m
    by_folder f true e is m = by_number f ((bytes_eq-Decides g f).0 e) (number_in old f) refl is m
    by_folder f false e is m = (
      λ found. later f m ((are f m).0 (sym is ∙ found)),
      λ first. is ∙ (are f m).1 (earlier (Some g) claimed f (λ h. let same : g ≡ f = cc in true≢false (sym ((bytes_eq-Decides g f).1 same) ∙ e)) m first),
    )

    pub below_put : AreClaimsBelow s tree after new
    below_put f m = by_folder f (bytes_eq g f) refl (put f) m

-- ---- all of them

pub claims_whole : (s : Sealing) (tree : HeldTree) (next : ℕ) (claims : Entries) → ((f : List ℕ) (q : ℕ) → NamesFolder s tree f q → q < next) → AreClaimsBelow s tree next claims
    → AreClaimsOf s tree claims
claims_whole s tree next claims low are f m = (λ found. ((are f m).0 found).is, λ is. (are f m).1 (record { is = is; below = low f m is.names }))

pub claims_end : (s : Sealing) (tree : HeldTree) (next : ℕ) (claims : Entries) → IsTree tree → tree.next ≤ next → AreClaimsBelow s tree next claims → AreClaimsOf s tree claims
claims_end s tree next claims is past are =
    claims_whole s tree next claims (λ f q names. let low = claimer_below s tree is q f names.claimed in omega (arith, low, past)) are

-- ---- a node that is made

module _ (s : Sealing) (tree : HeldTree) (node : HeldNode) (now : ℕ) (is : IsTree tree) where
  abbrev grown : HeldTree
  grown = added tree node now

  same_below : (q : ℕ) → q < tree.next → claimed_at s grown q ≡ claimed_at s tree q
  same_below q low =
      claimed_added s tree node now is q ∙ ap (λ (b : Bool). cond b (claimed_in s node.kept.what) (claimed_at s tree q)) (ne_eqb q tree.next (λ e. omega (arith, low, e)))

  here_grown : claimed_at s grown tree.next ≡ claimed_in s node.kept.what
  here_grown = claimed_added s tree node now is tree.next ∙ ap (λ (b : Bool). cond b (claimed_in s node.kept.what) (claimed_at s tree tree.next)) (eq-eqb tree.next tree.next refl)

  names_grown : (f : List ℕ) (q : ℕ) → NamesFolder s tree f q → NamesFolder s grown f q
  names_grown f q names = record { below = names.below; claimed = same_below q (claimer_below s tree is q f names.claimed) ∙ names.claimed }

  names_old : (f : List ℕ) (q : ℕ) → q < tree.next → NamesFolder s grown f q → NamesFolder s tree f q
  names_old f q low names = record { below = names.below; claimed = sym (same_below q low) ∙ names.claimed }

  first_grown : (f : List ℕ) (m : ℕ) → IsFirst s tree f m → IsFirstBelow s grown tree.next f m
  first_grown f m first = record {
    is = record { names = names_grown f m first.names; first = λ other other_is. go other other_is (cases_lt other tree.next) };
    below = low;
  }
    where
      low : m < tree.next
      low = claimer_below s tree is m f first.names.claimed

      go : (other : ℕ) → NamesFolder s grown f other → (other < tree.next) ⊎ (tree.next ≤ other) → m ≤ other
      go other other_is (inl less) = first.first other (names_old f other less other_is)
      go other other_is (inr past) = omega (arith, low, past)

  first_old : (f : List ℕ) (m : ℕ) → IsFirstBelow s grown tree.next f m → IsFirst s tree f m
  first_old f m first = record { names = names_old f m first.below first.is.names; first = λ other other_is. first.is.first other (names_grown f other other_is) }

  low_grown : (f : List ℕ) (q : ℕ) → NamesFolder s grown f q → q < suc tree.next
  low_grown f q names = go (q == tree.next) refl (sym (claimed_added s tree node now is q) ∙ names.claimed)
    where
      go : (b : Bool) → (q == tree.next) ≡ b → cond (q == tree.next) (claimed_in s node.kept.what) (claimed_at s tree q) ≡ Some f → q < suc tree.next
      go true e h = let same = eqb-true q tree.next e in omega (arith, same)
      go false e h = let got = rw e at h in let low = claimer_below s tree is q f got in omega (arith, low)

  grown_claims : (old new : Entries) (folder : List ℕ) → AreClaimsOf s tree old → claimed_in s node.kept.what ≡ Some folder → IsPut old new folder tree.next → AreClaimsOf s grown new
  grown_claims old new folder are named put =
      let root_low = is.numbers root is.first.0 is.first.1.there in
      claims_whole s grown (suc tree.next) new low_grown
      (below_put s grown tree.next (suc tree.next) refl (λ e. omega (arith, root_low, e)) folder (here_grown ∙ named) old new put
      (λ f m. (λ found. first_grown f m ((are f m).0 found), λ first. (are f m).1 (first_old f m first))))

pub grows_from : (old new : Entries) (folder : List ℕ) (number : ℕ) → IsPut old new folder number → Grows old new folder number
grows_from old new folder number put s tree node now is are at named =
    grown_claims s tree node now is old new folder are named (subst (IsPut old new folder) at put)

-- ---- the only node that names a folder goes

gone : (b : Bool) (o : Option (List ℕ)) (g : List ℕ) → cond b None o ≡ Some g → o ≡ Some g
gone true o g h = absurd cc
gone false o g h = h

pub shrinks_from : (old new : Entries) (folder : List ℕ) → ((g : List ℕ) → number_in new g ≡ cond (bytes_eq folder g) None (number_in old g)) → Shrinks old new folder
shrinks_from old new folder updates s tree number parent now are only g m = step (bytes_eq folder g) refl (updates g)
  where
    back : (f : List ℕ) (q : ℕ) → NamesFolder s (removed tree number parent now) f q → NamesFolder s tree f q
    back f q names = record {
      below = names.below;
      claimed = gone (q == number) (claimed_at s tree q) f (sym (claimed_removed s tree number parent now q) ∙ names.claimed);
    }

    not_here : (f : List ℕ) (q : ℕ) → NamesFolder s (removed tree number parent now) f q → q ≡ number → ⊥
    not_here f q names at =
        let none : claimed_at s (removed tree number parent now) q ≡ None =
        claimed_removed s tree number parent now q ∙ ap (λ (b : Bool). cond b None (claimed_at s tree q)) (eq-eqb q number at) in
        let some = names.claimed in
        absurd (cc (none, some))

    forth : (f : List ℕ) (q : ℕ) → q ≢ number → NamesFolder s tree f q → NamesFolder s (removed tree number parent now) f q
    forth f q apart names = record {
      below = names.below;
      claimed = claimed_removed s tree number parent now q ∙ ap (λ (b : Bool). cond b None (claimed_at s tree q)) (ne_eqb q number apart) ∙ names.claimed;
    }

    other : bytes_eq folder g ≡ false → (q : ℕ) → NamesFolder s tree g q → q ≢ number
    other e q names at =
        let mine = only.names.claimed in
        let theirs : claimed_at s tree number ≡ Some g = ap (claimed_at s tree) (sym at) ∙ names.claimed in
        let same : folder ≡ g = cc (mine, theirs) in
        true≢false (sym ((bytes_eq-Decides folder g).1 same) ∙ e)

    step : (b : Bool) → bytes_eq folder g ≡ b → number_in new g ≡ cond b None (number_in old g) → (number_in new g ≡ Some m) ↔ IsFirst s (removed tree number parent now) g m
    step true e is = (
      λ found. absurd (cc (found, is)),
      λ first.
          let same : folder ≡ g = (bytes_eq-Decides folder g).0 e in
          absurd (not_here g m first.names (only.only m (subst (λ f. NamesFolder s tree f m) (sym same) (back g m first.names)))),
    )
    step false e is = (
      λ found.
          let first = (are g m).0 (sym is ∙ found) in
          record { names = forth g m (other e m first.names) first.names; first = λ q names. first.first q (back g q names) },
      λ first.
          is ∙ (are g m).1 (record { names = back g m first.names; first = λ q names. first.first q (forth g q (other e q names) names) }),
    )

-- ---- the map

pub put_there : (old : Entries) (folder : List ℕ) (number : ℕ) → is_some (number_in old folder) ≡ true → IsPut old old folder number
put_there old folder number there other = by_folder (bytes_eq folder other) refl
  where
    kept : (o : Option ℕ) → is_some o ≡ true → o ≡ or_number o number
    kept None is = absurd (true≢false (sym is))
    kept (Some k) is = refl

    by_folder : (b : Bool) → bytes_eq folder other ≡ b → number_in old other ≡ cond b (or_number (number_in old other) number) (number_in old other)
    by_folder true e = kept (number_in old other) (subst (λ (f : List ℕ). is_some (number_in old f) ≡ true) ((bytes_eq-Decides folder other).0 e) there)
    by_folder false e = refl

none_of : (o : Option ℕ) → is_some o ≡ false → o ≡ None
none_of None is = refl
none_of (Some k) is = absurd (true≢false is)

pub put_new : (old new : Entries) (folder : List ℕ) (number : ℕ) → is_some (number_in old folder) ≡ false
    → ((q : List ℕ) → number_in new q ≡ cond (is_at (slice_cmp nat_cmp folder) q) (Some number) (number_in old q)) → IsPut old new folder number
put_new old new folder number free updates other =
    updates other ∙ ap (λ (b : Bool). cond b (Some number) (number_in old other)) (at_name folder other) ∙ by_folder (bytes_eq folder other) refl
  where
    by_folder : (b : Bool) → bytes_eq folder other ≡ b → cond b (Some number) (number_in old other) ≡ cond b (or_number (number_in old other) number) (number_in old other)
    by_folder true e =
        let none : number_in old other ≡ None = ap (number_in old) (sym ((bytes_eq-Decides folder other).0 e)) ∙ none_of (number_in old folder) free in
        ap (λ (o : Option ℕ). or_number o number) (sym none)
    by_folder false e = refl

pub put_over : (old mid new : Entries) (folder : List ℕ) (number : ℕ) → mid ≡ old → is_some (number_in old folder) ≡ false
    → ((q : List ℕ) → number_in new q ≡ cond (is_at (slice_cmp nat_cmp folder) q) (Some number) (number_in mid q)) → IsPut old new folder number
put_over old mid new folder number same free updates =
    put_new old new folder number free (λ q. updates q ∙ ap (λ (es : Entries). cond (is_at (slice_cmp nat_cmp folder) q) (Some number) (number_in es q)) same)

pub removed_at : (old new : Entries) (folder : List ℕ) → ((q : List ℕ) → number_in new q ≡ cond (is_at (slice_cmp nat_cmp folder) q) None (number_in old q))
    → Shrinks old new folder
removed_at old new folder updates =
    shrinks_from old new folder (λ g. updates g ∙ ap (λ (b : Bool). cond b None (number_in old g)) (at_name folder g))

pub removed_over : (old mid new : Entries) (folder : List ℕ) → mid ≡ old → ((q : List ℕ) → number_in new q ≡ cond (is_at (slice_cmp nat_cmp folder) q) None (number_in mid q))
    → Shrinks old new folder
removed_over old mid new folder same updates =
    removed_at old new folder (λ q. updates q ∙ ap (λ (es : Entries). cond (is_at (slice_cmp nat_cmp folder) q) None (number_in es q)) same)

-- ---- taking back

same_key : (k : List ℕ) → is_at (slice_cmp nat_cmp k) k ≡ true
same_key k = at_name k k ∙ (bytes_eq-Decides k k).1 refl

undone_at : (k : List ℕ) (v : ℕ) (e : List ℕ × ℕ) (es : Entries) (o : Ordering) → slice_cmp nat_cmp k e.0 ≡ o → cond (is_eq o) (Some e.1) (number_in es k) ≡ None
    → (number_in es k ≡ None → remove_entry (is_at (slice_cmp nat_cmp k)) (insert_entry (slice_cmp nat_cmp) es k v) ≡ es)
    → remove_entry (is_at (slice_cmp nat_cmp k)) (match_ordering o ((k, v) ∷ e ∷ es) ((e.0, v) ∷ es) (e ∷ insert_entry (slice_cmp nat_cmp) es k v)) ≡ e ∷ es
undone_at k v e es Less is none rest = ap (λ (b : Bool). cond b (e ∷ es) ((k, v) ∷ remove_entry (is_at (slice_cmp nat_cmp k)) (e ∷ es))) (same_key k)
undone_at k v e es Equal is none rest = absurd cc
undone_at k v e es Greater is none rest =
    ap (λ (o : Ordering). cond (is_eq o) (insert_entry (slice_cmp nat_cmp) es k v) (e ∷ remove_entry (is_at (slice_cmp nat_cmp k)) (insert_entry (slice_cmp nat_cmp) es k v))) is
    ∙ ap (λ (xs : Entries). e ∷ xs) (rest none)

undone : (k : List ℕ) (v : ℕ) (es : Entries) → number_in es k ≡ None → remove_entry (is_at (slice_cmp nat_cmp k)) (insert_entry (slice_cmp nat_cmp) es k v) ≡ es
undone k v [] none = ap (λ (b : Bool). cond b [] ((k, v) ∷ [])) (same_key k)
undone k v (e ∷ es) none = undone_at k v e es (slice_cmp nat_cmp k e.0) refl none (undone k v es)

pub taken_back : (old mid new : Entries) (folder : List ℕ) → mid ≡ old → new ≡ remove_entry (is_at (slice_cmp nat_cmp folder)) mid → TakesBack old new folder
taken_back old mid new folder same removed before number put =
    removed ∙ ap (remove_entry (is_at (slice_cmp nat_cmp folder))) (same ∙ put.entries) ∙ undone folder number before put.free

pub numbered_new : (old mid new : Entries) (folder : List ℕ) (number : ℕ) → mid ≡ old → is_some (number_in old folder) ≡ false → new ≡ insert_entry (slice_cmp nat_cmp) mid folder number
    → IsNumbered old new folder number
numbered_new old mid new folder number same free put =
    record { free = none_of (number_in old folder) free; entries = put ∙ ap (λ (es : Entries). insert_entry (slice_cmp nat_cmp) es folder number) same }
