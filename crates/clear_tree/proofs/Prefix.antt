-- The rows of a walk that has not ended are the first nodes, whoever has the folders.
use Rattle.std.proofs.Common.{◌≡◌, ◌≢◌, ◌&&◌, not, ℕ, Bool, true, false, cond, List, [], ◌∷◌, ◌++◌, append_assoc, append-nil, Option, Some, None, is_some, refl, sym, ap, ◌∙◌, subst, subst₂, inl, inr, ◌⊎◌, true≢false}
use Rattle.std.specs.declared.cmp.Ordering.{Ordering}
use Rattle.std.specs.declared.cmp.Ordering.TheVariants.{Less, Equal, Greater}
use Rattle.std.specs.Ordering.{nat_cmp, is_gt, ordering_then, ordering_reverse}
use Rattle.std.specs.Cmp.Lexicographic.{slice_cmp}
use Rattle.std.proofs.lemmas.Cmp.{nat_list_cmp_total}
use Rattle.clear_tree.specs.Walk.{Path, same_path, walk_cmp, Sealing, Folders, Kind, Plain, Named, Linked, Bare, Node, File, Link, Dir, Bad, look, node, node_at, claimed, IsOwner}
use Rattle.clear_tree.specs.Queue.{Row, claims, first_claim, row_of, kids, In, Ascending, AreEntriesOf, IsWalk, Begun, Turned}
use Rattle.clear_tree.proofs.Lists.{in_left, in_right, in_cases, ascending_append, ascending_split, ascending_right}
use Rattle.clear_tree.proofs.Paths.{root_first, same_path-apart, same_path-itself, walk_itself}
use Rattle.clear_tree.proofs.Owner.{child_at}
use Rattle.clear_tree.proofs.Unique.{node_claim, walk_equal, walk_antisymm}
use Rattle.clear_tree.proofs.Queue.{row_cmp, Follows, Sound, claims-true, first-left, first-right, first-in, first-least, row_path, row_there, below_some, row_ascending, sound_more, name_cmp, Walked, same_rows, walked}

module _ (s : Sealing) (v : Folders) (o : List ℕ → Path) (own : IsOwner s v o) where
  -- every node before a row of these is a row of these, and the owners go by them
  pub record Leading (acc : List Row) : Type 0 where
    pub follows : Follows s v o acc
    pub down : (q : Path) (x : Node) → node_at s v o q ≡ Some x → (r : Row) → In r acc → walk_cmp q r.0 ≡ Less → (y : Node) × In (q, y) acc

  -- the owner that a row goes by
  abbrev row_owner : List Row → Path → List ℕ → Path
  row_owner acc p f = cond (is_some (first_claim s f acc)) [] p

  row_node : (acc : List Row) (m : List ℕ) (q : Path) (k : Kind) (p : Path) (x : Node) → In (p, x) (row_of s v acc (m ∷ q) k) →
      node s v (row_owner acc (m ∷ q)) (m ∷ q) (Some k) ≡ Some x
  row_node acc m q (Plain b) p x (inl e) = ap (λ (z : Row). Some z.1) (sym e)
  row_node acc m q (Plain b) p x (inr e) = absurd e
  row_node acc m q (Linked b) p x (inl e) = ap (λ (z : Row). Some z.1) (sym e)
  row_node acc m q (Linked b) p x (inr e) = absurd e
  row_node acc m q Bare p x e = absurd e
  row_node acc m q (Named t) p x (inr e) = absurd e
  row_node acc m q (Named t) p x (inl e) =
      ap (λ (b : Bool). Some (cond (s.valid_id t && (v.present (s.folder_of t) && b)) (Dir t) (Bad t))) (go (is_some (first_claim s (s.folder_of t) acc)))
      ∙ ap (λ (z : Row). Some z.1) (sym e)
    where
      go : (b : Bool) → same_path (cond b [] (m ∷ q)) (m ∷ q) ≡ not b
      go true = same_path-apart [] (m ∷ q) (λ h. cc)
      go false = same_path-itself (m ∷ q)

  module _ (acc : List Row) (q : Path) (j m : List ℕ) (k : Kind) (sound : Sound s v acc) (asc : Ascending row_cmp acc) (dir : In (q, Dir j) acc)
      (looked : look s v j m ≡ Some k) (lead : Leading acc)
      (before : (p : Path) (x : Node) → node_at s v o p ≡ Some x → walk_cmp p (m ∷ q) ≡ Less → (y : Node) × In (p, y) acc) where
    dir_at : node_at s v o q ≡ Some (Dir j)
    dir_at = sound o lead.follows q (Dir j) dir

    claim_at : (p : Path) (x : Node) (f : List ℕ) → In (p, x) (row_of s v acc (m ∷ q) k) → claimed s (Some x) ≡ Some f → claimed s (node_at s v o (m ∷ q)) ≡ Some f
    claim_at p x f h c = ap (claimed s) (child_at s v o m j q dir_at ∙ ap (node s v o (m ∷ q)) looked)
        ∙ node_claim s v o (row_owner acc (m ∷ q)) (m ∷ q) (Some k) ∙ ap (claimed s) (row_node acc m q k p x h) ∙ c

    new_follows : (f : List ℕ) (r : Path) → first_claim s f acc ≡ None → first_claim s f (row_of s v acc (m ∷ q) k) ≡ Some r → o f ≡ r
    new_follows f r none h =
        let a : (x : Node) × In (r, x) (row_of s v acc (m ∷ q) k) × (claimed s (Some x) ≡ Some f) = first-in s f (row_of s v acc (m ∷ q) k) r h in
        let c : claimed s (node_at s v o (m ∷ q)) ≡ Some f = claim_at r a.0 f a.1 a.2 in
        go (walk_cmp (o f) (m ∷ q)) refl (own.first (m ∷ q) f c) (own.holds (m ∷ q) f c) (row_path s v acc (m ∷ q) k (r, a.0) a.1)
      where
        claim_row : (y : Option Node) → node_at s v o (o f) ≡ y → claimed s y ≡ Some f → (x : Node) × (node_at s v o (o f) ≡ Some x) × (claimed s (Some x) ≡ Some f)
        claim_row None e h2 = absurd (cc)
        claim_row (Some x) e h2 = (x, e, h2)

        go : (w : Ordering) → walk_cmp (o f) (m ∷ q) ≡ w → is_gt (walk_cmp (o f) (m ∷ q)) ≡ false → claimed s (node_at s v o (o f)) ≡ Some f → r ≡ m ∷ q → o f ≡ r
        go Equal e g c is = walk_equal (o f) (m ∷ q) e ∙ sym is
        go Greater e g c is = absurd (true≢false (sym (ap is_gt e) ∙ g))
        go Less e g c is =
            let x : (x : Node) × (node_at s v o (o f) ≡ Some x) × (claimed s (Some x) ≡ Some f) = claim_row (node_at s v o (o f)) refl c in
            let y : (y : Node) × In (o f, y) acc = before (o f) x.0 x.1 e in
            let same : node_at s v o (o f) ≡ Some y.0 = sound o lead.follows (o f) y.0 y.1 in
            let cy : claimed s (Some y.0) ≡ Some f = ap (claimed s) (sym same) ∙ c in
            let l : (z : Path) × (first_claim s f acc ≡ Some z) × (is_gt (walk_cmp z (o f)) ≡ false) = first-least s f acc (o f) y.0 asc y.1 cy in
            let bad : ◌≡◌ {A = Option Path} None (Some l.0) = sym none ∙ l.1 in
            absurd (cc)

    pub leading_more : Leading (acc ++ row_of s v acc (m ∷ q) k)
    leading_more = record {
      follows = λ f r h. follow f r h (first_claim s f acc) refl;
      down = λ p x hx r h less. back p x hx r less (in_cases r acc (row_of s v acc (m ∷ q) k) h);
    }
      where
        follow : (f : List ℕ) (r : Path) → first_claim s f (acc ++ row_of s v acc (m ∷ q) k) ≡ Some r → (w : Option Path) → first_claim s f acc ≡ w → o f ≡ r
        follow f r h None e = new_follows f r e (sym (first-right s f acc (row_of s v acc (m ∷ q) k) e) ∙ h)
        follow f r h (Some z) e =
            let a : ◌≡◌ {A = Option Path} (Some z) (Some r) = sym (first-left s f acc (row_of s v acc (m ∷ q) k) z e) ∙ h in
            let b : z ≡ r = cc in
            lead.follows f z e ∙ b

        back : (p : Path) (x : Node) → node_at s v o p ≡ Some x → (r : Row) → walk_cmp p r.0 ≡ Less → In r acc ⊎ In r (row_of s v acc (m ∷ q) k) → (y : Node) × In (p, y) (acc ++ row_of s v acc (m ∷ q) k)
        back p x hx r less (inl h) = let a : (y : Node) × In (p, y) acc = lead.down p x hx r h less in (a.0, in_left (p, a.0) acc _ a.1)
        back p x hx r less (inr h) =
            let a : (y : Node) × In (p, y) acc = before p x hx (ap (walk_cmp p) (sym (row_path s v acc (m ∷ q) k r h)) ∙ less) in (a.0, in_left (p, a.0) acc _ a.1)

  -- the rows of a directory's entries, one by one
  module _ (j : List ℕ) (q : Path) (no_less : (a b : List ℕ) → slice_cmp nat_cmp a b ≡ Less → slice_cmp nat_cmp b a ≡ Less → ⊥) where
    abbrev Covered : List Row → List (List ℕ × Kind) → Type 0
    Covered acc es = (m : List ℕ) (k : Kind) → look s v j m ≡ Some k → k ≢ Bare → In (m, k) es ⊎ ((x : Node) × In (m ∷ q, x) acc)

    abbrev Earlier : List Row → Type 0
    Earlier acc = (m : List ℕ) (p : Path) (x : Node) → node_at s v o (m ∷ p) ≡ Some x → walk_cmp p q ≡ Less → (y : Node) × In (m ∷ p, y) acc

    pub record Ready (acc : List Row) (es : List (List ℕ × Kind)) : Type 0 where
      pub sound : Sound s v acc
      pub asc : Ascending row_cmp acc
      pub dir : In (q, Dir j) acc
      pub lead : Leading acc
      pub looks : (e : List ℕ × Kind) → In e es → look s v j e.0 ≡ Some e.1
      pub names : Ascending name_cmp es
      pub later : (e : List ℕ × Kind) → In e es → (p : Path) (x : Node) → In (p, x) acc → walk_cmp p (e.0 ∷ q) ≡ Less
      pub covered : Covered acc es
      pub earlier : Earlier acc
      pub root : In ([], Dir []) acc

    before_next : (acc : List Row) (e : List ℕ × Kind) (es : List (List ℕ × Kind)) → Ready acc (e ∷ es) → (p : Path) (x : Node) → node_at s v o p ≡ Some x → walk_cmp p (e.0 ∷ q) ≡ Less → (y : Node) × In (p, y) acc
    unfolding node_at
    before_next acc e es rd [] x h less = (Dir [], rd.root)
    before_next acc e es rd (a ∷ p) x h less = go (walk_cmp p q) refl less
      where
        is_q : walk_cmp p q ≡ Equal → slice_cmp nat_cmp a e.0 ≡ Less → (y : Node) × In (a ∷ p, y) acc
        is_q ew la = pick (below_some s v o (a ∷ p) a (node_at s v o p) x h)
          where
            choose : (k : Kind) → p ≡ q → In (a, k) (e ∷ es) ⊎ ((y : Node) × In (a ∷ q, y) acc) → (y : Node) × In (a ∷ p, y) acc
            choose k ep (inr c) = (c.0, subst (λ (z : Path). In (a ∷ z, c.0) acc) (sym ep) c.1)
            choose k ep (inl (inl is)) =
                let en : a ≡ e.0 = ap (λ (z : List ℕ × Kind). z.0) is in
                absurd (no_less a e.0 la (subst₂ (λ (y z : List ℕ). slice_cmp nat_cmp y z ≡ Less) en (sym en) la))
            choose k ep (inl (inr c)) = absurd (no_less a e.0 la (rd.names.0 (a, k) c))

            pick : ((i : List ℕ) × (node_at s v o p ≡ Some (Dir i)) × ((k : Kind) × (look s v i a ≡ Some k) × (k ≢ Bare))) → (y : Node) × In (a ∷ p, y) acc
            pick b =
                let ep : p ≡ q = walk_equal p q ew in
                let dq : node_at s v o q ≡ Some (Dir j) = rd.sound o rd.lead.follows q (Dir j) rd.dir in
                let both : ◌≡◌ {A = Option Node} (Some (Dir b.0)) (Some (Dir j)) = sym b.1 ∙ ap (node_at s v o) ep ∙ dq in
                let ej : b.0 ≡ j = cc in
                let found : In (a, b.2.0) (e ∷ es) ⊎ ((y : Node) × In (a ∷ q, y) acc) = rd.covered a b.2.0 (ap (λ (z : List ℕ). look s v z a) (sym ej) ∙ b.2.1) b.2.2 in
                choose b.2.0 ep found

        go : (w : Ordering) → walk_cmp p q ≡ w → ordering_then w (slice_cmp nat_cmp a e.0) ≡ Less → (y : Node) × In (a ∷ p, y) acc
        go Less ew l = rd.earlier a p x h ew
        go Equal ew l = is_q ew l
        go Greater ew l = absurd (cc)

    more_ready : (acc : List Row) (e : List ℕ × Kind) (es : List (List ℕ × Kind)) → Ready acc (e ∷ es) → Ready (acc ++ row_of s v acc (e.0 ∷ q) e.1) es
    more_ready acc e es rd = record {
      sound = sound_more s v acc q j e.0 rd.sound rd.dir (rd.later e (inl refl)) e.1 (rd.looks e (inl refl));
      asc = ascending_append row_cmp acc (row_of s v acc (e.0 ∷ q) e.1) rd.asc (row_ascending s v acc (e.0 ∷ q) e.1)
          (λ x y hx hy. subst (λ (z : Path). walk_cmp x.0 z ≡ Less) (sym (row_path s v acc (e.0 ∷ q) e.1 y hy)) (rd.later e (inl refl) x.0 x.1 hx));
      dir = in_left (q, Dir j) acc _ rd.dir;
      lead = leading_more acc q j e.0 e.1 rd.sound rd.asc rd.dir (rd.looks e (inl refl)) rd.lead (before_next acc e es rd);
      looks = λ f h. rd.looks f (inr h);
      names = rd.names.1;
      later = λ f h p x i. late f h p x (in_cases (p, x) acc (row_of s v acc (e.0 ∷ q) e.1) i);
      covered = λ m k l nb. cover m k (rd.covered m k l nb) nb;
      earlier = λ m p x h l. let a : (y : Node) × In (m ∷ p, y) acc = rd.earlier m p x h l in (a.0, in_left (m ∷ p, a.0) acc _ a.1);
      root = in_left ([], Dir []) acc _ rd.root;
    }
      where
        late : (f : List ℕ × Kind) → In f es → (p : Path) (x : Node) → In (p, x) acc ⊎ In (p, x) (row_of s v acc (e.0 ∷ q) e.1) → walk_cmp p (f.0 ∷ q) ≡ Less
        late f h p x (inl i) = rd.later f (inr h) p x i
        late f h p x (inr i) = ap (λ (z : Path). walk_cmp z (f.0 ∷ q)) (row_path s v acc (e.0 ∷ q) e.1 (p, x) i)
            ∙ ap (λ (r : Ordering). ordering_then r (slice_cmp nat_cmp e.0 f.0)) (walk_itself q) ∙ rd.names.0 f h

        cover : (m : List ℕ) (k : Kind) → In (m, k) (e ∷ es) ⊎ ((x : Node) × In (m ∷ q, x) acc) → k ≢ Bare → In (m, k) es ⊎ ((x : Node) × In (m ∷ q, x) (acc ++ row_of s v acc (e.0 ∷ q) e.1))
        cover m k (inr c) nb = inr (c.0, in_left (m ∷ q, c.0) acc _ c.1)
        cover m k (inl (inr h)) nb = inl h
        cover m k (inl (inl is)) nb =
            let a : (x : Node) × In (e.0 ∷ q, x) (row_of s v acc (e.0 ∷ q) e.1) = row_there s v acc (e.0 ∷ q) e.1 (λ z. nb (ap (λ (y : List ℕ × Kind). y.1) is ∙ z)) in
            inr (a.0, subst (λ (z : List ℕ × Kind). In (z.0 ∷ q, a.0) (acc ++ row_of s v acc (e.0 ∷ q) e.1)) (sym is) (in_right (e.0 ∷ q, a.0) acc _ a.1))

    pub kids_lead : (acc : List Row) (es : List (List ℕ × Kind)) → Ready acc es → Leading (acc ++ kids s v acc q es)
    kids_lead acc [] rd = subst Leading (sym (append-nil acc)) rd.lead
    kids_lead acc (e ∷ es) rd =
        subst Leading (append_assoc acc (row_of s v acc (e.0 ∷ q) e.1) (kids s v (acc ++ row_of s v acc (e.0 ∷ q) e.1) q es))
        (kids_lead (acc ++ row_of s v acc (e.0 ∷ q) e.1) es (more_ready acc e es rd))

  -- a walk under way
  no_less_names : (a b : List ℕ) → slice_cmp nat_cmp a b ≡ Less → slice_cmp nat_cmp b a ≡ Less → ⊥
  no_less_names a b h k = let e : slice_cmp nat_cmp a b ≡ ordering_reverse (slice_cmp nat_cmp b a) = nat_list_cmp_total.antisymm a b in
      let f : ordering_reverse (slice_cmp nat_cmp b a) ≡ Greater = ap ordering_reverse k in cc

  below_parent : (m : List ℕ) (p : Path) (x : Node) → node_at s v o (m ∷ p) ≡ Some x →
      (i : List ℕ) × (node_at s v o p ≡ Some (Dir i)) × ((k : Kind) × (look s v i m ≡ Some k) × (k ≢ Bare))
  unfolding node_at
  below_parent m p x h = below_some s v o (m ∷ p) m (node_at s v o p) x h

  module _ (done todo : List Row) (r : Row) (es : List (List ℕ × Kind)) (are : AreEntriesOf s v r.1 es) (w : Walked s v done (r ∷ todo)) (lead : Leading (done ++ r ∷ todo)) where
    abbrev acc : List Row
    acc = done ++ r ∷ todo

    -- what is before the row in hand is done
    done_before : (p : Path) (x : Node) → node_at s v o p ≡ Some x → walk_cmp p r.0 ≡ Less → (y : Node) × In (p, y) done
    done_before p x h less =
        let a : (y : Node) × In (p, y) acc = lead.down p x h r (in_right r done (r ∷ todo) (inl refl)) less in
        (a.0, go a.0 (in_cases (p, a.0) done (r ∷ todo) a.1))
      where
        go : (y : Node) → In (p, y) done ⊎ In (p, y) (r ∷ todo) → In (p, y) done
        go y (inl i) = i
        go y (inr (inl is)) = let e : walk_cmp p r.0 ≡ Equal = ap (λ (z : Row). walk_cmp z.0 r.0) is ∙ walk_itself r.0 in absurd (cc)
        go y (inr (inr i)) =
            let g : walk_cmp r.0 p ≡ Less = (ascending_right row_cmp done (r ∷ todo) w.ascending).0 (p, y) i in
            let e : walk_cmp p r.0 ≡ ordering_reverse (walk_cmp r.0 p) = walk_antisymm p r.0 in
            let f : ordering_reverse (walk_cmp r.0 p) ≡ Greater = ap ordering_reverse g in
            absurd (cc)

    pub next_lead : Leading (acc ++ kids s v acc r.0 es)
    next_lead = go r.1 refl are
      where
        late : (m : List ℕ) (p : Path) (x : Node) → In (p, x) acc → walk_cmp p (m ∷ r.0) ≡ Less
        late m [] x h = refl
        late m (a ∷ p) x h =
            let y : (y : Node) × In (p, y) done = w.parents a p x h in
            ap (λ (u : Ordering). ordering_then u (slice_cmp nat_cmp a m)) (ascending_split row_cmp done (r ∷ todo) w.ascending (p, y.0) r y.1 (inl refl))

        early : (m : List ℕ) (p : Path) (x : Node) → node_at s v o (m ∷ p) ≡ Some x → walk_cmp p r.0 ≡ Less → (y : Node) × In (m ∷ p, y) acc
        early m p x h l = pick (below_parent m p x h)
          where
            pick : ((i : List ℕ) × (node_at s v o p ≡ Some (Dir i)) × ((k : Kind) × (look s v i m ≡ Some k) × (k ≢ Bare))) → (y : Node) × In (m ∷ p, y) acc
            pick b =
                let d : (y : Node) × In (p, y) done = done_before p (Dir b.0) b.1 l in
                let same : node_at s v o p ≡ Some d.0 = w.sound o lead.follows p d.0 (in_left (p, d.0) done (r ∷ todo) d.1) in
                let is : Dir b.0 ≡ d.0 = cc in
                w.closed p b.0 m b.2.0 (subst (λ (z : Node). In (p, z) done) (sym is) d.1) b.2.1 b.2.2

        no_kids : es ≡ [] → Leading (acc ++ kids s v acc r.0 es)
        no_kids none = subst (λ (z : List (List ℕ × Kind)). Leading (acc ++ kids s v acc r.0 z)) (sym none) (subst Leading (sym (append-nil acc)) lead)

        go : (x : Node) → r.1 ≡ x → AreEntriesOf s v x es → Leading (acc ++ kids s v acc r.0 es)
        go (File c) e entries = no_kids entries
        go (Link c) e entries = no_kids entries
        go (Bad t) e entries = no_kids entries
        go (Dir j) e entries = kids_lead j r.0 no_less_names acc es (record {
          sound = w.sound;
          asc = w.ascending;
          dir = subst (λ (z : Node). In (r.0, z) acc) e (in_right r done (r ∷ todo) (inl refl));
          lead = lead;
          looks = entries.sound;
          names = entries.ascending;
          later = λ f h p x i. late f.0 p x i;
          covered = λ m k l nb. inl (entries.complete m k l nb);
          earlier = λ m p x h l. early m p x h l;
          root = w.root;
        })

  begun_lead : Leading (([], Dir []) ∷ [])
  unfolding node_at
  begun_lead = record {
    follows = λ f r h. go f r (claims (Some (s.folder_of [])) f) refl h;
    down = λ q x hx r h less. absurd (none q r h less);
  }
    where
      go : (f : List ℕ) (r : Path) (b : Bool) → claims (Some (s.folder_of [])) f ≡ b → cond b (Some []) None ≡ Some r → o f ≡ r
      go f r true e h =
          let c : claimed s (node_at s v o []) ≡ Some f = claims-true (Some (s.folder_of [])) f e in
          let z : [] ≡ r = cc in
          root_first (o f) (own.first [] f c) ∙ z
      go f r false e h = absurd (cc)

      none : (q : Path) (r : Row) → In r (([], Dir []) ∷ []) → walk_cmp q r.0 ≡ Less → ⊥
      none q r (inr i) less = i
      none [] r (inl is) less = let e : walk_cmp [] r.0 ≡ Equal = ap (λ (z : Row). walk_cmp [] z.0) is in cc
      none (m ∷ q) r (inl is) less = let e : walk_cmp (m ∷ q) r.0 ≡ Greater = ap (λ (z : Row). walk_cmp (m ∷ q) z.0) is in cc

  led : (done todo : List Row) → IsWalk s v done todo → Leading (done ++ todo)
  led d t Begun = begun_lead
  led d t (Turned done todo r es are walk) =
      subst Leading (sym (same_rows s v done todo r es are (walked s v done (r ∷ todo) walk)))
      (next_lead done todo r es are (walked s v done (r ∷ todo) walk) (led done (r ∷ todo) walk))

  pub walk_rows : (done todo : List Row) → IsWalk s v done todo → (q : Path) (x : Node) → In (q, x) (done ++ todo) → node_at s v o q ≡ Some x
  walk_rows done todo walk q x h = (walked s v done todo walk).sound o (led done todo walk).follows q x h
