-- What one more entry adds to the nodes and the mark of those before it.
use Rattle.std.proofs.Common.{◌≡◌, ◌≢◌, ◌↔◌, ℕ, Bool, true, false, cond, List, [], ◌∷◌, ◌++◌, Option, Some, None, IsSome, IsTrue, Contains, inl, inr, refl, sym, ap, subst, ◌∙◌, append_assoc}
use Rattle.std.specs.Ordering.{nat_cmp}
use Rattle.std.specs.Cmp.{eq_by_cmp_equiv}
use Rattle.std.specs.Cmp.Lexicographic.{slice_cmp, nat_list_cmp_total}
use Rattle.std.specs.BTreeMap.{is_at}
use Rattle.std.proofs.lemmas.Bool.{cases_Bool}
use Rattle.std.proofs.lemmas.Option.{same_Some}
use Rattle.std.proofs.lemmas.Map.Lookups.{exact_bytes}
use Rattle.std.proofs.lemmas.Map.Views.{tells_apart}
use Rattle.std.proofs.lemmas.List.Elements.{Contains-push, Contains-push_cases, Contains-append_left}
use Rattle.outside.specs.Disk.{Disk}
use Rattle.outside.specs.Calls.{Told}
use Rattle.outside.specs.Images.{Log, disk_in}
use Rattle.outside.proofs.Told.{told_both}
use Rattle.clear_tree.specs.Walk.{Sealing, Kind, Bare, look}
use Rattle.clear_tree.specs.Places.{folders_of, entry_of}
use Rattle.clear_tree.specs.Marks.{IsNodeEntry, IsForeign}
use Rattle.clear_tree.specs.Scan.{IsFound, ShowsAs}
use Rattle.tree_loading.specs.declared.found.FoundNode.{FoundNode}
use Rattle.tree_loading.specs.declared.entry.Entry.{Entry}
use Rattle.tree_loading.specs.declared.entry.Entry.TheVariants.{Node, Taken, Foreign, Copy}
use Rattle.tree_loading.specs.Ciphers.{AreCiphers}
use Rattle.tree_loading.specs.Scanned.{shown_of, found_of}
use Rattle.tree_loading.specs.Entries.{IsNodeOf, IsEntry, IsReadable, AreThere, HasNoNode, node_named, IsGathered}
use Rattle.tree_loading.proofs.Cases.{one_name}

abbrev Nodes : Type 0
Nodes = List (List ℕ × FoundNode)

itself : (name : List ℕ) → is_at (slice_cmp nat_cmp name) name ≡ true
itself name = (eq_by_cmp_equiv nat_list_cmp_total).refl name

not_bare : (kind : Kind) (node : FoundNode) → ShowsAs kind (shown_of node.shown) → kind ≢ Bare
not_bare kind node shows e = subst (λ (k : Kind). ShowsAs k (shown_of node.shown)) e shows

module _ (s : Sealing) (laws : AreCiphers s) (d : Disk) (i : List ℕ) (entries : List (List ℕ)) (u : List ℕ) where
  abbrev Completes : Nodes → List (List ℕ) → Type 0
  Completes nodes among = (name : List ℕ) (kind : Kind) → look s (folders_of s d) i name ≡ Some kind → kind ≢ Bare → Contains among (entry_of s d (s.folder_of i) (s.seal i name)) → IsSome (node_named nodes name)

  marked_more : (b : Bool) → (IsForeign s d i u → ⊥)
      → IsTrue b ↔ ((e : List ℕ) × Contains entries e × IsForeign s d i e)
      → IsTrue b ↔ ((e : List ℕ) × Contains (entries ++ u ∷ []) e × IsForeign s d i e)
  marked_more b not_foreign marked = (
    λ is. let found = marked.0 is in (found.0, Contains-append_left entries (u ∷ []) found.0 found.1, found.2),
    λ found. elim (Contains-push_cases entries u found.0 found.1) [
      | inl old ↦ marked.1 (found.0, old, found.2)
      | inr same ↦ absurd (not_foreign (subst (λ (e : List ℕ). IsForeign s d i e) (sym same) found.2))
    ],
  )

  complete_more : (nodes : Nodes) → (IsNodeEntry s d i u → ⊥) → Completes nodes entries → Completes nodes (entries ++ u ∷ [])
  complete_more nodes none complete name kind shown known among =
      elim (Contains-push_cases entries u (entry_of s d (s.folder_of i) (s.seal i name)) among) [
        | inl old ↦ complete name kind shown known old
        | inr same ↦ absurd (none (record { name = name; kind = kind; shown = shown; known = known; place = same }))
      ]

  gathered_foreign : (nodes : Nodes) (b : Bool) → IsForeign s d i u → IsGathered s d i entries nodes b → IsGathered s d i (entries ++ u ∷ []) nodes true
  gathered_foreign nodes b foreign so_far = record {
    sound = so_far.sound;
    complete = complete_more nodes foreign.no_node so_far.complete;
    marked = (λ is. (u, Contains-push entries u, foreign), λ found. refl);
  }

  gathered_copy : (nodes : Nodes) (b : Bool) → (IsForeign s d i u → ⊥) → (IsNodeEntry s d i u → ⊥) → IsGathered s d i entries nodes b → IsGathered s d i (entries ++ u ∷ []) nodes b
  gathered_copy nodes b not_foreign none so_far = record {
    sound = so_far.sound;
    complete = complete_more nodes none so_far.complete;
    marked = marked_more b not_foreign so_far.marked;
  }

  module _ (nodes more : Nodes) (b : Bool) (name : List ℕ) (node : FoundNode)
      (is : IsNodeOf s d i u (found_of (name, node)))
      (adds : (q : List ℕ) → node_named more q ≡ cond (is_at (slice_cmp nat_cmp name) q) (Some node) (node_named nodes q))
      (so_far : IsGathered s d i entries nodes b) where
    abbrev this_node : IsNodeEntry s d i u
    this_node = record {
      name = name;
      kind = is.is.kind;
      shown = is.is.looked;
      known = not_bare is.is.kind node is.is.shows;
      place = sym is.place ∙ is.is.entry;
    }

    added : (q : List ℕ) → is_at (slice_cmp nat_cmp name) q ≡ true → node_named more q ≡ Some node
    added q here = adds q ∙ ap (λ (t : Bool). cond t (Some node) (node_named nodes q)) here

    kept : (q : List ℕ) → is_at (slice_cmp nat_cmp name) q ≡ false → node_named more q ≡ node_named nodes q
    kept q other = adds q ∙ ap (λ (t : Bool). cond t (Some node) (node_named nodes q)) other

    sound : (q : List ℕ) (n : FoundNode) → node_named more q ≡ Some n → IsFound s d i (found_of (q, n))
    sound q n found = elim (cases_Bool (is_at (slice_cmp nat_cmp name) q)) [
      | inl here ↦
          let same : name ≡ q = tells_apart exact_bytes name q here in
          let one : node ≡ n = same_Some node n (sym (added q here) ∙ found) in
          subst (λ (x : FoundNode). IsFound s d i (found_of (q, x))) one (subst (λ (x : List ℕ). IsFound s d i (found_of (x, node))) same is.is)
      | inr other ↦ so_far.sound q n (sym (kept q other) ∙ found)
    ]

    complete : (q : List ℕ) (kind : Kind) → look s (folders_of s d) i q ≡ Some kind → kind ≢ Bare → Contains (entries ++ u ∷ []) (entry_of s d (s.folder_of i) (s.seal i q)) → IsSome (node_named more q)
    complete q kind shown known among = elim (cases_Bool (is_at (slice_cmp nat_cmp name) q)) [
      | inl here ↦ subst IsSome (sym (added q here)) refl
      | inr other ↦ elim (Contains-push_cases entries u (entry_of s d (s.folder_of i) (s.seal i q)) among) [
        | inl old ↦ subst IsSome (sym (kept q other)) (so_far.complete q kind shown known old)
        | inr this ↦
            let same : name ≡ q = one_name s laws d i u this_node (record { name = q; kind = kind; shown = shown; known = known; place = this }) in
            let here : is_at (slice_cmp nat_cmp name) q ≡ true = subst (λ (n : List ℕ). is_at (slice_cmp nat_cmp name) n ≡ true) same (itself name) in
            absurd (cc (here, other))
      ]
    ]

    gathered_node : IsGathered s d i (entries ++ u ∷ []) more b
    gathered_node = record {
      sound = sound;
      complete = complete;
      marked = marked_more b (λ foreign. foreign.no_node this_node) so_far.marked;
    }

-- the list of what was taken so far, with one more
pub one_more : {X : Type 0} (before : List X) (x : X) (old rest all : List X) → old ≡ x ∷ rest → before ++ old ≡ all → before ++ x ∷ [] ++ rest ≡ all
one_more before x old rest all first split = append_assoc before (x ∷ []) rest ∙ ap (λ xs. before ++ xs) (sym first) ∙ split

module _ (begun now : Option Log) (stayed : now ≡ begun) (s : Sealing) (laws : AreCiphers s) (i : List ℕ) (entries before old after : List (List ℕ)) (u : List ℕ) (nodes : Nodes) (b : Bool) (e : Entry)
    (first : old ≡ u ∷ after) (split : before ++ old ≡ entries)
    (so_far : Told (disk_in begun) (λ d. AreThere s d i entries → IsGathered s d i before nodes b))
    (told : Told (disk_in now) (λ d. IsReadable s d i u e)) where
  -- one entry more, if what is told of it carries on what was gathered
  told_more : (more : Nodes) (mark : Bool)
      → ((d : Disk) → IsEntry s d i u e → IsGathered s d i before nodes b → IsGathered s d i (before ++ u ∷ []) more mark)
      → Told (disk_in begun) (λ d. AreThere s d i entries → IsGathered s d i (before ++ u ∷ []) more mark)
  told_more more mark step =
      told_both (disk_in begun) (λ d. AreThere s d i entries → IsGathered s d i before nodes b)
      (λ d. IsReadable s d i u e)
      (λ d. AreThere s d i entries → IsGathered s d i (before ++ u ∷ []) more mark) so_far
      (subst (λ (l : Option Log). Told (disk_in l) (λ d. IsReadable s d i u e)) stayed told)
      (λ d gathered is there.
      let among : Contains entries u =
      subst (λ (ns : List (List ℕ)). Contains ns u) (one_more before u old after entries first split)
      (Contains-append_left (before ++ u ∷ []) after u (Contains-push before u)) in
      step d (is (there u among)) (gathered there))

  pub told_node : (more : Nodes) (name : List ℕ) (node : FoundNode) → e ≡ Node name node
      → ((q : List ℕ) → node_named more q ≡ cond (is_at (slice_cmp nat_cmp name) q) (Some node) (node_named nodes q))
      → Told (disk_in begun) (λ d. AreThere s d i entries → IsGathered s d i (before ++ u ∷ []) more b)
  told_node more name node is adds = told_more more b (λ d entry_is gathered.
      gathered_node s laws d i before u nodes more b name node (subst (λ (x : Entry). IsEntry s d i u x) is entry_is) adds gathered)

  pub told_foreign : e ≡ Foreign → Told (disk_in begun) (λ d. AreThere s d i entries → IsGathered s d i (before ++ u ∷ []) nodes true)
  told_foreign is = told_more nodes true (λ d entry_is gathered.
      gathered_foreign s laws d i before u nodes b (subst (λ (x : Entry). IsEntry s d i u x) is entry_is) gathered)

  pub told_taken : (name : List ℕ) → e ≡ Taken name → Told (disk_in begun) (λ d. AreThere s d i entries → IsGathered s d i (before ++ u ∷ []) nodes true)
  told_taken name is = told_more nodes true (λ d entry_is gathered.
      let found = subst (λ (x : Entry). IsEntry s d i u x) is entry_is in
      gathered_foreign s laws d i before u nodes b found.0 gathered)

  -- and one name more that is taken
  pub told_names : (names more : List (List ℕ)) (name : List ℕ) → e ≡ Taken name → more ≡ names ++ name ∷ []
      → Told (disk_in begun) (λ d. AreThere s d i entries → (n : List ℕ) → Contains names n → HasNoNode s d i n)
      → Told (disk_in begun) (λ d. AreThere s d i entries → (n : List ℕ) → Contains more n → HasNoNode s d i n)
  told_names names more name is pushed were =
      told_both (disk_in begun) (λ d. AreThere s d i entries → (n : List ℕ) → Contains names n → HasNoNode s d i n)
      (λ d. IsReadable s d i u e)
      (λ d. AreThere s d i entries → (n : List ℕ) → Contains more n → HasNoNode s d i n) were
      (subst (λ (l : Option Log). Told (disk_in l) (λ d. IsReadable s d i u e)) stayed told)
      (λ d none readable there n among.
      let inside : Contains entries u =
      subst (λ (ns : List (List ℕ)). Contains ns u) (one_more before u old after entries first split)
      (Contains-append_left (before ++ u ∷ []) after u (Contains-push before u)) in
      let found = subst (λ (x : Entry). IsEntry s d i u x) is (readable (there u inside)) in
      elim (Contains-push_cases names name n (subst (λ (ns : List (List ℕ)). Contains ns n) pushed among)) [
        | inl was ↦ none there n was
        | inr same ↦ subst (λ (x : List ℕ). HasNoNode s d i x) same found.1
      ])

  pub told_copy : e ≡ Copy → Told (disk_in begun) (λ d. AreThere s d i entries → IsGathered s d i (before ++ u ∷ []) nodes b)
  told_copy is = told_more nodes b (λ d entry_is gathered.
      let found = subst (λ (x : Entry). IsEntry s d i u x) is entry_is in
      gathered_copy s laws d i before u nodes b found.0 found.1 gathered)

-- ---- nodes that are left out

cond_some : (b : Bool) (x : Option FoundNode) (node : FoundNode) → cond b None x ≡ Some node → x ≡ Some node
cond_some true x node h = absurd cc
cond_some false x node h = h

module _ (old new : Nodes) (name : List ℕ) (out : (q : List ℕ) → node_named new q ≡ cond (is_at (slice_cmp nat_cmp name) q) None (node_named old q)) where
  pub out_fewer : (q : List ℕ) (node : FoundNode) → node_named new q ≡ Some node → node_named old q ≡ Some node
  out_fewer q node is = cond_some (is_at (slice_cmp nat_cmp name) q) (node_named old q) node (sym (out q) ∙ is)

  pub out_others : (q : List ℕ) → name ≢ q → node_named new q ≡ node_named old q
  out_others q other = elim (cases_Bool (is_at (slice_cmp nat_cmp name) q)) [
    | inl here ↦ absurd (other (tells_apart exact_bytes name q here))
    | inr away ↦ out q ∙ ap (λ (t : Bool). cond t None (node_named old q)) away
  ]

-- the nodes without those of names that no node has are the same
pub told_left : (contents : Option Disk) (s : Sealing) (i : List ℕ) (entries all taken : List (List ℕ)) (nodes less : Nodes) (b : Bool) → all ≡ entries
    → ((q : List ℕ) (node : FoundNode) → node_named less q ≡ Some node → node_named nodes q ≡ Some node)
    → ((q : List ℕ) → ¬ Contains taken q → node_named less q ≡ node_named nodes q)
    → Told contents (λ d. AreThere s d i entries → IsGathered s d i all nodes b)
    → Told contents (λ d. AreThere s d i entries → (n : List ℕ) → Contains taken n → HasNoNode s d i n)
    → Told contents (λ d. AreThere s d i entries → IsGathered s d i entries less b)
told_left contents s i entries all taken nodes less b whole fewer others gathered none =
    told_both contents (λ d. AreThere s d i entries → IsGathered s d i all nodes b)
    (λ d. AreThere s d i entries → (n : List ℕ) → Contains taken n → HasNoNode s d i n)
    (λ d. AreThere s d i entries → IsGathered s d i entries less b) gathered none
    (λ d g no there. subst (λ (es : List (List ℕ)). IsGathered s d i es less b) whole (record {
      sound = λ name node is. (g there).sound name node (fewer name node is);
      complete = λ name kind shown known among. subst IsSome (sym (others name (λ inside. no there name inside kind shown known))) ((g there).complete name kind shown known among);
      marked = (g there).marked;
    }))
