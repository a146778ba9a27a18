-- One turn of a load.
use Rattle.std.proofs.Common.{◌≡◌, ◌≢◌, ℕ, zero, suc, ◌+◌, ◌-◌, ◌<◌, ◌≤◌, Bool, List, [], ◌∷◌, ◌++◌, length, Option, Some, None, IsErrOf, Err, refl, sym, ap, ◌∙◌, subst, inl, inr, ◌⊎◌, arith, slice_get}
use Rattle.std.proofs.lemmas.List.{length-map}
use Rattle.outside.specs.Disk.{Disk, IsFolder}
use Rattle.outside.specs.Calls.{Told}
use Rattle.outside.proofs.Told.{told_then, told_both, told_always}
use Rattle.vault_keys.specs.Keys.{KeyPair}
use Rattle.clear_tree.specs.Walk.{Node, File, Link, Dir, Bad}
use Rattle.clear_tree.specs.Places.{folders_of, host_folder}
use Rattle.clear_tree.specs.Marks.{HasForeign}
use Rattle.clear_tree.specs.Queue.{Row, AreEntriesOf}
use Rattle.clear_tree.specs.Kept.{What, KeptDir, KeptNode, KeptTree, folder_in, node_of, what_of}
use Rattle.clear_tree.specs.Built.{marked_at, with_foreign}
use Rattle.clear_tree.specs.Scan.{Found, IsScanned}
use Rattle.clear_tree.specs.Loading.{IsLoading, AreAdded, HasNodes}
use Rattle.clear_tree.proofs.Places.{in_at, get_there}
use Rattle.clear_tree.proofs.Turns.{IsNext, IsMarked, next_row, what_is, opened, turn_dir, turn_other, too_many, folder_present, nat_cases}
use Rattle.tree_loading.specs.Format.{sealing_of}
use Rattle.tree_loading.specs.declared.found.FoundNode.{FoundNode}
use Rattle.tree_loading.specs.Scanned.{ScannedFolder, all_found, found_of}
use Rattle.tree_loading.specs.declared.load_fault.LoadErr.TheVariants.{TooMany}
use Rattle.tree_loading.specs.declared.nodes.Loading.{Loading}
use Rattle.tree_model.specs.Step.{node_limit}
use Rattle.tree_loading.specs.Under.{is_claimed, HasFolder, HasOwnFolder, IsReady}
use Rattle.tree_loading.specs.Added.{AddsAll}
use Rattle.tree_loading.specs.Turned.{HasRoot, GoesOn, IsScanAt, IsNoDirectory, FindsTooMany}

-- ---- a mark more

length-marked : (number : ℕ) (b : Bool) (nodes : List KeptNode) → length (marked_at number b nodes) ≡ length nodes
length-marked number b [] = refl
length-marked zero b (n ∷ nodes) = refl
length-marked (suc number) b (n ∷ nodes) = ap suc (length-marked number b nodes)

marked_other : (number : ℕ) (b : Bool) (nodes : List KeptNode) (k : ℕ) (node : KeptNode) → k ≢ number → slice_get (marked_at number b nodes) k ≡ Some node → slice_get nodes k ≡ Some node
marked_other number b [] k node ne h = h
marked_other zero b (n ∷ nodes) zero node ne h = absurd (ne refl)
marked_other zero b (n ∷ nodes) (suc k) node ne h = h
marked_other (suc number) b (n ∷ nodes) zero node ne h = h
marked_other (suc number) b (n ∷ nodes) (suc k) node ne h = marked_other number b nodes k node (λ e. ne (ap suc e)) h

marked_this : (number : ℕ) (b : Bool) (nodes : List KeptNode) (node : KeptNode) → slice_get (marked_at number b nodes) number ≡ Some node → (was : KeptNode) × (slice_get nodes number ≡ Some was) × (node ≡ record was { foreign = b })
marked_this number b [] node h = absurd (cc)
marked_this zero b (n ∷ nodes) node h = let e : record n { foreign = b } ≡ node = cc in (n, refl, sym e)
marked_this (suc number) b (n ∷ nodes) node h = marked_this number b nodes node h

pub is_marked : (number : ℕ) (b : Bool) (nodes : List KeptNode) → IsMarked nodes (marked_at number b nodes) number b
is_marked number b nodes = record {
  count = length-marked number b nodes;
  others = λ k node ne h. marked_other number b nodes k node ne h;
  one = λ node h. marked_this number b nodes node h;
}

-- a node with a mark is the one of before in all else
record WasSo (nodes : List KeptNode) (k : ℕ) (node : KeptNode) : Type 0 where
  was : KeptNode
  at : slice_get nodes k ≡ Some was
  parent : node.parent ≡ was.parent
  what : node.what ≡ was.what

was_so : (number : ℕ) (b : Bool) (nodes : List KeptNode) (k : ℕ) (node : KeptNode) → slice_get (marked_at number b nodes) k ≡ Some node → WasSo nodes k node
was_so number b nodes k node h = go (nat_cases k number)
  where
    go : (k ≡ number) ⊎ (k ≢ number) → WasSo nodes k node
    go (inr ne) = record { was = node; at = marked_other number b nodes k node ne h; parent = refl; what = refl }
    go (inl e) =
        let w : (was : KeptNode) × (slice_get nodes number ≡ Some was) × (node ≡ record was { foreign = b }) = marked_this number b nodes node (ap (slice_get (marked_at number b nodes)) (sym e) ∙ h) in
        record { was = w.0; at = ap (slice_get nodes) e ∙ w.1; parent = ap (λ (n : KeptNode). n.parent) w.2; what = ap (λ (n : KeptNode). n.what) w.2 }

pub marked_ready : (keys : KeyPair) (tree new : KeptTree) (number turn : ℕ) (b : Bool) → new ≡ with_foreign tree number b → IsReady keys tree turn → IsReady keys new turn
marked_ready keys tree new number turn b is ready = subst (λ (t : KeptTree). IsReady keys t turn) (sym is) (record {
  few = (let l : length (marked_at number b tree.nodes) ≡ length tree.nodes = length-marked number b tree.nodes in let f : length tree.nodes ≤ node_limit = ready.few in omega (arith, l, f));
  before = λ last h below.
      let l : length (marked_at number b tree.nodes) ≡ length tree.nodes = length-marked number b tree.nodes in
      let w : WasSo tree.nodes (length (marked_at number b tree.nodes) - 1) last = was_so number b tree.nodes (length (marked_at number b tree.nodes) - 1) last h in
      let less : w.was.parent < turn = ready.before w.was (ap (λ (n : ℕ). slice_get tree.nodes (n - 1)) (sym l) ∙ w.at) (λ e. below (ap (λ (n : ℕ). n - 1) l ∙ e)) in
      let p : last.parent ≡ w.was.parent = w.parent in
      omega (arith, less, p);
  folders = λ k node h.
      let w : WasSo tree.nodes k node = was_so number b tree.nodes k node h in
      subst (HasOwnFolder keys) (sym w.what) (ready.folders k w.was w.at);
})

pub marked_longer : (old tree new : KeptTree) (number : ℕ) (b : Bool) → new ≡ with_foreign tree number b → length old.nodes ≤ length tree.nodes → length old.nodes ≤ length new.nodes
marked_longer old tree new number b is longer =
    let l : length (marked_at number b tree.nodes) ≡ length tree.nodes = length-marked number b tree.nodes in
    let e : length new.nodes ≡ length (marked_at number b tree.nodes) = ap (λ (t : KeptTree). length t.nodes) is in
    omega (arith, l, e, longer)

-- ---- on a disk

module _ (keys : KeyPair) (d : Disk) (number : ℕ) (old : Loading) (root : HasRoot keys d) (is : IsLoading (sealing_of keys) d number old.tree (is_claimed old.claims)) (late : number < length old.tree.nodes) where
  abbrev next : IsNext (sealing_of keys) d number old.tree (is_claimed old.claims)
  next = next_row (sealing_of keys) d number old.tree (is_claimed old.claims) is late

  abbrev rows : List Row
  rows = next.done ++ next.row ∷ next.todo

  present : (i : List ℕ) → slice_get rows number ≡ Some (next.row.0, Dir i) → IsFolder d (host_folder ((sealing_of keys).folder_of i))
  present i at = folder_present (sealing_of keys) d next.done (next.row ∷ next.todo) next.walk root next.row.0 i (in_at rows number (next.row.0, Dir i) at)

  module _ (scanned : ScannedFolder) (node : KeptNode) (i folder : List ℕ) (there : node_of old.tree number ≡ Some node) (what : node.what ≡ KeptDir i folder)
      (scan : IsFolder d (host_folder folder) → IsScanned (sealing_of keys) d i scanned.found scanned.foreign) where
    at_row : (slice_get rows number ≡ Some (next.row.0, Dir i)) × (folder ≡ (sealing_of keys).folder_of i)
    at_row = opened (sealing_of keys) d number old.tree (is_claimed old.claims) next node i folder there what

    is_scanned : IsScanned (sealing_of keys) d i scanned.found scanned.foreign
    is_scanned = scan (subst (λ (f : List ℕ). IsFolder d (host_folder f)) (sym at_row.1) (present i at_row.0))

    pub dir_turn : (mid : Loading) (tree : KeptTree) → AddsAll keys d number scanned.found old mid → tree ≡ with_foreign mid.tree number scanned.foreign → IsLoading (sealing_of keys) d (number + 1) tree (is_claimed mid.claims)
    dir_turn mid tree adds mark =
        let added : AreAdded (sealing_of keys) d rows number next.row.0 i scanned.found mid.tree (is_claimed mid.claims) = adds rows next.row.0 i next.loaded at_row.0 is_scanned.sound in
        let one : suc number ≡ number + 1 = omega arith in
        subst (λ (n : ℕ). IsLoading (sealing_of keys) d n tree (is_claimed mid.claims)) one
        (turn_dir (sealing_of keys) d number old.tree (is_claimed old.claims) next i scanned.found scanned.foreign mid.tree tree (is_claimed mid.claims) at_row.0 is_scanned added
        (subst (λ (t : KeptTree). IsMarked mid.tree.nodes t.nodes number scanned.foreign) (sym mark) (is_marked number scanned.foreign mid.tree.nodes)) (ap (λ (t : KeptTree). t.twice) mark))

    pub dir_many : (count : ℕ) → count ≤ length old.tree.nodes + length scanned.found → HasNodes (sealing_of keys) d count
    dir_many count many = too_many (sealing_of keys) d number old.tree (is_claimed old.claims) next i scanned.found scanned.foreign count at_row.0 is_scanned many

  no_dir : (x : Node) → folder_in (what_of (sealing_of keys) x) ≡ None → AreEntriesOf (sealing_of keys) (folders_of (sealing_of keys) d) x [] × (HasForeign (sealing_of keys) d (Some x) → ⊥)
  no_dir (File b) h = (refl, λ f. f)
  no_dir (Link b) h = (refl, λ f. f)
  no_dir (Bad t) h = (refl, λ f. f)
  no_dir (Dir i) h = absurd (cc)

  pub other_turn : IsNoDirectory old.tree number → IsLoading (sealing_of keys) d (number + 1) old.tree (is_claimed old.claims)
  other_turn none =
      let node : (node : KeptNode) × (slice_get old.tree.nodes number ≡ Some node) = get_there old.tree.nodes number late in
      let w : folder_in (what_of (sealing_of keys) next.row.1) ≡ None =
      ap folder_in (sym (what_is (sealing_of keys) d number old.tree (is_claimed old.claims) next node.0 node.1)) ∙ none node.0 node.1 in
      let both : AreEntriesOf (sealing_of keys) (folders_of (sealing_of keys) d) next.row.1 [] × (HasForeign (sealing_of keys) d (Some next.row.1) → ⊥) = no_dir next.row.1 w in
      let one : suc number ≡ number + 1 = omega arith in
      subst (λ (n : ℕ). IsLoading (sealing_of keys) d n old.tree (is_claimed old.claims)) one
      (turn_other (sealing_of keys) d number old.tree (is_claimed old.claims) next both.0 both.1)

-- ---- told

pub told_other : (contents : Option Disk) (keys : KeyPair) (number : ℕ) (old : Loading) → number < length old.tree.nodes → IsNoDirectory old.tree number → Told contents (λ d. GoesOn keys d number (number + 1) old old)
told_other contents keys number old late none = told_always contents _ (λ d root is. other_turn keys d number old root is late none)

pub told_dir : (contents now : Option Disk) (keys : KeyPair) (number : ℕ) (old mid : Loading) (tree : KeptTree) (scanned : ScannedFolder) → number < length old.tree.nodes → now ≡ contents → IsScanAt keys contents old.tree number scanned →
    Told now (λ d. AddsAll keys d number scanned.found old mid) → tree ≡ with_foreign mid.tree number scanned.foreign → Told contents (λ d. GoesOn keys d number (number + 1) old (record { tree = tree; claims = mid.claims }))
told_dir contents now keys number old mid tree scanned late same at adds mark =
    told_both contents _ _ _ at.told (subst (λ (o : Option Disk). Told o (λ d. AddsAll keys d number scanned.found old mid)) same adds)
    (λ d scan a root is. dir_turn keys d number old root is late scanned at.node at.identifier at.folder at.there at.what scan mid tree a mark)

pub told_many : (contents : Option Disk) (keys : KeyPair) (number count : ℕ) (old : Loading) (scanned : ScannedFolder) → number < length old.tree.nodes → IsScanAt keys contents old.tree number scanned →
    count ≤ length old.tree.nodes + length scanned.found → count ≡ suc node_limit → FindsTooMany keys contents number old count
told_many contents keys number count old scanned late at many is = (
  is,
  told_then contents _ _ at.told (λ d scan root loading. dir_many keys d number old root loading late scanned at.node at.identifier at.folder at.there at.what scan count many),
)

-- paths can be made of a directory's folder
pub own_path : (keys : KeyPair) (what : What) (identifier folder : List ℕ) → what ≡ KeptDir identifier folder → HasOwnFolder keys what → HasFolder keys identifier folder
own_path keys what identifier folder is has = subst (HasOwnFolder keys) is has

pub length-found : (nodes : List (List ℕ × FoundNode)) (scanned : ScannedFolder) → all_found nodes ≡ scanned.found → length scanned.found ≡ length nodes
length-found nodes scanned is = ap (λ (f : List Found). length f) (sym is) ∙ length-map nodes found_of

pub count_is : (n : ℕ) → IsErrOf {T = Unit {0}} (Err (TooMany 1048577)) (TooMany n) → n ≡ 1048577
count_is n is = cc

pub told_added : (contents now : Option Disk) (keys : KeyPair) (number : ℕ) (old mid : Loading) (tree : KeptTree) (scanned : ScannedFolder) (nodes : List (List ℕ × FoundNode)) (foreign : Bool) →
    number < length old.tree.nodes → now ≡ contents → IsScanAt keys contents old.tree number scanned → all_found nodes ≡ scanned.found → foreign ≡ scanned.foreign →
    Told now (λ d. AddsAll keys d number (all_found nodes) old mid) → tree ≡ with_foreign mid.tree number foreign → Told contents (λ d. GoesOn keys d number (number + 1) old (record { tree = tree; claims = mid.claims }))
told_added contents now keys number old mid tree scanned nodes foreign late same at found mark adds marked =
    told_dir contents now keys number old mid tree scanned late same at (subst (λ (f : List Found). Told now (λ d. AddsAll keys d number f old mid)) found adds)
    (marked ∙ ap (with_foreign mid.tree number) mark)
