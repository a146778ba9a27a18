-- The names of a walk, one at a time.
use Rattle.std.proofs.Common.{◌≡◌, ℕ, suc, ◌+◌, ◌*◌, ◌/◌, ◌%◌, ◌-◌, ◌≤◌, ◌<◌, List, [], ◌∷◌, ◌++◌, length, take, drop, set, slice_index, Option, Some, None, Result, Ok, Err, refl, sym, ap, subst, ◌∙◌, arith, length-append}
use Rattle.std.proofs.Math.Seq.{take-suc-set, drop-append_seam}
use Rattle.std.proofs.lemmas.List.{append-nil, append_assoc}
use Rattle.tree_model.specs.declared.refusal.Refusal.{Refusal}
use Rattle.tree_model.specs.declared.stat.Qid.{Qid}
use Rattle.tree_model.specs.Wire.{string}
use Rattle.tree_model.specs.Names.{AreNames, names_in, spelled_names}
use Rattle.live_tree.specs.Held.{HeldTree, IsTree}
use Rattle.tree_answers.specs.Walk.{IsWay, qid_at}
use Rattle.tree_answers.proofs.Walks.{Next, way_none, way_refused, way_more}

abbrev pub name_length : List ℕ → ℕ
name_length bytes = slice_index bytes 0 + 256 * slice_index bytes 1

abbrev pub first_name : List ℕ → List ℕ
first_name bytes = take (name_length bytes) (drop 2 bytes)

abbrev pub names_behind : List ℕ → List ℕ
names_behind bytes = drop (2 + name_length bytes) bytes

-- the first of several names is at the front
pub record HasName (n : ℕ) (bytes : List ℕ) : Type 0 where
  pub head : 2 ≤ length bytes
  pub whole : 2 + name_length bytes ≤ length bytes
  pub rest : AreNames n (names_behind bytes)
  pub names : names_in (suc n) bytes ≡ first_name bytes ∷ names_in n (names_behind bytes)

pub behind : (name rest bytes : List ℕ) (k : ℕ) → k ≡ length name → bytes ≡ string name ++ rest → drop (2 + k) bytes ≡ rest
behind name rest bytes k same e =
    let place : 2 + k ≡ suc (suc (length name)) = omega arith in
    ap (λ (n : ℕ). drop n bytes) place ∙ ap (drop (suc (suc (length name)))) e ∙ drop-append_seam name rest

pub HasName-first : (n : ℕ) (bytes : List ℕ) → AreNames (suc n) bytes → HasName n bytes
unfolding names_in
HasName-first n bytes is =
    let name : List ℕ = first_name bytes in
    let more : List (List ℕ) = names_in n (names_behind bytes) in
    let spelled : bytes ≡ string (first_name bytes) ++ spelled_names (names_in n (names_behind bytes)) = is.spelled in
    let low : slice_index bytes 0 ≡ length (first_name bytes) % 256 = ap (λ (xs : List ℕ). slice_index xs 0) spelled in
    let fits : length (first_name bytes) < 65536 = is.fit.0 in
    let high : slice_index bytes 1 ≡ length (first_name bytes) / 256 % 256 = ap (λ (xs : List ℕ). slice_index xs 1) spelled in
    let len : name_length bytes ≡ length (first_name bytes) = omega arith in
    let total : length bytes ≡ length (string (first_name bytes)) + length (spelled_names (names_in n (names_behind bytes))) =
    ap length spelled ∙ length-append (string name) (spelled_names more) in
    let count : length (first_name bytes ∷ names_in n (names_behind bytes)) ≡ suc n = is.count in
    record {
      head = omega arith;
      whole = omega arith;
      rest = record {
        spelled = behind name (spelled_names more) bytes (name_length bytes) len spelled;
        count = omega arith;
        fit = is.fit.1;
      };
      names = refl;
    }

-- the k-th of N names is at the front of what is left
pub HasName-left : (N k : ℕ) (bytes : List ℕ) → k < N → AreNames (N - k) bytes → HasName (N - (k + 1)) bytes
HasName-left N k bytes below is =
    let same : N - k ≡ suc (N - (k + 1)) = omega arith in
    HasName-first (N - (k + 1)) bytes (subst (λ (m : ℕ). AreNames m bytes) same is)

-- the next of N names, the k-th, was taken off the front
pub record IsSplit (N k : ℕ) (bytes name rest : List ℕ) : Type 0 where
  pub below : k < N
  pub are : AreNames (N - k) bytes
  pub name_is : name ≡ first_name bytes
  pub rest_is : rest ≡ names_behind bytes

names_left : {N k : ℕ} {bytes name rest : List ℕ} → IsSplit N k bytes name rest → names_in (N - k) bytes ≡ name ∷ names_in (N - (k + 1)) rest
names_left {N = N} {k = k} {bytes = bytes} {name = name} split =
    let same : N - k ≡ suc (N - (k + 1)) = omega (arith, split.below) in
    ap (λ (m : ℕ). names_in m bytes) same ∙ (HasName-left N k bytes split.below split.are).names
    ∙ ap (λ (n : List ℕ). n ∷ names_in (N - (k + 1)) (names_behind bytes)) (sym split.name_is)
    ∙ ap (λ (r : List ℕ). name ∷ names_in (N - (k + 1)) r) (sym split.rest_is)

pub names_after : {N k : ℕ} {bytes name rest : List ℕ} → IsSplit N k bytes name rest → AreNames (N - (k + 1)) rest
names_after {N = N} {k = k} {bytes = bytes} split = subst (λ (r : List ℕ). AreNames (N - (k + 1)) r) (sym split.rest_is) (HasName-left N k bytes split.below split.are).rest

-- ---- the way so far

-- whatever way goes on from a node along the names that are left, the whole way is that one after the nodes so far
abbrev pub GoesOn : HeldTree → ℕ → List (List ℕ) → ℕ → List (List ℕ) → List Qid → Type 0
GoesOn tree from names at left front = (qids : List Qid) (end : Option Refusal) → IsWay tree at left qids end → IsWay tree from names (front ++ qids) end

ended : (tree : HeldTree) (from : ℕ) (names : List (List ℕ)) (at : ℕ) (left : List (List ℕ)) (front : List Qid) (end : Option Refusal)
    → GoesOn tree from names at left front → IsWay tree at left [] end → IsWay tree from names front end
ended tree from names at left front end goes way = subst (λ (qs : List Qid). IsWay tree from names qs end) (append-nil front) (goes [] end way)

-- a walk along N names has come from one node to another by the first k of them, with these qids, and took the next name off the front
pub record IsOnWay (tree : HeldTree) (from : ℕ) (names : List (List ℕ)) (at N k : ℕ) (bytes name rest : List ℕ) (qids : List Qid)
    : Type 0 where
  pub split : IsSplit N k bytes name rest
  pub goes : GoesOn tree from names at (names_in (N - k) bytes) (take k qids)

pub ends_refused : {tree : HeldTree} {from : ℕ} {names : List (List ℕ)} {at N k : ℕ} {bytes name rest : List ℕ} {qids : List Qid}
    {next : Result ℕ Refusal} {refusal : Refusal}
    → IsOnWay tree from names at N k bytes name rest qids → Next tree at name next → next ≡ Err refusal
    → IsWay tree from names (take k qids) (Some refusal)
ends_refused {tree = tree} {from = from} {names = names} {at = at} {N = N} {k = k} {bytes = bytes} {name = name} {rest = rest}
    {qids = qids} {refusal = refusal} way led is =
    ended tree from names at (names_in (N - k) bytes) (take k qids) (Some refusal) way.goes
    (subst (λ (ns : List (List ℕ)). IsWay tree at ns [] (Some refusal)) (sym (names_left way.split))
    (way_refused tree at name (names_in (N - (k + 1)) rest) refusal (subst (λ (r : Result ℕ Refusal). Next tree at name r) is led)))

pub ends_whole : (tree : HeldTree) (from : ℕ) (names : List (List ℕ)) (at N k : ℕ) (bytes : List ℕ) (qids : List Qid)
    → k ≡ N → GoesOn tree from names at (names_in (N - k) bytes) (take k qids) → IsWay tree from names (take N qids) None
unfolding names_in
ends_whole tree from names at N k bytes qids all goes =
    let none : 0 ≡ N - k = omega arith in
    subst (λ (n : ℕ). IsWay tree from names (take n qids) None) all
    (ended tree from names at (names_in (N - k) bytes) (take k qids) None goes (subst (λ (m : ℕ). IsWay tree at (names_in m bytes) [] None) none (way_none tree at)))

-- a name leads from a node to another, and that one's qid
pub record LeadsTo (tree : HeldTree) (at : ℕ) (name : List ℕ) (node : ℕ) (q : Qid) : Type 0 where
  pub good : IsTree tree
  pub next : Result ℕ Refusal
  pub led : Next tree at name next
  pub is : next ≡ Ok node
  pub shown : qid_at tree node ≡ Some q

pub goes_further : {tree : HeldTree} {from : ℕ} {names : List (List ℕ)} {at N k : ℕ} {bytes name rest : List ℕ} {qids : List Qid}
    {node : ℕ} {q : Qid}
    → IsOnWay tree from names at N k bytes name rest qids → LeadsTo tree at name node q → k < length qids
    → GoesOn tree from names node (names_in (N - (k + 1)) rest) (take (k + 1) (set qids k q))
goes_further {tree = tree} {from = from} {names = names} {at = at} {N = N} {k = k} {name = name} {rest = rest} {qids = qids}
    {node = node} {q = q} so_far leads room more end way =
    let one : k + 1 ≡ suc k = omega arith in
    let front : take (k + 1) (set qids k q) ++ more ≡ take k qids ++ q ∷ more =
    ap (λ (n : ℕ). take n (set qids k q) ++ more) one ∙ ap (λ (qs : List Qid). qs ++ more) (take-suc-set qids k q room) ∙ append_assoc (take k qids) (q ∷ []) more in
    subst (λ (qs : List Qid). IsWay tree from names qs end) (sym front)
    (so_far.goes (q ∷ more) end
    (subst (λ (ns : List (List ℕ)). IsWay tree at ns (q ∷ more) end) (sym (names_left so_far.split))
    (way_more tree at node name (names_in (N - (k + 1)) rest) q more end leads.good
    (subst (λ (r : Result ℕ Refusal). Next tree at name r) leads.is leads.led) leads.shown way)))
