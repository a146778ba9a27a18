-- What is shown of a node: the stat of its row, and how many bytes it has.
use Rattle.std.proofs.Common.{◌≡◌, ℕ, ◌+◌, ◌<◌, ◌^◌, List, ◌++◌, length, take, drop, Some, refl, sym, ap, ap₂, ◌∙◌, arith}
use Rattle.std.specs.Option.{option_and_then}
use Rattle.std.proofs.lemmas.List.{length-append, take_at, drop_at}
use Rattle.tree_model.specs.declared.stat.Qid.{Qid}
use Rattle.tree_model.specs.declared.stat.Stat.{Stat}
use Rattle.tree_model.specs.Wire.{PlainStat, string, plain_stat, spelled_stat}
use Rattle.tree_model.specs.Rows.{Content, content_length, length_of, qid_of, stat_at}
use Rattle.clear_tree.specs.Kept.{What, KeptFile, KeptLink, KeptDir, KeptBad, kind_of, content_of, size_in}
use Rattle.live_tree.specs.Held.{HeldNode, HeldTree, node_of, live_row}
use Rattle.ninep_wire.specs.Writing.{stat_size}
use Rattle.tree_answers.specs.Answers.{AreSizes, length_by, shown_length, qid_in, stat_in}
use Rattle.tree_answers.proofs.Rows.{version_is}

length_is : (what : What) (content : Content) → ((size : ℕ) → size_in what ≡ Some size → content_length content ≡ length_by size) → length_of (kind_of what) (content_of what content) ≡ shown_length what
length_is (KeptFile size) content is = is size refl
length_is (KeptLink size) content is = is size refl
length_is (KeptDir identifier folder) content is = refl
length_is (KeptBad text) content is = refl

-- the qid of a row is its node's
pub qid_is : (contents : ℕ → Content) (number : ℕ) (node : HeldNode) → node.version < 2 ^ 32 → qid_of (live_row contents (number, node)) ≡ qid_in number node
qid_is contents number node small = ap (λ (v : ℕ). record (qid_in number node) { version = v }) (version_is node.version small)

pub stat_is : (contents : ℕ → Content) (tree : HeldTree) (number : ℕ) (node : HeldNode) → AreSizes tree contents → node.version < 2 ^ 32 → node_of tree number ≡ Some node
    → stat_at (live_row contents (number, node)) ≡ stat_in number node
stat_is contents tree number node sizes small there =
    ap₂ (λ (q : Qid) (n : ℕ). record (stat_in number node) { qid = q; length = n }) (qid_is contents number node small)
    (length_is node.kept.what (contents number) (λ size is. sizes number size (ap (option_and_then (λ (node : HeldNode). size_in node.kept.what)) there ∙ is)))

-- a stat of a tree has 64 bytes beside its name
pub stat_length : (number : ℕ) (node : HeldNode) → length (spelled_stat (stat_in number node)) ≡ 64 + length node.kept.name
stat_length number node =
    let s = stat_in number node in
    omega (
      arith,
      length-append (s.name ++ string s.owner ++ string s.group) (string s.modifier),
      length-append (s.name ++ string s.owner) (string s.group),
      length-append s.name (string s.owner),
    )

-- the same of the stat that is written
pub size_is : (s : Stat) (number : ℕ) (node : HeldNode) → plain_stat s ≡ stat_in number node → stat_size s ≡ 62 + length node.kept.name
size_is s number node is =
    let same : stat_size s ≡ 47 + length node.kept.name + 5 + 5 + 5 = ap (λ (p : PlainStat). 47 + length p.name + length p.owner + length p.group + length p.modifier) is in
    omega (arith, same)

-- the stat that was written into the front of a buffer
pub record IsShown (number : ℕ) (node : HeldNode) (size : ℕ) (old new : List ℕ) : Type 0 where
  pub all : size ≡ length (spelled_stat (stat_in number node))
  pub front : take size new ≡ spelled_stat (stat_in number node)
  pub rest : drop size new ≡ drop size old

pub shown : (s : Stat) (number : ℕ) (node : HeldNode) (size : ℕ) (old new : List ℕ) → plain_stat s ≡ stat_in number node → size ≡ stat_size s + 2
    → new ≡ spelled_stat (plain_stat s) ++ drop size old → IsShown number node size old new
shown s number node size old new stat long bytes =
    let text = spelled_stat (stat_in number node) in
    let is : new ≡ text ++ drop size old = bytes ∙ ap (λ (p : PlainStat). spelled_stat p ++ drop size old) stat in
    let whole : size ≡ length text = omega (arith, long, size_is s number node stat, stat_length number node) in
    record {
      all = whole;
      front = ap (take size) is ∙ take_at text (drop size old) size (sym whole);
      rest = ap (drop size) is ∙ drop_at text (drop size old) size (sym whole);
    }
