-- Lists that are the step's.
use Rattle.std.proofs.Common.{◌≡◌, ◌≢◌, ℕ, ◌≤◌, Bool, true, false, cond, not, List, ◌∷◌, ◌++◌, length, take, drop, Option, Some, None, refl, sym, ap, ap₂, subst, ◌∙◌, arith}
use Rattle.std.specs.List.{concat}
use Rattle.std.proofs.lemmas.Bool.{cond-true, cond-false}
use Rattle.std.proofs.lemmas.Option.{same_Some}
use Rattle.tree_model.specs.declared.refusal.Refusal.TheVariants as refusals
use Rattle.tree_model.specs.Wire.{PlainStat, spelled_stat}
use Rattle.tree_model.specs.Rows.{Content, is_dir, stat_at}
use Rattle.tree_model.specs.Asked.{list, count}
use Rattle.tree_model.specs.Step.{Answer, refuses, step, fitting, is_too_small, stats_behind}
use Rattle.tree_model.proofs.Steps.{step_worked, step_refused}
use Rattle.clear_tree.specs.Kept.{kind_of}
use Rattle.live_tree.specs.Held.{HeldNode, HeldTree, IsTree, IsNext, IsNoNext, live_row, live_rows, node_of as node_in}
use Rattle.tree_answers.specs.Answers.{AreSizes, IsSizedStepOf, stat_in}
use Rattle.tree_answers.proofs.Rows.{row_there}
use Rattle.tree_answers.proofs.Steps.{answer_of}
use Rattle.tree_answers.proofs.Children.{next_stats, no_stats}
use Rattle.tree_answers.proofs.Shown.{stat_is, stat_length}
use Rattle.tree_answers.proofs.Fitting.{some_fit, none_fit, part_length, front_of, front_count}

-- after a name there is the stat of the next node, as it is shown, and then those after that node's name
pub shown_next : (contents : ℕ → Content) (tree : HeldTree) (parent : ℕ) → IsTree tree → AreSizes tree contents → (last : Option (List ℕ)) (number : ℕ) (node : HeldNode) (name : List ℕ)
    → IsNext tree parent last number → node_in tree number ≡ Some node → name ≡ node.kept.name
    → stats_behind (live_rows contents tree) parent last ≡ spelled_stat (stat_in number node) ∷ stats_behind (live_rows contents tree) parent (Some name)
shown_next contents tree parent good sizes last number node name next there is =
    let same : next.node ≡ node = same_Some next.node node (sym next.child.there ∙ there) in
    let rows = live_rows contents tree in
    next_stats contents tree parent good last number next
    ∙ ap (λ (n : HeldNode). spelled_stat (stat_at (live_row contents (number, n))) ∷ stats_behind rows parent (Some n.kept.name)) same
    ∙ ap₂ (λ (s : PlainStat) (n : List ℕ). spelled_stat s ∷ stats_behind rows parent (Some n)) (stat_is contents tree number node sizes (good.versions number node there) there) (sym is)

-- ---- what a list comes to

abbrev pub counts : ℕ → List ℕ → Answer
counts k bytes = record { reply = count k; bytes = bytes }

-- after a copy of a name is after the name
pub of_copy : (tree : HeldTree) (number most : ℕ) (copy after : Option (List ℕ)) (answer : Answer) → copy ≡ after → IsSizedStepOf tree (list number copy most) answer → IsSizedStepOf tree (list number after most) answer
of_copy tree number most copy after answer same = subst (λ (a : Option (List ℕ)). IsSizedStepOf tree (list number a most) answer) same

-- whole stats are at the front of the first bytes of a buffer, as many as fit there
pub record AreListed (tree : HeldTree) (number : ℕ) (after : Option (List ℕ)) (most : ℕ) (old room : List ℕ) (used : ℕ) : Type 0 where
  pub large : most ≤ length old
  pub long : length room ≡ length (take most old)
  pub few : used ≤ length (take most old)
  pub bytes : (contents : ℕ → Content) → AreSizes tree contents → take used room ≡ concat (fitting (length (take most old)) (stats_behind (live_rows contents tree) number after))

module _ (tree : HeldTree) (number : ℕ) (node : HeldNode) (there : node_in tree number ≡ Some node) where
  module _ (after : Option (List ℕ)) (most : ℕ) where
    pub list_no_dir : is_dir (kind_of node.kept.what) ≡ false → IsSizedStepOf tree (list number after most) (refuses refusals.NotADirectory)
    list_no_dir other contents sizes second =
        let rows = live_rows contents tree in
        sym (answer_of (step_refused rows (list number after most) second (live_row contents (number, node)) refusals.NotADirectory (row_there contents tree number node there)
        (cond-true (not (is_dir (kind_of node.kept.what))) _ _ (ap not other))))

    module _ (dir : is_dir (kind_of node.kept.what) ≡ true) where
      early_is : (small : Bool) → cond (not (is_dir (kind_of node.kept.what))) (Some refusals.NotADirectory) (cond small (Some refusals.CountTooSmall) None) ≡ cond small (Some refusals.CountTooSmall) None
      early_is small = cond-false (not (is_dir (kind_of node.kept.what))) _ _ (ap not dir)

      counted : (bytes : List ℕ) (contents : ℕ → Content) (second : ℕ)
          → bytes ≡ concat (fitting most (stats_behind (live_rows contents tree) number after)) → is_too_small most (stats_behind (live_rows contents tree) number after) ≡ false
          → (k : ℕ) → k ≡ length bytes → counts k bytes ≡ (step (live_rows contents tree) (list number after most) second).answer
      counted bytes contents second is large k long =
          let rows = live_rows contents tree in
          let row = live_row contents (number, node) in
          let free = early_is (is_too_small most (stats_behind rows number after)) ∙ cond-false (is_too_small most (stats_behind rows number after)) _ _ large in
          ap₂ counts (long ∙ ap (λ (w : List ℕ). length w) is) is
          ∙ sym (answer_of (step_worked rows (list number after most) second row (row_there contents tree number node there) free))

      -- the bytes that were put are those of the stats that fit
      module _ (old room : List ℕ) (used : ℕ) (put : AreListed tree number after most old room used) where
        abbrev bytes : List ℕ
        bytes = take used (room ++ drop most old)

        count_is : length bytes ≡ used
        count_is = front_count old room most used put.large put.long put.few

        is : (contents : ℕ → Content) → AreSizes tree contents → bytes ≡ concat (fitting most (stats_behind (live_rows contents tree) number after))
        is contents sizes =
            front_of old room most used put.large put.long put.few ∙ put.bytes contents sizes
            ∙ ap (λ (n : ℕ). concat (fitting n (stats_behind (live_rows contents tree) number after))) (part_length old room most used put.large put.long put.few)

        pub list_some : used ≢ 0 → IsSizedStepOf tree (list number after most) (counts used bytes)
        list_some some contents sizes second =
            counted bytes contents second (is contents sizes)
            (some_fit most (stats_behind (live_rows contents tree) number after) bytes (is contents sizes) (λ none. some (sym count_is ∙ none))) used (sym count_is)

        pub list_end : IsTree tree → IsNoNext tree number after → IsSizedStepOf tree (list number after most) (counts used bytes)
        list_end good none contents sizes second =
            counted bytes contents second (is contents sizes)
            (ap (is_too_small most) (no_stats contents tree number good after none)) used (sym count_is)

        pub list_small : IsTree tree → (next : ℕ) → IsNext tree number after next → used ≡ 0 → IsSizedStepOf tree (list number after most) (refuses refusals.CountTooSmall)
        list_small good next first none contents sizes second =
            let rows = live_rows contents tree in
            let row = live_row contents (number, node) in
            let text = spelled_stat (stat_in next first.node) in
            let stats = shown_next contents tree number good sizes after next first.node first.node.kept.name first first.child.there refl in
            let small : is_too_small most (stats_behind rows number after) ≡ true = ap (is_too_small most) stats
            ∙ none_fit most text (stats_behind rows number (Some first.node.kept.name)) bytes
            (is contents sizes ∙ ap (λ (w : List (List ℕ)). concat (fitting most w)) stats) (count_is ∙ none) (omega (arith, stat_length next first.node)) in
            sym (answer_of (step_refused rows (list number after most) second row refusals.CountTooSmall (row_there contents tree number node there)
            (early_is (is_too_small most (stats_behind rows number after)) ∙ cond-true (is_too_small most (stats_behind rows number after)) _ _ small)))
