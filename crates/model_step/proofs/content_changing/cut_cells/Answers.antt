use Rattle.std.proofs.Common.{◌≡◌, ◌++◌, ◌∷◌, [], ◌/◌, ℕ, List, Option, Some, take, option_map, ap, sym, ◌∙◌, rules, arith}
use Rattle.std.proofs.lemmas.List.{map-append, take-map, take_min}
use Rattle.tree_model.specs.Rows.{Cell, joined_cells}
use Rattle.tree_model.specs.Contents.{sealed_chunk}
use Rattle.model_step.specs.SeenContents.{cell_seen, cells_seen}
use Rattle.model_step.proofs.Gathered.{cut_between, cut_through}
use Rattle.model_step.proofs.content_changing.cut_cells.Goals as goal

pub returns-then-n-eq0 : goal.returns-then-n-eq0
returns-then-n-eq0 c =
    let old : List Cell = cells_seen c.args.old.now in
    let kept : cells_seen c.truncate.new.self.items ≡ take (c.args.n / 32768) old =
    ap cells_seen c.truncate.ensures.items ∙ sym (take-map cell_seen (c.args.n / 32768) c.in_ok-cells.cells.items) ∙ ap (take (c.args.n / 32768)) c.in_ok-cells.ensures in
    ap (λ (cells : List Cell). Some cells) kept ∙ sym (cut_between old c.args.n (omega arith))

pub returns-in_ok-push-in-Some : goal.returns-in_ok-push-in-Some
returns-in_ok-push-in-Some c =
    let old : List Cell = cells_seen c.args.old.now in
    let kept : cells_seen c.truncate.new.self.items ≡ take (c.args.n / 32768) old =
    ap cells_seen c.truncate.ensures.items ∙ sym (take-map cell_seen (c.args.n / 32768) c.in_ok-cells.cells.items) ∙ ap (take (c.args.n / 32768)) c.in_ok-cells.ensures in
    let pushed : c.push.new.self.items ≡ c.truncate.new.self.items ++ c.in-Some.last ∷ [] = search rules in
    let seen : cells_seen c.push.new.self.items ≡ take (c.args.n / 32768) old ++ cell_seen c.in-Some.last ∷ [] =
    ap cells_seen pushed ∙ map-append cell_seen c.truncate.new.self.items (c.in-Some.last ∷ []) ∙ ap (λ (cells : List Cell). cells ++ cell_seen c.in-Some.last ∷ []) kept in
    let last = rw c.in-Some.is at c.in_ok-last.ensures in
    let front : take c.min.result c.args.joined.now ≡ take c.args.n (joined_cells old) =
    ap (λ (k : ℕ). take k c.args.joined.now) (omega arith) ∙ take_min c.args.n c.args.joined.now ∙ ap (take c.args.n) c.requires.joined in
    let chunk = last ∙ ap (λ (bytes : List (Option ℕ)). sealed_chunk bytes (c.args.n / 32768)) front in
    ap (λ (cells : List Cell). Some cells) seen ∙ ap (option_map (λ (last : Cell). take (c.args.n / 32768) old ++ last ∷ [])) chunk ∙ sym (cut_through old c.args.n (omega arith))

pub returns-in-None : goal.returns-in-None
returns-in-None c =
    let old : List Cell = cells_seen c.args.old.now in
    let last = rw c.in-None.is at c.in_ok-last.ensures in
    let front : take c.min.result c.args.joined.now ≡ take c.args.n (joined_cells old) =
    ap (λ (k : ℕ). take k c.args.joined.now) (omega arith) ∙ take_min c.args.n c.args.joined.now ∙ ap (take c.args.n) c.requires.joined in
    let chunk = last ∙ ap (λ (bytes : List (Option ℕ)). sealed_chunk bytes (c.args.n / 32768)) front in
    ap (option_map (λ (last : Cell). take (c.args.n / 32768) old ++ last ∷ [])) chunk ∙ sym (cut_through old c.args.n (omega arith))
