-- Stats that fit, and those of the rows after a name.
use Rattle.std.proofs.Common.{◌≡◌, ℕ, ◌+◌, ◌-◌, ◌<◌, ◌≤◌, Bool, true, false, nat_le, List, [], ◌∷◌, ◌++◌, length, drop, map, filter, get_or, Option, Vec, Global, if◌then◌else◌, refl, sym, ap, ◌∙◌, append_assoc, arith}
use Rattle.std.specs.List.{concat}
use Rattle.std.proofs.lemmas.Bool.{cond-true, cond-false}
use Rattle.std.proofs.lemmas.Grind.{common_steps}
use Rattle.std.proofs.lemmas.List.{append-nil, drop_more, map-append}
use Rattle.tree_model.specs.Wire.{spelled_stat}
use Rattle.tree_model.specs.Rows.{Row, stat_at}
use Rattle.tree_model.specs.Step.{fitting, is_behind}
use Rattle.model_step.specs.declared.rows.Row.{Row as CodeRow}
use Rattle.model_step.specs.SeenRows.{bytes_seen, row_seen}
use Rattle.model_step.specs.Listed.{named, stat_if}

le_is : (a b : ℕ) → a ≤ b → nat_le a b ≡ true
le_is a b h = grind (arith, common_steps, h)

le_not : (a b : ℕ) → b < a → nat_le a b ≡ false
le_not a b h = grind (arith, common_steps, h)

fits : (room : ℕ) (s : List ℕ) (stats : List (List ℕ)) → length s ≤ room → concat (fitting room (s ∷ stats)) ≡ s ++ concat (fitting (room - length s) stats)
unfolding fitting
fits room s stats h = ap concat (cond-true (nat_le (length s) room) _ _ (le_is (length s) room h))

fits_not : (room : ℕ) (s : List ℕ) (stats : List (List ℕ)) → room < length s → concat (fitting room (s ∷ stats)) ≡ []
unfolding fitting
fits_not room s stats h = ap concat (cond-false (nat_le (length s) room) _ _ (le_not (length s) room h))

nothing_fits : (room : ℕ) → concat (fitting room []) ≡ []
unfolding fitting
nothing_fits room = refl

-- the bytes so far with those of the rest are these
abbrev Fill : List ℕ → ℕ → List (Vec ℕ Global) → List ℕ → Type 0
Fill bytes room stats all = bytes ++ concat (fitting room (bytes_seen stats)) ≡ all

next : (stats : List (Vec ℕ Global)) (i : ℕ) (s : Vec ℕ Global) → i < length stats → s ≡ get_or stats i s → drop i stats ≡ s ∷ drop (i + 1) stats
next stats i s h is = drop_more stats i s h ∙ ap (λ (x : Vec ℕ Global). x ∷ drop (i + 1) stats) (sym is)

pub fill_stops : (bytes all : List ℕ) (room i : ℕ) (stats : List (Vec ℕ Global)) (s : Vec ℕ Global) → i < length stats → s ≡ get_or stats i s → room < length s.items
    → Fill bytes room (drop i stats) all → bytes ≡ all
fill_stops bytes all room i stats s h is small so_far =
    sym (append-nil bytes)
    ∙ ap (λ (rest : List ℕ). bytes ++ rest) (sym (ap (λ (rest : List (Vec ℕ Global)). concat (fitting room (bytes_seen rest))) (next stats i s h is) ∙ fits_not room s.items (bytes_seen (drop (i + 1) stats)) small))
    ∙ so_far

pub fill_more : (bytes more all : List ℕ) (room i : ℕ) (stats : List (Vec ℕ Global)) (s : Vec ℕ Global) → i < length stats → s ≡ get_or stats i s → length s.items ≤ room → more ≡ bytes ++ s.items
    → Fill bytes room (drop i stats) all → Fill more (room - length s.items) (drop (i + 1) stats) all
fill_more bytes more all room i stats s h is enough are so_far =
    ap (λ (front : List ℕ). front ++ concat (fitting (room - length s.items) (bytes_seen (drop (i + 1) stats)))) are
    ∙ append_assoc bytes s.items (concat (fitting (room - length s.items) (bytes_seen (drop (i + 1) stats))))
    ∙ ap (λ (rest : List ℕ). bytes ++ rest)
    (sym (ap (λ (rest : List (Vec ℕ Global)). concat (fitting room (bytes_seen rest))) (next stats i s h is) ∙ fits room s.items (bytes_seen (drop (i + 1) stats)) enough))
    ∙ so_far

pub fill_ends : (bytes all : List ℕ) (room : ℕ) (stats : List (Vec ℕ Global)) → stats ≡ [] → Fill bytes room stats all → bytes ≡ all
fill_ends bytes all room stats none so_far =
    sym (append-nil bytes)
    ∙ ap (λ (rest : List ℕ). bytes ++ rest) (sym (ap (λ (rest : List (Vec ℕ Global)). concat (fitting room (bytes_seen rest))) none ∙ nothing_fits room))
    ∙ so_far

-- ---- those after a name

-- the stats of the entries after a name
abbrev pub stats_of : Option (List ℕ) → List (List ℕ × Row) → List (List ℕ)
stats_of after entries = map (λ (named : List ℕ × Row). spelled_stat (stat_at named.1)) (filter (λ (named : List ℕ × Row). is_behind after named.0) entries)

one_more : (after : Option (List ℕ)) (entry : List ℕ × Row) (entries : List (List ℕ × Row)) (b : Bool) → is_behind after entry.0 ≡ b → stat_if after entry ++ stats_of after entries ≡ stats_of after (entry ∷ entries)
one_more after entry entries true is = rw is refl
one_more after entry entries false is = rw is refl

pub stats_more : (after : Option (List ℕ)) (done more all : List (List ℕ)) (rows : List CodeRow) (i : ℕ) (row : CodeRow) → i < length rows → row ≡ get_or rows i row → more ≡ done ++ stat_if after (named row)
    → done ++ stats_of after (map named (drop i rows)) ≡ all → more ++ stats_of after (map named (drop (i + 1) rows)) ≡ all
stats_more after done more all rows i row h is are so_far =
    let rest : List (List ℕ) = stats_of after (map named (drop (i + 1) rows)) in
    let next : drop i rows ≡ row ∷ drop (i + 1) rows = drop_more rows i row h ∙ ap (λ (x : CodeRow). x ∷ drop (i + 1) rows) (sym is) in
    ap (λ (front : List (List ℕ)). front ++ rest) are ∙ append_assoc done (stat_if after (named row)) rest
    ∙ ap (λ (behind : List (List ℕ)). done ++ behind)
    (one_more after (named row) (map named (drop (i + 1) rows)) (is_behind after row.name.items) refl ∙ ap (λ (rs : List CodeRow). stats_of after (map named rs)) (sym next))
    ∙ so_far

-- the stat of a row that is after a name
pub stat_put : (after : Option (List ℕ)) (row : CodeRow) (old new : List (Vec ℕ Global)) (stat : Vec ℕ Global) → new ≡ old ++ stat ∷ [] → stat.items ≡ spelled_stat (stat_at (row_seen row))
    → true ≡ is_behind after row.name.items → bytes_seen new ≡ bytes_seen old ++ stat_if after (named row)
stat_put after row old new stat are is behind =
    ap bytes_seen are ∙ map-append (λ (text : Vec ℕ Global). text.items) old (stat ∷ [])
    ∙ ap (λ (s : List ℕ). bytes_seen old ++ s ∷ []) is
    ∙ ap (λ (b : Bool). bytes_seen old ++ (if b then spelled_stat (stat_at (row_seen row)) ∷ [] else [])) behind
