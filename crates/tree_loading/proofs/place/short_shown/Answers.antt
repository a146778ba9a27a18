use Rattle.std.proofs.Common.{◌≡◌, [], ◌∷◌, ◌++◌, take, length, Some, None, List, ℕ, refl, sym, ap, ◌∙◌}
use Rattle.std.specs.Option.{option_map}
use Rattle.clear_tree.specs.Places.{text_dir, text_symlink}
use Rattle.clear_tree.specs.Kept.{text_limit}
use Rattle.clear_tree.specs.Walk.{Bare}
use Rattle.tree_loading.specs.Reading.{file_at, Shows, short_kind}
use Rattle.tree_loading.specs.declared.found.Shown.TheVariants.{Link}
use Rattle.tree_loading.proofs.Files.{told_kept2, shows_link, shows_nothing}
use Rattle.tree_loading.proofs.place.short_shown.Goals as goal

pub returns-in-Some-2-clause-shown : goal.returns-in-Some-2-clause-shown
returns-in-Some-2-clause-shown g c =
    let none : None ≡ c.in_ok-text.field-0 = sym c.in-None.is in
    let size : Some c.in-Some-2.size ≡ c.in_ok-size-in-None.field-0 = sym c.in-Some-2.is in
    let dir : c.inner-directory.result ≡ c.args.node.now ++ text_dir ∷ [] = c.inner-directory.ensures in
    let link : c.inner.result ≡ c.args.node.now ++ text_symlink ∷ [] = c.inner.ensures in
    told_kept2 (g.R.Reads.log c.args.from.now) (g.R.Reads.log c.args.from.now) (g.R.Reads.log c.text_at.new.from)
    (λ d. c.in_ok-text.field-0 ≡ option_map (take text_limit) (file_at d c.inner-directory.result))
    (λ d. c.in_ok-size-in-None.field-0 ≡ option_map length (file_at d c.inner.result))
    (λ d. Shows (short_kind d c.args.node.now) (Some (Link c.in-Some-2.size)))
    refl c.in_ok-text.ensures.log c.in_ok-text.ensures.text c.in_ok-size-in-None.ensures.size
    (λ d t z. shows_link text_limit c.in-Some-2.size (file_at d (c.args.node.now ++ text_dir ∷ [])) (file_at d (c.args.node.now ++ text_symlink ∷ [])) None
    (none ∙ t ∙ ap (λ (p : List (List ℕ)). option_map (take text_limit) (file_at d p)) dir) (size ∙ z ∙ ap (λ (p : List (List ℕ)). option_map length (file_at d p)) link))

pub returns-in-None-2-clause-shown : goal.returns-in-None-2-clause-shown
returns-in-None-2-clause-shown g c =
    let none : None ≡ c.in_ok-text.field-0 = sym c.in-None.is in
    let size : None ≡ c.in_ok-size-in-None.field-0 = sym c.in-None-2.is in
    let dir : c.inner-directory.result ≡ c.args.node.now ++ text_dir ∷ [] = c.inner-directory.ensures in
    let link : c.inner.result ≡ c.args.node.now ++ text_symlink ∷ [] = c.inner.ensures in
    told_kept2 (g.R.Reads.log c.args.from.now) (g.R.Reads.log c.args.from.now) (g.R.Reads.log c.text_at.new.from)
    (λ d. c.in_ok-text.field-0 ≡ option_map (take text_limit) (file_at d c.inner-directory.result))
    (λ d. c.in_ok-size-in-None.field-0 ≡ option_map length (file_at d c.inner.result))
    (λ d. short_kind d c.args.node.now ≡ Bare)
    refl c.in_ok-text.ensures.log c.in_ok-text.ensures.text c.in_ok-size-in-None.ensures.size
    (λ d t z. shows_nothing text_limit (file_at d (c.args.node.now ++ text_dir ∷ [])) (file_at d (c.args.node.now ++ text_symlink ∷ []))
    (none ∙ t ∙ ap (λ (p : List (List ℕ)). option_map (take text_limit) (file_at d p)) dir) (size ∙ z ∙ ap (λ (p : List (List ℕ)). option_map length (file_at d p)) link))
