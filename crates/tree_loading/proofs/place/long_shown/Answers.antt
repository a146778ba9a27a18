use Rattle.std.proofs.Common.{◌≡◌, [], ◌∷◌, ◌++◌, length, Option, Some, None, List, ℕ, refl, sym, ap, subst, ◌∙◌}
use Rattle.std.specs.Option.{option_map}
use Rattle.clear_tree.specs.Places.{text_dir, text_symlink, text_contents}
use Rattle.clear_tree.specs.Walk.{Bare}
use Rattle.tree_loading.specs.Reading.{file_at, Shows, short_kind, long_kind}
use Rattle.tree_loading.specs.declared.found.Shown.{Shown}
use Rattle.tree_loading.specs.declared.found.Shown.TheVariants.{File}
use Rattle.tree_loading.proofs.Files.{told_kept2, shows_file, shows_none}
use Rattle.tree_loading.proofs.place.long_shown.Goals as goal

pub returns-in-Some-2-clause-shown : goal.returns-in-Some-2-clause-shown
returns-in-Some-2-clause-shown g c =
    let size : Some c.in-Some-2.size ≡ c.in_ok-size-in-None.field-0 = sym c.in-Some-2.is in
    let contents : c.inner.result ≡ c.args.node.now ++ text_contents ∷ [] = c.inner.ensures in
    told_kept2 (g.R.Reads.log c.args.from.now) (g.R.Reads.log c.args.from.now) (g.R.Reads.log c.short_shown.new.from)
    (λ d. Shows (short_kind d c.args.node.now) c.in_ok-shown.field-0)
    (λ d. c.in_ok-size-in-None.field-0 ≡ option_map length (file_at d c.inner.result))
    (λ d. Shows (long_kind d c.args.node.now) (Some (File c.in-Some-2.size)))
    refl c.in_ok-shown.ensures.log c.in_ok-shown.ensures.shown c.in_ok-size-in-None.ensures.size
    (λ d k z. shows_file c.in-Some-2.size (file_at d (c.args.node.now ++ text_dir ∷ [])) (file_at d (c.args.node.now ++ text_symlink ∷ [])) (file_at d (c.args.node.now ++ text_contents ∷ []))
    (subst (λ (o : Option Shown). Shows (short_kind d c.args.node.now) o) c.in-None.is k) (size ∙ z ∙ ap (λ (p : List (List ℕ)). option_map length (file_at d p)) contents))

pub returns-in-None-2-clause-shown : goal.returns-in-None-2-clause-shown
returns-in-None-2-clause-shown g c =
    let size : None ≡ c.in_ok-size-in-None.field-0 = sym c.in-None-2.is in
    let contents : c.inner.result ≡ c.args.node.now ++ text_contents ∷ [] = c.inner.ensures in
    told_kept2 (g.R.Reads.log c.args.from.now) (g.R.Reads.log c.args.from.now) (g.R.Reads.log c.short_shown.new.from)
    (λ d. Shows (short_kind d c.args.node.now) c.in_ok-shown.field-0)
    (λ d. c.in_ok-size-in-None.field-0 ≡ option_map length (file_at d c.inner.result))
    (λ d. long_kind d c.args.node.now ≡ Bare)
    refl c.in_ok-shown.ensures.log c.in_ok-shown.ensures.shown c.in_ok-size-in-None.ensures.size
    (λ d k z. shows_none (file_at d (c.args.node.now ++ text_dir ∷ [])) (file_at d (c.args.node.now ++ text_symlink ∷ [])) (file_at d (c.args.node.now ++ text_contents ∷ []))
    (subst (λ (o : Option Shown). Shows (short_kind d c.args.node.now) o) c.in-None.is k) (size ∙ z ∙ ap (λ (p : List (List ℕ)). option_map length (file_at d p)) contents))
