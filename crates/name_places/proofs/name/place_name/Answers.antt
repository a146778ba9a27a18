use Rattle.std.proofs.Common.{ℕ, List, sym, ap, ◌∙◌}
use Rattle.vault_names.specs.Places.{place_of}
use Rattle.name_places.proofs.Parts.{short_place, long_place}
use Rattle.name_places.proofs.name.place_name.Goals as goal

pub returns-in_ok-entry-in-Short : goal.returns-in_ok-entry-in-Short
returns-in_ok-entry-in-Short c =
    short_place c.args.keys.now c.opening_is_exact.ensures.bytes c.opening_undoes_sealing.ensures c.args.identifier.now c.args.name.now c.as_bytes-clear.ensures.clear c.args.threshold c.requires.1
    c.in_ok-text.text c.in_ok-entry-in-Short.entry c.in_ok-text.ensures (c.in_ok-entry-in-Short.ensures ∙ c.as_bytes-in-Short.ensures)
    (ap (λ (x : List ℕ). place_of c.args.threshold x) (sym c.as_bytes.ensures) ∙ sym c.in-Short.ensures)

pub returns-in_ok-entry-in-Long : goal.returns-in_ok-entry-in-Long
returns-in_ok-entry-in-Long c =
    long_place c.args.keys.now c.opening_is_exact.ensures.bytes c.opening_undoes_sealing.ensures c.args.identifier.now c.args.name.now c.as_bytes-clear.ensures.clear c.args.threshold c.requires.1
    c.in_ok-text.text c.in_ok-entry-in-Long.entry c.in-Long.folder c.in_ok-text.ensures c.in_ok-entry-in-Long.ensures
    (ap (λ (x : List ℕ). place_of c.args.threshold x) (sym c.as_bytes.ensures) ∙ sym c.in-Long.ensures)
