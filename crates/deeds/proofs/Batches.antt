-- A batch that is done phase by phase.
use Rattle.std.proofs.Common.{◌≡◌, ℕ, suc, ◌≤◌, List, [], ◌∷◌, ◌++◌, Bool, true, cond, take, drop, Option, sym, ap, subst, ◌∙◌, append_assoc}
use Rattle.std.specs.List.{AllByRecursion}
use Rattle.std.proofs.lemmas.List.{take-append-drop, append-nil}
use Rattle.std.proofs.lemmas.List.Elements.{filter-append}
use Rattle.outside.specs.Calls.{Changes}
use Rattle.outside.specs.Disk.{Disk}
use Rattle.outside.specs.Images.{Log, now}
use Rattle.deeds.specs.declared.phase.Phase.{Phase}
use Rattle.deeds.specs.declared.phase.Phase.TheVariants as phases
use Rattle.deeds.specs.declared.phase.DeedErr.{DeedErr}
use Rattle.deeds.specs.declared.phase.DeedErr.TheVariants as errors
use Rattle.deeds.specs.Deeds.{PlainDeed, MakesDir, Puts, Renames, Removes, RemovesDir, Reshapes, Does, DoesAll, is_of, of_phase, in_order, before_phase, IsRefusedIn, IsRefusedAt, IsRefusal, IfUnfit, AreWithin}
use Rattle.deeds.specs.Grammar.{IsDeed}
use Rattle.deeds.proofs.Doing.{same_run}
use Rattle.deeds.proofs.Applying.{split_run}
use Rattle.deeds.proofs.Phases.{refusal_after}
use Rattle.deeds.proofs.Rising.{within_of}

pub within_batch : (ds : List PlainDeed) → AllByRecursion IsDeed ds → AreWithin ds
within_batch [] all = tt
within_batch (MakesDir path ∷ ds) all = (tt, within_batch ds all.1)
within_batch (Puts path bytes ∷ ds) all = (tt, within_batch ds all.1)
within_batch (Renames from to ∷ ds) all = (tt, within_batch ds all.1)
within_batch (Removes path ∷ ds) all = (tt, within_batch ds all.1)
within_batch (RemovesDir path ∷ ds) all = (tt, within_batch ds all.1)
within_batch (Reshapes path len ranges ∷ ds) all = (within_of 0 len ranges all.0.rise, within_batch ds all.1)

pub refused_in : (phase : Phase) (ds : List PlainDeed) (a b : Option Log) (fa fb fd : ℕ) (error : DeedErr) → Changes a b (λ old new. DoesAll (before_phase phase ds) (now old) (now new)) → fa ≤ fb
    → IfUnfit error (λ index. IsRefusal b fb fd (IsRefusedIn phase ds index)) → IfUnfit error (λ index. IsRefusal a fa fd (IsRefusedAt ds index))
refused_in phase ds a b fa fb fd errors.Failed before le refused = tt
refused_in phase ds a b fa fb fd (errors.Unfit index) before le refused =
    refusal_after a b fa fb fd (λ old new. DoesAll (before_phase phase ds) (now old) (now new)) (IsRefusedIn phase ds index) (IsRefusedAt ds index)
    (λ x y first r. record { phase = phase; between = now y; before = first; refused = r }) before le refused

-- ---- a deed that is refused is one that can't be done in the order of doing

of_phase_at : (phase : Phase) (ds : List PlainDeed) (index : ℕ) (deed : PlainDeed) → drop index ds ≡ deed ∷ drop (suc index) ds → is_of phase deed ≡ true
    → of_phase phase ds ≡ of_phase phase (take index ds) ++ deed ∷ of_phase phase (drop (suc index) ds)
of_phase_at phase ds index deed here is =
    ap (of_phase phase) (sym (take-append-drop index ds)) ∙ filter-append (is_of phase) (take index ds) (drop index ds)
    ∙ ap (λ (l : List PlainDeed). of_phase phase (take index ds) ++ of_phase phase l) here
    ∙ ap (λ (b : Bool). of_phase phase (take index ds) ++ cond b (deed ∷ of_phase phase (drop (suc index) ds)) (of_phase phase (drop (suc index) ds))) is

after_phase : Phase → List PlainDeed → List PlainDeed
after_phase phases.Make ds = of_phase phases.Move ds ++ of_phase phases.Remove ds
after_phase phases.Move ds = of_phase phases.Remove ds
after_phase phases.Remove ds = []

order_at : (phase : Phase) (ds : List PlainDeed) → in_order ds ≡ before_phase phase ds ++ (of_phase phase ds ++ after_phase phase ds)
unfolding after_phase
order_at phases.Make ds = append_assoc (of_phase phases.Make ds) (of_phase phases.Move ds) (of_phase phases.Remove ds)
order_at phases.Move ds = append_assoc (of_phase phases.Make ds) (of_phase phases.Move ds) (of_phase phases.Remove ds)
order_at phases.Remove ds = ap (λ (l : List PlainDeed). (of_phase phases.Make ds ++ of_phase phases.Move ds) ++ l) (sym (append-nil (of_phase phases.Remove ds)))

pub refused_cannot : (ds : List PlainDeed) (index : ℕ) (d after : Disk) → IsRefusedAt ds index d → DoesAll (in_order ds) d after → ⊥
refused_cannot ds index d after refused run =
    let r = refused.refused in
    let rest = of_phase refused.phase (drop (suc index) ds) in
    let one = split_run (before_phase refused.phase ds) (of_phase refused.phase ds ++ after_phase refused.phase ds) d after (subst (λ (l : List PlainDeed). DoesAll l d after) (order_at refused.phase ds) run) in
    let same : one.0 ≡ refused.between = same_run (before_phase refused.phase ds) d one.0 refused.between one.1 refused.before in
    let two = split_run (of_phase refused.phase ds) (after_phase refused.phase ds) refused.between after (subst (λ (b : Disk). DoesAll (of_phase refused.phase ds ++ after_phase refused.phase ds) b after) same one.2) in
    let three = split_run (of_phase refused.phase (take index ds)) (r.deed ∷ rest) refused.between two.0 (subst (λ (l : List PlainDeed). DoesAll l refused.between two.0) (of_phase_at refused.phase ds index r.deed r.here r.its_phase) two.1) in
    let there : three.0 ≡ r.between = same_run (of_phase refused.phase (take index ds)) refused.between three.0 r.between three.1 r.before in
    r.cannot three.2.0 (subst (λ (b : Disk). Does r.deed b three.2.0) there three.2.1)
