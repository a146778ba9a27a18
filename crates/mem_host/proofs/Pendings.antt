-- The folders that a step waits for.
use Rattle.std.proofs.Common.{◌≡◌, ◌≢◌, Bool, true, false, cond, [], ◌∷◌, Option, Some, None, map, refl, sym, ap, ◌∙◌}
use Rattle.std.specs.Option.{option_to_list}
use Rattle.std.specs.Ordering.{eq_by_cmp}
use Rattle.std.proofs.lemmas.Bool.{false_from_ne_true}
use Rattle.outside.specs.Disk.{Path, path_cmp, parent}
use Rattle.outside.proofs.Paths.{path_decides}
use Rattle.host_calls.specs.Names.{Dropped, begun, without, without_folder, instead}

itself : (p : Path) → eq_by_cmp path_cmp p p ≡ true
itself p = (path_decides p p).1 refl

other : (p q : Path) → q ≢ p → eq_by_cmp path_cmp q p ≡ false
other p q ne = false_from_ne_true _ (λ e. ne ((path_decides q p).0 e))

-- it was flushed
pub one_flushed : (o : Option Path) (p : Path) → o ≡ Some p → [] ≡ without p (option_to_list o)
one_flushed o p is = sym (ap (λ (x : Option Path). without p (option_to_list x)) is ∙ ap (λ (b : Bool). cond b [] (p ∷ [])) (itself p))

-- another was
pub one_stays : (o : Option Path) (p : Path) → o ≢ Some p → option_to_list o ≡ without p (option_to_list o)
one_stays None p ne = refl
one_stays (Some q) p ne = sym (ap (λ (b : Bool). cond b [] (q ∷ [])) (other p q (λ e. ne (ap Some e))))

-- it went
pub one_lost : (o : Option Path) (p : Path) → o ≡ Some p → parent p ∷ [] ≡ map (instead p) (option_to_list o)
one_lost o p is = sym (ap (λ (x : Option Path). map (instead p) (option_to_list x)) is ∙ ap (λ (b : Bool). cond b (parent p) p ∷ []) (itself p))

-- another did
pub one_there : (o : Option Path) (p : Path) → o ≢ Some p → option_to_list o ≡ map (instead p) (option_to_list o)
one_there None p ne = refl
one_there (Some q) p ne = sym (ap (λ (b : Bool). cond b (parent p) q ∷ []) (other p q (λ e. ne (ap Some e))))

-- the folder above one that went is still the one to flush for that
pub dropped_waits : (p : Path) → without_folder p (begun (Dropped p)) ≡ begun (Dropped p)
dropped_waits p = ap (λ (q : Path). record { step = Dropped p; to_flush = q ∷ [] }) (either (eq_by_cmp path_cmp (parent p) p))
  where
    either : (b : Bool) → cond b (parent p) (parent p) ≡ parent p
    either true = refl
    either false = refl
