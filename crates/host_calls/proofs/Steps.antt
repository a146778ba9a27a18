-- Which names are left by steps.
use Rattle.std.proofs.Common.{◌≡◌, ◌≢◌, ◌⊎◌, ℕ, List, [], ◌∷◌, Some, None, map as each_of, refl, sym, ap, subst, ◌∙◌, inl, inr}
use Rattle.std.specs.List.{AllByRecursion}
use Rattle.outside.specs.Disk.{Path, parent}
use Rattle.host_calls.specs.Volume.{Names}
use Rattle.host_calls.specs.Names.{NameStep, MadeFolder, MadeFile, Moved, Dropped, Pending, Fits, after_step, begun, before_step, instead, names_after, IsTaken, MayName, AreFitting}

-- the same step with other folders to flush
abbrev pub relabelled : (List Path → List Path) → Pending → Pending
relabelled f pending = record { step = pending.step; to_flush = f pending.to_flush }

taken_too : (f : List Path → List Path) → f [] ≡ [] → (pending : Pending) (before names : Names) → IsTaken (relabelled f pending) before names → IsTaken pending before names
taken_too f none pending before names (inl is) = inl is
taken_too f none pending before names (inr (same, unless)) = inr (same, λ e. unless (ap f e ∙ none))

-- with fewer to flush, no other names are left
pub left_too : (base : Names) (f : List Path → List Path) → f [] ≡ [] → (older : List Pending) (names : Names) → MayName base (each_of (relabelled f) older) names → MayName base older names
left_too base f none [] names h = h
left_too base f none (last ∷ older) names h = (h.0, left_too base f none older h.0 h.1, taken_too f none last h.0 names h.2)

pub same_names : (base : Names) (f : List Path → List Path) (older : List Pending) → names_after base (each_of (relabelled f) older) ≡ names_after base older
same_names base f [] = refl
same_names base f (last ∷ older) = ap (after_step last.step) (same_names base f older)

pub still_fitting : (base : Names) (f : List Path → List Path) (older : List Pending) → AreFitting base older → AreFitting base (each_of (relabelled f) older)
still_fitting base f [] h = h
still_fitting base f (last ∷ older) h = (still_fitting base f older h.0, subst (Fits last.step) (sym (same_names base f older)) h.1)

-- ---- a step more

pub left_before : (base : Names) (step : NameStep) (older : List Pending) (names : Names) → MayName base (before_step step older) names → MayName base older names
left_before base (MadeFolder path) older names h = h
left_before base (MadeFile path inode) older names h = h
left_before base (Moved from to) older names h = h
left_before base (Dropped path) older names h = left_too base (each_of (instead path)) refl older names h

pub names_before : (base : Names) (step : NameStep) (older : List Pending) → names_after base (before_step step older) ≡ names_after base older
names_before base (MadeFolder path) older = refl
names_before base (MadeFile path inode) older = refl
names_before base (Moved from to) older = refl
names_before base (Dropped path) older = same_names base (each_of (instead path)) older

fitting_before : (base : Names) (step : NameStep) (older : List Pending) → AreFitting base older → AreFitting base (before_step step older)
fitting_before base (MadeFolder path) older h = h
fitting_before base (MadeFile path inode) older h = h
fitting_before base (Moved from to) older h = h
fitting_before base (Dropped path) older h = still_fitting base (each_of (instead path)) older h

pub fitting_more : (base : Names) (step : NameStep) (older : List Pending) → AreFitting base older → Fits step (names_after base older) → AreFitting base (begun step ∷ before_step step older)
fitting_more base step older h fits = (fitting_before base step older h, subst (Fits step) (sym (names_before base step older)) fits)

-- ---- steps that last

-- if all last, the names that are left are those of reads
pub all_taken : (base : Names) (naming : List Pending) (names : Names) → AreFitting base naming → AllByRecursion (λ (pending : Pending). pending.to_flush ≡ []) naming
    → MayName base naming names → names ≡ names_after base naming
all_taken base [] names fitting last h = h
all_taken base (newest ∷ older) names fitting last h = settled (all_taken base older h.0 fitting.0 last.1 h.1) h.2
  where
    settled : h.0 ≡ names_after base older → IsTaken newest h.0 names → names ≡ after_step newest.step (names_after base older)
    settled earlier (inl (fits, is)) = is ∙ ap (after_step newest.step) earlier
    settled earlier (inr (same, unless)) = absurd (unless last.0 (subst (Fits newest.step) (sym earlier) fitting.1))
