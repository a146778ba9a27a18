-- The paths that deeds name, of one deed, of a phase and of all; and logs that go on at them.
use Rattle.std.proofs.Common.{◌≡◌, ⊎_elim, ℕ, zero, suc, List, [], ◌∷◌, Bool, true, false, cond, drop, Contains, Option, subst, arith}
use Rattle.std.proofs.lemmas.List.Elements.{Contains-append_cases, Contains-append_left, Contains-append_right}
use Rattle.outside.specs.Calls.{Changes}
use Rattle.outside.specs.Disk.{Path}
use Rattle.outside.specs.Images.{Log}
use Rattle.deeds.specs.declared.phase.Phase.{Phase}
use Rattle.deeds.specs.Deeds.{PlainDeed, GoesOnAt, NotIn, Unnamed, is_of, names, named, of_phase}
use Rattle.deeds.proofs.Growing.{grown_at, grown_more}

-- a path that one deed more names
named_more : (d : PlainDeed) (xs ys : List PlainDeed) (q : Path) → (Contains (named xs) q → Contains (named ys) q) → Contains (named (d ∷ xs)) q → Contains (named (d ∷ ys)) q
named_more d xs ys q more there = ⊎_elim
    (λ own. Contains-append_left (names d) (named ys) q own)
    (λ others. Contains-append_right (names d) (named ys) q (more others))
    (Contains-append_cases (names d) (named xs) q there)

kept_named : (b : Bool) (d : PlainDeed) (xs ys : List PlainDeed) (q : Path) → (Contains (named xs) q → Contains (named ys) q) → Contains (named (cond b (d ∷ xs) xs)) q → Contains (named (cond b (d ∷ ys) ys)) q
kept_named true d xs ys q more there = named_more d xs ys q more there
kept_named false d xs ys q more there = more there

none_named : (ds : List PlainDeed) (q : Path) → Contains (named []) q → Contains (named ds) q
none_named ds q there = absurd (omega (arith, there.1))

others_named : (b : Bool) (d : PlainDeed) (xs : List PlainDeed) (q : Path) → Contains (named xs) q → Contains (named (cond b (d ∷ xs) xs)) q
others_named true d xs q there = Contains-append_right (names d) (named xs) q there
others_named false d xs q there = there

-- those of one deed of a phase
one_named : (phase : Phase) (ds : List PlainDeed) (i : ℕ) (d : PlainDeed) (rest : List PlainDeed) → drop i ds ≡ d ∷ rest → (q : Path) → Contains (named (of_phase phase (d ∷ []))) q → Contains (named (of_phase phase ds)) q
one_named phase [] zero d rest e q there = absurd cc
one_named phase (x ∷ ds) zero d rest e q there =
    let same : d ≡ x = cc in
    kept_named (is_of phase x) x [] (of_phase phase ds) q (none_named (of_phase phase ds) q) (subst (λ (y : PlainDeed). Contains (named (of_phase phase (y ∷ []))) q) same there)
one_named phase [] (suc i) d rest e q there = absurd cc
one_named phase (x ∷ ds) (suc i) d rest e q there = others_named (is_of phase x) x (of_phase phase ds) q (one_named phase ds i d rest e q there)

among_named : (b : Bool) (d : PlainDeed) (xs ys : List PlainDeed) (q : Path) → (Contains (named xs) q → Contains (named ys) q) → Contains (named (cond b (d ∷ xs) xs)) q → Contains (named (d ∷ ys)) q
among_named true d xs ys q more there = named_more d xs ys q more there
among_named false d xs ys q more there = Contains-append_right (names d) (named ys) q (more there)

-- those of a phase
of_named : (phase : Phase) (ds : List PlainDeed) (q : Path) → Contains (named (of_phase phase ds)) q → Contains (named ds) q
of_named phase [] q there = there
of_named phase (d ∷ ds) q there = among_named (is_of phase d) d (of_phase phase ds) ds q (of_named phase ds q) there

-- ---- logs that go on at them

pub more_grown : (phase : Phase) (ds : List PlainDeed) (i : ℕ) (d : PlainDeed) (rest : List PlainDeed) → drop i ds ≡ d ∷ rest → (a b c : Option Log)
    → Changes a b (GoesOnAt (named (of_phase phase ds))) → Changes b c (GoesOnAt (named (of_phase phase (d ∷ [])))) → Changes a c (GoesOnAt (named (of_phase phase ds)))
more_grown phase ds i d rest at a b c first second =
    grown_at (named (of_phase phase ds)) a b c first (grown_more (named (of_phase phase (d ∷ []))) (named (of_phase phase ds)) b c (one_named phase ds i d rest at) second)

pub phase_grown : (phase : Phase) (ds : List PlainDeed) (a b : Option Log) → Changes a b (GoesOnAt (named (of_phase phase ds))) → Changes a b (GoesOnAt (named ds))
phase_grown phase ds a b grown = grown_more (named (of_phase phase ds)) (named ds) a b (of_named phase ds) grown

-- ---- a path that no deed names is none of these

not_in_names : (ps : List Path) (q : Path) → NotIn q ps → Contains ps q → ⊥
not_in_names [] q none there = omega (arith, there.1)
not_in_names (p ∷ ps) q none (zero, lt, e) = none.0 (let same : p ≡ q = e in cc)
not_in_names (p ∷ ps) q none (suc k, lt, e) = not_in_names ps q none.1 (k, omega (arith, lt), e)

pub not_named : (ds : List PlainDeed) (q : Path) → Unnamed q ds → Contains (named ds) q → ⊥
not_named [] q none there = omega (arith, there.1)
not_named (d ∷ ds) q none there = ⊎_elim (not_in_names (names d) q none.0) (not_named ds q none.1) (Contains-append_cases (names d) (named ds) q there)
