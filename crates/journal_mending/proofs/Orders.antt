-- Deeds phase by phase, of lists that grow at their end.
use Rattle.std.proofs.Common.{◌≡◌, length, arith, List, [], ◌∷◌, ◌++◌, true, false, refl, sym, ap, ◌∙◌, append-nil, append_assoc}
use Rattle.std.proofs.lemmas.List.Elements.{filter-append}
use Rattle.deeds.specs.declared.deed.Deed.{Deed}
use Rattle.deeds.specs.declared.phase.Phase.{Phase}
use Rattle.deeds.specs.declared.phase.Phase.TheVariants as phases
use Rattle.deeds.specs.Deeds.{PlainDeed, MakesDir, Puts, Renames, Removes, RemovesDir, Reshapes, in_order, is_of, of_phase}
use Rattle.deeds.specs.Plain.{plain, plains}
use Rattle.deeds.proofs.Phases.{plains_pushed}

pub phase_pushed : (phase : Phase) (ds : List Deed) (d : Deed) → of_phase phase (plains (ds ++ d ∷ [])) ≡ of_phase phase (plains ds) ++ of_phase phase (plain d ∷ [])
phase_pushed phase ds d = ap (of_phase phase) (plains_pushed ds d) ∙ filter-append (is_of phase) (plains ds) (plain d ∷ [])

-- a deed is of one phase
pub record IsIn (phase : Phase) (d : PlainDeed) (makes moves removes : List PlainDeed) : Type 0 where
  pub make : of_phase phases.Make (d ∷ []) ≡ makes
  pub move : of_phase phases.Move (d ∷ []) ≡ moves
  pub remove : of_phase phases.Remove (d ∷ []) ≡ removes

pub in_make : (d : PlainDeed) → is_of phases.Make d ≡ true → IsIn phases.Make d (d ∷ []) [] []
in_make (MakesDir path) e = record { make = refl; move = refl; remove = refl }
in_make (Puts path bytes) e = record { make = refl; move = refl; remove = refl }
in_make (Reshapes path len rs) e = record { make = refl; move = refl; remove = refl }
in_make (Renames from to) e = absurd cc
in_make (Removes path) e = absurd cc
in_make (RemovesDir path) e = absurd cc

pub in_move : (d : PlainDeed) → is_of phases.Move d ≡ true → IsIn phases.Move d [] (d ∷ []) []
in_move (MakesDir path) e = absurd cc
in_move (Puts path bytes) e = absurd cc
in_move (Reshapes path len rs) e = absurd cc
in_move (Renames from to) e = record { make = refl; move = refl; remove = refl }
in_move (Removes path) e = absurd cc
in_move (RemovesDir path) e = absurd cc

pub in_remove : (d : PlainDeed) → is_of phases.Make d ≡ false → is_of phases.Move d ≡ false → IsIn phases.Remove d [] [] (d ∷ [])
in_remove (MakesDir path) e f = absurd cc
in_remove (Puts path bytes) e f = absurd cc
in_remove (Reshapes path len rs) e f = absurd cc
in_remove (Renames from to) e f = absurd cc
in_remove (Removes path) e f = record { make = refl; move = refl; remove = refl }
in_remove (RemovesDir path) e f = record { make = refl; move = refl; remove = refl }

-- deeds are taken from a batch, each to those of its phase
pub record AreSorted (taken a b c : List Deed) : Type 0 where
  pub makes : plains a ≡ of_phase phases.Make (plains taken)
  pub moves : plains b ≡ of_phase phases.Move (plains taken)
  pub removes : plains c ≡ of_phase phases.Remove (plains taken)

grown : (phase : Phase) (taken some : List Deed) (d : Deed) (one : List PlainDeed) → plains some ≡ of_phase phase (plains taken) → of_phase phase (plain d ∷ []) ≡ one → plains some ++ one ≡ of_phase phase (plains (taken ++ d ∷ []))
grown phase taken some d one before is = ap (λ (l : List PlainDeed). l ++ one) before ∙ ap (λ (l : List PlainDeed). of_phase phase (plains taken) ++ l) (sym is) ∙ sym (phase_pushed phase taken d)

pushed : (phase : Phase) (taken some : List Deed) (d : Deed) → plains some ≡ of_phase phase (plains taken) → of_phase phase (plain d ∷ []) ≡ plain d ∷ [] → plains (some ++ d ∷ []) ≡ of_phase phase (plains (taken ++ d ∷ []))
pushed phase taken some d before is = plains_pushed some d ∙ grown phase taken some d (plain d ∷ []) before is

kept : (phase : Phase) (taken some : List Deed) (d : Deed) → plains some ≡ of_phase phase (plains taken) → of_phase phase (plain d ∷ []) ≡ [] → plains some ≡ of_phase phase (plains (taken ++ d ∷ []))
kept phase taken some d before is = sym (append-nil (plains some)) ∙ grown phase taken some d [] before is

pub sorted_make : (taken a b c : List Deed) (d : Deed) → AreSorted taken a b c → is_of phases.Make (plain d) ≡ true → AreSorted (taken ++ d ∷ []) (a ++ d ∷ []) b c
sorted_make taken a b c d s e =
    let i = in_make (plain d) e in
    record { makes = pushed phases.Make taken a d s.makes i.make; moves = kept phases.Move taken b d s.moves i.move; removes = kept phases.Remove taken c d s.removes i.remove }

pub sorted_move : (taken a b c : List Deed) (d : Deed) → AreSorted taken a b c → is_of phases.Move (plain d) ≡ true → AreSorted (taken ++ d ∷ []) a (b ++ d ∷ []) c
sorted_move taken a b c d s e =
    let i = in_move (plain d) e in
    record { makes = kept phases.Make taken a d s.makes i.make; moves = pushed phases.Move taken b d s.moves i.move; removes = kept phases.Remove taken c d s.removes i.remove }

pub sorted_remove : (taken a b c : List Deed) (d : Deed) → AreSorted taken a b c → is_of phases.Make (plain d) ≡ false → is_of phases.Move (plain d) ≡ false → AreSorted (taken ++ d ∷ []) a b (c ++ d ∷ [])
sorted_remove taken a b c d s e f =
    let i = in_remove (plain d) e f in
    record { makes = kept phases.Make taken a d s.makes i.make; moves = kept phases.Move taken b d s.moves i.move; removes = pushed phases.Remove taken c d s.removes i.remove }

-- ---- all of them

plains_joined : (xs ys : List Deed) → plains (xs ++ ys) ≡ plains xs ++ plains ys
plains_joined [] ys = refl
plains_joined (x ∷ xs) ys = ap (λ (l : List PlainDeed). plain x ∷ l) (plains_joined xs ys)

pub sorted_all : (taken a b c two all : List Deed) → AreSorted taken a b c → two ≡ a ++ b → all ≡ two ++ c → plains all ≡ in_order (plains taken)
sorted_all taken a b c two all s first second =
    ap plains second ∙ plains_joined two c
    ∙ ap (λ (l : List PlainDeed). l ++ plains c) (ap plains first ∙ plains_joined a b ∙ ap (λ (l : List PlainDeed). l ++ plains b) s.makes ∙ ap (λ (l : List PlainDeed). of_phase phases.Make (plains taken) ++ l) s.moves)
    ∙ ap (λ (l : List PlainDeed). (of_phase phases.Make (plains taken) ++ of_phase phases.Move (plains taken)) ++ l) s.removes

-- ---- what is taken from a list, and what is left of it

pub one_taken : (taken : List Deed) (d : Deed) (rest next all : List Deed) → rest ≡ d ∷ next → taken ++ rest ≡ all → (taken ++ d ∷ []) ++ next ≡ all
one_taken taken d rest next all is split = append_assoc taken (d ∷ []) next ∙ ap (λ (l : List Deed). taken ++ l) (sym is) ∙ split

pub nil_of : (ds : List Deed) → length ds ≡ 0 → ds ≡ []
nil_of [] e = refl
nil_of (d ∷ ds) e = absurd (omega (arith, e))

pub all_taken : (taken rest all : List Deed) → rest ≡ [] → taken ++ rest ≡ all → taken ≡ all
all_taken taken rest all none split = sym (append-nil taken) ∙ ap (λ (l : List Deed). taken ++ l) (sym none) ∙ split
