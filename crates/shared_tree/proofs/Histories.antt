-- The entries that callers make in turns, and where their random sources are after them.
use Rattle.std.proofs.Common.{◌≡◌, ℕ, ◌≤◌, Bool, true, false, eqb, cond, if◌then◌else◌, List, [], ◌∷◌, ◌++◌, map, Option, Some, None, refl, sym, ap, subst, ◌∙◌, arith}
use Rattle.std.specs.Prelude.{option_map, option_to_list}
use Rattle.std.proofs.lemmas.Grind.{flat_map-append}
use Rattle.std.proofs.lemmas.List.{map-append}
use Rattle.std.proofs.lemmas.List.Elements.{filter-append}
use Rattle.outside.specs.Views.{EntropyView}
use Rattle.tree_model.specs.Asked.{Asked}
use Rattle.tree_model.specs.Rows.{Rows}
use Rattle.tree_model.specs.History.{Made, Entry, Origin, Tally, entry_of, entries_of, next, after, tally_at, tally_of}
use Rattle.tree_model.proofs.Histories.{after_more}
use Rattle.turn_lock.specs.declared.history.Ended.{Ended}
use Rattle.turn_lock.specs.SeatView.{SeatView}
use Rattle.turn_lock.specs.Turns.{turns_by}
use Rattle.shared_tree.specs.Turns.{entries_in, StandsFor}
use Rattle.shared_tree.specs.Trees.{IsMadeOf, AddsEntry}
use Rattle.shared_tree.specs.Clients.{made_by, GoesOn}

abbrev pub turn_of : ℕ → Made → Ended Made
turn_of by made = record { by = by; entry = Some made }

pub eqb_same : (n : ℕ) → eqb n n ≡ true
eqb_same n = grind arith

eqb_sym : (m n : ℕ) → eqb m n ≡ eqb n m
eqb_sym m n = grind arith

-- ---- entries of turns

pub entries_in-append : (xs ys : List (Ended Made)) → entries_in (xs ++ ys) ≡ entries_in xs ++ entries_in ys
entries_in-append xs ys = flat_map-append (λ turn. option_to_list (option_map (entry_of turn.by) turn.entry)) xs ys

-- one turn more that made an entry
pub entries_in-more : (turns : List (Ended Made)) (by : ℕ) (made : Made) → entries_in (turns ++ turn_of by made ∷ []) ≡ entries_in turns ++ entry_of by made ∷ []
entries_in-more turns by made = entries_in-append turns (turn_of by made ∷ [])

pub made_by-append : (n : ℕ) (xs ys : List (Ended Made)) → made_by n (xs ++ ys) ≡ made_by n xs ++ made_by n ys
made_by-append n xs ys =
    ap (λ (l : List Entry). map (λ entry. entry.made) (entries_of n l)) (entries_in-append xs ys)
    ∙ (ap (map (λ (entry : Entry). entry.made)) (filter-append (λ (entry : Entry). eqb entry.caller n) (entries_in xs) (entries_in ys))
    ∙ map-append (λ (entry : Entry). entry.made) (entries_of n (entries_in xs)) (entries_of n (entries_in ys)))

-- an entry of one's own
pub made_by-own : (n : ℕ) (made : Made) → made_by n (turn_of n made ∷ []) ≡ made ∷ []
made_by-own n made = ap (λ (b : Bool). map (λ (entry : Entry). entry.made) (cond b (entry_of n made ∷ []) [])) (eqb_same n)

-- what a caller made is what it made in its own turns
made_by-turn : (n by : ℕ) (entry : Option Made) (turns : List (Ended Made)) (own : Bool) → eqb by n ≡ own → made_by n turns ≡ made_by n (turns_by n turns)
    → made_by n (record { by = by; entry = entry } ∷ turns) ≡ made_by n (if own then (record { by = by; entry = entry } ∷ turns_by n turns) else turns_by n turns)
made_by-turn n by None turns true is rest = rest
made_by-turn n by None turns false is rest = rest
made_by-turn n by (Some made) turns true is rest =
    ap (λ (b : Bool). map (λ (e : Entry). e.made) (cond b (entry_of by made ∷ entries_of n (entries_in turns)) (entries_of n (entries_in turns)))) is
    ∙ (ap (λ (l : List Made). made ∷ l) rest
    ∙ sym (ap (λ (b : Bool). map (λ (e : Entry). e.made) (cond b (entry_of by made ∷ entries_of n (entries_in (turns_by n turns))) (entries_of n (entries_in (turns_by n turns))))) is))
made_by-turn n by (Some made) turns false is rest =
    ap (λ (b : Bool). map (λ (e : Entry). e.made) (cond b (entry_of by made ∷ entries_of n (entries_in turns)) (entries_of n (entries_in turns)))) is ∙ rest

pub made_by-turns_by : (n : ℕ) (turns : List (Ended Made)) → made_by n turns ≡ made_by n (turns_by n turns)
made_by-turns_by n [] = refl
made_by-turns_by n (turn ∷ turns) = made_by-turn n turn.by turn.entry turns (eqb turn.by n) refl (made_by-turns_by n turns)

-- turns that are the same of a caller have the same of what it made
pub made_by-follows : (n : ℕ) (xs ys : List (Ended Made)) → turns_by n xs ≡ turns_by n ys → made_by n xs ≡ made_by n ys
made_by-follows n xs ys same = made_by-turns_by n xs ∙ (ap (made_by n) same ∙ sym (made_by-turns_by n ys))

-- a caller that has no turns made nothing
pub made_by-none : (n : ℕ) (turns : List (Ended Made)) → turns_by n turns ≡ [] → made_by n turns ≡ []
made_by-none n turns none = made_by-turns_by n turns ∙ ap (made_by n) none

-- ---- the counts of a caller's random source

abbrev last_of : ℕ → List Made → ℕ
last_of faults [] = faults
last_of faults (made ∷ others) = last_of made.entropy.after others

last_as : (n caller faults : ℕ) (made : Made) (others : List Made) (own : Bool) → eqb caller n ≡ own
    → last_of (if own then made.entropy.after else faults) others ≡ last_of faults (cond own (made ∷ others) others)
last_as n caller faults made others true is = refl
last_as n caller faults made others false is = refl

map_cond : (own : Bool) (entry : Entry) (entries : List Entry) → cond own (entry.made ∷ map (λ (e : Entry). e.made) entries) (map (λ (e : Entry). e.made) entries) ≡ map (λ (e : Entry). e.made) (cond own (entry ∷ entries) entries)
map_cond true entry entries = refl
map_cond false entry entries = refl

-- it is where the caller's last entry left it
faults_after : (n : ℕ) (tally : Tally) (history : List Entry) → (after tally history).entropy_faults n ≡ last_of (tally.entropy_faults n) (map (λ (e : Entry). e.made) (entries_of n history))
faults_after n tally [] = refl
faults_after n tally (entry ∷ entries) =
    let others = map (λ (e : Entry). e.made) (entries_of n entries) in
    faults_after n (next tally entry) entries
    ∙ (ap (λ (b : Bool). last_of (if b then entry.made.entropy.after else tally.entropy_faults n) others) (eqb_sym n entry.caller)
    ∙ (last_as n entry.caller (tally.entropy_faults n) entry.made others (eqb entry.caller n) refl
    ∙ ap (last_of (tally.entropy_faults n)) (map_cond (eqb entry.caller n) entry (entries_of n entries))))

-- what others have done since changes nothing of it
pub faults_same : (n : ℕ) (origin : Origin) (xs ys : List (Ended Made)) → turns_by n xs ≡ turns_by n ys
    → (tally_of origin (entries_in xs)).entropy_faults n ≡ (tally_of origin (entries_in ys)).entropy_faults n
faults_same n origin xs ys same =
    faults_after n (tally_at origin) (entries_in xs)
    ∙ (ap (last_of (origin.entropy_faults n)) (made_by-follows n xs ys same) ∙ sym (faults_after n (tally_at origin) (entries_in ys)))

-- after an entry of its own
pub faults_more : (n : ℕ) (origin : Origin) (turns : List (Ended Made)) (made : Made) → (tally_of origin (entries_in (turns ++ turn_of n made ∷ []))).entropy_faults n ≡ made.entropy.after
faults_more n origin turns made =
    ap (λ (l : List Entry). (tally_of origin l).entropy_faults n) (entries_in-more turns n made)
    ∙ (ap (λ (tally : Tally). tally.entropy_faults n) (after_more (tally_at origin) (entries_in turns) (entry_of n made))
    ∙ ap (λ (b : Bool). if b then made.entropy.after else (tally_of origin (entries_in turns)).entropy_faults n) (eqb_same n))

-- ---- a random source that can go on

module _ (start : Rows → Origin → Type 0) where
  -- with turns of others
  pub goes_on_with : (old new : SeatView Made) (before after : ℕ) → new.number ≡ old.number → turns_by old.number new.seen ≡ turns_by old.number old.seen → before ≤ after
      → GoesOn start old before → GoesOn start new after
  goes_on_with old new before after number same later goes = λ rows origin begins.
      let was = goes rows origin begins in
      let is : (tally_of origin (entries_in new.seen)).entropy_faults new.number ≡ (tally_of origin (entries_in old.seen)).entropy_faults old.number =
      ap (λ (n : ℕ). (tally_of origin (entries_in new.seen)).entropy_faults n) number ∙ faults_same old.number origin new.seen old.seen same
      in
      omega (arith, is)

  -- with an entry of its own
  pub goes_on_after : (old new : SeatView Made) (turns : List (Ended Made)) (made : Made) (faults : ℕ) → new.number ≡ old.number → new.seen ≡ turns ++ turn_of old.number made ∷ [] → made.entropy.after ≤ faults
      → GoesOn start new faults
  goes_on_after old new turns made faults number seen high = λ rows origin begins.
      let is : (tally_of origin (entries_in new.seen)).entropy_faults new.number ≡ made.entropy.after =
      (λ i. (tally_of origin (entries_in (seen i))).entropy_faults (number i)) ∙ faults_more old.number origin turns made
      in
      omega (arith, is)

-- ---- one turn more

module _ {T : Type 0} (start : Rows → Origin → Type 0) (stands : T → Rows → Origin → List Entry → Type 0) (draws : Option (List ℕ) → Option (List ℕ) → Made → Type 0) where
  -- a tree that stood for turns stands for one more, in which this was made
  pub record StandsMore (new : T) (asked : Asked) (before after : EntropyView) (turns : List (Ended Made)) (by : ℕ) : Type 0 where
    pub made : Made
    pub is : IsMadeOf draws asked before after made
    pub right : StandsFor start stands new (turns ++ turn_of by made ∷ [])

  pub stands_more : (old new : T) (asked : Asked) (before after : EntropyView) (turns : List (Ended Made)) (by : ℕ) → AddsEntry stands draws old new asked before after → StandsFor start stands old turns
      → ((rows : Rows) (origin : Origin) → start rows origin → (tally_of origin (entries_in turns)).entropy_faults by ≤ before.faults)
      → StandsMore new asked before after turns by
  stands_more old new asked before after turns by adds is fits =
      let one = adds is.rows is.origin (entries_in turns) by is.right (fits is.rows is.origin is.begins) in record {
        made = one.0;
        is = one.1;
        right = record {
          rows = is.rows;
          origin = is.origin;
          begins = is.begins;
          right = subst (λ (l : List Entry). stands new is.rows is.origin l) (sym (entries_in-more turns by one.0)) one.2;
        };
      }
