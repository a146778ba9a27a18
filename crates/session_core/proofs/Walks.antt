-- The change that a walk makes.
use Rattle.std.proofs.Common.{◌≡◌, ℕ, zero, suc, ◌-◌, ◌<◌, ◌≤◌, eqb, true, List, [], ◌∷◌, length, take, drop, get_or, Option, Some, None, refl, sym, ap, ◌∙◌, arith}
use Rattle.std.specs.List.{last_or}
use Rattle.std.proofs.lemmas.Bool.{eq-eqb}
use Rattle.std.proofs.lemmas.List.{length-take}
use denote.Bor.{Bor}
use Rattle.tree_model.specs.declared.stat.Qid.{Qid}
use Rattle.tree_model.specs.declared.request.Names.{Names}
use Rattle.tree_model.specs.Names.{names_in, IsWalk}
use Rattle.tree_model.specs.Asked.{walked}
use Rattle.ninep_wire.specs.declared.r_message.RMessage.TheVariants as messages
use Rattle.ninep_wire.specs.TMessage as t
use Rattle.ninep_wire.specs.RMessage as r
use Rattle.session_core.specs.declared.change.Change.{Change}
use Rattle.session_core.specs.declared.change.Change.TheVariants as changes
use Rattle.session_core.specs.declared.slot.Place.{Place}
use Rattle.session_core.specs.State.{State, HasGoodSize, closed, set}
use Rattle.session_core.specs.Slot.{placed}
use Rattle.session_core.specs.Outcome.{outcome}
use Rattle.session_core.specs.Forms.{IsWalkChange, AnswersTo}

last_take : (qids : List Qid) (k : ℕ) (o : Option Qid) (d : Qid) → k < length qids → last_or o (take (suc k) qids) ≡ Some (get_or qids k d)
last_take [] k o d lt = absurd (omega arith)
last_take (q ∷ qids) zero o d lt = refl
last_take (q ∷ qids) (suc k) o d lt = last_take qids k (Some q) d (omega arith)

-- the last of the first so many
pub last_of_front : (qids : List Qid) (count : ℕ) (d : Qid) → (count ≡ 0 → ⊥) → count ≤ length qids → last_or None (take count qids) ≡ Some (get_or qids (count - 1) d)
last_of_front qids zero d some le = absurd (some refl)
last_of_front qids (suc k) d some le = last_take qids k None d (omega arith) ∙ ap (λ (i : ℕ). Some (get_or qids i d)) (omega arith)

-- all names were walked
pub walked_all : (newfid n count : ℕ) (qids : List Qid) (d : Qid) (place : Place) → (count ≡ 0 → ⊥) → count ≡ n → count ≤ length qids → placed place ≡ closed (get_or qids (count - 1) d)
    → IsWalkChange newfid n (take count qids) (changes.Set newfid place)
walked_all newfid n count qids d place some all le is s names bytes len can =
    let same : eqb (length (take count qids)) (length names) ≡ true = eq-eqb _ _ (omega (arith, length-take count qids, len, all)) in (
      ap (set s newfid) is ∙ sym (rw (same, last_of_front qids count d some le) refl),
      can,
      refl,
    )

pub walk_answered : (s : State) (fid newfid : ℕ) (names : Names) (count : ℕ) (qids : Bor (List Qid)) (change : Change) → HasGoodSize s → IsWalk names.count names.bytes.now
    → count ≤ 16 → count ≤ length qids.now → IsWalkChange newfid names.count (take count qids.now) change
    → AnswersTo s (t.walk fid newfid (names_in names.count names.bytes.now)) (walked (take count qids.now)) (messages.Walk count qids) change
walk_answered s fid newfid names count qids change good walk few long is out bytes ok =
    let w = is s (names_in names.count names.bytes.now) (drop 11 out) walk.names.count ok.suited in record {
      is = ap (λ (n : State). outcome (r.walk (take count qids.now)) n) (sym w.0);
      sayable = record { form = (few, long); size = omega (arith, good.low, few); can = w.1 };
      keeps = w.2;
    }
