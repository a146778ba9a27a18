-- One request more of a client.
use Rattle.std.proofs.Common.{◌≡◌, ℕ, ◌+◌, ◌≤◌, Bool, true, false, cond, List, [], ◌∷◌, ◌++◌, map, Option, Some, None, refl, sym, ap, subst, ◌∙◌, inl, inr, arith, length-append, append_assoc, append-nil}
use Rattle.std.specs.Prelude.{not}
use Rattle.std.proofs.lemmas.List.{map-append}
use Rattle.std.proofs.lemmas.List.Elements.{filter-append}
use Rattle.outside.specs.Views.{EntropyView}
use Rattle.tree_model.specs.Asked.{Asked, entered, is_exhausted}
use Rattle.tree_model.specs.History.{Made}
use Rattle.turn_lock.specs.declared.history.Ended.{Ended}
use Rattle.turn_lock.specs.SeatView.{SeatView}
use Rattle.turn_lock.specs.Seats.{IsSpent}
use Rattle.shared_tree.specs.Trees.{IsDrawnFor}
use Rattle.shared_tree.specs.Clients.{ClientView, made_by, HasEntry, HasNoTurn, AreDrawnFor, IsLate, HasAsked}
use Rattle.shared_tree.proofs.Histories.{turn_of, made_by-append, made_by-own}

-- ---- lists

entered-more : (asked : List Asked) (a : Asked) (own : Bool) → not (is_exhausted a.reply) ≡ own → entered (asked ++ a ∷ []) ≡ entered asked ++ cond own (a ∷ []) []
entered-more asked a own is =
    filter-append (λ (x : Asked). not (is_exhausted x.reply)) asked (a ∷ []) ∙ ap (λ (b : Bool). entered asked ++ cond b (a ∷ []) []) is

pub entered-with : (asked : List Asked) (a : Asked) → is_exhausted a.reply ≡ false → entered (asked ++ a ∷ []) ≡ entered asked ++ a ∷ []
entered-with asked a has = entered-more asked a true (ap not has)

pub entered-without : (asked : List Asked) (a : Asked) → is_exhausted a.reply ≡ true → entered (asked ++ a ∷ []) ≡ entered asked
entered-without asked a has = entered-more asked a false (ap not has) ∙ append-nil (entered asked)

module _ (draws : Option (List ℕ) → Option (List ℕ) → Made → Type 0) where
  -- one more was drawn for
  pub drawn_more : (first before after : EntropyView) (all : List Made) (made : Made) → AreDrawnFor draws first before all → IsDrawnFor draws before after made → before.faults ≤ after.faults
      → AreDrawnFor draws first after (all ++ made ∷ [])
  drawn_more first before after [] made h source faults =
      record { next = after; source = subst (λ (v : EntropyView). IsDrawnFor draws v after made) h source; faults = subst (λ (v : EntropyView). v.faults ≤ after.faults) h faults; rest = refl }
  drawn_more first before after (x ∷ all) made h source faults =
      record { next = h.next; source = h.source; faults = h.faults; rest = drawn_more h.next before after all made h.rest source faults }

-- ---- a ticket past the last turn

pub late_of : (old new : SeatView Made) (ticket : ℕ) → IsSpent old new ticket → IsLate new
late_of old new ticket h = elim h.after [
  | inl same ↦ record { ticket = ticket; has = ap (λ (s : SeatView Made). s.ticket) same.1 ∙ same.0; past = h.past }
  | inr drew ↦ record { ticket = ticket; has = ap (λ (s : SeatView Made). s.ticket) drew.1; past = h.past }
]

-- what a ticket past the last turn leaves as it was
pub record StaysAt (old new : SeatView Made) : Type 0 where
  pub lock : new.lock ≡ old.lock
  pub number : new.number ≡ old.number
  pub in_turn : new.in_turn ≡ old.in_turn
  pub seen : new.seen ≡ old.seen
  pub drawn : new.drawn ≤ old.drawn + 1

pub stays_at : (old new : SeatView Made) (ticket : ℕ) → IsSpent old new ticket → StaysAt old new
stays_at old new ticket h = elim h.after [
  | inl same ↦
      let e = same.1 in
      let drawn = ap (λ (s : SeatView Made). s.drawn) e in
      record { lock = ap (λ (s : SeatView Made). s.lock) e; number = ap (λ (s : SeatView Made). s.number) e; in_turn = ap (λ (s : SeatView Made). s.in_turn) e; seen = ap (λ (s : SeatView Made). s.seen) e; drawn = omega (arith, drawn) }
  | inr drew ↦
      let e = drew.1 in
      let drawn = ap (λ (s : SeatView Made). s.drawn) e in
      record { lock = ap (λ (s : SeatView Made). s.lock) e; number = ap (λ (s : SeatView Made). s.number) e; in_turn = ap (λ (s : SeatView Made). s.in_turn) e; seen = ap (λ (s : SeatView Made). s.seen) e; drawn = omega (arith, drawn) }
]

-- ---- what a request adds

module _ {E : Type 0} (draws : Option (List ℕ) → Option (List ℕ) → Made → Type 0) (view : E → EntropyView) where
  pub asked_none : (c : ClientView E) → HasAsked draws view c c []
  asked_none c = record {
    lock = refl;
    number = refl;
    more = [];
    seen = sym (append-nil c.seat.seen);
    own = refl;
    drawn = refl;
    tickets = omega arith;
    in_time = inl refl;
  }

  pub asked_more : (start now new : ClientView E) (asked : List Asked) (a : Asked) → HasAsked draws view start now asked → is_exhausted a.reply ≡ false → HasEntry draws view now new a
      → HasAsked draws view start new (asked ++ a ∷ [])
  asked_more start now new asked a h has x =
      let n : ℕ = start.seat.number in
      let last : List (Ended Made) = x.between ++ turn_of now.seat.number x.made ∷ [] in
      let own : made_by now.seat.number last ≡ x.made ∷ [] =
      made_by-append now.seat.number x.between (turn_of now.seat.number x.made ∷ []) ∙ (λ i. x.others i ++ made_by-own now.seat.number x.made i)
      in
      let mine : made_by n last ≡ x.made ∷ [] = subst (λ (m : ℕ). made_by m last ≡ x.made ∷ []) h.number own in
      let all : made_by n (h.more ++ last) ≡ made_by n h.more ++ x.made ∷ [] = made_by-append n h.more last ∙ ap (λ (l : List Made). made_by n h.more ++ l) mine in
      let size = length-append asked (a ∷ []) in
      let drew = h.tickets in
      let tickets = x.tickets in record {
        lock = ap (λ (s : SeatView Made). s.lock) x.seat ∙ h.lock;
        number = ap (λ (s : SeatView Made). s.number) x.seat ∙ h.number;
        more = h.more ++ last;
        seen = x.seen ∙ (append_assoc now.seat.seen x.between (turn_of now.seat.number x.made ∷ [])
            ∙ (ap (λ (l : List (Ended Made)). l ++ last) h.seen ∙ append_assoc start.seat.seen h.more last));
        own = ap (map (λ (m : Made). m.asked)) all
            ∙ (map-append (λ (m : Made). m.asked) (made_by n h.more) (x.made ∷ [])
            ∙ ((λ i. h.own i ++ (x.is.same i ∷ [])) ∙ sym (entered-with asked a has)));
        drawn = subst (AreDrawnFor draws (view start.entropy) (view new.entropy)) (sym all)
            (drawn_more draws (view start.entropy) (view now.entropy) (view new.entropy) (made_by n h.more) x.made h.drawn x.is.source x.faults);
        tickets = omega arith;
        in_time = elim h.in_time [
          | inl same ↦ inl (entered-with asked a has ∙ ap (λ (l : List Asked). l ++ a ∷ []) same)
          | inr late ↦ (let clash : None ≡ Some late.ticket = sym x.in_time ∙ late.has in absurd (cc))
        ];
      }

  pub refused_more : (start now new : ClientView E) (asked : List Asked) (a : Asked) (ticket : ℕ) → HasAsked draws view start now asked → is_exhausted a.reply ≡ true → HasNoTurn now new ticket
      → HasAsked draws view start new (asked ++ a ∷ [])
  refused_more start now new asked a ticket h has x =
      let stays = stays_at now.seat new.seat ticket x.spent in
      let size = length-append asked (a ∷ []) in
      let drew = h.tickets in
      let tickets = stays.drawn in record {
        lock = stays.lock ∙ h.lock;
        number = stays.number ∙ h.number;
        more = h.more;
        seen = stays.seen ∙ h.seen;
        own = h.own ∙ sym (entered-without asked a has);
        drawn = subst (λ (e : E). AreDrawnFor draws (view start.entropy) (view e) (made_by start.seat.number h.more)) (sym x.entropy) h.drawn;
        tickets = omega arith;
        in_time = inr (late_of now.seat new.seat ticket x.spent);
      }
