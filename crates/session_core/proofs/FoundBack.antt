-- A session is what is found by looking back over its messages.
use Rattle.std.proofs.Common.{◌≡◌, ℕ, List, [], ◌∷◌, ◌++◌, Option, Some, None, Result, Ok, Err, refl, sym, ap, subst, ◌∙◌}
use Rattle.std.specs.Prelude.{is_some, if◌then◌else◌}
use Rattle.std.specs.List.{last_or, filter_map, cons_option}
use Rattle.std.specs.Option.{option_and_then}
use Rattle.std.specs.Ordering.{nat_cmp}
use Rattle.std.specs.FinMap.{get-empty}
use Rattle.std.proofs.lemmas.List.{append-nil, append_assoc}
use Rattle.std.proofs.lemmas.List.Elements.{filter_map-append}
use Rattle.tree_model.specs.Asked.{Asked}
use Rattle.ninep_wire.specs.declared.fault.WireErr.{WireErr}
use Rattle.ninep_wire.specs.declared.fault.WireErr.TheVariants.{Kind, Names, Short, Text, Long}
use Rattle.ninep_wire.specs.TMessage as t
use Rattle.ninep_wire.specs.TMessage.{PlainTMessage, PlainMessage}
use Rattle.ninep_wire.specs.RMessage.{PlainRMessage}
use Rattle.ninep_wire.specs.Reading.{message_in}
use Rattle.session_core.specs.State.{Fid, State, fresh}
use Rattle.session_core.specs.Action.{agreed_action, action_without}
use Rattle.session_core.specs.Session.{action_on, IsDone}
use Rattle.session_core.specs.LookBack.{Exchange, version_answer, agreed_by, agreed_size, Effect, leaves, frees, puts, follows, effect, FidIs, never_set, was_freed, was_put, has_followed, Leads, AreHeld, IsFoundBack}
use Rattle.session_core.proofs.ReadsOn.{last_snoc}
use Rattle.session_core.proofs.Backs.{given_of, back_here, stays, one_found}
use Rattle.session_core.proofs.Effects.{fid_in, Leaves, SizeIs, IsEffect, kept, HasNone, agreed_does, without_does}

-- what an exchange leaves
record IsLed (s : State) (e : Exchange) (next : State) : Type 0 where
  pub fids : (f : ℕ) → Leaves (effect f e) s f (given_of f e) (fid_in next f)
  pub size : SizeIs (version_answer e) s.size next.size
  pub none : next.size ≡ None → HasNone next

-- ---- without a size there are no fids

-- in a session with a size
none_agreed : (s next : State) (m : PlainTMessage) (answer : PlainRMessage) (size : ℕ) → s.size ≡ Some size → IsEffect s m answer next → next.size ≡ None → HasNone next
none_agreed s next (t.version msize version) answer size is does none = does.fids
none_agreed s next _ answer size is does none = let same = does.size in cc

-- in one without
none_without : (s next : State) (tag : ℕ) (m : PlainTMessage) (second : ℕ) (asked : Option Asked) (answer : PlainRMessage) → HasNone s
    → IsDone (action_without s m) s (Ok (record { tag = tag; body = m })) second asked answer next → IsEffect s m answer next → HasNone next
none_without s next tag (t.version msize version) second asked answer none done does = does.fids
none_without s next tag _ second asked answer none done does = subst HasNone (sym done.2) none

-- ---- one exchange

by_size : (s next : State) (m : PlainMessage) (second : ℕ) (asked : Option Asked) (answer : PlainRMessage) (size : Option ℕ) → s.size ≡ size → (s.size ≡ None → HasNone s)
    → IsDone (if is_some size then agreed_action s m.body else action_without s m.body) s (Ok m) second asked answer next
    → IsLed s (record { given = Ok m; answer = answer }) next
by_size s next m second asked answer (Some size) is none done =
    let does = (agreed_does s m.tag m.body).is second asked answer next done in
    record { fids = does.fids; size = does.size; none = none_agreed s next m.body answer size is does }
by_size s next m second asked answer None is none done =
    let empty = none is in
    let does = (without_does s m.tag m.body empty).is second asked answer next done in
    record { fids = does.fids; size = does.size; none = λ _. none_without s next m.tag m.body second asked answer empty done does }

unread : (s next : State) (fault : WireErr) (answer : PlainRMessage) → (s.size ≡ None → HasNone s) → next ≡ s → IsLed s (record { given = Err fault; answer = answer }) next
unread s next fault answer none same = record {
  fids = λ f. ap (λ (n : State). fid_in n f) same ∙ kept (fid_in s f);
  size = ap (λ (n : State). n.size) same;
  none = λ h. subst HasNone (sym same) (none (ap (λ (n : State). n.size) (sym same) ∙ h));
}

led : (s next : State) (given : Result PlainMessage WireErr) (second : ℕ) (asked : Option Asked) (answer : PlainRMessage) → (s.size ≡ None → HasNone s)
    → IsDone (action_on s given) s given second asked answer next → IsLed s (record { given = given; answer = answer }) next
led s next (Ok m) second asked answer none done = by_size s next m second asked answer s.size refl none done
led s next (Err (Kind kind)) second asked answer none done = unread s next (Kind kind) answer none done.2
led s next (Err Short) second asked answer none done = unread s next Short answer none done.2
led s next (Err Long) second asked answer none done = unread s next Long answer none done.2
led s next (Err Text) second asked answer none done = unread s next Text answer none done.2
led s next (Err (Names n)) second asked answer none done = unread s next (Names n) answer none done.2

led_by : (s next : State) (e : Exchange) → (s.size ≡ None → HasNone s) → Leads s e next → IsLed s e next
led_by s next e none leads =
    led s next e.given leads.second leads.asked e.answer none
    (subst (λ (given : Result PlainMessage WireErr). IsDone (action_on s given) s given leads.second leads.asked e.answer next) (sym leads.given_is)
    (subst (λ (answer : PlainRMessage). IsDone (action_on s (message_in leads.frame)) s (message_in leads.frame) leads.second leads.asked answer next)
    (sym leads.answer_is) leads.exchanged.is_done))

-- ---- looking back over one more

agreed_snoc : (past : List Exchange) (e : Exchange) (answer : Option PlainRMessage) (old new : Option ℕ) → version_answer e ≡ answer → old ≡ agreed_size past
    → SizeIs answer old new → new ≡ agreed_size (past ++ e ∷ [])
agreed_snoc past e answer old new is before size =
    let all : filter_map version_answer (past ++ e ∷ []) ≡ filter_map version_answer past ++ cons_option answer [] =
    filter_map-append version_answer past (e ∷ []) ∙ ap (λ (o : Option PlainRMessage). filter_map version_answer past ++ cons_option o []) is
    in
    by_answer answer size ∙ sym (ap (λ (l : List PlainRMessage). option_and_then agreed_by (last_or None l)) all)
  where
    by_answer : (answer : Option PlainRMessage) → SizeIs answer old new
        → new ≡ option_and_then agreed_by (last_or None (filter_map version_answer past ++ cons_option answer []))
    by_answer None h = h ∙ before ∙ sym (ap (λ (l : List PlainRMessage). option_and_then agreed_by (last_or None l)) (append-nil (filter_map version_answer past)))
    by_answer (Some a) h = h ∙ sym (ap (option_and_then agreed_by) (last_snoc None (filter_map version_answer past) a))

found_snoc : (past : List Exchange) (s : State) (e : Exchange) (f : ℕ) (fid : Option Fid) (x : Effect) → ((g : ℕ) → FidIs past g (fid_in s g)) → effect f e ≡ x
    → Leaves x s f (given_of f e) fid → FidIs (past ++ e ∷ []) f fid
found_snoc past s e f fid leaves found is h = subst (FidIs (past ++ e ∷ []) f) (sym h) (stays past f (fid_in s f) e (found f) is)
found_snoc past s e f fid frees found is h = subst (FidIs (past ++ e ∷ []) f) (sym h) (was_freed (past ++ e ∷ []) f (back_here f past e) is)
found_snoc past s e f fid (puts q mode) found is h =
    subst (FidIs (past ++ e ∷ []) f) (sym h) (was_put (past ++ e ∷ []) f (back_here f past e) q mode is)
found_snoc past s e f fid (follows g) found is h =
    subst (FidIs (past ++ e ∷ []) f) (sym h.2) (has_followed (past ++ e ∷ []) f (back_here f past e) g h.0 is (subst (FidIs past g) h.1 (found g)))

-- what was found so far
record IsFound (past : List Exchange) (s : State) : Type 0 where
  pub size : s.size ≡ agreed_size past
  pub fids : (f : ℕ) → FidIs past f (fid_in s f)
  pub none : s.size ≡ None → HasNone s

found_on : (past : List Exchange) (s : State) (exchanges : List Exchange) (last : State) → IsFound past s → AreHeld s exchanges last → IsFound (past ++ exchanges) last
found_on past s [] last found held = subst (λ (p : List Exchange). IsFound p last) (sym (append-nil past)) (subst (IsFound past) (sym held) found)
found_on past s (e ∷ exchanges) last found held =
    let next = held.0 in
    let by = led_by s next e found.none held.1 in
    let more : IsFound (past ++ e ∷ []) next = record {
      size = agreed_snoc past e (version_answer e) s.size next.size refl found.size by.size;
      fids = λ f. found_snoc past s e f (fid_in next f) (effect f e) found.fids refl (by.fids f);
      none = by.none;
    } in
    subst (λ (p : List Exchange). IsFound p last) (append_assoc past (e ∷ []) exchanges) (found_on (past ++ e ∷ []) next exchanges last more held.2)

pub found_back : (past : List Exchange) (s : State) → AreHeld fresh past s → IsFoundBack past s
found_back past s held =
    let start : IsFound [] fresh = record {
      size = refl;
      fids = λ f. subst (FidIs [] f) (sym (get-empty nat_cmp f)) (never_set [] f tt);
      none = λ _ f. get-empty nat_cmp f;
    } in
    let found = found_on [] fresh past s start held in
    record {
      size = found.size;
      found = found.fids;
      alone = λ f fid is. one_found past f fid is (fid_in s f) (found.fids f);
      none = found.none;
    }
