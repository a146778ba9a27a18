-- What each message and its answer do to each fid is what the session keeps of it.
use Rattle.std.proofs.Common.{◌≡◌, ℕ, ◌+◌, Bool, true, false, cond, eqb, List, [], ◌∷◌, length, Option, Some, None, Ok, refl, sym, ap, subst, ◌∙◌}
use Rattle.std.specs.Prelude.{◌&&◌, is_some, not, min, nat_lt, nat_le, ◌==◌}
use Rattle.std.specs.List.{last_or}
use Rattle.std.specs.Option.{option_map, option_map_or}
use Rattle.std.specs.Ordering.{nat_cmp}
use Rattle.std.specs.Cmp.{nat_cmp_total}
use Rattle.std.specs.FinMap as map
use Rattle.std.specs.FinMap.{get-insert, get-remove, get-empty}
use Rattle.std.proofs.lemmas.Bool.{eqb-true}
use Rattle.tree_model.specs.declared.stat.Qid.{Qid}
use Rattle.tree_model.specs.Asked.{PlainChange, PlainRequest, PlainReply, qid, walked, count, stat, done, refused, Asked}
use Rattle.ninep_wire.specs.TMessage as t
use Rattle.ninep_wire.specs.TMessage.{PlainTMessage, PlainMessage}
use Rattle.ninep_wire.specs.RMessage as r
use Rattle.ninep_wire.specs.RMessage.{PlainRMessage}
use Rattle.session_core.specs.State.{Opened, Fid, State, no_fid, fid_limit, least_message, most_message, closed, open_with, set, free, fresh}
use Rattle.session_core.specs.Action.{Action, says, asks, refuses, with_unused, is_mode, is_perm, makes_dir, reads, writes, is_protocol, walk_action, agreed_action, action_without, version_action, protocol, unknown_version}
use Rattle.session_core.specs.Outcome.{Outcome, outcome_of, read_on}
use Rattle.session_core.specs.Session.{IsDone}
use Rattle.session_core.specs.Texts as texts
use Rattle.session_core.specs.LookBack.{Effect, leaves, frees, puts, follows, effect_by, Given, given_by, answer_by, agreed_by, fid_put, not_open}
use Rattle.session_core.proofs.Maps.{ties}
use Rattle.session_core.proofs.ReadsOn.{read_by, open_put}

abbrev pub fid_in : State → ℕ → Option Fid
fid_in s f = map.get s.fids f

-- what an effect, and what was read, leave of fid f
abbrev pub Leaves : Effect → State → ℕ → List Given → Option Fid → Type 0
Leaves leaves s f given fid = fid ≡ option_map (read_by given) (fid_in s f)
Leaves frees s f given fid = fid ≡ None
Leaves (puts q mode) s f given fid = fid ≡ Some (fid_put q mode [])
Leaves (follows g) s f given fid = (from : Fid) × (fid_in s g ≡ Some from) × (fid ≡ Some (not_open from))

-- the size is the one that an answer to a Tversion agrees to, or as it was
abbrev pub SizeIs : Option PlainRMessage → Option ℕ → Option ℕ → Type 0
SizeIs None old new = new ≡ old
SizeIs (Some answer) old new = new ≡ agreed_by answer

pub record IsEffect (s : State) (m : PlainTMessage) (answer : PlainRMessage) (next : State) : Type 0 where
  pub fids : (f : ℕ) → Leaves (effect_by f m answer) s f (given_by f m answer) (fid_in next f)
  pub size : SizeIs (answer_by m answer) s.size next.size

-- ---- maps

pub kept : (fid : Option Fid) → fid ≡ option_map (read_by []) fid
kept None = refl
kept (Some fid) = refl

got_set : (s : State) (g : ℕ) (fid : Fid) (f : ℕ) → fid_in (set s g fid) f ≡ cond (eqb g f) (Some fid) (fid_in s f)
got_set s g fid f = get-insert nat_cmp_total s.fids g fid f ∙ ap (λ (b : Bool). cond b (Some fid) (fid_in s f)) (ties f g)

got_free : (s : State) (g f : ℕ) → fid_in (free s g) f ≡ cond (eqb g f) None (fid_in s f)
got_free s g f = get-remove nat_cmp_total s.fids g f ∙ ap (λ (b : Bool). cond b None (fid_in s f)) (ties f g)

set_by : (b : Bool) (s : State) (f : ℕ) (fid : Fid) (q : Qid) (mode : Option ℕ) (x : Option Fid) → x ≡ cond b (Some fid) (fid_in s f) → fid ≡ fid_put q mode []
    → Leaves (cond b (puts q mode) leaves) s f [] x
set_by true s f fid q mode x h is = h ∙ ap Some is
set_by false s f fid q mode x h is = h ∙ kept (fid_in s f)

free_by : (b : Bool) (s : State) (f : ℕ) (x : Option Fid) → x ≡ cond b None (fid_in s f) → Leaves (cond b frees leaves) s f [] x
free_by true s f x h = h
free_by false s f x h = h ∙ kept (fid_in s f)

-- a fid that isn't in use is freed as it is
absent_by : (b : Bool) (s : State) (g f : ℕ) → eqb g f ≡ b → fid_in s g ≡ None → Leaves (cond b frees leaves) s f [] (fid_in s f)
absent_by true s g f same none = subst (λ (k : ℕ). fid_in s k ≡ None) (eqb-true g f same) none
absent_by false s g f same none = kept (fid_in s f)

-- ---- ways in which a message is answered

-- of any answer
pub record Does (s : State) (m : PlainMessage) (action : Action) : Type 0 where
  pub is : (second : ℕ) (asked : Option Asked) (answer : PlainRMessage) (next : State) → IsDone action s (Ok m) second asked answer next → IsEffect s m.body answer next

said : (s : State) (m : PlainMessage) (a : PlainRMessage) (n : State) → IsEffect s m.body a n → Does s m (says a n)
said s m a n is = record {
  is = λ second asked answer next h.
      subst (λ (b : PlainRMessage). IsEffect s m.body b next) (sym h.1) (subst (λ (x : State). IsEffect s m.body a x) (sym h.2) is);
}

abbrev IsEffectOf : State → PlainTMessage → Option Outcome → Type 0
IsEffectOf s m None = Unit {0}
IsEffectOf s m (Some o) = IsEffect s m o.answer o.next

asked_for : (s : State) (m : PlainMessage) (request : PlainRequest) → ((reply : PlainReply) (bytes : List ℕ) → IsEffectOf s m.body (outcome_of s m.body reply bytes))
    → Does s m (asks request)
asked_for s m request is = record {
  is = λ second asked answer next h. let entry = h.0 in subst (IsEffectOf s m.body) h.4 (is entry.reply entry.bytes);
}

test : (b : Bool) (s : State) (m : PlainMessage) (x y : Action) → Does s m x → Does s m y → Does s m (cond b x y)
test true s m x y holds fails = holds
test false s m x y holds fails = fails

in_use : (s : State) (m : PlainMessage) (f : ℕ) (action : Fid → Action) (text : List ℕ) (fid : Option Fid) → fid_in s f ≡ fid
    → (fid_in s f ≡ None → Does s m (refuses text s)) → ((found : Fid) → fid_in s f ≡ Some found → Does s m (action found))
    → Does s m (option_map_or action fid (refuses text s))
in_use s m f action text None is fails holds = fails is
in_use s m f action text (Some found) is fails holds = holds found is

opened_by : (s : State) (m : PlainMessage) (action : Opened → Action) (text : List ℕ) (opened : Option Opened) → Does s m (refuses text s)
    → ((found : Opened) → Does s m (action found)) → Does s m (option_map_or action opened (refuses text s))
opened_by s m action text None fails holds = fails
opened_by s m action text (Some found) fails holds = holds found

closed_by : (s : State) (m : PlainMessage) (action : Action) (text : List ℕ) (opened : Option Opened) → Does s m (refuses text s) → (opened ≡ None → Does s m action)
    → Does s m (cond (is_some opened) (refuses text s) action)
closed_by s m action text None fails holds = holds refl
closed_by s m action text (Some found) fails holds = fails

-- ---- the messages

abbrev as_read : ℕ → PlainTMessage → PlainMessage
as_read tag body = record { tag = tag; body = body }

-- all stays as it was
as_was : (s : State) (m : PlainTMessage) (a : PlainRMessage) → ((f : ℕ) → effect_by f m a ≡ leaves) → ((f : ℕ) → given_by f m a ≡ []) → answer_by m a ≡ None
    → IsEffect s m a s
as_was s m a left nothing other = record {
  fids = λ f. subst (λ (e : Effect). Leaves e s f (given_by f m a) (fid_in s f)) (sym (left f))
      (subst (λ (given : List Given). fid_in s f ≡ option_map (read_by given) (fid_in s f)) (sym (nothing f)) (kept (fid_in s f)));
  size = subst (λ (o : Option PlainRMessage). SizeIs o s.size s.size) (sym other) refl;
}

-- a refusal of a message whose Rerror leaves all as it was
refusal : (s : State) (tag : ℕ) (body : PlainTMessage) (text : List ℕ) → ((f : ℕ) → effect_by f body (r.error text) ≡ leaves) → ((f : ℕ) → given_by f body (r.error text) ≡ [])
    → answer_by body (r.error text) ≡ None → Does s (as_read tag body) (refuses text s)
refusal s tag body text left nothing other = said s (as_read tag body) (r.error text) s (as_was s body (r.error text) left nothing other)

all_freed : (s : State) (msize : ℕ) (version : List ℕ) (a : PlainRMessage) (size : Option ℕ) → size ≡ agreed_by a
    → IsEffect s (t.version msize version) a (record { size = size; fids = map.empty })
all_freed s msize version a size is = record { fids = λ f. get-empty nat_cmp f; size = is }

pub version_does : (s : State) (tag msize : ℕ) (version : List ℕ) → Does s (as_read tag (t.version msize version)) (version_action msize version)
version_does s tag msize version =
    let m = as_read tag (t.version msize version) in
    let size = min msize most_message in
    test (nat_lt msize least_message) s m _ _ (said s m (r.error texts.message_size_too_small) fresh (all_freed s msize version _ None refl))
    (test (is_protocol version) s m _ _ (said s m (r.version size protocol) _ (all_freed s msize version (r.version size protocol) (Some size) refl))
    (said s m (r.version size unknown_version) fresh (all_freed s msize version _ None refl)))

attached : (s : State) (g afid : ℕ) (uname aname : List ℕ) (reply : PlainReply) (bytes : List ℕ)
    → IsEffectOf s (t.attach g afid uname aname) (outcome_of s (t.attach g afid uname aname) reply bytes)
attached s g afid uname aname (refused refusal) bytes = as_was s (t.attach g afid uname aname) _ (λ f. refl) (λ f. refl) refl
attached s g afid uname aname (qid q) bytes = record { fids = λ f. set_by (eqb g f) s f (closed q) q None _ (got_set s g (closed q) f) refl; size = refl }
attached s g afid uname aname _ bytes = tt

-- a fid that is not in use
unused : (s : State) (m : PlainMessage) (f : ℕ) (action : Action) → ((text : List ℕ) → Does s m (refuses text s)) → Does s m action → Does s m (with_unused s f action)
unused s m f action fails goes =
    test (map.contains_key s.fids f) s m _ _ (fails _) (test (nat_le fid_limit (map.len s.fids)) s m _ _ (fails _) goes)

attach_does : (s : State) (tag g afid : ℕ) (uname aname : List ℕ) → Does s (as_read tag (t.attach g afid uname aname)) (agreed_action s (t.attach g afid uname aname))
attach_does s tag g afid uname aname =
    let body = t.attach g afid uname aname in
    let m = as_read tag body in
    let fails : (text : List ℕ) → Does s m (refuses text s) = λ text. refusal s tag body text (λ f. refl) (λ f. refl) refl in
    test (not (afid == no_fid)) s m _ _ (fails _) (test (g == no_fid) s m _ _ (fails _) (unused s m g _ fails (asked_for s m _ (attached s g afid uname aname))))

-- a walk without names
follow_by : (b : Bool) (s : State) (g f : ℕ) (from : Fid) (x : Option Fid) → x ≡ cond b (Some from) (fid_in s f) → fid_in s g ≡ Some from → from.opened ≡ None
    → Leaves (cond b (follows g) leaves) s f [] x
follow_by true s g f from x h used closed =
    (from, used, h ∙ ap (λ (o : Option Opened). Some (record { node = from.node; is_dir = from.is_dir; opened = o })) closed)
follow_by false s g f from x h used closed = h ∙ kept (fid_in s f)

never_put : (b : Bool) (s : State) (f : ℕ) → Leaves (cond b leaves leaves) s f [] (fid_in s f)
never_put true s f = kept (fid_in s f)
never_put false s f = kept (fid_in s f)

-- a walk along names, by whether all were walked
walk_by : (b : Bool) (o : Option Qid) (s : State) (newfid f : ℕ)
    → Leaves (cond (b && eqb newfid f) (option_map_or (λ q. puts q None) o leaves) leaves) s f []
    (fid_in (cond b (option_map_or (λ q. set s newfid (closed q)) o s) s) f)
walk_by false o s newfid f = kept (fid_in s f)
walk_by true None s newfid f = never_put (eqb newfid f) s f
walk_by true (Some q) s newfid f = set_by (eqb newfid f) s f (closed q) q None _ (got_set s newfid (closed q) f) refl

walk_size : (b : Bool) (o : Option Qid) (s : State) (newfid : ℕ) → (cond b (option_map_or (λ q. set s newfid (closed q)) o s) s).size ≡ s.size
walk_size false o s newfid = refl
walk_size true None s newfid = refl
walk_size true (Some q) s newfid = refl

walked_along : (s : State) (g newfid : ℕ) (name : List ℕ) (names : List (List ℕ)) (reply : PlainReply) (bytes : List ℕ)
    → IsEffectOf s (t.walk g newfid (name ∷ names)) (outcome_of s (t.walk g newfid (name ∷ names)) reply bytes)
walked_along s g newfid name names (refused refusal) bytes = as_was s (t.walk g newfid (name ∷ names)) _ (λ f. refl) (λ f. refl) refl
walked_along s g newfid name names (walked qids) bytes = record {
  fids = λ f. walk_by (eqb (length qids) (length (name ∷ names))) (last_or None qids) s newfid f;
  size = walk_size (eqb (length qids) (length (name ∷ names))) (last_or None qids) s newfid;
}
walked_along s g newfid name names _ bytes = tt

walk_on : (s : State) (tag g newfid : ℕ) (names : List (List ℕ)) (from : Fid) → fid_in s g ≡ Some from → from.opened ≡ None
    → Does s (as_read tag (t.walk g newfid names)) (walk_action s from newfid names)
walk_on s tag g newfid [] from used closed =
    said s (as_read tag (t.walk g newfid [])) (r.walk []) (set s newfid from)
    (record { fids = λ f. follow_by (eqb newfid f) s g f from _ (got_set s newfid from f) used closed; size = refl })
walk_on s tag g newfid (name ∷ names) from used closed = asked_for s (as_read tag (t.walk g newfid (name ∷ names))) _ (walked_along s g newfid name names)

walk_error : (g newfid : ℕ) (names : List (List ℕ)) (text : List ℕ) (f : ℕ) → effect_by f (t.walk g newfid names) (r.error text) ≡ leaves
walk_error g newfid [] text f = refl
walk_error g newfid (name ∷ names) text f = refl

walk_does : (s : State) (tag g newfid : ℕ) (names : List (List ℕ)) → Does s (as_read tag (t.walk g newfid names)) (agreed_action s (t.walk g newfid names))
walk_does s tag g newfid names =
    let body = t.walk g newfid names in
    let m = as_read tag body in
    let fails : (text : List ℕ) → Does s m (refuses text s) = λ text. refusal s tag body text (walk_error g newfid names text) (λ f. refl) refl in
    in_use s m g _ _ (fid_in s g) refl (λ none. fails _) (λ from used. closed_by s m _ _ from.opened (fails _) (λ closed.
    let goes = walk_on s tag g newfid names from used closed in
    test (newfid == no_fid) s m _ _ (fails _) (test (newfid == g) s m _ _ goes (unused s m newfid _ fails goes))))

-- a node that is opened
opened_at : (s : State) (g mode : ℕ) (q : Qid) (f : ℕ) → Leaves (cond (eqb g f) (puts q (Some mode)) leaves) s f [] (fid_in (set s g (open_with mode q)) f)
opened_at s g mode q f = set_by (eqb g f) s f (open_with mode q) q (Some mode) _ (got_set s g (open_with mode q) f) (open_put mode q)

opened : (s : State) (g mode : ℕ) (reply : PlainReply) (bytes : List ℕ) → IsEffectOf s (t.open_fid g mode) (outcome_of s (t.open_fid g mode) reply bytes)
opened s g mode (refused refusal) bytes = as_was s (t.open_fid g mode) _ (λ f. refl) (λ f. refl) refl
opened s g mode (qid q) bytes = record { fids = opened_at s g mode q; size = refl }
opened s g mode _ bytes = tt

open_does : (s : State) (tag g mode : ℕ) → Does s (as_read tag (t.open_fid g mode)) (agreed_action s (t.open_fid g mode))
open_does s tag g mode =
    let body = t.open_fid g mode in
    let m = as_read tag body in
    let fails : (text : List ℕ) → Does s m (refuses text s) = λ text. refusal s tag body text (λ f. refl) (λ f. refl) refl in
    in_use s m g _ _ (fid_in s g) refl (λ none. fails _) (λ from used. closed_by s m _ _ from.opened (fails _) (λ closed.
    test (not (is_mode mode)) s m _ _ (fails _) (asked_for s m _ (opened s g mode))))

created : (s : State) (g : ℕ) (name : List ℕ) (perm mode : ℕ) (reply : PlainReply) (bytes : List ℕ)
    → IsEffectOf s (t.create g name perm mode) (outcome_of s (t.create g name perm mode) reply bytes)
created s g name perm mode (refused refusal) bytes = as_was s (t.create g name perm mode) _ (λ f. refl) (λ f. refl) refl
created s g name perm mode (qid q) bytes = record { fids = opened_at s g mode q; size = refl }
created s g name perm mode _ bytes = tt

create_does : (s : State) (tag g : ℕ) (name : List ℕ) (perm mode : ℕ) → Does s (as_read tag (t.create g name perm mode)) (agreed_action s (t.create g name perm mode))
create_does s tag g name perm mode =
    let body = t.create g name perm mode in
    let m = as_read tag body in
    let fails : (text : List ℕ) → Does s m (refuses text s) = λ text. refusal s tag body text (λ f. refl) (λ f. refl) refl in
    in_use s m g _ _ (fid_in s g) refl (λ none. fails _) (λ from used. closed_by s m _ _ from.opened (fails _) (λ closed.
    test (not (is_perm perm)) s m _ _ (fails _) (test (not (is_mode mode)) s m _ _ (fails _)
    (test (makes_dir perm && not (mode == 0)) s m _ _ (fails _) (asked_for s m _ (created s g name perm mode))))))

-- ---- reading

read_by_one : (b : Bool) (s : State) (g f : ℕ) (given : Given) (fid : Option Fid) → eqb g f ≡ b → fid_in s g ≡ fid
    → Leaves leaves s f (cond b (given ∷ []) []) (fid_in (option_map_or (λ fid. set s g (read_on given.offset given.bytes fid)) fid s) f)
read_by_one true s g f given None same is =
    let here : fid_in s f ≡ None = subst (λ (k : ℕ). fid_in s k ≡ None) (eqb-true g f same) is in
    here ∙ sym (ap (option_map (read_by (given ∷ []))) here)
read_by_one true s g f given (Some fid) same is =
    let here : fid_in s f ≡ Some fid = subst (λ (k : ℕ). fid_in s k ≡ Some fid) (eqb-true g f same) is in
    let read = read_on given.offset given.bytes fid in
    got_set s g read f ∙ ap (λ (b : Bool). cond b (Some read) (fid_in s f)) same ∙ sym (ap (option_map (read_by (given ∷ []))) here)
read_by_one false s g f given None same is = kept (fid_in s f)
read_by_one false s g f given (Some fid) same is =
    let read = read_on given.offset given.bytes fid in
    got_set s g read f ∙ ap (λ (b : Bool). cond b (Some read) (fid_in s f)) same ∙ kept (fid_in s f)

read_size : (s : State) (g : ℕ) (change : Fid → Fid) (fid : Option Fid) → (option_map_or (λ fid. set s g (change fid)) fid s).size ≡ s.size
read_size s g change None = refl
read_size s g change (Some fid) = refl

was_read : (s : State) (g offset most : ℕ) (reply : PlainReply) (bytes : List ℕ) → IsEffectOf s (t.read g offset most) (outcome_of s (t.read g offset most) reply bytes)
was_read s g offset most (refused refusal) bytes = as_was s (t.read g offset most) _ (λ f. refl) (λ f. refl) refl
was_read s g offset most (count n) bytes = record {
  fids = λ f. read_by_one (eqb g f) s g f (record { offset = offset; bytes = bytes }) (fid_in s g) refl refl;
  size = read_size s g (read_on offset bytes) (fid_in s g);
}
was_read s g offset most _ bytes = tt

read_does : (s : State) (tag g offset most : ℕ) → Does s (as_read tag (t.read g offset most)) (agreed_action s (t.read g offset most))
read_does s tag g offset most =
    let body = t.read g offset most in
    let m = as_read tag body in
    let fails : (text : List ℕ) → Does s m (refuses text s) = λ text. refusal s tag body text (λ f. refl) (λ f. refl) refl in
    let asks_for : (request : PlainRequest) → Does s m (asks request) = λ request. asked_for s m request (was_read s g offset most) in
    in_use s m g _ _ (fid_in s g) refl (λ none. fails _) (λ from used. opened_by s m _ _ from.opened (fails _) (λ opening.
    test (not (reads opening.mode)) s m _ _ (fails _) (test (not from.is_dir) s m _ _ (asks_for _)
    (test (offset == 0) s m _ _ (asks_for _) (test (offset == opening.offset + opening.count) s m _ _ (asks_for _) (fails _))))))

-- ---- messages that leave all as it was

written : (s : State) (g offset : ℕ) (given : List ℕ) (reply : PlainReply) (bytes : List ℕ) → IsEffectOf s (t.write g offset given) (outcome_of s (t.write g offset given) reply bytes)
written s g offset given (refused refusal) bytes = as_was s (t.write g offset given) _ (λ f. refl) (λ f. refl) refl
written s g offset given (count n) bytes = as_was s (t.write g offset given) _ (λ f. refl) (λ f. refl) refl
written s g offset given _ bytes = tt

write_does : (s : State) (tag g offset : ℕ) (given : List ℕ) → Does s (as_read tag (t.write g offset given)) (agreed_action s (t.write g offset given))
write_does s tag g offset given =
    let body = t.write g offset given in
    let m = as_read tag body in
    let fails : (text : List ℕ) → Does s m (refuses text s) = λ text. refusal s tag body text (λ f. refl) (λ f. refl) refl in
    in_use s m g _ _ (fid_in s g) refl (λ none. fails _) (λ from used. opened_by s m _ _ from.opened (fails _) (λ opening.
    test (not (writes opening.mode)) s m _ _ (fails _) (asked_for s m _ (written s g offset given))))

described : (s : State) (g : ℕ) (reply : PlainReply) (bytes : List ℕ) → IsEffectOf s (t.stat g) (outcome_of s (t.stat g) reply bytes)
described s g (refused refusal) bytes = as_was s (t.stat g) _ (λ f. refl) (λ f. refl) refl
described s g (stat n) bytes = as_was s (t.stat g) _ (λ f. refl) (λ f. refl) refl
described s g _ bytes = tt

stat_does : (s : State) (tag g : ℕ) → Does s (as_read tag (t.stat g)) (agreed_action s (t.stat g))
stat_does s tag g =
    let m = as_read tag (t.stat g) in
    let fails : (text : List ℕ) → Does s m (refuses text s) = λ text. refusal s tag (t.stat g) text (λ f. refl) (λ f. refl) refl in
    in_use s m g _ _ (fid_in s g) refl (λ none. fails _) (λ from used. asked_for s m _ (described s g))

changed : (s : State) (g : ℕ) (c : PlainChange) (reply : PlainReply) (bytes : List ℕ) → IsEffectOf s (t.wstat g c) (outcome_of s (t.wstat g c) reply bytes)
changed s g c (refused refusal) bytes = as_was s (t.wstat g c) _ (λ f. refl) (λ f. refl) refl
changed s g c done bytes = as_was s (t.wstat g c) _ (λ f. refl) (λ f. refl) refl
changed s g c _ bytes = tt

wstat_does : (s : State) (tag g : ℕ) (c : PlainChange) → Does s (as_read tag (t.wstat g c)) (agreed_action s (t.wstat g c))
wstat_does s tag g c =
    let m = as_read tag (t.wstat g c) in
    let fails : (text : List ℕ) → Does s m (refuses text s) = λ text. refusal s tag (t.wstat g c) text (λ f. refl) (λ f. refl) refl in
    in_use s m g _ _ (fid_in s g) refl (λ none. fails _) (λ from used. asked_for s m _ (changed s g c))

-- ---- messages that free a fid

freed : (s : State) (g f : ℕ) → Leaves (cond (eqb g f) frees leaves) s f [] (fid_in (free s g) f)
freed s g f = free_by (eqb g f) s f _ (got_free s g f)

clunk_does : (s : State) (tag g : ℕ) → Does s (as_read tag (t.clunk g)) (agreed_action s (t.clunk g))
clunk_does s tag g =
    let m = as_read tag (t.clunk g) in
    let fails : (text : List ℕ) → Does s m (refuses text s) = λ text. refusal s tag (t.clunk g) text (λ f. refl) (λ f. refl) refl in
    in_use s m g _ _ (fid_in s g) refl (λ none. fails _) (λ from used. said s m r.clunk (free s g) (record { fids = freed s g; size = refl }))

removed : (s : State) (g : ℕ) (reply : PlainReply) (bytes : List ℕ) → IsEffectOf s (t.remove g) (outcome_of s (t.remove g) reply bytes)
removed s g (refused refusal) bytes = record { fids = freed s g; size = refl }
removed s g done bytes = record { fids = freed s g; size = refl }
removed s g _ bytes = tt

-- a Tremove that is refused since its fid is not in use
none_removed : (s : State) (tag g : ℕ) (text : List ℕ) → fid_in s g ≡ None → Does s (as_read tag (t.remove g)) (refuses text s)
none_removed s tag g text none = said s (as_read tag (t.remove g)) (r.error text) s (record { fids = λ f. absent_by (eqb g f) s g f refl none; size = refl })

remove_does : (s : State) (tag g : ℕ) → Does s (as_read tag (t.remove g)) (agreed_action s (t.remove g))
remove_does s tag g =
    let m = as_read tag (t.remove g) in
    in_use s m g _ _ (fid_in s g) refl (λ none. none_removed s tag g _ none) (λ from used. asked_for s m _ (removed s g))

-- ---- all messages

pub agreed_does : (s : State) (tag : ℕ) (body : PlainTMessage) → Does s (as_read tag body) (agreed_action s body)
agreed_does s tag (t.version msize version) = version_does s tag msize version
agreed_does s tag (t.auth afid uname aname) = refusal s tag (t.auth afid uname aname) _ (λ f. refl) (λ f. refl) refl
agreed_does s tag (t.attach g afid uname aname) = attach_does s tag g afid uname aname
agreed_does s tag (t.flush oldtag) = said s (as_read tag (t.flush oldtag)) r.flush s (as_was s (t.flush oldtag) r.flush (λ f. refl) (λ f. refl) refl)
agreed_does s tag (t.walk g newfid names) = walk_does s tag g newfid names
agreed_does s tag (t.open_fid g mode) = open_does s tag g mode
agreed_does s tag (t.create g name perm mode) = create_does s tag g name perm mode
agreed_does s tag (t.read g offset most) = read_does s tag g offset most
agreed_does s tag (t.write g offset given) = write_does s tag g offset given
agreed_does s tag (t.clunk g) = clunk_does s tag g
agreed_does s tag (t.remove g) = remove_does s tag g
agreed_does s tag (t.stat g) = stat_does s tag g
agreed_does s tag (t.wstat g c) = wstat_does s tag g c

-- there are no fids
abbrev pub HasNone : State → Type 0
HasNone s = (f : ℕ) → fid_in s f ≡ None

pub without_does : (s : State) (tag : ℕ) (body : PlainTMessage) → HasNone s → Does s (as_read tag body) (action_without s body)
without_does s tag (t.version msize version) none = version_does s tag msize version
without_does s tag (t.remove g) none = none_removed s tag g _ (none g)
without_does s tag (t.walk g newfid names) none = refusal s tag (t.walk g newfid names) _ (walk_error g newfid names _) (λ f. refl) refl
without_does s tag (t.auth afid uname aname) none = refusal s tag (t.auth afid uname aname) _ (λ f. refl) (λ f. refl) refl
without_does s tag (t.attach g afid uname aname) none = refusal s tag (t.attach g afid uname aname) _ (λ f. refl) (λ f. refl) refl
without_does s tag (t.flush oldtag) none = refusal s tag (t.flush oldtag) _ (λ f. refl) (λ f. refl) refl
without_does s tag (t.open_fid g mode) none = refusal s tag (t.open_fid g mode) _ (λ f. refl) (λ f. refl) refl
without_does s tag (t.create g name perm mode) none = refusal s tag (t.create g name perm mode) _ (λ f. refl) (λ f. refl) refl
without_does s tag (t.read g offset most) none = refusal s tag (t.read g offset most) _ (λ f. refl) (λ f. refl) refl
without_does s tag (t.write g offset given) none = refusal s tag (t.write g offset given) _ (λ f. refl) (λ f. refl) refl
without_does s tag (t.clunk g) none = refusal s tag (t.clunk g) _ (λ f. refl) (λ f. refl) refl
without_does s tag (t.stat g) none = refusal s tag (t.stat g) _ (λ f. refl) (λ f. refl) refl
without_does s tag (t.wstat g c) none = refusal s tag (t.wstat g c) _ (λ f. refl) (λ f. refl) refl
