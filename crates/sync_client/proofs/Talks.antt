-- Talks that go on from one message to the next.
use Rattle.std.proofs.Common.{◌≡◌, ◌⊎◌, ◌↔◌, ℕ, ◌≤◌, Bool, false, IsTrue, List, length, [], ◌∷◌, ◌++◌, Result, Ok, Err, refl, sym, ap, subst, ◌∙◌, append_assoc, arith, inl, inr}
use Rattle.std.specs.Prelude.{IfErr, IsErrOf}
use Rattle.std.specs.List.{concat, flat_map}
use Rattle.std.proofs.lemmas.Bool.{false≢true}
use Rattle.std.proofs.lemmas.List.{append-nil}
use Rattle.outside.specs.Calls.{Rose}
use Rattle.outside.specs.Views.{LinkView}
use Rattle.outside.proofs.Told.{unchanged, changed_by}
use Rattle.ninep_wire.specs.TMessage.{PlainMessage, spelled_t}
use Rattle.ninep_wire.specs.Reading.{IsFrame}
use Rattle.sync_client.specs.declared.sync_err.SyncErr.{SyncErr}
use Rattle.sync_client.specs.declared.sync_err.SyncErr.TheVariants.{Fault}
use Rattle.sync_client.specs.Messages.{most_message}
use Rattle.sync_client.specs.Replies.{IsAnswer, IsRefusal}
use Rattle.sync_client.specs.Talk.{IsOtherMessage, IsCutShort, StopsAt, EndsAt, AreAnswered, Talk, IsReadUp, HasTalked, done, IsDone}
use Rattle.sync_client.specs.Steps.{WritesPart, HasAsked}
use Rattle.sync_client.proofs.Links.{reads_then, writes_more, rose_later}

-- ---- one message

-- a frame that neither test takes
pub other_message : (asked : PlainMessage) (bytes : List ℕ) (answered refused : Bool) → IsFrame bytes → length bytes ≤ most_message
    → answered ≡ false → IsTrue answered ↔ IsAnswer asked bytes → refused ≡ false → IsTrue refused ↔ IsRefusal asked bytes → IsOtherMessage asked bytes
other_message asked bytes answered refused framed fits not_answered answers not_refused refuses = record {
  framed = framed;
  fits = fits;
  no_answer = λ answer. false≢true (sym not_answered ∙ answers.1 answer);
  no_refusal = λ refusal. false≢true (sym not_refused ∙ refuses.1 refusal);
}

-- not all of a message was sent
pub cut_short : {U : Type 0} (asked : PlainMessage) (message : List ℕ) (before after : LinkView) → message ≡ spelled_t asked → WritesPart message before.taken after.taken
    → after.left ≡ before.left → after.read_faults ≡ before.read_faults → before.write_faults ≤ after.write_faults → Rose before.write_faults after.write_faults
    → HasAsked {U = U} asked before after (Err Fault)
cut_short asked message before after spelled part left reads later rose = record {
  sent = part.part;
  read = [];
  said = inl (subst (λ (w : List ℕ). IsCutShort w part.part) spelled part.cut, refl);
  sent_is = part.wrote;
  read_is = unchanged before.left after.left (λ old new. (old ≡ [] ++ new) × Unit {0}) left (λ x. (refl, tt));
  read_later = omega (arith, reads);
  write_later = later;
  fault = λ is. inr rose;
}

-- ---- talks

-- a talk stops at its first message
stops_first : {U : Type 0} (asked : PlainMessage) (others : List PlainMessage) (sent read : List ℕ) (err : SyncErr) → StopsAt asked sent read err
    → Talk {U = U} (asked ∷ others) sent read (Err err)
stops_first asked others sent read err stop = record {
  answered = [];
  others = asked ∷ others;
  messages_are = refl;
  replies = [];
  each = tt;
  last_sent = sent;
  sent_is = refl;
  last_read = read;
  read_is = refl;
  ends = stop;
}

pub stopped : {U : Type 0} (asked : PlainMessage) (others : List PlainMessage) (before after : LinkView) (err : SyncErr) → HasAsked {U = U} asked before after (Err err)
    → HasTalked {U = U} (asked ∷ others) before after (Err err)
stopped asked others before after err h = record {
  sent = h.sent;
  read = h.read;
  said = stops_first asked others h.sent h.read err h.said;
  sent_is = h.sent_is;
  read_is = h.read_is;
  read_later = h.read_later;
  write_later = h.write_later;
  fault = h.fault;
}

-- a talk with one message before it, which was answered
one_more : {U : Type 0} (asked : PlainMessage) (others : List PlainMessage) (reply sent read : List ℕ) (result : Result U SyncErr) → IsAnswer asked reply
    → Talk others sent read result → Talk (asked ∷ others) (spelled_t asked ++ sent) (reply ++ read) result
one_more asked others reply sent read result answer t = record {
  answered = asked ∷ t.answered;
  others = t.others;
  messages_are = ap (λ (ms : List PlainMessage). asked ∷ ms) t.messages_are;
  replies = reply ∷ t.replies;
  each = (answer, t.each);
  last_sent = t.last_sent;
  sent_is = ap (λ (w : List ℕ). spelled_t asked ++ w) t.sent_is ∙ sym (append_assoc (spelled_t asked) (flat_map spelled_t t.answered) t.last_sent);
  last_read = t.last_read;
  read_is = ap (λ (w : List ℕ). reply ++ w) t.read_is ∙ sym (append_assoc reply (concat t.replies) t.last_read);
  ends = t.ends;
}

later_fault : (a b c d e f : ℕ) (P : Type 0) → a ≤ b → d ≤ e → (P → Rose b c ⊎ Rose e f) → P → Rose a c ⊎ Rose d f
later_fault a b c d e f P reads writes fault is = elim (fault is) [ inl r ↦ inl (rose_later a b c reads r) | inr w ↦ inr (rose_later d e f writes w) ]

pub went_on : {U : Type 0} (asked : PlainMessage) (others : List PlainMessage) (before mid after : LinkView) (x : U) (result : Result U SyncErr) → HasAsked asked before mid (Ok x)
    → HasTalked others mid after result → HasTalked (asked ∷ others) before after result
went_on asked others before mid after x result h t = record {
  sent = h.sent ++ t.sent;
  read = h.read ++ t.read;
  said = subst (λ (w : List ℕ). Talk (asked ∷ others) (w ++ t.sent) (h.read ++ t.read) result) (sym h.said.0)
      (one_more asked others h.read t.sent t.read result h.said.1 t.said);
  sent_is = writes_more before.taken mid.taken after.taken h.sent t.sent h.sent_is t.sent_is;
  read_is = reads_then (λ new. IfErr result (λ err. IsReadUp err new)) before.left mid.left after.left h.read t.read
      (changed_by before.left mid.left (λ old new. (old ≡ h.read ++ new) × Unit {0}) (λ old new. old ≡ h.read ++ new) (λ x y p. p.0) h.read_is) t.read_is;
  read_later = omega (arith, h.read_later, t.read_later);
  write_later = omega (arith, h.write_later, t.write_later);
  fault = later_fault before.read_faults mid.read_faults after.read_faults before.write_faults mid.write_faults after.write_faults (IsErrOf result Fault)
      h.read_later h.write_later t.fault;
}

-- about no message there is nothing to say
nothing : {U : Type 0} (view : LinkView) (x : U) → HasTalked [] view view (Ok x)
nothing view x = record {
  sent = [];
  read = [];
  said = record {
    answered = [];
    others = [];
    messages_are = refl;
    replies = [];
    each = tt;
    last_sent = [];
    sent_is = refl;
    last_read = [];
    read_is = refl;
    ends = (refl, refl);
  };
  sent_is = unchanged view.taken view.taken (λ old new. new ≡ old ++ []) refl (λ x. sym (append-nil x));
  read_is = unchanged view.left view.left (λ old new. (old ≡ [] ++ new) × Unit {0}) refl (λ x. (refl, tt));
  read_later = omega arith;
  write_later = omega arith;
  fault = λ is. absurd cc;
}

-- the last message
pub came_last : {U : Type 0} (asked : PlainMessage) (before after : LinkView) (result : Result U SyncErr) → HasAsked asked before after result
    → HasTalked (asked ∷ []) before after result
came_last asked before after (Ok x) h = went_on asked [] before after after x (Ok x) h (nothing after x)
came_last asked before after (Err err) h = stopped asked [] before after err h

-- ---- what a talk that is done says

done_by : (messages answered others : List PlainMessage) (replies : List (List ℕ)) (sent read last_sent last_read : List ℕ)
    → messages ≡ answered ++ others → AreAnswered answered replies → sent ≡ flat_map spelled_t answered ++ last_sent → read ≡ concat replies ++ last_read
    → EndsAt others last_sent last_read done → IsDone messages sent read
done_by messages answered [] replies sent read last_sent last_read is each sent_is read_is ends =
    let all : messages ≡ answered = is ∙ append-nil answered in record {
      replies = replies;
      each = subst (λ (ms : List PlainMessage). AreAnswered ms replies) (sym all) each;
      sent_is = sent_is ∙ ap (λ (w : List ℕ). flat_map spelled_t answered ++ w) ends.0 ∙ append-nil (flat_map spelled_t answered) ∙ ap (flat_map spelled_t) (sym all);
      read_is = read_is ∙ ap (λ (w : List ℕ). concat replies ++ w) ends.1 ∙ append-nil (concat replies);
    }
done_by messages answered (asked ∷ others) replies sent read last_sent last_read is each sent_is read_is ends = absurd ends

pub done_is_answered : (messages : List PlainMessage) (sent read : List ℕ) → Talk messages sent read done → IsDone messages sent read
done_is_answered messages sent read t =
    done_by messages t.answered t.others t.replies sent read t.last_sent t.last_read t.messages_are t.each t.sent_is t.read_is t.ends
