-- Which frames answer a message and which refuse it, by their type, tag and fields.
use Rattle.std.proofs.Common.{◌≡◌, ◌≢◌, ◌↔◌, ℕ, ◌^◌, ◌<◌, Bool, true, false, IsTrue, List, [], ◌++◌, length, drop, Option, Some, None, Bor, refl, sym, ap, subst, ◌∙◌, arith}
use Rattle.std.specs.Prelude.{IsNone, IfSome, MatchOption}
use Rattle.tree_model.specs.Wire.{number, string, qid}
use Rattle.ninep_wire.specs.Header.{message}
use Rattle.ninep_wire.specs.TMessage.{PlainMessage}
use Rattle.ninep_wire.specs.RMessage.{PlainRMessage, version, attach, wstat}
use Rattle.ninep_wire.proofs.FieldLaws.{IsBytes, IsBytes-drop}
use Rattle.sync_client.specs.Messages.{protocol, no_tag, one_tag, version_message, attach_message, sync_message}
use Rattle.sync_client.specs.Replies.{Answers, IsReply, IsAnswer, IsRefusal, IsAgreement, qid_size, IsText}
use Rattle.sync_client.proofs.Messages.{protocol_string}
use Rattle.sync_client.proofs.Fields.{fields_are, qid_in}

-- ---- the reply to a version

pub version_answers : (frame fields : List ℕ) → frame ≡ message 101 no_tag fields → IsAgreement fields → IsAnswer version_message frame
version_answers frame fields e a = record {
  reply = version a.agreed protocol;
  is = record {
    formed = record {
      tag_fits = omega arith;
      fields = (omega (arith, a.high), protocol_string);
      size = omega arith;
    };
    spelled = e ∙ ap (message 101 no_tag) a.spelled;
  };
  answers = record { no_larger = a.high; room = a.low; same = refl };
}

pub version_answered : (frame : List ℕ) (reply : PlainRMessage) → IsReply version_message reply frame → Answers version_message.body reply
    → (fields : List ℕ) × (frame ≡ message 101 no_tag fields) × IsAgreement fields
version_answered frame (version agreed text) is answers =
    (number 4 agreed ++ string text, is.spelled, record { agreed = agreed; low = answers.room; high = answers.no_larger; spelled = ap (λ (w : List ℕ). number 4 agreed ++ string w) answers.same })
version_answered frame reply is answers = absurd answers

-- ---- to an attach

pub attach_answers : (frame : List ℕ) → IsBytes frame → (fields : List ℕ) → frame ≡ message 105 one_tag fields → length fields ≡ qid_size → IsAnswer attach_message frame
attach_answers frame fits fields e len =
    let same : drop 7 frame ≡ fields = ap (drop 7) e in
    let q = qid_in fields (subst IsBytes same (IsBytes-drop 7 frame fits)) len in record {
      reply = attach q.0;
      is = record {
        formed = record { tag_fits = omega arith; fields = q.1; size = omega arith };
        spelled = e ∙ ap (message 105 one_tag) q.2;
      };
      answers = tt;
    }

pub attach_answered : (frame : List ℕ) (reply : PlainRMessage) → IsReply attach_message reply frame → Answers attach_message.body reply
    → (fields : List ℕ) × (frame ≡ message 105 one_tag fields) × (length fields ≡ qid_size)
attach_answered frame (attach q) is answers = (qid q, is.spelled, refl)
attach_answered frame reply is answers = absurd answers

-- ---- to a sync

pub sync_answers : (frame fields : List ℕ) → frame ≡ message 127 one_tag fields → fields ≡ [] → IsAnswer sync_message frame
sync_answers frame fields e none = record {
  reply = wstat;
  is = record {
    formed = record { tag_fits = omega arith; fields = tt; size = omega arith };
    spelled = e ∙ ap (message 127 one_tag) none;
  };
  answers = tt;
}

pub sync_answered : (frame : List ℕ) (reply : PlainRMessage) → IsReply sync_message reply frame → Answers sync_message.body reply
    → (fields : List ℕ) × (frame ≡ message 127 one_tag fields) × (fields ≡ [])
sync_answered frame wstat is answers = ([], is.spelled, refl)
sync_answered frame reply is answers = absurd answers

-- ---- refusals

pub refuses : (asked : PlainMessage) (frame fields : List ℕ) → asked.tag < 2 ^ 16 → frame ≡ message 107 asked.tag fields → IsText fields → IsRefusal asked frame
refuses asked frame fields low e t = record {
  text = t.text;
  is = record {
    formed = record { tag_fits = low; fields = t.formed; size = omega (arith, t.formed.fits) };
    spelled = e ∙ ap (message 107 asked.tag) t.spelled;
  };
}

pub refused : (asked : PlainMessage) (frame : List ℕ) (r : IsRefusal asked frame) → (fields : List ℕ) × (frame ≡ message 107 asked.tag fields) × IsText fields
refused asked frame r = (string r.text, r.is.spelled, record { text = r.text; formed = r.is.formed.fields; spelled = refl })

-- ---- tests of a frame's fields

-- what a test of the fields of a frame says of it, if it has this type and tag
pub by_fields : (kind tag : ℕ) (frame : List ℕ) (P : List ℕ → Type 0) (A : Type 0) (found : Option (Bor (List ℕ))) (result : Bool)
    → IfSome found (λ fields. frame ≡ message kind tag fields.now) → (IsNone found → (fields : List ℕ) → frame ≢ message kind tag fields)
    → MatchOption found (result ≡ false) (λ fields. IsTrue result ↔ P fields.now)
    → ((fields : List ℕ) → frame ≡ message kind tag fields → P fields → A) → (A → (fields : List ℕ) × (frame ≡ message kind tag fields) × P fields) → IsTrue result ↔ A
by_fields kind tag frame P A None result is none out makes gives =
    (λ yes. let no : true ≡ false = sym yes ∙ out in absurd cc, λ a. let g = gives a in absurd (none refl g.0 g.1))
by_fields kind tag frame P A (Some fields) result is none out makes gives = (
  λ yes. makes fields.now is (out.0 yes),
  λ a.
      let g = gives a in
      out.1 (subst P (fields_are kind tag g.0 fields.now (sym g.1 ∙ is)) g.2),
)
