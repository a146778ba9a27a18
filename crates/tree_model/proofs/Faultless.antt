-- Histories in which nothing of the outside failed.
use Rattle.std.proofs.Common.{◌≡◌, ℕ, zero, suc, Bool, true, false, not, ◌&&◌, cond, List, [], ◌∷◌, Option, Some, None, IsNone, MatchOption, refl, sym, ap, subst, inl, inr}
use Rattle.std.specs.Option.{option_map_or}
use Rattle.std.proofs.lemmas.Bool.{false_from_ne_true}
use Rattle.std.proofs.lemmas.Option.{same_Some}
use Rattle.outside.specs.Disk.{Path}
use Rattle.tree_model.specs.declared.refusal.Refusal.{Refusal}
use Rattle.tree_model.specs.declared.refusal.Refusal.TheVariants as refusals
use Rattle.tree_model.specs.Rows.{Rows}
use Rattle.tree_model.specs.Asked.{PlainReply, refused}
use Rattle.tree_model.specs.Step.{Answer, refuses, step}
use Rattle.tree_model.specs.History.{Made, Entry, Tally, Origin, answer_of, entry_at, places, is_refusal, HasCause, IsCaused, AreCaused, IsAnswered, AreAnswered, IsLegal, next, after, tally_at, rows_then, rows_at}
use Rattle.tree_model.specs.Laws.{IsFaultless, AreFaultless, IsStepAnswer, IsStepped, AreStepped}

-- the cause of a refusal that was answered
cause_of : (made : Made) (refusal : Refusal) → answer_of made ≡ refuses refusal → HasCause made made.asked.reply → HasCause made (refused refusal)
cause_of made refusal is cause =
    subst (λ (reply : PlainReply). HasCause made reply) (ap (λ (a : Answer). a.reply) is) cause

-- no commit failed
committed : (tally : Tally) (entry : Entry) → IsNone tally.stopped → IsCaused tally entry → IsFaultless entry.made → entry.made.commit_failed ≡ false
committed tally entry running caused faultless =
    false_from_ne_true entry.made.commit_failed
    (λ failed. faultless.folder (subst (λ (reply : PlainReply). HasCause entry.made reply) (caused.flag failed).0 (caused.running running).0))

-- the step's answer, or that the place is taken
where_answer : (rows : Rows) (made : Made) (placing refusing : Bool) (taken : Option Path)
    → places rows made.asked.request ≡ placing → is_refusal (step rows made.asked.request made.asked.second).answer.reply ≡ refusing → made.taken ≡ taken
    → answer_of made ≡ cond (placing && not refusing) (option_map_or (λ path. refuses (refusals.PlaceTaken path)) taken (step rows made.asked.request made.asked.second).answer) (step rows made.asked.request made.asked.second).answer
    → IsStepAnswer rows made
where_answer rows made false refusing taken p r t is = inl is
where_answer rows made true true taken p r t is = inl is
where_answer rows made true false None p r t is = inl is
where_answer rows made true false (Some path) p r t is =
    inr (inl (record { path = path; taken = t; places = p; accepted = r; answer = is }))

tree_answer : (rows : Rows) (made : Made) → HasCause made made.asked.reply → IsFaultless made → IsAnswered rows made → IsStepAnswer rows made
tree_answer rows made cause faultless (inl is) =
    where_answer rows made (places rows made.asked.request) (is_refusal (step rows made.asked.request made.asked.second).answer.reply) made.taken refl refl refl is
tree_answer rows made cause faultless (inr (inl is)) = absurd (faultless.folder (cause_of made refusals.DeviceFault is.0 cause))
tree_answer rows made cause faultless (inr (inr (inl is))) = absurd (faultless.entropy (cause_of made refusals.RandomFault is.0 cause))
tree_answer rows made cause faultless (inr (inr (inr is))) =
    inr (inr (record { may = cause_of made refusals.OutOfMemory is.0 cause; there = is.1; answer = is.0 }))

-- what was made of one request
stepped : (rows : Rows) (tally : Tally) (entry : Entry) → IsNone tally.stopped → IsCaused tally entry → IsAnswered rows entry.made → IsFaultless entry.made
    → IsStepped rows entry.made
stepped rows tally entry running caused answered faultless = record {
  committed = committed tally entry running caused faultless;
  running = (caused.running running).1;
  answer = tree_answer rows entry.made (caused.running running).0 faultless answered;
}

-- and the store goes on
goes_on : (tally : Tally) (entry : Entry) → IsNone tally.stopped → IsCaused tally entry → IsFaultless entry.made → IsNone (next tally entry).stopped
goes_on tally entry running caused faultless =
    subst (λ (b : Bool). IsNone (cond b (Some tally.count) tally.stopped)) (sym (committed tally entry running caused faultless)) running

each_stepped : (rows : Rows) (tally : Tally) (entries : List Entry) → IsNone tally.stopped → AreCaused tally entries → AreAnswered rows tally entries → AreFaultless entries
    → (i : ℕ) (entry : Entry) → entry_at entries i ≡ Some entry → IsStepped (rows_at rows entries i) entry.made
each_stepped rows tally [] running caused answered faultless i entry at = absurd cc
each_stepped rows tally (first ∷ entries) running caused answered faultless zero entry at =
    subst (λ (e : Entry). IsStepped rows e.made) (same_Some first entry at) (stepped rows tally first running caused.0 (answered.0 running) faultless.0)
each_stepped rows tally (first ∷ entries) running caused answered faultless (suc i) entry at =
    each_stepped (rows_then rows first.made) (next tally first) entries (goes_on tally first running caused.0 faultless.0) caused.1 answered.1 faultless.1 i entry at

still_running : (tally : Tally) (entries : List Entry) → IsNone tally.stopped → AreCaused tally entries → AreFaultless entries → IsNone (after tally entries).stopped
still_running tally [] running caused faultless = running
still_running tally (first ∷ entries) running caused faultless =
    still_running (next tally first) entries (goes_on tally first running caused.0 faultless.0) caused.1 faultless.1

-- a legal history without faults is the step's
pub are_stepped : (rows : Rows) (origin : Origin) (entries : List Entry) → IsLegal rows origin entries → AreFaultless entries → AreStepped rows origin entries
are_stepped rows origin entries legal faultless = record {
  each = each_stepped rows (tally_at origin) entries refl legal.caused legal.answered faultless;
  running = still_running (tally_at origin) entries refl legal.caused faultless;
}
