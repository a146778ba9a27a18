-- A change whose deeds were committed, or whose commit failed.
use Rattle.std.proofs.Common.{◌≡◌, ℕ, List, false, Option, Some, None, IsNone, refl, sym, ap, subst, ◌∙◌, true≢false}
use Rattle.std.specs.Option.{option_map_or}
use Rattle.outside.specs.Calls.{Told, Changes}
use Rattle.outside.specs.Disk.{Disk}
use Rattle.outside.specs.Images.{Log, now}
use Rattle.outside.proofs.Told.{told_then, both_changed, changed_from}
use Rattle.deeds.specs.Deeds.{PlainDeed, DoesAll, in_order}
use Rattle.chunk_journal.specs.Journal.{IsQuiet, AnyMoment, HasCommitted}
use Rattle.tree_model.specs.declared.refusal.Refusal.{Refusal}
use Rattle.tree_model.specs.declared.refusal.Refusal.TheVariants as refusals
use Rattle.tree_model.specs.Rows.{Rows, row_of}
use Rattle.tree_model.specs.Asked.{PlainRequest}
use Rattle.tree_model.specs.Step.{Answer, stepped, early_refusal, refuses, step, work}
use Rattle.tree_model.specs.Step.{node_of as request_node}
use Rattle.tree_model.specs.History.{is_refusal}
use Rattle.clear_tree.specs.Walk.{Sealing}
use Rattle.live_tree.specs.Held.{HeldTree, live_rows}
use Rattle.node_changes.specs.Changed.{IsAtRest, LeadsOn, MakesStep, IsStepAnswer, HasChanged, MayHaveChanged}
use Rattle.node_changes.specs.declared.tree.VaultTree.{VaultTree}
use Rattle.tree_loading.specs.Format.{sealing_of}

-- ---- refusals before the work

pub early_step : (rows : Rows) (request : PlainRequest) (second : ℕ) (refusal : Refusal) → early_refusal rows request ≡ Some refusal → (step rows request second).answer ≡ refuses refusal
unfolding step
early_step rows request second refusal e =
    ap (λ (o : Option Refusal). (option_map_or (λ refusal. stepped rows (refuses refusal)) o
    (option_map_or (λ row. work rows row request second) (row_of rows (request_node request)) (stepped rows (refuses refusals.Removed)))).answer) e

-- if the step answers no refusal none comes before the work
pub late_by : (rows : Rows) (request : PlainRequest) (second : ℕ) (answer : Answer) → (step rows request second).answer ≡ answer → is_refusal answer.reply ≡ false → IsNone (early_refusal rows request)
late_by rows request second answer is accepted = go (early_refusal rows request) refl
  where
    go : (o : Option Refusal) → early_refusal rows request ≡ o → IsNone (early_refusal rows request)
    go None e = subst (λ (o : Option Refusal). IsNone o) (sym e) refl
    go (Some refusal) e =
        let same : answer ≡ refuses refusal = sym is ∙ early_step rows request second refusal e in
        absurd (true≢false (sym (ap (λ (a : Answer). is_refusal a.reply) same) ∙ accepted))

-- ---- commits

-- a change of a tree at rest, and deeds that lead on to it
pub record Led (s : Sealing) (request : PlainRequest) (second : ℕ) (answer : Answer) (deeds : List PlainDeed) (live live' : HeldTree) (claims claims' : List (List ℕ × ℕ)) (log : Option Log) : Type 0 where
  pub leads : LeadsOn s request second answer live live' claims claims' deeds
  pub rest : Told log (IsAtRest s live claims)

-- from a vault's tree to another
abbrev pub led_of : (old new : VaultTree) (request : PlainRequest) (second : ℕ) (answer : Answer) (deeds : List PlainDeed) (log : Option Log)
    → LeadsOn (sealing_of old.keys) request second answer old.live new.live old.claims new.claims deeds → Told log (IsAtRest (sealing_of old.keys) old.live old.claims)
    → Led (sealing_of old.keys) request second answer deeds old.live new.live old.claims new.claims log
led_of old new request second answer deeds log leads rest = record { leads = leads; rest = rest }

module _ {s : Sealing} {request : PlainRequest} {second : ℕ} {answer : Answer} {deeds : List PlainDeed} {live live' : HeldTree} {claims claims' : List (List ℕ × ℕ)} {log : Option Log}
    (led : Led s request second answer deeds live live' claims claims' log) where
  open led use {leads, rest}

  abbrev Makes : Log → Type 0
  Makes l = MakesStep s request second deeds (now l) live live' claims claims'

  abbrev Answers : Log → Type 0
  Answers l = IsStepAnswer s request second answer (now l) live claims

  -- what it leads to is told of the disk that reads give
  told_makes : Told log Makes
  told_makes = told_then log (IsAtRest s live claims) Makes rest (λ l r. (leads (now l) r.contents r.stands).0)

  told_answer : Told log Answers
  told_answer = told_then log (IsAtRest s live claims) Answers rest (λ l r. (leads (now l) r.contents r.stands).1)

  pub can_be_done : Told log (λ (l : Log). (after : Disk) × DoesAll (in_order deeds) (now l) after)
  can_be_done = told_then log Makes (λ (l : Log). (after : Disk) × DoesAll (in_order deeds) (now l) after) told_makes (λ l m. (m.after, m.does))

  abbrev HasDone : Log → Log → Type 0
  HasDone x y = Makes x × AnyMoment deeds x y × HasCommitted deeds x y

  abbrev HasBegun : Log → Log → Type 0
  HasBegun x y = Makes x × AnyMoment deeds x y

  pub has_changed : (new : Option Log) → Changes log new (AnyMoment deeds) → Changes log new (HasCommitted deeds) → Changes log new (HasChanged s request second answer live live' claims claims')
  has_changed new any committed =
      changed_from log new Answers HasDone (HasChanged s request second answer live live' claims claims')
      (λ x y p q. record { deeds = deeds; makes = q.0; answer_is = p; any_moment = q.1; committed = q.2 }) told_answer
      (changed_from log new Makes (λ x y. AnyMoment deeds x y × HasCommitted deeds x y) HasDone (λ x y p q. (p, q.0, q.1)) told_makes (both_changed log new (AnyMoment deeds) (HasCommitted deeds) any committed))

  pub may_have_changed : (new : Option Log) → is_refusal answer.reply ≡ false → Changes log new (AnyMoment deeds) → Changes log new (MayHaveChanged s request second live live' claims claims')
  may_have_changed new accepted any =
      changed_from log new Answers HasBegun (MayHaveChanged s request second live live' claims claims')
      (λ x y p q. record {
        deeds = deeds;
        makes = q.0;
        late = λ contents stands. late_by (live_rows contents live) request second answer (p contents stands) accepted;
        any_moment = q.1;
      }) told_answer
      (changed_from log new Makes (AnyMoment deeds) HasBegun (λ x y p q. (p, q)) told_makes any)

-- the journal is quiet
pub quiet : (s : Sealing) (live : HeldTree) (claims : List (List ℕ × ℕ)) (log : Option Log) → Told log (IsAtRest s live claims) → Told log IsQuiet
quiet s live claims log rest = told_then log (IsAtRest s live claims) IsQuiet rest (λ l r. r.quiet)
