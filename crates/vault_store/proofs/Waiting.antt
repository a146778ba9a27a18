-- Turns of a store in which something waits, by what reads give.
use Rattle.std.proofs.Common.{◌≡◌, ℕ, List, [], Bool, true, false, ◌&&◌, Option, Some, None, IsSome, Result, Ok, Err, refl, sym, ap, subst, ◌∙◌, inl, inr, true≢false}
use Rattle.std.specs.Option.{option_map}
use Rattle.outside.specs.Calls.{Told}
use Rattle.outside.specs.Disk.{Disk}
use Rattle.outside.specs.Images.{Log, disk_in, now}
use Rattle.outside.specs.Views.{FolderView, EntropyView}
use Rattle.outside.proofs.Told.{changed_by, told_always}
use Rattle.deeds.specs.Deeds.{PlainDeed}
use Rattle.pending_files.specs.Laid.{CanWait, laid, laid_log}
use Rattle.pending_files.proofs.Laying.{looks_alike, none_waits, same_told}
use Rattle.tree_model.specs.declared.refusal.Refusal.TheVariants as refusals
use Rattle.tree_model.specs.declared.refusal.Refusal.{Refusal}
use Rattle.tree_model.specs.declared.reply.Reply.{Reply}
use Rattle.tree_model.specs.declared.reply.Reply.TheVariants as replies
use Rattle.tree_model.specs.Rows.{Content}
use Rattle.tree_model.specs.Asked.{Asked, PlainReply, PlainRequest, look, walk, open_node, create, read, list, write, remove, stat_of, change, sync, plain_reply, refused}
use Rattle.tree_model.specs.Step.{IsReading}
use Rattle.tree_model.specs.History.{Made, rows_then, is_stable, HasCause, IsAnswered}
use Rattle.tree_loading.specs.Format.{sealing_of}
use Rattle.live_tree.specs.Held.{live_rows}
use Rattle.live_tree_laws.specs.Strays.{KeepsStrays}
use Rattle.live_tree_laws.proofs.StrayTrees.{keeps_itself}
use Rattle.node_changes.specs.Changed.{StandsOn, ShowsRows}
use Rattle.node_changes.specs.Placed.{taken_for}
use Rattle.node_changes.specs.Within.{AreWithin}
use Rattle.crash_laws.specs.Stable.{is_kept}
use Rattle.store_laws.specs.Store.{StoreView, moment_of}
use Rattle.store_laws.specs.Turns.{Draws, IsFlushed, IsQuietTurn, IsTurn, Turn, made_of}
use Rattle.store_laws.proofs.Alike.{for_alike}
use Rattle.vault_store.specs.declared.answering.Broken.{Broken}
use Rattle.node_changes.specs.declared.tree.VaultTree.{VaultTree}
use Rattle.vault_store.specs.Open.{counted, idle_of, view_of}
use Rattle.vault_store.specs.Outcome.{HasReply, IsFrom, IsOutcome, IsWork}
use Rattle.vault_store.specs.Quiet.{IsStill, IsStillTurn}
use Rattle.vault_store.specs.Reading.{IsUnsynced}

-- a folder as reads give it
abbrev pub over : List PlainDeed → FolderView → FolderView
over waiting folder = record folder { log = option_map (laid_log waiting) folder.log }

-- with nothing that waits they give the folder's own disk
pub told_idle : (a : Option Log) (P : Disk → Type 0) → Told (disk_in a) P → Told (disk_in (option_map (laid_log []) a)) P
told_idle None P p = tt
told_idle (Some x) P p = p

-- what holds of the disk that they give
pub told_laid : (w : List PlainDeed) (a : Option Log) (P : Disk → Type 0) → Told (disk_in (option_map (laid_log w) a)) P → Told a (λ log. P (laid w (now log)))
told_laid w None P p = tt
told_laid w (Some x) P p = p

pub told_shown : (w : List PlainDeed) (a : Option Log) (P : Disk → Type 0) → Told a (λ log. P (laid w (now log))) → Told (disk_in (option_map (laid_log w) a)) P
told_shown w None P p = tt
told_shown w (Some x) P p = p

-- with the same that waits over the same log they give the same
pub same_over : (w w' : List PlainDeed) (a b : Option Log) → b ≡ a → Told a (λ log. w' ≡ w) → option_map (laid_log w') b ≡ option_map (laid_log w) a
same_over w w' None b same told = ap (λ (o : Option Log). option_map (laid_log w') o) same
same_over w w' (Some x) b same told = ap (λ (o : Option Log). option_map (laid_log w') o) same ∙ ap (λ (w : List PlainDeed). Some (laid_log w x)) told

-- ---- what a turn has, whatever waits

moved_cause : (made : Made) (moment : ℕ) (reply : PlainReply) → HasCause made reply → HasCause (record made { moment = moment }) reply
moved_cause made moment (refused refusals.DeviceFault) cause = cause
moved_cause made moment (refused refusals.RandomFault) cause = cause
moved_cause made moment (refused refusals.OutOfMemory) cause = cause
moved_cause made moment (refused (refusals.PlaceTaken path)) cause = cause
moved_cause made moment (refused (refusals.Exhausted ticket)) cause = cause
moved_cause made moment reply cause = cause

module _ (old new : StoreView) (before after : FolderView) (source source' : EntropyView) (turn : Turn) where
  -- the same place is taken on the folder's own disk
  taken_below : (log : Option Log) → Told log (λ log. CanWait old.waiting (now log)) → Told (disk_in (option_map (laid_log old.waiting) log)) (λ d. turn.taken ≡ taken_for (sealing_of old.keys) d old.live turn.asked.request turn.drawn)
      → Told (disk_in log) (λ d. turn.taken ≡ taken_for (sealing_of old.keys) d old.live turn.asked.request turn.drawn)
  taken_below None can is = tt
  taken_below (Some log) can is =
      is ∙ sym (for_alike (sealing_of old.keys) (now log) (laid old.waiting (now log)) old.live turn.drawn (looks_alike old.waiting (now log) can) turn.asked.request)

  pub turn_below : Told before.log (λ log. CanWait old.waiting (now log)) → IsTurn (idle_of old) (idle_of new) (over old.waiting before) (over new.waiting after) source source' turn → IsTurn old new before after source source' turn
  turn_below can is = record {
    running = is.running;
    keys = is.keys;
    entries = is.entries;
    folder = is.folder;
    entropy = is.entropy;
    cause = moved_cause (made_of turn (over old.waiting before) (over new.waiting after) source source') (moment_of after.log) turn.asked.reply is.cause;
    unstopped = is.unstopped;
    may_draw = is.may_draw;
    drawn = changed_by source.drawn source'.drawn (Draws (made_of turn (over old.waiting before) (over new.waiting after) source source')) (Draws (made_of turn before after source source'))
        (λ a b h. record { more = h.more; on = h.on; identifier = h.identifier; unspent = h.unspent }) is.drawn;
    taken = taken_below before.log can is.taken;
  }

  -- ---- quiet turns

  abbrev AllowedOn : Disk → Type 0
  AllowedOn d = (contents : ℕ → Content) → StandsOn (sealing_of old.keys) d old.live old.claims contents → IsAnswered (live_rows contents old.live) (made_of turn before after source source')

  abbrev ShownOn : Disk → Type 0
  ShownOn d = (contents : ℕ → Content) → StandsOn (sealing_of old.keys) d old.live old.claims contents
      → ShowsRows (sealing_of old.keys) (rows_then (live_rows contents old.live) (made_of turn before after source source')) d new.live new.claims

  abbrev ShownBy : List PlainDeed → List PlainDeed → Log → Type 0
  ShownBy w w' log = (contents : ℕ → Content) → StandsOn (sealing_of old.keys) (laid w (now log)) old.live old.claims contents
      → ShowsRows (sealing_of old.keys) (rows_then (live_rows contents old.live) (made_of turn before after source source')) (laid w' (now log)) new.live new.claims

  abbrev SparesOn : Log → Type 0
  SparesOn log = (contents : ℕ → Content) → StandsOn (sealing_of old.keys) (laid old.waiting (now log)) old.live old.claims contents
      → KeepsStrays (sealing_of old.keys) (laid old.waiting (now log)) (laid new.waiting (now log))

  -- what waited and waits still leaves all as it left it
  spares_still : (log : Log) → new.waiting ≡ old.waiting → SparesOn log
  spares_still log same contents stands =
      subst (λ (w : List PlainDeed). KeepsStrays (sealing_of old.keys) (laid old.waiting (now log)) (laid w (now log))) (sym same) (keeps_itself (sealing_of old.keys) (laid old.waiting (now log)))

  -- with nothing that waits
  pub idle_quiet : old.waiting ≡ [] → new.waiting ≡ [] → IsStillTurn old new before after source source' turn → IsQuietTurn old new before after source source' turn
  idle_quiet none none' is = record {
    is_turn = is.is_turn;
    goes_on = is.goes_on;
    whole = is.whole;
    log = is.log;
    allowed = subst (λ (w : List PlainDeed). Told (disk_in (option_map (laid_log w) before.log)) AllowedOn) (sym none) (told_idle before.log AllowedOn is.allowed);
    waits = told_always before.log (λ log. CanWait new.waiting (now log)) (λ log. subst (λ (w : List PlainDeed). CanWait w (now log)) (sym none') (none_waits (now log)));
    within = told_always before.log (λ log. AreWithin old.waiting → AreWithin new.waiting) (λ log all. subst AreWithin (sym none') tt);
    strays = told_always before.log SparesOn (λ log. spares_still log (none' ∙ sym none));
    shown = subst (λ (w : List PlainDeed). Told before.log (ShownBy w new.waiting)) (sym none)
        (subst (λ (w : List PlainDeed). Told before.log (ShownBy [] w)) (sym none') (told_laid [] before.log ShownOn (told_idle before.log ShownOn is.shown)));
    kept = λ yes. (none, none');
  }

  -- if reads give what they gave before, the same waits over the same log
  same_below : option_map (laid_log new.waiting) after.log ≡ option_map (laid_log old.waiting) before.log → (after.log ≡ before.log) × (IsSome after.log → new.waiting ≡ old.waiting)
  same_below same = same_told new.waiting old.waiting after.log before.log same

  waits_still : (log : Option Log) → (IsSome log → new.waiting ≡ old.waiting) → Told log (λ log. CanWait old.waiting (now log)) → Told log (λ log. CanWait new.waiting (now log))
  waits_still None same can = tt
  waits_still (Some log) same can = subst (λ (w : List PlainDeed). CanWait w (now log)) (sym (same refl)) can

  within_still : (log : Option Log) → (IsSome log → new.waiting ≡ old.waiting) → Told log (λ log. AreWithin old.waiting → AreWithin new.waiting)
  within_still None same = tt
  within_still (Some log) same = λ all. subst AreWithin (sym (same refl)) all

  spared_still : (log : Option Log) → (IsSome log → new.waiting ≡ old.waiting) → Told log SparesOn
  spared_still None same = tt
  spared_still (Some log) same = spares_still log (same refl)

  shown_still : (log : Option Log) → (IsSome log → new.waiting ≡ old.waiting) → Told log (ShownBy old.waiting old.waiting) → Told log (ShownBy old.waiting new.waiting)
  shown_still None same is = tt
  shown_still (Some log) same is = subst (λ (w : List PlainDeed). ShownBy old.waiting w log) (sym (same refl)) is

  pub still_quiet : Told before.log (λ log. CanWait old.waiting (now log)) → is_kept turn.asked.request turn.asked.reply ≡ false
      → IsStillTurn (idle_of old) (idle_of new) (over old.waiting before) (over new.waiting after) source source' turn → IsQuietTurn old new before after source source' turn
  still_quiet can loose is =
      let same = same_below is.log in
      let same_waits : IsSome before.log → new.waiting ≡ old.waiting = λ some. same.1 (subst (λ (l : Option Log). IsSome l) (sym same.0) some) in record {
        is_turn = turn_below can is.is_turn;
        goes_on = is.goes_on;
        whole = is.whole;
        log = same.0;
        allowed = is.allowed;
        waits = waits_still before.log same_waits can;
        within = within_still before.log same_waits;
        strays = spared_still before.log same_waits;
        shown = shown_still before.log same_waits (told_laid old.waiting before.log ShownOn is.shown);
        kept = λ yes. absurd (true≢false (sym yes ∙ loose));
      }

module _ (old new : StoreView) (before after : FolderView) (source source' : EntropyView) (request : PlainRequest) (second : ℕ) (reply : Reply) (buffer buffer' : List ℕ) where
  pub idle_reply : old.waiting ≡ [] → new.waiting ≡ [] → IsStill old new before after source source' request second reply buffer buffer' → HasReply old new before after source source' request second reply buffer buffer'
  idle_reply none none' is = record {
    formed = is.formed;
    turn = record { turn = is.turn.turn; same = is.turn.same; is = inl (idle_quiet old (counted new) before after source source' is.turn.turn none none' is.turn.is) };
  }

  pub still_reply : Told before.log (λ log. CanWait old.waiting (now log)) → is_kept request (plain_reply reply) ≡ false
      → IsStill (idle_of old) (idle_of new) (over old.waiting before) (over new.waiting after) source source' request second reply buffer buffer' → HasReply old new before after source source' request second reply buffer buffer'
  still_reply can loose is = record {
    formed = is.formed;
    turn = record {
      turn = is.turn.turn;
      same = is.turn.same;
      is = inl (still_quiet old (counted new) before after source source' is.turn.turn can (ap (λ (asked : Asked). is_kept asked.request asked.reply) is.turn.same ∙ loose) is.turn.is);
    };
  }

-- ---- outcomes

module _ (old new : StoreView) (before after : FolderView) (source source' : EntropyView) (request : PlainRequest) (second : ℕ) where
  -- with nothing committed before
  pub from_here : (P : StoreView → FolderView → Type 0) → P old before → IsFrom old before P
  from_here P is = record { between = old; amid = before; flushed = inl (refl, refl); is = is }

  pub work_here : (result : Result Reply Broken) (buffer buffer' : List ℕ) → IsWork old new before after source source' request second result buffer buffer' → IsOutcome old new before after source source' request second result buffer buffer'
  work_here (Ok reply) buffer buffer' is = from_here _ is
  work_here (Err broken) buffer buffer' is = inr (from_here _ is)

  -- or all that waited
  module _ (between : StoreView) (amid : FolderView) (flushed : IsFlushed old between before amid) where
    pub work_flushed : (result : Result Reply Broken) (buffer buffer' : List ℕ) → IsWork between new amid after source source' request second result buffer buffer'
        → IsOutcome old new before after source source' request second result buffer buffer'
    work_flushed (Ok reply) buffer buffer' is = record { between = between; amid = amid; flushed = inr flushed; is = is }
    work_flushed (Err broken) buffer buffer' is = inr (record { between = between; amid = amid; flushed = inr flushed; is = is })

-- a request's own work, of the tree in memory, after a commit of what waited
pub after_flush : (old : StoreView) (tree tree' : VaultTree) (waiting : List PlainDeed) (entries : ℕ) (before amid after : FolderView) (source source' : EntropyView) (request : PlainRequest) (second : ℕ) (result : Result Reply Broken) (buffer buffer' : List ℕ)
    → waiting ≡ [] → IsFlushed old (view_of tree [] entries None) before amid → IsWork (view_of tree [] entries None) (view_of tree' [] entries None) amid after source source' request second result buffer buffer'
    → IsOutcome old (view_of tree' waiting entries None) before after source source' request second result buffer buffer'
after_flush old tree tree' waiting entries before amid after source source' request second result buffer buffer' none flushed is =
    subst (λ (w : List PlainDeed). IsOutcome old (view_of tree' w entries None) before after source source' request second result buffer buffer') (sym none)
    (work_flushed old (view_of tree' [] entries None) before after source source' request second (view_of tree [] entries None) amid flushed result buffer buffer' is)

-- what comes of a refusal, and of any reply after which nothing is to last
refused_loose : (request : PlainRequest) (refusal : Refusal) → is_kept request (refused refusal) ≡ false
refused_loose request refusal = go (is_stable request)
  where
    go : (b : Bool) → (b && false) ≡ false
    go true = refl
    go false = refl

module _ (old new : StoreView) (before after : FolderView) (source source' : EntropyView) (request : PlainRequest) (second : ℕ) (can : Told before.log (λ log. CanWait old.waiting (now log))) where
  pub still_outcome : (reply : Reply) (buffer buffer' : List ℕ) → is_kept request (plain_reply reply) ≡ false → IsStill (idle_of old) (idle_of new) (over old.waiting before) (over new.waiting after) source source' request second reply buffer buffer'
      → IsOutcome old new before after source source' request second (Ok reply) buffer buffer'
  still_outcome reply buffer buffer' loose is =
      work_here old new before after source source' request second (Ok reply) buffer buffer' (still_reply old new before after source source' request second reply buffer buffer' can loose is)

  pub refused_outcome : (refusal : Refusal) (buffer : List ℕ) → IsStill (idle_of old) (idle_of new) (over old.waiting before) (over new.waiting after) source source' request second (replies.Refused refusal) buffer buffer
      → IsOutcome old new before after source source' request second (Ok (replies.Refused refusal)) buffer buffer
  refused_outcome refusal buffer is = still_outcome (replies.Refused refusal) buffer buffer (refused_loose request refusal) is

-- a request that changes nothing, and is no sync, has nothing that is to last
pub reading_loose : (request : PlainRequest) (reply : PlainReply) → IsReading request → IsUnsynced request → is_kept request reply ≡ false
reading_loose (look n) reply reads unsynced = refl
reading_loose (walk n names) reply reads unsynced = refl
reading_loose (open_node n mode) reply reads unsynced = refl
reading_loose (create n name is_dir mode) reply reads unsynced = absurd reads
reading_loose (read n at most) reply reads unsynced = refl
reading_loose (list n after most) reply reads unsynced = refl
reading_loose (write n at bytes) reply reads unsynced = refl
reading_loose (remove n) reply reads unsynced = absurd reads
reading_loose (stat_of n) reply reads unsynced = refl
reading_loose (change n c) reply reads unsynced = absurd reads
reading_loose (sync n) reply reads unsynced = absurd unsynced
