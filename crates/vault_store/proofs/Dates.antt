-- A change of the mtime alone, or of nothing.
use Rattle.std.proofs.Common.{◌≡◌, ℕ, ◌==◌, List, [], ◌∷◌, map, Bool, true, false, ◌||◌, ◌&&◌, not, cond, Option, Some, None, is_some, unwrap_or, refl, sym, ap, subst, ◌∙◌, inl, inr, eqb-true, arith}
use Rattle.std.specs.Option.{option_map_or}
use Rattle.std.proofs.lemmas.Option.{same_Some}
use Rattle.outside.specs.Disk.{Disk, Path as HostPath}
use Rattle.outside.specs.Calls.{Told}
use Rattle.outside.specs.Images.{Log, disk_in, now}
use Rattle.deeds.specs.Deeds.{PlainDeed}
use Rattle.pending_files.specs.Laid.{laid}
use Rattle.outside.specs.Views.{FolderView, EntropyView}
use Rattle.outside.proofs.Told.{told_always, told_then}
use Rattle.vault_keys.specs.Keys.{KeyPair}
use Rattle.tree_model.specs.declared.reply.Reply.TheVariants as replies
use Rattle.tree_model.specs.declared.refusal.Refusal.TheVariants as refusals
use Rattle.tree_model.specs.Rows.{Content, Row, Rows, row_of}
use Rattle.tree_model.specs.Asked.{PlainChange, PlainReply, change, done}
use Rattle.tree_model.specs.Step.{Stepped, early, new_length, new_name, place_step, says, set_row, step, stepped, with_mtime}
use Rattle.tree_model.proofs.Steps.{step_worked}
use Rattle.tree_model.specs.History.{Made, is_refusal, places, rows_then, IsAnswered}
use Rattle.crash_laws.specs.Stable.{is_kept}
use Rattle.file_changes.specs.Waiting.{IsAtRestOver}
use Rattle.clear_tree.specs.Walk.{Sealing}
use Rattle.clear_tree.specs.Queue.{In}
use Rattle.tree_loading.specs.Format.{sealing_of}
use Rattle.version_laws.specs.RowVersions.{wrapped}
use Rattle.live_tree.specs.Held.{HeldTree, IsTree, live_row, live_rows, node_of}
use Rattle.live_tree.proofs.Held.{in_found}
use Rattle.tree_answers.proofs.Members.{IsMapped, find_in, map_in}
use Rattle.tree_answers.proofs.Rows.{row_there}
use Rattle.request_checks.specs.Plans.{IsPlanned, IsPlannedIn}
use Rattle.request_checks.specs.declared.planning.Plan.TheVariants as plans
use Rattle.node_changes.specs.Changed.{StandsOn, ShowsRows}
use Rattle.node_changes.specs.Placed.{taken_for}
use Rattle.store_laws.specs.Turns.{Turn, made_of}
use Rattle.node_changes.proofs.Named.{dating_stands}
use Rattle.vault_store.specs.Dated.{IsDated}
use Rattle.vault_store.specs.Open.{running, counted}
use Rattle.vault_store.specs.Outcome.{HasReply}
use Rattle.vault_store.specs.Quiet.{IsStill, IsStillTurn}
use Rattle.vault_store.specs.Sizes.{SizesAreHeld}
use Rattle.vault_store.proofs.HostReads.{answer_of}
use Rattle.vault_store.proofs.Replies.{said_unplaced}
use Rattle.vault_store.proofs.Waiting.{idle_quiet}
use Rattle.vault_store.proofs.Turns.{come_undrawn, told_path, told_path_is, turn_is}

-- ---- rows

map_same : {A : Type 0} (f : A → A) (xs : List A) → ((x : A) → In x xs → f x ≡ x) → map f xs ≡ xs
map_same f [] same = refl
map_same {A = A} f (x ∷ xs) same = λ i. same x (inl refl) i ∷ map_same f xs (λ y here. same y (inr here)) i

-- a row put in its own place leaves the rows
set_same : (contents : ℕ → Content) (live : HeldTree) (number : ℕ) (row : Row) → IsTree live → row_of (live_rows contents live) number ≡ Some row → row.number ≡ number → set_row (live_rows contents live) row ≡ live_rows contents live
set_same contents live number row good there own =
    ap (λ (nodes : List Row). record { nodes = nodes; next = live.next; named_twice = live.twice })
    (map_same (λ (r : Row). cond (r.number == row.number) row r) (live_rows contents live).nodes (λ r here. same r here (r.number == row.number) refl))
  where
    found : (r : Row) → In r (live_rows contents live).nodes → r.number ≡ number → r ≡ row
    found r here is =
        let m : IsMapped (live_row contents) r live.nodes = map_in (live_row contents) r live.nodes here in
        let at : node_of live m.of.0 ≡ Some m.of.1 = in_found live.nodes m.of.0 m.of.1 good.ordered m.there in
        let number_is : m.of.0 ≡ number = sym (ap (λ (q : Row). q.number) m.is) ∙ is in
        let both : Some row ≡ Some (live_row contents m.of) =
        sym there ∙ ap (λ (n : ℕ). row_of (live_rows contents live) n) (sym number_is) ∙ row_there contents live m.of.0 m.of.1 at in
        m.is ∙ sym (same_Some row (live_row contents m.of) both)

    same : (r : Row) → In r (live_rows contents live).nodes → (b : Bool) → (r.number == row.number) ≡ b → cond b row r ≡ r
    same r here true is = sym (found r here (eqb-true r.number row.number is ∙ own))
    same r here false is = refl

-- ---- a node's mtime

dated_shows : (s : Sealing) (d : Disk) (live live' : HeldTree) (claims : List (List ℕ × ℕ)) (contents : ℕ → Content) (number : ℕ) (asked : Option ℕ) (row : Row) → IsDated live live' number asked
    → row_of (live_rows contents live) number ≡ Some row → row.number ≡ number → StandsOn s d live claims contents
    → ShowsRows s (set_row (live_rows contents live) (record row { modified = unwrap_or asked row.modified })) d live' claims
dated_shows s d live live' claims contents number None row same there own stands =
    subst (λ (l : HeldTree). ShowsRows s (set_row (live_rows contents live) row) d l claims) (sym same)
    (record { contents = contents; stands = stands; shows = ap wrapped (sym (set_same contents live number row stands.holds.is_tree there own)) })
dated_shows s d live live' claims contents number (Some modified) row is there own stands = record {
  contents = contents;
  stands = subst (λ (l : HeldTree). StandsOn s d l claims contents) (sym is.0) (dating_stands s d live claims contents number (Some modified) stands);
  shows = is.1 contents row there;
}

own_number : (contents : ℕ → Content) (live : HeldTree) (number : ℕ) (row : Row) → row_of (live_rows contents live) number ≡ Some row → row.number ≡ number
own_number contents live number row there = eqb-true row.number number (find_in (λ (r : Row). r.number == number) (live_rows contents live).nodes row there).1

-- ---- the turn

module _ (keys keys' : KeyPair) (live live' : HeldTree) (claims claims' : List (List ℕ × ℕ)) (entries : ℕ) (folder : FolderView) (source : EntropyView) (number : ℕ) (c : PlainChange) (second : ℕ) where
  abbrev s : Sealing
  s = sealing_of keys

  abbrev path_on : Disk → Option HostPath
  path_on d = taken_for s d live (change number c) None

  abbrev turn : Turn
  turn = record {
    asked = record { request = change number c; second = second; reply = done; bytes = [] };
    drawn = None;
    taken = told_path (disk_in folder.log) path_on None;
    commit_failed = false;
  }

  abbrev made : Made
  made = made_of turn folder folder source source

  module _ (sizes : SizesAreHeld (sealing_of keys)) (planned : IsPlanned live number c plans.Date) (dates : IsDated live live' number c.modified)
      (same_claims : claims' ≡ claims) (same_keys : keys' ≡ keys) where
    step_is : (d : Disk) (contents : ℕ → Content) → StandsOn s d live claims contents → (is : IsPlannedIn (live_rows contents live) number c plans.Date)
        → step (live_rows contents live) (change number c) second ≡ stepped (set_row (live_rows contents live) (with_mtime c is.row)) (says done)
    step_is d contents stands is =
        let rows : Rows = live_rows contents live in
        let none : early (live_rows contents live) is.row (change number c) ≡ None = sym (ap (λ (o : Option Row). option_map_or (λ row. early rows row (change number c)) o (Some refusals.Removed)) is.there) ∙ is.early in
        step_worked rows (change number c) second is.row is.there none
        ∙ ap (λ (n : Option (List ℕ)). place_step rows is.row c n (new_length is.row c) second) is.fits.named
        ∙ ap (λ (l : Option ℕ). place_step rows is.row c None l second) is.fits.long

    unplaced : (contents : ℕ → Content) → (is : IsPlannedIn (live_rows contents live) number c plans.Date) → places (live_rows contents live) (change number c) ≡ false
    unplaced contents is =
        ap (λ (o : Option Row). option_map_or (λ row. is_some (new_name row c)) o false) is.there ∙ ap is_some is.fits.named

    allowed_on : (d : Disk) (contents : ℕ → Content) → StandsOn s d live claims contents → IsAnswered (live_rows contents live) made
    allowed_on d contents stands =
        let is : IsPlannedIn (live_rows contents live) number c plans.Date = planned contents (sizes d live claims contents stands) in
        inl (sym (said_unplaced (live_rows contents live) (change number c) made.taken (step (live_rows contents live) (change number c) second).answer (unplaced contents is) ∙ answer_of (step_is d contents stands is)))

    shown_on : (d : Disk) (contents : ℕ → Content) → StandsOn s d live claims contents → ShowsRows s (rows_then (live_rows contents live) made) d live' claims'
    shown_on d contents stands =
        let is : IsPlannedIn (live_rows contents live) number c plans.Date = planned contents (sizes d live claims contents stands) in
        subst (λ (cs : List (List ℕ × ℕ)). ShowsRows s (rows_then (live_rows contents live) made) d live' cs) (sym same_claims)
        (subst (λ (r : Rows). ShowsRows s r d live' claims) (ap (λ (t : Stepped). t.rows) (sym (step_is d contents stands is)))
        (dated_shows s d live live' claims contents number c.modified is.row dates is.there (own_number contents live number is.row is.there) stands))

    date_turn : IsStillTurn (running keys live claims entries) (counted (running keys' live' claims' entries)) folder folder source source turn
    date_turn = record {
      is_turn = turn_is keys keys' live live' claims claims' entries folder folder source source (change number c) second None done [] None (told_path (disk_in folder.log) path_on None) false
          (come_undrawn keys keys' folder folder source (change number c) same_keys (omega arith)) tt refl (told_path_is (disk_in folder.log) path_on None);
      goes_on = refl;
      whole = refl;
      log = refl;
      allowed = told_always (disk_in folder.log) (λ d. (contents : ℕ → Content) → StandsOn s d live claims contents → IsAnswered (live_rows contents live) made) allowed_on;
      shown = told_always (disk_in folder.log) (λ d. (contents : ℕ → Content) → StandsOn s d live claims contents → ShowsRows s (rows_then (live_rows contents live) made) d live' claims') shown_on;
    }

    pub date_reply : (buffer : List ℕ) → HasReply (running keys live claims entries) (running keys' live' claims' entries) folder folder source source (change number c) second replies.Done buffer buffer
    date_reply buffer = record {
      formed = record { form = tt; count = tt; enters = refl; rest = refl };
      turn = record { turn = turn; same = refl; is = inl (idle_quiet (running keys live claims entries) (counted (running keys' live' claims' entries)) folder folder source source turn refl refl date_turn) };
    }

    -- of what reads give, whatever waits
    pub date_still : (buffer : List ℕ) → IsStill (running keys live claims entries) (running keys' live' claims' entries) folder folder source source (change number c) second replies.Done buffer buffer
    date_still buffer = record { formed = record { form = tt; count = tt; enters = refl; rest = refl }; turn = record { turn = turn; same = refl; is = date_turn } }

-- ---- with what waits

-- an mtime alone is nothing that is to last
pub date_loose : (number : ℕ) (c : PlainChange) (reply : PlainReply) → c.name ≡ None → c.length ≡ None → is_kept (change number c) reply ≡ false
date_loose number c reply unnamed uncut = λ i. (is_some (unnamed i) || is_some (uncut i)) && not (is_refusal reply)

dated_stands : (s : Sealing) (d : Disk) (live live' : HeldTree) (claims : List (List ℕ × ℕ)) (contents : ℕ → Content) (number : ℕ) (asked : Option ℕ) → IsDated live live' number asked → StandsOn s d live claims contents → StandsOn s d live' claims contents
dated_stands s d live live' claims contents number None same stands = subst (λ (l : HeldTree). StandsOn s d l claims contents) (sym same) stands
dated_stands s d live live' claims contents number (Some modified) is stands = subst (λ (l : HeldTree). StandsOn s d l claims contents) (sym is.0) (dating_stands s d live claims contents number (Some modified) stands)

pub dated_rests : (s : Sealing) (live live' : HeldTree) (claims : List (List ℕ × ℕ)) (waiting : List PlainDeed) (number : ℕ) (asked : Option ℕ) (log : Option Log) → IsDated live live' number asked
    → Told log (IsAtRestOver s live claims waiting) → Told log (IsAtRestOver s live' claims waiting)
dated_rests s live live' claims waiting number asked log is rest = told_then log (IsAtRestOver s live claims waiting) (IsAtRestOver s live' claims waiting) rest
    (λ l r. record { quiet = r.quiet; waits = r.waits; contents = r.contents; stands = dated_stands s (laid waiting (now l)) live live' claims r.contents number asked is r.stands })
