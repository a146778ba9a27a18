-- What a stop leaves of the journal in each stage of a commit.
use Rattle.std.proofs.Common.{◌≡◌, ◌≢◌, ⊎_elim, ℕ, List, [], ◌∷◌, ◌++◌, length, drop, get_or, Option, Some, None, refl, sym, ap, subst, ◌∙◌, inl, inr, arith, append_assoc}
use Rattle.std.proofs.lemmas.Bool.{cases_eq}
use Rattle.std.proofs.lemmas.List.{take_at}
use Rattle.sha2.specs.Sha256.{sha256}
use Rattle.sha2.proofs.Facts256.{length-sha256}
use Rattle.outside.specs.Disk.{Disk, Path, Node, folder, file, node_at, IsFolder}
use Rattle.std.proofs.Common.{Err}
use Rattle.std.specs.Prelude.{IsErrOf}
use Rattle.outside.specs.Calls.{HasCause}
use Rattle.deeds.specs.declared.phase.DeedErr.{DeedErr}
use Rattle.deeds.specs.declared.phase.DeedErr.TheVariants as errors
use Rattle.deeds.specs.Deeds.{IfUnfit, IsRefusal, IsRefusedAt}
use Rattle.deeds.specs.Grammar.{spelled}
use Rattle.deeds.proofs.BatchBytes.{one_batch}
use Rattle.deeds.proofs.Batches.{refused_cannot}
use Rattle.outside.specs.Changes.{CanDo, Write, IsPartOf, IsTorn, done, overwritten, in_file}
use Rattle.outside.specs.Images.{Log, now, LeavesOnly}
use Rattle.outside.proofs.Paths.{by_path, set_here, set_there, same_disk}
use Rattle.outside.specs.Calls.{Told, Changes}
use Rattle.outside.proofs.Told.{through}
use Rattle.outside.proofs.Told.{both_changed, changed_from}
use Rattle.outside.proofs.Moments.{weaker, joined}
use Rattle.deeds.specs.Deeds.{PlainDeed, DoesAll, AreApart, GoesOnAt, Unnamed, IsAmid, StaysAmid, IsSameDisk}
use Rattle.outside.specs.Unsynced.{IsSynced}
use Rattle.deeds.specs.Applying.{Applies, GoesAsFar, StaysApplied}
use Rattle.deeds.proofs.Applying.{apart_part, applied_again, applies_one, applies_whole, unnamed_part, whole_stays}
use Rattle.deeds.proofs.Again.{at_disk, again_amid}
use Rattle.deeds.proofs.Amid.{amid_start, tree_run}
use Rattle.deeds.proofs.Frame.{framed, lone}
use Rattle.deeds.proofs.Phases.{apart_ordered, unnamed_ordered}
use Rattle.deeds.specs.Deeds.{in_order, named}
use Rattle.deeds.specs.Grammar.{behind_gate, IsBatch}
use Rattle.deeds.proofs.Doing.{same_run}
use Rattle.chunk_journal.specs.Stages.{IsKept, LeavesParts, IsShutBeside, KeepsShut, HasStaged, sum_behind}
use Rattle.chunk_journal.specs.Journal.{journal_file, new_file, journal_name, new_name, names_apart, IsAlike, IsBeforeOrAfter, IsSummed, sum_mark, IsReady, IsReopenable, IsRepeatable, AnyMoment, HasCommitted, RecoversTo, RecoversLike, Recovered, RecoveredLike, IsClosed, IsFound, StaysRecovered, HasRecovered, HoldsBatch}
use Rattle.chunk_journal.proofs.Tidy.{deeds_tidy, pieces_tidy, tidy_joined, write_tidy}

pub files_apart : new_file ≢ journal_file
files_apart e = names_apart (cc)

-- ---- what a closed journal holds

pub same_bytes : (o : Option Node) (a b : List ℕ) → o ≡ Some (file a) → o ≡ Some (file b) → a ≡ b
same_bytes o a b ea eb = let e : Some (file a) ≡ Some (file b) = sym ea ∙ eb in cc

pub closed_not_held : (disk : Disk) (deeds : List PlainDeed) → IsClosed disk → HoldsBatch disk deeds → ⊥
closed_not_held disk deeds (inl none) held = let e : None ≡ Some (file (1 ∷ (behind_gate deeds ++ held.rest))) = sym none ∙ held.here in cc
closed_not_held disk deeds (inr f) held = f.2 (ap (λ (l : List ℕ). get_or l 0 0) (same_bytes (node_at disk journal_file) f.0 (1 ∷ (behind_gate deeds ++ held.rest)) f.1 held.here))

-- a disk holds one batch alone
pub one_held : (disk : Disk) (a b : List PlainDeed) → HoldsBatch disk a → HoldsBatch disk b → a ≡ b
one_held disk a b x y =
    let e : Some (file (1 ∷ (behind_gate a ++ x.rest))) ≡ Some (file (1 ∷ (behind_gate b ++ y.rest))) = sym x.here ∙ y.here in
    let same : behind_gate a ++ x.rest ≡ behind_gate b ++ y.rest = cc in
    one_batch a b x.rest y.rest x.batch y.batch (sym (drop_length a x.rest) ∙ ap (λ (l : List ℕ). drop 8 l) same ∙ drop_length b y.rest)
  where
    drop_length : (ds : List PlainDeed) (rest : List ℕ) → drop 8 (behind_gate ds ++ rest) ≡ spelled ds ++ rest
    drop_length ds rest = refl

-- a disk whose journal is closed can be opened again, and so can one with a batch that can be done again
pub shut_reopens : (disk : Disk) → IsClosed disk → (IsFolder disk new_file → ⊥) → IsReopenable disk
shut_reopens disk shut none = record { repeatable = λ deeds held. absurd (closed_not_held disk deeds shut held); no_folder = none }

pub held_reopens : (disk : Disk) (deeds : List PlainDeed) → IsRepeatable deeds → HoldsBatch disk deeds → (IsFolder disk new_file → ⊥) → IsReopenable disk
held_reopens disk deeds repeatable held none = record { repeatable = λ others again. subst IsRepeatable (one_held disk deeds others held again) repeatable; no_folder = none }

-- what is done whole is applied
pub recovers_applied : (image disk : Disk) → RecoversTo image disk → Recovered image disk
recovers_applied image disk (inl shut) = inl ((λ deeds held. closed_not_held image deeds shut.0 held), shut.1)
recovers_applied image disk (inr held) = inr (held.0, held.1, applies_whole (in_order held.0) image disk held.2)

-- ---- the journal's bytes

torn_none : (at n : ℕ) (old : List ℕ) → IsTorn at n old old
torn_none at n old = record { before = refl; after = refl; no_shorter = omega arith; no_longer = omega arith }

-- a part of a write leaves torn bytes, and all else as it was
pub record IsRewritten (at n : ℕ) (was : List ℕ) (old new : Disk) : Type 0 where
  pub bytes : List ℕ
  pub here : node_at new journal_file ≡ Some (file bytes)
  pub torn : IsTorn at n was bytes
  pub rest : (q : Path) → q ≢ journal_file → node_at new q ≡ node_at old q

pub rewritten : (at : ℕ) (bytes was : List ℕ) (old new : Disk) → node_at old journal_file ≡ Some (file was) → IsPartOf (Write journal_file at bytes) old new → IsRewritten at (length bytes) was old new
rewritten at bytes was old new is (inl same) = record { bytes = was; here = at_disk journal_file same ∙ is; torn = torn_none at (length bytes) was; rest = λ q ne. at_disk q same }
rewritten at bytes was old new is (inr (inl never)) = absurd never
rewritten at bytes was old new is (inr (inr set)) = record {
  bytes = set.1.1;
  here = at_disk journal_file set.2 ∙ set_here old journal_file set.0 journal_file refl ∙ set.1.3;
  torn = subst (λ (l : List ℕ). IsTorn at (length bytes) l set.1.1) (same_bytes (node_at old journal_file) set.1.0 was set.1.2 is) set.1.4;
  rest = λ q ne. at_disk q set.2 ∙ set_there old journal_file set.0 q ne;
}

-- a write of the gate leaves what follows it
gate_torn : (new : ℕ) (old : ℕ) (tail now : List ℕ) → IsTorn 0 (length (new ∷ [])) (old ∷ tail) now → (gate : ℕ) × (now ≡ gate ∷ tail)
gate_torn new old tail [] torn = absurd (omega (arith, torn.no_shorter))
gate_torn new old tail (gate ∷ xs) torn = let e : xs ≡ tail = torn.after in (gate, λ i. gate ∷ e i)

-- ---- the journal after a write that was done

pub written_here : (at : ℕ) (bytes was : List ℕ) (d : Disk) → node_at d journal_file ≡ Some (file was) → node_at (done (Write journal_file at bytes) d) journal_file ≡ Some (file (overwritten was at bytes))
written_here at bytes was d is = set_here d journal_file (in_file (λ old. overwritten old at bytes) (node_at d journal_file)) journal_file refl ∙ ap (in_file (λ old. overwritten old at bytes)) is

pub written_there : (at : ℕ) (bytes : List ℕ) (d : Disk) (q : Path) → q ≢ journal_file → node_at (done (Write journal_file at bytes) d) q ≡ node_at d q
written_there at bytes d q ne = set_there d journal_file (in_file (λ old. overwritten old at bytes) (node_at d journal_file)) q ne

is_no_folder : (o : Option Node) (bytes : List ℕ) → o ≡ Some (file bytes) → o ≡ Some folder → ⊥
is_no_folder o bytes f is = let e : Some (file bytes) ≡ Some folder = sym f ∙ is in cc

pub with_old : {X : Type 0} (a b : Option X) (P : X → X → Type 0) (T : X → Type 0) → Changes a b P → Told a T → Changes a b (λ x y. P x y × T x)
with_old None None P T p t = tt
with_old None (Some y) P T p t = absurd p
with_old (Some x) None P T p t = absurd p
with_old (Some x) (Some y) P T p t = (p, t)

-- deeds that can be done fail only if the count rose
pub deeds_cause : (ds : List PlainDeed) (error : DeedErr) (log : Option Log) (a b : ℕ) (F : Type 0) → Told log (λ l. (after : Disk) × DoesAll (in_order ds) (now l) after)
    → HasCause a b (IsErrOf {T = Unit {0}} (Err error) errors.Failed) → IfUnfit error (λ index. IsRefusal log a b (IsRefusedAt ds index)) → HasCause a b F
deeds_cause ds errors.Failed log a b F can cause unfit = record { later = cause.later; rose = λ _. cause.rose refl }
deeds_cause ds (errors.Unfit index) None a b F can cause unfit = record { later = cause.later; rose = λ _. unfit }
deeds_cause ds (errors.Unfit index) (Some l) a b F can cause unfit = absurd (refused_cannot ds index (now l) can.0 unfit can.1)

-- what is written behind a batch is its sum
summed_own : (whole rest : List ℕ) → IsSummed whole ((sum_mark ++ sha256 whole) ++ rest)
summed_own whole rest mark = take_at (sha256 whole) rest 32 (length-sha256 whole)

-- ---- the stages

module _ (bs : List PlainDeed) (batch : IsBatch bs) (repeatable : IsRepeatable bs) where
  abbrev ds : List PlainDeed
  ds = in_order bs

  apart : AreApart (in_order bs)
  apart = apart_ordered bs repeatable.apart

  holding : (c : Disk) (rest : List ℕ) → IsSummed (1 ∷ behind_gate bs) rest → node_at c journal_file ≡ Some (file (1 ∷ (behind_gate bs ++ rest))) → HoldsBatch c bs
  holding c rest sum here = record { batch = batch; rest = rest; here = here; sum = sum }

  uj : Unnamed journal_file (in_order bs)
  uj = unnamed_ordered journal_file bs repeatable.beside_journal

  un : Unnamed new_file (in_order bs)
  un = unnamed_ordered new_file bs repeatable.beside_new

  -- the batch follows the closed gate
  pub record IsStaged (old new : Log) : Type 0 where
    pub at_start : IsReady old
    pub any : AnyMoment bs old new
    pub steady : IsSynced new
    pub rest : List ℕ
    pub sum : IsSummed (1 ∷ behind_gate bs) rest
    pub gate : ℕ
    pub shut : gate ≢ 1
    pub here : node_at (now new) journal_file ≡ Some (file (gate ∷ (behind_gate bs ++ rest)))
    pub alike : (q : Path) → q ≢ journal_file → node_at (now new) q ≡ node_at (now old) q

  -- the gate is open
  pub record IsOpened (old new : Log) : Type 0 where
    pub at_start : IsReady old
    pub any : AnyMoment bs old new
    pub steady : IsSynced new
    pub rest : List ℕ
    pub sum : IsSummed (1 ∷ behind_gate bs) rest
    pub here : node_at (now new) journal_file ≡ Some (file (1 ∷ (behind_gate bs ++ rest)))
    pub alike : (q : Path) → q ≢ journal_file → node_at (now new) q ≡ node_at (now old) q

  -- the deeds are done, and can be done again
  pub record AreDone (old new : Log) : Type 0 where
    pub at_start : IsReady old
    pub any : AnyMoment bs old new
    pub steady : IsSynced new
    pub rest : List ℕ
    pub sum : IsSummed (1 ∷ behind_gate bs) rest
    pub here : node_at (now new) journal_file ≡ Some (file (1 ∷ (behind_gate bs ++ rest)))
    pub other : node_at (now new) new_file ≡ node_at (now old) new_file
    pub after : (after : Disk) → DoesAll ds (now old) after → IsAlike after (now new)
    pub again : (more : Disk) × DoesAll ds (now new) more × IsSameDisk more (now new)

  no_folders : (old : Log) → IsReady old → (IsFolder (now old) journal_file → ⊥) × (IsFolder (now old) new_file → ⊥)
  no_folders old rest = (is_no_folder _ _ rest.here, rest.no_folder)

  -- the batch follows the closed gate
  pub staged_leaves : (old new : Log) → IsReady old → KeepsShut old new → AnyMoment bs old new
  staged_leaves old new ready keeps = record {
    recovers = λ after run. weaker old new (IsShutBeside (now old)) (IsBeforeOrAfter (now old) after)
        (λ c b. (c, inl (inr (b.bytes, b.here, b.shut), refl), inl (λ q ne nm. b.alike q ne), shut_reopens c (inr (b.bytes, b.here, b.shut)) (λ is. ready.no_folder (sym (b.alike new_file files_apart) ∙ is)))) keeps.images;
    tidy = pieces_tidy old new ready.steady keeps;
  }

  pub staged : (old new : Log) → IsReady old → KeepsShut old new → HasStaged bs old new → IsStaged old new
  staged old new ready keeps has = record {
    at_start = ready;
    any = staged_leaves old new ready keeps;
    steady = has.0;
    rest = sum_behind bs ++ has.1.rest;
    sum = summed_own (1 ∷ behind_gate bs) has.1.rest;
    gate = has.1.gate;
    shut = has.1.shut;
    here = has.1.here ∙ ap (λ (l : List ℕ). Some (file (has.1.gate ∷ l))) (append_assoc (behind_gate bs) (sum_behind bs) has.1.rest);
    alike = has.1.alike;
  }

  -- at the gate
  part_opened : (old mid : Log) (after c : Disk) → IsStaged old mid → DoesAll ds (now old) after → IsPartOf (Write journal_file 0 (1 ∷ [])) (now mid) c → IsBeforeOrAfter (now old) after c
  part_opened old mid after c stage run part =
      let tail = behind_gate bs ++ stage.rest in
      let w = rewritten 0 (1 ∷ []) (stage.gate ∷ tail) (now mid) c stage.here part in
      let torn = gate_torn 1 stage.gate tail w.bytes w.torn in
      let alike = λ (q : Path) (ne : q ≢ journal_file) (nm : q ≢ new_file). w.rest q ne ∙ stage.alike q ne in
      let clear : IsFolder c new_file → ⊥ = λ is. stage.at_start.no_folder (sym (w.rest new_file files_apart ∙ stage.alike new_file files_apart) ∙ is) in
      ⊎_elim
      (λ (is : torn.0 ≡ 1).
      let here : node_at c journal_file ≡ Some (file (1 ∷ tail)) = w.here ∙ ap (λ (l : List ℕ). Some (file l)) torn.1 ∙ ap (λ (g : ℕ). Some (file (g ∷ tail))) is in
      let f = framed journal_file new_file (lone journal_name) (lone new_name) ds (now old) after c run uj un (no_folders old stage.at_start) alike in
      (f.0, inr (bs, holding c stage.rest stage.sum here, f.1), inr f.2, held_reopens c bs repeatable (holding c stage.rest stage.sum here) clear))
      (λ (shut : torn.0 ≡ 1 → ⊥). let closed : IsClosed c = inr (w.bytes, w.here, λ h. shut (sym (ap (λ (l : List ℕ). get_or l 0 0) torn.1) ∙ h)) in (c, inl (closed, refl), inl alike, shut_reopens c closed clear))
      (cases_eq torn.0 1)

  pub gate_leaves : (old mid new : Log) → IsStaged old mid → LeavesParts (Write journal_file 0 (1 ∷ [])) mid new → AnyMoment bs old new
  gate_leaves old mid new stage all = record {
    recovers = λ after run. joined old mid new (IsBeforeOrAfter (now old) after) (stage.any.recovers after run)
        (weaker mid new _ (IsBeforeOrAfter (now old) after) (λ c part. part_opened old mid after c stage run part) all.images);
    tidy = tidy_joined old mid new stage.any.tidy (write_tidy 0 (1 ∷ []) mid new stage.steady all);
  }

  pub opened : (old mid new : Log) → IsStaged old mid → IsKept (Write journal_file 0 (1 ∷ [])) mid new → LeavesParts (Write journal_file 0 (1 ∷ [])) mid new → IsOpened old new
  opened old mid new stage kept all = record {
    at_start = stage.at_start;
    any = gate_leaves old mid new stage all;
    steady = kept.steady;
    rest = stage.rest;
    sum = stage.sum;
    here = at_disk journal_file kept.is ∙ written_here 0 (1 ∷ []) (stage.gate ∷ (behind_gate bs ++ stage.rest)) (now mid) stage.here;
    alike = λ q ne. at_disk q kept.is ∙ written_there 0 (1 ∷ []) (now mid) q ne ∙ stage.alike q ne;
  }

  -- the run from the disk with the open gate
  run_open : (old mid : Log) (after : Disk) → IsOpened old mid → DoesAll ds (now old) after → (end : Disk) × DoesAll ds (now mid) end × IsAlike after end
  run_open old mid after open_gate run = framed journal_file new_file (lone journal_name) (lone new_name) ds (now old) after (now mid) run uj un (no_folders old open_gate.at_start) (λ q ne nm. open_gate.alike q ne)

  -- amid the deeds
  amid_recovers : (old mid : Log) (after c : Disk) → IsOpened old mid → DoesAll ds (now old) after → IsAmid ds (now mid) c → IsBeforeOrAfter (now old) after c
  amid_recovers old mid after c open_gate run amid =
      let end = run_open old mid after open_gate run in
      let r = again_amid ds (now mid) end.0 c end.1 (tree_run ds (now mid) end.0 open_gate.steady.tree end.1) apart amid in
      let held = holding c open_gate.rest open_gate.sum (amid.rest journal_file uj ∙ open_gate.here) in (
        r.0,
        inr (bs, held, r.1),
        inr (λ q ne nm. r.2 q ∙ end.2 q ne nm),
        held_reopens c bs repeatable held (λ is. open_gate.at_start.no_folder (sym (amid.rest new_file un ∙ open_gate.alike new_file files_apart) ∙ is)),
      )

  pub deeds_leave : (old mid new : Log) → IsOpened old mid → GoesOnAt (named bs) mid new → StaysAmid ds mid new → AnyMoment bs old new
  deeds_leave old mid new open_gate grown stays =
      let all = stays ds (now mid) apart (λ x one. one) (amid_start ds (now mid)) (λ image is. subst (IsAmid ds (now mid)) (sym (open_gate.steady.durable image is)) (amid_start ds (now mid))) in
      record {
        recovers = λ after run. joined old mid new (IsBeforeOrAfter (now old) after) (open_gate.any.recovers after run)
            (weaker mid new (IsAmid ds (now mid)) (IsBeforeOrAfter (now old) after) (λ c amid. amid_recovers old mid after c open_gate run amid) all.1);
        tidy = tidy_joined old mid new open_gate.any.tidy (deeds_tidy bs mid new repeatable (holding (now mid) open_gate.rest open_gate.sum open_gate.here) open_gate.steady grown);
      }

  pub deeds_done : (old mid new : Log) → IsOpened old mid → GoesOnAt (named bs) mid new → StaysAmid ds mid new → IsSynced new × DoesAll ds (now mid) (now new) → AreDone old new
  deeds_done old mid new open_gate grown stays done =
      let all = stays ds (now mid) apart (λ x one. one) (amid_start ds (now mid)) (λ image is. subst (IsAmid ds (now mid)) (sym (open_gate.steady.durable image is)) (amid_start ds (now mid))) in
      record {
        at_start = open_gate.at_start;
        any = deeds_leave old mid new open_gate grown stays;
        steady = done.0;
        rest = open_gate.rest;
        sum = open_gate.sum;
        here = all.0.rest journal_file uj ∙ open_gate.here;
        other = all.0.rest new_file un ∙ open_gate.alike new_file files_apart;
        after = λ after run.
            let end = run_open old mid after open_gate run in
            λ q ne nm. at_disk q (same_run ds (now mid) (now new) end.0 done.1 end.1) ∙ end.2 q ne nm;
        again = again_amid ds (now mid) (now new) (now new) done.1 done.0.tree apart all.0;
      }

  -- at the gate again
  part_closed : (old mid : Log) (after c : Disk) → AreDone old mid → DoesAll ds (now old) after → IsPartOf (Write journal_file 0 (0 ∷ [])) (now mid) c → IsBeforeOrAfter (now old) after c
  part_closed old mid after c all run part =
      let tail = behind_gate bs ++ all.rest in
      let w = rewritten 0 (0 ∷ []) (1 ∷ tail) (now mid) c all.here part in
      let torn = gate_torn 0 1 tail w.bytes w.torn in
      let alike = all.after after run in
      let clear : IsFolder c new_file → ⊥ = λ is. all.at_start.no_folder (sym (w.rest new_file files_apart ∙ all.other) ∙ is) in
      ⊎_elim
      (λ (is : torn.0 ≡ 1).
      let here : node_at c journal_file ≡ Some (file (1 ∷ tail)) = w.here ∙ ap (λ (l : List ℕ). Some (file l)) torn.1 ∙ ap (λ (g : ℕ). Some (file (g ∷ tail))) is in
      let same : c ≡ now mid = same_disk c (now mid) (λ q. by_path q journal_file (λ at. ap (λ (t : Path). node_at c t) at ∙ here ∙ sym all.here ∙ ap (λ (t : Path). node_at (now mid) t) (sym at)) (w.rest q)) in
      (all.again.0, inr (bs, holding c all.rest all.sum here, subst (λ (d : Disk). DoesAll ds d all.again.0) (sym same) all.again.1), inr (λ q ne nm. all.again.2 q ∙ alike q ne nm), held_reopens c bs repeatable (holding c all.rest all.sum here) clear))
      (λ (shut : torn.0 ≡ 1 → ⊥). let closed : IsClosed c = inr (w.bytes, w.here, λ h. shut (sym (ap (λ (l : List ℕ). get_or l 0 0) torn.1) ∙ h)) in (c, inl (closed, refl), inr (λ q ne nm. w.rest q ne ∙ alike q ne nm), shut_reopens c closed clear))
      (cases_eq torn.0 1)

  pub close_leaves : (old mid new : Log) → AreDone old mid → LeavesParts (Write journal_file 0 (0 ∷ [])) mid new → AnyMoment bs old new
  close_leaves old mid new all leaves = record {
    recovers = λ after run. joined old mid new (IsBeforeOrAfter (now old) after) (all.any.recovers after run)
        (weaker mid new _ (IsBeforeOrAfter (now old) after) (λ c part. part_closed old mid after c all run part) leaves.images);
    tidy = tidy_joined old mid new all.any.tidy (write_tidy 0 (0 ∷ []) mid new all.steady leaves);
  }

  pub closed : (old mid new : Log) → AreDone old mid → IsKept (Write journal_file 0 (0 ∷ [])) mid new → HasCommitted bs old new
  closed old mid new all kept = record {
    at_rest = record {
      steady = kept.steady;
      closed = inr (0 ∷ (behind_gate bs ++ all.rest), at_disk journal_file kept.is ∙ written_here 0 (0 ∷ []) (1 ∷ (behind_gate bs ++ all.rest)) (now mid) all.here, λ e. (cc));
      no_folder = λ is. all.at_start.no_folder (sym (at_disk new_file kept.is ∙ written_there 0 (0 ∷ []) (now mid) new_file files_apart ∙ all.other) ∙ is);
    };
    after = λ after run. λ q ne nm. at_disk q kept.is ∙ written_there 0 (0 ∷ []) (now mid) q ne ∙ all.after after run q ne nm;
  }

  -- what the steps need
  pub can_open : (old new : Log) → IsStaged old new → CanDo (Write journal_file 0 (1 ∷ [])) (now new)
  can_open old new stage = (stage.gate ∷ (behind_gate bs ++ stage.rest), stage.here, omega arith)

  pub can_close : (old new : Log) → AreDone old new → CanDo (Write journal_file 0 (0 ∷ [])) (now new)
  can_close old new all = (1 ∷ (behind_gate bs ++ all.rest), all.here, omega arith)

  pub can_run : (old mid : Log) → IsOpened old mid → (after : Disk) × DoesAll ds (now old) after → (after : Disk) × DoesAll ds (now mid) after
  can_run old mid open_gate can = let end = run_open old mid can.0 open_gate can.1 in (end.0, end.1)

  -- ---- the same of logs that are told

  module _ (path : Path) (is_path : path ≡ journal_file) where
    kept_here : (at : ℕ) (bytes : List ℕ) (a b : Option Log) → Changes a b (IsKept (Write path at bytes)) → Changes a b (IsKept (Write journal_file at bytes))
    kept_here at bytes a b is = subst (λ (p : Path). Changes a b (IsKept (Write p at bytes))) is_path is

    parts_here : (at : ℕ) (bytes : List ℕ) (a b : Option Log) → Changes a b (LeavesParts (Write path at bytes)) → Changes a b (LeavesParts (Write journal_file at bytes))
    parts_here at bytes a b is = subst (λ (p : Path). Changes a b (LeavesParts (Write p at bytes))) is_path is

    pub told_staged_leaves : (a b : Option Log) → Told a IsReady → Changes a b KeepsShut → Changes a b (AnyMoment bs)
    told_staged_leaves a b ready keeps = changed_from a b IsReady KeepsShut (AnyMoment bs) staged_leaves ready keeps

    pub told_staged : (a b : Option Log) → Told a IsReady → Changes a b KeepsShut → Changes a b (HasStaged bs) → Changes a b IsStaged
    told_staged a b ready keeps has = changed_from a b IsReady (λ x y. KeepsShut x y × HasStaged bs x y) IsStaged (λ x y r p. staged x y r p.0 p.1) ready (both_changed a b KeepsShut (HasStaged bs) keeps has)

    pub told_gate_leaves : (a b c : Option Log) → Changes a b IsStaged → Changes b c (LeavesParts (Write path 0 (1 ∷ []))) → Changes a c (AnyMoment bs)
    told_gate_leaves a b c stage parts = through a b c IsStaged (LeavesParts (Write journal_file 0 (1 ∷ []))) (AnyMoment bs) gate_leaves stage (parts_here 0 (1 ∷ []) b c parts)

    pub told_opened : (a b c : Option Log) → Changes a b IsStaged → Changes b c (IsKept (Write path 0 (1 ∷ []))) → Changes b c (LeavesParts (Write path 0 (1 ∷ []))) → Changes a c IsOpened
    told_opened a b c stage kept parts = through a b c IsStaged (λ x y. IsKept (Write journal_file 0 (1 ∷ [])) x y × LeavesParts (Write journal_file 0 (1 ∷ [])) x y) IsOpened (λ x y z s p. opened x y z s p.0 p.1) stage
        (both_changed b c (IsKept (Write journal_file 0 (1 ∷ []))) (LeavesParts (Write journal_file 0 (1 ∷ []))) (kept_here 0 (1 ∷ []) b c kept) (parts_here 0 (1 ∷ []) b c parts))

    pub told_deeds_leave : (a b c : Option Log) → Changes a b IsOpened → Changes b c (GoesOnAt (named bs)) → Changes b c (StaysAmid ds) → Changes a c (AnyMoment bs)
    told_deeds_leave a b c open_gate grown stays = through a b c IsOpened (λ x y. GoesOnAt (named bs) x y × StaysAmid ds x y) (AnyMoment bs) (λ x y z o p. deeds_leave x y z o p.0 p.1) open_gate
        (both_changed b c (GoesOnAt (named bs)) (StaysAmid ds) grown stays)

    pub told_done : (a b c : Option Log) → Changes a b IsOpened → Changes b c (GoesOnAt (named bs)) → Changes b c (StaysAmid ds) → Changes b c (λ x y. IsSynced y × DoesAll ds (now x) (now y)) → Changes a c AreDone
    told_done a b c open_gate grown stays done =
        through a b c IsOpened (λ x y. (GoesOnAt (named bs) x y × StaysAmid ds x y) × (IsSynced y × DoesAll ds (now x) (now y))) AreDone (λ x y z o p. deeds_done x y z o p.0.0 p.0.1 p.1) open_gate
        (both_changed b c (λ x y. GoesOnAt (named bs) x y × StaysAmid ds x y) (λ x y. IsSynced y × DoesAll ds (now x) (now y)) (both_changed b c (GoesOnAt (named bs)) (StaysAmid ds) grown stays) done)

    pub told_close_leaves : (a b c : Option Log) → Changes a b AreDone → Changes b c (LeavesParts (Write path 0 (0 ∷ []))) → Changes a c (AnyMoment bs)
    told_close_leaves a b c all parts = through a b c AreDone (LeavesParts (Write journal_file 0 (0 ∷ []))) (AnyMoment bs) close_leaves all (parts_here 0 (0 ∷ []) b c parts)

    pub told_closed : (a b c : Option Log) → Changes a b AreDone → Changes b c (IsKept (Write path 0 (0 ∷ []))) → Changes a c (HasCommitted bs)
    told_closed a b c all kept = through a b c AreDone (IsKept (Write journal_file 0 (0 ∷ []))) (HasCommitted bs) closed all (kept_here 0 (0 ∷ []) b c kept)

  -- ---- recovery

  found_amid : (old : Log) (after c : Disk) → IsFound bs old → DoesAll ds (now old) after → IsAmid ds (now old) c → RecoversLike after c
  found_amid old after c found run amid =
      let r = again_amid ds (now old) after c run (tree_run ds (now old) after found.steady.tree run) apart amid in
      let held = holding c found.open_gate.rest found.open_gate.sum (amid.rest journal_file uj ∙ found.open_gate.here) in
      (r.0, inr (bs, held, r.1), (λ q ne nm. r.2 q), held_reopens c bs repeatable held (λ is. found.no_folder (sym (amid.rest new_file un) ∙ is)))

  -- the same of what is done of deeds that may not fit
  found_applied : (part : List PlainDeed) (old : Log) (after c : Disk) → IsFound bs old → GoesAsFar ds (now old) part → DoesAll part (now old) after → IsAmid part (now old) c → RecoveredLike after c
  found_applied part old after c found far run amid =
      let r = applied_again ds part (now old) after c far run (tree_run part (now old) after found.steady.tree run) apart amid in
      let held = holding c found.open_gate.rest found.open_gate.sum (amid.rest journal_file (unnamed_part journal_file ds (now old) part far uj) ∙ found.open_gate.here) in (
        r.0,
        inr (bs, held, r.1),
        (λ q ne nm. r.2 q),
        held_reopens c bs repeatable held (λ is. found.no_folder (sym (amid.rest new_file (unnamed_part new_file ds (now old) part far un)) ∙ is)),
      )

  applied_all : (old new : Log) → IsFound bs old → StaysApplied ds old new → (after : Disk) → Applies ds (now old) after → LeavesOnly old new (RecoveredLike after)
  applied_all old new found stays after applies =
      let start = amid_start applies.part (now old) in
      weaker old new (IsAmid applies.part (now old)) (RecoveredLike after) (λ c amid. found_applied applies.part old after c found applies.far applies.does amid)
      (stays applies.part applies.far applies.part (now old) (apart_part ds (now old) applies.part applies.far apart) (λ x one. one) start
      (λ image is. subst (IsAmid applies.part (now old)) (sym (found.steady.durable image is)) start)).1

  amid_all : (old new : Log) → IsFound bs old → StaysAmid ds old new → IsAmid ds (now old) (now new) × LeavesOnly old new (IsAmid ds (now old))
  amid_all old new found stays = stays ds (now old) apart (λ x one. one) (amid_start ds (now old)) (λ image is. subst (IsAmid ds (now old)) (sym (found.steady.durable image is)) (amid_start ds (now old)))

  pub found_leaves : (old new : Log) → IsFound bs old → GoesOnAt (named bs) old new → StaysAmid ds old new → StaysApplied ds old new → StaysRecovered bs old new
  found_leaves old new found grown stays applied = record {
    whole = λ after run. weaker old new (IsAmid ds (now old)) (RecoversLike after) (λ c amid. found_amid old after c found run amid) (amid_all old new found stays).1;
    applied = applied_all old new found applied;
    tidy = deeds_tidy bs old new repeatable found.open_gate found.steady grown;
  }

  -- done again, with the gate still open
  pub record AreRedone (old new : Log) : Type 0 where
    pub stays : StaysRecovered bs old new
    pub steady : IsSynced new
    pub rest : List ℕ
    pub sum : IsSummed (1 ∷ behind_gate bs) rest
    pub here : node_at (now new) journal_file ≡ Some (file (1 ∷ (behind_gate bs ++ rest)))
    pub no_folder : IsFolder (now new) new_file → ⊥
    pub did : DoesAll ds (now old) (now new)
    pub after : (after : Disk) → DoesAll ds (now old) after → now new ≡ after
    pub again : (more : Disk) × DoesAll ds (now new) more × IsSameDisk more (now new)

  pub redone : (old new : Log) → IsFound bs old → GoesOnAt (named bs) old new → StaysAmid ds old new → IsSynced new × DoesAll ds (now old) (now new) → AreRedone old new
  redone old new found grown stays done =
      let all = amid_all old new found stays in
      record {
        stays = found_leaves old new found grown stays (whole_stays ds old new done.1 stays);
        steady = done.0;
        did = done.1;
        rest = found.open_gate.rest;
        sum = found.open_gate.sum;
        here = all.0.rest journal_file uj ∙ found.open_gate.here;
        no_folder = λ is. found.no_folder (sym (all.0.rest new_file un) ∙ is);
        after = λ after run. same_run ds (now old) (now new) after done.1 run;
        again = again_amid ds (now old) (now new) (now new) done.1 done.0.tree apart all.0;
      }

  part_shut : (old mid : Log) (after c : Disk) → AreRedone old mid → DoesAll ds (now old) after → IsPartOf (Write journal_file 0 (0 ∷ [])) (now mid) c → RecoversLike after c
  part_shut old mid after c all run part =
      let tail = behind_gate bs ++ all.rest in
      let w = rewritten 0 (0 ∷ []) (1 ∷ tail) (now mid) c all.here part in
      let clear : IsFolder c new_file → ⊥ = λ is. all.no_folder (sym (w.rest new_file files_apart) ∙ is) in
      let torn = gate_torn 0 1 tail w.bytes w.torn in
      ⊎_elim
      (λ (is : torn.0 ≡ 1).
      let here : node_at c journal_file ≡ Some (file (1 ∷ tail)) = w.here ∙ ap (λ (l : List ℕ). Some (file l)) torn.1 ∙ ap (λ (g : ℕ). Some (file (g ∷ tail))) is in
      let same : c ≡ now mid = same_disk c (now mid) (λ q. by_path q journal_file (λ at. ap (λ (t : Path). node_at c t) at ∙ here ∙ sym all.here ∙ ap (λ (t : Path). node_at (now mid) t) (sym at)) (w.rest q)) in
      (all.again.0, inr (bs, holding c all.rest all.sum here, subst (λ (d : Disk). DoesAll ds d all.again.0) (sym same) all.again.1), (λ q ne nm. all.again.2 q ∙ at_disk q (all.after after run)), held_reopens c bs repeatable (holding c all.rest all.sum here) clear))
      (λ (shut : torn.0 ≡ 1 → ⊥). let closed : IsClosed c = inr (w.bytes, w.here, λ h. shut (sym (ap (λ (l : List ℕ). get_or l 0 0) torn.1) ∙ h)) in (c, inl (closed, refl), (λ q ne nm. w.rest q ne ∙ at_disk q (all.after after run)), shut_reopens c closed clear))
      (cases_eq torn.0 1)

  pub shut_leaves : (old mid new : Log) → AreRedone old mid → LeavesParts (Write journal_file 0 (0 ∷ [])) mid new → StaysRecovered bs old new
  shut_leaves old mid new all leaves = record {
    whole = whole;
    applied = λ after applies.
        let same : after ≡ now mid = applies_one ds (now old) after (now mid) applies (applies_whole ds (now old) (now mid) all.did) in
        weaker old new (RecoversLike after) (RecoveredLike after) (λ c like. (like.0, recovers_applied c like.0 like.1, like.2, like.3)) (whole after (subst (λ (d : Disk). DoesAll ds (now old) d) (sym same) all.did));
    tidy = tidy_joined old mid new all.stays.tidy (write_tidy 0 (0 ∷ []) mid new all.steady leaves);
  }
    where
      whole : (after : Disk) → DoesAll ds (now old) after → LeavesOnly old new (RecoversLike after)
      whole after run = joined old mid new (RecoversLike after) (all.stays.whole after run)
          (weaker mid new _ (RecoversLike after) (λ c part. part_shut old mid after c all run part) leaves.images)

  pub recovered : (old mid new : Log) → AreRedone old mid → IsKept (Write journal_file 0 (0 ∷ [])) mid new → HasRecovered bs old new
  recovered old mid new all kept = record {
    at_rest = record {
      steady = kept.steady;
      closed = inr (0 ∷ (behind_gate bs ++ all.rest), at_disk journal_file kept.is ∙ written_here 0 (0 ∷ []) (1 ∷ (behind_gate bs ++ all.rest)) (now mid) all.here, λ e. (cc));
      no_folder = λ is. all.no_folder (sym (at_disk new_file kept.is ∙ written_there 0 (0 ∷ []) (now mid) new_file files_apart) ∙ is);
    };
    after = λ after run. λ q ne nm. at_disk q kept.is ∙ written_there 0 (0 ∷ []) (now mid) q ne ∙ at_disk q (all.after after run);
  }
