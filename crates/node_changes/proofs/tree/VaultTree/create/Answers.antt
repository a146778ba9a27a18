use Rattle.std.proofs.Common.{ℕ, List, Option, Ok, refl, sym, subst}
use Rattle.outside.specs.Calls.{Changes, Told}
use Rattle.outside.specs.Disk.{Disk}
use Rattle.outside.specs.Images.{Log, now, disk_in}
use Rattle.deeds.specs.Deeds.{DoesAll, in_order}
use Rattle.deeds.specs.Plain.{plains}
use Rattle.deeds.specs.declared.deed.Deed.{Deed}
use Rattle.chunk_journal.specs.Journal.{AnyMoment, HasCommitted}
use Rattle.tree_model.specs.declared.stat.Qid.{Qid}
use Rattle.tree_model.specs.Asked.{create, qid}
use Rattle.tree_model.specs.Step.{says}
use Rattle.node_changes.specs.Creation.{IsCreation}
use Rattle.node_changes.specs.Creating.{HasRefused, IsReady, new_qid}
use Rattle.node_changes.proofs.Draws.{can_be_done, has_created, may_have_created, told_refused}
use Rattle.node_changes.proofs.tree.VaultTree.create.Goals as goal

pub commit-requires-clause-can : goal.commit-requires-clause-can
commit-requires-clause-can g c =
    let ready = subst (λ (ds : List Deed). IsReady c.args.self.now.keys (create c.args.parent c.args.name.now c.args.is_dir 0) c.args.is_dir c.args.now (says (qid (new_qid c.args.self.now.live c.args.is_dir))) c.args.self.now.live c.make.new.self.live
    c.args.self.now.claims c.make.new.self.claims (g.E.Entropy.drawn c.args.entropy.now) (g.E.Entropy.drawn c.make.new.entropy) (disk_in (g.D.Reads.log c.args.journal.now)) (plains ds)) (sym c.deref.ensures.value)
    (subst (λ (n : List ℕ). IsReady c.args.self.now.keys (create c.args.parent n c.args.is_dir 0) c.args.is_dir c.args.now (says (qid (new_qid c.args.self.now.live c.args.is_dir))) c.args.self.now.live c.make.new.self.live
    c.args.self.now.claims c.make.new.self.claims (g.E.Entropy.drawn c.args.entropy.now) (g.E.Entropy.drawn c.make.new.entropy) (disk_in (g.D.Reads.log c.args.journal.now)) (plains c.in-Ok.deeds.items)) c.as_bytes.ensures.value (c.in-Ok.ensures.ready 0)) in
    subst (λ (l : Option Log). Told l (λ (log : Log). (after : Disk) × DoesAll (in_order (plains c.deref.result.now)) (now log) after)) (sym c.make.ensures.log)
    (can_be_done (g.D.Reads.log c.args.journal.now) ready c.requires.rest)

pub returns-in-Ok-commit-clause-came : goal.returns-in-Ok-commit-clause-came
returns-in-Ok-commit-clause-came g c = λ mode.
    let ready = subst (λ (ds : List Deed). IsReady c.args.self.now.keys (create c.args.parent c.args.name.now c.args.is_dir mode) c.args.is_dir c.args.now (says (qid (new_qid c.args.self.now.live c.args.is_dir))) c.args.self.now.live c.make.new.self.live
    c.args.self.now.claims c.make.new.self.claims (g.E.Entropy.drawn c.args.entropy.now) (g.E.Entropy.drawn c.make.new.entropy) (disk_in (g.D.Reads.log c.args.journal.now)) (plains ds)) (sym c.deref.ensures.value)
    (subst (λ (n : List ℕ). IsReady c.args.self.now.keys (create c.args.parent n c.args.is_dir mode) c.args.is_dir c.args.now (says (qid (new_qid c.args.self.now.live c.args.is_dir))) c.args.self.now.live c.make.new.self.live
    c.args.self.now.claims c.make.new.self.claims (g.E.Entropy.drawn c.args.entropy.now) (g.E.Entropy.drawn c.make.new.entropy) (disk_in (g.D.Reads.log c.args.journal.now)) (plains c.in-Ok.deeds.items)) c.as_bytes.ensures.value (c.in-Ok.ensures.ready mode)) in
    let any = subst (λ (l : Option Log). Changes l (g.D.Reads.log c.commit.new.self) (AnyMoment (plains c.deref.result.now))) c.make.ensures.log c.in-Ok-commit.ensures.any_moment in
    let committed = subst (λ (l : Option Log). Changes l (g.D.Reads.log c.commit.new.self) (HasCommitted (plains c.deref.result.now))) c.make.ensures.log c.in-Ok-commit.ensures.committed in
    subst (λ (q : Qid). IsCreation c.args.self.now.keys (create c.args.parent c.args.name.now c.args.is_dir mode) c.args.is_dir c.args.now (Ok q) c.args.self.now.live c.make.new.self.live c.args.self.now.claims c.make.new.self.claims
    (g.E.Entropy.drawn c.args.entropy.now) (g.E.Entropy.drawn c.make.new.entropy) (g.D.Reads.log c.args.journal.now) (g.D.Reads.log c.commit.new.self)) (sym c.new_qid-qid.ensures) (record {
      drawn = ready.drawn;
      draw = ready.draw;
      changed = has_created (g.D.Reads.log c.args.journal.now) ready c.requires.rest (g.D.Reads.log c.commit.new.self) any committed;
      broken = tt;
      refused = tt;
      found = tt;
    })

pub returns-in-Ok-clause-came : goal.returns-in-Ok-clause-came
returns-in-Ok-clause-came g c = λ mode.
    let ready = subst (λ (ds : List Deed). IsReady c.args.self.now.keys (create c.args.parent c.args.name.now c.args.is_dir mode) c.args.is_dir c.args.now (says (qid (new_qid c.args.self.now.live c.args.is_dir))) c.args.self.now.live c.make.new.self.live
    c.args.self.now.claims c.make.new.self.claims (g.E.Entropy.drawn c.args.entropy.now) (g.E.Entropy.drawn c.make.new.entropy) (disk_in (g.D.Reads.log c.args.journal.now)) (plains ds)) (sym c.deref.ensures.value)
    (subst (λ (n : List ℕ). IsReady c.args.self.now.keys (create c.args.parent n c.args.is_dir mode) c.args.is_dir c.args.now (says (qid (new_qid c.args.self.now.live c.args.is_dir))) c.args.self.now.live c.make.new.self.live
    c.args.self.now.claims c.make.new.self.claims (g.E.Entropy.drawn c.args.entropy.now) (g.E.Entropy.drawn c.make.new.entropy) (disk_in (g.D.Reads.log c.args.journal.now)) (plains c.in-Ok.deeds.items)) c.as_bytes.ensures.value (c.in-Ok.ensures.ready mode)) in
    let any = subst (λ (l : Option Log). Changes l (g.D.Reads.log c.commit.new.self) (AnyMoment (plains c.deref.result.now))) c.make.ensures.log c.in-Err-commit.ensures.any_moment in
    record {
      drawn = ready.drawn;
      draw = ready.draw;
      changed = tt;
      broken = may_have_created (g.D.Reads.log c.args.journal.now) ready c.requires.rest (g.D.Reads.log c.commit.new.self) any refl;
      refused = tt;
      found = tt;
    }

pub returns-clause-came : goal.returns-clause-came
returns-clause-came g c = λ mode.
    let it = subst (λ (n : List ℕ). HasRefused c.args.self.now.keys (create c.args.parent n c.args.is_dir mode) c.args.is_dir c.args.now c.args.self.now.live c.args.self.now.claims (g.E.Entropy.drawn c.args.entropy.now)
    (g.E.Entropy.drawn c.make.new.entropy) (disk_in (g.D.Reads.log c.args.journal.now)) c.in-Err.refusal) c.as_bytes.ensures.value (c.in-Err.ensures.refused mode) in
    record {
      drawn = it.drawn;
      draw = it.draw;
      changed = tt;
      broken = tt;
      refused = told_refused c.args.self.now.keys (create c.args.parent c.args.name.now c.args.is_dir mode) c.args.now c.args.self.now.live c.args.self.now.claims it.drawn c.in-Err.refusal (g.D.Reads.log c.args.journal.now) c.requires.rest it.refused;
      found = it.found;
    }
