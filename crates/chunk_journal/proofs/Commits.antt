-- A commit with the making of the first journal before it.
use Rattle.std.proofs.Common.{◌≡◌, ℕ, ◌<◌, List, [], ◌∷◌, Option, Some, None, refl, sym, ap, subst, ◌∙◌, inl, inr, arith}
use Rattle.std.specs.Option.{option_map}
use Rattle.outside.specs.Disk.{Disk, Node, folder, file, node_at, kind_at, kind_of, IsFolder}
use Rattle.outside.specs.declared.folder.Kind.TheVariants.{File}
use Rattle.outside.specs.Images.{Log, now}
use Rattle.outside.proofs.Moments.{started, weaker, joined}
use Rattle.deeds.specs.Deeds.{PlainDeed, DoesAll, in_order}
use Rattle.deeds.proofs.Frame.{framed, lone}
use Rattle.deeds.proofs.Phases.{unnamed_ordered}
use Rattle.chunk_journal.specs.Journal.{journal_file, new_file, journal_name, new_name, IsClosed, IsAlike, IsBeforeOrAfter, IsQuiet, IsRepeatable, RecoversLike, StaysShut, AnyMoment, HasCommitted}
use Rattle.chunk_journal.specs.Stages.{HasGate}
use Rattle.chunk_journal.proofs.Gate.{shut_reopens}
use Rattle.chunk_journal.proofs.Tidy.{steady_tidy, tidy_joined}

-- a file that isn't empty has a gate
gate_of : (o : Option Node) (len : ℕ) → option_map kind_of o ≡ Some (File len) → 0 < len → (gate : ℕ) × (rest : List ℕ) × (o ≡ Some (file (gate ∷ rest)))
gate_of None len is some = absurd cc
gate_of (Some folder) len is some = absurd cc
gate_of (Some (file [])) len is some = let e : 0 ≡ len = cc in absurd (omega arith)
gate_of (Some (file (gate ∷ rest))) len is some = (gate, rest, refl)

pub found_gate : (d : Disk) (len : ℕ) → Some (File len) ≡ kind_at d journal_file → 0 < len → HasGate d
found_gate d len is some = gate_of (node_at d journal_file) len (sym is) some

pub quiet_stays : (log : Log) → IsQuiet log → StaysShut log log
quiet_stays log quiet = record {
  recovers = started log (RecoversLike (now log)) (λ c image.
      let same = quiet.steady.durable c image in
      let closed : IsClosed c = subst IsClosed (sym same) quiet.closed in (
        c,
        inl (closed, refl),
        (λ q ne nm. ap (λ (d : Disk). node_at d q) same),
        shut_reopens c closed (λ is. quiet.no_folder (subst (λ (d : Disk). IsFolder d new_file) same is)),
      ));
  tidy = steady_tidy log quiet.steady;
}

no_journal_folder : (d : Disk) → IsClosed d → IsFolder d journal_file → ⊥
no_journal_folder d (inl none) is = let e : None ≡ Some folder = sym none ∙ is in cc
no_journal_folder d (inr f) is = let e : Some (file f.0) ≡ Some folder = sym f.1 ∙ is in cc

module _ (bs : List PlainDeed) (repeatable : IsRepeatable bs) where
  -- what can be done can be done beside the first journal
  pub run_ready : (old mid : Log) (after : Disk) → IsQuiet old → IsAlike (now old) (now mid) → DoesAll (in_order bs) (now old) after → (u : Disk) × DoesAll (in_order bs) (now mid) u × IsAlike after u
  run_ready old mid after quiet alike run = framed journal_file new_file (lone journal_name) (lone new_name) (in_order bs) (now old) after (now mid) run
      (unnamed_ordered journal_file bs repeatable.beside_journal) (unnamed_ordered new_file bs repeatable.beside_new) (no_journal_folder (now old) quiet.closed, quiet.no_folder) alike

  pub made_leaves : (old new : Log) → StaysShut old new → AnyMoment bs old new
  made_leaves old new stays = record {
    recovers = λ after run. weaker old new (RecoversLike (now old)) (IsBeforeOrAfter (now old) after) (λ c r. (r.0, r.1, inl r.2, r.3)) stays.recovers;
    tidy = stays.tidy;
  }

  either : (old mid : Log) (after u c : Disk) → IsAlike (now old) (now mid) → IsAlike after u → IsBeforeOrAfter (now mid) u c → IsBeforeOrAfter (now old) after c
  either old mid after u c one two (disk, recovers, inl alike, none) = (disk, recovers, inl (λ q ne nm. alike q ne nm ∙ one q ne nm), none)
  either old mid after u c one two (disk, recovers, inr alike, none) = (disk, recovers, inr (λ q ne nm. alike q ne nm ∙ two q ne nm), none)

  pub then_leaves : (old mid new : Log) → IsQuiet old → StaysShut old mid → IsAlike (now old) (now mid) → AnyMoment bs mid new → AnyMoment bs old new
  then_leaves old mid new quiet stays alike any = record {
    recovers = λ after run.
        let u = run_ready old mid after quiet alike run in
        joined old mid new (IsBeforeOrAfter (now old) after) ((made_leaves old mid stays).recovers after run)
        (weaker mid new (IsBeforeOrAfter (now mid) u.0) (IsBeforeOrAfter (now old) after) (λ c b. either old mid after u.0 c alike u.2 b) (any.recovers u.0 u.1));
    tidy = tidy_joined old mid new stays.tidy any.tidy;
  }

  pub then_committed : (old mid new : Log) → IsQuiet old → IsAlike (now old) (now mid) → HasCommitted bs mid new → HasCommitted bs old new
  then_committed old mid new quiet alike has = record {
    at_rest = has.at_rest;
    after = λ after run. let u = run_ready old mid after quiet alike run in λ q ne nm. has.after u.0 u.1 q ne nm ∙ u.2 q ne nm;
  }
