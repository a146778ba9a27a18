-- The batch that is written after the closed gate, piece by piece.
use Rattle.std.proofs.Common.{◌≡◌, ⊎_elim, ℕ, suc, ◌+◌, ◌-◌, ◌<◌, ◌≤◌, min, List, [], ◌∷◌, ◌++◌, length, take, drop, get_or, Option, Some, None, refl, sym, ap, subst, ◌∙◌, inl, inr, arith, length-append, length-take, length-drop}
use Rattle.std.proofs.Math.Seq.{take-append-add}
use Rattle.std.proofs.lemmas.Bool.{cases_lt}
use Rattle.std.proofs.lemmas.List.{take-append-drop, take_all, take_at}
use Rattle.outside.specs.Disk.{Disk, file, IsTree}
use Rattle.outside.specs.Changes.{Write, IsPartOf, CanDo, overwritten}
use Rattle.outside.specs.Calls.{Changes, Told}
use Rattle.outside.specs.Images.{Did, Broke, Synced, Log, now, IsImage, adds, IsSound, HasDone, HasBroken}
use Rattle.outside.proofs.Moments.{started, goes_to, ends}
use Rattle.outside.proofs.Steady.{sound_tree}
use Rattle.outside.specs.Unsynced.{IsSynced, unsynced}
use Rattle.deeds.proofs.Again.{at_disk}
use Rattle.deeds.proofs.Growing.{at_broke, at_did, at_nowhere, at_synced, at_then}
use Rattle.chunk_journal.specs.Journal.{journal_file, IsReady}
use Rattle.chunk_journal.specs.Stages.{IsShutBeside, KeepsShut, HasFront}
use Rattle.chunk_journal.proofs.Gate.{rewritten, written_here, written_there}

same_first : (k : ℕ) (a b : List ℕ) → take (suc k) a ≡ take (suc k) b → get_or a 0 0 ≡ get_or b 0 0
same_first k [] [] e = refl
same_first k [] (y ∷ b) e = absurd cc
same_first k (x ∷ a) [] e = absurd cc
same_first k (x ∷ a) (y ∷ b) e = cc

-- the piece after the front makes the longer front
pub pieces_join : (at room n : ℕ) (bs : List ℕ) → at ≤ length bs → n ≡ min room (length bs - at) → take at bs ++ take room (drop at bs) ≡ take (at + n) bs
pieces_join at room n bs le is =
    let rest = drop at bs in
    let long : length rest ≡ length bs - at = length-drop at bs in
    let front : length (take at bs) ≡ at = omega (arith, length-take at bs) in
    let same : take room rest ≡ take n rest = ⊎_elim
    (λ (more : length rest < room). take_all room rest (omega arith) ∙ sym (take_all n rest (omega (arith, long, is))))
    (λ (full : room ≤ length rest). let e : room ≡ n = omega (arith, long, is) in ap (λ (k : ℕ). take k rest) e)
    (cases_lt (length rest) room) in
    ap (λ (l : List ℕ). take at bs ++ l) same ∙ sym (take-append-add (take at bs) rest n) ∙ ap (λ (k : ℕ). take (k + n) (take at bs ++ rest)) front ∙ ap (λ (l : List ℕ). take (at + n) l) (take-append-drop at bs)

-- a part of a write after the gate leaves it shut
shut_part : (at : ℕ) (bytes : List ℕ) (d b c : Disk) → IsShutBeside d b → IsPartOf (Write journal_file (1 + at) bytes) b c → IsShutBeside d c
shut_part at bytes d b c beside part =
    let w = rewritten (1 + at) bytes beside.bytes b c beside.here part in
    let k : 1 + at ≡ suc at = omega arith in
    let first = same_first at w.bytes beside.bytes (subst (λ (n : ℕ). take n w.bytes ≡ take n beside.bytes) k w.torn.before) in
    record { bytes = w.bytes; here = w.here; shut = λ is. beside.shut (sym first ∙ is); alike = λ q ne. w.rest q ne ∙ beside.alike q ne }

ready_beside : (log : Log) → IsReady log → IsShutBeside (now log) (now log)
ready_beside log ready = record { bytes = ready.gate ∷ ready.rest; here = ready.here; shut = ready.shut; alike = λ q ne. refl }

pub pieces_begun : (log : Log) → IsReady log → KeepsShut log log
pieces_begun log ready = record {
  images = started log (IsShutBeside (now log)) (λ c image. subst (IsShutBeside (now log)) (sym (ready.steady.durable c image)) (ready_beside log ready));
  grown = at_nowhere (journal_file ∷ []) log;
}

pub front_begun : (log : Log) → IsReady log → HasFront [] (now log) (now log)
front_begun log ready = record { gate = ready.gate; shut = ready.shut; rest = ready.rest; here = ready.here; alike = λ q ne. refl }

pub piece_did : (at : ℕ) (bytes : List ℕ) (old mid new : Log) → KeepsShut old mid → HasDone (Write journal_file (1 + at) bytes) mid new → KeepsShut old new
piece_did at bytes old mid new keeps did = record {
  images = goes_to old mid new (Did (Write journal_file (1 + at) bytes)) (IsShutBeside (now old)) keeps.images did.1 (λ c image.
      let i = subst (λ (l : Log). IsImage l c) did.1 image in
      shut_part at bytes (now old) i.0 c (ends old mid (IsShutBeside (now old)) keeps.images i.0 i.1) i.2);
  grown = at_then (journal_file ∷ []) old mid new keeps.grown (at_did (Write journal_file (1 + at) bytes) mid new did);
}

pub piece_broke : (at : ℕ) (bytes : List ℕ) (old mid new : Log) → KeepsShut old mid → HasBroken (Write journal_file (1 + at) bytes) mid new → KeepsShut old new
piece_broke at bytes old mid new keeps (inl same) = subst (λ (l : Log). KeepsShut old l) (sym same) keeps
piece_broke at bytes old mid new keeps (inr broke) = record {
  images = goes_to old mid new (Broke (Write journal_file (1 + at) bytes) broke.0) (IsShutBeside (now old)) keeps.images broke.2 (λ c image.
      let i = subst (λ (l : Log). IsImage l c) broke.2 image in
      shut_part at bytes (now old) i.0 c (ends old mid (IsShutBeside (now old)) keeps.images i.0 i.1) i.2);
  grown = at_then (journal_file ∷ []) old mid new keeps.grown (at_broke (Write journal_file (1 + at) bytes) mid new (inr broke));
}

-- bytes written at the end of the front are more of it
more_front : (gate at : ℕ) (front rest bytes : List ℕ) → length front ≡ at → overwritten (gate ∷ (front ++ rest)) (1 + at) bytes ≡ gate ∷ ((front ++ bytes) ++ drop (1 + at + length bytes) (gate ∷ (front ++ rest)))
more_front gate at front rest bytes long =
    let k : 1 + at ≡ suc at = omega arith in
    let tail = drop (1 + at + length bytes) (gate ∷ (front ++ rest)) in
    let start : take (1 + at) (gate ∷ (front ++ rest)) ≡ gate ∷ front = ap (λ (n : ℕ). take n (gate ∷ (front ++ rest))) k ∙ ap (λ (l : List ℕ). gate ∷ l) (take_at front rest at long) in
    ap (λ (l : List ℕ). (l ++ bytes) ++ tail) start

pub front_more : (at : ℕ) (front bytes : List ℕ) (old mid new : Log) → length front ≡ at → HasFront front (now old) (now mid) → HasDone (Write journal_file (1 + at) bytes) mid new → HasFront (front ++ bytes) (now old) (now new)
front_more at front bytes old mid new long has did = record {
  gate = has.gate;
  shut = has.shut;
  rest = drop (1 + at + length bytes) (has.gate ∷ (front ++ has.rest));
  here = at_disk journal_file (ap now did.1) ∙ written_here (1 + at) bytes (has.gate ∷ (front ++ has.rest)) (now mid) has.here ∙ ap (λ (l : List ℕ). Some (file l)) (more_front has.gate at front has.rest bytes long);
  alike = λ q ne. at_disk q (ap now did.1) ∙ written_there (1 + at) bytes (now mid) q ne ∙ has.alike q ne;
}

-- the next piece can be written
pub can_piece : (at : ℕ) (front bytes : List ℕ) (d : Disk) (log : Log) → length front ≡ at → HasFront front d (now log) → CanDo (Write journal_file (1 + at) bytes) (now log)
can_piece at front bytes d log long has = (has.gate ∷ (front ++ has.rest), has.here, omega (arith, long, length-append front has.rest))

pub staged_synced : (bytes : List ℕ) (old mid new : Log) → IsSound mid.start mid.calls → HasFront bytes (now old) (now mid) → new ≡ adds mid Synced → IsSynced new × HasFront bytes (now old) (now new)
staged_synced bytes old mid new sound has is = (
  record {
    durable = λ c image. subst (λ (l : Log). IsImage l c) is image ∙ sym (ap now is);
    tree = subst IsTree (sym (ap now is)) (sound_tree mid.start mid.calls sound);
    none = ap (λ (l : Log). unsynced l.calls) is;
  },
  subst (λ (d : Disk). HasFront bytes (now old) d) (sym (ap now is)) has,
)

pub keeps_synced : (old mid new : Log) → KeepsShut old mid → IsShutBeside (now old) (now mid) → new ≡ adds mid Synced → KeepsShut old new
keeps_synced old mid new keeps here is = record {
  images = goes_to old mid new Synced (IsShutBeside (now old)) keeps.images is (λ c image.
      let i = subst (λ (l : Log). IsImage l c) is image in
      subst (IsShutBeside (now old)) (sym i) here);
  grown = at_then (journal_file ∷ []) old mid new keeps.grown (at_synced (journal_file ∷ []) mid new is);
}

pub front_shut : (bytes : List ℕ) (d c : Disk) → HasFront bytes d c → IsShutBeside d c
front_shut bytes d c has = record { bytes = has.gate ∷ (bytes ++ has.rest); here = has.here; shut = has.shut; alike = has.alike }

pub with_new : {X : Type 0} (a b : Option X) (P : X → X → Type 0) (T : X → Type 0) → Changes a b P → Told b T → Changes a b (λ x y. P x y × T y)
with_new None None P T p t = tt
with_new None (Some y) P T p t = absurd p
with_new (Some x) None P T p t = absurd p
with_new (Some x) (Some y) P T p t = (p, t)
