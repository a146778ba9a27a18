-- What is written behind a batch and its sum leaves them, and the journal closed.
use Rattle.std.proofs.Common.{◌≡◌, ℕ, suc, ◌+◌, ◌-◌, ◌≤◌, List, ◌∷◌, ◌++◌, length, take, drop, Option, Some, refl, sym, ap, subst, ◌∙◌, arith, append_assoc, length-append, length-take, length-drop}
use Rattle.std.proofs.lemmas.List.{take-append-drop}
use Rattle.sha2.proofs.Facts256.{length-sha256}
use Rattle.outside.specs.Disk.{Disk, Path, file, node_at}
use Rattle.outside.specs.Changes.{Write, CanDo, overwritten}
use Rattle.outside.specs.Images.{Log, now, HasDone, HasBroken}
use Rattle.deeds.proofs.Again.{at_disk}
use Rattle.deeds.specs.Deeds.{PlainDeed}
use Rattle.deeds.specs.Grammar.{behind_gate, spelled}
use Rattle.chunk_journal.specs.Journal.{journal_file}
use Rattle.chunk_journal.specs.Stages.{KeepsShut, HasFront, HasWritten, HasPlace, KeepsFront, KeepsItShut, headers_at, sum_behind}
use Rattle.chunk_journal.proofs.Gate.{same_bytes, written_here}
use Rattle.chunk_journal.proofs.Pieces.{piece_did, piece_broke, front_more}

-- a longer front is a front
front_begins : (front more : List ℕ) (d c : Disk) → HasFront (front ++ more) d c → HasFront front d c
front_begins front more d c has = record {
  gate = has.gate;
  shut = has.shut;
  rest = more ++ has.rest;
  here = has.here ∙ ap (λ (l : List ℕ). Some (file (has.gate ∷ l))) (append_assoc front more has.rest);
  alike = has.alike;
}

-- and with some of the bytes behind it, it is a longer one
front_longer : (n : ℕ) (front : List ℕ) (d c : Disk) (has : HasFront front d c) → HasFront (front ++ take n has.rest) d c
front_longer n front d c has = record {
  gate = has.gate;
  shut = has.shut;
  rest = drop n has.rest;
  here = has.here ∙ ap (λ (l : List ℕ). Some (file (has.gate ∷ l))) (ap (λ (l : List ℕ). front ++ l) (sym (take-append-drop n has.rest)) ∙ sym (append_assoc front (take n has.rest) (drop n has.rest)));
  alike = has.alike;
}

front_stays : (at : ℕ) (bytes : List ℕ) (old new : Log) → HasDone (Write journal_file (1 + at) bytes) old new → KeepsFront (1 + at) old new
front_stays at bytes old new did first front le has =
    let n = at - length front in
    let longer = front_longer n front (now first) (now old) has in
    let same : did.0.0 ≡ has.gate ∷ (front ++ has.rest) = same_bytes (node_at (now old) journal_file) did.0.0 (has.gate ∷ (front ++ has.rest)) did.0.1 has.here in
    let long : length did.0.0 ≡ suc (length front + length has.rest) = ap (λ (l : List ℕ). length l) same ∙ ap suc (length-append front has.rest) in
    let whole : length (front ++ take n has.rest) ≡ at = length-append front (take n has.rest) ∙ omega (arith, le, long, did.0.2, length-take n has.rest) in
    let more = front_more at (front ++ take n has.rest) bytes first old new whole longer did in
    front_begins front (take n has.rest ++ bytes) (now first) (now new) (subst (λ (l : List ℕ). HasFront l (now first) (now new)) (append_assoc front (take n has.rest) bytes) more)

from_one : (at : ℕ) → 1 ≤ at → at ≡ 1 + (at - 1)
from_one at le = omega (arith, le)

pub behind_did : (at : ℕ) (bytes : List ℕ) → 1 ≤ at → (old new : Log) → HasDone (Write journal_file at bytes) old new → KeepsFront at old new
behind_did at bytes le old new did =
    let e = from_one at le in
    subst (λ (n : ℕ). KeepsFront n old new) (sym e) (front_stays (at - 1) bytes old new (subst (λ (n : ℕ). HasDone (Write journal_file n bytes) old new) e did))

pub behind_shut : (at : ℕ) (bytes : List ℕ) → 1 ≤ at → (old new : Log) → HasDone (Write journal_file at bytes) old new → KeepsItShut old new
behind_shut at bytes le old new did first keeps =
    piece_did (at - 1) bytes first old new keeps (subst (λ (n : ℕ). HasDone (Write journal_file n bytes) old new) (from_one at le) did)

pub behind_broke : (at : ℕ) (bytes : List ℕ) → 1 ≤ at → (old new : Log) → HasBroken (Write journal_file at bytes) old new → KeepsItShut old new
behind_broke at bytes le old new broke first keeps =
    piece_broke (at - 1) bytes first old new keeps (subst (λ (n : ℕ). HasBroken (Write journal_file n bytes) old new) (from_one at le) broke)

-- more can be written behind it
pub behind_place : (at : ℕ) (bytes : List ℕ) (old new : Log) → HasDone (Write journal_file at bytes) old new → HasPlace (at + length bytes) new
behind_place at bytes old new did =
    let was = did.0.0 in (
      overwritten was at bytes,
      at_disk journal_file (ap now did.1) ∙ written_here at bytes was (now old) did.0.1,
      omega (arith, did.0.2, length-take at was, length-append (take at was ++ bytes) (drop (at + length bytes) was), length-append (take at was) bytes),
    )

-- ---- one write after the other

pub nothing_front : (at : ℕ) (log : Log) → KeepsFront at log log
nothing_front at log first front le has = has

pub nothing_shut : (log : Log) → KeepsItShut log log
nothing_shut log first keeps = keeps

pub then_front : (at next : ℕ) → at ≤ next → (old mid new : Log) → KeepsFront at old mid → KeepsFront next mid new → KeepsFront at old new
then_front at next le old mid new one two first front short has = two first front (omega (arith, le, short)) (one first front short has)

pub then_shut : (old mid new : Log) → KeepsItShut old mid → KeepsItShut mid new → KeepsItShut old new
then_shut old mid new one two first keeps = two first (one first keeps)

pub less_place : (at next : ℕ) → at ≤ next → (log : Log) → HasPlace next log → HasPlace at log
less_place at next le log has = (has.0, has.1, omega (arith, le, has.2))

-- ---- behind the batch and its sum

pub written_place : (bs : List PlainDeed) (old new : Log) → HasWritten bs old new → HasPlace (headers_at bs) new
written_place bs old new has =
    let front = behind_gate bs ++ sum_behind bs in
    (has.gate ∷ (front ++ has.rest), has.here, omega (arith, length-append front has.rest))

pub headers_long : (bs : List PlainDeed) → headers_at bs ≡ 49 + length (spelled bs)
headers_long bs = omega (arith, length-append (behind_gate bs) (sum_behind bs), length-sha256 (1 ∷ behind_gate bs))

pub headers_front : (bs : List PlainDeed) (old mid new : Log) → HasWritten bs old mid → KeepsFront (headers_at bs) mid new → HasWritten bs old new
headers_front bs old mid new has keeps = keeps old (behind_gate bs ++ sum_behind bs) (omega arith) has

pub headers_shut : (old mid new : Log) → KeepsShut old mid → KeepsItShut mid new → KeepsShut old new
headers_shut old mid new keeps goes_on = goes_on old keeps
