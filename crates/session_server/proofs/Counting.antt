-- Counts of ends.
use Rattle.std.proofs.Common.{◌≡◌, ℕ, suc, ◌≤◌, Bool, true, false, cond, List, [], ◌∷◌, length, arith}
use Rattle.std.specs.Prelude.{filter}
use Rattle.session_server.specs.declared.ending.SessionEnd.{SessionEnd}
use Rattle.session_server.specs.declared.counts.SessionCounts.{SessionCounts}
use Rattle.session_server.specs.Ends.{AreCounts, count_of, is_done, is_cut, is_bad, is_read_fault, is_write_fault, is_memory, is_limit}

-- no more ended so than there were
pub count_of-le : (test : SessionEnd → Bool) (ends : List SessionEnd) → count_of test ends ≤ length ends
count_of-le test [] = omega arith
count_of-le test (end ∷ ends) =
    let rest = count_of-le test ends in
    elim (test end) as (λ (b : Bool). length (cond b (end ∷ filter test ends) (filter test ends)) ≤ suc (length ends)) [ true ↦ omega arith | false ↦ omega arith ]

-- none of the counts of few sessions is high
pub record AreFew (counts : SessionCounts) (most : ℕ) : Type 0 where
  pub done : counts.done ≤ most
  pub cut : counts.cut ≤ most
  pub bad : counts.bad ≤ most
  pub read : counts.read ≤ most
  pub write : counts.write ≤ most
  pub memory : counts.memory ≤ most
  pub limit : counts.limit ≤ most

at_most : (n most : ℕ) (test : SessionEnd → Bool) (ends : List SessionEnd) → n ≡ count_of test ends → length ends ≤ most → n ≤ most
at_most n most test ends is le = let few = count_of-le test ends in omega arith

pub are_few : (counts : SessionCounts) (ends : List SessionEnd) (most : ℕ) → AreCounts counts ends → length ends ≤ most → AreFew counts most
are_few counts ends most are le = record {
  done = at_most counts.done most is_done ends are.done le;
  cut = at_most counts.cut most is_cut ends are.cut le;
  bad = at_most counts.bad most is_bad ends are.bad le;
  read = at_most counts.read most is_read_fault ends are.read le;
  write = at_most counts.write most is_write_fault ends are.write le;
  memory = at_most counts.memory most is_memory ends are.memory le;
  limit = at_most counts.limit most is_limit ends are.limit le;
}
