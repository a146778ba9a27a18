-- How an opening begins a history.
use Rattle.std.proofs.Common.{ℕ, suc, ◌≤◌, [], refl, ◌∙◌, sym, inl, arith}
use Rattle.outside.specs.Disk.{Disk}
use Rattle.outside.specs.Images.{Log, now, moment}
use Rattle.chunk_journal.specs.Journal.{IsAlike, RecoversTo}
use Rattle.tree_model.specs.Rows.{Rows}
use Rattle.crash_laws.specs.Crash.{DiskShows, IsBlind}
use Rattle.crash_laws.specs.Stands.{WasSafe, IsRunning}
use Rattle.crash_laws.specs.Opening.{StaysFound, StaysAsFound, HasFound, IsClearTree, IsSoundlyFound, IsFoundAs, OpeningRecovers}
use Rattle.crash_laws.proofs.Trees.{quiet_clear, alike_tree, clear_applied, clear_recovered}
use Rattle.crash_laws.proofs.Stops.{safe_stops}

module _ (Shows : DiskShows) (blind : IsBlind Shows) where
  -- no entry yet: k is 0. The found disk is alike to one that shows the rows
  found_safe : (rows : Rows) (found shown : Disk) (old new : Log) → StaysFound old new → RecoversTo (now old) found → IsAlike shown found → IsClearTree shown → Shows shown rows → (end : ℕ) → end ≤ suc (moment new)
      → WasSafe Shows (suc (moment old)) rows [] new end
  found_safe rows found shown old new stays recovers same clear shows end le m since before image here =
      let like = stays found recovers m since (omega (arith, before, le)) image here in
      let alike : IsAlike shown like.0 = λ q not_journal not_new. like.2 q not_journal not_new ∙ same q not_journal not_new in
      record {
        k = 0;
        within = omega arith;
        holds = λ i x at. absurd (cc);
        reopenable = like.3;
        disk = like.0;
        recovers = like.1;
        shows = inl (record { ended = λ i x at. absurd (cc); shows = blind shown like.0 rows shows (alike_tree shown like.0 clear alike) alike });
      }

  -- if the rows are those of the disk that was opened
  pub begins_now : (rows : Rows) (found : Disk) (old new : Log) → StaysFound old new → HasFound old new → RecoversTo (now old) found → Shows (now new) rows → IsRunning Shows (suc (moment old)) rows [] [] new
  begins_now rows found old new stays opened recovers shows = record {
    since = opened.since;
    past = found_safe rows found (now new) old new stays recovers (λ q not_journal not_new. sym (opened.found found recovers q not_journal not_new)) (quiet_clear new opened.at_rest) shows (moment new) (omega arith);
    tidy = opened.tidy;
    ended = λ i x at. absurd (cc);
    at_rest = opened.at_rest;
    base = 0;
    within = omega arith;
    holds = λ i x at. absurd (cc);
    shows = shows;
    after = now new;
    does = refl;
    shows_after = shows;
  }

  -- if they are those of the disk that the found one recovers to
  pub begins_found : (rows : Rows) (old new : Log) → StaysFound old new → HasFound old new → IsFoundAs Shows rows (now old) → IsRunning Shows (suc (moment old)) rows [] [] new
  begins_found rows old new stays opened is =
      begins_now rows is.found old new stays opened is.recovers (blind is.found (now new) rows is.shows opened.at_rest.steady.tree (opened.found is.found is.recovers))

  pub opening_recovers : (old new : Log) → StaysFound old new → StaysAsFound old new → IsSoundlyFound (now old) → OpeningRecovers Shows old new
  opening_recovers old new stays applied sound = record {
    whole = λ rows is. safe_stops Shows rows (suc (moment old)) [] new
        (found_safe rows is.found is.found old new stays is.recovers (λ q not_journal not_new. refl) (clear_recovered (now old) is.found sound is.recovers) is.shows (suc (moment new)) (omega arith));
    applied = λ rows is m since within image here.
        let like = applied is.disk is.recovered m since within image here in
        record {
          disk = like.0;
          recovered = like.1;
          shows = blind is.disk like.0 rows is.shows (alike_tree is.disk like.0 (clear_applied (now old) is.disk sound is.recovered) like.2) like.2;
        };
  }
