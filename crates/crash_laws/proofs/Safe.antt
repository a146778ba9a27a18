-- What was said of images stays said: over calls of the folder, and over entries.
use Rattle.std.proofs.Common.{◌≡◌, ⊎_elim, ℕ, suc, ◌≤◌, ◌<◌, List, [], ◌∷◌, ◌++◌, length, sym, subst, inl, inr, arith}
use Rattle.std.proofs.lemmas.Bool.{cases_lt}
use Rattle.outside.specs.Disk.{Disk}
use Rattle.outside.specs.Images.{Log, moment, IsImage, LeavesOnly}
use Rattle.outside.proofs.Moments.{at_since}
use Rattle.tree_model.specs.Rows.{Rows}
use Rattle.tree_model.specs.History.{Entry}
use Rattle.crash_laws.specs.Crash.{DiskShows, HoldsEnded, IsFlagged, IsCrash, rows_stepped}
use Rattle.crash_laws.specs.Stands.{WasSafe}
use Rattle.crash_laws.proofs.Histories.{at_more, at_kept, longer, rows_more}

module _ (Shows : DiskShows) (rows : Rows) where
  -- ---- one image

  flagged_more : (history : List Entry) (m k : ℕ) (disk : Disk) (e : Entry) → k ≤ length history → IsFlagged Shows rows history m k disk → IsFlagged Shows rows (history ++ e ∷ []) m k disk
  flagged_more history m k disk e within f = record {
    ended = λ i x at le. at_more history e i x at (λ old. f.ended i x old le) (λ last same. absurd (omega (arith, last, le, within)));
    entry = f.entry;
    there = at_kept history e k f.entry f.there;
    failed = f.failed;
    shows = subst (λ (r : Rows). Shows disk (rows_stepped r f.entry.made)) (sym (rows_more rows history e k within)) f.shows;
  }

  -- it stays said with one entry more, if that is stable no further than what was held, or hadn't ended
  pub crash_more : (history : List Entry) (m : ℕ) (image : Disk) (e : Entry) → (e.made.moment ≤ m → (k : ℕ) → HoldsEnded history m k → e.made.stable ≤ k)
      → IsCrash Shows rows history m image → IsCrash Shows rows (history ++ e ∷ []) m image
  crash_more history m image e low is = record {
    k = is.k;
    within = omega (arith, longer history e, is.within);
    holds = λ i x at ended. at_more history e i x at (λ old. is.holds i x old ended)
        (λ last same. subst (λ (y : Entry). y.made.stable ≤ is.k) same (low (subst (λ (y : Entry). y.made.moment ≤ m) (sym same) ended) is.k is.holds));
    reopenable = is.reopenable;
    disk = is.disk;
    recovers = is.recovers;
    shows = elim is.shows [
      | inl a ↦ inl (record {
        ended = λ i x at le. at_more history e i x at (λ old. a.ended i x old le) (λ last same. absurd (omega (arith, last, le, is.within)));
        shows = subst (λ (r : Rows). Shows is.disk r) (sym (rows_more rows history e is.k is.within)) a.shows;
      })
      | inr f ↦ inr (flagged_more history m is.k is.disk e is.within f)
    ];
  }

  module _ (opened : ℕ) where
    -- ---- over calls

    -- what was safe stays safe, and the new moments are by what each of their images is
    pub safe_goes : (history : List Entry) (old new : Log) (end : ℕ) (P : Disk → Type 0) → LeavesOnly old new P → end ≤ suc (moment new) → WasSafe Shows opened rows history old (moment old)
        → ((m : ℕ) → moment old ≤ m → m < end → (image : Disk) → P image → IsCrash Shows rows history m image) → WasSafe Shows opened rows history new end
    safe_goes history old new end P all bound past here m since before image is = ⊎_elim
        (λ (early : m < moment old). past m since early image (subst (λ (l : Log). IsImage l image) (at_since old new all.later.0 m all.start all.later.1 (omega arith)) is))
        (λ (late : moment old ≤ m). here m late before image (all.each m late (omega arith) image is))
        (cases_lt m (moment old))

    pub safe_shorter : (history : List Entry) (log : Log) (end : ℕ) → WasSafe Shows opened rows history log (suc end) → WasSafe Shows opened rows history log end
    safe_shorter history log end all m since before = all m since (omega arith)

    -- ---- over entries

    -- an entry says nothing of the moments before its end
    pub safe_more : (history : List Entry) (log : Log) (e : Entry) (end : ℕ) → end ≤ e.made.moment → WasSafe Shows opened rows history log end → WasSafe Shows opened rows (history ++ e ∷ []) log end
    safe_more history log e end at past m since before image is = crash_more history m image e (λ ended k holds. absurd (omega (arith, at, ended, before))) (past m since before image is)

    -- an entry that is stable no further than all before it says nothing of this moment either
    pub safe_more_now : (history : List Entry) (log : Log) (e : Entry) → e.made.moment ≡ moment log → ((k : ℕ) → HoldsEnded history (moment log) k → e.made.stable ≤ k)
        → WasSafe Shows opened rows history log (suc (moment log)) → WasSafe Shows opened rows (history ++ e ∷ []) log (suc (moment log))
    safe_more_now history log e at low past m since before image is =
        crash_more history m image e (λ ended k holds. low k (λ i x is held. holds i x is (omega (arith, at, ended, held)))) (past m since before image is)
