-- A reshaping range by range, of logs that may be told.
use Rattle.std.proofs.Common.{◌≡◌, ℕ, ◌+◌, ◌≤◌, ◌<◌, List, [], ◌∷◌, length, get_or, take, drop, Option, refl, sym, ap, subst, inl, inr, arith}
use Rattle.std.proofs.lemmas.List.{drop_all, take_all}
use Rattle.outside.specs.Calls.{Changes, IsUnfit}
use Rattle.outside.specs.Changes.{Change, Write, SetLen, CanDo, IsPartOf}
use Rattle.outside.specs.Disk.{Disk, Path}
use Rattle.outside.specs.Images.{Log, now, HasDone, HasBroken}
use Rattle.outside.proofs.Told.{both_changed, through, unchanged}
use Rattle.deeds.specs.declared.writes.Range.{Range}
use Rattle.deeds.specs.Plain.{plain_ranges}
use Rattle.deeds.specs.Reshape.{Ranges, EndWithin, IsRangeOf}
use Rattle.deeds.specs.Deeds.{PlainDeed, Reshapes, Does, StaysAmid, GoesOnAt, IsPartOfDeed, IsLeft}
use Rattle.deeds.specs.Applying.{StaysRefused, HasBrokenOff}
use Rattle.deeds.proofs.Doing.{all_still, broke_more, cut_of, did_more, left_does, reshape_left, still_amid, write_of}
use Rattle.deeds.proofs.Growing.{did_grown, grown_at, still_grown}
use Rattle.deeds.proofs.Phases.{unfit_then}
use Rattle.deeds.proofs.Written.{HasWritten, cut_off, cut_refused, nothing_written, off_told, ranges_at, ranges_next, tore_refused, torn_refused, write_off, wrote_more, wrote_refused}

abbrev Lefts : (p : Path) (n : ℕ) (all rest : List Range) → Log → Log → Type 0
Lefts p n all rest old new = (end : Disk) → IsLeft p n (plain_ranges rest) (now new) end → IsLeft p n (plain_ranges all) (now old) end

abbrev Follows : (p : Path) (n : ℕ) (all rest : List Range) → Log → Log → Type 0
Follows p n all rest old new = (end : Disk) → IsLeft p n (plain_ranges all) (now old) end → IsLeft p n (plain_ranges rest) (now new) end

abbrev Both : (p : Path) (n : ℕ) (all front : Ranges) → Log → Log → Type 0
Both p n all front old new = HasWritten p front old new × StaysRefused (Reshapes p n all) old new

-- the first ranges were written, between two logs and two counts of faults
pub record IsReshapedTo (p : Path) (n : ℕ) (s : List Range) (i : ℕ) (a b : Option Log) (fa fb : ℕ) : Type 0 where
  pub done : Changes a b (Lefts p n s (drop i s))
  pub within : (t : ℕ × List ℕ) → IsRangeOf t (plain_ranges (drop i s)) → IsRangeOf t (plain_ranges s)
  pub rest : Changes a b (Follows p n s (drop i s))
  pub later : fa ≤ fb
  pub amid : Changes a b (StaysAmid (Reshapes p n (plain_ranges s) ∷ []))
  pub so_far : Changes a b (HasWritten p (plain_ranges (take i s)))
  pub refused : Changes a b (StaysRefused (Reshapes p n (plain_ranges s)))
  pub grown : Changes a b (GoesOnAt (p ∷ []))

pub not_reshaped : (p : Path) (n : ℕ) (s : List Range) (a : Option Log) (fa : ℕ) → IsReshapedTo p n s 0 a a fa fa
not_reshaped p n s a fa =
    let x = Reshapes p n (plain_ranges s) in
    record {
      done = unchanged a a (Lefts p n s s) refl (λ l end more. more);
      within = λ t one. one;
      rest = unchanged a a (Follows p n s s) refl (λ l end more. more);
      later = omega arith;
      amid = unchanged a a (StaysAmid (x ∷ [])) refl (still_amid x);
      so_far = unchanged a a (HasWritten p []) refl (nothing_written p);
      refused = unchanged a a (StaysRefused x) refl (λ l part off. all_still part l);
      grown = still_grown (p ∷ []) a a refl;
    }

module _ {p : Path} {n : ℕ} {s : List Range} {i : ℕ} {a b : Option Log} {fa fb : ℕ} (front : IsReshapedTo p n s i a b fa fb) (ends : EndWithin n (plain_ranges s)) (d : Option Log) (fd : ℕ) where
  abbrev whole : PlainDeed
  whole = Reshapes p n (plain_ranges s)

  abbrev Can : Log → Type 0
  Can log = (after : Disk) × Does whole (now log) after

  both : Changes a b (Both p n (plain_ranges s) (plain_ranges (take i s)))
  both = both_changed a b (HasWritten p (plain_ranges (take i s))) (StaysRefused whole) front.so_far front.refused

  -- ---- the next range

  module _ {r : Range} (here : drop i s ≡ r ∷ drop (i + 1) s) where
    abbrev w : Change
    w = Write p r.at r.bytes.items

    its : (x y : Disk) → IsPartOf w x y → IsPartOfDeed whole x y
    its = write_of p n (plain_ranges s) (r.at, r.bytes.items) (front.within (r.at, r.bytes.items) (subst (λ (l : List Range). IsRangeOf (r.at, r.bytes.items) (plain_ranges l)) (sym here) (inl refl))) ends

    pub wrote : i < length s → r ≡ get_or s i r → Changes b d (HasDone w) → fb ≤ fd → IsReshapedTo p n s (i + 1) a d fa fd
    wrote lt is did later = record {
      done = through a b d (Lefts p n s (drop i s)) (HasDone w) (Lefts p n s (drop (i + 1) s))
          (λ old mid new so_far did end more. so_far end (subst (λ (l : List Range). IsLeft p n (plain_ranges l) (now mid) end) (sym here)
          (did.0, subst (λ (t : Disk). IsLeft p n (plain_ranges (drop (i + 1) s)) t end) (ap now did.1) more)))
          front.done did;
      within = λ t one. front.within t (subst (λ (l : List Range). IsRangeOf t (plain_ranges l)) (sym here) (inr one));
      rest = through a b d (Follows p n s (drop i s)) (HasDone w) (Follows p n s (drop (i + 1) s))
          (λ old mid new so_far did end more.
          let left = subst (λ (l : List Range). IsLeft p n (plain_ranges l) (now mid) end) here (so_far end more) in
          subst (λ (t : Disk). IsLeft p n (plain_ranges (drop (i + 1) s)) t end) (sym (ap now did.1)) left.1)
          front.rest did;
      later = omega (arith, front.later, later);
      amid = did_more whole w its a b d front.amid did;
      so_far = through a b d (HasWritten p (plain_ranges (take i s))) (HasDone w) (HasWritten p (plain_ranges (take (i + 1) s)))
          (λ old mid new so_far did. subst (λ (l : Ranges). HasWritten p l old new) (sym (ranges_next s i r lt is))
          (wrote_more p n (plain_ranges s) (plain_ranges (take i s)) (r.at, r.bytes.items) (plain_ranges (drop (i + 1) s)) (ranges_at s i r here) old mid so_far new did))
          front.so_far did;
      refused = through a b d (Both p n (plain_ranges s) (plain_ranges (take i s))) (HasDone w) (StaysRefused whole)
          (λ old mid new both did. wrote_refused p n (plain_ranges s) (plain_ranges (take i s)) (r.at, r.bytes.items) (plain_ranges (drop (i + 1) s)) (ranges_at s i r here) old mid both.0 new both.1 did) both did;
      grown = grown_at (p ∷ []) a b d front.grown (did_grown w b d did);
    }

    pub tore_amid : Changes b d (HasBroken w) → Changes a d (StaysAmid (whole ∷ []))
    tore_amid broke = broke_more whole w its a b d front.amid broke

    pub tore_stays : Changes b d (HasBroken w) → Changes a d (StaysRefused whole)
    tore_stays broke = through a b d (Both p n (plain_ranges s) (plain_ranges (take i s))) (HasBroken w) (StaysRefused whole)
        (λ old mid new both broke. tore_refused p n (plain_ranges s) (plain_ranges (take i s)) (r.at, r.bytes.items) (plain_ranges (drop (i + 1) s)) (ranges_at s i r here) old mid both.0 new both.1 broke) both broke

    pub write_unfit : IsUnfit b fb fd (λ log. CanDo w (now log)) → IsUnfit a fa fd Can
    write_unfit unfit = unfit_then a b fa fb fd (Follows p n s (drop i s)) Can (λ log. CanDo w (now log))
        (λ old mid so_far can.
        let l = reshape_left p n (plain_ranges s) (now old) can.0 can.1 in
        (subst (λ (t : List Range). IsLeft p n (plain_ranges t) (now mid) l.0) here (so_far l.0 l.1)).0) front.rest front.later unfit

    pub write_left : Changes b d (HasBroken w) → IsUnfit b fb fd (λ log. CanDo w (now log)) → Changes a d (HasBrokenOff whole)
    write_left broke unfit = off_told a b d fb fd (HasWritten p (plain_ranges (take i s))) (HasBroken w) (λ log. CanDo w (now log)) (HasBrokenOff whole)
        (λ old mid new so_far broke cannot. write_off p n (plain_ranges s) (plain_ranges (take i s)) (r.at, r.bytes.items) (plain_ranges (drop (i + 1) s)) (ranges_at s i r here) old mid new so_far broke cannot)
        front.so_far broke unfit

  -- ---- the cut, after all ranges

  pub cut_amid : Changes b d (HasDone (SetLen p n)) → Changes a d (StaysAmid (whole ∷ []))
  cut_amid did = did_more whole (SetLen p n) (cut_of p n (plain_ranges s)) a b d front.amid did

  pub uncut_amid : Changes b d (HasBroken (SetLen p n)) → Changes a d (StaysAmid (whole ∷ []))
  uncut_amid broke = broke_more whole (SetLen p n) (cut_of p n (plain_ranges s)) a b d front.amid broke

  module _ (all : length s ≤ i) where
    none : drop i s ≡ []
    none = drop_all i s all

    all_written : Changes a b (HasWritten p (plain_ranges s))
    all_written = subst (λ (l : List Range). Changes a b (HasWritten p (plain_ranges l))) (take_all i s all) front.so_far

    pub cut_does : Changes b d (HasDone (SetLen p n)) → Changes a d (λ old new. Does whole (now old) (now new))
    cut_does did = through a b d (Lefts p n s (drop i s)) (HasDone (SetLen p n)) (λ old new. Does whole (now old) (now new))
        (λ old mid new so_far did. left_does p n (plain_ranges s) (now old) (now new) ends (so_far (now new) (subst (λ (l : List Range). IsLeft p n (plain_ranges l) (now mid) (now new)) (sym none) (did.0, ap now did.1))))
        front.done did

    pub cut_stays : Changes b d (HasDone (SetLen p n)) → Changes a d (StaysRefused whole)
    cut_stays did = through a b d (HasWritten p (plain_ranges s)) (HasDone (SetLen p n)) (StaysRefused whole) (λ old mid new so_far did. cut_refused p n (plain_ranges s) old mid so_far new did) all_written did

    pub uncut_stays : Changes b d (HasBroken (SetLen p n)) → Changes a d (StaysRefused whole)
    uncut_stays broke = through a b d (Both p n (plain_ranges s) (plain_ranges s)) (HasBroken (SetLen p n)) (StaysRefused whole)
        (λ old mid new both broke. torn_refused p n (plain_ranges s) old mid both.0 new both.1 broke) (both_changed a b (HasWritten p (plain_ranges s)) (StaysRefused whole) all_written front.refused) broke

    pub cut_unfit : IsUnfit b fb fd (λ log. CanDo (SetLen p n) (now log)) → IsUnfit a fa fd Can
    cut_unfit unfit = unfit_then a b fa fb fd (Follows p n s (drop i s)) Can (λ log. CanDo (SetLen p n) (now log))
        (λ old mid so_far can.
        let l = reshape_left p n (plain_ranges s) (now old) can.0 can.1 in
        (subst (λ (t : List Range). IsLeft p n (plain_ranges t) (now mid) l.0) none (so_far l.0 l.1)).0) front.rest front.later unfit

    pub cut_left : Changes b d (HasBroken (SetLen p n)) → IsUnfit b fb fd (λ log. CanDo (SetLen p n) (now log)) → Changes a d (HasBrokenOff whole)
    cut_left broke unfit = off_told a b d fb fd (HasWritten p (plain_ranges s)) (HasBroken (SetLen p n)) (λ log. CanDo (SetLen p n) (now log)) (HasBrokenOff whole)
        (λ old mid new so_far broke cannot. cut_off p n (plain_ranges s) old mid new so_far broke cannot) all_written broke unfit
