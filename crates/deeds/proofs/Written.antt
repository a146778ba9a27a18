-- The calls of a reshaping that may not be made to its end.
use Rattle.std.proofs.Common.{◌≡◌, ◌⊎◌, ⊎_elim, ℕ, ◌+◌, ◌≤◌, ◌<◌, List, [], ◌∷◌, ◌++◌, length, get_or, take, drop, Option, Some, None, refl, sym, ap, subst, ◌∙◌, inl, inr, arith}
use Rattle.std.proofs.lemmas.Bool.{cases_lt}
use Rattle.std.proofs.lemmas.List.{append-nil, take-append-drop, take_all, take_more}
use Rattle.outside.specs.Calls.{Changes, IsUnfit}
use Rattle.outside.specs.Changes.{Write, SetLen, CanDo, set_at, in_file, overwritten}
use Rattle.outside.specs.Disk.{Disk, Path, Node, folder, file, node_at, IsFile}
use Rattle.outside.specs.Images.{Log, now, HasDone, HasBroken}
use Rattle.outside.proofs.Paths.{by_path, same_disk, set_here, set_there}
use Rattle.deeds.specs.declared.writes.Range.{Range}
use Rattle.deeds.specs.Plain.{plain_ranges}
use Rattle.deeds.specs.Reshape.{Ranges, written, CanWrite, EndWithin, IsRangeOf}
use Rattle.deeds.specs.Deeds.{PlainDeed, Reshapes, Does, StaysAmid, reshaped}
use Rattle.deeds.specs.Applying.{StopsBehind, IsCutShort, BreaksOff, StaysRefused, HasBrokenOff}
use Rattle.deeds.proofs.Applying.{cannot_reshape}
use Rattle.deeds.proofs.CutShort.{can_more, ends_within, stops_after, stops_can, stops_then, written_more}
use Rattle.deeds.proofs.Doing.{broke_amid, did_amid, set_twice, write_of}

-- ---- ranges one by one

plain_more : (s t : List Range) → plain_ranges (s ++ t) ≡ plain_ranges s ++ plain_ranges t
plain_more [] t = refl
plain_more (r ∷ s) t = ap (λ (l : Ranges). (r.at, r.bytes.items) ∷ l) (plain_more s t)

pub ranges_at : (s : List Range) (i : ℕ) (r : Range) → drop i s ≡ r ∷ drop (i + 1) s
    → plain_ranges s ≡ plain_ranges (take i s) ++ (r.at, r.bytes.items) ∷ plain_ranges (drop (i + 1) s)
ranges_at s i r here = ap plain_ranges (sym (take-append-drop i s)) ∙ plain_more (take i s) (drop i s) ∙ ap (λ (l : List Range). plain_ranges (take i s) ++ plain_ranges l) here

pub ranges_next : (s : List Range) (i : ℕ) (r : Range) → i < length s → r ≡ get_or s i r → plain_ranges (take (i + 1) s) ≡ plain_ranges (take i s) ++ (r.at, r.bytes.items) ∷ []
ranges_next s i r lt is =
    ap plain_ranges (take_more s i r lt) ∙ plain_more (take i s) (get_or s i r ∷ []) ∙ ap (λ (x : Range). plain_ranges (take i s) ++ (x.at, x.bytes.items) ∷ []) (sym is)

range_in : (r : ℕ × List ℕ) (front rest : Ranges) → IsRangeOf r (front ++ r ∷ rest)
range_in r [] rest = inl refl
range_in r (s ∷ front) rest = inr (range_in r front rest)

-- ---- what is written so far

-- of a file these ranges; if there is none no call was made
pub record HasWritten (p : Path) (front : Ranges) (old new : Log) : Type 0 where
  pub into : (was : List ℕ) → node_at (now old) p ≡ Some (file was) → CanWrite front was × (now new ≡ set_at (now old) p (Some (file (written front was))))
  pub none : (IsFile (now old) p → ⊥) → new ≡ old

pub nothing_written : (p : Path) (log : Log) → HasWritten p [] log log
nothing_written p log = record {
  into = λ was here. (
    tt,
    same_disk (now log) (set_at (now log) p (Some (file was))) (λ q. by_path q p
        (λ at. ap (λ (t : Path). node_at (now log) t) at ∙ here ∙ sym (set_here (now log) p (Some (file was)) q at))
        (λ ne. sym (set_there (now log) p (Some (file was)) q ne))),
  );
  none = λ never. refl;
}

written_here : (p : Path) (front : Ranges) (old mid : Log) (was : List ℕ) → HasWritten p front old mid → node_at (now old) p ≡ Some (file was) → node_at (now mid) p ≡ Some (file (written front was))
written_here p front old mid was so_far here = ap (λ (d : Disk). node_at d p) (so_far.into was here).1 ∙ set_here (now old) p (Some (file (written front was))) p refl

-- a file was there before the calls, if one is there after them
was_file : (p : Path) (front : Ranges) (old mid : Log) → HasWritten p front old mid → IsFile (now mid) p → (IsFile (now old) p → ⊥) → ⊥
was_file p front old mid so_far is never = never (subst (λ (l : Log). IsFile (now l) p) (so_far.none never) is)

same_bytes : (p : Path) (d : Disk) (a b : List ℕ) → node_at d p ≡ Some (file a) → node_at d p ≡ Some (file b) → a ≡ b
same_bytes p d a b one two = let f : Some (file a) ≡ Some (file b) = sym one ∙ two in cc

-- ---- a write more

module _ (p : Path) (len : ℕ) (all front : Ranges) (r : ℕ × List ℕ) (rest : Ranges) (split : all ≡ front ++ r ∷ rest) (old mid : Log) (so_far : HasWritten p front old mid) where
  -- it is one of those before the call that can't be made
  record IsWithin (part : List PlainDeed) : Type 0 where
    made : Ranges
    long : ℕ
    is : part ≡ Reshapes p long made ∷ []
    one : IsRangeOf r made
    within : EndWithin long made

  within_cut : (part : List PlainDeed) → CanDo (Write p r.0 r.1) (now mid) → IsCutShort p len all (now old) part → IsWithin part
  within_cut part can cut = record { made = cut.made; long = length (written cut.made cut.was); is = cut.is; one = one after.1; within = ends_within (length (written cut.made cut.was)) cut.made cut.was (stops_can len all cut.was cut.made cut.stops) (omega arith) }
    where
      after : (more : Ranges) × StopsBehind len (r ∷ rest) (written front cut.was) more × (cut.made ≡ front ++ more)
      after = stops_after len front (r ∷ rest) cut.was cut.made (so_far.into cut.was cut.here).0 (subst (λ (l : Ranges). StopsBehind len l cut.was cut.made) split cut.stops)

      one : StopsBehind len (r ∷ rest) (written front cut.was) after.0 → IsRangeOf r cut.made
      one (inl stops) =
          let same = same_bytes p (now mid) can.0 (written front cut.was) can.1 (written_here p front old mid cut.was so_far cut.here) in
          absurd (omega (arith, stops.0, can.2, ap length same))
      one (inr more) = subst (IsRangeOf r) (sym (after.2 ∙ ap (λ (l : Ranges). front ++ l) more.3)) (range_in r front more.1)

  within_off : (part : List PlainDeed) → CanDo (Write p r.0 r.1) (now mid) → BreaksOff (Reshapes p len all) (now old) part → IsWithin part
  within_off part can off = by off.1
    where
      by : ((IsFile (now old) p → ⊥) × (part ≡ [])) ⊎ IsCutShort p len all (now old) part → IsWithin part
      by (inl none) = absurd (was_file p front old mid so_far (can.0, can.1) none.0)
      by (inr cut) = within_cut part can cut

  pub wrote_refused : (new : Log) → StaysRefused (Reshapes p len all) old mid → HasDone (Write p r.0 r.1) mid new → StaysRefused (Reshapes p len all) old new
  wrote_refused new stays did part off =
      let w = within_off part did.0 off in
      subst (λ (l : List PlainDeed). StaysAmid l old new) (sym w.is)
      (did_amid (Reshapes p w.long w.made) (Write p r.0 r.1) old mid new (write_of p w.long w.made r w.one w.within) (subst (λ (l : List PlainDeed). StaysAmid l old mid) w.is (stays part off)) did)

  pub tore_refused : (new : Log) → StaysRefused (Reshapes p len all) old mid → HasBroken (Write p r.0 r.1) mid new → StaysRefused (Reshapes p len all) old new
  tore_refused new stays (inl same) part off = subst (StaysAmid part old) (sym same) (stays part off)
  tore_refused new stays (inr broke) part off =
      let w = within_off part broke.1.can off in
      subst (λ (l : List PlainDeed). StaysAmid l old new) (sym w.is)
      (broke_amid (Reshapes p w.long w.made) (Write p r.0 r.1) old mid new (write_of p w.long w.made r w.one w.within) (subst (λ (l : List PlainDeed). StaysAmid l old mid) w.is (stays part off)) (inr broke))

  pub wrote_more : (new : Log) → HasDone (Write p r.0 r.1) mid new → HasWritten p (front ++ r ∷ []) old new
  wrote_more new did = record {
    into = λ was here.
        let so = so_far.into was here in
        let there = written_here p front old mid was so_far here in
        let same = same_bytes p (now mid) did.0.0 (written front was) did.0.1 there in
        let f = λ (bytes : List ℕ). overwritten bytes r.0 r.1 in (
          can_more front (r ∷ []) was so.0 (omega (arith, did.0.2, ap length same), tt),
          ap now did.1 ∙ ap (λ (o : Option Node). set_at (now mid) p (in_file f o)) there ∙ ap (λ (d : Disk). set_at d p (Some (file (f (written front was))))) so.1
              ∙ set_twice (now old) p (Some (file (written front was))) (Some (file (f (written front was)))) ∙ ap (λ (l : List ℕ). set_at (now old) p (Some (file l))) (sym (written_more front (r ∷ []) was)),
        );
    none = λ never. absurd (was_file p front old mid so_far (did.0.0, did.0.1) never);
  }

-- ---- the cut after all of them

module _ (p : Path) (len : ℕ) (all : Ranges) (old mid : Log) (so_far : HasWritten p all old mid) where
  no_cut : (part : List PlainDeed) → CanDo (SetLen p len) (now mid) → BreaksOff (Reshapes p len all) (now old) part → ⊥
  no_cut part can off = by off.1
    where
      by : ((IsFile (now old) p → ⊥) × (part ≡ [])) ⊎ IsCutShort p len all (now old) part → ⊥
      by (inl none) = was_file p all old mid so_far (can.0, can.1) none.0
      by (inr cut) =
          let after = stops_after len all [] cut.was cut.made (so_far.into cut.was cut.here).0 (subst (λ (l : Ranges). StopsBehind len l cut.was cut.made) (sym (append-nil all)) cut.stops) in
          let same = same_bytes p (now mid) can.0 (written all cut.was) can.1 (written_here p all old mid cut.was so_far cut.here) in
          omega (arith, after.1.0, can.2, ap length same)

  pub cut_refused : (new : Log) → HasDone (SetLen p len) mid new → StaysRefused (Reshapes p len all) old new
  cut_refused new did part off = absurd (no_cut part did.0 off)

  pub torn_refused : (new : Log) → StaysRefused (Reshapes p len all) old mid → HasBroken (SetLen p len) mid new → StaysRefused (Reshapes p len all) old new
  torn_refused new stays (inl same) part off = subst (StaysAmid part old) (sym same) (stays part off)
  torn_refused new stays (inr broke) part off = absurd (no_cut part broke.1.can off)

-- ---- a call that was refused

file_or_not : (o : Option Node) → ((was : List ℕ) × (o ≡ Some (file was))) ⊎ (((was : List ℕ) × (o ≡ Some (file was))) → ⊥)
file_or_not None = inr (λ is. let f : None ≡ Some (file is.0) = is.1 in cc)
file_or_not (Some folder) = inr (λ is. let f : Some folder ≡ Some (file is.0) = is.1 in cc)
file_or_not (Some (file was)) = inl (was, refl)

module _ (p : Path) (len : ℕ) (all front : Ranges) (old mid : Log) (so_far : HasWritten p front old mid)
    (stops : (was : List ℕ) → CanWrite front was → node_at (now mid) p ≡ Some (file (written front was)) → StopsBehind len all was front) where
  pub broken_off : HasBrokenOff (Reshapes p len all) old mid
  broken_off = by (file_or_not (node_at (now old) p))
    where
      by : IsFile (now old) p ⊎ (IsFile (now old) p → ⊥) → HasBrokenOff (Reshapes p len all) old mid
      by (inl is) =
          let so = so_far.into is.0 is.1 in
          let stop = stops is.0 so.0 (written_here p front old mid is.0 so_far is.1) in
          let n = length (written front is.0) in
          record {
            part = Reshapes p n front ∷ [];
            off = (λ after does. cannot_reshape p len all (now old) is.0 front is.1 stop after does, inr (record { was = is.0; here = is.1; made = front; stops = stop; is = refl }));
            does = (
              now mid,
              inr (
                (is.0, is.1, ends_within n front is.0 so.0 (omega arith), so.0, omega arith),
                so.1 ∙ sym (ap (λ (o : Option Node). set_at (now old) p (in_file (reshaped n front) o)) is.1 ∙ ap (λ (l : List ℕ). set_at (now old) p (Some (file l))) (take_all n (written front is.0) (omega arith))),
              ),
              refl,
            );
          }
      by (inr never) = record {
        part = [];
        off = (λ after does. no_reshape after does, inl (never, refl));
        does = ap now (so_far.none never);
      }
        where
          no_reshape : (after : Disk) → Does (Reshapes p len all) (now old) after → ⊥
          no_reshape after (inl already) = already.0
          no_reshape after (inr does) = never (does.0.0, does.0.1)

pub write_off : (p : Path) (len : ℕ) (all front : Ranges) (r : ℕ × List ℕ) (rest : Ranges) → all ≡ front ++ r ∷ rest → (old mid new : Log) → HasWritten p front old mid
    → HasBroken (Write p r.0 r.1) mid new → (CanDo (Write p r.0 r.1) (now mid) → ⊥) → HasBrokenOff (Reshapes p len all) old new
write_off p len all front r rest split old mid new so_far (inr broke) cannot = absurd (cannot broke.1.can)
write_off p len all front r rest split old mid new so_far (inl same) cannot =
    subst (HasBrokenOff (Reshapes p len all) old) (sym same) (broken_off p len all front old mid so_far stops)
  where
    stops : (was : List ℕ) → CanWrite front was → node_at (now mid) p ≡ Some (file (written front was)) → StopsBehind len all was front
    stops was can here = ⊎_elim
        (λ (lt : length (written front was) < r.0). subst (λ (l : Ranges). StopsBehind len l was front) (sym split)
        (subst (λ (l : Ranges). StopsBehind len (front ++ r ∷ rest) was l) (append-nil front) (stops_then len front (r ∷ rest) was [] can (inl (lt, refl)))))
        (λ (le : r.0 ≤ length (written front was)). absurd (cannot (written front was, here, le)))
        (cases_lt (length (written front was)) r.0)

pub cut_off : (p : Path) (len : ℕ) (all : Ranges) (old mid new : Log) → HasWritten p all old mid → HasBroken (SetLen p len) mid new → (CanDo (SetLen p len) (now mid) → ⊥) → HasBrokenOff (Reshapes p len all) old new
cut_off p len all old mid new so_far (inr broke) cannot = absurd (cannot broke.1.can)
cut_off p len all old mid new so_far (inl same) cannot = subst (HasBrokenOff (Reshapes p len all) old) (sym same) (broken_off p len all all old mid so_far stops)
  where
    stops : (was : List ℕ) → CanWrite all was → node_at (now mid) p ≡ Some (file (written all was)) → StopsBehind len all was all
    stops was can here = ⊎_elim
        (λ (lt : length (written all was) < len). subst (λ (l : Ranges). StopsBehind len l was all) (append-nil all)
        (subst (λ (l : Ranges). StopsBehind len (all ++ []) was l) (append-nil all) (stops_then len all [] was [] can (lt, refl))))
        (λ (le : len ≤ length (written all was)). absurd (cannot (written all was, here, le)))
        (cases_lt (length (written all was)) len)

-- if it is told
pub off_told : (a b c : Option Log) (fb fc : ℕ) (P : Log → Log → Type 0) (Q : Log → Log → Type 0) (Can : Log → Type 0) (R : Log → Log → Type 0) → ((x y z : Log) → P x y → Q y z → (Can y → ⊥) → R x z)
    → Changes a b P → Changes b c Q → IsUnfit b fb fc Can → Changes a c R
off_told None None None fb fc P Q Can R f p q unfit = tt
off_told None None (Some z) fb fc P Q Can R f p q unfit = absurd q
off_told None (Some y) c fb fc P Q Can R f p q unfit = absurd p
off_told (Some x) None c fb fc P Q Can R f p q unfit = absurd p
off_told (Some x) (Some y) None fb fc P Q Can R f p q unfit = absurd q
off_told (Some x) (Some y) (Some z) fb fc P Q Can R f p q unfit = f x y z p q unfit
