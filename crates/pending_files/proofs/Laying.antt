-- What waits, laid over a disk.
use Rattle.std.proofs.Common.{◌≡◌, ℕ, List, [], ◌∷◌, Bool, true, false, Option, Some, None, IsSome, refl, sym, ap, subst, ◌∙◌, inl, inr, arith}
use Rattle.std.specs.List.{AllByRecursion}
use Rattle.std.specs.Option.{option_map}
use Rattle.std.proofs.lemmas.Option.{same_Some}
use Rattle.outside.specs.Disk.{Disk, Path, node_at, IsTree}
use Rattle.outside.specs.Changes.{Write}
use Rattle.outside.specs.Images.{Call, Did, Broke, Synced, Log}
use Rattle.deeds.specs.Reshape.{Ranges}
use Rattle.deeds.specs.Deeds.{PlainDeed, MakesDir, Puts, Renames, Removes, RemovesDir, Reshapes, Does, DoesAll, done_deed, in_order}
use Rattle.deeds.proofs.Amid.{tree_run}
use Rattle.pending_files.specs.Pending.{file_of, IsWaiting, ArePending}
use Rattle.pending_files.specs.Later.{IsReshaped}
use Rattle.pending_files.specs.Laid.{laid, range_calls, deed_calls, waiting_calls, laid_log, CanWait, outline, LookAlike}
use Rattle.pending_files.proofs.Doing.{order_is, later_file, later_other}

-- ---- done on a disk, it is laid over it

did_alone : (x : PlainDeed) (d later : Disk) → IsWaiting x → Does x d later → later ≡ done_deed x d
did_alone (Reshapes p len rs) d later waits (inl never) = absurd never.0
did_alone (Reshapes p len rs) d later waits (inr does) = does.1
did_alone (MakesDir p) d later waits does = absurd waits
did_alone (Puts p bytes) d later waits does = absurd waits
did_alone (Renames p q) d later waits does = absurd waits
did_alone (Removes p) d later waits does = absurd waits
did_alone (RemovesDir p) d later waits does = absurd waits

all_alone : (ds : List PlainDeed) (d later : Disk) → AllByRecursion IsWaiting ds → DoesAll ds d later → later ≡ laid ds d
all_alone [] d later each does = does
all_alone (x ∷ ds) d later each does = all_alone ds does.0 later each.1 does.2 ∙ ap (laid ds) (did_alone x d does.0 each.0 does.1)

pub is_laid : (ds : List PlainDeed) (d later : Disk) → ArePending ds → DoesAll (in_order ds) d later → later ≡ laid ds d
is_laid ds d later are does = all_alone ds d later are.each (subst (λ (l : List PlainDeed). DoesAll l d later) (order_is ds are.each) does)

-- ---- nothing can wait always

pub none_waits : (d : Disk) → CanWait [] d
none_waits d = record {
  pending = record { each = tt; apart = tt; few_files = omega arith; few_chunks = omega arith };
  does = refl;
}

-- ---- what it leaves

pub laid_tree : (ds : List PlainDeed) (d : Disk) → CanWait ds d → IsTree d → IsTree (laid ds d)
laid_tree ds d can tree = tree_run (in_order ds) d (laid ds d) tree can.does

same_outline : (path : Path) (len : ℕ) (ranges : Ranges) (d later : Disk) → IsReshaped path len ranges d later → outline (node_at later path) ≡ outline (node_at d path)
same_outline path len ranges d later is = ap outline is.is ∙ sym (ap outline is.there)

-- at each path
pub same_kinds : (ds : List PlainDeed) (d : Disk) (q : Path) → CanWait ds d → outline (node_at (laid ds d) q) ≡ outline (node_at d q)
same_kinds ds d q can = step (file_of q ds) refl
  where
    step : (o : Option (ℕ × Ranges)) → file_of q ds ≡ o → outline (node_at (laid ds d) q) ≡ outline (node_at d q)
    step None none = ap outline (later_other q ds d (laid ds d) can.pending.each none can.does)
    step (Some f) some = same_outline q f.0 f.1 d (laid ds d) (later_file q ds f.0 f.1 d (laid ds d) can.pending.each can.pending.apart some can.does)

pub looks_alike : (ds : List PlainDeed) (d : Disk) → CanWait ds d → LookAlike d (laid ds d)
looks_alike ds d can = λ q deep. same_kinds ds d q can

-- ---- what reads give says what waits, and the folder's log

writes_first : List Call → Bool
writes_first [] = false
writes_first (Synced ∷ calls) = false
writes_first (Broke change left ∷ calls) = false
writes_first (Did (Write path at bytes) ∷ calls) = true
writes_first (Did other ∷ calls) = false

others_first : (ds : List PlainDeed) (calls : List Call) → writes_first (waiting_calls ds calls) ≡ false
unfolding writes_first
others_first [] calls = refl
others_first (MakesDir p ∷ ds) calls = refl
others_first (Puts p bytes ∷ ds) calls = refl
others_first (Renames p q ∷ ds) calls = refl
others_first (Removes p ∷ ds) calls = refl
others_first (RemovesDir p ∷ ds) calls = refl
others_first (Reshapes p len rs ∷ ds) calls = refl

same_ranges : (p : Path) (rs ss : Ranges) (a b : List Call) → writes_first a ≡ false → writes_first b ≡ false → range_calls p rs a ≡ range_calls p ss b → (rs ≡ ss) × (a ≡ b)
unfolding writes_first
same_ranges p [] [] a b first first' same = (refl, same)
same_ranges p [] (s ∷ ss) a b first first' same = let no : false ≡ true = sym first ∙ ap writes_first same in absurd cc
same_ranges p (r ∷ rs) [] a b first first' same = let no : false ≡ true = sym first' ∙ ap writes_first (sym same) in absurd cc
same_ranges p (r ∷ rs) (s ∷ ss) a b first first' same =
    let at : r.0 ≡ s.0 = cc in
    let bytes : r.1 ≡ s.1 = cc in
    let rest : range_calls p rs a ≡ range_calls p ss b = cc in
    let more = same_ranges p rs ss a b first first' rest in
    (λ i. (at i, bytes i) ∷ more.0 i, more.1)

never_ended : (x : PlainDeed) (calls others : List Call) → Synced ∷ calls ≡ deed_calls x others → ⊥
never_ended (MakesDir p) calls others same = absurd cc
never_ended (Puts p bytes) calls others same = absurd cc
never_ended (Renames p q) calls others same = absurd cc
never_ended (Removes p) calls others same = absurd cc
never_ended (RemovesDir p) calls others same = absurd cc
never_ended (Reshapes p len rs) calls others same = absurd cc

same_deeds : (ds es : List PlainDeed) (a b : List Call) → waiting_calls ds a ≡ waiting_calls es b → (ds ≡ es) × (a ≡ b)
same_deeds [] [] a b same = (refl, cc)
same_deeds [] (x ∷ es) a b same = absurd (never_ended x a (waiting_calls es b) same)
same_deeds (x ∷ ds) [] a b same = absurd (never_ended x b (waiting_calls ds a) (sym same))
same_deeds (MakesDir p ∷ ds) (MakesDir q ∷ es) a b same =
    let x : p ≡ q = cc in let rest : waiting_calls ds a ≡ waiting_calls es b = cc in let more = same_deeds ds es a b rest in (λ i. MakesDir (x i) ∷ more.0 i, more.1)
same_deeds (Puts p f ∷ ds) (Puts q g ∷ es) a b same =
    let x : p ≡ q = cc in let y : f ≡ g = cc in let rest : waiting_calls ds a ≡ waiting_calls es b = cc in let more = same_deeds ds es a b rest in (λ i. Puts (x i) (y i) ∷ more.0 i, more.1)
same_deeds (Renames p f ∷ ds) (Renames q g ∷ es) a b same =
    let x : p ≡ q = cc in let y : f ≡ g = cc in let rest : waiting_calls ds a ≡ waiting_calls es b = cc in let more = same_deeds ds es a b rest in (λ i. Renames (x i) (y i) ∷ more.0 i, more.1)
same_deeds (Removes p ∷ ds) (Removes q ∷ es) a b same =
    let x : p ≡ q = cc in let rest : waiting_calls ds a ≡ waiting_calls es b = cc in let more = same_deeds ds es a b rest in (λ i. Removes (x i) ∷ more.0 i, more.1)
same_deeds (RemovesDir p ∷ ds) (RemovesDir q ∷ es) a b same =
    let x : p ≡ q = cc in let rest : waiting_calls ds a ≡ waiting_calls es b = cc in let more = same_deeds ds es a b rest in (λ i. RemovesDir (x i) ∷ more.0 i, more.1)
same_deeds (Reshapes p len rs ∷ ds) (Reshapes q len' ss ∷ es) a b same =
    let x : p ≡ q = cc in
    let y : len ≡ len' = cc in
    let rest : range_calls p rs (waiting_calls ds a) ≡ range_calls q ss (waiting_calls es b) = cc in
    let here : range_calls p rs (waiting_calls ds a) ≡ range_calls p ss (waiting_calls es b) = rest ∙ ap (λ (p : Path). range_calls p ss (waiting_calls es b)) (sym x) in
    let ranges = same_ranges p rs ss (waiting_calls ds a) (waiting_calls es b) (others_first ds a) (others_first es b) here in
    let more = same_deeds ds es a b ranges.1 in
    (λ i. Reshapes (x i) (y i) (ranges.0 i) ∷ more.0 i, more.1)
same_deeds ds es a b same = absurd cc

-- so if it is as it was, both are
pub same_laid : (ds es : List PlainDeed) (a b : Log) → laid_log ds a ≡ laid_log es b → (ds ≡ es) × (a ≡ b)
same_laid ds es a b same =
    let start : a.start ≡ b.start = ap (λ (l : Log). l.start) same in
    let calls : (laid_log ds a).calls ≡ (laid_log es b).calls = ap (λ (l : Log). l.calls) same in
    let rest : waiting_calls ds a.calls ≡ waiting_calls es b.calls = cc in
    let both = same_deeds ds es a.calls b.calls rest in
    (both.0, λ i. record { start = start i; calls = both.1 i })

-- and of a log that may be told: it is told still, and if it is, what waits is as it was
pub same_told : (ds es : List PlainDeed) (a b : Option Log) → option_map (laid_log ds) a ≡ option_map (laid_log es) b → (a ≡ b) × (IsSome a → ds ≡ es)
same_told ds es None None same = (refl, λ some. let no : false ≡ true = some in absurd cc)
same_told ds es None (Some b) same = absurd cc
same_told ds es (Some a) None same = absurd cc
same_told ds es (Some a) (Some b) same = let both = same_laid ds es a b (same_Some (laid_log ds a) (laid_log es b) same) in (ap Some both.1, λ some. both.0)
