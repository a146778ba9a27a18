-- The steps that a host keeps, after a step and after a flush.
use Rattle.std.proofs.Common.{◌≡◌, ◌+◌, ◌<◌, ℕ, zero, suc, List, [], ◌∷◌, ◌++◌, length, take, drop, set, get_or, map, reverse, refl, sym, ap, ◌∙◌, arith, Vec}
use Rattle.std.specs.Vec.{with_items}
use Rattle.std.proofs.lemmas.List.{with_items_is, length-map}
use Rattle.std.proofs.Math.Seq.{drop-cons}
use Rattle.outside.specs.Disk.{Path}
use Rattle.host_calls.specs.Volume.{Names}
use Rattle.host_calls.specs.Names.{NameStep, Dropped, Pending, begun, before_step, after_step, flushed, without, without_folder, names_after}
use Rattle.host_calls.proofs.Steps.{names_before, same_names}
use Rattle.mem_host.proofs.Reversed.{pushed, reversed_map, front_more}
use Rattle.mem_host.proofs.Pendings.{dropped_waits}

-- ---- a step more

-- a folder or a file that went
pub dropped_steps : (steps more new : List Pending) (p : Path) (one : Pending) → more ≡ steps ++ one ∷ [] → one ≡ begun (Dropped p) → new ≡ map (without_folder p) more
    → reverse new ≡ begun (Dropped p) ∷ before_step (Dropped p) (reverse steps)
dropped_steps steps more new p one is first went =
    ap reverse went
    ∙ sym (reversed_map (without_folder p) more)
    ∙ ap (map (without_folder p)) (pushed steps more one is ∙ ap (λ (o : Pending). o ∷ reverse steps) first)
    ∙ ap (λ (o : Pending). o ∷ map (without_folder p) (reverse steps)) (dropped_waits p)

-- the names after it
pub names_taken : (base : Names) (step : NameStep) (older new : List Pending) (current next : Names) → new ≡ begun step ∷ before_step step older → current ≡ names_after base older → next ≡ after_step step current
    → next ≡ names_after base new
names_taken base step older new current next is now then =
    then ∙ ap (after_step step) (now ∙ sym (names_before base step older)) ∙ ap (names_after base) (sym is)

-- ---- a flush

pub flushed_steps : (steps new : List Pending) (p : Path) → new ≡ map (flushed p) steps → reverse new ≡ map (flushed p) (reverse steps)
flushed_steps steps new p is = ap reverse is ∙ sym (reversed_map (flushed p) steps)

pub names_flushed : (base : Names) (p : Path) (older new : List Pending) (current : Names) → new ≡ map (flushed p) older → current ≡ names_after base older → current ≡ names_after base new
names_flushed base p older new current is now = now ∙ sym (same_names base (without p) older) ∙ ap (names_after base) (sym is)

-- ---- a loop that changes each in turn

first_same : {X : Type 0} (a b : X) (xs ys : List X) → a ∷ xs ≡ b ∷ ys → a ≡ b
first_same a b xs ys e = cc

rest_same : {X : Type 0} (a b : X) (xs ys : List X) → a ∷ xs ≡ b ∷ ys → xs ≡ ys
rest_same a b xs ys e = cc

split : {X : Type 0} (xs ys : List X) (k : ℕ) (d : X) → k < length xs → length ys ≡ length xs → drop k ys ≡ drop k xs → get_or ys k d ∷ drop (suc k) ys ≡ get_or xs k d ∷ drop (suc k) xs
split xs ys k d h same rest = sym (drop-cons ys k d (omega (arith, h, same))) ∙ rest ∙ drop-cons xs k d h

pub front_changed : {X : Type 0} (f : X → X) (xs ys : List X) (k : ℕ) (y d : X) → k < length xs → length ys ≡ length xs → y ≡ f (get_or ys k d) → take k ys ≡ map f (take k xs) → drop k ys ≡ drop k xs
    → take (k + 1) (set ys k y) ≡ map f (take (k + 1) xs)
front_changed f xs ys k y d h same is front rest =
    front_more f xs ys (set ys k y) k (get_or ys k d) y d (omega (arith, h, same)) h refl is (first_same (get_or ys k d) (get_or xs k d) (drop (suc k) ys) (drop (suc k) xs) (split xs ys k d h same rest)) front

drop_set : {X : Type 0} (ys : List X) (k : ℕ) (y : X) → drop (suc k) (set ys k y) ≡ drop (suc k) ys
drop_set [] k y = refl
drop_set (x ∷ ys) zero y = refl
drop_set (x ∷ ys) (suc k) y = drop_set ys k y

pub rest_stays : {X : Type 0} (xs ys : List X) (k : ℕ) (y d : X) → k < length xs → length ys ≡ length xs → drop k ys ≡ drop k xs → drop (k + 1) (set ys k y) ≡ drop (k + 1) xs
rest_stays xs ys k y d h same rest =
    let more : k + 1 ≡ suc k = omega arith in
    ap (λ (n : ℕ). drop n (set ys k y)) more
    ∙ drop_set ys k y
    ∙ rest_same (get_or ys k d) (get_or xs k d) (drop (suc k) ys) (drop (suc k) xs) (split xs ys k d h same rest)
    ∙ ap (λ (n : ℕ). drop n xs) (sym more)

-- the elements that were changed in place
pub all_changed : {X Z : Type 0} (v : Vec X Z) (f : X → X) (now new : List X) → new ≡ map f now → now ≡ v.items → (with_items v new).items ≡ new
all_changed v f now new is here = with_items_is v new (ap length is ∙ length-map now f ∙ ap length here ∙ sym v.ok.0)
