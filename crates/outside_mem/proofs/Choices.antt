-- The choices that are made are the pictures that are listed.
use Rattle.std.proofs.Common.{◌≡◌, ℕ, zero, suc, ◌+◌, ◌*◌, ◌-◌, ◌<◌, ◌≤◌, ◌==◌, min, Bool, true, false, cond, List, [], ◌∷◌, ◌++◌, map, length, take, get_or, refl, sym, ap, ◌∙◌, arith, append_assoc, length-append, length-take}
use Rattle.std.proofs.lemmas.Bool.Decides.{Decides-eqb}
use Rattle.std.proofs.lemmas.Bool.{false_from_ne_true}
use Rattle.std.proofs.lemmas.List.{take-map, take_min, map_more, length-map}
use Rattle.outside.specs.Changes.{Change}
use Rattle.outside_mem.specs.Kept.{filled}
use Rattle.outside_mem.specs.Pictures.{three_of, three_of_each, pictured}
use Rattle.outside_mem.specs.Choices.{left_of, leaves_at, chosen, choices_of_each, all_choices}
use Rattle.outside_mem.specs.declared.images.Leaves.{Leaves}
use Rattle.outside_mem.specs.declared.images.Leaves.TheVariants.{Nothing, All, Filled}
use Rattle.outside_mem.specs.declared.images.Choice.{Choice}
use Rattle.outside_mem.specs.declared.images.Choice.TheVariants.{Each, One}

-- ---- the same of each

none_of_each : (since : List Change) → chosen (Each Nothing) since ≡ []
none_of_each [] = refl
none_of_each (change ∷ older) = none_of_each older

all_of_each : (since : List Change) → chosen (Each All) since ≡ since
all_of_each [] = refl
all_of_each (change ∷ older) = ap (λ l. change ∷ l) (all_of_each older)

each_filled : (since : List Change) → chosen (Each Filled) since ≡ map filled since
each_filled [] = refl
each_filled (change ∷ older) = ap (λ l. filled change ∷ l) (each_filled older)

-- ---- something else of one

ages_differ : (m n : ℕ) → (m ≡ n → ⊥) → m == n ≡ false
ages_differ m n ne = false_from_ne_true (m == n) (λ e. ne ((Decides-eqb m n).0 e))

-- the changes older than it are as the others
others_older : (n : ℕ) (own others : Leaves) (older : List Change) → length older ≤ n → chosen (One n own others) older ≡ chosen (Each others) older
others_older n own others [] few = refl
others_older n own others (change ∷ older) few =
    let differ : length older == n ≡ false = ages_differ (length older) n (λ e. omega (arith, few, e)) in
    λ i. left_of (cond (differ i) own others) change ++ others_older n own others older (omega (arith, few)) i

-- it is itself, and the newer ones are as the others
one_amid : (own others : Leaves) (newer : List Change) (change : Change) (older : List Change) → chosen (One (length older) own others) (newer ++ change ∷ older) ≡ chosen (Each others) newer ++ (left_of own change ++ chosen (Each others) older)
one_amid own others [] change older =
    let same : length older == length older ≡ true = (Decides-eqb (length older) (length older)).1 refl in
    λ i. left_of (cond (same i) own others) change ++ others_older (length older) own others older (omega arith) i
one_amid own others (newest ∷ newer) change older =
    let long : length (newer ++ change ∷ older) ≡ length newer + suc (length older) = length-append newer (change ∷ older) in
    let differ : length (newer ++ change ∷ older) == length older ≡ false = ages_differ (length (newer ++ change ∷ older)) (length older) (λ e. omega (arith, long, e)) in
    (λ i. left_of (cond (differ i) own others) newest ++ one_amid own others newer change older i)
    ∙ sym (append_assoc (left_of others newest) (chosen (Each others) newer) (left_of own change ++ chosen (Each others) older))

but_one : (newer : List Change) (change : Change) (older : List Change) → chosen (One (length older) Nothing All) (newer ++ change ∷ older) ≡ newer ++ older
but_one newer change older = one_amid Nothing All newer change older ∙ (λ i. all_of_each newer i ++ all_of_each older i)

one_alone : (newer : List Change) (change : Change) (older : List Change) → chosen (One (length older) All Nothing) (newer ++ change ∷ older) ≡ change ∷ []
one_alone newer change older = one_amid All Nothing newer change older ∙ (λ i. none_of_each newer i ++ change ∷ none_of_each older i)

one_filled : (newer : List Change) (change : Change) (older : List Change) → chosen (One (length older) Filled All) (newer ++ change ∷ older) ≡ newer ++ filled change ∷ older
one_filled newer change older = one_amid Filled All newer change older ∙ (λ i. all_of_each newer i ++ filled change ∷ all_of_each older i)

-- ---- all of them

chosen_each : (newer older since : List Change) → since ≡ newer ++ older → map (λ (c : Choice). chosen c since) (choices_of_each (length older)) ≡ three_of_each newer older
chosen_each newer [] since is = refl
chosen_each newer (change ∷ older) since is =
    let at = λ (c : Choice). ap (chosen c) is in
    λ i. (at (One (length older) Nothing All) ∙ but_one newer change older) i
    ∷ (at (One (length older) All Nothing) ∙ one_alone newer change older) i
    ∷ (at (One (length older) Filled All) ∙ one_filled newer change older) i
    ∷ chosen_each (newer ++ change ∷ []) older since (is ∙ sym (append_assoc newer (change ∷ []) older)) i

pub chosen_all : (since : List Change) → map (λ (c : Choice). chosen c since) (all_choices (length since)) ≡ pictured since
chosen_all since = λ i. none_of_each since i ∷ all_of_each since i ∷ each_filled since i ∷ chosen_each [] since since refl i

-- three choices more, as a loop makes them
pub three_more : (choices first second third all : List Choice) (since back : ℕ) → back < since
    → first ≡ choices ++ One (since - 1 - back) Nothing All ∷ []
    → second ≡ first ++ One (since - 1 - back) All Nothing ∷ []
    → third ≡ second ++ One (since - 1 - back) Filled All ∷ []
    → choices ++ choices_of_each (since - back) ≡ all → third ++ choices_of_each (since - (back + 1)) ≡ all
three_more choices first second third all since back within one two three is =
    let n = since - 1 - back in
    let next : since - (back + 1) ≡ n = omega arith in
    let this : suc n ≡ since - back = omega (arith, within) in
    let made : third ≡ ((choices ++ One n Nothing All ∷ []) ++ One n All Nothing ∷ []) ++ One n Filled All ∷ [] = cc in
    (λ i. made i ++ choices_of_each (next i))
    ∙ behind choices (One n Nothing All) (One n All Nothing) (One n Filled All) (choices_of_each n)
    ∙ ap (λ m. choices ++ choices_of_each m) this
    ∙ is
  where
    behind : (xs : List Choice) (a b c : Choice) (ys : List Choice) → (((xs ++ a ∷ []) ++ b ∷ []) ++ c ∷ []) ++ ys ≡ xs ++ a ∷ b ∷ c ∷ ys
    behind xs a b c ys = simp append_assoc

-- the first of them
pub chosen_first : (since : List Change) (choices : List Choice) (most count : ℕ) → choices ≡ all_choices (length since) → count ≡ min most (length choices) → map (λ (c : Choice). chosen c since) (take count choices) ≡ take most (pictured since)
chosen_first since choices most count is first =
    let made = λ (c : Choice). chosen c since in
    ap (λ n. map made (take n choices)) first
    ∙ ap (map made) (take_min most choices)
    ∙ sym (take-map made most choices)
    ∙ ap (λ l. take most (map made l)) is
    ∙ ap (take most) (chosen_all since)

-- one more of them
pub chosen_more : (since : List Change) (choices : List Choice) (choice : Choice) (n : ℕ) → n < length choices → choice ≡ get_or choices n choice → map (λ (c : Choice). chosen c since) (take (n + 1) choices) ≡ map (λ (c : Choice). chosen c since) (take n choices) ++ chosen choice since ∷ []
chosen_more since choices choice n within at =
    let made = λ (c : Choice). chosen c since in
    map_more made choices n choice within ∙ ap (λ (c : Choice). map made (take n choices) ++ made c ∷ []) (sym at)

-- how many there are
count_each : (n : ℕ) → length (choices_of_each n) ≡ 3 * n
count_each zero = refl
count_each (suc n) = let e = count_each n in omega (arith, e)

pub count_all : (n : ℕ) → length (all_choices n) ≡ 3 * n + 3
count_all n = let e = count_each n in omega (arith, e)

pub count_pictured : (since : List Change) (most : ℕ) → length (take most (pictured since)) ≡ min most (3 * length since + 3)
count_pictured since most =
    length-take most (pictured since)
    ∙ ap (λ n. min most n) (ap length (sym (chosen_all since)) ∙ length-map (all_choices (length since)) (λ (c : Choice). chosen c since) ∙ count_all (length since))
