-- What one more read of a directory leaves.
use Rattle.std.proofs.Common.{◌≡◌, ℕ, zero, suc, Bool, true, false, cond, eqb, List, [], ◌∷◌, ◌++◌, length, Option, Some, None, refl, sym, ap, ◌∙◌}
use Rattle.std.specs.Prelude.{filter, not, ◌||◌}
use Rattle.std.specs.List.{last_or, list_any}
use Rattle.std.specs.Option.{option_map, option_map_or, option_and_then}
use Rattle.std.proofs.lemmas.List.{append-nil, append_assoc}
use Rattle.std.proofs.lemmas.List.Folds.{list_any-append}
use Rattle.std.proofs.lemmas.List.Elements.{filter-append}
use Rattle.std.proofs.Math.Bool.{or-true, or-false}
use Rattle.std.proofs.Math.Dec.{eqb-suc-zero}
use Rattle.tree_model.specs.declared.stat.Qid.{Qid}
use Rattle.session_core.specs.State.{Opened, Fid, open_with}
use Rattle.session_core.specs.Outcome.{last_name, opened_on, read_on}
use Rattle.session_core.specs.LookBack.{Given, since_begun, gave_some, last_given, read_up, fid_put, not_open}

pub last_snoc : {A : Type 0} (o : Option A) (xs : List A) (x : A) → last_or o (xs ++ x ∷ []) ≡ Some x
last_snoc o [] x = refl
last_snoc o (y ∷ xs) x = last_snoc (Some y) xs x

abbrev begins : Given → Bool
begins g = eqb g.offset 0

-- a read at offset 0 begins the directory again
anew : (reads : List Given) (g : Given) → begins g ≡ true → since_begun (reads ++ g ∷ []) ≡ g ∷ []
unfolding since_begun
anew [] g z = refl
anew (x ∷ reads) g z =
    let any : list_any begins (reads ++ g ∷ []) ≡ true =
    list_any-append begins reads (g ∷ []) ∙ ap (λ (c : Bool). list_any begins reads || (c || false)) z ∙ or-true (list_any begins reads)
    in
    ap (λ (c : Bool). cond c (since_begun (reads ++ g ∷ [])) (x ∷ (reads ++ g ∷ []))) any ∙ anew reads g z

picked : (c : Bool) (xs ys : List Given) (g : Given) → cond c (xs ++ g ∷ []) (ys ++ g ∷ []) ≡ cond c xs ys ++ g ∷ []
picked true xs ys g = refl
picked false xs ys g = refl

-- another goes on
on : (reads : List Given) (g : Given) → begins g ≡ false → since_begun (reads ++ g ∷ []) ≡ since_begun reads ++ g ∷ []
unfolding since_begun
on [] g z = refl
on (x ∷ reads) g z =
    let any : list_any begins (reads ++ g ∷ []) ≡ list_any begins reads =
    list_any-append begins reads (g ∷ []) ∙ ap (λ (c : Bool). list_any begins reads || (c || false)) z ∙ or-false (list_any begins reads)
    in
    ap (λ (c : Bool). cond c (since_begun (reads ++ g ∷ [])) (x ∷ (reads ++ g ∷ []))) any
    ∙ ap (λ (w : List Given). cond (list_any begins reads) w (x ∷ (reads ++ g ∷ []))) (on reads g z)
    ∙ picked (list_any begins reads) (since_begun reads) (x ∷ reads) g

-- the last name in bytes, if there are any, is that of their last stat
name_alike : (n : ℕ) (bytes : List ℕ) (o p : Option (List ℕ)) → eqb (length bytes) 0 ≡ false → length bytes ≡ suc n → last_name (suc n) o bytes ≡ last_name (suc n) p bytes
unfolding last_name
name_alike n bytes o p some len = rw (some) refl

abbrev name_of : Given → Option (List ℕ)
name_of g = last_name (length g.bytes) None g.bytes

-- the name that a list of reads gave last
abbrev name_in : List Given → Option (List ℕ)
name_in reads = option_and_then name_of (last_or None (filter gave_some reads))

name_none : (reads : List Given) (g : Given) → gave_some g ≡ false → name_in (reads ++ g ∷ []) ≡ name_in reads
name_none reads g none =
    ap (λ (w : List Given). option_and_then name_of (last_or None w))
    (filter-append gave_some reads (g ∷ []) ∙ ap (λ (c : Bool). filter gave_some reads ++ cond c (g ∷ []) []) none ∙ append-nil (filter gave_some reads))

name_some : (reads : List Given) (g : Given) → gave_some g ≡ true → name_in (reads ++ g ∷ []) ≡ name_of g
name_some reads g some =
    ap (λ (w : List Given). option_and_then name_of (last_or None w))
    (filter-append gave_some reads (g ∷ []) ∙ ap (λ (c : Bool). filter gave_some reads ++ cond c (g ∷ []) []) some)
    ∙ ap (λ (o : Option Given). option_and_then name_of o) (last_snoc None (filter gave_some reads) g)

-- the last name after one more read, by whether it gave any bytes
named_by : (n : ℕ) (reads : List Given) (g : Given) (given : Option (List ℕ)) → length g.bytes ≡ n → given ≡ name_in reads
    → name_in (reads ++ g ∷ []) ≡ last_name n given g.bytes
unfolding last_name
named_by zero reads g given len is = name_none reads g (ap (λ (k : ℕ). not (eqb k 0)) len) ∙ sym is
named_by (suc n) reads g given len is =
    let some : eqb (length g.bytes) 0 ≡ false = ap (λ (k : ℕ). eqb k 0) len ∙ eqb-suc-zero n in
    name_some reads g (ap not some) ∙ ap (λ (k : ℕ). last_name k None g.bytes) len ∙ name_alike n g.bytes None given some len

last_given_snoc : (reads : List Given) (g : Given) (b : Bool) → begins g ≡ b
    → last_given (reads ++ g ∷ []) ≡ last_name (length g.bytes) (cond b None (last_given reads)) g.bytes
last_given_snoc reads g true z =
    ap name_in (anew reads g z) ∙ named_by (length g.bytes) [] g None refl refl
last_given_snoc reads g false z =
    ap name_in (on reads g z) ∙ named_by (length g.bytes) (since_begun reads) g (last_given reads) refl refl

opened_is : (mode o o' c c' : ℕ) (l l' : Option (List ℕ)) → o ≡ o' → c ≡ c' → l ≡ l'
    → ◌≡◌ {A = Opened} (record { mode = mode; offset = o; count = c; last = l }) (record { mode = mode; offset = o'; count = c'; last = l' })
opened_is mode o o' c c' l l' p q r = cc

read_up_snoc : (mode : ℕ) (reads : List Given) (g : Given) → read_up mode (reads ++ g ∷ []) ≡ opened_on g.offset g.bytes (read_up mode reads)
read_up_snoc mode reads g =
    opened_is mode _ _ _ _ _ _
    (ap (λ (o : Option Given). option_map_or (λ g. g.offset) o 0) (last_snoc None reads g))
    (ap (λ (o : Option Given). option_map_or (λ g. length g.bytes) o 0) (last_snoc None reads g))
    (last_given_snoc reads g (begins g) refl)

-- a fid at a node, by whether it is a directory
abbrev put_at : Bool → ℕ → Option ℕ → List Given → Fid
put_at b node mode reads = record { node = node; is_dir = b; opened = option_map (λ m. read_up m (cond b reads [])) mode }

put_snoc : (b : Bool) (node : ℕ) (mode : Option ℕ) (reads : List Given) (g : Given) → put_at b node mode (reads ++ g ∷ []) ≡ read_on g.offset g.bytes (put_at b node mode reads)
put_snoc true node None reads g = refl
put_snoc true node (Some m) reads g = ap (λ (o : Opened). record { node = node; is_dir = true; opened = Some o }) (read_up_snoc m reads g)
put_snoc false node None reads g = refl
put_snoc false node (Some m) reads g = refl

-- a fid after some more reads
abbrev pub read_by : List Given → Fid → Fid
read_by [] fid = fid
read_by (g ∷ reads) fid = read_by reads (read_on g.offset g.bytes fid)

pub put_read : (q : Qid) (mode : Option ℕ) (reads more : List Given) → fid_put q mode (reads ++ more) ≡ read_by more (fid_put q mode reads)
put_read q mode reads [] = ap (fid_put q mode) (append-nil reads)
put_read q mode reads (g ∷ more) =
    ap (fid_put q mode) (sym (append_assoc reads (g ∷ []) more)) ∙ put_read q mode (reads ++ g ∷ []) more
    ∙ ap (read_by more) (put_snoc (eqb q.kind 0x80) q.path mode reads g)

same_fid : (b : Bool) (fid : Fid) → cond b fid fid ≡ fid
same_fid true fid = refl
same_fid false fid = refl

-- a fid that isn't open stays as it is
pub closed_read : (more : List Given) (fid : Fid) → read_by more (not_open fid) ≡ not_open fid
closed_read [] fid = refl
closed_read (g ∷ more) fid = ap (read_by more) (same_fid fid.is_dir (not_open fid)) ∙ closed_read more fid

either : (b : Bool) (reads : List Given) → cond b reads reads ≡ reads
either true reads = refl
either false reads = refl

-- open, and nothing read yet
pub open_put : (mode : ℕ) (q : Qid) → open_with mode q ≡ fid_put q (Some mode) []
unfolding since_begun
open_put mode q =
    ap (λ (reads : List Given). record { node = q.path; is_dir = eqb q.kind 0x80; opened = Some (read_up mode reads) }) (sym (either (eqb q.kind 0x80) []))
