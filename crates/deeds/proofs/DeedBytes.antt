-- A deed that is read is spelled so, and one that is spelled so is read.
use Rattle.std.proofs.Common.{◌≡◌, ℕ, ◌^◌, Bool, true, false, cond, eqb, List, [], ◌∷◌, ◌++◌, Option, Some, None, refl, sym, ap, subst, ◌∙◌, append_assoc}
use Rattle.std.specs.Int.{w64, to_be_bytes}
use Rattle.std.proofs.lemmas.Bool.{eqb-true}
use Rattle.deeds.specs.Deeds.{PlainDeed, MakesDir, Puts, Renames, Removes, RemovesDir, Reshapes}
use Rattle.deeds.specs.Grammar.{spelled_path, spelled_bytes, spelled_deed, rise_within, IsDeed}
use Rattle.deeds.specs.Reading.{◌>>=◌, number_at, path_at, string_at, ranges_at, make_dir_at, put_at, rename_at, remove_at, remove_dir_at, reshape_at, deed_by, deed_at}
use Rattle.deeds.proofs.Fields.{IsBytes, IsBytes-rest, bind_some, guard_some, some_is, Takes, Takes-then, wide64, number_takes, number_again, path_takes, path_again, string_takes, string_again, spelled_ranges, ranges_take, ranges_again}

-- the kind is in front
abbrev Follows : ℕ → List ℕ → PlainDeed × List ℕ → Type 0
Follows kind bytes x = Takes (kind ∷ bytes) (spelled_deed x.0) x.1 × IsDeed x.0

behind : (kind : ℕ) (bytes text rest : List ℕ) → Takes bytes text rest → Takes (kind ∷ bytes) (kind ∷ text) rest
behind kind bytes text rest t = record { parts = ap (λ (l : List ℕ). kind ∷ l) t.parts; rest_fits = t.rest_fits }

make_dir_takes : (bytes : List ℕ) (x : PlainDeed × List ℕ) → IsBytes bytes → make_dir_at bytes ≡ Some x → Follows 1 bytes x
unfolding make_dir_at
make_dir_takes bytes x fits e =
    let a = bind_some (path_at bytes) (λ path. Some (MakesDir path.0, path.1)) x e in
    let t = path_takes bytes a.0 fits a.1 in
    subst (Follows 1 bytes) (some_is (MakesDir a.0.0, a.0.1) x a.2) (behind 1 bytes (spelled_path a.0.0) a.0.1 t.0, t.1)

remove_takes : (bytes : List ℕ) (x : PlainDeed × List ℕ) → IsBytes bytes → remove_at bytes ≡ Some x → Follows 4 bytes x
unfolding remove_at
remove_takes bytes x fits e =
    let a = bind_some (path_at bytes) (λ path. Some (Removes path.0, path.1)) x e in
    let t = path_takes bytes a.0 fits a.1 in
    subst (Follows 4 bytes) (some_is (Removes a.0.0, a.0.1) x a.2) (behind 4 bytes (spelled_path a.0.0) a.0.1 t.0, t.1)

remove_dir_takes : (bytes : List ℕ) (x : PlainDeed × List ℕ) → IsBytes bytes → remove_dir_at bytes ≡ Some x → Follows 5 bytes x
unfolding remove_dir_at
remove_dir_takes bytes x fits e =
    let a = bind_some (path_at bytes) (λ path. Some (RemovesDir path.0, path.1)) x e in
    let t = path_takes bytes a.0 fits a.1 in
    subst (Follows 5 bytes) (some_is (RemovesDir a.0.0, a.0.1) x a.2) (behind 5 bytes (spelled_path a.0.0) a.0.1 t.0, t.1)

put_takes : (bytes : List ℕ) (x : PlainDeed × List ℕ) → IsBytes bytes → put_at bytes ≡ Some x → Follows 2 bytes x
unfolding put_at
put_takes bytes x fits e =
    let a = bind_some (path_at bytes) (λ path. string_at path.1 >>= λ text. Some (Puts path.0 text.0, text.1)) x e in
    let b = bind_some (string_at a.0.1) (λ text. Some (Puts a.0.0 text.0, text.1)) x a.2 in
    let t = path_takes bytes a.0 fits a.1 in
    let u = string_takes a.0.1 b.0 t.0.rest_fits b.1 in
    let both = Takes-then bytes (spelled_path a.0.0) a.0.1 (spelled_bytes b.0.0) b.0.1 t.0 u.0 in
    subst (Follows 2 bytes) (some_is (Puts a.0.0 b.0.0, b.0.1) x b.2) (behind 2 bytes (spelled_path a.0.0 ++ spelled_bytes b.0.0) b.0.1 both, (t.1, u.1))

rename_takes : (bytes : List ℕ) (x : PlainDeed × List ℕ) → IsBytes bytes → rename_at bytes ≡ Some x → Follows 3 bytes x
unfolding rename_at
rename_takes bytes x fits e =
    let a = bind_some (path_at bytes) (λ from. path_at from.1 >>= λ to. Some (Renames from.0 to.0, to.1)) x e in
    let b = bind_some (path_at a.0.1) (λ to. Some (Renames a.0.0 to.0, to.1)) x a.2 in
    let t = path_takes bytes a.0 fits a.1 in
    let u = path_takes a.0.1 b.0 t.0.rest_fits b.1 in
    let both = Takes-then bytes (spelled_path a.0.0) a.0.1 (spelled_path b.0.0) b.0.1 t.0 u.0 in
    subst (Follows 3 bytes) (some_is (Renames a.0.0 b.0.0, b.0.1) x b.2) (behind 3 bytes (spelled_path a.0.0 ++ spelled_path b.0.0) b.0.1 both, (t.1, u.1))

reshape_takes : (bytes : List ℕ) (x : PlainDeed × List ℕ) → IsBytes bytes → reshape_at bytes ≡ Some x → Follows 6 bytes x
unfolding reshape_at
reshape_takes bytes x fits e =
    let a = bind_some (path_at bytes) (λ path. number_at w64 path.1 >>= λ len. ranges_at len.1 >>= λ ranges. cond (rise_within 0 len.0 ranges.0) (Some (Reshapes path.0 len.0 ranges.0, ranges.1)) None) x e in
    let b = bind_some (number_at w64 a.0.1) (λ len. ranges_at len.1 >>= λ ranges. cond (rise_within 0 len.0 ranges.0) (Some (Reshapes a.0.0 len.0 ranges.0, ranges.1)) None) x a.2 in
    let d = bind_some (ranges_at b.0.1) (λ ranges. cond (rise_within 0 b.0.0 ranges.0) (Some (Reshapes a.0.0 b.0.0 ranges.0, ranges.1)) None) x b.2 in
    let g = guard_some (rise_within 0 b.0.0 d.0.0) (Some (Reshapes a.0.0 b.0.0 d.0.0, d.0.1)) x d.2 in
    let t = path_takes bytes a.0 fits a.1 in
    let u = number_takes w64 (2 ^ 64) wide64 a.0.1 b.0.0 b.0.1 t.0.rest_fits b.1 in
    let v = ranges_take b.0.1 d.0 u.0.rest_fits d.1 in
    let last = Takes-then a.0.1 (to_be_bytes w64 b.0.0) b.0.1 (spelled_ranges d.0.0) d.0.1 u.0 v.0 in
    let both = Takes-then bytes (spelled_path a.0.0) a.0.1 (to_be_bytes w64 b.0.0 ++ spelled_ranges d.0.0) d.0.1 t.0 last in
    subst (Follows 6 bytes) (some_is (Reshapes a.0.0 b.0.0 d.0.0, d.0.1) x g.1)
    (behind 6 bytes (spelled_path a.0.0 ++ (to_be_bytes w64 b.0.0 ++ spelled_ranges d.0.0)) d.0.1 both, record { named = t.1; fits = u.1; few = v.1; short = v.2; rise = g.0 })

-- the kind is this, and its fields follow, or it is another
chosen : (b : Bool) (kind n : ℕ) (bytes : List ℕ) (x : PlainDeed × List ℕ) (one other : Option (PlainDeed × List ℕ)) → eqb kind n ≡ b → cond b one other ≡ Some x
    → (one ≡ Some x → Follows n bytes x) → (other ≡ Some x → Follows kind bytes x) → Follows kind bytes x
chosen true kind n bytes x one other is e this others = subst (λ (k : ℕ). Follows k bytes x) (sym (eqb-true kind n is)) (this e)
chosen false kind n bytes x one other is e this others = others e

by_takes : (kind : ℕ) (bytes : List ℕ) (x : PlainDeed × List ℕ) → IsBytes bytes → deed_by kind bytes ≡ Some x → Follows kind bytes x
unfolding deed_by
by_takes kind bytes x fits e =
    chosen (eqb kind 1) kind 1 bytes x (make_dir_at bytes) _ refl e (make_dir_takes bytes x fits)
    (λ e2. chosen (eqb kind 2) kind 2 bytes x (put_at bytes) _ refl e2 (put_takes bytes x fits)
    (λ e3. chosen (eqb kind 3) kind 3 bytes x (rename_at bytes) _ refl e3 (rename_takes bytes x fits)
    (λ e4. chosen (eqb kind 4) kind 4 bytes x (remove_at bytes) _ refl e4 (remove_takes bytes x fits)
    (λ e5. chosen (eqb kind 5) kind 5 bytes x (remove_dir_at bytes) _ refl e5 (remove_dir_takes bytes x fits)
    (λ e6. chosen (eqb kind 6) kind 6 bytes x (reshape_at bytes) None refl e6 (reshape_takes bytes x fits) (λ e7. absurd cc))))))

pub deed_takes : (bytes : List ℕ) (x : PlainDeed × List ℕ) → IsBytes bytes → deed_at bytes ≡ Some x → Takes bytes (spelled_deed x.0) x.1 × IsDeed x.0
unfolding deed_at
deed_takes [] x fits e = absurd cc
deed_takes (kind ∷ bytes) x fits e = by_takes kind bytes x (IsBytes-rest kind bytes fits) e

pub deed_again : (deed : PlainDeed) (rest : List ℕ) → IsDeed deed → deed_at (spelled_deed deed ++ rest) ≡ Some (deed, rest)
unfolding deed_at deed_by make_dir_at put_at rename_at remove_at remove_dir_at reshape_at
deed_again (MakesDir path) rest is = rw (path_again path rest is) refl
deed_again (Puts path bytes) rest is =
    ap put_at (append_assoc (spelled_path path) (spelled_bytes bytes) rest) ∙ rw (path_again path (spelled_bytes bytes ++ rest) is.0, string_again bytes rest is.1) refl
deed_again (Renames from to) rest is =
    ap rename_at (append_assoc (spelled_path from) (spelled_path to) rest) ∙ rw (path_again from (spelled_path to ++ rest) is.0, path_again to rest is.1) refl
deed_again (Removes path) rest is = rw (path_again path rest is) refl
deed_again (RemovesDir path) rest is = rw (path_again path rest is) refl
deed_again (Reshapes path len ranges) rest is =
    let last = to_be_bytes w64 len ++ spelled_ranges ranges in
    ap reshape_at (append_assoc (spelled_path path) last rest ∙ ap (λ (l : List ℕ). spelled_path path ++ l) (append_assoc (to_be_bytes w64 len) (spelled_ranges ranges) rest))
    ∙ rw (path_again path (to_be_bytes w64 len ++ (spelled_ranges ranges ++ rest)) is.named, number_again w64 (2 ^ 64) wide64 len (spelled_ranges ranges ++ rest) is.fits, ranges_again ranges rest is.few is.short, is.rise) refl
