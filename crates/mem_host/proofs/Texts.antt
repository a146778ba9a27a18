-- A text names one path at most.
use Rattle.std.proofs.Common.{◌≡◌, ◌⊎◌, ◌<◌, ℕ, Bool, true, false, cond, ◌&&◌, ◌==◌, List, [], ◌∷◌, ◌++◌, length, IsTrue, refl, sym, ap, subst, ◌∙◌, inl, inr, arith, true≢false}
use Rattle.std.specs.List.{flat_map, list_all}
use Rattle.std.proofs.lemmas.List.{append_cancel_left}
use Rattle.std.proofs.lemmas.Bool.Decides.{Decides-eqb}
use Rattle.vault_path.specs.Parts.{is_part_byte, is_part, is_path}
use Rattle.outside.specs.Disk.{Path}
use Rattle.host_calls.specs.HostPath.{joined, host_path}
use Rattle.mem_host.specs.Texts.{IsOnlyTextOf, IsPathOf}

abbrev pub slashed : Path → List ℕ
slashed path = flat_map (λ part. 47 ∷ part) path

both_left : (a b : Bool) → (a && b) ≡ true → a ≡ true
both_left true b h = refl
both_left false b h = h

both_right : (a b : Bool) → (a && b) ≡ true → b ≡ true
both_right true b h = h
both_right false b h = absurd (true≢false (sym h))

-- ---- parts have no slash

bytes_good : (part : List ℕ) → is_part part ≡ true → list_all is_part_byte part ≡ true
bytes_good part h = both_right _ _ (both_left _ _ (both_left _ _ h))

-- nothing, or a slash first
abbrev StartsSlashed : List ℕ → Type 0
StartsSlashed xs = (xs ≡ []) ⊎ ((more : List ℕ) × (xs ≡ 47 ∷ more))

slashed_starts : (path : Path) → StartsSlashed (slashed path)
slashed_starts [] = inl refl
slashed_starts (part ∷ parts) = inr (part ++ slashed parts, refl)

no_slash : (c : ℕ) (more rest : List ℕ) → StartsSlashed (c ∷ more) → is_part_byte c ≡ true → ⊥
no_slash c more rest (inl e) good = let f : c ∷ more ≡ [] = e in cc
no_slash c more rest (inr s) good = let e : c ≡ 47 = cc in let h : is_part_byte 47 ≡ true = subst (λ (b : ℕ). is_part_byte b ≡ true) e good in true≢false (sym h)

-- a part ends at the next slash
cut_there : (a b x y : List ℕ) → list_all is_part_byte a ≡ true → list_all is_part_byte b ≡ true → StartsSlashed x → StartsSlashed y → a ++ x ≡ b ++ y → (a ≡ b) × (x ≡ y)
cut_there [] [] x y ga gb sx sy e = (refl, e)
cut_there [] (c ∷ b) x y ga gb sx sy e = absurd (no_slash c (b ++ y) [] (subst StartsSlashed e sx) (both_left _ _ gb))
cut_there (c ∷ a) [] x y ga gb sx sy e = absurd (no_slash c (a ++ x) [] (subst StartsSlashed (sym e) sy) (both_left _ _ ga))
cut_there (c ∷ a) (d ∷ b) x y ga gb sx sy e =
    let heads : c ≡ d = cc in
    let tails : a ++ x ≡ b ++ y = cc in
    let rest = cut_there a b x y (both_right _ _ ga) (both_right _ _ gb) sx sy tails in
    (λ i. heads i ∷ rest.0 i, rest.1)

-- ---- paths

same_path : (p q : Path) → list_all is_part p ≡ true → list_all is_part q ≡ true → slashed p ≡ slashed q → p ≡ q
same_path [] [] gp gq e = refl
same_path [] (part ∷ q) gp gq e = absurd (let f : [] ≡ 47 ∷ (part ++ slashed q) = e in cc)
same_path (part ∷ p) [] gp gq e = absurd (let f : 47 ∷ (part ++ slashed p) ≡ [] = e in cc)
same_path (a ∷ p) (b ∷ q) gp gq e =
    let after : a ++ slashed p ≡ b ++ slashed q = let f : 47 ∷ (a ++ slashed p) ≡ 47 ∷ (b ++ slashed q) = e in cc in
    let both = cut_there a b (slashed p) (slashed q) (bytes_good a (both_left _ _ gp)) (bytes_good b (both_left _ _ gq)) (slashed_starts p) (slashed_starts q) after in
    λ i. both.0 i ∷ same_path p q (both_right _ _ gp) (both_right _ _ gq) both.1 i

parts_good : (p : Path) → IsTrue (is_path p) → list_all is_part p ≡ true
parts_good p h = both_right _ _ h

-- ---- texts

chosen : (b : Bool) (xs ys : List ℕ) → b ≡ false → cond b xs ys ≡ ys
chosen b xs ys e = ap (λ (t : Bool). cond t xs ys) e

host_text : (top : List ℕ) (p : Path) → 0 < length top → host_path top p ≡ top ++ slashed p
host_text top p named = at (length top == 0) refl
  where
    at : (b : Bool) → (length top == 0) ≡ b → host_path top p ≡ top ++ slashed p
    at true e = let z = (Decides-eqb (length top) 0).0 e in absurd (omega (arith, z, named))
    at false e = chosen (length top == 0) [] (joined top p) e

pub only_text : (top text rest : List ℕ) (p : Path) → 0 < length top → text ≡ top ++ rest → IsPathOf rest p → IsOnlyTextOf top text p
only_text top text rest p named is of = record {
  is = record { good = of.good; is = is ∙ ap (λ (l : List ℕ). top ++ l) of.is ∙ sym (host_text top p named) };
  only = λ q of_q. same_path q p (parts_good q of_q.good) (parts_good p of.good)
      (append_cancel_left top (slashed q) (slashed p) (sym (host_text top q named) ∙ sym of_q.is ∙ is ∙ ap (λ (l : List ℕ). top ++ l) of.is));
}
