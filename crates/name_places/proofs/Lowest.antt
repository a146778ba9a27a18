-- The lowest number that names a folder, and the laws of changes that keep the claims.
use Rattle.std.proofs.Common.{◌≡◌, ℕ, zero, suc, ◌<◌, ◌≤◌, Bool, true, false, cond, List, Option, None, ◌==◌, refl, sym, ap, ◌∙◌, inl, inr, ◌⊎◌, arith}
use Rattle.std.proofs.lemmas.Bool.{eqb-true, cases_lt}
use Rattle.clear_tree.specs.Walk.{Sealing}
use Rattle.live_tree.specs.Held.{HeldTree}
use Rattle.live_tree.specs.Changes.{added, removed, renamed, touched, dated}
use Rattle.name_places.specs.Claims.{claimed_in, claimed_at, NamesFolder, IsFirst, AreClaimsOf}
use Rattle.name_places.specs.Laws.{MakingKeeps, RemovingKeeps, RenamingKeeps, WritingKeeps, DatingKeeps}
use Rattle.name_places.proofs.Changed.{claimed_renamed, claimed_dated, claimed_touched, claimed_removed, claimed_added, none_next}

-- ---- trees whose nodes name the same folders

module _ (s : Sealing) (old new : HeldTree) (same : (q : ℕ) → claimed_at s new q ≡ claimed_at s old q) where
  forth : (f : List ℕ) (q : ℕ) → NamesFolder s old f q → NamesFolder s new f q
  forth f q is = record { below = is.below; claimed = same q ∙ is.claimed }

  back : (f : List ℕ) (q : ℕ) → NamesFolder s new f q → NamesFolder s old f q
  back f q is = record { below = is.below; claimed = sym (same q) ∙ is.claimed }

  pub claims_same : (claims : List (List ℕ × ℕ)) → AreClaimsOf s old claims → AreClaimsOf s new claims
  claims_same claims are f number = (
    λ found. let is = (are f number).0 found in record { names = forth f number is.names; first = λ other other_is. is.first other (back f other other_is) },
    λ is. (are f number).1 (record { names = back f number is.names; first = λ other other_is. is.first other (forth f other other_is) }),
  )

none_put : (b : Bool) (q k : ℕ) (o named : Option (List ℕ)) → (q == k) ≡ b → (q ≡ k → o ≡ None) → named ≡ None → cond b named o ≡ o
none_put true q k o named e was none = none ∙ sym (was (eqb-true q k e))
none_put false q k o named e was none = refl

pub making_keeps : MakingKeeps
making_keeps s tree claims node now is are none =
    claims_same s tree (added tree node now)
    (λ q. claimed_added s tree node now is q
    ∙ none_put (q == tree.next) q tree.next (claimed_at s tree q) (claimed_in s node.kept.what) refl (λ e. ap (claimed_at s tree) e ∙ none_next s tree is) none)
    claims are

pub removing_keeps : RemovingKeeps
removing_keeps s tree claims number parent now are none =
    claims_same s tree (removed tree number parent now)
    (λ q. claimed_removed s tree number parent now q
    ∙ none_put (q == number) q number (claimed_at s tree q) None refl (λ e. ap (claimed_at s tree) e ∙ none) refl)
    claims are

pub renaming_keeps : RenamingKeeps
renaming_keeps s tree claims number parent name entry long now are = claims_same s tree (renamed tree number parent name entry long now) (claimed_renamed s tree number parent name entry long now) claims are

pub writing_keeps : WritingKeeps
writing_keeps s tree claims number size now are file = claims_same s tree (touched tree number size now) (claimed_touched s tree number size now file) claims are

pub dating_keeps : DatingKeeps
dating_keeps s tree claims number modified are = claims_same s tree (dated tree number modified) (claimed_dated s tree number modified) claims are

-- ---- the lowest

pub one_first : (s : Sealing) (tree : HeldTree) (f : List ℕ) (a b : ℕ) → IsFirst s tree f a → IsFirst s tree f b → a ≡ b
one_first s tree f a b x y = let low = x.first b y.names in let high = y.first a x.names in omega (arith, low, high)

module _ (s : Sealing) (tree : HeldTree) (f : List ℕ) where
  no_lower : (bound : ℕ) → ((m : ℕ) → m < bound → IsFirst s tree f m → ⊥) → (n q : ℕ) → q < n → n ≤ bound → NamesFolder s tree f q → ⊥
  no_lower bound none zero q low within is = omega (arith, low)
  no_lower bound none (suc n) q low within is =
      none q (omega (arith, low, within))
      (record { names = is; first = λ other other_is. go (λ under. no_lower bound none n other under (omega (arith, within)) other_is) (cases_lt other q) })
    where
      go : {other : ℕ} → (other < n → ⊥) → (other < q) ⊎ (q ≤ other) → q ≤ other
      go none_below (inl less) = absurd (none_below (omega (arith, low, less)))
      go none_below (inr more) = more

  -- if none is the first below a bound, none below it names the folder
  pub none_names : (bound : ℕ) → ((m : ℕ) → m < bound → IsFirst s tree f m → ⊥) → (q : ℕ) → q < bound → NamesFolder s tree f q → ⊥
  none_names bound none q low is = no_lower bound none bound q low (omega arith) is
