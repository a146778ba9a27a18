-- The chunks of a write, one after the other.
use Rattle.std.proofs.Common.{◌≡◌, ℕ, ◌+◌, ◌-◌, ◌*◌, ◌/◌, ◌≤◌, min, List, [], ◌∷◌, ◌++◌, length, take, Option, Some, refl, sym, ap, subst, ◌∙◌, arith, length-append}
use Rattle.std.proofs.lemmas.Grind.{flat_map-append}
use Rattle.std.proofs.lemmas.List.{append-nil, append_assoc}
use Rattle.std.proofs.lemmas.List.Elements.{All-push}
use Rattle.outside.specs.Calls.{Extends}
use Rattle.outside.proofs.Told.{told_always, told_both, through, unchanged}
use Rattle.tree_model.specs.Rows.{good}
use Rattle.tree_model.specs.Contents.{sealed_chunk}
use Rattle.file_chunks.specs.Header.{Head}
use Rattle.file_chunks.specs.File.{content_of}
use Rattle.content_laws.specs.Rewriting.{IsSealed, AreSealed}
use Rattle.content_laws.specs.Laws.{AreChunksOf, after_write}
use Rattle.content_laws.proofs.Putting.{counted}
use Rattle.content_writer.specs.Sealed.{AreFull, nonces_of}
use Rattle.content_writer.specs.Sealing.{IsPushed, Writing, length_after, HasSealed, AreLong, AreSealedTo}

-- ---- one more

more_sealed : (head : Head) (first index : ℕ) (sealed plaintexts : List (List ℕ)) (s p : List ℕ) → first + length plaintexts ≡ index → AreSealed head first sealed plaintexts
    → IsSealed head index s p → AreSealed head first (sealed ++ s ∷ []) (plaintexts ++ p ∷ [])
more_sealed head first index [] [] s p at are this = let same : index ≡ first = omega arith in (subst (λ (i : ℕ). IsSealed head i s p) same this, tt)
more_sealed head first index [] (q ∷ qs) s p at are this = absurd are
more_sealed head first index (t ∷ ts) [] s p at are this = absurd are
more_sealed head first index (t ∷ ts) (q ∷ qs) s p at are this = (are.0, more_sealed head (first + 1) index ts qs s p (omega arith) are.1 this)

more_chunks : (bytes : List (Option ℕ)) (first index : ℕ) (plaintexts : List (List ℕ)) (p : List ℕ) → first + length plaintexts ≡ index → AreChunksOf bytes first plaintexts
    → sealed_chunk bytes index ≡ Some (good p) → AreChunksOf bytes first (plaintexts ++ p ∷ [])
more_chunks bytes first index [] p at are this = let same : index ≡ first = omega arith in (subst (λ (i : ℕ). sealed_chunk bytes i ≡ Some (good p)) same this, tt)
more_chunks bytes first index (q ∷ qs) p at are this = (are.0, more_chunks bytes (first + 1) index qs p (omega arith) are.1 this)

more_long : (m first index : ℕ) (plaintexts : List (List ℕ)) (p : List ℕ) → first + length plaintexts ≡ index → AreLong m first plaintexts
    → length p ≡ min 32768 (m - 32768 * index) → AreLong m first (plaintexts ++ p ∷ [])
more_long m first index [] p at are this = let same : index ≡ first = omega arith in (subst (λ (i : ℕ). length p ≡ min 32768 (m - 32768 * i)) same this, tt)
more_long m first index (q ∷ qs) p at are this = (are.0, more_long m (first + 1) index qs p (omega arith) are.1 this)

pub sealed_none : (w : Writing) (low : ℕ) (sealed : List (List ℕ)) → low ≡ min w.at w.length → sealed ≡ [] → AreSealedTo w (low / 32768) sealed
sealed_none w low sealed is_low none = record {
  plaintexts = [];
  count = omega (arith, is_low);
  long = tt;
  clear = told_always w.contents _ (λ d keys bytes file. tt);
  are = subst (λ (s : List (List ℕ)). AreSealed w.head (min w.at w.length / 32768) s []) (sym none) tt;
}

pub sealed_more : (w : Writing) (index : ℕ) (old new : List (List ℕ)) (drawn drawn' : Option (List ℕ)) → AreSealedTo w index old → HasSealed w index old new drawn drawn'
    → AreSealedTo w (index + 1) new
sealed_more w index old new drawn drawn' are this =
    let first : ℕ = min w.at w.length / 32768 in
    let at : min w.at w.length / 32768 + length are.plaintexts ≡ index = are.count in
    record {
      plaintexts = are.plaintexts ++ this.plaintext ∷ [];
      count = omega (arith, length-append are.plaintexts (this.plaintext ∷ []));
      long = more_long (length_after w) first index are.plaintexts this.plaintext are.count are.long this.long;
      clear = told_both w.contents _ _ _ are.clear this.clear (λ d before here keys bytes file.
          more_chunks (after_write (content_of keys bytes) w.at w.input) first index are.plaintexts this.plaintext are.count (before keys bytes file) (here keys bytes file));
      are = subst (λ (s : List (List ℕ)). AreSealed w.head first s (are.plaintexts ++ this.plaintext ∷ [])) (sym this.pushed.pushed)
          (more_sealed w.head first index old are.plaintexts this.pushed.sealed this.plaintext are.count are.are this.pushed.is);
    }

-- how many there are
pub counted_to : (w : Writing) (index : ℕ) (sealed : List (List ℕ)) → AreSealedTo w index sealed → min w.at w.length / 32768 + length sealed ≡ index
counted_to w index sealed are =
    let at : min w.at w.length / 32768 + length are.plaintexts ≡ index = are.count in
    omega (arith, counted w.head (min w.at w.length / 32768) sealed are.plaintexts are.are)

-- each but the last is full
pub more_full : (w : Writing) (index : ℕ) (old new : List (List ℕ)) (drawn drawn' : Option (List ℕ)) → AreFull old → HasSealed w index old new drawn drawn'
    → 32768 * (index + 1) ≤ w.at + length w.input → AreFull new
more_full w index old new drawn drawn' full this within =
    let clear : length this.plaintext ≡ min 32768 (length_after w - 32768 * index) = this.long in
    let long : length this.pushed.sealed ≡ length this.plaintext + 28 = this.pushed.is.long in
    subst AreFull (sym this.pushed.pushed) (All-push (λ (chunk : List ℕ). length chunk ≡ 32796) old this.pushed.sealed full (omega arith))

-- ---- what was drawn

pub drawn_none : (drawn : Option (List ℕ)) (sealed : List (List ℕ)) → sealed ≡ [] → Extends drawn drawn (nonces_of sealed)
drawn_none drawn sealed none =
    unchanged drawn drawn (λ was now. now ≡ was ++ nonces_of sealed) refl
    (λ x. sym (ap (λ (s : List (List ℕ)). x ++ nonces_of s) none ∙ append-nil x))

pub nonces-pushed : (old : List (List ℕ)) (sealed : List ℕ) → nonces_of (old ++ sealed ∷ []) ≡ nonces_of old ++ take 12 sealed
nonces-pushed old sealed = flat_map-append (take 12) old (sealed ∷ []) ∙ ap (λ (xs : List ℕ). nonces_of old ++ xs) (append-nil (take 12 sealed))

pub drawn_more : (first drawn drawn' : Option (List ℕ)) (head : Head) (index : ℕ) (plaintext : List ℕ) (old new : List (List ℕ)) → Extends first drawn (nonces_of old)
    → IsPushed head index plaintext old new drawn drawn' → Extends first drawn' (nonces_of new)
drawn_more first drawn drawn' head index plaintext old new before this =
    through first drawn drawn' (λ was now. now ≡ was ++ nonces_of old) (λ was now. now ≡ was ++ take 12 this.sealed) (λ was now. now ≡ was ++ nonces_of new)
    (λ x y z p q.
    q ∙ ap (λ (xs : List ℕ). xs ++ take 12 this.sealed) p ∙ append_assoc x (nonces_of old) (take 12 this.sealed)
    ∙ ap (λ (xs : List ℕ). x ++ xs) (sym (ap nonces_of this.pushed ∙ nonces-pushed old this.sealed)))
    before this.nonce
