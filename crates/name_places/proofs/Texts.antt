-- The texts of sealed names are told apart from what else is in a folder, the entries of nodes are parts of paths, and identifiers are
-- short.
use Rattle.std.proofs.Common.{◌≡◌, ℕ, ◌<◌, ◌≤◌, List, ◌∷◌, length, length-take, take, Bool, true, false, ◌&&◌, cond, nat_le, Option, Some, None, refl, sym, ap, ◌∙◌, true≢false, ◌⊎◌, inl, inr, arith}
use Rattle.std.proofs.lemmas.Bool.{cases_lt}
use Rattle.std.proofs.lemmas.Bool.Decides.{nat_tests}
use Rattle.std.proofs.lemmas.List.{take_all}
use Rattle.std.specs.Str.{is_utf8}
use Rattle.std.specs.FinMap.{get}
use Rattle.outside.specs.Disk.{Disk}
use Rattle.vault_keys.specs.Keys.{KeyPair}
use Rattle.vault_names.specs.Folder.{base32, hash_of}
use Rattle.clear_tree.specs.Walk.{Path, Sealing, Node, File, Link, Dir, Bad}
use Rattle.clear_tree.specs.Kept.{text_limit}
use Rattle.clear_tree.specs.Places.{entry_at, host_entry}
use Rattle.tree_loading.specs.Format.{is_identifier}
use Rattle.tree_loading.specs.Ciphers.{AreCiphers, is_long_entry}
use Rattle.tree_deed_laws.specs.Trees.{AreTexts, Tree, IsTreeOf}
use Rattle.tree_deed_laws.specs.Deeds.{entry_text, place_of}
use Rattle.name_places.specs.Laws.{KeptClaims}

pub texts_from : (s : Sealing) → AreCiphers s → AreTexts s
texts_from s are = record {
  text = are.text;
  long = λ t. are.no_text (s.long_of t) (are.long t);
  copy = are.copy;
  no_copy = λ t same. true≢false (sym (are.long t) ∙ ap is_long_entry same);
}

-- ---- the entry of a disk's node is a part of a path

pub entry_part : (s : Sealing) → AreCiphers s → (d : Disk) (tree : Tree) (p : Path) (i n : List ℕ) (x : Node) → IsTreeOf s d tree
    → get tree.nodes p ≡ Some (Dir i) → get tree.nodes (n ∷ p) ≡ Some x → s.is_part (place_of s i n (tree.long (n ∷ p))).entry ≡ true
entry_part s are d tree p i n x is up there = by_place (tree.long (n ∷ p)) refl
  where
    at_short : (c : Bool) → s.is_part (s.seal i n) ≡ c → tree.long (n ∷ p) ≡ false → s.is_part (s.seal i n) ≡ true
    at_short true part short = part
    at_short false part short =
        let none : entry_at s d (s.folder_of i) (s.seal i n) ≡ None = ap (λ (b : Bool). cond b (get d (host_entry (s.folder_of i) (s.seal i n))) None) part in
        absurd (true≢false (sym ((is.placed n p i x up there).1 none) ∙ short))

    by_place : (b : Bool) → tree.long (n ∷ p) ≡ b → s.is_part (entry_text s b (s.seal i n)) ≡ true
    by_place true e = are.part (s.seal i n)
    by_place false e = at_short (s.is_part (s.seal i n)) refl e

-- ---- a text that was cut is no identifier, as the whole one

no_identifier : (bytes : List ℕ) → 1000 < length bytes → is_identifier bytes ≡ false
no_identifier bytes long =
    let no : nat_le (length bytes) 1000 ≡ false = grind (arith, nat_tests) in
    rw no (none (nat_le 1 (length bytes)) (is_utf8 bytes))
  where
    none : (a b : Bool) → ((a && false) && b) ≡ false
    none true b = refl
    none false b = refl

abbrev named : KeyPair → List ℕ → Option (List ℕ)
named keys text = cond (is_identifier text) (Some (base32 (hash_of keys text))) None

pub kept_claim : (keys : KeyPair) → KeptClaims keys
kept_claim keys (File b) = refl
kept_claim keys (Link b) = refl
kept_claim keys (Dir i) = refl
kept_claim keys (Bad t) = by_length (cases_lt text_limit (length t))
  where
    by_length : (text_limit < length t) ⊎ (length t ≤ text_limit) → named keys (take text_limit t) ≡ named keys t
    by_length (inl more) =
        let size : length (take text_limit t) ≡ text_limit = omega (arith, length-take text_limit t) in
        ap (λ (b : Bool). cond b (Some (base32 (hash_of keys (take text_limit t)))) None) (no_identifier (take text_limit t) (omega (arith, size)))
        ∙ sym (ap (λ (b : Bool). cond b (Some (base32 (hash_of keys t))) None) (no_identifier t (omega (arith, more))))
    by_length (inr few) = ap (named keys) (take_all text_limit t few)
