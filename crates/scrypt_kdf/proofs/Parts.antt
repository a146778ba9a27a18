-- The parts that scrypt mixes, one after the other.
use Rattle.std.proofs.Common.{◌≡◌, ℕ, ◌+◌, ◌*◌, ◌≤◌, List, ◌++◌, length, take, drop, refl, sym, ap, ap₂, ◌∙◌, length-append, length-drop, append_assoc, arith}
use Rattle.std.proofs.lemmas.List.{append-nil, drop-drop, drop_all, drop_at, length-take-le, take_at}
use borrow.Rule.Slice.PartMut.{put_mid}
use Rattle.scrypt_kdf.specs.Pbkdf2.{pbkdf2}
use Rattle.scrypt_kdf.specs.Scrypt.{mixed_parts, ro_mix, scrypt}
use Rattle.scrypt_kdf.proofs.Blocks.{first_blocks, first_blocks-more}

-- part i of bytes
abbrev pub part_at : ℕ → List ℕ → ℕ → List ℕ
part_at r bytes i = take (128 * r) (drop (128 * r * i) bytes)

-- the first n parts are mixed, and the others as they were
pub record AreMixed (cost r : ℕ) (init parts : List ℕ) (n : ℕ) : Type 0 where
  pub long : length (first_blocks (λ i. ro_mix cost r (part_at r init i)) n) ≡ 128 * r * n
  pub done : parts ≡ first_blocks (λ i. ro_mix cost r (part_at r init i)) n ++ drop (128 * r * n) init

pub AreMixed-none : (cost r : ℕ) (init : List ℕ) → AreMixed cost r init init 0
AreMixed-none cost r init =
    let start : 128 * r * 0 ≡ 0 = omega arith in
    record { long = omega arith; done = rw start refl }

-- the part that is mixed next is as it was
part_at-next : (cost r n : ℕ) (init parts : List ℕ) → AreMixed cost r init parts n → drop (128 * r * n) parts ≡ drop (128 * r * n) init
part_at-next cost r n init parts h =
    ap (drop (128 * r * n)) h.done ∙ drop_at (first_blocks (λ i. ro_mix cost r (part_at r init i)) n) (drop (128 * r * n) init) (128 * r * n) h.long

pub AreMixed-more : (cost r n k m : ℕ) (init parts next part : List ℕ) → AreMixed cost r init parts n → 128 * r * (n + 1) ≤ length init → length parts ≡ length init
    → length part ≡ length (take k (drop (128 * r * n) parts)) → k ≡ 128 * r → m ≡ 128 * r → part ≡ ro_mix cost r (take k (drop (128 * r * n) parts)) → next ≡ put_mid (128 * r * n) m parts part
    → AreMixed cost r init next (n + 1)
AreMixed-more cost r n k m init parts next part h within same kept ek em made written =
    let f : ℕ → List ℕ = λ (i : ℕ). ro_mix cost r (part_at r init i) in
    let before : List ℕ = first_blocks f n in
    let end : 128 * r * (n + 1) ≡ 128 * r * n + 128 * r = omega arith in
    let left = length-drop (128 * r * n) parts in
    let long : length part ≡ 128 * r = kept ∙ length-take-le k (drop (128 * r * n) parts) (omega arith) ∙ ek in
    let rest : drop (128 * r * n) parts ≡ drop (128 * r * n) init = part_at-next cost r n init parts h in
    let is : part ≡ f n = made ∙ ap₂ (λ (j : ℕ) (l : List ℕ). ro_mix cost r (take j l)) ek rest in
    let front : take (128 * r * n) parts ≡ before = ap (take (128 * r * n)) h.done ∙ take_at before (drop (128 * r * n) init) (128 * r * n) h.long in
    let behind : drop m (drop (128 * r * n) parts) ≡ drop (128 * r * (n + 1)) init =
    ap (λ (j : ℕ). drop j (drop (128 * r * n) parts)) em ∙ ap (drop (128 * r)) rest ∙ drop-drop (128 * r) (128 * r * n) init ∙ ap (λ (j : ℕ). drop j init) (sym end) in
    let grown : length (first_blocks f (n + 1)) ≡ length before + length (f n) = ap length (first_blocks-more f n) ∙ length-append before (f n) in
    let part_long : length (f n) ≡ 128 * r = ap length (sym is) ∙ long in
    record {
      long = grown ∙ ap₂ (λ (p q : ℕ). p + q) h.long part_long ∙ sym end;
      done = written ∙ ap₂ (λ (p q : List ℕ). p ++ (part ++ q)) front behind ∙ ap (λ (l : List ℕ). before ++ (l ++ drop (128 * r * (n + 1)) init)) is
          ∙ sym (append_assoc before (f n) (drop (128 * r * (n + 1)) init)) ∙ ap (λ (l : List ℕ). l ++ drop (128 * r * (n + 1)) init) (sym (first_blocks-more f n));
    }

pub AreMixed-all : (cost r p n : ℕ) (init parts : List ℕ) → AreMixed cost r init parts n → n ≡ p → length init ≡ 128 * r * p → parts ≡ mixed_parts cost r p init
AreMixed-all cost r p n init parts h all long =
    let f : ℕ → List ℕ = λ (i : ℕ). ro_mix cost r (part_at r init i) in
    let whole : 128 * r * n ≡ 128 * r * p = ap (λ (j : ℕ). 128 * r * j) all in
    let behind = drop_all (128 * r * n) init (omega arith) in
    h.done ∙ ap (λ (l : List ℕ). first_blocks f n ++ l) behind ∙ append-nil (first_blocks f n) ∙ ap (first_blocks f) all

-- scrypt's steps
pub scrypt-is : (password salt parts mixed out : List ℕ) (cost r p long len : ℕ) → parts ≡ pbkdf2 password salt 1 long → long ≡ 128 * r * p
    → mixed ≡ mixed_parts cost r p parts → out ≡ pbkdf2 password mixed 1 len → out ≡ scrypt password salt cost r p len
unfolding scrypt
scrypt-is password salt parts mixed out cost r p long len first sized middle last =
    last ∙ ap (λ (l : List ℕ). pbkdf2 password l 1 len) (middle ∙ ap (mixed_parts cost r p) (first ∙ ap (pbkdf2 password salt 1) sized))
