-- Both keys, one after the other.
use Rattle.std.proofs.Common.{◌≡◌, ℕ, List, [], ◌++◌, length, take, drop, ap, arith}
use Rattle.std.proofs.lemmas.List.{take_at, drop_at, drop_all, append-nil}
use borrow.Rule.Slice.PartMut.{put_mid}

pub put_mid-back : (front back new : List ℕ) → length front ≡ 32 → length back ≡ 32 → put_mid 32 32 (front ++ back) new ≡ front ++ new
put_mid-back front back new f b =
    let start : take 32 (front ++ back) ≡ front = take_at front back 32 f in
    let rest : drop 32 (front ++ back) ≡ back = drop_at front back 32 f in
    let none : drop 32 back ≡ [] = drop_all 32 back (omega arith) in
    rw (start, rest, none) (ap (λ s. front ++ s) (append-nil new))
