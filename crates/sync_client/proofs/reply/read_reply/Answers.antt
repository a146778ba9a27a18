use Rattle.std.proofs.Common.{◌≡◌, ℕ, ◌+◌, ◌-◌, List, length, take, drop, ◌++◌, ◌∙◌, arith}
use Rattle.std.proofs.lemmas.List.{length-take, length-drop, length-append}
use Rattle.std.proofs.lemmas.Result.{err_from_is_err_and}
use Rattle.byteorder.specs.Numbers.{little_from-append}
use Rattle.sync_client.specs.Talk.{size_of}
use Rattle.sync_client.proofs.Links.{stops_behind, reads_both}
use Rattle.sync_client.proofs.reply.read_reply.Goals as goal

pub returns-in_err-read_full-2-clause-stops : goal.returns-in_err-read_full-2-clause-stops
returns-in_err-read_full-2-clause-stops g c =
    let head : List ℕ = c.read_full.new.out in
    let behind : List ℕ = drop 4 c.args.frame.now in
    let size : ℕ = c.read_u32-size.result in
    let four : length head ≡ 4 = omega (arith, c.read_full.auto.out, length-take 4 c.args.frame.now, c.requires) in
    let is : size ≡ size_of head = c.read_u32-size.ensures ∙ little_from-append 4 head behind (omega arith) in
    let long : length (head ++ behind) ≡ length c.args.frame.now = omega (arith, length-append head behind, length-drop 4 c.args.frame.now, c.requires) in
    let count : ℕ = length (take (size - 4) (drop 4 (head ++ behind))) in
    let all : count + 4 ≡ size_of head =
    omega (arith, c.requires, c.if-size-lt-HEADER_LEN.false, c.if-size-gt-MOST_MESSAGE.false, length-take (size - 4) (drop 4 (head ++ behind)), length-drop 4 (head ++ behind))
    in
    let p = err_from_is_err_and c.from_residual-in_err-read_full-2.result c.from_residual-in_err-read_full-2.ensures.1 in
    rw (p.1, p.2)
    (stops_behind _ _ _ head count _ four (omega (arith, c.if-size-lt-HEADER_LEN.false), omega (arith, c.if-size-gt-MOST_MESSAGE.false)) all c.in_ok-read_full.ensures.whole c.in_err-read_full-2.ensures.stops)

pub returns-clause-bytes : goal.returns-clause-bytes
returns-clause-bytes g c =
    let head : List ℕ = c.read_full.new.out in
    let behind : List ℕ = drop 4 c.args.frame.now in
    let size : ℕ = c.read_u32-size.result in
    let four : length head ≡ 4 = omega (arith, c.read_full.auto.out, length-take 4 c.args.frame.now, c.requires) in
    let long : length (head ++ behind) ≡ length c.args.frame.now = omega (arith, length-append head behind, length-drop 4 c.args.frame.now, c.requires) in
    let all : size ≡ 4 + length c.read_full-2.new.out =
    omega (arith, c.requires, c.if-size-lt-HEADER_LEN.false, c.if-size-gt-MOST_MESSAGE.false, c.read_full-2.auto.out, length-take (size - 4) (drop 4 (head ++ behind)), length-drop 4 (head ++ behind))
    in
    reads_both _ _ _ size (size - 4) head behind c.read_full-2.new.out four all c.in_ok-read_full.ensures.whole c.in_ok-read_full-2.ensures.whole
