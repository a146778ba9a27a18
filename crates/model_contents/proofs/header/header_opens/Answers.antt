use Rattle.std.proofs.Common.{◌≡◌, length, drop, ap, ◌∙◌, arith, length-drop}
use Rattle.std.proofs.lemmas.List.{take_all}
use Rattle.model_contents.proofs.Openings.{header_read, length-opened}
use Rattle.model_contents.proofs.header.header_opens.Goals as goal

pub returns-in_default : goal.returns-in_default
returns-in_default c =
    let none = rw c.in_default.is at c.in_ok-opened.ensures in
    header_read c.args.keys.now c.args.bytes.now c.bytes-key.result c.array_at-nonce.result c.array_at.result _
    c.told-bytes (c.bytes-key.ensures ∙ c.encryption_key.ensures) c.array_at-nonce.ensures c.array_at.ensures none

pub array_at-requires-2 : goal.array_at-requires-2
array_at-requires-2 c =
    let some = rw c.in-Some.is at c.in_ok-opened.ensures in
    let long : length c.in-Some.payload.items ≡ 40 = length-opened c.bytes-key.result _ _ _ c.in-Some.payload.items (omega arith) some ∙ omega arith in
    (omega arith, omega (arith, ap length c.deref.ensures.value))

pub returns : goal.returns
returns c =
    let some = rw c.in-Some.is at c.in_ok-opened.ensures in
    let long : length c.in-Some.payload.items ≡ 40 = length-opened c.bytes-key.result _ _ _ c.in-Some.payload.items (omega arith) some ∙ omega arith in
    let key : c.array_at-2.result ≡ drop 8 c.in-Some.payload.items =
    c.array_at-2.ensures ∙ rw c.deref.ensures.value (take_all 32 (drop 8 c.in-Some.payload.items) (omega (arith, length-drop 8 c.in-Some.payload.items))) in
    rw (key, c.array_at-nonce.ensures)
    (header_read c.args.keys.now c.args.bytes.now c.bytes-key.result c.array_at-nonce.result c.array_at.result _
    c.told-bytes (c.bytes-key.ensures ∙ c.encryption_key.ensures) c.array_at-nonce.ensures c.array_at.ensures some)
