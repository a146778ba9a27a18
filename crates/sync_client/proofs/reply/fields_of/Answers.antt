use Rattle.std.proofs.Common.{◌≡◌, List, ℕ, drop, sym, ap, subst, ◌∙◌, arith}
use Rattle.std.proofs.lemmas.List.{take_rest}
use Rattle.byteorder.specs.Endian.{little_number}
use Rattle.ninep_wire.specs.Header.{message}
use Rattle.sync_client.proofs.Fields.{header_is}
use Rattle.sync_client.proofs.reply.fields_of.Goals as goal

pub returns-clause-found : goal.returns-clause-found
returns-clause-found c =
    let frame : List ℕ = c.args.frame.now in
    let tag_is : little_number 2 (drop 5 frame) ≡ c.args.tag =
    ap (little_number 2) (sym (take_rest frame 5)) ∙ sym c.read_u16.ensures ∙ c.if-read_u16-tag.false
    in
    subst (λ (w : List ℕ). frame ≡ message c.args.kind c.args.tag w) (sym (take_rest frame 7))
    (header_is frame c.args.kind c.args.tag (λ i. omega (arith, c.type_inv.frame i)) c.requires c.if-frame-kind.false tag_is)
