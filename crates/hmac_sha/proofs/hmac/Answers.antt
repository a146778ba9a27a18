use Rattle.hmac_sha.proofs.Blocks.{hmac-is}
use Rattle.hmac_sha.proofs.hmac.Goals as goal

pub returns : goal.returns
returns g c = λ hash gives long.
    hmac-is hash g.row.BLOCK c.args.key.now _ _ _ _ (c.key_block.ensures hash gives long) (gives _ _ c.tag.ensures.1) (gives _ _ c.tag.ensures.2)
