use Rattle.std.proofs.Common.{refl}
use Rattle.gcm_mode.specs.Gcm.{gcm_tag}
use Rattle.gcm_mode.proofs.gcm.GcmCipher.tag_of.Goals as goal

pub returns : goal.returns
unfolding gcm_tag
returns g c = rw (c.xor_onto.ensures, c.tag_mask-tag.ensures, c.block_cipher.ensures, c.hash.ensures) refl
