use Rattle.std.proofs.Common.{Some}
use Rattle.aes_block.specs.Aes.{aes}
use Rattle.siv_mode.specs.Siv.{siv_sealed, siv_opened}
use Rattle.vault_names.proofs.Opening.{short_opens_to_none}
use Rattle.vault_names.proofs.sealed.unsealed.Goals as goal

pub returns-in_default : goal.returns-in_default
returns-in_default c =
    let law = c.opening_is_exact.ensures in
    let keys = c.args.keys.now in
    let ad = Some c.args.parent.now in
    short_opens_to_none (siv_opened (aes keys.mac) (aes keys.enc) ad) (siv_sealed (aes keys.mac) (aes keys.enc) ad) c.args.sealed.now
    (law.long ad) (law.exact ad) c.in_default.ensures
