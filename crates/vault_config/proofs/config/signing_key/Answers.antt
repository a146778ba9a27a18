use Rattle.std.proofs.Common.{◌++◌, refl, ◌∙◌}
use Rattle.vault_config.proofs.Keys.{put_mid-back}
use Rattle.vault_config.proofs.config.signing_key.Goals as goal

pub returns : goal.returns
returns c =
    let enc = c.copy_from_slice.ensures.after ∙ c.bytes.ensures ∙ c.encryption_key.ensures in
    let mac = c.copy_from_slice-2.ensures.after ∙ c.bytes-2.ensures ∙ c.mac_key.ensures in
    put_mid-back c.copy_from_slice.new.self _ c.copy_from_slice-2.new.self c.copy_from_slice.ensures.len refl ∙ (λ i. enc i ++ mac i)
