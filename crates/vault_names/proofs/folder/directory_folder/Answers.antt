use Rattle.std.proofs.Common.{ℕ, List, ap, ◌∙◌}
use Rattle.vault_path.specs.Parts.{is_path}
use Rattle.vault_names.specs.Folder.{folder_path}
use Rattle.vault_names.proofs.PartLemmas.{is_path-digits}
use Rattle.vault_names.proofs.folder.directory_folder.Goals as goal

pub returns-clause-path : goal.returns-clause-path
returns-clause-path c = ap (λ (h : List ℕ). is_path (folder_path h)) c.base32.ensures ∙ is_path-digits c.digest.result
