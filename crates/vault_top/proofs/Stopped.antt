-- What a stop leaves of a vault that was served is soundly found, and so is a new vault.
use Rattle.std.proofs.Common.{◌≡◌, ◌≢◌, ℕ, List, [], ◌∷◌, length, Option, None, Some, refl, sym, ap, subst, ◌∙◌, inl}
use Rattle.vault_layout.specs.Names.{masterkey_file, vault_file}
use Rattle.outside.specs.Calls.{Told}
use Rattle.outside.specs.Disk.{Disk, Node, folder as Folder, node_at, Path}
use Rattle.outside.specs.Images.{Log}
use Rattle.deeds.specs.Repeatable.{journal_file, journal_name, journal_spelled, new_file, new_name, new_spelled}
use Rattle.chunk_journal.specs.Journal.{IsReopenable, RecoversTo}
use Rattle.chunk_journal.proofs.Gate.{shut_reopens}
use Rattle.crash_laws.specs.Prefix.{StopsRecover}
use Rattle.crash_laws.proofs.Trees.{recovering_is_sound, stops_are_sound}
use Rattle.store_laws.specs.Store.{IsSaidFrom, shows_under}
use Rattle.vault_make.specs.Draws.{NewSecrets}
use Rattle.vault_make.specs.Vault.{top_name, IsNewVault}
use Rattle.vault_top.specs.Stopped.{NewVaultsAreSound, StoppedVaultsAreSound, UnopenedVaultsAreSound}

pub stopped_vaults_are_sound : StoppedVaultsAreSound
stopped_vaults_are_sound keys rows origin entries before after log stops is opened from m since within image here tree =
    stops_are_sound (shows_under before.log keys) rows entries _ _ image tree
    (subst (λ (o : Option Log). Told o (λ (l : Log). (opened : ℕ) → IsSaidFrom before.log origin opened → StopsRecover (shows_under before.log keys) opened rows entries l)) is stops.recover
    opened from m since within image here)

pub unopened_vaults_are_sound : UnopenedVaultsAreSound
unopened_vaults_are_sound keys rows old new recovers found m since within image here tree =
    stops_are_sound (shows_under (Some old) keys) rows [] _ _ image tree (recovers.whole rows found m since within image here)

-- ---- new vaults

-- a name of another length is another
longer : (a b : List ℕ) (m n : ℕ) → length a ≡ m → length b ≡ n → m ≢ n → a ≢ b
longer a b m n la lb ne e = ne (sym la ∙ ap length e ∙ lb)

first_of : (a b : List ℕ) → ◌≡◌ {A = Path} (a ∷ []) (b ∷ []) → a ≡ b
first_of a b e = cc

-- in a new vault nothing is at a name whose length is none of its files'
none_at : (password : List ℕ) (secrets : NewSecrets) (disk : Disk) → IsNewVault password secrets disk → (name : List ℕ) (n : ℕ) → length name ≡ n → n ≢ 1 → n ≢ 21 → n ≢ 17 → node_at disk (name ∷ []) ≡ None
none_at password secrets disk is name n long not_top not_masterkey not_config =
    is.alone name (longer name top_name n 1 long refl not_top)
    (λ e. longer name masterkey_file n 21 long refl not_masterkey (first_of name masterkey_file e))
    (λ e. longer name vault_file n 17 long refl not_config (first_of name vault_file e))

-- neither of the journal's files
module _ (password : List ℕ) (secrets : NewSecrets) (disk : Disk) (is : IsNewVault password secrets disk) where
  no_journal : node_at disk journal_file ≡ None
  no_journal = none_at password secrets disk is journal_name 14 (ap length journal_spelled) (λ e. cc) (λ e. cc) (λ e. cc)

  no_new : node_at disk new_file ≡ None
  no_new = none_at password secrets disk is new_name 18 (ap length new_spelled) (λ e. cc) (λ e. cc) (λ e. cc)

  pub new_reopens : IsReopenable disk
  new_reopens = shut_reopens disk (inl no_journal) (λ folder. let w : ◌≡◌ {A = Option Node} None (Some Folder) = sym no_new ∙ folder in cc)

  pub new_recovers : RecoversTo disk disk
  new_recovers = inl (inl no_journal, refl)

pub new_vaults_are_sound : NewVaultsAreSound
new_vaults_are_sound password secrets disk tree is =
    recovering_is_sound disk disk tree (new_reopens password secrets disk is) (new_recovers password secrets disk is)
