-- What is said of the key files that were found.
use Rattle.std.proofs.Common.{◌≡◌, ℕ, ◌<◌, List, length, Option, Some, None, Result, Ok, Err, refl, sym, ap, subst, ◌∙◌}
use Rattle.std.proofs.lemmas.Bool.{lt-ltb}
use Rattle.std.specs.Result.{result_map_both}
use Rattle.outside.specs.Disk.{Disk}
use Rattle.outside.specs.Images.{Log, disk_in}
use Rattle.vault_keys.specs.Keys.{KeyPair}
use Rattle.json_members.specs.Steps.{result_and_then}
use Rattle.masterkey_file.proofs.Members.{keys_of-long}
use Rattle.vault_config.proofs.Reading.{config_of-long}
use Rattle.unlocking.specs.FromFiles.{FoundFile, absent, UnlockedVault, Cause as KeyCause, bad_masterkey_file, masterkey_too_long, vault_too_long, masterkey_opened, vault_opened}
use Rattle.unlocking.specs.Errors.{IsCause}
use Rattle.unlocking.specs.declared.errors.UnlockErr.{UnlockErr}
use Rattle.unlocking.proofs.Opening.{with_keys, IsCause-then}
use Rattle.unlocking.specs.Files.{masterkey_place, config_place, found_at}
use Rattle.unlocking.specs.Finding.{IsFound, Sees}
use Rattle.unlocking.specs.declared.finding.Found.{Found}
use Rattle.unlocking.specs.declared.finding.Found.TheVariants.{TooLong}
use Rattle.unlocking.specs.declared.finding.FindErr.{FindErr}
use Rattle.unlocking.specs.declared.finding.FindErr.TheVariants as find_errs
use Rattle.unlocking.specs.FromFolder.{FoundFiles, files_at, SeesFiles, unlocked_by}
use Rattle.unlocking.specs.Refusals.{of_find, IsRefusal}
use Rattle.unlocking.specs.declared.refusal.Refusal.TheVariants.{Cause}

-- ---- files that are too long

pub masterkey_long : (found : Found) (n : ℕ) (password : List ℕ) → found ≡ TooLong n → (seen : FoundFile) → IsFound found seen → masterkey_opened password seen ≡ Err (masterkey_too_long n)
masterkey_long found n password e seen is =
    let h = subst (λ (f : Found). IsFound f seen) e is in
    let long = subst (λ (k : ℕ). 65536 < k) h.2 h.3 in
    ap (masterkey_opened password) h.1
    ∙ ap (result_map_both (λ (keys : KeyPair). keys) bad_masterkey_file) (keys_of-long h.0 password (lt-ltb 65536 (length h.0) long))
    ∙ ap (λ (k : ℕ). Err (masterkey_too_long k)) (sym h.2)

pub config_long : (found : Found) (n : ℕ) (keys : KeyPair) → found ≡ TooLong n → (seen : FoundFile) → IsFound found seen → vault_opened keys seen ≡ Err (vault_too_long n)
config_long found n keys e seen is =
    let h = subst (λ (f : Found). IsFound f seen) e is in
    let long = subst (λ (k : ℕ). 65536 < k) h.2 h.3 in
    ap (vault_opened keys) h.1 ∙ ap (with_keys keys) (config_of-long keys h.0 long) ∙ ap (λ (k : ℕ). Err (vault_too_long k)) (sym h.2)

-- ---- both files

-- a folder's files, of which the first was seen
one_seen : (disk : Option Disk) (Q : FoundFile → Type 0) (P : FoundFiles → Type 0) → ((files : FoundFiles) → Q files.masterkey → P files) → Sees disk masterkey_place Q → SeesFiles disk P
one_seen None Q P h seen = (record { masterkey = seen.0; config = absent }, tt, h (record { masterkey = seen.0; config = absent }) seen.2)
one_seen (Some d) Q P h seen =
    let files : FoundFiles = record { masterkey = seen.0; config = found_at d config_place } in (files, (λ i. record { masterkey = seen.1 i; config = found_at d config_place }), h files seen.2)

both : (disk : Option Disk) (Q R : FoundFile → Type 0) (P : FoundFiles → Type 0) → ((files : FoundFiles) → Q files.masterkey → R files.config → P files) → Sees disk masterkey_place Q
    → Sees disk config_place R → SeesFiles disk P
both None Q R P h first second = (record { masterkey = first.0; config = second.0 }, tt, h (record { masterkey = first.0; config = second.0 }) first.2 second.2)
both (Some d) Q R P h first second =
    (record { masterkey = first.0; config = second.0 }, (λ i. record { masterkey = first.1 i; config = second.1 i }), h (record { masterkey = first.0; config = second.0 }) first.2 second.2)

pub both_seen : (log later : Option Log) (Q R : FoundFile → Type 0) (P : FoundFiles → Type 0) → later ≡ log → ((files : FoundFiles) → Q files.masterkey → R files.config → P files)
    → Sees (disk_in log) masterkey_place Q → Sees (disk_in later) config_place R → SeesFiles (disk_in log) P
both_seen log later Q R P same h first second = both (disk_in log) Q R P h first (subst (λ (l : Option Log). Sees (disk_in l) config_place R) same second)

-- ---- refusals

unseen : (disk : Option Disk) (P : FoundFiles → Type 0) → ((files : FoundFiles) → P files) → SeesFiles disk P
unseen None P h = (record { masterkey = absent; config = absent }, tt, h (record { masterkey = absent; config = absent }))
unseen (Some d) P h = (files_at d, refl, h (files_at d))

refused_find : (e : FindErr) (password : List ℕ) (files : FoundFiles) → IsRefusal (of_find e) (unlocked_by password files)
refused_find find_errs.Device password files = tt
refused_find find_errs.Memory password files = tt

pub find_refused : (e : FindErr) (password : List ℕ) (disk : Option Disk) → SeesFiles disk (λ files. IsRefusal (of_find e) (unlocked_by password files))
find_refused e password disk = unseen disk (λ files. IsRefusal (of_find e) (unlocked_by password files)) (refused_find e password)

pub masterkey_refused : (e : UnlockErr) (password : List ℕ) (disk : Option Disk) (found : Found) → Sees disk masterkey_place (IsFound found)
    → ((seen : FoundFile) → IsFound found seen → IsCause e (masterkey_opened password seen)) → SeesFiles disk (λ files. IsRefusal (Cause e) (unlocked_by password files))
masterkey_refused e password disk found sees h =
    one_seen disk (IsFound found) (λ files. IsCause e (unlocked_by password files))
    (λ files is. IsCause-then e (masterkey_opened password files.masterkey) (λ keys. vault_opened keys files.config) (h files.masterkey is)) sees

opened_then : (password : List ℕ) (keys : KeyPair) (files : FoundFiles) → masterkey_opened password files.masterkey ≡ Ok keys → unlocked_by password files ≡ vault_opened keys files.config
opened_then password keys files e = ap (λ (found : Result KeyPair KeyCause). result_and_then (λ k. vault_opened k files.config) found) e

pub config_seen : (log later : Option Log) (password : List ℕ) (keys : KeyPair) (masterkey config : Found) (P : Result UnlockedVault KeyCause → Type 0) → later ≡ log
    → Sees (disk_in log) masterkey_place (IsFound masterkey) → Sees (disk_in later) config_place (IsFound config)
    → ((seen : FoundFile) → IsFound masterkey seen → masterkey_opened password seen ≡ Ok keys) → ((seen : FoundFile) → IsFound config seen → P (vault_opened keys seen))
    → SeesFiles (disk_in log) (λ files. P (unlocked_by password files))
config_seen log later password keys masterkey config P same first second opened h =
    both_seen log later (IsFound masterkey) (IsFound config) (λ files. P (unlocked_by password files)) same
    (λ files is was. subst P (sym (opened_then password keys files (opened files.masterkey is))) (h files.config was)) first second
