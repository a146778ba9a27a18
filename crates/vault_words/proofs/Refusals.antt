-- What clap's refusals amount to.
use Rattle.std.proofs.Common.{◌≡◌, ◌⊎◌, true, List, Result, Ok, Err, IfOk, IfErr, MatchResult, inl, inr, refl, subst}
use Rattle.clap.specs.Words.{IsAmong, Text, fault_of, is_simple, is_simple_and_free}
use Rattle.clap.specs.declared.error.kind.ErrorKind.{ErrorKind}
use Rattle.clap.specs.declared.error.kind.ErrorKind.TheVariants as kind
use Rattle.clap.proofs.OnLiterals.{clap_on_literals}
use Rattle.vault_words.specs.Command.{vaultd}
use Rattle.vault_words.specs.Jobs as jobs
use Rattle.vault_words.specs.Jobs.{AsksFor, topic_at}
use Rattle.vault_words.specs.Read.{IsCause, IsRefusalBy, IsRequestFor, job_data}
use Rattle.vault_words.specs.declared.job.Job.{Job}
use Rattle.vault_words.specs.declared.job.Topic.{Topic}
use Rattle.vault_words.specs.declared.job.WordsErr.{WordsErr}
use Rattle.vault_words.specs.declared.job.WordsErr.TheVariants.{Refused, Memory}

-- clap's definitions say all of the program's command
pub vaultd_is_simple : is_simple vaultd ≡ true
unfolding vaultd clap_on_literals
vaultd_is_simple = refl

pub vaultd_is_free : is_simple_and_free vaultd ≡ true
unfolding vaultd clap_on_literals
vaultd_is_free = refl

-- an error's kind refuses the words
pub IsCause-kind : (e : WordsErr) (k : ErrorKind) (words : List Text) → IsRefusalBy k e
    → (k ≡ kind.OutOfMemory) ⊎ IsAmong k (fault_of vaultd words) → IsCause e words
IsCause-kind Refused k words by among = elim among [ inl memory ↦ absurd (by.1 memory) | inr is ↦ inl (k, is, by.0) ]
IsCause-kind Memory k words by among = tt

-- an error's kind is a request of the words
pub AsksFor-kind : (job : jobs.Job) (k : ErrorKind) (words : List Text) → IsRequestFor k (topic_at words) job
    → (k ≡ kind.OutOfMemory) ⊎ IsAmong k (fault_of vaultd words) → AsksFor job words
AsksFor-kind (jobs.serve s) k words for among = absurd for
AsksFor-kind (jobs.make m) k words for among = absurd for
AsksFor-kind (jobs.demo d) k words for among = absurd for
AsksFor-kind (jobs.sync address) k words for among = absurd for
AsksFor-kind (jobs.recover r) k words for among = absurd for
AsksFor-kind (jobs.help t) k words for (inl memory) = let is = for.0 in cc
AsksFor-kind (jobs.help t) k words for (inr is) = inl (subst (λ j. IsAmong j (fault_of vaultd words)) for.0 is, for.1)
AsksFor-kind jobs.version k words for (inl memory) = cc
AsksFor-kind jobs.version k words for (inr is) = subst (λ j. IsAmong j (fault_of vaultd words)) for is

-- what holds of each job and of each error, of a result
pub IfOk-each : (r : Result Job WordsErr) (k : ErrorKind) (t : Topic) (words : List Text) → t ≡ topic_at words
    → (k ≡ kind.OutOfMemory) ⊎ IsAmong k (fault_of vaultd words) → MatchResult r (λ job. IsRequestFor k t (job_data job)) (IsRefusalBy k)
    → IfOk r (λ job. AsksFor (job_data job) words)
IfOk-each (Ok job) k t words is among h = AsksFor-kind (job_data job) k words (subst (λ x. IsRequestFor k x (job_data job)) is h) among
IfOk-each (Err e) k t words is among h = tt

pub IfErr-each : {T : Type 0} (r : Result T WordsErr) (P : T → Type 0) (k : ErrorKind) (words : List Text)
    → (k ≡ kind.OutOfMemory) ⊎ IsAmong k (fault_of vaultd words) → MatchResult r P (IsRefusalBy k) → IfErr r (λ e. IsCause e words)
IfErr-each (Ok x) P k words among h = tt
IfErr-each (Err e) P k words among h = IsCause-kind e k words h among
