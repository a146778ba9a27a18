-- Jobs as the code has them.
use Rattle.std.specs.Prelude.{◌≡◌, ℕ, List, codes, option_map, ⊤}
use Rattle.clap.specs.Words.{Text}
use Rattle.clap.specs.declared.error.kind.ErrorKind.{ErrorKind}
use Rattle.clap.specs.declared.error.kind.ErrorKind.TheVariants as kind
use Rattle.vault_words.specs.Jobs as jobs
use Rattle.vault_words.specs.Jobs.{IsRefused, IsRequest}
use Rattle.vault_words.specs.declared.job.Job.{Job}
use Rattle.vault_words.specs.declared.job.Job.TheVariants.{Serve, Make, Demo, Sync, Recover, Help, Version}
use Rattle.vault_words.specs.declared.job.Making.{Making}
use Rattle.vault_words.specs.declared.job.Recovering.{Recovering}
use Rattle.vault_words.specs.declared.job.Serving.{Serving}
use Rattle.vault_words.specs.declared.job.Topic.{Topic}
use Rattle.vault_words.specs.declared.job.WordsErr.{WordsErr}
use Rattle.vault_words.specs.declared.job.WordsErr.TheVariants.{Refused, Memory}

abbrev pub serving_data : Serving → jobs.Serving
serving_data s = record {
  dir = s.dir.now;
  address = s.address.now;
  sessions = s.sessions;
  at_once = s.at_once;
  raw_key = s.raw_key;
  read_only = s.read_only;
  passfile = option_map (λ path. path.now) s.passfile;
  idle = s.idle;
  verbosity = s.verbosity;
}

abbrev pub making_data : Making → jobs.Making
making_data m = record { dir = m.dir.now; passfile = option_map (λ path. path.now) m.passfile }

abbrev pub recovering_data : Recovering → jobs.Recovering
recovering_data r = record { dir = r.dir.now; way = r.way }

abbrev pub job_data : Job → jobs.Job
job_data (Serve s) = jobs.serve (serving_data s)
job_data (Make m) = jobs.make (making_data m)
job_data (Demo seed clients requests) = jobs.demo (record { seed = seed; clients = clients; requests = requests })
job_data (Sync address) = jobs.sync address.now
job_data (Recover r) = jobs.recover (recovering_data r)
job_data (Help t) = jobs.help t
job_data Version = jobs.version

-- the words are refused; running out of memory says nothing
abbrev pub IsCause : WordsErr → List Text → Type 0
IsCause Refused words = IsRefused words
IsCause Memory words = ⊤

-- an error as it is shown
abbrev pub error_text : WordsErr → List ℕ
error_text Refused = codes "bad words"
error_text Memory = codes "out of memory"

-- ---- what an error of clap's amounts to

-- help is of the topic `t`
abbrev pub IsRequestFor : ErrorKind → Topic → jobs.Job → Type 0
IsRequestFor k t (jobs.serve s) = ⊥
IsRequestFor k t (jobs.make m) = ⊥
IsRequestFor k t (jobs.demo d) = ⊥
IsRequestFor k t (jobs.sync address) = ⊥
IsRequestFor k t (jobs.recover r) = ⊥
IsRequestFor k t (jobs.help of) = (k ≡ kind.DisplayHelp) × (of ≡ t)
IsRequestFor k t jobs.version = k ≡ kind.DisplayVersion

abbrev pub IsRefusalBy : ErrorKind → WordsErr → Type 0
IsRefusalBy k Refused = (IsRequest k → ⊥) × (k ≡ kind.OutOfMemory → ⊥)
IsRefusalBy k Memory = ⊤
