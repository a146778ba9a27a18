-- The jobs that the program does, and the words that ask for them.
use Rattle.std.specs.Prelude.{◌≡◌, ◌⊎◌, ℕ, ◌-◌, ◌^◌, List, [], Bool, String, map, min, unwrap_or, ⊤, if◌then◌else◌}
use Rattle.std.specs.String.{string_bytes}
use Rattle.clap.specs.Words.{Text}
use Rattle.unlocking.specs.declared.from_folder.SecretKind.{SecretKind}
use Rattle.unlocking.specs.declared.from_folder.SecretKind.TheVariants.{Password, RawKeys}
use Rattle.vault_words.specs.Jobs.{Job, Serving, serve, make, demo, sync, recover, help, version, AsksFor, IsRefused}

abbrev pub words_of : {A : Type 0} → List (String A) → List Text
words_of words = map string_bytes words

-- the jobs that a run does: `serve` at any address but an empty one, and all others but `sync` and `recover`, which open no vault
abbrev pub IsOffered : Job → Type 0
IsOffered (serve s) = s.address ≡ [] → ⊥
IsOffered (make m) = ⊤
IsOffered (demo d) = ⊤
IsOffered (sync address) = ⊥
IsOffered (recover r) = ⊥
IsOffered (help topic) = ⊤
IsOffered version = ⊤

-- the words ask for this job, and the program does it
pub record Ask (words : List Text) (job : Job) : Type 0 where
  pub asks : AsksFor job words
  pub offered : IsOffered job

-- the words ask for no job, or for one that the program doesn't do
abbrev pub AreRefused : List Text → Type 0
AreRefused words = IsRefused words ⊎ ((job : Job) × AsksFor job words × (IsOffered job → ⊥))

-- what the secret is: the two keys with `--raw-key`, and else a password
abbrev pub kind_where : Bool → SecretKind
kind_where raw_key = if raw_key then RawKeys else Password

abbrev pub kind_of : Serving → SecretKind
kind_of s = kind_where s.raw_key

-- the most sessions that a run counts
abbrev pub most_sessions : ℕ
most_sessions = 2 ^ 32 - 1

-- how many sessions are served: so many as the words say, or else the most that are counted
abbrev pub sessions_of : Serving → ℕ
sessions_of s = unwrap_or s.sessions most_sessions

-- how many of so many workers share the sessions: as many as may be served at once, or all if there are fewer
abbrev pub sharers : Serving → ℕ → ℕ
sharers s workers = min s.at_once workers
