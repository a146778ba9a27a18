-- What words ask for.
use Rattle.std.specs.Prelude.{◌≡◌, ◌⊎◌, ◌==◌, ℕ, List, [], ◌∷◌, Bool, false, Option, Some, None}
use Rattle.std.specs.Prelude.{option_map, option_and_then, codes, if◌then◌else◌}
use Rattle.std.specs.Option.{option_map_or}
use Rattle.std.specs.Str.{bytes_eq}
use Rattle.clap.specs.Words.{Row, Text, IsAmong, count_of, fault_of, first_of, subcommand_of}
use Rattle.clap.specs.declared.error.kind.ErrorKind.{ErrorKind}
use Rattle.clap.specs.declared.error.kind.ErrorKind.TheVariants as kind
use Rattle.vault_words.specs.Command.{vaultd}
use Rattle.vault_words.specs.Numbers.{number_in}
use Rattle.vault_words.specs.declared.job.Topic.{Topic}
use Rattle.vault_words.specs.declared.job.Topic.TheVariants as topic
use Rattle.vault_words.specs.declared.job.Way.{Way}
use Rattle.vault_words.specs.declared.job.Way.TheVariants.{Show, Skip, Discard}
use Rattle.vault_words.specs.declared.job.Verbosity.{Verbosity}
use Rattle.vault_words.specs.declared.job.Verbosity.TheVariants.{Quiet, Usual, Verbose, VeryVerbose}

-- `serve`: the vault's folder, the address to listen on, how many sessions there are (None: until it is stopped), how many of them at
-- once, whether the secret is two keys, whether nothing is changed, the file of the secret (None: standard input), the seconds after
-- which a client that sends nothing is cut off (0: never), and how much is written on standard error
pub record Serving : Type 0 where
  pub dir : Text
  pub address : Text
  pub sessions : Option ℕ
  pub at_once : ℕ
  pub raw_key : Bool
  pub read_only : Bool
  pub passfile : Option Text
  pub idle : ℕ
  pub verbosity : Verbosity

-- `make`: the folder, and the file of the password (None: standard input)
pub record Making : Type 0 where
  pub dir : Text
  pub passfile : Option Text

-- `demo`
pub record Demonstration : Type 0 where
  pub seed : ℕ
  pub clients : ℕ
  pub requests : ℕ

-- `recover`: the vault's folder, and what becomes of the changes that its open journal holds
pub record Recovering : Type 0 where
  pub dir : Text
  pub way : Way

-- `sync` has the address of a server
pub data Job : Type 0 where
  serve : Serving → Job
  make : Making → Job
  demo : Demonstration → Job
  sync : Text → Job
  recover : Recovering → Job
  help : Topic → Job
  version : Job

-- ---- the job of a command's matches

abbrev pub number_at : Text → ℕ → ℕ → List Row → Option ℕ
number_at id least most rows = option_and_then (number_in least most) (first_of id rows)

-- from 1 to 1,000,000 sessions, and no count of them if nothing is said
abbrev pub sessions_in : List Row → Option (Option ℕ)
sessions_in rows = option_map_or (λ text. option_map Some (number_in 1 1000000 text)) (first_of (codes "sessions") rows) (Some None)

-- a flag is given
abbrev pub has_flag : Text → List Row → Bool
has_flag id rows = option_map_or (λ text. bytes_eq text (codes "true")) (first_of id rows) false

-- `-v` once, or more often
abbrev pub verbosity_of_count : ℕ → Verbosity
verbosity_of_count count = if count == 0 then Usual else if count == 1 then Verbose else VeryVerbose

-- not both `-q` and `-v`
abbrev pub verbosity_of : Bool → ℕ → Option Verbosity
verbosity_of quiet count = if quiet then (if count == 0 then Some Quiet else None) else Some (verbosity_of_count count)

abbrev pub verbosity_in : List Row → Option Verbosity
verbosity_in rows = verbosity_of (has_flag (codes "quiet") rows) (count_of (codes "verbose") rows)

abbrev pub serving_in : List Row → Option Serving
serving_in rows =
    option_and_then (λ dir. option_and_then (λ address. option_and_then (λ sessions. option_and_then (λ at_once. option_and_then (λ idle.
    option_map (λ verbosity. record {
      dir = dir;
      address = address;
      sessions = sessions;
      at_once = at_once;
      raw_key = has_flag (codes "raw-key") rows;
      read_only = has_flag (codes "read-only") rows;
      passfile = first_of (codes "passfile") rows;
      idle = idle;
      verbosity = verbosity;
    }) (verbosity_in rows)) (number_at (codes "idle") 0 1000000 rows)) (number_at (codes "at-once") 1 64 rows)) (sessions_in rows))
    (first_of (codes "listen") rows)) (first_of (codes "dir") rows)

abbrev pub making_in : List Row → Option Making
making_in rows = option_map (λ dir. record { dir = dir; passfile = first_of (codes "passfile") rows }) (first_of (codes "dir") rows)

abbrev pub demonstration_in : List Row → Option Demonstration
demonstration_in rows =
    option_and_then (λ seed. option_and_then (λ clients. option_map (λ requests. record { seed = seed; clients = clients; requests = requests })
    (number_at (codes "requests") 0 100000 rows)) (number_at (codes "clients") 1 64 rows)) (number_at (codes "seed") 0 18446744073709551615 rows)

-- not both `--skip` and `--discard`
abbrev pub way_of : Bool → Bool → Option Way
way_of skip discard = if skip then (if discard then None else Some Skip) else if discard then Some Discard else Some Show

abbrev pub way_in : List Row → Option Way
way_in rows = way_of (has_flag (codes "skip") rows) (has_flag (codes "discard") rows)

abbrev pub recovering_in : List Row → Option Recovering
recovering_in rows = option_and_then (λ dir. option_map (λ way. record { dir = dir; way = way }) (way_in rows)) (first_of (codes "dir") rows)

-- the command of this name has help of its own
abbrev pub topic_named : Text → Option Topic
topic_named name =
    if bytes_eq name (codes "serve") then Some topic.Serve
    else if bytes_eq name (codes "make") then Some topic.Make
    else if bytes_eq name (codes "demo") then Some topic.Demo
    else if bytes_eq name (codes "sync") then Some topic.Sync
    else if bytes_eq name (codes "recover") then Some topic.Recover
    else None

-- `help` alone is of the program
abbrev pub topic_in : List Row → Option Topic
topic_in rows = option_map_or topic_named (first_of (codes "command") rows) (Some topic.Program)

abbrev pub job_named : Text → List Row → Option Job
job_named name rows =
    if bytes_eq name (codes "serve") then option_map serve (serving_in rows)
    else if bytes_eq name (codes "make") then option_map make (making_in rows)
    else if bytes_eq name (codes "demo") then option_map demo (demonstration_in rows)
    else if bytes_eq name (codes "sync") then option_map sync (first_of (codes "address") rows)
    else if bytes_eq name (codes "recover") then option_map recover (recovering_in rows)
    else if bytes_eq name (codes "help") then option_map help (topic_in rows)
    else None

abbrev pub job_in : Option (Text × List Row) → Option Job
job_in found = option_and_then (λ command. job_named command.0 command.1) found

-- ---- the job of words

-- `--help` is of the command that the first word names, or of the program: no option of the program's own comes before a command
abbrev pub topic_at : List Text → Topic
topic_at [] = topic.Program
topic_at (word ∷ rest) = option_map_or (λ t. t) (topic_named word) topic.Program

abbrev pub IsRequest : ErrorKind → Type 0
IsRequest k = (k ≡ kind.DisplayHelp) ⊎ (k ≡ kind.DisplayVersion)

-- clap takes the words, and what it finds in them is the job
abbrev pub IsTaken : Job → List Text → Type 0
IsTaken job words = (fault_of vaultd words ≡ []) × (job_in (subcommand_of vaultd words) ≡ Some job)

-- clap takes the words, or answers them with help or the version
abbrev pub AsksFor : Job → List Text → Type 0
AsksFor (help t) words = (IsAmong kind.DisplayHelp (fault_of vaultd words) × (t ≡ topic_at words)) ⊎ IsTaken (help t) words
AsksFor version words = IsAmong kind.DisplayVersion (fault_of vaultd words)
AsksFor (serve s) words = IsTaken (serve s) words
AsksFor (make m) words = IsTaken (make m) words
AsksFor (demo d) words = IsTaken (demo d) words
AsksFor (sync address) words = IsTaken (sync address) words
AsksFor (recover r) words = IsTaken (recover r) words

-- the words ask for some job
abbrev pub AskForSome : List Text → Type 0
AskForSome words = (job : Job) × AsksFor job words

-- clap refuses the words, by a kind that is no request for help or the version; or it takes them, and they name no job: a number is out of
-- form or range, `-q` and `-v` are both given, or `--skip` and `--discard` are, or `help` is asked about what is no command
abbrev pub IsRefused : List Text → Type 0
IsRefused words =
    ((k : ErrorKind) × IsAmong k (fault_of vaultd words) × (IsRequest k → ⊥))
    ⊎ ((fault_of vaultd words ≡ []) × (job_in (subcommand_of vaultd words) ≡ None))
