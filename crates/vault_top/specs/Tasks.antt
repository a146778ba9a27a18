-- Jobs as the code does them.
use Rattle.std.specs.Prelude.{◌≡◌, ◌<◌, ◌≤◌, ◌^◌, List, ⊤}
use Rattle.clap.specs.Words.{Text}
use Rattle.vault_words.specs.Jobs.{Job, Making, Serving, Demonstration, serve, make, demo, sync, recover, help, version}
use Rattle.vault_words.specs.declared.job.WordsErr.{WordsErr}
use Rattle.vault_words.specs.declared.job.WordsErr.TheVariants.{Refused, Memory}
use Rattle.vault_top.specs.Words.{Ask, AreRefused, kind_of, sessions_of}
use Rattle.vault_top.specs.declared.task.Service.{Service}
use Rattle.vault_top.specs.declared.task.Scripts.{Scripts}
use Rattle.vault_top.specs.declared.task.Task.{Task}
use Rattle.vault_top.specs.declared.task.Task.TheVariants.{Serve, Make, Demo, Help, Version}

-- what is served is what the words say
pub record IsServiceOf (s : Serving) (service : Service) : Type 0 where
  pub kind : service.kind ≡ kind_of s
  pub sessions : service.sessions ≡ sessions_of s
  pub at_once : service.at_once ≡ s.at_once
  pub read_only : service.read_only ≡ s.read_only

-- the scripts that are served are those that the words say
pub record AreScriptsOf (d : Demonstration) (scripts : Scripts) : Type 0 where
  pub seed : scripts.seed ≡ d.seed
  pub clients : scripts.clients ≡ d.clients
  pub requests : scripts.requests ≡ d.requests

-- the numbers of a job are within their bounds
abbrev pub IsWithin : Job → Type 0
IsWithin (serve s) = (sessions_of s < 2 ^ 32) × (s.at_once ≤ 64)
IsWithin (make m) = ⊤
IsWithin (demo d) = (1 ≤ d.clients) × (d.clients ≤ 64) × (d.requests ≤ 100000)
IsWithin (sync address) = ⊤
IsWithin (recover r) = ⊤
IsWithin (help topic) = ⊤
IsWithin version = ⊤

-- the scripts are a demonstration's, of 1 to 64 clients
pub record AreForClients (d : Demonstration) (scripts : Scripts) : Type 0 where
  pub are : AreScriptsOf d scripts
  pub some : 1 ≤ scripts.clients
  pub few : scripts.clients ≤ 64

-- the task is this job's
abbrev pub IsTaskOf : Job → Task → Type 0
IsTaskOf (serve s) task = (service : Service) × (task ≡ Serve service) × IsServiceOf s service
IsTaskOf (make m) task = task ≡ Make
IsTaskOf (demo d) task = (scripts : Scripts) × (task ≡ Demo scripts) × AreForClients d scripts
IsTaskOf (sync address) task = ⊥
IsTaskOf (recover r) task = ⊥
IsTaskOf (help topic) task = task ≡ Help topic
IsTaskOf version task = task ≡ Version

-- what the words ask for is this task
abbrev pub AskTask : List Text → Task → Type 0
AskTask words (Serve service) = (s : Serving) × Ask words (serve s) × IsServiceOf s service
AskTask words Make = (m : Making) × Ask words (make m)
AskTask words (Demo scripts) = (d : Demonstration) × Ask words (demo d) × AreForClients d scripts
AskTask words (Help topic) = Ask words (help topic)
AskTask words Version = Ask words version

-- why the words give no task
abbrev pub IsWordsCause : List Text → WordsErr → Type 0
IsWordsCause words Refused = AreRefused words
IsWordsCause words Memory = ⊤
