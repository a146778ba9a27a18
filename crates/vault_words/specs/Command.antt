-- The program's command, as clap takes it.
use Rattle.std.specs.Prelude.{ℕ, [], ◌∷◌, true, Some, codes}
use Rattle.clap.specs.Words.{App, Rule, Text, new_app, new_rule, with_rule, with_subcommand}
use Rattle.clap.specs.declared.builder.action.ArgAction.TheVariants.{Count, SetTrue}

-- a word by its place: one that may be there, and one that must be, as `DIR`
abbrev pub word : Text → Rule
word name = record (new_rule name) { value_names = 1 }

abbrev pub required_word : Text → Rule
required_word name = record (new_rule name) { value_names = 1; required = true }

-- `--NAME VALUE`, with a value that may be there, one that is `value` if nothing is said, and one that must be there
abbrev pub option : Text → Rule
option name = record (new_rule name) { long = Some name; value_names = 1 }

abbrev pub option_or : Text → Text → Rule
option_or value name = record (new_rule name) { long = Some name; value_names = 1; defaults = value ∷ [] }

abbrev pub required_option : Text → Rule
required_option name = record (new_rule name) { long = Some name; value_names = 1; required = true }

-- `--NAME`, with a letter too, and one that is counted
abbrev pub flag : Text → Rule
flag name = record (new_rule name) { long = Some name; action = Some SetTrue }

abbrev pub short_flag : ℕ → Text → Rule
short_flag letter name = record (new_rule name) { short = Some letter; long = Some name; action = Some SetTrue }

abbrev pub counted_flag : ℕ → Text → Rule
counted_flag letter name = record (new_rule name) { short = Some letter; long = Some name; action = Some Count }

-- the commands
abbrev pub serve_with_places : App
serve_with_places = with_rule (with_rule (new_app (codes "serve")) (required_word (codes "dir"))) (required_option (codes "listen"))

abbrev pub serve_with_numbers : App
serve_with_numbers =
    with_rule (with_rule (with_rule serve_with_places (option (codes "sessions"))) (option_or (codes "8") (codes "at-once")))
    (option_or (codes "0") (codes "idle"))

abbrev pub serve_with_secret : App
serve_with_secret =
    with_rule (with_rule (with_rule serve_with_numbers (flag (codes "read-only"))) (flag (codes "raw-key"))) (option (codes "passfile"))

abbrev pub serve : App
serve = with_rule (with_rule serve_with_secret (short_flag 113 (codes "quiet"))) (counted_flag 118 (codes "verbose"))

abbrev pub make : App
make = with_rule (with_rule (new_app (codes "make")) (required_word (codes "dir"))) (option (codes "passfile"))

abbrev pub demo : App
demo =
    with_rule (with_rule (with_rule (new_app (codes "demo")) (required_option (codes "seed"))) (required_option (codes "clients")))
    (required_option (codes "requests"))

abbrev pub sync : App
sync = with_rule (new_app (codes "sync")) (required_word (codes "address"))

abbrev pub recover : App
recover = with_rule (with_rule (with_rule (new_app (codes "recover")) (required_word (codes "dir"))) (flag (codes "skip"))) (flag (codes "discard"))

abbrev pub help_alone : App
help_alone = record (new_app (codes "help")) { top = record (new_app (codes "help")).top { disable_help_flag = true } }

abbrev pub help : App
help = with_rule help_alone (word (codes "command"))

-- The words are those after the program's name, and one of the commands is wanted. `help` is one of them, and not clap's own: of that,
-- clap's definitions leave open whether it answers or refuses.
abbrev pub bare : App
bare = record (new_app (codes "vaultd")) {
  top = record (new_app (codes "vaultd")).top { no_binary_name = true; has_version = true; disable_help_subcommand = true; subcommand_required = true };
}

abbrev pub with_serve : App
with_serve = with_subcommand bare serve.top

abbrev pub with_make : App
with_make = with_subcommand with_serve make.top

abbrev pub with_demo : App
with_demo = with_subcommand with_make demo.top

abbrev pub with_sync : App
with_sync = with_subcommand with_demo sync.top

abbrev pub with_recover : App
with_recover = with_subcommand with_sync recover.top

unfoldable pub vaultd : App
vaultd = with_subcommand with_recover help.top
