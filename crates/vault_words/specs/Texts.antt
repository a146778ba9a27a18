-- What `--help` and `--version` print.
use Rattle.std.specs.Prelude.{ℕ, List, ◌++◌, codes}
use Rattle.vault_words.specs.declared.job.Topic.{Topic}
use Rattle.vault_words.specs.declared.job.Topic.TheVariants.{Program, Serve, Make, Demo, Sync, Recover}

abbrev pub help : List ℕ
help =
    codes "Serves a Cryptomator vault over 9P2000\n"
    ++ codes "\n"
    ++ codes "Usage: vaultd <COMMAND>\n"
    ++ codes "\n"
    ++ codes "Commands:\n"
    ++ codes "  serve    Serves the vault in a folder\n"
    ++ codes "  make     Makes a vault in an empty folder\n"
    ++ codes "  demo     Serves a vault in memory to clients that send drawn requests\n"
    ++ codes "  sync     Has a running server put on disk what was written\n"
    ++ codes "  recover  Shows what the open journal of a vault holds, or closes it\n"
    ++ codes "  help     Prints this, or the help of a command\n"
    ++ codes "\n"
    ++ codes "Options:\n"
    ++ codes "  -h, --help     Print help\n"
    ++ codes "  -V, --version  Print version\n"
    ++ codes "\n"
    ++ codes "Examples:\n"
    ++ codes "  vaultd make DIR --passfile FILE\n"
    ++ codes "  vaultd serve DIR --listen unix:PATH --passfile FILE\n"
    ++ codes "  vaultd serve DIR --listen 127.0.0.1:564 --read-only <FILE\n"
    ++ codes "\n"
    ++ codes "Exit status:\n"
    ++ codes "  0   the vault was served, made, synced or recovered, the demonstration held, or help or the version printed\n"
    ++ codes "  1   the words are bad\n"
    ++ codes "  2   the secret is no password or no two keys, or the wrong one\n"
    ++ codes "  3   the vault is refused\n"
    ++ codes "  4   input, output or the random source failed, or DIR does not exist\n"
    ++ codes "  5   out of memory\n"
    ++ codes "  6   the journal of the vault is damaged\n"
    ++ codes "  7   the address can't be listened on, or the listener failed\n"
    ++ codes "  8   the folder of a new vault isn't empty\n"
    ++ codes "  14  the vault is in use\n"
    ++ codes "  15  the journal is open, so that the vault can't be served read-only\n"

abbrev pub serve_help : List ℕ
serve_help =
    codes "Serves the vault in a folder\n"
    ++ codes "\n"
    ++ codes "Usage: vaultd serve [OPTIONS] --listen <ADDR> <DIR>\n"
    ++ codes "\n"
    ++ codes "Arguments:\n"
    ++ codes "  <DIR>  The folder of the vault\n"
    ++ codes "\n"
    ++ codes "Options:\n"
    ++ codes "      --listen <ADDR>    Where clients connect: HOST:PORT, unix:PATH, or - for one on the standard streams\n"
    ++ codes "      --sessions <N>     Ends after N sessions, 1 to 1000000; without it serves until it is stopped\n"
    ++ codes "      --at-once <M>      Serves so many sessions at once, 1 to 64 [default: 8]\n"
    ++ codes "      --idle <SECONDS>   Ends a session in which nothing came for so long, up to 1000000; 0 is never [default: 0]\n"
    ++ codes "      --read-only        Changes nothing in DIR, and refuses each request that would\n"
    ++ codes "      --raw-key          Takes 128 hexadecimal digits for the secret: the encryption key and the MAC key\n"
    ++ codes "      --passfile <FILE>  Takes the secret from the first line of FILE, not of standard input\n"
    ++ codes "  -q, --quiet            Writes nothing but faults on standard error\n"
    ++ codes "  -v, --verbose...       Writes each session on standard error too, and given twice the names of files\n"
    ++ codes "  -h, --help             Print help\n"

abbrev pub make_help : List ℕ
make_help =
    codes "Makes a vault in an empty folder\n"
    ++ codes "\n"
    ++ codes "Usage: vaultd make [OPTIONS] <DIR>\n"
    ++ codes "\n"
    ++ codes "Arguments:\n"
    ++ codes "  <DIR>  An empty folder, which becomes the vault's\n"
    ++ codes "\n"
    ++ codes "Options:\n"
    ++ codes "      --passfile <FILE>  Takes the password from the first line of FILE, not of standard input\n"
    ++ codes "  -h, --help             Print help\n"

abbrev pub demo_help : List ℕ
demo_help =
    codes "Serves a vault in memory to clients that send drawn requests\n"
    ++ codes "\n"
    ++ codes "Usage: vaultd demo --seed <S> --clients <M> --requests <R>\n"
    ++ codes "\n"
    ++ codes "Options:\n"
    ++ codes "      --seed <S>      The number that the requests are drawn from, below 2^64\n"
    ++ codes "      --clients <M>   So many clients at once, 1 to 64\n"
    ++ codes "      --requests <R>  So many requests of each client, up to 100000\n"
    ++ codes "  -h, --help          Print help\n"

abbrev pub sync_help : List ℕ
sync_help =
    codes "Has a running server put on disk what was written\n"
    ++ codes "\n"
    ++ codes "Usage: vaultd sync <ADDR>\n"
    ++ codes "\n"
    ++ codes "Arguments:\n"
    ++ codes "  <ADDR>  Where the server listens: HOST:PORT or unix:PATH\n"
    ++ codes "\n"
    ++ codes "Options:\n"
    ++ codes "  -h, --help  Print help\n"

abbrev pub recover_help : List ℕ
recover_help =
    codes "Shows what the open journal of a vault holds, or closes it\n"
    ++ codes "\n"
    ++ codes "Usage: vaultd recover [OPTIONS] <DIR>\n"
    ++ codes "\n"
    ++ codes "Arguments:\n"
    ++ codes "  <DIR>  The folder of the vault\n"
    ++ codes "\n"
    ++ codes "Options:\n"
    ++ codes "      --skip     Makes the changes that fit DIR, leaves out the others, and closes the journal\n"
    ++ codes "      --discard  Renames the journal to served.journal.1, or the next number that is free\n"
    ++ codes "  -h, --help     Print help\n"

abbrev pub help_of : Topic → List ℕ
help_of Program = help
help_of Serve = serve_help
help_of Make = make_help
help_of Demo = demo_help
help_of Sync = sync_help
help_of Recover = recover_help

abbrev pub version : List ℕ
version = codes "vaultd 1.0.0\n"
