-- The names of a vault's files and folders: those of Cryptomator's vault format 8, and of the journal beside them.
use Rattle.std.specs.Prelude.{ℕ, List, codes}

-- ---- at the top of the vault's folder
-- the two keys, each wrapped under a password
abbrev pub masterkey_file : List ℕ
masterkey_file = codes "masterkey.cryptomator"

-- the format and the threshold, signed
abbrev pub vault_file : List ℕ
vault_file = codes "vault.cryptomator"

-- where a new one is written before it takes its place
abbrev pub new_vault_file : List ℕ
new_vault_file = codes "vault.cryptomator.new"

abbrev pub journal_file : List ℕ
journal_file = codes "served.journal"

-- where the first one is written before it takes its place
abbrev pub new_journal_file : List ℕ
new_journal_file = codes "served.journal.new"

-- below it are the folders of all directories
abbrev pub folders : List ℕ
folders = codes "d"

-- ---- in the folder of a node
-- the identifier of a directory
abbrev pub directory_file : List ℕ
directory_file = codes "dir.c9r"

-- the sealed target of a link
abbrev pub link_file : List ℕ
link_file = codes "symlink.c9r"

-- the sealed contents of a file at its long place
abbrev pub contents_file : List ℕ
contents_file = codes "contents.c9r"

-- the sealed name of a node at its long place
abbrev pub name_file : List ℕ
name_file = codes "name.c9s"

-- ---- in the folder of a directory
-- the sealed copy of its identifier
abbrev pub identifier_copy : List ℕ
identifier_copy = codes "dirid.c9r"
