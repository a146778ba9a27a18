-- Batches that can be done again on whatever a stop left of them, beside the journal's two files.
use Rattle.std.specs.Prelude.{◌≡◌, ◌≢◌, ℕ, List, [], ◌∷◌, refl}
use Rattle.outside.specs.Disk.{Path}
use Rattle.vault_layout.specs.Names.{journal_file as journal_text, new_journal_file as new_journal_text}
use Rattle.deeds.specs.Deeds.{PlainDeed, AreApart, Unnamed}

-- the journal's file
pub journal_name : List ℕ
journal_name = journal_text

-- where the first one is made
pub new_name : List ℕ
new_name = new_journal_text

pub names_apart : new_name ≢ journal_name
unfolding journal_name new_name
names_apart e = cc

abbrev pub journal_file : Path
journal_file = journal_name ∷ []

abbrev pub new_file : Path
new_file = new_name ∷ []

-- the names are the format's, and both are paths
pub journal_spelled : journal_name ≡ journal_text
unfolding journal_name
journal_spelled = refl

pub new_spelled : new_name ≡ new_journal_text
unfolding new_name
new_spelled = refl

-- no path is named by two deeds, and none of the journal's by any
pub record IsRepeatable (deeds : List PlainDeed) : Type 0 where
  pub apart : AreApart deeds
  pub beside_journal : Unnamed journal_file deeds
  pub beside_new : Unnamed new_file deeds
