-- Words that ask for a job that the program does ask for nothing else, and aren't refused.
use Rattle.std.proofs.Common.{◌≡◌, List, subst, inl, inr}
use Rattle.clap.specs.Words.{Text}
use Rattle.vault_words.specs.Jobs.{Job, AsksFor}
use Rattle.vault_words.proofs.OneThing as words
use Rattle.vault_top.specs.Words.{Ask, AreRefused, IsOffered}

pub one_job : (asked : List Text) (job other : Job) → Ask asked job → AsksFor other asked → other ≡ job
one_job asked job other is asks = words.one_job asked other job asks is.asks

pub not_refused : (asked : List Text) (job : Job) → Ask asked job → AreRefused asked → ⊥
not_refused asked job is (inl refused) = words.never_refused asked job is.asks refused
not_refused asked job is (inr by) = by.2 (subst IsOffered (words.one_job asked job by.0 is.asks by.1) is.offered)
