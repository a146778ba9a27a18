-- Words ask for one thing, as the kinds of an error agree on a request.
use Rattle.std.proofs.Common.{◌≡◌, ◌⊎◌, true, List, [], inl, inr, refl, ap, subst}
use Rattle.clap.specs.Simple.{built}
use Rattle.clap.specs.Words.{IsAmong, Text, fault_of}
use Rattle.clap.specs.Kinds.{Kinds}
use Rattle.clap.specs.declared.error.kind.ErrorKind.{ErrorKind}
use Rattle.clap.specs.declared.error.kind.ErrorKind.TheVariants as kind
use Rattle.vault_words.specs.Command.{vaultd}
use Rattle.vault_words.specs.Jobs.{AsksFor, IsRefused, IsTaken, Job, demo, help, make, recover, serve, sync, topic_at, version}
use Rattle.vault_words.proofs.OneKind.{OneKind, one_kind-fault_of}

vaultd_disables_help : (built vaultd).top.disable_help_subcommand ≡ true
unfolding vaultd
vaultd_disables_help = refl

one_kind : (words : List Text) → OneKind (fault_of vaultd words)
one_kind words = one_kind-fault_of vaultd words vaultd_disables_help

-- words that clap takes fail by no kind
none_among : (k : ErrorKind) (kinds : Kinds) → kinds ≡ [] → IsAmong k kinds → ⊥
none_among k kinds none among = subst (IsAmong k) none among

-- what words ask for is help, the version, or a job of words that clap takes
abbrev Asked : List Text → Job → Type 0
Asked words job =
    ((job ≡ help (topic_at words)) × IsAmong kind.DisplayHelp (fault_of vaultd words))
    ⊎ (((job ≡ version) × IsAmong kind.DisplayVersion (fault_of vaultd words)) ⊎ IsTaken job words)

asked : (words : List Text) (job : Job) → AsksFor job words → Asked words job
asked words (help t) (inl h) = inl (ap help h.1, h.0)
asked words (help t) (inr h) = inr (inr h)
asked words version h = inr (inl (refl, h))
asked words (serve s) h = inr (inr h)
asked words (make m) h = inr (inr h)
asked words (demo d) h = inr (inr h)
asked words (sync address) h = inr (inr h)
asked words (recover r) h = inr (inr h)

-- help and the version are not both among the kinds
not_both : (words : List Text) → IsAmong kind.DisplayHelp (fault_of vaultd words) → IsAmong kind.DisplayVersion (fault_of vaultd words) → ⊥
not_both words h v = let same = one_kind words kind.DisplayHelp kind.DisplayVersion h v (inl refl) in cc

one_of : (words : List Text) (job other : Job) → Asked words job → Asked words other → job ≡ other
one_of words job other (inl a) (inl b) = cc
one_of words job other (inl a) (inr (inl b)) = absurd (not_both words a.1 b.1)
one_of words job other (inl a) (inr (inr b)) = absurd (none_among kind.DisplayHelp (fault_of vaultd words) b.0 a.1)
one_of words job other (inr (inl a)) (inl b) = absurd (not_both words b.1 a.1)
one_of words job other (inr (inl a)) (inr (inl b)) = cc
one_of words job other (inr (inl a)) (inr (inr b)) = absurd (none_among kind.DisplayVersion (fault_of vaultd words) b.0 a.1)
one_of words job other (inr (inr a)) (inl b) = absurd (none_among kind.DisplayHelp (fault_of vaultd words) a.0 b.1)
one_of words job other (inr (inr a)) (inr (inl b)) = absurd (none_among kind.DisplayVersion (fault_of vaultd words) a.0 b.1)
one_of words job other (inr (inr a)) (inr (inr b)) = cc

-- a kind beside help would be help, which is no refusal
not_both_ways : (words : List Text) (job : Job) → Asked words job → IsRefused words → ⊥
not_both_ways words job (inl a) (inl r) = r.2 (inl (one_kind words kind.DisplayHelp r.0 a.1 r.1 (inl refl)))
not_both_ways words job (inl a) (inr r) = none_among kind.DisplayHelp (fault_of vaultd words) r.0 a.1
not_both_ways words job (inr (inl a)) (inl r) = r.2 (inr (one_kind words kind.DisplayVersion r.0 a.1 r.1 (inr refl)))
not_both_ways words job (inr (inl a)) (inr r) = none_among kind.DisplayVersion (fault_of vaultd words) r.0 a.1
not_both_ways words job (inr (inr a)) (inl r) = none_among r.0 (fault_of vaultd words) a.0 r.1
not_both_ways words job (inr (inr a)) (inr r) = cc

pub one_job : (words : List Text) (job other : Job) → AsksFor job words → AsksFor other words → job ≡ other
one_job words job other a b = one_of words job other (asked words job a) (asked words other b)

pub never_refused : (words : List Text) (job : Job) → AsksFor job words → IsRefused words → ⊥
never_refused words job a r = not_both_ways words job (asked words job a) r
