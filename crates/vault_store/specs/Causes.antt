-- The errors of loading and of a journal as those of opening.
use Rattle.chunk_journal.specs.declared.fault.JournalErr.{JournalErr}
use Rattle.chunk_journal.specs.declared.fault.JournalErr.TheVariants as journal
use Rattle.tree_loading.specs.declared.load_fault.LoadErr.{LoadErr}
use Rattle.tree_loading.specs.declared.load_fault.LoadErr.TheVariants as loading
use Rattle.vault_store.specs.declared.opening.OpenErr.{OpenErr}
use Rattle.vault_store.specs.declared.opening.OpenErr.TheVariants.{Device, JournalDamaged, TooMany, NoRoot, Memory}

abbrev pub of_loading : LoadErr → OpenErr
of_loading loading.Device = Device
of_loading (loading.TooMany n) = TooMany n
of_loading loading.NoRoot = NoRoot
of_loading loading.Memory = Memory

abbrev pub of_journal : JournalErr → OpenErr
of_journal journal.Device = Device
of_journal (journal.JournalDamaged at) = JournalDamaged at
of_journal journal.Memory = Memory
