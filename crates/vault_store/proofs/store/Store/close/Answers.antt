use Rattle.std.proofs.Common.{◌≡◌, [], IsNone, OnOk, Result, sym, ap, subst, ◌∙◌}
use Rattle.outside.specs.Calls.{Changes}
use Rattle.outside.specs.Views.{folder_in}
use Rattle.outside.specs.declared.stream.Failed.{Failed}
use Rattle.chunk_journal.specs.Journal.{AnyMoment}
use Rattle.node_changes.specs.declared.tree.VaultTree.{VaultTree}
use Rattle.store_laws.specs.Turns.{IsFlushed}
use Rattle.vault_store.specs.Open.{OpenVault, idle_of, store_in, view_of}
use Rattle.vault_store.proofs.Closing.{flushed_view, never_ok, never_runs, ok_always}
use Rattle.vault_store.proofs.store.Store.close.Goals as goal
use Rattle.vault_store.proofs.store.Store.close.Goals.{in-None+in-Ok, in-None+in-Err, in-Some}

pub returns-clause-idle : goal.returns-clause-idle
returns-clause-idle g c =
    let inside = c.self.inside in
    let same : c.match-stopped.vault.tree ≡ inside.vault.tree = elim c.match-stopped.branch [
      | in-None+in-Ok w ↦ ap (λ v. v.tree) w.vault-is ∙ w.in-Ok.ensures.tree
      | in-None+in-Err w ↦ ap (λ v. v.tree) w.vault-is ∙ w.in-Err.ensures.tree
      | in-Some w ↦ ap (λ v. v.tree) w.vault-is
    ] in
    subst (λ (v : OpenVault g.row.D.Denot). c.new-closed.result.store ≡ idle_of v.store) c.self.view_is
    (c.new-closed.ensures.store ∙ ap (λ (tree : VaultTree). view_of tree [] inside.entries inside.stopped) (c.into_parts-folder.ensures.tree ∙ same))

pub returns-clause-flushed : goal.returns-clause-flushed
returns-clause-flushed g c =
    let inside = c.self.inside in
    let before = folder_in g.D.Reads inside.vault.folder in
    let after = folder_in g.D.Reads c.into_parts-folder.result.0 in
    let store = store_in inside.vault inside.entries inside.stopped in
    subst (λ (v : OpenVault g.row.D.Denot). IsNone v.store.stopped → OnOk c.new-closed.result.committed (IsFlushed v.store (idle_of v.store) (folder_in g.D.Reads v.folder) (folder_in g.D.Reads c.into_parts-folder.result.0))) c.self.view_is
    (λ runs. subst (λ (r : Result _ Failed). OnOk r (IsFlushed store (idle_of store) before after)) (sym c.new-closed.ensures.committed) (elim c.match-stopped.branch [
      | in-None+in-Ok w ↦
          ok_always c.match-stopped.committed (IsFlushed store (idle_of store) before after)
          (flushed_view inside.vault.tree w.flush.new.self.tree inside.vault.waiting inside.entries inside.stopped before (folder_in g.D.Reads w.flush.new.self.folder) after w.in-Ok.ensures.tree w.in-None.is
          (ap (λ (d : g.row.D.Denot). folder_in g.D.Reads d) (c.into_parts-folder.ensures.folder ∙ ap (λ v. v.folder) w.vault-is)) (w.in-Ok.ensures.flushed inside.entries))
      | in-None+in-Err w ↦ never_ok c.match-stopped.committed _ (IsFlushed store (idle_of store) before after) w.committed-is
      | in-Some w ↦ never_ok c.match-stopped.committed _ (IsFlushed store (idle_of store) before after) w.committed-is
    ]))

pub returns-clause-moments : goal.returns-clause-moments
returns-clause-moments g c =
    let inside = c.self.inside in
    let before = folder_in g.D.Reads inside.vault.folder in
    subst (λ (v : OpenVault g.row.D.Denot). IsNone v.store.stopped → Changes (g.D.Reads.log v.folder) (g.D.Reads.log c.into_parts-folder.result.0) (AnyMoment v.store.waiting)) c.self.view_is
    (λ runs. elim c.match-stopped.branch [
      | in-None+in-Ok w ↦
          subst (λ (d : g.row.D.Denot). Changes before.log (g.D.Reads.log d) (AnyMoment inside.vault.waiting)) (sym (c.into_parts-folder.ensures.folder ∙ ap (λ v. v.folder) w.vault-is))
          (w.in-Ok.ensures.flushed inside.entries).any_moment
      | in-None+in-Err w ↦
          subst (λ (d : g.row.D.Denot). Changes before.log (g.D.Reads.log d) (AnyMoment inside.vault.waiting)) (sym (c.into_parts-folder.ensures.folder ∙ ap (λ v. v.folder) w.vault-is))
          w.in-Err.ensures.failed
      | in-Some w ↦ absurd (never_runs inside.stopped _ w.in-Some.is runs)
    ])
