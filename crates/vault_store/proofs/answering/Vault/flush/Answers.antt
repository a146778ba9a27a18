use Rattle.std.proofs.Common.{Err, ap, refl, sym, subst}
use Rattle.tree_loading.specs.Format.{sealing_of}
use Rattle.vault_store.specs.Open.{IsResting, VaultView}
use Rattle.vault_store.proofs.Rests.{rest_quiet, rests_flushed}
use Rattle.vault_store.proofs.answering.Vault.flush.Goals as goal
use Rattle.vault_store.proofs.answering.Vault.flush.Goals.{in-Ok, in-Err-Device, in-Err-Dropped}

pub flush-requires : goal.flush-requires
flush-requires g c =
    let rest = subst (λ (v : VaultView g.row.D.Denot). IsResting g.D.Reads v) (sym c.self.view_is) c.requires.rest in
    let tree = c.self.inside.tree in
    let back = c.self.inside.back in
    record { quiet = rest_quiet (sealing_of tree.keys) tree.live tree.claims back.waiting (g.D.Reads.log back.folder) rest }

pub returns-clause-flushed : goal.returns-clause-flushed
returns-clause-flushed g c =
    rw (← c.self.view_is) (elim c.match-flush.branch [
      | in-Ok w ↦
          rw w.result-is (λ entries. record {
            running = refl;
            new_is = refl;
            faults = w.in-Ok.ensures.cause.later;
            committed = w.in-Ok.ensures.committed;
            any_moment = w.in-Ok.ensures.any_moment;
          })
      | in-Err-Device w ↦ rw w.result-is tt
      | in-Err-Dropped w ↦ rw w.result-is tt
    ])

pub returns-clause-dropped : goal.returns-clause-dropped
returns-clause-dropped g c =
    rw (← c.self.view_is) (elim c.match-flush.branch [
      | in-Ok w ↦ rw w.result-is (λ no. absurd cc)
      | in-Err-Device w ↦ rw w.result-is (λ no. absurd cc)
      | in-Err-Dropped w ↦ rw w.result-is (λ is. w.in-Err-Dropped.ensures.dropped (ap Err w.in-Err-Dropped.field-0-is))
    ])

pub returns-clause-rest : goal.returns-clause-rest
returns-clause-rest g c =
    let rest = subst (λ (v : VaultView g.row.D.Denot). IsResting g.D.Reads v) (sym c.self.view_is) c.requires.rest in
    let tree = c.self.inside.tree in
    let back = c.self.inside.back in
    elim c.match-flush.branch [
      | in-Ok w ↦
          rw w.result-is (record {
            none = c.flush.ensures.none;
            rest = rests_flushed (sealing_of tree.keys) tree.live tree.claims back.waiting (g.D.Reads.log back.folder) (g.D.Reads.log c.flush.new.self.folder) rest w.in-Ok.ensures.committed;
          })
      | in-Err-Device w ↦ rw w.result-is tt
      | in-Err-Dropped w ↦ rw w.result-is tt
    ]
