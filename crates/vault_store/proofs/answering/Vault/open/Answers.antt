use Rattle.std.proofs.Common.{◌≡◌, Err, Option, None, refl, sym, ap, subst, ◌∙◌, inl, inr, arith}
use Rattle.outside.specs.Calls.{Changes, Told}
use Rattle.outside.specs.Disk.{Disk, IsFolder}
use Rattle.outside.specs.Images.{Log, disk_in, now}
use Rattle.outside.specs.Views.{folder_in}
use Rattle.outside.proofs.Told.{changed_by}
use Rattle.chunk_journal.specs.Opening.{HasOpened, IsOpening, StaysOpening}
use Rattle.clear_tree.specs.Kept.{IsKept}
use Rattle.tree_loading.specs.Clear.{HasTooMany, root_folder}
use Rattle.vault_store.specs.declared.opening.OpenErr.{OpenErr}
use Rattle.tree_loading.specs.Format.{sealing_of}
use Rattle.node_changes.specs.Changed.{IsAtRest}
use Rattle.store_laws.proofs.Openings.{openings_stand}
use Rattle.vault_store.specs.Open.{view_of}
use Rattle.vault_store.proofs.Loads.{loaded_rests}
use Rattle.vault_store.proofs.Rests.{rests_idle}
use Rattle.vault_store.proofs.answering.Vault.open.Goals as goal

pub returns-in-Ok-load_tree-clause-made : goal.returns-in-Ok-load_tree-clause-made
returns-in-Ok-load_tree-clause-made g c =
    let before = folder_in g.D.Reads c.args.folder in
    let after = folder_in g.D.Reads c.new-in-Ok-load_tree.result.folder in
    let is = c.in-Ok-load_tree.ensures.loaded in
    let same : g.D.Reads.log c.in-Ok-open.journal ≡ after.log = sym c.in-Ok-load_tree.ensures.log ∙ ap g.D.Reads.log (sym c.new-in-Ok-load_tree.ensures.folder) in (
      is.kept,
      record {
        keys_are = is.keys_are;
        live = is.live;
        claims = is.claims;
        none = refl;
        idle = c.new-in-Ok-load_tree.ensures.waiting;
        running = refl;
        opened = subst (λ (l : Option Log). Changes before.log l HasOpened) same c.in-Ok-open.ensures.opened;
        any_moment = subst (λ (l : Option Log). Changes before.log l IsOpening) same c.in-Ok-open.ensures.any_moment;
        loaded = subst (λ (l : Option Log). Told l (λ log. IsKept (sealing_of c.args.keys.now) (now log) is.kept)) same is.loaded;
        few = is.few;
      },
    )

pub returns-in-Ok-load_tree-clause-opened : goal.returns-in-Ok-load_tree-clause-opened
returns-in-Ok-load_tree-clause-opened g c =
    let made = returns-in-Ok-load_tree-clause-made g c in
    let after = folder_in g.D.Reads c.new-in-Ok-load_tree.result.folder in
    let store = view_of c.in-Ok-load_tree.tree c.new-in-Ok-load_tree.result.waiting 0 None in
    record {
      opened = openings_stand (folder_in g.D.Reads c.args.folder) after c.args.keys.now c.args.now made.0 store made.1;
      threshold_is = c.in-Ok-load_tree.ensures.loaded.threshold_is;
      later = omega (arith, c.in-Ok-open.ensures.later, c.in-Ok-load_tree.ensures.cause.later, ap g.D.Reads.faults c.new-in-Ok-load_tree.ensures.folder);
    }

pub returns-in-Ok-load_tree-clause-rest : goal.returns-in-Ok-load_tree-clause-rest
returns-in-Ok-load_tree-clause-rest g c =
    let tree = c.in-Ok-load_tree.tree in
    let back = c.new-in-Ok-load_tree.result in
    rests_idle (sealing_of tree.keys) tree.live tree.claims back.waiting (g.D.Reads.log back.folder) c.new-in-Ok-load_tree.ensures.waiting
    (subst (λ (d : g.row.D.Denot). Told (g.D.Reads.log d) (IsAtRest (sealing_of tree.keys) tree.live tree.claims)) (sym c.new-in-Ok-load_tree.ensures.folder)
    (loaded_rests (g.D.Reads.log c.args.folder) (g.D.Reads.log c.in-Ok-open.journal) (g.D.Reads.log c.load_tree.new.from) c.args.keys.now c.args.now c.args.threshold tree
    c.in-Ok-open.ensures.opened c.in-Ok-load_tree.ensures.log c.in-Ok-load_tree.ensures.loaded))

pub returns-in-Err-load_tree-clause-refused : goal.returns-in-Err-load_tree-clause-refused
returns-in-Err-load_tree-clause-refused g c =
    let same : g.D.Reads.log c.in-Ok-open.journal ≡ g.D.Reads.log c.into_folder.result = sym c.in-Err-load_tree.ensures.log ∙ ap g.D.Reads.log (sym c.into_folder.ensures) in
    let moved = ap g.D.Reads.faults c.into_folder.ensures in
    record {
      damaged = λ at is. absurd (c.in-Err-load_tree.ensures.damaged at (ap (λ (e : OpenErr). Err e) is));
      left = λ at is. absurd (c.in-Err-load_tree.ensures.damaged at (ap (λ (e : OpenErr). Err e) is));
      too_many = λ n is. (
        subst (λ (l : Option Log). Changes (g.D.Reads.log c.args.folder) l HasOpened) same c.in-Ok-open.ensures.opened,
        subst (λ (l : Option Log). HasTooMany c.args.keys.now (disk_in l) n) same (c.in-Err-load_tree.ensures.too_many n (ap (λ (e : OpenErr). Err e) is)),
      );
      no_root = λ is. (
        subst (λ (l : Option Log). Changes (g.D.Reads.log c.args.folder) l HasOpened) same c.in-Ok-open.ensures.opened,
        subst (λ (l : Option Log). Told (disk_in l) (λ (d : Disk). ¬ (IsFolder d (root_folder c.args.keys.now)))) same (c.in-Err-load_tree.ensures.no_root (ap (λ (e : OpenErr). Err e) is)),
      );
      refused = changed_by (g.D.Reads.log c.args.folder) (g.D.Reads.log c.into_folder.result) IsOpening StaysOpening (λ a b is. inr is)
          (subst (λ (l : Option Log). Changes (g.D.Reads.log c.args.folder) l IsOpening) same c.in-Ok-open.ensures.any_moment);
      cause = record {
        later = omega (arith, c.in-Ok-open.ensures.later, c.in-Err-load_tree.ensures.cause.later, moved);
        rose = λ is. elim (c.in-Err-load_tree.ensures.cause.rose (ap (λ (e : OpenErr). Err e) is)) [
          | inl less ↦ inl (omega (arith, c.in-Ok-open.ensures.later, less, moved))
          | inr full ↦ inr (moved ∙ full)
        ];
      };
    }
