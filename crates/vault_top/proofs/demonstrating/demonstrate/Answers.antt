use Rattle.std.proofs.Common.{◌≡◌, ◌∙◌, ℕ, List, [], length, min, Some, sym, ap, subst, arith}
use Rattle.std.proofs.lemmas.List.FromFn.{length-map-range_with_len}
use Rattle.std.proofs.lemmas.Result.{IfOk-weaker}
use Rattle.outside_mem.specs.Links.{Links}
use Rattle.outside_mem.specs.Streams.{Left}
use Rattle.outside_mem.specs.Words.{Drawing}
use Rattle.demonstration.specs.Objects.{key_line}
use Rattle.masterkey_file.specs.Password.{line_of}
use Rattle.vault_store.specs.Open.{ClosedVault}
use Rattle.unlocking.specs.Secret.{raw_keys}
use Rattle.unlocking.specs.declared.from_folder.SecretKind.TheVariants.{RawKeys}
use Rattle.shared_tree.specs.declared.workers.Worker.{Worker}
use Rattle.vault_top.specs.Span.{course, source_in, span_of}
use Rattle.vault_top.specs.Sessions.{IsServedWhole}
use Rattle.vault_top.specs.Demonstrated.{HasHeld, own_views, worker_of}
use Rattle.vault_top.specs.Serving.{SumsUpKept}
use Rattle.vault_top.proofs.Demonstrations.{done_as}
use Rattle.vault_top.proofs.demonstrating.demonstrate.Goals as goal

pub hold_sessions-kept-requires-clause-some : goal.hold_sessions-kept-requires-clause-some
hold_sessions-kept-requires-clause-some g c κs within =
    let scripts = c.args.scripts in
    let some = c.requires.0 in
    let many = length-map-range_with_len (worker_of scripts.seed scripts.requests) 0 scripts.clients in
    let are = ap (λ (workers : List (Worker Links Drawing ℕ)). length workers) c.in_ok-workers.ensures in
    let ok = c.in_ok-workers.workers.ok in
    omega arith

pub hold_sessions-kept-requires-clause-start : goal.hold_sessions-kept-requires-clause-start
hold_sessions-kept-requires-clause-start g c κs within = record { all = λ rows origin h. h; only = λ rows origin h. h }

pub hold_sessions-kept-requires-clause-since : goal.hold_sessions-kept-requires-clause-since
hold_sessions-kept-requires-clause-since g c κs within = record { all = λ start keys rows h. h; only = λ start keys rows h. h }

pub returns-in-Some : goal.returns-in-Some
returns-in-Some g c = IfOk-weaker c.sum_up.result (SumsUpKept c.args.scripts c.in_ok-keys.keys c.in-Some.kept) _
    (λ left summed d are.
    let secret = course (λ (s : Left). record { left = Some s.left; faults = s.plan.faults }) c.new-secret.result c.hold_sessions-kept.new.secret in
    let folder = c.in_ok-folder.folder in
    let kept = c.in-Some.kept in
    let workers = c.in_ok-workers.workers.items in
    let workers' = c.hold_sessions-kept.new.workers.items in
    let scripts = c.args.scripts in
    let line : c.new-secret.result.left ≡ key_line scripts.seed = ap (λ (s : Left). s.left) c.new-secret.ensures ∙ c.in_ok-line.ensures in
    let faults : c.new-secret.result.plan.faults ≡ 0 = ap (λ (s : Left). s.plan.faults) c.new-secret.ensures in
    let held = done_as d scripts kept left.line.items are (record {
      secret = secret;
      folder = folder;
      workers = workers;
      workers' = workers';
      keys = c.in_ok-keys.keys;
      secret_is = λ i. record { left = Some (line i); faults = faults i };
      keys_are = subst (λ (bytes : List ℕ). raw_keys (line_of bytes) ≡ Some c.in_ok-keys.keys) (c.deref.ensures.value ∙ c.in_ok-line.ensures) c.in_ok-keys.ensures;
      empty = c.in_ok-folder.ensures;
      workers_are = c.in_ok-workers.ensures;
      whole = subst (λ (second : ℕ). IsServedWhole own_views (span_of own_views [] secret (Some second) folder kept.folder workers workers' (Some kept.store)) RawKeys scripts.clients (min scripts.clients (length workers)) kept.store.store.entries)
          c.new.ensures (c.in-Some.ensures.whole []);
      sums = summed.line_is;
    }) in
    (held.text, held.is, subst (λ (closed : ClosedVault). HasHeld d held.text closed) (sym summed.store_is) held.held)) c.sum_up.ensures
