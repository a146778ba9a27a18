use Rattle.std.proofs.Common.{◌≡◌, ℕ, min, suc, List, Some, ap, subst, ◌∙◌, add-one}
use Rattle.outside.specs.Views.{FolderView, entropy_in, folder_in}
use Rattle.tree_model.specs.declared.reply.Reply.{Reply}
use Rattle.tree_model.specs.Asked.{plain_request}
use Rattle.store_laws.specs.Store.{StoreView, bounded, number_limit}
use Rattle.vault_store.specs.declared.store.Store.TheInside.{Inside}
use Rattle.vault_store.specs.Open.{OpenVault, store_in}
use Rattle.vault_store.proofs.Serving.{AfterServing, IsSameLeft, IsServed, served_as, served_reply, served_broken, served_stopped}
use Rattle.vault_store.proofs.store.Store.serve.Given.{Over}
use Rattle.vault_store.proofs.store.Store.serve.Goals as goal
use Rattle.vault_store.proofs.store.Store.serve.Goals.{in-Some, in-None+in-Ok, in-None+in-Err}

-- the reply, and what serving left
abbrev left_by : (g : Over) → goal.After-self-2-1 g → AfterServing
left_by g c = record {
  store = store_in c.match-self.self-inside.vault c.saturating_add-self-inside.result c.match-self.self-inside.stopped;
  folder = folder_in g.D.Reads c.match-self.self-inside.vault.folder;
  source = entropy_in g.E.Entropy c.match-self.entropy;
  reply = c.match-self.reply;
  buffer = c.match-self.buffer;
}

-- what was left, by what the vault's answer left, after which the entry was counted
left_is : (g : Over) (c : goal.After-self-2-1 g) (inside : Inside g.row.D.Denot) {entropy : g.row.E.Denot} {reply : Reply} {buffer : List ℕ}
    → c.match-self.self-inside ≡ inside → c.match-self.entropy ≡ entropy → c.match-self.reply ≡ reply → c.match-self.buffer ≡ buffer
    → IsSameLeft (left_by g c) (record {
      store = store_in inside.vault (bounded (suc inside.entries)) inside.stopped;
      folder = folder_in g.D.Reads inside.vault.folder;
      source = entropy_in g.E.Entropy entropy;
      reply = reply;
      buffer = buffer;
    })
left_is g c inside inside_is entropy_is reply_is buffer_is = record {
  store = ap (λ (n : ℕ). store_in c.match-self.self-inside.vault n c.match-self.self-inside.stopped)
      (c.saturating_add-self-inside.ensures ∙ ap (λ (n : ℕ). min n number_limit) (add-one c.match-self.self-inside.entries))
      ∙ ap (λ (i : Inside g.row.D.Denot). store_in i.vault (bounded (suc i.entries)) i.stopped) inside_is;
  folder = ap (λ (i : Inside g.row.D.Denot). folder_in g.D.Reads i.vault.folder) inside_is;
  source = ap (λ (e : g.row.E.Denot). entropy_in g.E.Entropy e) entropy_is;
  reply = reply_is;
  buffer = buffer_is;
}

-- what was served, of a store and a folder that were so before
abbrev Serves : (g : Over) → goal.After-self-2-1 g → StoreView → FolderView → Type 0
Serves g c old before =
    IsServed old before (entropy_in g.E.Entropy c.args.entropy.now) (plain_request c.args.request.now) c.args.now c.args.buffer.now
    (left_by g c)

served_inside : (g : Over) (c : goal.After-self-2-1 g) → Serves g c (store_in c.self.inside.vault c.self.inside.entries c.self.inside.stopped) (folder_in g.D.Reads c.self.inside.vault.folder)
served_inside g c =
    elim c.match-self.branch [
      | in-Some w ↦ served_as (left_is g c c.self.inside w.self-inside-is w.entropy-is w.reply-is w.buffer-is) (served_stopped w.in-Some.is)
      | in-None+in-Ok w ↦
          let inside : Inside g.row.D.Denot = record { vault = w.answer.new.self; entries = c.self.inside.entries; stopped = c.self.inside.stopped } in
          served_as (left_is g c inside w.self-inside-is w.entropy-is w.reply-is w.buffer-is)
          (rw w.in-None.is (served_reply (w.in-Ok.ensures.outcome c.self.inside.entries)))
      | in-None+in-Err w ↦
          let inside : Inside g.row.D.Denot = record { vault = w.answer.new.self; entries = c.self.inside.entries; stopped = Some c.self.inside.entries } in
          served_as (left_is g c inside w.self-inside-is w.entropy-is w.reply-is w.buffer-is)
          (rw w.in-None.is (served_broken (w.in-Err.ensures.outcome c.self.inside.entries)))
    ]

served : (g : Over) (c : goal.After-self-2-1 g) → Serves g c c.args.self.now.store (folder_in g.D.Reads c.args.self.now.folder)
served g c = subst (λ (v : OpenVault g.row.D.Denot). Serves g c v.store (folder_in g.D.Reads v.folder)) c.self.view_is (served_inside g c)

pub returns-clause-entry : goal.returns-clause-entry
returns-clause-entry g c = (served g c).entry

pub returns-clause-formed : goal.returns-clause-formed
returns-clause-formed g c = (served g c).formed
