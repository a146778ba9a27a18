use Rattle.std.proofs.Common.{◌≡◌, [], codes, sym, ◌∙◌, inl, inr}
use Rattle.std.proofs.lemmas.Bool.{false≢true}
use Rattle.std.proofs.lemmas.Result.{IfOk-weaker}
use Rattle.std.proofs.lemmas.Slice.Eq.{bytes_eq-Decides}
use Rattle.vaultd.proofs.starting.serve.Goals as goal

pub returns-then-eq : goal.returns-then-eq
returns-then-eq g c =
    let address = c.args.serving.now.address.now in
    let is : address ≡ codes "-" = (bytes_eq-Decides address (codes "-")).0 (sym c.eq.ensures ∙ c.if-eq.true) in
    IfOk-weaker c.serve_unreported.result _ _ (λ started run. inl (is, run)) c.serve_unreported.ensures

pub returns-then-eq-2 : goal.returns-then-eq-2
returns-then-eq-2 g c =
    let address = c.args.serving.now.address.now in
    let is : address ≡ [] = (bytes_eq-Decides address []).0 (sym c.eq-else-eq.ensures ∙ c.if-eq-2.true) in
    IfOk-weaker c.run_alone.result _ _ (λ started run. inr (inl (is, run))) c.run_alone.ensures

pub returns-else-eq-2 : goal.returns-else-eq-2
returns-else-eq-2 g c =
    let address = c.args.serving.now.address.now in
    let isnt : address ≡ codes "-" → ⊥ = λ e. false≢true (sym c.if-eq.false ∙ c.eq.ensures ∙ (bytes_eq-Decides address (codes "-")).1 e) in
    let some : address ≡ [] → ⊥ = λ e. false≢true (sym c.if-eq-2.false ∙ c.eq-else-eq.ensures ∙ (bytes_eq-Decides address []).1 e) in
    IfOk-weaker c.serve_at.result _ _ (λ started run. inr (inr (isnt, some, run))) c.serve_at.ensures
