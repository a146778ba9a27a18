use Rattle.std.proofs.Common.{◌≡◌, List, ℕ, [], ◌∷◌, ◌++◌, Bool, true, false, refl, sym, ap, ◌∙◌}
use Rattle.std.specs.Prelude.{IsTrue, not}
use Rattle.std.specs.Bool.{Decides}
use Rattle.std.proofs.lemmas.Bool.{false≢true}
use Rattle.std.proofs.lemmas.List.{append_cancel_left}
use Rattle.std.proofs.lemmas.Slice.Eq.{bytes_eq-Decides}
use Rattle.batch_looks.proofs.named.differs.Goals as goal

not_decides : (r p : Bool) (P Q : Type 0) → r ≡ not p → Decides p P → (P → Q) → (Q → P) → (IsTrue r → Q → ⊥) × ((Q → ⊥) → IsTrue r)
not_decides r true P Q is same to from = (λ t q. false≢true (sym is ∙ t), λ n. absurd (n (to (same.0 refl))))
not_decides r false P Q is same to from = (λ t q. false≢true (same.1 (from q)), λ n. is)

same_last : (path folder name entry : List (List ℕ)) → path ≡ folder ++ name → folder ++ entry ≡ path → name ≡ entry
same_last path folder name entry is e = sym (append_cancel_left folder entry name (e ∙ is))

same_name : (a b : List ℕ) → ◌≡◌ {A = List (List ℕ)} (a ∷ []) (b ∷ []) → a ≡ b
same_name a b e = cc

pub returns-in-Some : goal.returns-in-Some
returns-in-Some c =
    let path = c.args.path.now in
    let folder = c.args.folder.now in
    let name = c.in-Some.name.now in
    let entry = c.args.entry.now in
    not_decides c.ne.result _ (name ≡ entry) (folder ++ entry ∷ [] ≡ path) c.ne.ensures (bytes_eq-Decides name entry)
    (λ e. ap (λ (n : List ℕ). folder ++ n ∷ []) (sym e) ∙ sym c.in-Some.ensures)
    (λ e. same_name name entry (same_last path folder (name ∷ []) (entry ∷ []) c.in-Some.ensures e))
