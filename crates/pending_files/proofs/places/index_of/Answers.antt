use Rattle.std.proofs.Common.{◌≡◌, ◌+◌, ℕ, suc, true, false, List, ◌∷◌, drop, refl, sym, subst, ap, ◌∙◌, arith}
use Rattle.vault_path.specs.declared.path.VaultPath.{VaultPath}
use Rattle.outside.specs.Disk.{Path}
use Rattle.std.specs.declared.vec.Vec.{Vec}
use Rattle.std.specs.declared.alloc.Global.{Global}
use Rattle.deeds.specs.declared.writes.Range.{Range}
use Rattle.deeds.specs.declared.deed.Deed.{Deed}
use Rattle.deeds.specs.declared.deed.Deed.TheVariants.{MakeDir, Put, Rename, Remove, RemoveDir, Reshape}
use Rattle.deeds.specs.Plain.{plain, plains}
use Rattle.deeds.proofs.Doing.{split_at}
use Rattle.pending_files.specs.Pending.{is_at, file_of}
use Rattle.pending_files.specs.Kept.{IsIndexOf}
use Rattle.pending_files.proofs.Files.{file_there}
use Rattle.pending_files.proofs.places.index_of.Goals as goal
use Rattle.pending_files.proofs.places.index_of.Goals.{in-Reshape+else-eq, in_default}

other_deed : (path : Path) (x : Deed) → ((p : VaultPath) (n : ℕ) (r : Vec Range Global) → x ≡ Reshape p n r → ⊥) → is_at path (plain x) ≡ false
other_deed path (Reshape p n r) other = absurd (other p n r refl)
other_deed path (MakeDir p) other = refl
other_deed path (Put p bytes) other = refl
other_deed path (Rename from to) other = refl
other_deed path (Remove p) other = refl
other_deed path (RemoveDir p) other = refl

pub returns-then-eq : goal.returns-then-eq
returns-then-eq c =
    let s = c.args.deeds.now in
    let i = c.loop-index.index in
    let x = c.index-deeds-index.result in
    let split : drop i s ≡ x ∷ drop (i + 1) s = split_at s i x (omega arith) c.index-deeds-index.is in
    let at : is_at c.args.path.now (plain x) ≡ true = ap (λ (d : Deed). is_at c.args.path.now (plain d)) c.in-Reshape.is ∙ sym c.eq.ensures ∙ c.if-eq.true in
    let e : i + 0 ≡ i = omega arith in
    subst (IsIndexOf c.args.path.now (plains s)) e (c.loop-index.invariant.found 0 (subst (λ (l : List Deed). IsIndexOf c.args.path.now (plains l) 0) (sym split) at))

pub loop-index-preserved : goal.loop-index-preserved
loop-index-preserved c =
    let s = c.args.deeds.now in
    let i = c.loop-index.index in
    let x = c.index-deeds-index.result in
    let split : drop i s ≡ x ∷ drop (i + 1) s = split_at s i x (omega arith) c.index-deeds-index.is in
    let not_at : is_at c.args.path.now (plain x) ≡ false = elim c.match-deed.branch [
      | in-Reshape+else-eq w ↦ ap (λ (d : Deed). is_at c.args.path.now (plain d)) w.in-Reshape.is ∙ sym w.eq.ensures ∙ w.if-eq.false
      | in_default w ↦ other_deed c.args.path.now x w.in_default.not-Reshape
    ] in
    record {
      same = sym (file_there c.args.path.now (plain x) (plains (drop (i + 1) s)) not_at)
          ∙ ap (λ (l : List Deed). file_of c.args.path.now (plains l)) (sym split) ∙ c.loop-index.invariant.same;
      found = λ k is.
          let e : i + suc k ≡ i + 1 + k = omega arith in
          subst (IsIndexOf c.args.path.now (plains s)) e (c.loop-index.invariant.found (suc k) (subst (λ (l : List Deed). IsIndexOf c.args.path.now (plains l) (suc k)) (sym split) (not_at, is)));
    }
