-- A step that answers no refusal: its deeds lead to the disk of a tree, and its rows have that tree's shape.
use Rattle.std.proofs.Common.{◌≡◌, ◌≢◌, ◌==◌, ℕ, Bool, true, false, cond, List, ◌∷◌, Option, Some, None, is_some, Result, Ok, refl, sym, ap, ◌∙◌, subst, true≢false}
use Rattle.std.specs.Option.{option_map_or}
use Rattle.std.proofs.lemmas.Bool.{cond-false}
use Rattle.tree_model.specs.declared.refusal.Refusal.{Refusal}
use Rattle.tree_model.specs.declared.refusal.Refusal.TheVariants as refusals
use Rattle.tree_model.specs.Names.{NameFault, clear_name}
use Rattle.tree_model.specs.Rows.{Kind, dir, file, link, bad, Row, Rows, root, row_of, child_of, qid_of}
use Rattle.tree_model.specs.Asked.{PlainChange, PlainReply, PlainRequest, create, remove, change, qid, done, refused}
use Rattle.tree_model.specs.Step.{Stepped, stepped, says, refuses, step, early, work, is_held, is_full, is_bad, new_row, with_new, new_length, create_named, rename_step, place_step, change_refusal, change_dir, set_row, with_mtime}
use Rattle.tree_model.proofs.Steps.{step_at}
use Rattle.clear_tree.specs.Walk.{Node, Bad}
use Rattle.clear_tree.specs.Rows.{kind_of}
use Rattle.clear_tree.specs.Kept.{what_of}
use Rattle.tree_deed_laws.specs.Deeds.{place_of, create_file_deeds, create_dir_deeds, remove_deeds, rename_deeds}
use Rattle.tree_deed_laws.specs.Shapes.{HasNode, Follows, StepMakesFile, StepMakesDirectory, StepRemoves, StepRenames}
use Rattle.tree_deed_laws.proofs.Shapes.{file_follows, directory_follows, removal_follows, rename_follows}

-- if the answer is no refusal, nothing refuses it
answered : (rows : Rows) (o : Option Refusal) (w : Stepped) (q : PlainReply) → ((f : Refusal) → refused f ≢ q)
    → (option_map_or (λ f. stepped rows (refuses f)) o w).answer.reply ≡ q → (o ≡ None) × (w.answer.reply ≡ q)
answered rows None w q ne h = (refl, h)
answered rows (Some f) w q ne h = absurd (ne f h)

chosen : (b : Bool) (u w : Stepped) (q : PlainReply) → u.answer.reply ≢ q → (cond b u w).answer.reply ≡ q → (b ≡ false) × (w.answer.reply ≡ q)
chosen true u w q ne h = absurd (ne h)
chosen false u w q ne h = (refl, h)

none_is : {A : Type 0} (o : Option A) → is_some o ≡ false → o ≡ None
none_is None h = refl
none_is (Some x) h = absurd (true≢false h)

-- the step's rows if nothing refuses the request before its work
worked : (rows : Rows) (row : Row) (request : PlainRequest) (now : ℕ) (w : Stepped) → step rows request now ≡ option_map_or (λ f. stepped rows (refuses f)) (early rows row request) w
    → early rows row request ≡ None → step rows request now ≡ w
worked rows row request now w is none = is ∙ ap (λ (o : Option Refusal). option_map_or (λ f. stepped rows (refuses f)) o w) none

-- ---- creating
module _ (rows : Rows) (parent : Row) (n : List ℕ) (is_dir : Bool) (now : ℕ) where
  made : Stepped
  made = stepped (with_new rows (new_row rows parent n is_dir now) now) (says (qid (qid_of (new_row rows parent n is_dir now))))

  creates : (q : PlainReply) → ((f : Refusal) → refused f ≢ q) → (create_named rows parent (Ok n) is_dir now).answer.reply ≡ q
      → (child_of rows parent.number n ≡ None) × ((create_named rows parent (Ok n) is_dir now).rows ≡ with_new rows (new_row rows parent n is_dir now) now)
  unfolding made
  creates q ne h =
      let a = chosen (is_some (child_of rows parent.number n)) (stepped rows (refuses refusals.FileExists)) (cond (is_full rows) (stepped rows (refuses refusals.VaultFull)) made) q (ne refusals.FileExists) h in
      let b = chosen (is_full rows) (stepped rows (refuses refusals.VaultFull)) made q (ne refusals.VaultFull) a.1 in (
        none_is (child_of rows parent.number n) a.0,
        ap (λ (w : Stepped). w.rows) (cond-false (is_some (child_of rows parent.number n)) _ _ a.0 ∙ cond-false (is_full rows) _ _ b.0),
      )

module _ (rows : Rows) (parent : Row) (name n : List ℕ) (is_dir : Bool) (number mode now : ℕ) (q : PlainReply) (ne : (f : Refusal) → refused f ≢ q)
    (there : row_of rows number ≡ Some parent) (clear : clear_name name ≡ Ok n)
    (answer : (step rows (create number name is_dir mode) now).answer.reply ≡ q) where
  abbrev request : PlainRequest
  request = create number name is_dir mode

  step_is : step rows request now ≡ option_map_or (λ f. stepped rows (refuses f)) (early rows parent request) (create_named rows parent (Ok n) is_dir now)
  step_is = step_at rows request now parent there
      ∙ ap (λ (r : Result (List ℕ) NameFault). option_map_or (λ f. stepped rows (refuses f)) (early rows parent request) (create_named rows parent r is_dir now)) clear

  free_and_rows : (child_of rows parent.number n ≡ None) × ((step rows request now).rows ≡ with_new rows (new_row rows parent n is_dir now) now)
  free_and_rows =
      let a = answered rows (early rows parent request) (create_named rows parent (Ok n) is_dir now) q ne (ap (λ (w : Stepped). w.answer.reply) (sym step_is) ∙ answer) in
      let b = creates rows parent n is_dir now q ne a.1 in
      (b.0, ap (λ (w : Stepped). w.rows) (worked rows parent request now _ step_is a.0) ∙ b.1)

pub step_makes_file : StepMakesFile
step_makes_file s d tree rows parent p i n name header long number mode now q texts is shape there at_p dir_at clear answer place empty =
    subst (λ (r : Rows). Follows s d (create_file_deeds (place_of s i n long) (s.seal i n) header) r) (sym both.1) (file_follows s d tree rows parent p i n header long now texts is shape at_p dir_at both.0 place empty)
  where
    both : (child_of rows parent.number n ≡ None) × ((step rows (create number name false mode) now).rows ≡ with_new rows (new_row rows parent n false now) now)
    both = free_and_rows rows parent name n false number mode now (qid q) (λ f h. cc) there clear answer

pub step_makes_directory : StepMakesDirectory
step_makes_directory s d tree rows parent p i n name t long number mode now q texts is shape there at_p dir_at clear answer place valid =
    subst (λ (r : Rows). Follows s d (create_dir_deeds (place_of s i n long) (s.seal i n) (s.folder_of t) t) r) (sym both.1) (directory_follows s d tree rows parent p i n t long now texts is shape at_p dir_at both.0 place valid)
  where
    both : (child_of rows parent.number n ≡ None) × ((step rows (create number name true mode) now).rows ≡ with_new rows (new_row rows parent n true now) now)
    both = free_and_rows rows parent name n true number mode now (qid q) (λ f h. cc) there clear answer

-- ---- removing

pub step_removes : StepRemoves
step_removes s d tree rows row p i n x number now texts is shape there at_it at_p at_x answer =
    subst (λ (r : Rows). Follows s d (remove_deeds (place_of s i n (tree.long (n ∷ p))) (what_of s x)) r) (sym (ap (λ (w : Stepped). w.rows) (worked rows row (remove number) now _ (step_at rows (remove number) now row there) free.0)))
    (removal_follows s d tree rows row p i n x now texts is shape at_it at_p at_x free.0)
  where
    free : (early rows row (remove number) ≡ None) × ((work rows row (remove number) now).answer.reply ≡ done)
    free = answered rows (early rows row (remove number)) (work rows row (remove number) now) done (λ f h. cc)
        (ap (λ (w : Stepped). w.answer.reply) (sym (step_at rows (remove number) now row there)) ∙ answer)

-- ---- renaming

not_bad : (k : Kind) (r : Option Refusal) → cond (is_bad k) (Some refusals.Damaged) r ≡ None → k ≢ bad
not_bad bad r h e = absurd (cc)
not_bad dir r h e = cc
not_bad file r h e = cc
not_bad link r h e = cc

module _ (rows : Rows) (row : Row) (c : PlainChange) (k : List ℕ) (now : ℕ) (below : row.number ≢ root) where
  abbrev renamed : Rows
  renamed = set_row (change_dir rows row.parent now) (with_mtime c (record row { name = k }))

  abbrev by_root : Stepped
  by_root = cond (row.number == root) (stepped rows (refuses refusals.NotPermitted)) (rename_step rows row c (Ok k) now)

  renames : by_root.answer.reply ≡ done → (child_of rows row.parent k ≡ None) × (is_held rows row ≡ false) × (by_root.rows ≡ renamed)
  renames h =
      let a = chosen (row.number == root) (stepped rows (refuses refusals.NotPermitted)) (rename_step rows row c (Ok k) now) done (λ e. cc) h in
      let b = chosen (is_some (child_of rows row.parent k)) (stepped rows (refuses refusals.FileExists)) (cond (is_held rows row) (stepped rows (refuses refusals.Foreign)) (stepped renamed (says done))) done (λ e. cc) a.1 in
      let d = chosen (is_held rows row) (stepped rows (refuses refusals.Foreign)) (stepped renamed (says done)) done (λ e. cc) b.1 in (
        none_is (child_of rows row.parent k) b.0,
        d.0,
        ap (λ (w : Stepped). w.rows) (cond-false (row.number == root) _ _ a.0 ∙ cond-false (is_some (child_of rows row.parent k)) _ _ b.0 ∙ cond-false (is_held rows row) _ _ d.0),
      )

pub step_renames : StepRenames
step_renames s d tree rows row p i n k name x long number now c texts is shape there at_it at_p at_x other no_length clear answer place =
    subst (λ (r : Rows). Follows s d (rename_deeds (place_of s i n (tree.long (n ∷ p))) (place_of s i k long) (s.seal i k) (what_of s x)) r) (sym (ap (λ (w : Stepped). w.rows) (worked rows row (change number c) now _ step_is free.0) ∙ both.2))
    (rename_follows s d tree rows row p i n k x long c now texts is shape at_it at_p at_x good both.0 both.1 place)
  where
    step_is : step rows (change number c) now ≡ option_map_or (λ f. stepped rows (refuses f)) (change_refusal row c) (by_root rows row c k now at_it.2.below)
    step_is = step_at rows (change number c) now row there
        ∙ ap (λ (o : Option (List ℕ)). option_map_or (λ f. stepped rows (refuses f)) (change_refusal row c) (place_step rows row c o (new_length row c) now)) other
        ∙ ap (λ (o : Option ℕ). option_map_or (λ f. stepped rows (refuses f)) (change_refusal row c) (place_step rows row c (Some name) o now)) no_length
        ∙ ap (λ (r : Result (List ℕ) NameFault). option_map_or (λ f. stepped rows (refuses f)) (change_refusal row c)
        (cond (row.number == root) (stepped rows (refuses refusals.NotPermitted)) (rename_step rows row c r now))) clear

    free : (change_refusal row c ≡ None) × ((by_root rows row c k now at_it.2.below).answer.reply ≡ done)
    free = answered rows (change_refusal row c) (by_root rows row c k now at_it.2.below) done (λ f h. cc) (ap (λ (w : Stepped). w.answer.reply) (sym step_is) ∙ answer)

    both : (child_of rows row.parent k ≡ None) × (is_held rows row ≡ false) × ((by_root rows row c k now at_it.2.below).rows ≡ set_row (change_dir rows row.parent now) (with_mtime c (record row { name = k })))
    both = renames rows row c k now at_it.2.below free.1

    good : (t : List ℕ) → x ≢ Bad t
    good t e = go (shape.nodes_of (n ∷ p) row at_it)
      where
        go : HasNode s tree (n ∷ p) row → ⊥
        go r =
            let w : ◌≡◌ {A = Option Node} (Some r.node) (Some (Bad t)) = sym r.at ∙ at_x ∙ ap (λ (z : Node). Some z) e in
            let same : r.node ≡ Bad t = cc in
            not_bad row.kind _ free.0 (r.shown.kind ∙ ap kind_of same)
