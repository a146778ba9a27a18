use Rattle.std.proofs.Common.{Bool, List, ℕ, ◌++◌, Option, Some, None, refl, sym, subst, ◌∙◌, append_assoc}
use Rattle.std.proofs.lemmas.Result.{err_from_is_err_and}
use Rattle.outside.specs.Calls.{Rose, Told}
use Rattle.outside.specs.Images.{disk_in}
use Rattle.outside.proofs.Told.{changed_by, told_always}
use Rattle.deeds.specs.Plain.{plains}
use Rattle.deeds.proofs.Phases.{rose_before}
use Rattle.tree_model.specs.Asked.{create, qid}
use Rattle.tree_model.specs.Step.{says}
use Rattle.tree_loading.specs.Format.{sealing_of}
use Rattle.name_places.specs.declared.directory.NewDirectory.{NewDirectory}
use Rattle.name_places.specs.Asked.{IsTaken}
use Rattle.name_places.specs.Asked.{identifier_in as drawn_in}
use Rattle.node_changes.specs.Placed.{GoesOn, IsIdentifierOf}
use Rattle.node_changes.specs.Creating.{DrawsHead, DrawsIf, IsPlaceRefusal, IsRefusal, IsUntaken, MakesOn, new_qid}
use Rattle.node_changes.proofs.Draws.{no_draw, file_draw, drew_directory, found_taken, own_folder, directory_drawn, header_drawn, head_changes, header_partly, cause_more, site_refused, random_refused, misfit_refused, place_refused, untaken}
use Rattle.node_changes.proofs.Misfits.{misfit_cause}
use Rattle.node_changes.proofs.Makings.{asked_of}
use Rattle.node_changes.proofs.tree.VaultTree.make.Goals as goal

pub returns-in_err-site-clause-refused : goal.returns-in_err-site-clause-refused
returns-in_err-site-clause-refused g c = λ mode.
    let old = c.args.self.now in
    let s = sealing_of c.args.self.now.keys in
    let asked = create c.args.parent c.args.name.now c.args.is_dir mode in
    let drew = g.E.Entropy.drawn c.args.entropy.now in
    let p = err_from_is_err_and c.from_residual.result c.from_residual.ensures.1 in
    rw (p.1, p.2) (record {
      drawn = None;
      draw = no_draw c.args.is_dir drew drew refl;
      refused = told_always (disk_in (g.R.Reads.log c.args.folder.now)) (IsRefusal s asked c.args.now None c.in_err-site.field-0.0 old.live old.claims)
          (site_refused s old.live old.claims c.args.parent c.args.name.now c.args.is_dir mode c.args.now None c.in_err-site.field-0.0 c.in_err-site.ensures.refusal (c.in_err-site.ensures.cause c.args.is_dir mode));
      found = λ path is file. refl;
    })

pub returns-in_err-site-clause-cause : goal.returns-in_err-site-clause-cause
returns-in_err-site-clause-cause g c = λ mode.
    let p = err_from_is_err_and c.from_residual.result c.from_residual.ensures.1 in
    rw (p.1, p.2) (cause_more (create c.args.parent c.args.name.now c.args.is_dir mode) (Rose (g.R.Reads.faults c.args.folder.now) (g.R.Reads.faults c.args.folder.now))
    (Rose (g.E.Entropy.faults c.args.entropy.now) (g.E.Entropy.faults c.args.entropy.now)) c.in_err-site.field-0.0 (c.in_err-site.ensures.cause c.args.is_dir mode))

pub returns-in_default-clause-refused : goal.returns-in_default-clause-refused
returns-in_default-clause-refused g c = λ mode.
    let asked = asked_of c.args.self.now c.args.parent c.in_ok-site.site c.in_ok-site.ensures.site c.len-count.ensures.tree c.args.name.now c.in_ok-site.ensures.name in
    let drew = g.E.Entropy.drawn c.args.entropy.now in
    let drew' = g.E.Entropy.drawn c.draw_directory.new.entropy in
    random_refused asked c.args.self.now.claims c.args.is_dir mode c.args.now (disk_in (g.R.Reads.log c.args.folder.now)) drew drew' (no_draw c.args.is_dir drew drew' c.in_default.ensures.unspent)

pub returns-in_err-check_places-clause-refused : goal.returns-in_err-check_places-clause-refused
returns-in_err-check_places-clause-refused g c = λ mode.
    let asked = asked_of c.args.self.now c.args.parent c.in_ok-site.site c.in_ok-site.ensures.site c.len-count.ensures.tree c.args.name.now c.in_ok-site.ensures.name in
    let drew = g.E.Entropy.drawn c.args.entropy.now in
    let drew' = g.E.Entropy.drawn c.draw_directory.new.entropy in
    let failed = Rose (g.R.Reads.faults c.args.folder.now) (g.R.Reads.faults c.check_places.new.folder) in
    let p = err_from_is_err_and c.from_residual-in_err-check_places.result c.from_residual-in_err-check_places.ensures.1 in
    rw (p.1, p.2) (record {
      drawn = drawn_in c.in-Ok.directory;
      draw = drew_directory c.args.self.now.keys c.args.is_dir c.in-Ok.directory drew drew' c.in-Ok.ensures.drawn;
      refused = place_refused asked c.args.self.now.claims c.args.is_dir mode c.args.now c.entries_are_parts.ensures (disk_in (g.R.Reads.log c.args.folder.now)) c.in-Ok.directory (own_folder c.args.self.now.keys c.args.is_dir c.in-Ok.directory drew drew' c.in-Ok.ensures.drawn) failed c.in_err-check_places.field-0.0
          (subst (λ (o : Option NewDirectory). IsPlaceRefusal c.in_ok-site.site o c.args.self.now.live c.args.self.now.claims (disk_in (g.R.Reads.log c.args.folder.now)) (Rose (g.R.Reads.faults c.args.folder.now) (g.R.Reads.faults c.check_places.new.folder)) c.in_err-check_places.field-0.0)
          c.as_ref.ensures.value c.in_err-check_places.ensures.refusal);
      found = found_taken c.args.self.now.keys c.args.is_dir c.in-Ok.directory drew drew' c.in_err-check_places.field-0.0 c.in-Ok.ensures.drawn;
    })

pub returns-in_default-draw_header-clause-refused : goal.returns-in_default-draw_header-clause-refused
returns-in_default-draw_header-clause-refused g c = λ mode.
    let asked = asked_of c.args.self.now c.args.parent c.in_ok-site.site c.in_ok-site.ensures.site c.len-count.ensures.tree c.args.name.now c.in_ok-site.ensures.name in
    let drew = g.E.Entropy.drawn c.args.entropy.now in
    let drew' = g.E.Entropy.drawn c.draw_header.new.entropy in
    let none = subst (λ (o : Option NewDirectory). DrawsIf c.args.self.now.keys c.args.is_dir o (g.E.Entropy.drawn c.args.entropy.now) (g.E.Entropy.drawn c.draw_directory.new.entropy)) c.in-None.is c.in-Ok.ensures.drawn in
    random_refused asked c.args.self.now.claims c.args.is_dir mode c.args.now (disk_in (g.R.Reads.log c.args.folder.now)) drew drew'
    (file_draw c.args.is_dir drew drew' none.0 (header_partly drew (g.E.Entropy.drawn c.draw_directory.new.entropy) drew' none.1 c.in_default-draw_header.ensures.partly))

pub returns-in-Ok-make_directory-clause-ready : goal.returns-in-Ok-make_directory-clause-ready
returns-in-Ok-make_directory-clause-ready g c = λ mode.
    let asked = asked_of c.args.self.now c.args.parent c.in_ok-site.site c.in_ok-site.ensures.site c.len-count.ensures.tree c.args.name.now c.in_ok-site.ensures.name in
    let new = c.make_directory.new.self in
    let drew = g.E.Entropy.drawn c.args.entropy.now in
    let drew' = g.E.Entropy.drawn c.draw_directory.new.entropy in
    let some = subst (λ (o : Option NewDirectory). DrawsIf c.args.self.now.keys c.args.is_dir o (g.E.Entropy.drawn c.args.entropy.now) (g.E.Entropy.drawn c.draw_directory.new.entropy)) c.in-Some.is c.in-Ok.ensures.drawn in
    let made = c.in-Ok-make_directory.ensures.deeds in
    record {
      drawn = Some c.in-Some.directory.identifier;
      draw = record {
        directory = λ e. some.0;
        more = changed_by drew drew' (IsIdentifierOf c.in-Some.directory.identifier) GoesOn (λ before after it. (it.bytes ++ it.rest, it.drew ∙ append_assoc before it.bytes it.rest)) some.1.first;
        first = some.1.first;
        unspent = λ e made. absurd cc;
      };
      makes = subst (λ (b : Bool). MakesOn (sealing_of c.args.self.now.keys) (create c.args.parent c.args.name.now b mode) c.args.now (says (qid (new_qid c.args.self.now.live b))) (Some c.in-Some.directory.identifier)
          c.args.self.now.live c.make_directory.new.self.live c.args.self.now.claims c.make_directory.new.self.claims (plains c.in-Ok-make_directory.deeds.items)) (sym some.0)
          (c.in-Ok-make_directory.ensures.makes c.args.name.now mode c.in_ok-site.ensures.name);
      untaken = subst (λ (o : Option NewDirectory). Told (disk_in (g.R.Reads.log c.args.folder.now)) (IsUntaken (sealing_of c.args.self.now.keys) (create c.args.parent c.args.name.now c.args.is_dir mode) (drawn_in o) c.args.self.now.live c.args.self.now.claims)) c.in-Some.is
          (untaken asked c.args.self.now.claims c.args.is_dir mode c.args.now c.entries_are_parts.ensures (disk_in (g.R.Reads.log c.args.folder.now)) c.in-Ok.directory (own_folder c.args.self.now.keys c.args.is_dir c.in-Ok.directory drew drew' c.in-Ok.ensures.drawn)
          (subst (λ (o : Option NewDirectory). Told (disk_in (g.R.Reads.log c.args.folder.now)) (IsTaken c.in_ok-site.site.folder c.in_ok-site.site.place o c.args.self.now.live c.args.self.now.claims None)) c.as_ref.ensures.value c.in_ok-check_places.ensures.untaken));
      made_of = record {
        directory = directory_drawn c.args.self.now.keys drew drew' c.in-Some.directory some.1 made.0 made.1 (plains c.in-Ok-make_directory.deeds.items) made.2;
        file = λ e. absurd cc;
      };
    }

pub returns-in-Err-clause-refused : goal.returns-in-Err-clause-refused
returns-in-Err-clause-refused g c = λ mode.
    let asked = asked_of c.args.self.now c.args.parent c.in_ok-site.site c.in_ok-site.ensures.site c.len-count.ensures.tree c.args.name.now c.in_ok-site.ensures.name in
    let drew = g.E.Entropy.drawn c.args.entropy.now in
    let drew' = g.E.Entropy.drawn c.draw_directory.new.entropy in
    rw c.refusal_of.ensures (misfit_refused asked c.args.self.now.claims c.args.is_dir mode c.args.now (disk_in (g.R.Reads.log c.args.folder.now)) drew drew' (drawn_in c.in-Ok.directory)
    (drew_directory c.args.self.now.keys c.args.is_dir c.in-Ok.directory drew drew' c.in-Ok.ensures.drawn) c.in-Err.misfit (λ is. c.in-Err.ensures.own (rw is refl)))

pub returns-in-Err-clause-cause : goal.returns-in-Err-clause-cause
returns-in-Err-clause-cause g c = λ mode.
    let a = g.R.Reads.faults c.args.folder.now in
    let b = g.R.Reads.faults c.check_places.new.folder in
    let d = g.R.Reads.faults c.make_directory.new.folder in
    rw c.refusal_of.ensures (misfit_cause (create c.args.parent c.args.name.now c.args.is_dir mode) (Rose a d) (Rose (g.E.Entropy.faults c.args.entropy.now) (g.E.Entropy.faults c.draw_directory.new.entropy))
    c.in-Err.misfit tt (λ is. rose_before a b d c.in_ok-check_places.ensures.later (c.in-Err.ensures.cause.rose (rw is refl))))

pub returns-in-Ok-make_file-clause-ready : goal.returns-in-Ok-make_file-clause-ready
returns-in-Ok-make_file-clause-ready g c = λ mode.
    let asked = asked_of c.args.self.now c.args.parent c.in_ok-site.site c.in_ok-site.ensures.site c.len-count.ensures.tree c.args.name.now c.in_ok-site.ensures.name in
    let drew = g.E.Entropy.drawn c.args.entropy.now in
    let drew' = g.E.Entropy.drawn c.draw_header.new.entropy in
    let none = subst (λ (o : Option NewDirectory). DrawsIf c.args.self.now.keys c.args.is_dir o (g.E.Entropy.drawn c.args.entropy.now) (g.E.Entropy.drawn c.draw_directory.new.entropy)) c.in-None.is c.in-Ok.ensures.drawn in
    let head = subst (λ (d : Option (List ℕ)). DrawsHead c.args.self.now.keys d (g.E.Entropy.drawn c.draw_header.new.entropy) c.in-Ok-draw_header.header) none.1 c.in-Ok-draw_header.ensures.drawn in
    let made = c.in-Ok-make_file.ensures.deeds in
    record {
      drawn = None;
      draw = file_draw c.args.is_dir drew drew' none.0 (head_changes c.args.self.now.keys drew drew' c.in-Ok-draw_header.header head);
      makes = subst (λ (b : Bool). MakesOn (sealing_of c.args.self.now.keys) (create c.args.parent c.args.name.now b mode) c.args.now (says (qid (new_qid c.args.self.now.live b))) None
          c.args.self.now.live c.make_file.new.self.live c.args.self.now.claims c.make_file.new.self.claims (plains c.in-Ok-make_file.deeds.items)) (sym none.0)
          (c.in-Ok-make_file.ensures.makes c.args.name.now mode c.in_ok-site.ensures.name);
      untaken = subst (λ (o : Option NewDirectory). Told (disk_in (g.R.Reads.log c.args.folder.now)) (IsUntaken (sealing_of c.args.self.now.keys) (create c.args.parent c.args.name.now c.args.is_dir mode) (drawn_in o) c.args.self.now.live c.args.self.now.claims)) c.in-None.is
          (untaken asked c.args.self.now.claims c.args.is_dir mode c.args.now c.entries_are_parts.ensures (disk_in (g.R.Reads.log c.args.folder.now)) c.in-Ok.directory (own_folder c.args.self.now.keys c.args.is_dir c.in-Ok.directory drew (g.E.Entropy.drawn c.draw_directory.new.entropy) c.in-Ok.ensures.drawn)
          (subst (λ (o : Option NewDirectory). Told (disk_in (g.R.Reads.log c.args.folder.now)) (IsTaken c.in_ok-site.site.folder c.in_ok-site.site.place o c.args.self.now.live c.args.self.now.claims None)) c.as_ref.ensures.value c.in_ok-check_places.ensures.untaken));
      made_of = record {
        directory = tt;
        file = λ e. header_drawn c.args.self.now.keys drew drew' c.in-Ok-draw_header.header head made.0 made.1 (plains c.in-Ok-make_file.deeds.items) made.2;
      };
    }

pub returns-in-Err-make_file-clause-refused : goal.returns-in-Err-make_file-clause-refused
returns-in-Err-make_file-clause-refused g c = λ mode.
    let asked = asked_of c.args.self.now c.args.parent c.in_ok-site.site c.in_ok-site.ensures.site c.len-count.ensures.tree c.args.name.now c.in_ok-site.ensures.name in
    let drew = g.E.Entropy.drawn c.args.entropy.now in
    let mid = g.E.Entropy.drawn c.draw_directory.new.entropy in
    let drew' = g.E.Entropy.drawn c.draw_header.new.entropy in
    let none = subst (λ (o : Option NewDirectory). DrawsIf c.args.self.now.keys c.args.is_dir o (g.E.Entropy.drawn c.args.entropy.now) (g.E.Entropy.drawn c.draw_directory.new.entropy)) c.in-None.is c.in-Ok.ensures.drawn in
    rw c.refusal_of-in-Err-make_file.ensures (misfit_refused asked c.args.self.now.claims c.args.is_dir mode c.args.now (disk_in (g.R.Reads.log c.args.folder.now)) drew drew' None
    (file_draw c.args.is_dir drew drew' none.0 (header_partly drew mid drew' none.1 (head_changes c.args.self.now.keys mid drew' c.in-Ok-draw_header.header c.in-Ok-draw_header.ensures.drawn)))
    c.in-Err-make_file.misfit (λ is. c.in-Err-make_file.ensures.own (rw is refl)))

pub returns-in-Err-make_file-clause-cause : goal.returns-in-Err-make_file-clause-cause
returns-in-Err-make_file-clause-cause g c = λ mode.
    let a = g.R.Reads.faults c.args.folder.now in
    let b = g.R.Reads.faults c.check_places.new.folder in
    let d = g.R.Reads.faults c.make_file.new.folder in
    rw c.refusal_of-in-Err-make_file.ensures (misfit_cause (create c.args.parent c.args.name.now c.args.is_dir mode) (Rose a d) (Rose (g.E.Entropy.faults c.args.entropy.now) (g.E.Entropy.faults c.draw_header.new.entropy))
    c.in-Err-make_file.misfit tt (λ is. rose_before a b d c.in_ok-check_places.ensures.later (c.in-Err-make_file.ensures.cause.rose (rw is refl))))
