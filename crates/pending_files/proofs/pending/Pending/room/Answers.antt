use Rattle.std.proofs.Common.{◌≡◌, List, None, length, sym, ap, subst, ◌∙◌, arith}
use Rattle.std.proofs.lemmas.Bool.{lt-ltb, ltb-true}
use Rattle.deeds.specs.declared.deed.Deed.{Deed}
use Rattle.deeds.specs.Plain.{plains}
use Rattle.deeds.proofs.Phases.{plains_long}
use Rattle.pending_files.specs.Pending.{file_of, chunk_count}
use Rattle.pending_files.proofs.pending.Pending.room.Goals as goal

pub returns-in-None : goal.returns-in-None
returns-in-None c =
    let long = ap length c.self.view_is in
    let chunks = ap chunk_count c.self.view_is in
    let none = subst (λ (l : List Deed). file_of c.args.path.now (plains l) ≡ None) c.deref.ensures.value c.in-None.ensures in
    let absent = ap (file_of c.args.path.now) (sym c.self.view_is) ∙ none in (
      (λ is. record {
        inside = record { good = c.len.ensures.path; deep = omega (arith, c.len.ensures.count, c.if-len-lt2.false) };
        fits = omega (arith, chunks, c.if-len-chunks.false, c.self.invariant.all_buffers);
        files = λ is_none. omega (arith, ltb-true _ _ is, long, plains_long c.self.inside.deeds.items, c.self.inside.deeds.ok);
      }),
      (λ room. lt-ltb _ _ (omega (arith, room.files absent, long, plains_long c.self.inside.deeds.items, c.self.inside.deeds.ok))),
    )
