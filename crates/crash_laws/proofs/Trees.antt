-- Disks that differ in the journal's two files are trees together.
use Rattle.std.proofs.Common.{◌≡◌, ℕ, List, [], ◌∷◌, Option, Some, None, IsSome, sym, ap, subst, ◌∙◌, inl, inr}
use Rattle.outside.specs.Disk.{Disk, Path, Node, folder, file, node_at, parent, IsFolder, IsTree}
use Rattle.outside.specs.Images.{Log, now}
use Rattle.outside.proofs.Paths.{by_path}
use Rattle.deeds.specs.Deeds.{PlainDeed, DoesAll, Unnamed, in_order}
use Rattle.deeds.specs.Repeatable.{IsRepeatable}
use Rattle.deeds.proofs.Again.{elsewhere}
use Rattle.deeds.proofs.Applying.{unnamed_part}
use Rattle.deeds.proofs.Amid.{tree_run}
use Rattle.deeds.proofs.Phases.{unnamed_ordered}
use Rattle.chunk_journal.specs.Journal.{journal_file, new_file, IsClosed, IsAlike, IsQuiet, IsReopenable, RecoversTo, Recovered}
use Rattle.crash_laws.specs.Crash.{DiskShows}
use Rattle.crash_laws.specs.Opening.{IsClearTree, IsSoundlyFound}
use Rattle.crash_laws.specs.Laws.{StopsAreSound, WholesAreSound}

-- a file or nothing is no folder
file_no_folder : (o : Option Node) (bytes : List ℕ) → o ≡ Some (file bytes) → o ≡ Some folder → ⊥
file_no_folder o bytes at is = let e : Some (file bytes) ≡ Some folder = sym at ∙ is in cc

none_no_folder : (o : Option Node) → o ≡ None → o ≡ Some folder → ⊥
none_no_folder o at is = let e : None ≡ Some folder = sym at ∙ is in cc

pub closed_no_folder : (disk : Disk) → IsClosed disk → IsFolder disk journal_file → ⊥
closed_no_folder disk (inl none) is = none_no_folder (node_at disk journal_file) none is
closed_no_folder disk (inr (bytes, at, shut)) is = file_no_folder (node_at disk journal_file) bytes at is

pub quiet_clear : (log : Log) → IsQuiet log → IsClearTree (now log)
quiet_clear log quiet = record {
  tree = quiet.steady.tree;
  no_folder = λ has. elim has [ inl journal ↦ closed_no_folder (now log) quiet.closed journal | inr beside ↦ quiet.no_folder beside ];
}

-- what is alike to a tree without folders in the two places is a tree
pub alike_tree : (a b : Disk) → IsClearTree a → IsAlike a b → IsTree b
alike_tree a b clear alike = record {
  top = alike [] (λ e. cc) (λ e. cc) ∙ clear.tree.top;
  parents = λ q there. by_path q journal_file
      (λ same. subst (λ (p : Path). IsFolder b (parent p)) (sym same) top)
      (λ not_journal. by_path q new_file
      (λ same. subst (λ (p : Path). IsFolder b (parent p)) (sym same) top)
      (λ not_new. above q (subst (λ (o : Option Node). IsSome o) (alike q not_journal not_new) there)));
}
  where
    top : IsFolder b []
    top = alike [] (λ e. cc) (λ e. cc) ∙ clear.tree.top

    above : (q : Path) → IsSome (node_at a q) → IsFolder b (parent q)
    above q there =
        let is : IsFolder a (parent q) = clear.tree.parents q there in
        alike (parent q) (λ e. clear.no_folder (inl (subst (λ (p : Path). IsFolder a p) e is))) (λ e. clear.no_folder (inr (subst (λ (p : Path). IsFolder a p) e is))) ∙ is

-- ---- deeds that can be done again

stays_unnamed : (q : Path) (deeds : List PlainDeed) (old new : Disk) → DoesAll deeds old new → Unnamed q deeds → node_at new q ≡ node_at old q
stays_unnamed q [] old new run un = ap (λ (d : Disk). node_at d q) run
stays_unnamed q (deed ∷ deeds) old new run un = stays_unnamed q deeds run.0 new run.2 un.1 ∙ elsewhere deed old run.0 q run.1 un.0

-- they leave such a tree
pub clear_after : (deeds : List PlainDeed) (old new : Disk) → IsRepeatable deeds → IsClearTree old → DoesAll (in_order deeds) old new → IsClearTree new
clear_after deeds old new repeatable clear run = record {
  tree = tree_run (in_order deeds) old new clear.tree run;
  no_folder = λ has. elim has [
    | inl journal ↦ clear.no_folder (inl (sym (stays_unnamed journal_file (in_order deeds) old new run (unnamed_ordered journal_file deeds repeatable.beside_journal)) ∙ journal))
    | inr beside ↦ clear.no_folder (inr (sym (stays_unnamed new_file (in_order deeds) old new run (unnamed_ordered new_file deeds repeatable.beside_new)) ∙ beside))
  ];
}

-- and so does what a folder is found to recover to
pub clear_recovered : (disk found : Disk) → IsSoundlyFound disk → RecoversTo disk found → IsClearTree found
clear_recovered disk found sound (inl shut) = subst IsClearTree (sym shut.1) sound.clear
clear_recovered disk found sound (inr (deeds, held, run)) = clear_after deeds disk found (sound.repeatable deeds held) sound.clear run

-- even if not all of its batch can be done
pub clear_applied : (disk found : Disk) → IsSoundlyFound disk → Recovered disk found → IsClearTree found
clear_applied disk found sound (inl none) = subst IsClearTree (sym none.1) sound.clear
clear_applied disk found sound (inr (deeds, held, applies)) = record {
  tree = tree_run applies.part disk found sound.clear.tree applies.does;
  no_folder = λ has. elim has [
    | inl journal ↦ sound.clear.no_folder (inl (sym (left journal_file (sound.repeatable deeds held).beside_journal) ∙ journal))
    | inr beside ↦ sound.clear.no_folder (inr (sym (left new_file (sound.repeatable deeds held).beside_new) ∙ beside))
  ];
}
  where
    left : (q : Path) → Unnamed q deeds → node_at found q ≡ node_at disk q
    left q un = stays_unnamed q applies.part disk found applies.does (unnamed_part q (in_order deeds) disk applies.part applies.far (unnamed_ordered q deeds un))

-- ---- what is found next

-- what can be opened again and recovers to a disk is soundly found
pub recovering_is_sound : (image disk : Disk) → IsTree image → IsReopenable image → RecoversTo image disk → IsSoundlyFound image
recovering_is_sound image disk tree reopenable recovers = record {
  clear = record {
    tree = tree;
    no_folder = λ has. elim has [ inl journal ↦ no_journal recovers journal | inr beside ↦ reopenable.no_folder beside ];
  };
  repeatable = reopenable.repeatable;
}
  where
    no_journal : RecoversTo image disk → IsFolder image journal_file → ⊥
    no_journal (inl shut) is = closed_no_folder image shut.0 is
    no_journal (inr (deeds, held, run)) is = file_no_folder (node_at image journal_file) _ held.here is

pub stops_are_sound : (Shows : DiskShows) → StopsAreSound Shows
stops_are_sound Shows rows history low high image tree is = recovering_is_sound image is.disk tree is.reopenable is.recovers

pub wholes_are_sound : (Shows : DiskShows) → WholesAreSound Shows
wholes_are_sound Shows rows history image tree is = recovering_is_sound image is.disk tree is.reopenable is.recovers
