use Rattle.std.proofs.Common.{◌≡◌, ℕ, None, sym, ap, subst, arith, length}
use Rattle.std.proofs.lemmas.Result.{err_from_is_err_and}
use Rattle.outside.specs.Calls.{Changes, Told}
use Rattle.outside.proofs.Told.{told_then}
use Rattle.chunk_journal.specs.Journal.{IsQuiet}
use Rattle.vault_keys.specs.Keys.{KeyPair}
use Rattle.tree_loading.specs.Format.{sealing_of}
use Rattle.content_laws.specs.Rewriting.{Rewriting, CanPutChunks}
use Rattle.content_writer.specs.Sealed.{chunks_of}
use Rattle.file_chunks.specs.declared.size.TheConstants.{SEALED_LENGTH}
use Rattle.pending_files.specs.Pending.{HasRoom}
use Rattle.file_changes.specs.Held.{rewritten_tree}
use Rattle.file_changes.specs.Waiting.{IsAtRestOver}
use Rattle.file_changes.proofs.Places.{is_held_file}
use Rattle.file_changes.proofs.Putting.{same_rewriting}
use Rattle.file_changes.proofs.Behind.{FileBehind, IsPutBehind, chunk_count_is, put_behind, ready, rests_after, told_file_behind, writes_put}
use Rattle.file_changes.proofs.room.FileChanges.put.Goals as goal
use Rattle.file_changes.proofs.Standing.{TreeAfter, file_of}
use Rattle.file_changes.proofs.room.FileChanges.put.Given.{Over}

pub make_room-requires-clause-quiet : goal.make_room-requires-clause-quiet
make_room-requires-clause-quiet g c =
    let tree = c.args.tree.now in
    told_then (g.D.Reads.log c.args.back.now.folder) (IsAtRestOver (sealing_of tree.keys) tree.live tree.claims c.args.back.now.waiting) IsQuiet c.requires.rest (λ l is. is.quiet)

pub make_room-requires-clause-few : goal.make_room-requires-clause-few
make_room-requires-clause-few g c = omega (arith, c.requires.puttable.few, ap length c.sealed.ensures, chunk_count_is c.sealed.result.now SEALED_LENGTH)

pub returns-in_err-make_room-clause-dropped : goal.returns-in_err-make_room-clause-dropped
returns-in_err-make_room-clause-dropped g c =
    let p = err_from_is_err_and c.from_residual.result c.from_residual.ensures.1 in
    rw (p.1, p.2) c.in_err-make_room.ensures.dropped

pub put-requires-clause-room : goal.put-requires-clause-room
put-requires-clause-room g c =
    let count : c.div_ceil.result ≡ length (chunks_of SEALED_LENGTH c.sealed.result.now) = omega (arith, chunk_count_is c.sealed.result.now SEALED_LENGTH) in
    subst (HasRoom c.make_room.new.back.waiting c.args.file.now.path) count c.in_ok-make_room.ensures.room

pub put-requires-clause-can : goal.put-requires-clause-can
put-requires-clause-can g c =
    let r = c.args.self.now.writer in
    let same = same_rewriting r c.first.result c.size.result (chunks_of SEALED_LENGTH c.sealed.result.now) c.first.ensures c.sealed.ensures c.size.ensures in
    subst (λ (x : Rewriting). CanPutChunks x.size c.args.file.now.size x.first x.sealed) (sym same) c.requires.puttable.can

pub put-requires-clause-file : goal.put-requires-clause-file
put-requires-clause-file g c =
    let tree = c.args.tree.now in
    let file = c.args.file.now in
    let back = c.args.back.now in
    let log = g.D.Reads.log back.folder in
    let at : FileBehind = record { file = file_of tree c.args.number file.size c.requires.file.0 c.requires.file.1; path = file.path; path_is = c.requires.path; inside = c.requires.inside; waiting = back.waiting; log = log; rest = c.requires.rest } in
    told_file_behind back.waiting c.make_room.new.back.waiting file.path file.size c.requires.inside log (g.D.Reads.log c.make_room.new.back.folder)
    (ready at) c.in_ok-make_room.ensures.flushed

pub put_size-requires : goal.put_size-requires
put_size-requires g c = record { file = is_held_file c.args.tree.now.live c.args.number c.args.file.now.size c.requires.file.0 c.requires.file.1 }

-- the file, with what waits laid over its folder
abbrev at_of : (g : Over) (c : goal.After-put_size g) → FileBehind
at_of g c = record {
  file = file_of c.args.tree.now c.args.number c.args.file.now.size c.requires.file.0 c.requires.file.1;
  path = c.args.file.now.path;
  path_is = c.requires.path;
  inside = c.requires.inside;
  waiting = c.args.back.now.waiting;
  log = g.D.Reads.log c.args.back.now.folder;
  rest = c.requires.rest;
}

-- the tree in memory after it
abbrev after_of : (g : Over) (c : goal.After-put_size g) → TreeAfter (at_of g c).file c.args.self.now.writer None c.args.now
after_of g c = record {
  live = c.put_size.new.tree.live;
  claims = c.put_size.new.tree.claims;
  live_is = subst (λ (size : ℕ). c.put_size.new.tree.live ≡ rewritten_tree c.args.tree.now.live c.args.number size None c.args.now) c.size.ensures c.put_size.ensures.live;
  claims_are = c.put_size.ensures.claims;
}

-- what was sealed is behind what waited
is_behind : (g : Over) (c : goal.After-put_size g) → Changes (g.D.Reads.log c.args.back.now.folder) (g.D.Reads.log c.put.new.self.folder)
    (IsPutBehind c.args.file.now.path c.args.file.now.size c.args.self.now.writer c.args.back.now.waiting c.put.new.self.waiting)
is_behind g c =
    let file = c.args.file.now in
    let r = c.args.self.now.writer in
    let same = same_rewriting r c.first.result c.size.result (chunks_of SEALED_LENGTH c.sealed.result.now) c.first.ensures c.sealed.ensures c.size.ensures in
    put_behind file.path file.size r _ c.args.back.now.waiting c.make_room.new.back.waiting c.put.new.self.waiting (g.D.Reads.log c.args.back.now.folder) (g.D.Reads.log c.make_room.new.back.folder) (g.D.Reads.log c.put.new.self.folder) same
    (ap (λ folder. g.D.Reads.log folder) c.put.ensures.folder) c.in_ok-make_room.ensures.flushed c.put.ensures.waiting c.put.ensures.waits c.put.ensures.rewritten

pub returns-clause-written : goal.returns-clause-written
returns-clause-written g c = λ change request answer drew drew' sealed its drawn.
    writes_put (at_of g c) c.args.self.now.writer change sealed c.args.now (after_of g c) c.put.new.self.waiting (g.D.Reads.log c.put.new.self.folder) (is_behind g c) request answer drew drew' its
    c.put_size.ensures.rows drawn

pub returns-clause-rest : goal.returns-clause-rest
returns-clause-rest g c = λ change sealed.
    let new = c.put_size.new.tree in
    subst (λ (k : KeyPair). Told (g.D.Reads.log c.put.new.self.folder) (IsAtRestOver (sealing_of k) new.live new.claims c.put.new.self.waiting)) (sym c.put_size.ensures.keys)
    (rests_after (at_of g c) c.args.self.now.writer change sealed c.args.now (after_of g c) c.put.new.self.waiting (g.D.Reads.log c.put.new.self.folder) (is_behind g c))
