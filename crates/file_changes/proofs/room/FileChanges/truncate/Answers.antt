use Rattle.std.proofs.Common.{arith, None, refl, ◌∙◌}
use Rattle.tree_model.specs.Contents.{resized}
use Rattle.tree_loading.specs.Format.{sealing_of}
use Rattle.file_changes.specs.Waiting.{HasWritten, IsAtRestOver}
use Rattle.tree_model.specs.declared.refusal.Refusal.TheVariants as refusals
use Rattle.content_writer.specs.declared.error.WriteErr.TheVariants as write_errs
use Rattle.file_changes.proofs.Telling.{resizing_of, never_early, content_refused, content_cause, request_cause}
use Rattle.file_changes.proofs.Behind.{behind_read, changed_since, kept_log, kept_waiting, laid_still, not_flushed, put_of, sealed_still, told_still}
use Rattle.file_changes.proofs.room.FileChanges.truncate.Goals as goal
use Rattle.file_changes.proofs.Standing.{file_of}
use Rattle.file_changes.proofs.room.FileChanges.truncate.Given.{Over}
use Rattle.file_changes.specs.Files.{IsSealedIn}
use Rattle.std.specs.Option.{option_map}
use Rattle.pending_files.specs.Laid.{laid_log}

pub seal_length-requires-clause-sized : goal.seal_length-requires-clause-sized
seal_length-requires-clause-sized g c = (c.requires.file.clear, (c.sealed_file-file.ensures.file _ _ c.requires.file.is).sized, omega arith)

pub put-requires-clause-rest : goal.put-requires-clause-rest
put-requires-clause-rest g c =
    let tree = c.args.tree.now in
    let back = c.args.back.now in
    let between = c.keep_header.new.self in
    let same = laid_still c.seal_length.new.folder.waiting between.waiting (g.D.Reads.log c.seal_length.new.folder.folder) (g.D.Reads.log between.folder) c.keep_header.ensures.waiting c.keep_header.ensures.log in
    told_still back.waiting between.waiting (g.D.Reads.log back.folder) (g.D.Reads.log between.folder) (same ∙ c.in-Ok.ensures.log) (IsAtRestOver (sealing_of tree.keys) tree.live tree.claims) c.requires.rest

pub put-requires-clause-file : goal.put-requires-clause-file
put-requires-clause-file g c = (c.requires.file.clear, c.sealed_file-file.ensures.file _ _ c.requires.file.is)

-- what is sealed is still so on what was read
sealed_amid : (g : Over) (c : goal.In-Ok-put g) → IsSealedIn c.args.tree.now.keys c.sealed_file-file.result.path c.sealed_file-file.result.size c.seal_length.new.self (λ content. resized content 0)
    (option_map (laid_log c.keep_header.new.self.waiting) (g.D.Reads.log c.keep_header.new.self.folder))
sealed_amid g c =
    let file = c.sealed_file-file.result in
    let back = c.args.back.now in
    let between = c.keep_header.new.self in
    let same = laid_still c.seal_length.new.folder.waiting between.waiting (g.D.Reads.log c.seal_length.new.folder.folder) (g.D.Reads.log between.folder) c.keep_header.ensures.waiting c.keep_header.ensures.log in
    sealed_still back.waiting between.waiting (g.D.Reads.log back.folder) (g.D.Reads.log between.folder) (same ∙ c.in-Ok.ensures.log) c.args.tree.now.keys c.keys.result.now file.path file.size c.seal_length.new.self
    (λ content. resized content 0) c.keys.ensures c.in-Ok.ensures.resized

pub returns-in-Ok-put-clause-nonces : goal.returns-in-Ok-put-clause-nonces
returns-in-Ok-put-clause-nonces g c = λ request answer its.
    let tree = c.args.tree.now in
    let new = c.put.new.tree in
    let back = c.args.back.now in
    let between = c.keep_header.new.self in
    let same = laid_still c.seal_length.new.folder.waiting between.waiting (g.D.Reads.log c.seal_length.new.folder.folder) (g.D.Reads.log between.folder) c.keep_header.ensures.waiting c.keep_header.ensures.log in
    let before = g.D.Reads.log back.folder in
    let amid = g.D.Reads.log between.folder in
    let drew = g.E.Entropy.drawn c.args.entropy.now in
    let drew' = g.E.Entropy.drawn c.seal_length.new.entropy in
    changed_since back.waiting between.waiting before amid (same ∙ c.in-Ok.ensures.log)
    (λ waiting. HasWritten (sealing_of tree.keys) request c.args.now answer tree.live new.live tree.claims new.claims waiting c.put.new.back.waiting drew drew') (g.D.Reads.log c.put.new.back.folder)
    (c.in-Ok-put.ensures.written (λ content. resized content 0) request answer drew drew' (sealed_amid g c) its c.in-Ok.ensures.drawn)

pub returns-in-Ok-put-clause-put : goal.returns-in-Ok-put-clause-put
returns-in-Ok-put-clause-put g c = λ request answer its.
    let tree = c.args.tree.now in
    let new = c.put.new.tree in
    let back = c.args.back.now in
    put_of (sealing_of tree.keys) request c.args.now answer tree.live new.live tree.claims new.claims back.waiting c.put.new.back.waiting
    (g.E.Entropy.drawn c.args.entropy.now) (g.E.Entropy.drawn c.seal_length.new.entropy) (g.D.Reads.log back.folder) (g.D.Reads.log c.put.new.back.folder) (returns-in-Ok-put-clause-nonces g c request answer its)

pub returns-in-Ok-put-clause-rest_after : goal.returns-in-Ok-put-clause-rest_after
returns-in-Ok-put-clause-rest_after g c = c.in-Ok-put.ensures.rest (λ content. resized content 0) (sealed_amid g c)

pub returns-in-Err-Device-clause-broken : goal.returns-in-Err-Device-clause-broken
returns-in-Err-Device-clause-broken g c = λ request answer its.
    let tree = c.args.tree.now in
    let back = c.args.back.now in
    let between = c.keep_header.new.self in
    let same = laid_still c.seal_length.new.folder.waiting between.waiting (g.D.Reads.log c.seal_length.new.folder.folder) (g.D.Reads.log between.folder) c.keep_header.ensures.waiting c.keep_header.ensures.log in
    not_flushed back.waiting between.waiting (g.D.Reads.log back.folder) (g.D.Reads.log between.folder) (same ∙ c.in-Ok.ensures.log) (sealing_of tree.keys) request tree.live tree.claims
    (never_early (sealing_of tree.keys) tree.live tree.claims c.args.number (λ content. resized content 0) None c.args.now request answer its)
    (g.D.Reads.log c.put.new.back.folder) c.in-Err-Device.ensures.any_moment

-- the header couldn't be read: nothing has changed
pub returns-then-is_err-clause-refused : goal.returns-then-is_err-clause-refused
returns-then-is_err-clause-refused g c = λ request answer its.
    let file = file_of c.args.tree.now c.args.number c.sealed_file-file.result.size c.requires.file.clear (c.sealed_file-file.ensures.file _ _ c.requires.file.is) in
    let at = behind_read file c.sealed_file-file.result.path c.sealed_file-file.ensures.path c.keys.result.now c.keys.ensures c.args.back.now.waiting (g.D.Reads.log c.args.back.now.folder) c.requires.rest in
    content_refused at (resizing_of file 0 None c.args.now request answer its) write_errs.Device refusals.DeviceFault refl (λ no. absurd cc)

pub returns-then-is_err-clause-unchanged : goal.returns-then-is_err-clause-unchanged
returns-then-is_err-clause-unchanged g c =
    let back = c.args.back.now in
    let between = c.keep_header.new.self in
    let same = laid_still c.seal_length.new.folder.waiting between.waiting (g.D.Reads.log c.seal_length.new.folder.folder) (g.D.Reads.log between.folder) c.keep_header.ensures.waiting c.keep_header.ensures.log in
    record { live = refl; claims = refl; log = kept_log back.waiting between.waiting (g.D.Reads.log back.folder) (g.D.Reads.log between.folder) (same ∙ c.in-Ok.ensures.log) }

pub returns-then-is_err-clause-waiting : goal.returns-then-is_err-clause-waiting
returns-then-is_err-clause-waiting g c =
    let back = c.args.back.now in
    let between = c.keep_header.new.self in
    let same = laid_still c.seal_length.new.folder.waiting between.waiting (g.D.Reads.log c.seal_length.new.folder.folder) (g.D.Reads.log between.folder) c.keep_header.ensures.waiting c.keep_header.ensures.log in
    kept_waiting back.waiting between.waiting (g.D.Reads.log back.folder) (g.D.Reads.log between.folder) (same ∙ c.in-Ok.ensures.log)

pub returns-in-Err-clause-refused : goal.returns-in-Err-clause-refused
returns-in-Err-clause-refused g c = λ request answer its.
    let file = file_of c.args.tree.now c.args.number c.sealed_file-file.result.size c.requires.file.clear (c.sealed_file-file.ensures.file _ _ c.requires.file.is) in
    let at = behind_read file c.sealed_file-file.result.path c.sealed_file-file.ensures.path c.keys.result.now c.keys.ensures c.args.back.now.waiting (g.D.Reads.log c.args.back.now.folder) c.requires.rest in
    content_refused at (resizing_of file 0 None c.args.now request answer its) c.in-Err.cause c.refusal_of.result c.refusal_of.ensures c.in-Err.ensures.damaged

pub returns-in-Err-clause-unchanged : goal.returns-in-Err-clause-unchanged
returns-in-Err-clause-unchanged g c =
    let back = c.args.back.now in
    let between = c.seal_length.new.folder in
    record { live = refl; claims = refl; log = kept_log back.waiting between.waiting (g.D.Reads.log back.folder) (g.D.Reads.log between.folder) c.in-Err.ensures.log }

pub returns-in-Err-clause-waiting : goal.returns-in-Err-clause-waiting
returns-in-Err-clause-waiting g c =
    let back = c.args.back.now in
    let between = c.seal_length.new.folder in
    kept_waiting back.waiting between.waiting (g.D.Reads.log back.folder) (g.D.Reads.log between.folder) c.in-Err.ensures.log

pub returns-in-Err-clause-cause : goal.returns-in-Err-clause-cause
returns-in-Err-clause-cause g c = λ request.
    let file = file_of c.args.tree.now c.args.number c.sealed_file-file.result.size c.requires.file.clear (c.sealed_file-file.ensures.file _ _ c.requires.file.is) in
    let at = behind_read file c.sealed_file-file.result.path c.sealed_file-file.ensures.path c.keys.result.now c.keys.ensures c.args.back.now.waiting (g.D.Reads.log c.args.back.now.folder) c.requires.rest in
    request_cause at c.in-Err.cause c.refusal_of.result c.refusal_of.ensures _ _ _ c.in-Err.ensures.device c.in-Err.ensures.random request

pub returns-in-Err-clause-own : goal.returns-in-Err-clause-own
returns-in-Err-clause-own g c =
    let file = file_of c.args.tree.now c.args.number c.sealed_file-file.result.size c.requires.file.clear (c.sealed_file-file.ensures.file _ _ c.requires.file.is) in
    let at = behind_read file c.sealed_file-file.result.path c.sealed_file-file.ensures.path c.keys.result.now c.keys.ensures c.args.back.now.waiting (g.D.Reads.log c.args.back.now.folder) c.requires.rest in
    content_cause at c.in-Err.cause c.refusal_of.result c.refusal_of.ensures _ _ _ c.in-Err.ensures.device c.in-Err.ensures.random
