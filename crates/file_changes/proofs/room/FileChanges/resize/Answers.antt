use Rattle.std.proofs.Common.{refl, arith}
use Rattle.tree_model.specs.declared.refusal.Refusal.TheVariants as refusals
use Rattle.tree_model.specs.Contents.{resized}
use Rattle.file_changes.proofs.Telling.{SealedAnew, told_at_rest, resizing_of, told_file, content_changed, content_may_have_changed, content_may_have_rewritten, content_rewritten, content_refused, content_cause, request_cause}
use Rattle.content_writer.specs.declared.error.WriteErr.TheVariants as write_errs
use Rattle.file_changes.proofs.Untold.{device_not_dropped}
use Rattle.file_changes.proofs.room.FileChanges.resize.Goals as goal
use Rattle.file_changes.proofs.Standing.{TreeAfter, file_of}

pub seal_length-requires-clause-sized : goal.seal_length-requires-clause-sized
seal_length-requires-clause-sized g c = (c.requires.file.clear, (c.sealed_file-file.ensures.file _ _ c.requires.file.is).sized, omega (arith, c.requires.file.gap))

pub commit-requires-clause-can : goal.commit-requires-clause-can
commit-requires-clause-can g c =
    let file = file_of c.args.tree.now c.args.number c.sealed_file-file.result.size c.requires.file.clear (c.sealed_file-file.ensures.file _ _ c.requires.file.is) in
    let at = told_at_rest file c.sealed_file-file.result.path c.sealed_file-file.ensures.path c.keys.result.now c.keys.ensures (g.D.Reads.log c.args.journal.now) c.requires.rest in
    told_file at (g.D.Reads.log c.seal_length.new.folder) c.in-Ok.ensures.log c.seal_length.new.self (λ content. resized content c.args.len) c.in-Ok.ensures.resized

pub returns-in-Ok-commit-clause-changed : goal.returns-in-Ok-commit-clause-changed
returns-in-Ok-commit-clause-changed g c = λ request answer its.
    let file = file_of c.args.tree.now c.args.number c.sealed_file-file.result.size c.requires.file.clear (c.sealed_file-file.ensures.file _ _ c.requires.file.is) in
    let at = told_at_rest file c.sealed_file-file.result.path c.sealed_file-file.ensures.path c.keys.result.now c.keys.ensures (g.D.Reads.log c.args.journal.now) c.requires.rest in
    let anew : SealedAnew at (λ content. resized content c.args.len) = record {
      r = c.seal_length.new.self;
      sealed = c.in-Ok.ensures.resized;
      law = c.deeds_rewrite.ensures;
      inside = c.sealed_file-file.ensures.inside;
      puttable = c.in-Ok.ensures.puttable;
    } in
    let after : TreeAfter file anew.r c.args.modified c.args.now = record { live = c.commit.new.tree.live; claims = c.commit.new.tree.claims; live_is = c.in-Ok-commit.ensures.live (λ no. absurd cc); claims_are = c.in-Ok-commit.ensures.claims } in
    content_changed at (resizing_of file c.args.len c.args.modified c.args.now request answer its) anew after (c.in-Ok-commit.ensures.rows (λ no. absurd cc)) (g.D.Reads.log c.seal_length.new.folder) c.in-Ok.ensures.log (g.D.Reads.log c.commit.new.journal) (c.in-Ok-commit.ensures.any_moment (λ no. absurd cc))
    (g.E.Entropy.drawn c.args.entropy.now) (g.E.Entropy.drawn c.seal_length.new.entropy) c.in-Ok.ensures.drawn c.in-Ok-commit.ensures.committed

pub returns-in-Ok-commit-clause-nonces : goal.returns-in-Ok-commit-clause-nonces
returns-in-Ok-commit-clause-nonces g c = λ request answer its.
    let file = file_of c.args.tree.now c.args.number c.sealed_file-file.result.size c.requires.file.clear (c.sealed_file-file.ensures.file _ _ c.requires.file.is) in
    let at = told_at_rest file c.sealed_file-file.result.path c.sealed_file-file.ensures.path c.keys.result.now c.keys.ensures (g.D.Reads.log c.args.journal.now) c.requires.rest in
    let anew : SealedAnew at (λ content. resized content c.args.len) = record {
      r = c.seal_length.new.self;
      sealed = c.in-Ok.ensures.resized;
      law = c.deeds_rewrite.ensures;
      inside = c.sealed_file-file.ensures.inside;
      puttable = c.in-Ok.ensures.puttable;
    } in
    let after : TreeAfter file anew.r c.args.modified c.args.now = record { live = c.commit.new.tree.live; claims = c.commit.new.tree.claims; live_is = c.in-Ok-commit.ensures.live (λ no. absurd cc); claims_are = c.in-Ok-commit.ensures.claims } in
    content_rewritten at (resizing_of file c.args.len c.args.modified c.args.now request answer its) anew after (c.in-Ok-commit.ensures.rows (λ no. absurd cc)) (g.D.Reads.log c.seal_length.new.folder) c.in-Ok.ensures.log (g.D.Reads.log c.commit.new.journal) (c.in-Ok-commit.ensures.any_moment (λ no. absurd cc))
    (g.E.Entropy.drawn c.args.entropy.now) (g.E.Entropy.drawn c.seal_length.new.entropy) c.in-Ok.ensures.drawn c.in-Ok-commit.ensures.committed

pub returns-in-Err-Device-clause-broken : goal.returns-in-Err-Device-clause-broken
returns-in-Err-Device-clause-broken g c = λ request answer its.
    let file = file_of c.args.tree.now c.args.number c.sealed_file-file.result.size c.requires.file.clear (c.sealed_file-file.ensures.file _ _ c.requires.file.is) in
    let at = told_at_rest file c.sealed_file-file.result.path c.sealed_file-file.ensures.path c.keys.result.now c.keys.ensures (g.D.Reads.log c.args.journal.now) c.requires.rest in
    let anew : SealedAnew at (λ content. resized content c.args.len) = record {
      r = c.seal_length.new.self;
      sealed = c.in-Ok.ensures.resized;
      law = c.deeds_rewrite.ensures;
      inside = c.sealed_file-file.ensures.inside;
      puttable = c.in-Ok.ensures.puttable;
    } in
    let after : TreeAfter file anew.r c.args.modified c.args.now = record { live = c.commit.new.tree.live; claims = c.commit.new.tree.claims; live_is = c.in-Err-Device.ensures.live (device_not_dropped c.in-Err-Device.field-0 c.in-Err-Device.field-0-is); claims_are = c.in-Err-Device.ensures.claims } in
    content_may_have_changed at (resizing_of file c.args.len c.args.modified c.args.now request answer its) anew after (c.in-Err-Device.ensures.rows (device_not_dropped c.in-Err-Device.field-0 c.in-Err-Device.field-0-is)) (g.D.Reads.log c.seal_length.new.folder) c.in-Ok.ensures.log (g.D.Reads.log c.commit.new.journal) (c.in-Err-Device.ensures.any_moment (device_not_dropped c.in-Err-Device.field-0 c.in-Err-Device.field-0-is))

pub returns-in-Err-Device-clause-nonces_broken : goal.returns-in-Err-Device-clause-nonces_broken
returns-in-Err-Device-clause-nonces_broken g c = λ request answer its.
    let file = file_of c.args.tree.now c.args.number c.sealed_file-file.result.size c.requires.file.clear (c.sealed_file-file.ensures.file _ _ c.requires.file.is) in
    let at = told_at_rest file c.sealed_file-file.result.path c.sealed_file-file.ensures.path c.keys.result.now c.keys.ensures (g.D.Reads.log c.args.journal.now) c.requires.rest in
    let anew : SealedAnew at (λ content. resized content c.args.len) = record {
      r = c.seal_length.new.self;
      sealed = c.in-Ok.ensures.resized;
      law = c.deeds_rewrite.ensures;
      inside = c.sealed_file-file.ensures.inside;
      puttable = c.in-Ok.ensures.puttable;
    } in
    let after : TreeAfter file anew.r c.args.modified c.args.now = record { live = c.commit.new.tree.live; claims = c.commit.new.tree.claims; live_is = c.in-Err-Device.ensures.live (device_not_dropped c.in-Err-Device.field-0 c.in-Err-Device.field-0-is); claims_are = c.in-Err-Device.ensures.claims } in
    content_may_have_rewritten at (resizing_of file c.args.len c.args.modified c.args.now request answer its) anew after (c.in-Err-Device.ensures.rows (device_not_dropped c.in-Err-Device.field-0 c.in-Err-Device.field-0-is)) (g.D.Reads.log c.seal_length.new.folder) c.in-Ok.ensures.log (g.D.Reads.log c.commit.new.journal) (c.in-Err-Device.ensures.any_moment (device_not_dropped c.in-Err-Device.field-0 c.in-Err-Device.field-0-is))
    (g.E.Entropy.drawn c.args.entropy.now) (g.E.Entropy.drawn c.seal_length.new.entropy) c.in-Ok.ensures.drawn

pub returns-in-Err-Dropped-clause-refused : goal.returns-in-Err-Dropped-clause-refused
returns-in-Err-Dropped-clause-refused g c = λ request answer its.
    let file = file_of c.args.tree.now c.args.number c.sealed_file-file.result.size c.requires.file.clear (c.sealed_file-file.ensures.file _ _ c.requires.file.is) in
    let at = told_at_rest file c.sealed_file-file.result.path c.sealed_file-file.ensures.path c.keys.result.now c.keys.ensures (g.D.Reads.log c.args.journal.now) c.requires.rest in
    content_refused at (resizing_of file c.args.len c.args.modified c.args.now request answer its) write_errs.Device refusals.DeviceFault refl (λ no. absurd cc)

pub returns-in-Err-clause-refused : goal.returns-in-Err-clause-refused
returns-in-Err-clause-refused g c = λ request answer its.
    let file = file_of c.args.tree.now c.args.number c.sealed_file-file.result.size c.requires.file.clear (c.sealed_file-file.ensures.file _ _ c.requires.file.is) in
    let at = told_at_rest file c.sealed_file-file.result.path c.sealed_file-file.ensures.path c.keys.result.now c.keys.ensures (g.D.Reads.log c.args.journal.now) c.requires.rest in
    content_refused at (resizing_of file c.args.len c.args.modified c.args.now request answer its) c.in-Err.cause c.refusal_of.result c.refusal_of.ensures c.in-Err.ensures.damaged

pub returns-in-Err-clause-cause : goal.returns-in-Err-clause-cause
returns-in-Err-clause-cause g c = λ request.
    let file = file_of c.args.tree.now c.args.number c.sealed_file-file.result.size c.requires.file.clear (c.sealed_file-file.ensures.file _ _ c.requires.file.is) in
    let at = told_at_rest file c.sealed_file-file.result.path c.sealed_file-file.ensures.path c.keys.result.now c.keys.ensures (g.D.Reads.log c.args.journal.now) c.requires.rest in
    request_cause at c.in-Err.cause c.refusal_of.result c.refusal_of.ensures _ _ _ c.in-Err.ensures.device c.in-Err.ensures.random request

pub returns-in-Err-clause-own : goal.returns-in-Err-clause-own
returns-in-Err-clause-own g c =
    let file = file_of c.args.tree.now c.args.number c.sealed_file-file.result.size c.requires.file.clear (c.sealed_file-file.ensures.file _ _ c.requires.file.is) in
    let at = told_at_rest file c.sealed_file-file.result.path c.sealed_file-file.ensures.path c.keys.result.now c.keys.ensures (g.D.Reads.log c.args.journal.now) c.requires.rest in
    content_cause at c.in-Err.cause c.refusal_of.result c.refusal_of.ensures _ _ _ c.in-Err.ensures.device c.in-Err.ensures.random
