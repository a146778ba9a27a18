use Rattle.std.proofs.Common.{refl, arith}
use Rattle.outside.specs.Views.{folder_in}
use Rattle.tree_model.specs.declared.refusal.Refusal.TheVariants as refusals
use Rattle.tree_model.specs.declared.reply.Reply.TheVariants as replies
use Rattle.tree_model.specs.Asked.{read}
use Rattle.vault_store.proofs.Lookups.{kept_reply}
use Rattle.vault_store.proofs.HostReads.{read_refused, read_bytes, read_damaged, read_device, read_unplaced}
use Rattle.vault_store.proofs.reading.read.Goals as goal

pub returns-in-Err-clause-still : goal.returns-in-Err-clause-still
returns-in-Err-clause-still g c = λ claims entries second source.
    let before = folder_in g.R.Reads c.args.folder.now in
    kept_reply c.args.keys.now c.args.tree.now claims before before (read c.args.node c.args.slice.at c.args.slice.count) entries second (replies.Refused c.in-Err.refusal) c.args.buffer.now c.args.buffer.now
    (read_refused c.args.keys.now c.args.tree.now claims before before c.args.node c.args.slice.at c.args.slice.count c.in-Err.refusal c.args.buffer.now c.in-Err.ensures.refused)
    (read_unplaced c.args.node c.args.slice.at c.args.slice.count) (omega arith) refl source

pub returns-in-Ok-read-clause-still : goal.returns-in-Ok-read-clause-still
returns-in-Ok-read-clause-still g c = λ claims entries second source.
    let before = folder_in g.R.Reads c.args.folder.now in
    let after = folder_in g.R.Reads c.read.new.folder in
    kept_reply c.args.keys.now c.args.tree.now claims before after (read c.args.node c.args.slice.at c.args.slice.count) entries second (replies.Count c.in-Ok-read.count) c.args.buffer.now c.read.new.buffer
    (read_bytes c.args.keys.now c.args.tree.now claims before after c.args.node c.args.slice.at c.args.slice.count c.in-Ok.host c.in-Ok.ensures.file
    c.in-Ok-read.count c.args.buffer.now c.read.new.buffer c.in-Ok-read.ensures.count (omega (arith, c.requires.room, c.read.auto.buffer)) c.in-Ok-read.ensures.rest c.in-Ok-read.ensures.bytes)
    (read_unplaced c.args.node c.args.slice.at c.args.slice.count) c.in-Ok-read.ensures.later c.in-Ok-read.ensures.log source

pub returns-in-Err-Damaged-clause-still : goal.returns-in-Err-Damaged-clause-still
returns-in-Err-Damaged-clause-still g c = λ claims entries second source.
    let before = folder_in g.R.Reads c.args.folder.now in
    let after = folder_in g.R.Reads c.read.new.folder in
    kept_reply c.args.keys.now c.args.tree.now claims before after (read c.args.node c.args.slice.at c.args.slice.count) entries second (replies.Refused refusals.Damaged) c.args.buffer.now c.read.new.buffer
    (read_damaged c.args.keys.now c.args.tree.now claims before after c.args.node c.args.slice.at c.args.slice.count c.in-Ok.host c.in-Ok.ensures.file
    c.args.buffer.now c.read.new.buffer c.in-Err-Damaged.ensures.refused (rw c.in-Err-Damaged.field-0-is at c.in-Err-Damaged.ensures.bytes))
    (read_unplaced c.args.node c.args.slice.at c.args.slice.count) c.in-Err-Damaged.ensures.later c.in-Err-Damaged.ensures.log source

pub returns-in-Err-Device-clause-still : goal.returns-in-Err-Device-clause-still
returns-in-Err-Device-clause-still g c = λ claims entries second source.
    let before = folder_in g.R.Reads c.args.folder.now in
    let after = folder_in g.R.Reads c.read.new.folder in
    kept_reply c.args.keys.now c.args.tree.now claims before after (read c.args.node c.args.slice.at c.args.slice.count) entries second (replies.Refused refusals.DeviceFault) c.args.buffer.now c.read.new.buffer
    (read_device c.args.keys.now c.args.tree.now claims before after c.args.node c.args.slice.at c.args.slice.count c.in-Ok.host c.in-Ok.ensures.file
    c.args.buffer.now c.read.new.buffer c.in-Err-Device.ensures.refused c.requires.contents (c.in-Err-Device.ensures.device (rw c.in-Err-Device.field-0-is refl)) (rw c.in-Err-Device.field-0-is at c.in-Err-Device.ensures.bytes))
    (read_unplaced c.args.node c.args.slice.at c.args.slice.count) c.in-Err-Device.ensures.later c.in-Err-Device.ensures.log source
