use Rattle.std.proofs.Common.{◌≡◌, take, sym, ap, subst, ◌∙◌}
use Rattle.outside.specs.Disk.{Disk}
use Rattle.outside.specs.Images.{now, IsImage}
use Rattle.outside_mem.specs.Held.{Holding, bare}
use Rattle.outside_mem.specs.Kept.{disk_by}
use Rattle.outside_mem.specs.Pictures.{changes_since, synced_disk, AreTried}
use Rattle.outside_mem.specs.Choices.{left_of_call, chosen}
use Rattle.outside_mem.specs.declared.images.Leaves.{Leaves}
use Rattle.outside_mem.proofs.Logs.{sound_kept, sound_up_to}
use Rattle.outside_mem.proofs.Pictures.{picture_begun, picture_more, picture_whole, picture_image}
use Rattle.outside_mem.proofs.folder.MemFolder.image.Goals as goal

pub replayed-requires-clause-calls : goal.replayed-requires-clause-calls
replayed-requires-clause-calls c =
    let start = disk_by bare c.first_calls-first.result.now in
    let calls = c.kept_calls-calls.result.now in
    sound_up_to start calls c.synced_len-synced.result (sound_kept c.args.self.now.log start calls c.first_calls-first.ensures.start c.kept_calls-calls.ensures.calls c.kept_calls-calls.ensures.sound)

pub loop-index-init : goal.loop-index-init
loop-index-init c =
    let log = c.args.self.now.log in
    let calls = c.kept_calls-calls.result.now in
    let d = now c.in_ok-image.image.log in
    let is : d ≡ disk_by log.start (take c.synced_len-synced.result calls) =
    subst (λ (s : Disk). d ≡ disk_by s (take c.synced_len-synced.result calls)) (sym c.first_calls-first.ensures.start) c.in_ok-image.ensures.disk in
    record {
      start = c.in_ok-image.ensures.start;
      picture = picture_begun c.args.choice log.start calls c.synced_len-synced.result d c.synced_len-synced.ensures.within (c.synced_len-synced.ensures.since log.start) is;
    }

pub loop-index-preserved : goal.loop-index-preserved
loop-index-preserved c =
    let calls = c.kept_calls-calls.result.now in
    let start = c.args.self.now.log.start in
    let old = now c.loop-index.image.log in
    let new = now c.in_ok-image-2.image.log in
    let call = c.index-calls-index.result in
    record {
      start = c.in_ok-image-2.ensures.start ∙ c.loop-index.invariant.start;
      picture =
          picture_more c.args.choice start calls c.loop-index.index call c.synced_len-synced.result old new
          c.loop-index-test.true c.index-calls-index.is c.loop-index.auto.index (c.synced_len-synced.ensures.since start)
          c.loop-index.invariant.picture
          (subst (λ (l : Leaves). AreTried (left_of_call l call) old new) c.leaves-leaves.ensures c.in_ok-image-2.ensures.tried);
    }

pub returns-clause-stopped : goal.returns-clause-stopped
returns-clause-stopped c =
    let log = c.args.self.now.log in
    let d = now c.loop-index.image.log in
    let picture = picture_whole c.args.choice log c.kept_calls-calls.result.now c.loop-index.index d c.kept_calls-calls.ensures.calls c.loop-index-test.false c.loop-index.invariant.picture in
    record {
      image = subst (λ (h : Holding). IsImage log h.log.start) (sym c.restarted.ensures) (picture_image c.args.choice log.start log.calls d c.kept_calls-calls.ensures.sound picture).0;
      calls = ap (λ h. h.log.calls) c.restarted.ensures;
      changes = ap (λ h. h.changes) c.restarted.ensures;
      plan = ap (λ h. h.plan) c.restarted.ensures;
    }

pub returns-clause-chosen : goal.returns-clause-chosen
returns-clause-chosen c =
    let log = c.args.self.now.log in
    subst (λ (h : Holding). AreTried (chosen c.args.choice (changes_since log.calls)) (synced_disk log.start log.calls) (now h.log)) (sym c.restarted.ensures)
    (picture_whole c.args.choice log c.kept_calls-calls.result.now c.loop-index.index (now c.loop-index.image.log) c.kept_calls-calls.ensures.calls c.loop-index-test.false c.loop-index.invariant.picture)
