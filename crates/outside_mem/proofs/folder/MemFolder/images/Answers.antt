use Rattle.std.proofs.Common.{List, ◌+◌, ◌++◌, ◌∷◌, [], map, length, take, min, sym, ap, subst, ◌∙◌, arith}
use Rattle.std.specs.List.{AllByRecursion}
use Rattle.outside.specs.Changes.{Change}
use Rattle.outside_mem.specs.Held.{Holding}
use Rattle.outside_mem.specs.Kept.{IsStopped}
use Rattle.outside_mem.specs.Pictures.{changes_since, synced_disk, pictured, ArePictures}
use Rattle.outside_mem.specs.Choices.{chosen, all_choices}
use Rattle.outside_mem.specs.declared.images.Choice.{Choice}
use Rattle.outside_mem.proofs.Pictures.{stopped_more, pictures_more, pictures_count, count_since}
use Rattle.outside_mem.proofs.Choices.{chosen_more, chosen_first, count_pictured}
use Rattle.outside_mem.proofs.folder.MemFolder.images.Goals as goal

pub loop-number-preserved : goal.loop-number-preserved
loop-number-preserved c =
    let log = c.args.self.now.log in
    let since = changes_since log.calls in
    let synced = synced_disk log.start log.calls in
    let made = λ (choice : Choice). chosen choice since in
    let choices = c.in_ok-choices.choices.items in
    let images = c.loop-number.images.items in
    let image = c.in_ok-image.field-0 in
    let choice = c.index.result.now in
    let n = c.loop-number.number in
    record {
      stopped =
          subst (λ (all : List Holding). AllByRecursion (IsStopped log) all) (sym c.in_ok-push.ensures.items)
          (stopped_more log images image c.loop-number.invariant.stopped c.in_ok-image.ensures.stopped);
      pictured =
          subst (λ (all : List Holding). ArePictures synced (map made (take (n + 1) choices)) all) (sym c.in_ok-push.ensures.items)
          (subst (λ (all : List (List Change)). ArePictures synced all (images ++ image ∷ []))
          (sym (chosen_more since choices choice n (omega (arith, c.loop-number-test.true, c.min-count.ensures, c.len.ensures)) c.index.ensures))
          (pictures_more synced (map made (take n choices)) images (made choice) image c.loop-number.invariant.pictured c.in_ok-image.ensures.chosen));
    }

pub returns-clause-listed : goal.returns-clause-listed
returns-clause-listed c =
    let log = c.args.self.now.log in
    let since = changes_since log.calls in
    let calls = c.kept_calls-calls.result.now in
    let choices = c.in_ok-choices.choices.items in
    let counted = count_since log calls c.synced_len.result c.kept_calls-calls.ensures.calls c.synced_len.ensures.within (c.synced_len.ensures.since log.start) in
    subst (λ (all : List (List Change)). ArePictures (synced_disk log.start log.calls) all c.loop-number.images.items)
    (chosen_first since choices c.args.most c.loop-number.number (c.in_ok-choices.ensures ∙ ap all_choices counted)
    (omega (arith, c.loop-number-test.false, c.loop-number.auto.number-end, c.min-count.ensures, c.len.ensures)))
    c.loop-number.invariant.pictured

pub returns-clause-count : goal.returns-clause-count
returns-clause-count c =
    let log = c.args.self.now.log in
    let since = changes_since log.calls in
    pictures_count (synced_disk log.start log.calls) (take c.args.most (pictured since)) c.loop-number.images.items (returns-clause-listed c)
    ∙ count_pictured since c.args.most

pub returns-clause-few : goal.returns-clause-few
returns-clause-few c = let count = returns-clause-count c in omega (arith, count)
