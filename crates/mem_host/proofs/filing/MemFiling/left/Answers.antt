use Rattle.std.proofs.Common.{◌≡◌, ◌≤◌, length, take, List, sym, ap, subst, ◌∙◌, arith}
use Rattle.std.proofs.lemmas.List.{take_all}
use Rattle.host_calls.specs.Bytes.{Filed, MayHold}
use Rattle.host_calls.specs.Story.{bytes_of}
use Rattle.mem_host.specs.Filing.{Filing, files_from}
use Rattle.mem_host.specs.Cuts.{AreLeft}
use Rattle.mem_host.proofs.Files.{is_filing}
use Rattle.mem_host.proofs.Cuts.{AreEachLeft, file_more, all_left, all_settled, as_many}
use Rattle.mem_host.proofs.filing.MemFiling.left.Goals as goal

pub loop-file-preserved : goal.loop-file-preserved
loop-file-preserved c =
    file_more c.deref-file-items.result.now c.loop-file.files.items c.push.new.self.items c.loop-file.file-index c.file-item.result c.in_ok-lasting.field-0
    c.loop-file-test.true c.file-item.is c.in_ok-push.ensures.items c.loop-file.invariant
    (subst (λ (f : Filed). MayHold c.file-item.result.lasting c.file-item.result.steps (bytes_of f)) (sym c.in_ok-lasting.ensures) c.in_ok-bytes.ensures)
    (ap (λ (f : Filed). f.steps) c.in_ok-lasting.ensures)

pub returns-clause-left : goal.returns-clause-left
returns-clause-left c =
    let past : length c.deref-file-items.result.now ≤ c.loop-file.file-index = omega (arith, c.loop-file-test.false) in
    let whole : take c.loop-file.file-index c.deref-file-items.result.now ≡ c.self.inside.files.items = take_all c.loop-file.file-index c.deref-file-items.result.now past ∙ c.deref-file-items.ensures.value in
    let each = subst (λ (l : List Filed). AreEachLeft l c.loop-file.files.items) whole c.loop-file.invariant in
    subst (λ (f : Filing). AreLeft f.held (files_from 0 c.loop-file.files.items)) c.self.view_is (all_left 0 c.self.inside.files.items c.loop-file.files.items each)

pub returns-clause-settled : goal.returns-clause-settled
returns-clause-settled c = all_settled 0 (take c.loop-file.file-index c.deref-file-items.result.now) c.loop-file.files.items c.loop-file.invariant

pub returns-clause-count : goal.returns-clause-count
returns-clause-count c =
    let past : length c.deref-file-items.result.now ≤ c.loop-file.file-index = omega (arith, c.loop-file-test.false) in
    let whole : take c.loop-file.file-index c.deref-file-items.result.now ≡ c.self.inside.files.items = take_all c.loop-file.file-index c.deref-file-items.result.now past ∙ c.deref-file-items.ensures.value in
    as_many (take c.loop-file.file-index c.deref-file-items.result.now) c.loop-file.files.items c.loop-file.invariant ∙ ap length whole ∙ ap (λ (f : Filing). f.count) c.self.view_is

pub returns-clause-filing : goal.returns-clause-filing
returns-clause-filing c = is_filing c.loop-file.files.items
