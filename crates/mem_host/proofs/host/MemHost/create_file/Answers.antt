use Rattle.std.proofs.Common.{◌≡◌, true, subst, sym, ◌∙◌}
use Rattle.host_calls.specs.Names.{CanMake}
use Rattle.host_calls.specs.Story.{names_now}
use Rattle.host_calls.specs.Calls.{HasCreated}
use Rattle.mem_host.specs.Filing.{Filing}
use Rattle.mem_host.specs.Holding.{Naming, Holding, IsHolding}
use Rattle.mem_host.proofs.Keeping.{story_of, new_filed}
use Rattle.mem_host.proofs.Creating.{IsMade, holds_made, created_made, taken_back}
use Rattle.mem_host.proofs.host.MemHost.create_file.Goals as goal

pub invariant_of-self-in-Err : goal.invariant_of-self-in-Err
invariant_of-self-in-Err c =
    let a = c.self.inside in
    let left : c.forget_newest.new.self ≡ a.files = taken_back a.files c.create.new.self c.forget_newest.new.self (new_filed c.args.bytes.now) c.self.invariant.files c.in_ok-create.ensures.ok c.forget_newest.ensures in
    subst (λ (n : Naming). IsHolding a.top c.forget_newest.new.self (story_of n c.forget_newest.new.self a.doubt a.diary.log a.unnoted)) (sym c.in-Err.ensures.err)
    (subst (λ (f : Filing). IsHolding a.top f (story_of a.naming f a.doubt a.diary.log a.unnoted)) (sym left) c.self.invariant)

pub returns-in-Err-clause-err : goal.returns-in-Err-clause-err
returns-in-Err-clause-err c =
    let a = c.self.inside in
    let names : c.take.new.self ≡ a.naming = c.in-Err.ensures.err in
    let left : c.forget_newest.new.self ≡ a.files = taken_back a.files c.create.new.self c.forget_newest.new.self (new_filed c.args.bytes.now) c.self.invariant.files c.in_ok-create.ensures.ok c.forget_newest.ensures in
    let view : Naming → Filing → Holding = λ n f. record { top = a.top; story = story_of n f a.doubt a.diary.log a.unnoted; plan = a.plan } in
    let seen : view c.take.new.self c.forget_newest.new.self ≡ view a.naming a.files = λ i. view (names i) (left i) in
    seen ∙ c.self.view_is

pub invariant_of-self-2 : goal.invariant_of-self-2
invariant_of-self-2 c =
    let a = c.self.inside in
    let can = subst (λ (h : Holding). CanMake (names_now h.story) c.args.path) (sym c.self.view_is) c.requires in
    let made : IsMade a.files c.create.new.self a.naming c.take.new.self c.args.path c.args.bytes.now c.next_inode-inode.result =
    record { number = c.next_inode-inode.ensures.inode; files = c.in_ok-create.ensures.ok; names = c.in_default.ensures.ok } in
    holds_made a.top a.files c.create.new.self a.naming c.take.new.self a.doubt a.diary.log a.unnoted c.args.path c.args.bytes.now c.next_inode-inode.result c.self.invariant can made

pub returns-clause-ok : goal.returns-clause-ok
returns-clause-ok c =
    let a = c.self.inside in
    let can = subst (λ (h : Holding). CanMake (names_now h.story) c.args.path) (sym c.self.view_is) c.requires in
    let made : IsMade a.files c.create.new.self a.naming c.take.new.self c.args.path c.args.bytes.now c.next_inode-inode.result =
    record { number = c.next_inode-inode.ensures.inode; files = c.in_ok-create.ensures.ok; names = c.in_default.ensures.ok } in
    subst (λ (h : Holding). HasCreated c.args.path c.args.bytes.now h.story (story_of c.take.new.self c.create.new.self a.doubt a.diary.log true)) c.self.view_is
    (created_made a.top a.files c.create.new.self a.naming c.take.new.self a.doubt a.diary.log a.unnoted c.args.path c.args.bytes.now c.next_inode-inode.result c.self.invariant can made)
