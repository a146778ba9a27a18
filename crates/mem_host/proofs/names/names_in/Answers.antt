use Rattle.std.proofs.Common.{◌≡◌, ◌++◌, [], ◌∷◌, sym, ◌∙◌, subst, arith}
use Rattle.std.specs.Map.Iter.{deref}
use Rattle.std.proofs.lemmas.Grind.{common_steps}
use Rattle.std.proofs.lemmas.Map.Iter.{rest_more, rest_all}
use Rattle.mem_host.specs.Entries.{names_of, AreNamesIn}
use Rattle.mem_host.proofs.Listing.{step_some, step_none, all_named, listing}
use Rattle.mem_host.proofs.names.names_in.Goals as goal

pub loop-path-preserved-in_ok-push : goal.loop-path-preserved-in_ok-push
loop-path-preserved-in_ok-push c =
    let pushed : c.push.new.self.items ≡ c.loop-path.names.items ++ c.in-Some-name_in.name.now ∷ [] = grind (arith, common_steps) in
    rw pushed (step_some c.loop-path.names.items c.args.folder.now c.in-Some.path.now c.in-Some-name_in.name.now _ _ (rest_more deref _ _ c.next.result c.in-Some.path c.in-Some.is c.next.ensures.steps) c.in-Some-name_in.ensures ∙ c.loop-path.invariant)

pub loop-path-preserved : goal.loop-path-preserved
loop-path-preserved c =
    step_none c.loop-path.names.items c.args.folder.now c.in-Some.path.now _ _ (rest_more deref _ _ c.next.result c.in-Some.path c.in-Some.is c.next.ensures.steps) c.in_default.ensures ∙ c.loop-path.invariant

pub returns : goal.returns
returns c =
    let named = all_named c.loop-path.names.items c.args.folder.now _ _ (rest_all deref _ _ c.next.result c.in-None.is c.next.ensures.steps) c.loop-path.invariant in
    subst (AreNamesIn (names_of c.args.held.now.entries) c.args.folder.now) (sym named) (listing c.args.held.now.entries c.args.folder.now c.keys-path-items.ensures.ordered)
