use Rattle.std.proofs.Common.{suc, refl, sym}
use Rattle.tree_loading.specs.Format.{sealing_of}
use Rattle.name_places.proofs.Indexed.{below_none, below_put}
use Rattle.name_places.proofs.claims.Claims.take_in.Goals as goal

pub returns-in_ok-put-in-Some : goal.returns-in_ok-put-in-Some
returns-in_ok-put-in-Some c =
    below_put (sealing_of c.args.keys.now) c.args.live.now c.args.number (suc c.args.number) refl c.requires.below c.in-Some.folder (sym c.in-Some.ensures) c.args.self.now c.put.new.self
    c.in_ok-put-in-Some.ensures.put c.requires.before

pub returns-in-None : goal.returns-in-None
returns-in-None c =
    below_none (sealing_of c.args.keys.now) c.args.live.now c.args.number (suc c.args.number) refl c.args.self.now (sym c.in-None.ensures) c.requires.before
