use Rattle.std.proofs.Common.{◌≡◌, false, is_some}
use Rattle.name_places.specs.Claims.{number_in}
use Rattle.name_places.proofs.Indexed.{put_over, numbered_new}
use Rattle.name_places.proofs.claims.Claims.put.Goals as goal

pub returns-clause-put : goal.returns-clause-put
returns-clause-put c =
    let free : is_some (number_in c.args.self.now c.args.folder) ≡ false = cc (c.first.ensures, c.is_some.ensures, c.if-is_some.false) in
    put_over c.args.self.now c.self.inside.numbers.entries c.insert.new.self.entries c.args.folder c.args.number c.self.view_is free c.in_ok-insert.ensures.updates.0

pub returns-clause-inserted : goal.returns-clause-inserted
returns-clause-inserted c =
    let free : is_some (number_in c.args.self.now c.args.folder) ≡ false = cc (c.first.ensures, c.is_some.ensures, c.if-is_some.false) in
    numbered_new c.args.self.now c.self.inside.numbers.entries c.insert.new.self.entries c.args.folder c.args.number c.self.view_is free c.in_ok-insert.ensures.entries
