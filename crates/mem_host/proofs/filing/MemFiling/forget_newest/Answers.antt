use Rattle.std.proofs.Common.{◌≡◌, ◌<◌, length, ap, arith}
use Rattle.std.specs.Vec.{vec_len}
use Rattle.mem_host.specs.Filing.{Filing}
use Rattle.mem_host.proofs.Creating.{filing_popped}
use Rattle.mem_host.proofs.filing.MemFiling.forget_newest.Goals as goal

pub returns : goal.returns
returns c =
    let count : length c.self.inside.files.items ≡ c.args.self.now.count = ap (λ (f : Filing). f.count) c.self.view_is in
    let any : 0 < vec_len c.self.inside.files = omega (arith, count, c.requires, c.self.inside.files.ok.0) in
    filing_popped c.pop.new.self.items c.self.inside.files.items c.pop.result c.args.self.now c.pop.ensures.items c.self.view_is (c.pop.ensures.variant.1 any)
