use Rattle.std.proofs.Common.{ℕ, List, [], ◌∷◌, ◌++◌, length, ap, ◌∙◌, arith}
use Rattle.outside.specs.Disk.{Path}
use Rattle.write_back.specs.Headers.{plain_headers}
use Rattle.write_back.proofs.Fitting.{headers_long, headers_pushed}
use Rattle.write_back.proofs.headers.Headers.keep.Goals as goal

pub push_kept-requires-clause-few : goal.push_kept-requires-clause-few
push_kept-requires-clause-few c = omega (arith, c.requires, ap length c.self.view_is, headers_long c.self.inside.kept.items, c.self.inside.kept.ok)

pub returns : goal.returns
returns c =
    ap plain_headers c.push_kept.ensures.kept ∙ headers_pushed c.self.inside.kept.items _
    ∙ ap (λ (l : List (Path × List ℕ)). l ++ (c.copied.result, c.args.header.now) ∷ []) c.self.view_is
    ∙ ap (λ (p : Path). c.args.self.now ++ (p, c.args.header.now) ∷ []) c.copied.ensures
