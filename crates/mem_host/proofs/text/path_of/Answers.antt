use Rattle.std.proofs.Common.{◌≡◌, ◌++◌, List, ℕ, IfSome, Option, Some, None}
use Rattle.std.proofs.lemmas.Slice.Eq.{strip_prefix_is}
use Rattle.std.proofs.lemmas.Bool.Decides.{Decides-eqb}
use Rattle.outside.specs.Disk.{Path}
use Rattle.mem_host.specs.Texts.{IsOnlyTextOf, IsPathOf}
use Rattle.mem_host.proofs.Texts.{only_text}
use Rattle.mem_host.proofs.text.path_of.Goals as goal

each : (top text rest : List ℕ) (o : Option Path) → ((p : Path) → IsPathOf rest p → IsOnlyTextOf top text p) → IfSome o (IsPathOf rest) → IfSome o (IsOnlyTextOf top text)
each top text rest None only h = h
each top text rest (Some p) only h = only p h

pub returns : goal.returns
returns c =
    let top = c.args.top.now in
    let text = c.args.text.now in
    let rest = c.in_ok-rest.rest.now in
    let whole : text ≡ top ++ rest = strip_prefix_is Decides-eqb text top (Some c.in_ok-rest.rest) c.in_ok-rest.ensures.cases in
    each top text rest c.parts_of.result (λ p. only_text top text rest p c.requires whole) c.parts_of.ensures
