use Rattle.std.proofs.Common.{◌≡◌, ◌*◌, ◌/◌, ◌%◌, ◌<◌, ℕ, List, [], ◌∷◌, ◌++◌, take, ap, sym, subst, ◌∙◌, arith}
use Rattle.std.proofs.lemmas.Result.{err_from_is_err_and}
use Rattle.outside.specs.Images.{disk_in}
use Rattle.outside.proofs.Told.{told_always, told_then}
use Rattle.tree_model.specs.Contents.{resized}
use Rattle.file_chunks.specs.File.{content_of}
use Rattle.content_laws.specs.Rewriting.{IsSealed}
use Rattle.content_laws.specs.Laws.{IsRewritten, cut_by}
use Rattle.content_writer.proofs.cutting.seal_cut.Goals as goal

pub returns-then-kept-eq0-clause-cut : goal.returns-then-kept-eq0-clause-cut
returns-then-kept-eq0-clause-cut g c =
    told_always (disk_in (g.R.Reads.log c.args.folder.now)) _ (λ d keys bytes file.
    subst (λ (sealed : List (List ℕ)). IsRewritten keys bytes (cut_by c.args.len sealed) (resized (content_of keys bytes) c.args.len)) (sym c.clear.ensures)
    (c.resized_content.ensures.border keys c.args.content.now.header c.args.content.now.length bytes c.args.len file.opened c.requires.shorter c.if-kept-eq0.true))

pub returns-in_err-fetch-clause-damaged : goal.returns-in_err-fetch-clause-damaged
returns-in_err-fetch-clause-damaged g c =
    let p = err_from_is_err_and c.from_residual.result c.from_residual.ensures.1 in
    let kept : 0 < c.args.len % 32768 = omega (arith, c.if-kept-eq0.false) in
    rw (p.1, p.2) (λ e. told_then (disk_in (g.R.Reads.log c.args.folder.now)) _ _ (c.in_err-fetch.ensures.damaged e).closed (λ d closed keys bytes file.
    c.resized_content.ensures.damaged keys c.args.content.now.header c.args.content.now.length bytes c.args.len file.opened c.requires.shorter kept
    (c.cut_chunk.ensures.damaged keys c.args.content.now.header c.args.content.now.length bytes c.args.len file.opened c.requires.shorter kept (closed keys bytes file))))

pub returns-clause-cut : goal.returns-clause-cut
returns-clause-cut g c =
    let kept : 0 < c.args.len % 32768 = omega (arith, c.if-kept-eq0.false) in
    let inside : 32768 * (c.args.len / 32768) < c.args.content.now.length = omega (arith, kept, c.requires.shorter) in
    let pushed = c.in_ok-push.ensures.pushed in
    let is : c.bytes.result.now ≡ take (c.args.len % 32768) c.fetch.new.plaintext = c.bytes.ensures.bytes ∙ c.truncate.ensures in
    let sealed : IsSealed c.args.content.now.header (c.args.len / 32768) pushed.sealed (take (c.args.len % 32768) c.fetch.new.plaintext) =
    subst (λ (p : List ℕ). IsSealed c.args.content.now.header (c.args.len / 32768) pushed.sealed p) is pushed.is in
    let alone : c.push.new.self ≡ pushed.sealed ∷ [] = pushed.pushed ∙ ap (λ (cs : List (List ℕ)). cs ++ pushed.sealed ∷ []) c.clear.ensures in
    told_then (disk_in (g.R.Reads.log c.args.folder.now)) _ _ (c.in_ok-fetch.ensures.old.opens inside) (λ d opens keys bytes file.
    subst (λ (cs : List (List ℕ)). IsRewritten keys bytes (cut_by c.args.len cs) (resized (content_of keys bytes) c.args.len)) (sym alone)
    (c.resized_content.ensures.within keys c.args.content.now.header c.args.content.now.length bytes c.args.len pushed.sealed (take (c.args.len % 32768) c.fetch.new.plaintext) file.opened
    c.requires.shorter kept
    (c.cut_chunk.ensures.opened keys c.args.content.now.header c.args.content.now.length bytes c.args.len c.fetch.new.plaintext file.opened c.requires.shorter kept (opens keys bytes file)) sealed))
