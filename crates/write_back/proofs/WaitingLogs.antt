-- Changes that wait over a log that may be told.
use Rattle.std.proofs.Common.{◌≡◌, ℕ, ◌<◌, ◌^◌, List, length, Option, Some, None, sym, ap, ◌∙◌, subst}
use Rattle.outside.specs.Calls.{Told}
use Rattle.outside.specs.Disk.{Disk, Path, Node, node_at, file}
use Rattle.outside.specs.Changes.{bytes_or_none}
use Rattle.outside.specs.Images.{Log, now}
use Rattle.deeds.specs.Deeds.{PlainDeed}
use Rattle.pending_files.specs.Pending.{HasRoom}
use Rattle.pending_files.specs.Laid.{laid, CanWait}
use Rattle.live_tree_laws.specs.Writing.{IsRewritten}
use Rattle.content_laws.specs.Rewriting.{Rewriting, CanPutChunks, rewritten}
use Rattle.write_back.specs.Deeds.{rewriting_in, RewritesLaid}
use Rattle.write_back.proofs.Laying.{rewrites_laid}
use Rattle.write_back.specs.Shown.{HasFile}

module _ (ds : List PlainDeed) (path : Path) (len : ℕ) (r : Rewriting) (room : HasRoom ds path (length r.sealed)) (puts : CanPutChunks r.size len r.first r.sealed) (fits : r.size < 2 ^ 64) where
  one_put : (d : Disk) (bytes : List ℕ) → CanWait ds d → HasFile ds path len d → node_at (laid ds d) path ≡ Some (file bytes)
      → CanWait (rewriting_in path len r ds) d × IsRewritten (laid ds d) (laid (rewriting_in path len r ds) d) path (rewritten bytes r)
  one_put d bytes can has here =
      let long : len ≡ length bytes = sym has.long ∙ ap (λ (o : Option Node). length (bytes_or_none o)) (sym has.here ∙ here) in
      let is : RewritesLaid ds d path bytes r = rewrites_laid ds d path bytes r can has.tree room.inside here (subst (λ (n : ℕ). CanPutChunks r.size n r.first r.sealed) long puts) room fits in
      subst (λ (n : ℕ). CanWait (rewriting_in path n r ds) d × IsRewritten (laid ds d) (laid (rewriting_in path n r ds) d) path (rewritten bytes r)) (sym long) (is.waits, is.is)

  pub put_waits : (log : Option Log) → Told log (λ l. CanWait ds (now l)) → Told log (λ l. HasFile ds path len (now l)) → Told log (λ l. CanWait (rewriting_in path len r ds) (now l))
  put_waits None can has = tt
  put_waits (Some l) can has = (one_put (now l) has.bytes can has has.here).0

  pub put_rewrites : (log : Option Log) → Told log (λ l. CanWait ds (now l)) → Told log (λ l. HasFile ds path len (now l))
      → Told log (λ l. (bytes : List ℕ) → node_at (laid ds (now l)) path ≡ Some (file bytes) → IsRewritten (laid ds (now l)) (laid (rewriting_in path len r ds) (now l)) path (rewritten bytes r))
  put_rewrites None can has = tt
  put_rewrites (Some l) can has = λ bytes here. (one_put (now l) bytes can has here).1
