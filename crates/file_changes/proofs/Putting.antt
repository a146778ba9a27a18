-- What waits for a commit are the deeds of what is sealed, and they can be done.
use Rattle.std.proofs.Common.{◌≡◌, ℕ, List, Option, sym, ap, ◌∙◌, subst, arith}
use Rattle.outside.specs.Calls.{Told}
use Rattle.outside.specs.Disk.{Disk, Path as HostPath}
use Rattle.outside.specs.Images.{Log, now}
use Rattle.outside.proofs.Told.{told_then}
use Rattle.deeds.specs.Deeds.{PlainDeed, DoesAll, in_order}
use Rattle.content_laws.specs.Rewriting.{Rewriting}
use Rattle.write_back.specs.Deeds.{deeds_of, DeedsRewrite}
use Rattle.content_writer.specs.Sealed.{IsPuttable}
use Rattle.pending_files.specs.Pending.{IsInside}
use Rattle.file_changes.specs.Files.{HasFileFor}

pub same_rewriting : (r : Rewriting) (first size : ℕ) (sealed : List (List ℕ)) → first ≡ r.first → sealed ≡ r.sealed → size ≡ r.size → record { first = first; sealed = sealed; size = size } ≡ r
same_rewriting r first size sealed f c z =
    ap (λ (a : ℕ). record { first = a; sealed = sealed; size = size }) f
    ∙ ap (λ (b : List (List ℕ)). record { first = r.first; sealed = b; size = size }) c
    ∙ ap (λ (n : ℕ). record { first = r.first; sealed = r.sealed; size = n }) z

pub can_be_done : (log : Option Log) (path : HostPath) (size : ℕ) (r : Rewriting) (deeds : List PlainDeed) → DeedsRewrite → IsInside path → IsPuttable size r → Told log (λ (l : Log). HasFileFor (now l) path r) → deeds ≡ deeds_of path r
    → Told log (λ (l : Log). (after : Disk) × DoesAll (in_order deeds) (now l) after)
can_be_done log path size r deeds law inside puttable has are =
    told_then log (λ (l : Log). HasFileFor (now l) path r) (λ (l : Log). (after : Disk) × DoesAll (in_order deeds) (now l) after) has
    (λ l file.
    let done = law (now l) path file.bytes r file.tree inside file.there file.can puttable.fits (omega (arith, puttable.few)) in
    (done.after, subst (λ (ds : List PlainDeed). DoesAll (in_order ds) (now l) done.after) (sym are) done.does))
