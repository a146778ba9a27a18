use Rattle.std.proofs.Common.{inl, inr, arith}
use Rattle.outside.specs.Images.{now}
use Rattle.outside.proofs.Told.{told_both}
use Rattle.deeds.proofs.Doing.{told_disk}
use Rattle.chunk_journal.specs.Journal.{IsUnheld}
use Rattle.chunk_journal.specs.Opening.{HasLen, IsBadBehindGate}
use Rattle.chunk_journal.proofs.Damage.{HasRead, read_head, empty_closed, shut_closed, cut_is, cut_short, cut_unheld, says}
use Rattle.std.proofs.Common.{Some}
use Rattle.chunk_journal.proofs.reading.batch_len.Goals as goal
use Rattle.chunk_journal.proofs.reading.batch_len.Goals.{then-n-lt-HEAD_LEN-via-then-n-lt-HEAD_LEN, then-n-lt-HEAD_LEN-via-else-n-lt-HEAD_LEN+then-saturating_sub-said, then-n-eq0-via-then-n-eq0, then-n-eq0-via-else-n-eq0+then-head-ne-OPEN}

pub returns-then-n-eq0-clause-found : goal.returns-then-n-eq0-clause-found
returns-then-n-eq0-clause-found g c =
    let log = g.D.Reads.log c.args.folder.now in
    let p = c.args.journal.now in
    let head = c.read.new.out in
    let n = c.in_ok-n.n in
    let read = told_disk log (HasRead p head n) c.in_ok-n.ensures.bytes in
    elim c.then-n-eq0.branch [
      | then-n-eq0-via-then-n-eq0 w ↦ told_both log (λ l. HasLen (Some c.args.len) (now l)) (λ l. HasRead p head n (now l)) _ c.requires.found read
          (λ l f r. empty_closed (now l) head f.0.0 n f.0.1 (read_head (now l) p head f.0.0 n c.requires.journal c.read.auto.out f.0.1 r) w.if-n-eq0.true)
      | then-n-eq0-via-else-n-eq0+then-head-ne-OPEN w ↦ told_both log (λ l. HasLen (Some c.args.len) (now l)) (λ l. HasRead p head n (now l)) _ c.requires.found read
          (λ l f r. shut_closed (now l) head f.0.0 n f.0.1 (read_head (now l) p head f.0.0 n c.requires.journal c.read.auto.out f.0.1 r) w.if-n-eq0.false w.if-head-ne-OPEN.true)
    ]

pub returns-then-n-lt-HEAD_LEN-clause-damaged : goal.returns-then-n-lt-HEAD_LEN-clause-damaged
returns-then-n-lt-HEAD_LEN-clause-damaged g c =
    let log = g.D.Reads.log c.args.folder.now in
    let p = c.args.journal.now in
    let head = c.read.new.out in
    let n = c.in_ok-n.n in
    let len = c.args.len in
    let said = c.len_in-said.result in
    let read = told_disk log (HasRead p head n) c.in_ok-n.ensures.bytes in
    elim c.then-n-lt-HEAD_LEN.branch [
      | then-n-lt-HEAD_LEN-via-then-n-lt-HEAD_LEN w ↦ told_both log (λ l. HasLen (Some len) (now l)) (λ l. HasRead p head n (now l)) (λ l. IsBadBehindGate (now l) len) c.requires.found read
          (λ l f r. cut_short (now l) head f.0.0 n len said f.1 f.0.1 f.0.2 (read_head (now l) p head f.0.0 n c.requires.journal c.read.auto.out f.0.1 r)
          c.if-n-eq0.false c.if-head-ne-OPEN.false c.len_in-said.ensures.len (inl w.if-n-lt-HEAD_LEN.true))
      | then-n-lt-HEAD_LEN-via-else-n-lt-HEAD_LEN+then-saturating_sub-said w ↦ told_both log (λ l. HasLen (Some len) (now l)) (λ l. HasRead p head n (now l)) (λ l. IsBadBehindGate (now l) len) c.requires.found read
          (λ l f r. cut_short (now l) head f.0.0 n len said f.1 f.0.1 f.0.2 (read_head (now l) p head f.0.0 n c.requires.journal c.read.auto.out f.0.1 r)
          c.if-n-eq0.false c.if-head-ne-OPEN.false c.len_in-said.ensures.len (inr (w.if-n-lt-HEAD_LEN.false, omega (arith, w.saturating_sub.ensures, w.if-saturating_sub-said.true))))
    ]

pub returns-then-n-lt-HEAD_LEN-clause-unheld : goal.returns-then-n-lt-HEAD_LEN-clause-unheld
returns-then-n-lt-HEAD_LEN-clause-unheld g c =
    let log = g.D.Reads.log c.args.folder.now in
    let p = c.args.journal.now in
    let head = c.read.new.out in
    let n = c.in_ok-n.n in
    let len = c.args.len in
    let said = c.len_in-said.result in
    let read = told_disk log (HasRead p head n) c.in_ok-n.ensures.bytes in
    elim c.then-n-lt-HEAD_LEN.branch [
      | then-n-lt-HEAD_LEN-via-then-n-lt-HEAD_LEN w ↦ told_both log (λ l. HasLen (Some len) (now l)) (λ l. HasRead p head n (now l)) (λ l. IsUnheld (now l)) c.requires.found read
          (λ l f r. cut_unheld (now l) f.0.0 len f.0.1 (cut_is (now l) head f.0.0 n len said f.0.2 (read_head (now l) p head f.0.0 n c.requires.journal c.read.auto.out f.0.1 r)
          c.len_in-said.ensures.len (inl w.if-n-lt-HEAD_LEN.true)))
      | then-n-lt-HEAD_LEN-via-else-n-lt-HEAD_LEN+then-saturating_sub-said w ↦ told_both log (λ l. HasLen (Some len) (now l)) (λ l. HasRead p head n (now l)) (λ l. IsUnheld (now l)) c.requires.found read
          (λ l f r. cut_unheld (now l) f.0.0 len f.0.1 (cut_is (now l) head f.0.0 n len said f.0.2 (read_head (now l) p head f.0.0 n c.requires.journal c.read.auto.out f.0.1 r)
          c.len_in-said.ensures.len (inr (w.if-n-lt-HEAD_LEN.false, omega (arith, w.saturating_sub.ensures, w.if-saturating_sub-said.true)))))
    ]

pub returns-clause-found : goal.returns-clause-found
returns-clause-found g c =
    let log = g.D.Reads.log c.args.folder.now in
    let p = c.args.journal.now in
    let head = c.read.new.out in
    let n = c.in_ok-n.n in
    let len = c.args.len in
    let said = c.len_in-said.result in
    let read = told_disk log (HasRead p head n) c.in_ok-n.ensures.bytes in
    told_both log (λ l. HasLen (Some len) (now l)) (λ l. HasRead p head n (now l)) _ c.requires.found read
    (λ l f r. says (now l) head f.0.0 n len said f.0.1 f.0.2 (read_head (now l) p head f.0.0 n c.requires.journal c.read.auto.out f.0.1 r) c.len_in-said.ensures.bytes
    c.if-n-lt-HEAD_LEN.false c.if-head-ne-OPEN.false c.len_in-said.ensures.len (omega (arith, c.saturating_sub.ensures, c.if-saturating_sub-said.false)))
