use Rattle.std.proofs.Common.{◌≡◌, ℕ, ◌+◌, ◌++◌, take, drop, length, ap, ◌∙◌, arith}
use Rattle.outside.specs.Images.{now}
use Rattle.deeds.specs.Plain.{plains}
use Rattle.outside.proofs.Told.{told_both}
use Rattle.deeds.proofs.Doing.{told_disk}
use Rattle.chunk_journal.specs.Journal.{IsUnheld}
use Rattle.chunk_journal.specs.Opening.{HasFolder, Says, Follows, IsBadBehindGate}
use Rattle.chunk_journal.proofs.Damage.{HasReadBehind, filled, follows, unread, unread_unheld, fault_within}
use Rattle.chunk_journal.proofs.reading.deeds_behind.Goals as goal

pub returns-in-Ok-clause-follows : goal.returns-in-Ok-clause-follows
returns-in-Ok-clause-follows g c =
    let log = g.D.Reads.log c.args.folder.now in
    let p = c.args.journal.now in
    let out = c.read.new.out in
    let rest = drop (length out) c.in_ok-bytes.bytes.items in
    let text = c.deref.result.now in
    let room = length c.deref_mut.result.now in
    let n = c.in_ok-n.n in
    let len = c.args.len in
    let found = c.in-Ok.ensures.found in
    let vec : c.in_ok-bytes.bytes.len ≡ len = c.in_ok-bytes.ensures.len in
    let long : length out ≡ len = c.read.auto.out ∙ c.deref_mut.ensures.len ∙ vec in
    let full : n ≡ len = omega (arith, c.len.ensures, c.if-n-len.false, c.in_ok-n.ensures.count, c.deref_mut.ensures.len, vec) in
    told_both log (λ l. Says len (now l) × (HasFolder (now l) → ⊥)) (λ l. HasReadBehind p out room n (now l)) (λ l. Follows (plains c.in-Ok.deeds.items) (now l)) c.requires.says
    (told_disk log (HasReadBehind p out room n) c.in_ok-n.ensures.bytes)
    (λ l s r. follows (now l) len text (plains c.in-Ok.deeds.items) s.0 found.0 found.1 (filled (now l) p out rest text room n len s.0 c.requires.journal r (c.deref.ensures.value ∙ ap (λ (k : ℕ). take k (out ++ rest)) vec) long full) (c.deref.ensures.len ∙ vec))

pub overflow_add-result-in-Err-Bad : goal.overflow_add-result-in-Err-Bad
overflow_add-result-in-Err-Bad g c =
    omega (arith, fault_within c.deref.result.now c.in-Err-Bad.at (rw c.in-Err-Bad.field-0-is at c.in-Err-Bad.ensures.bad), c.deref.ensures.len, c.in_ok-bytes.ensures.len, c.requires.short)

pub returns-in-Err-Bad-clause-damaged : goal.returns-in-Err-Bad-clause-damaged
returns-in-Err-Bad-clause-damaged g c =
    let log = g.D.Reads.log c.args.folder.now in
    let p = c.args.journal.now in
    let out = c.read.new.out in
    let rest = drop (length out) c.in_ok-bytes.bytes.items in
    let text = c.deref.result.now in
    let room = length c.deref_mut.result.now in
    let n = c.in_ok-n.n in
    let len = c.args.len in
    let bad = rw c.in-Err-Bad.field-0-is at c.in-Err-Bad.ensures.bad in
    let vec : c.in_ok-bytes.bytes.len ≡ len = c.in_ok-bytes.ensures.len in
    let long : length out ≡ len = c.read.auto.out ∙ c.deref_mut.ensures.len ∙ vec in
    let full : n ≡ len = omega (arith, c.len.ensures, c.if-n-len.false, c.in_ok-n.ensures.count, c.deref_mut.ensures.len, vec) in
    told_both log (λ l. Says len (now l) × (HasFolder (now l) → ⊥)) (λ l. HasReadBehind p out room n (now l)) (λ l. IsBadBehindGate (now l) (9 + c.in-Err-Bad.at)) c.requires.says
    (told_disk log (HasReadBehind p out room n) c.in_ok-n.ensures.bytes)
    (λ l s r. unread (now l) len c.in-Err-Bad.at text s.0 s.1 (filled (now l) p out rest text room n len s.0 c.requires.journal r (c.deref.ensures.value ∙ ap (λ (k : ℕ). take k (out ++ rest)) vec) long full) bad)

pub returns-in-Err-Bad-clause-unheld : goal.returns-in-Err-Bad-clause-unheld
returns-in-Err-Bad-clause-unheld g c =
    let log = g.D.Reads.log c.args.folder.now in
    let p = c.args.journal.now in
    let out = c.read.new.out in
    let rest = drop (length out) c.in_ok-bytes.bytes.items in
    let text = c.deref.result.now in
    let room = length c.deref_mut.result.now in
    let n = c.in_ok-n.n in
    let len = c.args.len in
    let bad = rw c.in-Err-Bad.field-0-is at c.in-Err-Bad.ensures.bad in
    let vec : c.in_ok-bytes.bytes.len ≡ len = c.in_ok-bytes.ensures.len in
    let long : length out ≡ len = c.read.auto.out ∙ c.deref_mut.ensures.len ∙ vec in
    let full : n ≡ len = omega (arith, c.len.ensures, c.if-n-len.false, c.in_ok-n.ensures.count, c.deref_mut.ensures.len, vec) in
    told_both log (λ l. Says len (now l) × (HasFolder (now l) → ⊥)) (λ l. HasReadBehind p out room n (now l)) (λ l. IsUnheld (now l)) c.requires.says
    (told_disk log (HasReadBehind p out room n) c.in_ok-n.ensures.bytes)
    (λ l s r. unread_unheld (now l) len c.in-Err-Bad.at text s.0 (filled (now l) p out rest text room n len s.0 c.requires.journal r (c.deref.ensures.value ∙ ap (λ (k : ℕ). take k (out ++ rest)) vec) long full) bad)
