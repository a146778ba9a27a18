use Rattle.std.proofs.Common.{ℕ, List, ◌++◌, subst, sym}
use Rattle.outside.specs.Calls.{Extends}
use Rattle.vault_make.proofs.Drawing.{extends_then}
use Rattle.vault_make.proofs.draws.draw_all.Goals as goal

pub returns-clause-drawn : goal.returns-clause-drawn
returns-clause-drawn g c =
    let start = g.E.Entropy.drawn c.args.entropy.now in
    let first = g.E.Entropy.drawn c.draw.new.entropy in
    let second = g.E.Entropy.drawn c.draw-2.new.entropy in
    let third = g.E.Entropy.drawn c.draw-3.new.entropy in
    let end = g.E.Entropy.drawn c.draw-4.new.entropy in
    let enc : List ℕ = c.in_ok-encryption_key.encryption_key in
    let mac : List ℕ = c.in_ok-mac_key.mac_key in
    let salt : List ℕ = c.in_ok-salt.salt in
    let jti : List ℕ = c.in_ok-jti.jti in
    let keys = extends_then start first second enc mac c.in_ok-encryption_key.ensures.drawn c.in_ok-mac_key.ensures.drawn in
    let all = extends_then start third end (enc ++ mac ++ salt) jti (extends_then start second third (enc ++ mac) salt keys c.in_ok-salt.ensures.drawn) c.in_ok-jti.ensures.drawn in
    subst (λ (k : List ℕ). Extends start end (k ++ c.new.result.mac ++ salt ++ jti)) (sym c.new.ensures.enc)
    (subst (λ (k : List ℕ). Extends start end (enc ++ k ++ salt ++ jti)) (sym c.new.ensures.mac) all)
