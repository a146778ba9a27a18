use Rattle.std.proofs.Common.{◌≡◌, ℕ, Ok, Some, Result, MatchResult, refl, sym, ap, subst, ◌∙◌}
use Rattle.vault_config.specs.Token.{pieces_of, token_of}
use Rattle.vault_config.specs.Config.{Fault}
use Rattle.vault_config.specs.Faults.{IsFault}
use Rattle.vault_config.proofs.Parts.{trimmed-std}
use Rattle.vault_config.proofs.Reading.{checked_none, checked_some, token_of-pieces, token_of-no_header, token_of-no_payload, token_of-no_signature, token_of-whole}
use Rattle.vault_config.proofs.config.read_token.Goals as goal

pub returns-in_default : goal.returns-in_default
returns-in_default c =
    let text = c.trim_ascii_end.result.now in
    checked_none c.args.keys.now (token_of c.args.bytes.now) (token_of-pieces c.args.bytes.now text (pieces_of text) (trimmed-std _ _ c.trim_ascii_end.ensures.value) refl ∙ c.in_default.ensures)

pub returns-in_default-2 : goal.returns-in_default-2
returns-in_default-2 c =
    let none = sym c.in_default-2.is ∙ c.in_ok-header.ensures in
    checked_none c.args.keys.now (token_of c.args.bytes.now)
    (token_of-no_header c.args.bytes.now c.trim_ascii_end.result.now _ _ _ (trimmed-std _ _ c.trim_ascii_end.ensures.value) c.in-Some.ensures.0 none)

pub returns-in_default-3 : goal.returns-in_default-3
returns-in_default-3 c =
    let header = sym c.in-Some-2.is ∙ c.in_ok-header.ensures in
    let none = sym c.in_default-3.is ∙ c.in_ok-claims.ensures in
    checked_none c.args.keys.now (token_of c.args.bytes.now)
    (token_of-no_payload c.args.bytes.now c.trim_ascii_end.result.now _ _ _ _ (trimmed-std _ _ c.trim_ascii_end.ensures.value) c.in-Some.ensures.0 header none)

pub returns-in_default-4 : goal.returns-in_default-4
returns-in_default-4 c =
    let header = sym c.in-Some-2.is ∙ c.in_ok-header.ensures in
    let claims = sym c.in-Some-3.is ∙ c.in_ok-claims.ensures in
    let none = rw c.in_default-4.is at c.in_ok-signature.ensures in
    checked_none c.args.keys.now (token_of c.args.bytes.now)
    (token_of-no_signature c.args.bytes.now c.trim_ascii_end.result.now _ _ _ _ _ (trimmed-std _ _ c.trim_ascii_end.ensures.value) c.in-Some.ensures.0 header claims none)

pub returns : goal.returns
returns c =
    let header = sym c.in-Some-2.is ∙ c.in_ok-header.ensures in
    let claims = sym c.in-Some-3.is ∙ c.in_ok-claims.ensures in
    let signature = rw c.in-Some-4.is at c.in_ok-signature.ensures ∙ ap Some (sym c.deref.ensures.value) in
    let whole = token_of-whole c.args.bytes.now c.trim_ascii_end.result.now c.in-Some.pieces.text.now _ _ _ _ _ _ (trimmed-std _ _ c.trim_ascii_end.ensures.value) c.in-Some.ensures.0 c.in-Some.ensures.1
    header claims signature in
    subst (λ (checked : Result ℕ Fault). MatchResult c.check_token.result (λ n. checked ≡ Ok n) (λ e. IsFault e checked))
    (sym (checked_some c.args.keys.now (token_of c.args.bytes.now) _ whole)) c.check_token.ensures
