use Rattle.std.proofs.Common.{ℕ, ◌≤◌, length, Vec, Global, ap, ◌∙◌, arith}
use Rattle.std.specs.String.{string_bytes}
use Rattle.uuid.proofs.TextLemmas.{by_index_length}
use Rattle.uuid.specs.Text.{hyphenated_text, lower}
use Rattle.vault_config.specs.Token.{decoded}
use Rattle.vault_config.specs.Config.{identifier_of}
use Rattle.vault_config.proofs.ReadsBack.{IsJoined, config_file-joined, config_of-joined}
use Rattle.vault_config.proofs.written.write.Goals as goal

pub returns : goal.returns
returns c =
    let id = c.hyphenated-id.ensures ∙ c.into_uuid.ensures ∙ c.from_random_bytes.ensures.value in
    let long : length (identifier_of c.args.jti.now) ≤ 36 = omega (arith, by_index_length {X = ℕ}) in
    let file : IsJoined c.args.keys.now c.args.threshold (identifier_of c.args.jti.now) c.into_bytes.result.items (string_bytes c.in_ok-text.text) c.as_bytes.result.now c.encode_lower-identifier.result.now c.deref.result.now = record {
      joined = ap (λ (v : Vec ℕ Global). v.items) c.into_bytes.ensures.value ∙ c.in_ok-token.ensures;
      is = c.in_ok-text.ensures.text;
      same = c.as_bytes.ensures.value;
      encoded = c.deref.ensures ∙ c.in_ok-signature.ensures.text;
      named = c.encode_lower-identifier.ensures.text ∙ ap (hyphenated_text lower) id;
    } in
    record {
      bytes = config_file-joined file;
      reads_back = config_of-joined file c.requires.0 c.requires.1 long c.in_ok-text.ensures.header c.in_ok-text.ensures.claims (ap decoded c.deref.ensures ∙ c.in_ok-signature.ensures.reads_back) c.in_ok-signature.ensures.long;
    }
