use Rattle.std.proofs.Common.{refl}
use Rattle.std.proofs.lemmas.Result.{IfOk-weaker}
use Rattle.std.proofs.lemmas.Str.{IsUtf8-string_bytes}
use Rattle.std.specs.String.{string_bytes}
use Rattle.serde_json.specs.View.{view}
use Rattle.vault_config.proofs.ReadsBack.{decoded_object-read}
use Rattle.vault_config.proofs.written.piece.Goals as goal

pub returns-clause-reads_back : goal.returns-clause-reads_back
returns-clause-reads_back c =
    let text = c.in_ok-text.text in
    IfOk-weaker c.encode.result _ _ (λ s is. decoded_object-read (string_bytes s) (string_bytes text) c.as_bytes.result.now (view c.args.value.now) is
    c.as_bytes.ensures.value (IsUtf8-string_bytes text) (c.in_ok-text.ensures.reads_back c.requires.depth)) (c.encode.ensures.round_trip refl)
