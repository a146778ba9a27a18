use Rattle.std.proofs.Common.{ℕ, ◌≤◌, Vec, Global, ap, sym, subst, ◌∙◌, lit≤, refl}
use Rattle.std.proofs.lemmas.Str.{IsUtf8-string_bytes}
use Rattle.std.specs.String.{string_bytes}
use Rattle.base64.specs.GeneralPurpose.{decode_of, encode_of}
use Rattle.base64.specs.Engines.{standard}
use Rattle.serde_json.specs.Data.{Data, depth}
use Rattle.serde_json.specs.View.{view}
use Rattle.serde_json.specs.Written.{compact_text, has_float}
use Rattle.masterkey_file.proofs.ReadsBack.{IsWrapped-from, keys_of-texts, key_file-texts, object_of-texts}
use Rattle.masterkey_file.proofs.writing.write.Goals as goal

pub returns : goal.returns
returns c =
    let keys = c.args.keys.now in
    let kek = c.in_ok-kek.kek in
    let m = c.in_ok-mac_key.ensures in
    let e = c.in_ok-encryption_key.ensures in
    let mac = IsWrapped-from kek keys.mac c.deref.result.now c.mac_key.result.now (string_bytes c.in_ok-mac_key.mac_key)
    c.deref.ensures c.mac_key.ensures m.text m.reads_back m.opens m.long in
    let enc = IsWrapped-from kek keys.enc c.deref-2.result.now c.encryption_key.result.now (string_bytes c.in_ok-encryption_key.encryption_key)
    c.deref-2.ensures c.encryption_key.ensures e.text e.reads_back e.opens e.long in
    let version = c.deref-4.ensures ∙ c.in_ok-version_mac.ensures.text ∙ ap (encode_of standard) c.version_mac.ensures.mac in
    let no_float = ap has_float c.in_ok-value.ensures in
    let shallow = subst (λ (d : Data). depth d ≤ 127) (sym c.in_ok-value.ensures) (lit≤ tt) in
    let items = ap (λ (v : Vec ℕ Global). v.items) c.into_bytes.ensures.value in
    let text = items ∙ c.in_ok-text.ensures.text no_float ∙ ap compact_text c.in_ok-value.ensures in
    record {
      bytes = text ∙ key_file-texts keys c.args.password.now c.args.salt.now kek c.deref.result.now c.deref-2.result.now c.deref-3.result.now c.deref-4.result.now
          c.in_ok-kek.ensures mac enc (c.deref-3.ensures ∙ c.in_ok-salt.ensures.text) version;
      reads_back = keys_of-texts keys c.args.password.now c.args.salt.now kek c.into_bytes.result.items c.deref.result.now c.deref-2.result.now c.deref-3.result.now
          c.deref-4.result.now c.in_ok-kek.ensures mac enc (c.deref-3.ensures ∙ c.in_ok-salt.ensures.text)
          (ap (decode_of standard) c.deref-3.ensures ∙ c.in_ok-salt.ensures.round_trip refl) c.told-salt version c.version_mac.ensures.long text
          (object_of-texts c.into_bytes.result.items (string_bytes c.in_ok-text.text) (view c.in_ok-value.value) _ _ _ _ items
          (IsUtf8-string_bytes c.in_ok-text.text) (c.in_ok-text.ensures.reads_back shallow) c.in_ok-value.ensures);
    }
