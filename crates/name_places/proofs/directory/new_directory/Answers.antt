use Rattle.std.proofs.Common.{◌≡◌, ℕ, List, length, sym, ap, ◌∙◌, subst}
use Rattle.std.specs.Str.{IsUtf8}
use Rattle.uuid.specs.Text.{hyphenated_text, lower}
use Rattle.name_places.specs.New.{identifier_of}
use Rattle.name_places.proofs.Identifiers.{length-identifier_of, valid_text}
use Rattle.name_places.proofs.directory.new_directory.Goals as goal

pub copy_from_slice-requires : goal.copy_from_slice-requires
copy_from_slice-requires c =
    let is : c.as_bytes.result.now ≡ identifier_of c.args.drawn.now =
    c.as_bytes.ensures.value ∙ c.encode_lower-text.ensures.text ∙ ap (hyphenated_text lower) (c.hyphenated-id.ensures ∙ c.into_uuid.ensures ∙ c.from_random_bytes.ensures.value) in
    sym (ap (λ (t : List ℕ). length t) is ∙ length-identifier_of c.args.drawn.now)

pub returns : goal.returns
returns c =
    let is : c.as_bytes.result.now ≡ identifier_of c.args.drawn.now =
    c.as_bytes.ensures.value ∙ c.encode_lower-text.ensures.text ∙ ap (hyphenated_text lower) (c.hyphenated-id.ensures ∙ c.into_uuid.ensures ∙ c.from_random_bytes.ensures.value) in
    record {
      identifier = c.copy_from_slice.ensures.after ∙ is;
      valid = valid_text c.copy_from_slice.new.self (ap (λ (t : List ℕ). length t) (c.copy_from_slice.ensures.after ∙ is) ∙ length-identifier_of c.args.drawn.now)
          (subst IsUtf8 (sym (c.copy_from_slice.ensures.after ∙ c.as_bytes.ensures.value)) c.encode_lower-text.utf8);
      folder = c.directory_folder-folder.ensures.folder;
      path = c.directory_folder-folder.ensures.path;
    }
