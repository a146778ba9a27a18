use Rattle.std.proofs.Common.{◌≡◌, Ok, Err, Result, Option, None, MatchResult, refl, sym, ap, subst, ◌∙◌}
use Rattle.std.proofs.lemmas.Result.{err_from_is_err_and}
use Rattle.std.specs.Option.{ok_or}
use Rattle.serde_json.specs.Data.{Data}
use Rattle.json_members.specs.declared.ObjectErr.{ObjectErr}
use Rattle.json_members.specs.declared.ObjectErr.TheVariants as errors
use Rattle.json_members.specs.Members.{object_of}
use Rattle.json_members.specs.Steps.{result_and_then}
use Rattle.masterkey_file.specs.KeyFile.{Fault, Fields, fields_in, fields_of, not_json}
use Rattle.masterkey_file.specs.Faults.{IsFault, object_error}
use Rattle.masterkey_file.specs.Steps.{fields_data}
use Rattle.masterkey_file.proofs.Members.{IsFault-then, fields_of-long, fields_of-short}
use Rattle.masterkey_file.proofs.fields.read_fields.Goals as goal

no_object : (error : ObjectErr) (found : Option Data) → (error ≡ errors.NotObject → found ≡ None) → IsFault (object_error error) (ok_or found not_json)
no_object errors.NotObject found none = rw (none refl) refl
no_object errors.Memory found none = tt

pub returns-then-is_too_long : goal.returns-then-is_too_long
returns-then-is_too_long c = fields_of-long c.args.bytes.now (sym c.is_too_long.ensures ∙ c.if-is_too_long.true)

pub returns-in_err-object : goal.returns-in_err-object
returns-in_err-object c =
    let p = err_from_is_err_and c.from_residual.result c.from_residual.ensures.1 in
    let short = fields_of-short c.args.bytes.now (sym c.is_too_long.ensures ∙ c.if-is_too_long.false) in
    let refused = no_object c.in_err-object.field-0.0 (object_of c.args.bytes.now) (λ is. c.in_err-object.ensures.none (ap Err is)) in
    rw (p.1, p.2, short) (IsFault-then _ (ok_or (object_of c.args.bytes.now) not_json) fields_in refused)

pub returns : goal.returns
returns c =
    let short = fields_of-short c.args.bytes.now (sym c.is_too_long.ensures ∙ c.if-is_too_long.false) in
    let same : fields_of c.args.bytes.now ≡ fields_in c.in_ok-object.object = short ∙ ap (λ found. result_and_then fields_in (ok_or found not_json)) c.in_ok-object.ensures.object in
    subst (λ (found : Result Fields Fault). MatchResult c.fields_in.result (λ fields. found ≡ Ok (fields_data fields)) (λ e. IsFault e found)) (sym same) c.fields_in.ensures
