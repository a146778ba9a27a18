use Rattle.std.proofs.lemmas.Result.{err_from_is_err_and}
use Rattle.masterkey_file.specs.Steps.{fields_data}
use Rattle.masterkey_file.proofs.Members.{IsFault-keys, keys_of-fields}
use Rattle.masterkey_file.proofs.reading.read.Goals as goal

pub returns-in_err-fields-clause-fault : goal.returns-in_err-fields-clause-fault
returns-in_err-fields-clause-fault c =
    let p = err_from_is_err_and c.from_residual.result c.from_residual.ensures.1 in
    rw (p.1, p.2) (IsFault-keys _ c.args.bytes.now c.args.password.now c.in_err-fields.ensures)

pub returns-clause-keys : goal.returns-clause-keys
returns-clause-keys c = rw (keys_of-fields c.args.bytes.now c.args.password.now (fields_data c.in_ok-fields.fields) c.in_ok-fields.ensures) c.open_fields.ensures.keys

pub returns-clause-fault : goal.returns-clause-fault
returns-clause-fault c = rw (keys_of-fields c.args.bytes.now c.args.password.now (fields_data c.in_ok-fields.fields) c.in_ok-fields.ensures) c.open_fields.ensures.fault
