use Rattle.std.proofs.Common.{◌∙◌}
use Rattle.std.proofs.lemmas.Result.{err_from_is_err_and}
use Rattle.vault_config.proofs.Ranges.{config_of-range}
use Rattle.vault_config.proofs.Reading.{config_of-long, config_of-short}
use Rattle.vault_config.proofs.config.read.Goals as goal

pub returns-then-bytes-gt-KEY_FILE_LIMIT-clause-fault : goal.returns-then-bytes-gt-KEY_FILE_LIMIT-clause-fault
returns-then-bytes-gt-KEY_FILE_LIMIT-clause-fault c = config_of-long c.args.keys.now c.args.bytes.now c.if-bytes-gt-KEY_FILE_LIMIT.true

pub returns-in_err-threshold-clause-fault : goal.returns-in_err-threshold-clause-fault
returns-in_err-threshold-clause-fault c =
    let p = err_from_is_err_and c.from_residual.result c.from_residual.ensures.1 in
    let short = config_of-short c.args.keys.now c.args.bytes.now c.if-bytes-gt-KEY_FILE_LIMIT.false in
    rw (p.1, p.2, short) c.in_err-threshold.ensures

pub returns-clause-config : goal.returns-clause-config
returns-clause-config c = config_of-short c.args.keys.now c.args.bytes.now c.if-bytes-gt-KEY_FILE_LIMIT.false ∙ c.in_ok-threshold.ensures

pub returns-clause-range : goal.returns-clause-range
returns-clause-range c =
    config_of-range c.args.keys.now c.args.bytes.now c.in_ok-threshold.threshold
    (config_of-short c.args.keys.now c.args.bytes.now c.if-bytes-gt-KEY_FILE_LIMIT.false ∙ c.in_ok-threshold.ensures)
