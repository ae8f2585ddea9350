use Rattle.txn_bytes.proofs.Exports.{none_read}
use Rattle.report_judge.proofs.reading.check_keeping.Goals as goal

pub returns-in_default-clause-err : goal.returns-in_default-clause-err
returns-in_default-clause-err g c = none_read _ _ c.args.report.now
