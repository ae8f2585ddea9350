use Rattle.program_words.specs.declared.fault.Fault.TheVariants.{CannotWrite}
use Rattle.program_words.proofs.Exports.{fault_accounts, finish_accounts}
use Rattle.session_runs.proofs.listing.print_rows.Goals as goal

pub returns-in-Ok-clause-accounts : goal.returns-in-Ok-clause-accounts
returns-in-Ok-clause-accounts g c =
    finish_accounts _ _ c.finish.new.out c.args.err.now c.finish.new.err c.write_rows.new.out c.finish.result
    c.finish.ensures.passed c.finish.ensures.silent c.finish.ensures.told c.finish.ensures.status

pub returns-in-Err-clause-accounts : goal.returns-in-Err-clause-accounts
returns-in-Err-clause-accounts g c =
    fault_accounts _ _ c.write_rows.new.out c.args.err.now c.tell.new.err CannotWrite c.tell.result c.tell.ensures.told c.tell.ensures.status
