use Rattle.program_words.specs.declared.fault.Fault.TheVariants.{CannotOpen}
use Rattle.program_words.proofs.Exports.{fault_accounts}
use Rattle.session_runs.proofs.listing.list_rows.Goals as goal

pub returns-in-Err-clause-accounts : goal.returns-in-Err-clause-accounts
returns-in-Err-clause-accounts g c =
    fault_accounts _ _ c.args.out.now c.args.err.now c.tell.new.err CannotOpen c.tell.result c.tell.ensures.told c.tell.ensures.status
