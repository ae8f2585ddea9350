use Rattle.std.specs.Prelude.{codes}
use Rattle.program_words.proofs.Exports.{misuse_accounts}
use Rattle.worker_commands.proofs.commands.run.Goals as goal

pub returns-in-None-clause-accounts : goal.returns-in-None-clause-accounts
returns-in-None-clause-accounts g c =
    misuse_accounts _ _ c.args.out.now c.args.err.now c.misuse.new.err
    (codes "tx: --workers: a number from 1 to 16 is wanted") c.misuse.result c.misuse.ensures.told c.misuse.ensures.status
