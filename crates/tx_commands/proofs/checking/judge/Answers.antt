use Rattle.std.proofs.Common.{inr, refl}
use Rattle.program_words.specs.declared.fault.Fault.TheVariants.{CannotRead, CannotWrite, NoMemory}
use Rattle.program_words.proofs.Exports.{fault_accounts}
use Rattle.tx_commands.proofs.checking.judge.Goals as goal

pub returns-in-Err-clause-accounts : goal.returns-in-Err-clause-accounts
returns-in-Err-clause-accounts g c = inr
    (fault_accounts _ _ c.args.out.now c.args.err.now c.tell.new.err
    (CannotRead c.args.file) c.tell.result c.tell.ensures.told c.tell.ensures.status)

pub returns-then-not-is_given-clause-accounts : goal.returns-then-not-is_given-clause-accounts
returns-then-not-is_given-clause-accounts g c = inr
    (fault_accounts _ _ c.is_given.new.out c.args.err.now c.is_given.new.err
    CannotWrite 1 (c.if-not-is_given.ensures.ungiven refl).said refl)

pub returns-in-Err-NoMemory-clause-accounts : goal.returns-in-Err-NoMemory-clause-accounts
returns-in-Err-NoMemory-clause-accounts g c = inr
    (fault_accounts _ _ c.args.out.now c.args.err.now c.tell-in-Err-NoMemory.new.err
    NoMemory c.tell-in-Err-NoMemory.result c.tell-in-Err-NoMemory.ensures.told c.tell-in-Err-NoMemory.ensures.status)

pub returns-in-Err-Read-clause-accounts : goal.returns-in-Err-Read-clause-accounts
returns-in-Err-Read-clause-accounts g c = inr
    (fault_accounts _ _ c.args.out.now c.args.err.now c.tell-in-Err-Read.new.err
    (CannotRead c.args.file) c.tell-in-Err-Read.result c.tell-in-Err-Read.ensures.told c.tell-in-Err-Read.ensures.status)
