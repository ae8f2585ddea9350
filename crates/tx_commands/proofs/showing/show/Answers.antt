use Rattle.std.proofs.Common.{inl, inr, refl}
use Rattle.program_words.specs.declared.fault.Fault.TheVariants.{CannotWrite, NoMemory}
use Rattle.program_words.proofs.Exports.{fault_accounts}
use Rattle.tx_commands.proofs.Showings.{lines_accounts, said_then, shown_accounts, unmade}
use Rattle.tx_commands.proofs.showing.show.Goals as goal

pub returns-in-Err-clause-failed : goal.returns-in-Err-clause-failed
returns-in-Err-clause-failed g c = λ _. inl c.in-Err.ensures.err.unfit

pub returns-in-Err-clause-accounts : goal.returns-in-Err-clause-accounts
returns-in-Err-clause-accounts g c =
    shown_accounts _ _ _ _ c.in-Err.status c.in-Err.ensures.err.failed c.args.choice c.args.strict c.in-Err.ensures.err.accounts

pub returns-then-not-are_given-clause-accounts : goal.returns-then-not-are_given-clause-accounts
returns-then-not-are_given-clause-accounts g c = inr
    (fault_accounts _ _ c.are_given.new.out c.args.err.now c.are_given.new.err CannotWrite 1
    (said_then _ _ _ _ _ c.are_given.new.out _ _ _ _ _ c.in-Ok.ensures.ok _ (c.if-not-are_given.ensures.ungiven refl).said) refl)

pub returns-in-Ok-show_report-clause-accounts : goal.returns-in-Ok-show_report-clause-accounts
returns-in-Ok-show_report-clause-accounts g c =
    lines_accounts _ _ _ _ _ _ _ _ _ _ _ c.in-Ok.ensures.ok c.args.choice c.args.strict c.in-Ok-show_report.show.all_done
    c.deref.result.now c.deref-in-Ok-show_report.result.now c.in-Ok-show_report.show.lines.items c.status_of.result
    c.deref.ensures.value c.deref-in-Ok-show_report.ensures.value c.in-Ok-show_report.ensures (c.if-not-are_given.ensures.given refl)
    c.status_of.ensures.status c.status_of.ensures.strict c.status_of.ensures.failed

pub returns-clause-failed : goal.returns-clause-failed
returns-clause-failed g c = λ _.
    inr (inr (inr (unmade _ _ _ _ _ c.report_at.new.out _ _ _ _ _ c.in-Ok.ensures.ok refl c.tell.ensures.told)))

pub returns-clause-accounts : goal.returns-clause-accounts
returns-clause-accounts g c = inr
    (fault_accounts _ _ c.report_at.new.out c.args.err.now c.tell.new.err NoMemory c.tell.result
    (said_then _ _ _ _ _ c.report_at.new.out _ _ _ _ _ c.in-Ok.ensures.ok _ c.tell.ensures.told) c.tell.ensures.status)
