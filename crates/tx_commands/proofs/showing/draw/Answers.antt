use Rattle.std.proofs.Common.{inl, inr, refl}
use Rattle.program_words.specs.declared.fault.Fault.TheVariants.{CannotWrite, NoMemory}
use Rattle.program_words.proofs.Exports.{fault_accounts}
use Rattle.tx_commands.proofs.Showings.{picture_undrawn, said_then, unmade}
use Rattle.tx_commands.proofs.showing.draw.Goals as goal

pub returns-in-Err-clause-failed : goal.returns-in-Err-clause-failed
returns-in-Err-clause-failed g c = λ _. inl c.in-Err.ensures.err.unfit

pub returns-in-Ok-draw_report-clause-accounts : goal.returns-in-Ok-draw_report-clause-accounts
returns-in-Ok-draw_report-clause-accounts g c = inr
    (fault_accounts _ _ c.are_given.new.out c.args.err.now c.are_given.new.err CannotWrite 1
    (said_then _ _ _ _ _ c.are_given.new.out _ _ _ _ _ c.in-Ok.ensures.ok _ (c.if-are_given.ensures.ungiven refl).said) refl)

pub returns-clause-failed : goal.returns-clause-failed
returns-clause-failed g c = λ _.
    inr (inr (unmade _ _ _ _ _ c.report_at.new.out _ _ _ _ _ c.in-Ok.ensures.ok refl c.tell.ensures.told))

pub returns-clause-accounts : goal.returns-clause-accounts
returns-clause-accounts g c = inr
    (fault_accounts _ _ c.report_at.new.out c.args.err.now c.tell.new.err NoMemory c.tell.result
    (said_then _ _ _ _ _ c.report_at.new.out _ _ _ _ _ c.in-Ok.ensures.ok _ c.tell.ensures.told) c.tell.ensures.status)

pub returns-in-Ok-draw_report-clause-failed : goal.returns-in-Ok-draw_report-clause-failed
returns-in-Ok-draw_report-clause-failed g c = λ _. inr (inl
    (picture_undrawn _ _ _ _ _ c.are_given.new.out _ _ c.are_given.new.err _ _ c.in-Ok.ensures.ok c.deref.result.now
    c.deref-in-Ok-draw_report.result.now c.in-Ok-draw_report.picture.items c.deref.ensures.value
    c.deref-in-Ok-draw_report.ensures.value c.in-Ok-draw_report.ensures (c.if-are_given.ensures.ungiven refl)))
