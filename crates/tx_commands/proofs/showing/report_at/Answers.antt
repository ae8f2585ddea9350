use Rattle.std.proofs.Common.{inl, inr, refl, rules}
use Rattle.tx_commands.proofs.Showings.{told_no, told_starved, told_unread}
use Rattle.tx_commands.proofs.showing.report_at.Goals as goal

pub returns-in-Err-clause-err : goal.returns-in-Err-clause-err
returns-in-Err-clause-err g c =
    told_unread _ _ _ c.args.out.now _ _ c.args.file c.tell.result c.tell.ensures.status (inl c.in-Err.ensures.asked) c.tell.ensures.told

pub returns-in-Ok-No-clause-err : goal.returns-in-Ok-No-clause-err
returns-in-Ok-No-clause-err g c =
    told_no _ _ _ c.args.file.now 1 refl c.in-Ok-No.line c.is_given-told.result (search rules) c.is_given-told.ensures.given
    c.is_given-told.ensures.ungiven

pub returns-in-Err-NoMemory-clause-err : goal.returns-in-Err-NoMemory-clause-err
returns-in-Err-NoMemory-clause-err g c =
    told_starved _ _ _ c.args.out.now _ _ c.args.file c.tell-in-Err-NoMemory.result c.tell-in-Err-NoMemory.ensures.status (search rules)
    c.tell-in-Err-NoMemory.ensures.told

pub returns-in-Err-Read-clause-err : goal.returns-in-Err-Read-clause-err
returns-in-Err-Read-clause-err g c =
    told_unread _ _ _ c.args.out.now _ _ c.args.file c.tell-in-Err-Read.result c.tell-in-Err-Read.ensures.status (inr (search rules))
    c.tell-in-Err-Read.ensures.told
