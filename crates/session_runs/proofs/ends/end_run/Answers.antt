use Rattle.program_words.proofs.Exports.{if_ok}
use Rattle.session_runs.proofs.ends.end_run.Goals as goal

pub returns-in-Ok-clause-unflushed : goal.returns-in-Ok-clause-unflushed
returns-in-Ok-clause-unflushed g c =
    if_ok c.args.ran (λ undone. record {
      fault = record {};
      refused = record { before = c.args.out.now; asked = c.finish.ensures.failed undone };
      said = c.finish.ensures.told undone;
    })
