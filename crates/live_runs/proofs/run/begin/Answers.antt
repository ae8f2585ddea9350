use Rattle.std.proofs.Common.{ap, refl, subst}
use Rattle.report_text.specs.Lines.{opening_text}
use Rattle.live_runs.specs.Showing.{IsUnshown}
use Rattle.live_runs.proofs.run.begin.Goals as goal

pub returns-in-Err-show_opening-clause-err : goal.returns-in-Err-show_opening-clause-err
returns-in-Err-show_opening-clause-err g c =
    record {
      first = c.in-Ok.live;
      start = c.in-Ok.ensures.ok;
      given = c.give_up.result;
      is = refl;
      go = c.give_up.ensures;
      unshown = subst (IsUnshown _ c.args.out.now c.show_opening.new.out)
          (ap opening_text c.opening.ensures.rows) c.in-Err-show_opening.ensures.err;
    }
