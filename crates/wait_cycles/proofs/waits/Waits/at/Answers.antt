use Rattle.std.proofs.Common.{sym}
use Rattle.std.specs.Option.{option_copied}
use Rattle.wait_cycles.proofs.Listed.{met}
use Rattle.wait_cycles.proofs.waits.Waits.at.Goals as goal

pub returns-clause-stands : goal.returns-clause-stands
returns-clause-stands c = rw (sym c.self.view_is) (met c.self.inside.records.waits c.at.ensures.once.apart c.args.place (option_copied c.at.result) c.at.ensures.wait)
