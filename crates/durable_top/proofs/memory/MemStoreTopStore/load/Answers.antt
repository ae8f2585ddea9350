use Rattle.durable_top.proofs.Numbering.{values_in_rows, values_left}
use Rattle.durable_top.proofs.memory.MemStoreTopStore.load.Goals as goal

pub returns-then-self-clause-values : goal.returns-then-self-clause-values
returns-then-self-clause-values c = values_in_rows c.args.self.now.rows

pub returns-then-self-clause-leaves_values : goal.returns-then-self-clause-leaves_values
returns-then-self-clause-leaves_values c = λ left is. values_left c.args.self.now.rows left is

pub returns-clause-values : goal.returns-clause-values
returns-clause-values c = values_in_rows c.args.self.now.rows

pub returns-clause-leaves_values : goal.returns-clause-leaves_values
returns-clause-leaves_values c = λ left is. values_left c.args.self.now.rows left is
