use Rattle.std.proofs.Common.{arith}
use Rattle.std.proofs.lemmas.Nat.Bits.{bit_at-zero}
use Rattle.serial_spec.specs.declared.entry.By.TheVariants.{Line, Victim, Close}
use Rattle.manager_core.proofs.looks.Looks.new.Goals as goal

pub returns : goal.returns
returns c (Line s l) n m has = omega (arith, bit_at-zero s, has.0)
returns c Victim n m has = has
returns c Close n m has = has
