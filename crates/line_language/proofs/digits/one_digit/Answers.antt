use Rattle.std.proofs.Common.{sym}
use Rattle.std.proofs.lemmas.Fmt.{decimal_digit}
use Rattle.line_language.proofs.digits.one_digit.Goals as goal

pub returns : goal.returns
returns c = rw c.digit.ensures (sym (decimal_digit c.args.number c.requires))
