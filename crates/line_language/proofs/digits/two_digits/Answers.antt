use Rattle.std.proofs.Common.{sym}
use Rattle.line_language.proofs.FewDigits.{two}
use Rattle.line_language.proofs.digits.two_digits.Goals as goal

pub returns : goal.returns
returns c = rw (c.digit-tens.ensures, c.digit-ones.ensures) (sym (two c.args.number c.requires.low c.requires.high))
