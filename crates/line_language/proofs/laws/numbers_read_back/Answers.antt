use Rattle.line_language.proofs.ReadBack.{numbers_read_back}
use Rattle.line_language.proofs.laws.numbers_read_back.Goals as goal

pub returns : goal.returns
returns c = numbers_read_back
