use Rattle.line_language.proofs.Feeding.{found}
use Rattle.line_language.proofs.parting.first_feed.Goals as goal

pub returns : goal.returns
returns c = found c.args.bytes.now c.memchr.result c.memchr.ensures
