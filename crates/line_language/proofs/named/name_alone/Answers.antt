use Rattle.event_lists.specs.Words.{named}
use Rattle.line_language.proofs.Accesses.{read_alone}
use Rattle.line_language.proofs.named.name_alone.Goals as goal

pub returns-in-Ok-clause-read : goal.returns-in-Ok-clause-read
returns-in-Ok-clause-read c = read_alone c.args.words.now (named c.in-Ok.name) c.in-Ok.ensures.read
