-- The laws of numbers and commands.
use Rattle.std.proofs.Common.{ap, ◌∙◌}
use Rattle.line_language.specs.Numbers.{number_of}
use Rattle.line_language.specs.Commands.{event_of}
use Rattle.line_language.specs.Laws.{NumbersReadBack, LinesReadBack}
use Rattle.line_language.proofs.Numerals.{number_reads, number_again}
use Rattle.line_language.proofs.Reading.{event_reads}
use Rattle.line_language.proofs.Spelled.{event_again}

pub numbers_read_back : NumbersReadBack
numbers_read_back bs z = (number_reads bs z, λ h. ap number_of h.1 ∙ number_again z h.0)

pub lines_read_back : LinesReadBack
lines_read_back bs e = (event_reads bs e, λ h. ap event_of h.1 ∙ event_again e h.0)
