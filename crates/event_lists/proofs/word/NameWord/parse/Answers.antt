use Rattle.std.proofs.Common.{sym, ap, ◌∙◌}
use Rattle.txn_names.specs.Fields.{spelled_pieces}
use Rattle.txn_names.specs.Reading.{name_of}
use Rattle.txn_names.proofs.Exports.{name_of-spelled}
use Rattle.event_lists.specs.Words.{named}
use Rattle.event_lists.proofs.word.NameWord.parse.Goals as goal

pub returns-in-Some-known-clause-read : goal.returns-in-Some-known-clause-read
returns-in-Some-known-clause-read c =
    let known = c.in-Some-known.ensures in
    ap name_of (sym known.spelled ∙ sym (spelled_pieces c.in-Some-known.word.bytes.now))
    ∙ name_of-spelled (named c.in-Some-known.word) known.word.name
