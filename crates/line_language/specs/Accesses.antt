-- The words of a line that asks for an access of a key, from which it is read.
use Rattle.txn_names.specs.Text.{IsKey}
use Rattle.serial_spec.specs.declared.event.Event.{Event}
use Rattle.serial_spec.specs.declared.event.Event.TheVariants.{Access}
use Rattle.event_lists.specs.Words.{IsRead, named}
use Rattle.line_language.specs.declared.command.AccessWords.{AccessWords}

-- what they ask
abbrev pub asked_in : AccessWords → Event
asked_in a = Access (named a.name) a.key.now a.op

-- the words are a name and a key
pub record AreRead (a : AccessWords) : Type 0 where
  pub name : IsRead a.name
  pub key : IsKey a.key.now
