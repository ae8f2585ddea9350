-- What a command may ask.
use Rattle.txn_names.specs.Groups.{IsGroup}
use Rattle.txn_names.specs.Text.{IsName, IsKey}
use Rattle.serial_spec.specs.declared.event.Event.{Event}
use Rattle.serial_spec.specs.declared.event.Event.TheVariants.{Begin, Access, Sum, Commit, Abort, After}
use Rattle.line_language.specs.Verbs.{IsOp}

-- names, keys, groups and numbers are such
abbrev pub IsEvent : Event → Type 0
IsEvent (Begin n) = IsName n
IsEvent (Access n k o) = IsName n × IsKey k × IsOp o
IsEvent (Sum n g) = IsName n × IsGroup g
IsEvent (Commit n) = IsName n
IsEvent (Abort n) = IsName n
IsEvent (After n t) = IsName n
