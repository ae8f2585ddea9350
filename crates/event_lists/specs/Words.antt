-- Words that spell names.
use Rattle.std.specs.Prelude.{◌≡◌, length}
use Rattle.txn_names.specs.Reading.{pieces}
use Rattle.txn_names.specs.Text.{IsName}
use Rattle.serial_spec.specs.History.{Name}
use Rattle.event_lists.specs.declared.word.NameWord.{NameWord}

-- what the word spells
abbrev pub named : NameWord → Name
named w = pieces w.bytes.now

-- the word spells a name of so many labels
pub record IsRead (w : NameWord) : Type 0 where
  pub name : IsName (named w)
  pub depth : w.depth ≡ length (named w)
