-- What the entries of a history ask of the store: which changes, in which order, and what it
-- answered.
use Rattle.std.specs.Prelude.{◌≡◌, ◌⊎◌, Bool, true, false, ◌&&◌, IsTrue, IsFalse, List, [], ◌∷◌}
use Rattle.txn_names.specs.declared.change.Change.{Change}
use Rattle.serial_spec.specs.declared.entry.Answer.{Answer}
use Rattle.serial_spec.specs.declared.entry.Answer.TheVariants.{Done, Refused}
use Rattle.serial_spec.specs.declared.entry.Refusal.TheVariants.{Store}
use Rattle.serial_spec.specs.declared.event.Event.{Event}
use Rattle.serial_spec.specs.declared.event.Event.TheVariants.{Begin, Access, Sum, Commit, Abort, After}
use Rattle.serial_spec.specs.History.{Name, History}
use Rattle.serial_spec.specs.Rows.{Rows, value_in}
use Rattle.serial_spec.specs.Changes.{IsChanges}
use Rattle.serial_spec.specs.Allowed.{asks_store}
use Rattle.durable_top.specs.declared.store.TopStore.{Ghosts}
use Rattle.manager_core.specs.Asked.{IsAsked}

abbrev pub is_done : Answer → Bool
is_done (Done reply) = true
is_done a = false

-- whether the store decides the answer
abbrev pub is_of_store : Answer → Bool
is_of_store (Done reply) = true
is_of_store (Refused Store) = true
is_of_store a = false

-- The store was asked once, to make the changes that are due where t commits behind this history.
-- Whether it made them is said
pub record HandsOver {S : Type 0} (g : Ghosts S) (rows : Rows) (h : History) (t : Name)
    (made : Bool) (old new : S) : Type 0 where
  pub changes : List Change
  pub due : IsChanges (value_in rows) h t changes
  pub asked : IsAsked g old new changes made

-- a commit asks it where there are changes and no cause refuses the commit, and any other does not
pub record CommitAsks {S : Type 0} (g : Ghosts S) (rows : Rows) (h : History) (t : Name)
    (a : Answer) (old new : S) : Type 0 where
  pub asked : IsTrue (asks_store h (Commit t) && is_of_store a)
      → HandsOver g rows h t (is_done a) old new
  pub unasked : IsFalse (asks_store h (Commit t) && is_of_store a) → new ≡ old

-- what the entry behind this history asks, and of every other event that is nothing
abbrev pub EntryAsks : {S : Type 0} → Ghosts S → Rows → History → Event → Answer → S → S → Type 0
EntryAsks g rows h (Commit t) a old new = CommitAsks g rows h t a old new
EntryAsks g rows h (Begin t) a old new = new ≡ old
EntryAsks g rows h (Access t k op) a old new = new ≡ old
EntryAsks g rows h (Sum t group) a old new = new ≡ old
EntryAsks g rows h (Abort t) a old new = new ≡ old
EntryAsks g rows h (After t when) a old new = new ≡ old

-- From the moment with the history h0 and the store `first` to that with h and `now` the store was
-- asked what the entries in between ask, in their order, and nothing else: nothing has happened, or
-- it was so up to the last entry, and then that one asked
abbrev pub Trail : {S : Type 0} → Ghosts S → Rows → History → S → History → S → Type 0
Trail g rows h0 first [] now = ([] ≡ h0) × (now ≡ first)
Trail {S} g rows h0 first (e ∷ h) now =
    ((e ∷ h ≡ h0) × (now ≡ first))
    ⊎ ((before : S) × Trail g rows h0 first h before
    × EntryAsks g rows h e.event e.answer before now)
